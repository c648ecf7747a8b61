-- A marking as bytes: reading what was written gives the marking, and writing what was read gives the bytes. Assumes nothing.
use Rattle.std.specs.Prelude.{ℕ, ◌-◌, ◌^◌, ◌<◌, ◌≡◌, List, [], ◌++◌, length, take, drop}
use Rattle.std.proofs.Common.{sym, ap, ap₂, ◌∙◌, append-nil, arith, length-drop, take-add, take_all, drop-drop}
use Rattle.moves.specs.declared.Marking.{Marking}
use Rattle.numbers.specs.Numbers.{number, bytes, Bytes}
use Rattle.numbers.specs.Laws.{number_bytes, bytes_number, drop_bytes}
use Rattle.bodies.specs.Bodies.{marking_body, marking_in}

pub marking_read : (m : Marking) → m.done < 2 ^ 64 → m.due < 2 ^ 64 → m.included < 2 ^ 64 → marking_in (marking_body m) ≡ m
unfolding bytes
marking_read m a b c =
    let x : number 8 (marking_body m) ≡ m.done = number_bytes 8 m.done (bytes 8 m.due ++ bytes 8 m.included) a in
    let y : number 8 (drop 8 (marking_body m)) ≡ m.due = number_bytes 8 m.due (bytes 8 m.included) b in
    let z : number 8 (drop 16 (marking_body m)) ≡ m.included =
    ap (number 8) (sym (append-nil (bytes 8 m.included))) ∙ number_bytes 8 m.included [] c in
    λ i. record { done = x i; due = y i; included = z i }

pub marking_written : (body : List ℕ) → Bytes body → length body ≡ 24 → marking_body (marking_in body) ≡ body
marking_written body b e =
    let n : length (drop 8 body) ≡ length body - 8 = length-drop 8 body in
    let m : length (drop 16 body) ≡ length body - 16 = length-drop 16 body in
    ap₂ (λ (p q : List ℕ). p ++ q) (bytes_number 8 body b (omega arith))
    (ap₂ (λ (p q : List ℕ). p ++ q) (bytes_number 8 (drop 8 body) (drop_bytes 8 body b) (omega arith))
    (bytes_number 8 (drop 16 body) (drop_bytes 16 body b) (omega arith)))
    ∙ parts body
    ∙ take_all 24 body (omega arith)
  where
    parts : (l : List ℕ) → take 8 l ++ (take 8 (drop 8 l) ++ take 8 (drop 16 l)) ≡ take 24 l
    parts l =
        sym (take-add 8 16 l
        ∙ ap (λ (q : List ℕ). take 8 l ++ q)
        (take-add 8 8 (drop 8 l) ∙ ap (λ (q : List ℕ). take 8 (drop 8 l) ++ take 8 q) (drop-drop 8 8 l)))
