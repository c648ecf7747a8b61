-- The laws of a record's bytes: reading undoes writing and writing undoes reading, and equal records have equal bytes. Assumes nothing.
use Rattle.std.specs.Prelude.{ℕ, zero, suc, ◌+◌, ◌-◌, ◌*◌, ◌%◌, ◌^◌, ◌≤◌, ◌<◌, ◌≡◌, refl, List, [], ◌∷◌, ◌++◌, Bool, true, false, ◌&&◌}
use Rattle.std.specs.Prelude.{cond, length, get_or, take, drop, eqb, leb}
use Rattle.std.proofs.Common.{sym, ap, ap₂, ◌∙◌, subst, append_assoc, arith, lt_of_lt_of_le, length-drop, take-append-drop, take-suc}
use Rattle.std.proofs.Common.{add-one, length-append, length-take-le, drop-drop, pow_mono, eq-eqb, le-leb, eqb-true, leb-true}
use Rattle.std.proofs.lemmas.List.Edits.{sets-eq}
use Rattle.sets.specs.Truth.{and_left, and_right}
use Rattle.moves.specs.First.{Verdict, first}
use Rattle.moves.specs.Move.{within1to}
use Rattle.numbers.specs.Numbers.{number, bytes, Bytes, Spliced}
use Rattle.numbers.specs.Laws.{drop_bytes, length_bytes, number_bytes, bytes_number, spliced_then, spliced_length}
use Rattle.records.specs.declared.Record.{Record}
use Rattle.records.specs.Records.{sets_of, well_formed}
use Rattle.records.specs.WellFormed.{Bounded, well_formed_lem}
use Rattle.spelling.specs.Bytes.{flag, sets_spelt, record_bytes, record_at, readable, the_reading, to_bytes_lines, room_of, Writing}
use Rattle.records.specs.Answers.{recorded_of}
use Rattle.records.specs.Answered.{counts_most}
use Rattle.std.specs.Prelude.{Ok}

-- ---- writing, set by set

pub spelt_none : (at : ℕ) (room : List ℕ) → Spliced (sets_spelt []) at room room at
unfolding sets_spelt
spelt_none at room = record { next = omega arith; stored = refl }

pub spelt_then : (x : ℕ) (xs : List ℕ) (at : ℕ) (old mid new : List ℕ) (r q : ℕ) → Spliced (bytes 8 x) at old mid r
    → Spliced (sets_spelt xs) r mid new q → Spliced (sets_spelt (x ∷ xs)) at old new q
unfolding sets_spelt
spelt_then x xs at old mid new r q a b = spliced_then (bytes 8 x) (sets_spelt xs) at old mid new r q a b

pub sets_spelt_append : (xs ys : List ℕ) → sets_spelt (xs ++ ys) ≡ sets_spelt xs ++ sets_spelt ys
unfolding sets_spelt
sets_spelt_append [] ys = refl
sets_spelt_append (x ∷ xs) ys =
    ap (λ (l : List ℕ). bytes 8 x ++ l) (sets_spelt_append xs ys) ∙ sym (append_assoc (bytes 8 x) (sets_spelt xs) (sets_spelt ys))

-- what is left of the room behind w bytes
pub room_behind : (w x k at : ℕ) (old new : List ℕ) (r : ℕ) → Spliced (bytes w x) at old new r → at + (w + k) ≤ length old
    → r + k ≤ length new
room_behind w x k at old new r s h =
    let n : r ≡ at + length (bytes w x) = s.next in
    let l : length (bytes w x) ≡ w = length_bytes w x in
    let same : length new ≡ length old = spliced_length (bytes w x) at old new r s in
    omega arith

-- a set takes eight bytes
pub length_spelt : (xs : List ℕ) → length (sets_spelt xs) ≡ 8 * length xs
unfolding sets_spelt
length_spelt [] = refl
length_spelt (x ∷ xs) =
    let both : length (bytes 8 x ++ sets_spelt xs) ≡ length (bytes 8 x) + length (sets_spelt xs) =
    length-append (bytes 8 x) (sets_spelt xs) in
    let one : length (bytes 8 x) ≡ 8 = length_bytes 8 x in
    let rest : length (sets_spelt xs) ≡ 8 * length xs = length_spelt xs in
    omega arith

-- what is left of the room behind sets
pub room_behind_sets : (xs : List ℕ) (k at : ℕ) (old new : List ℕ) (r : ℕ) → Spliced (sets_spelt xs) at old new r
    → at + (8 * length xs + k) ≤ length old → r + k ≤ length new
room_behind_sets xs k at old new r s h =
    let n : r ≡ at + length (sets_spelt xs) = s.next in
    let l : length (sets_spelt xs) ≡ 8 * length xs = length_spelt xs in
    let same : length new ≡ length old = spliced_length (sets_spelt xs) at old new r s in
    omega arith

-- and behind the first k of them
pub room_behind_first : (xs : List ℕ) (k j at : ℕ) (old new : List ℕ) (r : ℕ) → Spliced (sets_spelt (take k xs)) at old new r
    → k ≤ length xs → at + (8 * k + j) ≤ length old → r + j ≤ length new
room_behind_first xs k j at old new r s few h =
    let n : length (take k xs) ≡ k = length-take-le k xs few in
    room_behind_sets (take k xs) j at old new r s (omega arith)

-- behind the first k sets comes the next
pub spelt_next : (xs : List ℕ) (k at : ℕ) (old mid new : List ℕ) (r q : ℕ) → k < length xs → Spliced (sets_spelt (take k xs)) at old mid r
    → Spliced (bytes 8 (get_or xs k 0)) r mid new q → Spliced (sets_spelt (take (k + 1) xs)) at old new q
spelt_next xs k at old mid new r q h a b =
    let x : ℕ = get_or xs k 0 in
    let one : take (k + 1) xs ≡ take k xs ++ (x ∷ []) = ap (λ (n : ℕ). take n xs) (add-one k) ∙ take-suc xs k 0 h in
    subst (λ (v : List ℕ). Spliced v at old new q) (sym (ap sets_spelt one ∙ sets_spelt_append (take k xs) (x ∷ [])))
    (spliced_then (sets_spelt (take k xs)) (sets_spelt (x ∷ [])) at old mid new r q a
    (spelt_then x [] r mid new new q q b (spelt_none q new)))

pub length_record : (r : Record) → length (record_bytes r) ≡ 65
unfolding record_bytes sets_spelt bytes
length_record r = refl

-- never is 0 or 1
flag_low : (r : Record) → get_or (record_bytes r) 0 0 ≤ 1
unfolding record_bytes bytes
flag_low r = go r.never
  where
    go : (p : Bool) → cond p 1 0 % 256 ≤ 1
    go true = omega arith
    go false = omega arith

-- never and the eight sets from the start of the room on are the record's bytes, and the rest of the room
pub spelt_record : (r : Record) (old one new : List ℕ) (i k : ℕ) → 65 ≤ length old
    → Spliced (bytes 1 (flag r.never)) 0 old one i
    → Spliced (sets_spelt (sets_of r)) i one new k
    → new ≡ record_bytes r ++ drop 65 old
unfolding record_bytes
spelt_record r old one new i k h a b =
    let all : Spliced (record_bytes r) 0 old new k =
    spliced_then (bytes 1 (flag r.never)) (sets_spelt (sets_of r)) 0 old one new i k a b in
    let whole : 0 + length (record_bytes r) ≡ 65 = omega (arith, length_record r) in
    all.stored
    ∙ sets-eq (record_bytes r) old 0 (let z : 0 + length (record_bytes r) ≤ length old = omega arith in z)
    ∙ ap (λ (n : ℕ). record_bytes r ++ drop n old) whole

-- ---- reading what was written

-- the bytes that a byte or a set is read from are those it was spelt in
pub record_at_record_bytes : (r : Record) → Bounded 64 r → record_at (record_bytes r) ≡ r
unfolding record_at record_bytes sets_spelt bytes number
record_at_record_bytes r b i =
    record {
      never = told r.never i;
      needin = set r.needin b.needin_in i;
      needex = set r.needex b.needex_in i;
      needout = set r.needout b.needout_in i;
      done = set r.done b.done_in i;
      dueset = set r.dueset b.dueset_in i;
      dueclear = set r.dueclear b.dueclear_in i;
      inset = set r.inset b.inset_in i;
      inclear = set r.inclear b.inclear_in i;
    }
  where
    told : (p : Bool) → eqb (cond p 1 0 % 256) 1 ≡ p
    told true = refl
    told false = refl

    set : (x : ℕ) → x < 2 ^ 64 → number 8 (bytes 8 x) ≡ x
    set x h = number_bytes 8 x [] h

-- records of 64 steps are equal exactly if their bytes are
pub bytes_same : (a b : Record) → Bounded 64 a → Bounded 64 b → record_bytes a ≡ record_bytes b → a ≡ b
bytes_same a b p q e = sym (record_at_record_bytes a p) ∙ ap record_at e ∙ record_at_record_bytes b q

-- a record of n steps is one of 64
pub bounded_64 : (n : ℕ) (r : Record) → n ≤ 64 → Bounded n r → Bounded 64 r
bounded_64 n r h b =
    record {
      needin_in = wide b.needin_in;
      needex_in = wide b.needex_in;
      needout_in = wide b.needout_in;
      done_in = wide b.done_in;
      dueset_in = wide b.dueset_in;
      dueclear_in = wide b.dueclear_in;
      inset_in = wide b.inset_in;
      inclear_in = wide b.inclear_in;
    }
  where
    wide : {x : ℕ} → x < 2 ^ n → x < 2 ^ 64
    wide l = lt_of_lt_of_le l (pow_mono h)

-- ---- writing what was read

-- k sets from the start of s on
abbrev sets_at : ℕ → List ℕ → List ℕ
sets_at zero s = []
sets_at (suc k) s = number 8 s ∷ sets_at k (drop 8 s)

spelt_sets : (k : ℕ) (s : List ℕ) → Bytes s → length s ≡ 8 * k → sets_spelt (sets_at k s) ≡ s
unfolding sets_spelt
spelt_sets zero s h l = sym (length_zero s (let z : length s ≡ 0 = omega arith in z))
  where
    length_zero : (s : List ℕ) → length s ≡ 0 → s ≡ []
    length_zero [] e = refl
    length_zero (x ∷ s) e = absurd (let z : ⊥ = omega arith in z)
spelt_sets (suc k) s h l =
    let enough : 8 ≤ length s = omega arith in
    let left : length (drop 8 s) ≡ 8 * k = length-drop 8 s ∙ (let z : length s - 8 ≡ 8 * k = omega arith in z) in
    ap₂ (λ (a b : List ℕ). a ++ b) (bytes_number 8 s h enough) (spelt_sets k (drop 8 s) (drop_bytes 8 s h) left)
    ∙ take-append-drop 8 s

-- the bytes of the record that is read are the bytes
pub record_bytes_record_at : (s : List ℕ) → Bytes s → length s ≡ 65 → get_or s 0 0 ≤ 1 → record_bytes (record_at s) ≡ s
unfolding record_bytes record_at bytes
record_bytes_record_at [] h l low = absurd (let z : ⊥ = omega arith in z)
record_bytes_record_at (b ∷ s) h l low =
    let rest : length s ≡ 64 = omega arith in
    ap₂ ◌∷◌ (told b low) (places ∙ spelt_sets 8 s (λ i. h (suc i)) rest)
  where
    told : (b : ℕ) → b ≤ 1 → cond (eqb b 1) 1 0 % 256 ≡ b
    told zero l = refl
    told (suc zero) l = refl
    told (suc (suc b)) l = absurd (let z : ⊥ = omega arith in z)

    places : sets_spelt (sets_of (record_at (b ∷ s))) ≡ sets_spelt (sets_at 8 s)
    places = simp drop-drop

-- ---- the calls

-- the verdict of the table, and the room that such a verdict leaves
pub writing : (n : ℕ) (r : Record) (old new : List ℕ) (v : Verdict) → first (to_bytes_lines n r old) ≡ v → new ≡ room_of v r old
    → Writing n r old v new
writing n r old new v e h = record { answer = sym e; room = h ∙ ap (λ (w : Verdict). room_of w r old) (sym e) }

-- reading the bytes of a well-formed record gives the record
pub reads_back : (n : ℕ) (r : Record) → within1to n 64 ≡ true → well_formed n r ≡ true → the_reading n (record_bytes r) ≡ Ok r
unfolding the_reading recorded_of first
reads_back n r c w =
    let same : record_at (record_bytes r) ≡ r = record_at_record_bytes r (bounded_64 n r (counts_most n c) (well_formed_lem n r w).bounded) in
    simp (c, same, eq-eqb (length (record_bytes r)) 65 (length_record r), le-leb (get_or (record_bytes r) 0 0) 1 (flag_low r), w)

-- what bytes that were read show
pub record SpeltIn (n : ℕ) (s : List ℕ) (r : Record) : Type 0 where
  pub counts : within1to n 64 ≡ true
  pub size : length s ≡ 65
  pub low : get_or s 0 0 ≤ 1
  pub good : well_formed n r ≡ true
  pub spells : record_at s ≡ r

pub reading : (n : ℕ) (s : List ℕ) (r : Record) → the_reading n s ≡ Ok r → SpeltIn n s r
unfolding the_reading recorded_of first
reading n s r e = go (within1to n 64) refl (readable n s) refl
  where
    size : Bool
    size = eqb (length s) 65

    low : Bool
    low = leb (get_or s 0 0) 1

    go : (c : Bool) → within1to n 64 ≡ c → (g : Bool) → readable n s ≡ g → SpeltIn n s r
    go true p true q =
        let same : record_at s ≡ r = cc in
        let both : (size && low) ≡ true = and_left (size && low) (well_formed n (record_at s)) q in
        record {
          counts = p;
          size = eqb-true (length s) 65 (and_left size low both);
          low = leb-true (get_or s 0 0) 1 (and_right size low both);
          good = ap (well_formed n) (sym same) ∙ and_right (size && low) (well_formed n (record_at s)) q;
          spells = same;
        }
    go true p false q = absurd (let z : ◌≡◌ {A = ℕ} 0 1 = cc in let w : ⊥ = omega arith in w)
    go false p g q = absurd (let z : ◌≡◌ {A = ℕ} 0 1 = cc in let w : ⊥ = omega arith in w)

-- the bytes of a record that was read are those it was read from
pub writes_back : (n : ℕ) (s : List ℕ) (r : Record) → the_reading n s ≡ Ok r → Bytes s → record_bytes r ≡ s
writes_back n s r e h =
    let k : SpeltIn n s r = reading n s r e in
    ap record_bytes (sym k.spells) ∙ record_bytes_record_at s h k.size k.low
