-- The laws of steps in a row: what the cut leaves, the checks among them, and numbers in order. Assumes nothing.
use Rattle.std.specs.Prelude.{ℕ, zero, suc, ◌+◌, ◌≤◌, ◌<◌, ◌≡◌, refl, List, [], ◌∷◌, ◌++◌, Bool, true, false, ◌&&◌, cond, length, replicate, eqb, leb}
use Rattle.std.proofs.Common.{sym, ap, ap₂, ◌∙◌, subst, append_assoc, append-nil, true≢false, arith, length-append, eq-eqb, ne_eqb, le-leb}
use Rattle.std.proofs.Math.Decide.{dec_lt}
use Rattle.std.proofs.Math.ListN.{get_or-append}
use Rattle.std.proofs.Math.Seq.{append_snoc}
use Rattle.std.proofs.lemmas.List.{get_or_at}
use Rattle.std.proofs.lemmas.Bool.{lt-leb}
use Rattle.sets.specs.Truth.{dec_eq}
use Rattle.moves.specs.declared.Entry.{Entry}
use Rattle.bodies.specs.Tables.{tabled, length_tabled, row_tabled}
use Rattle.cabinet.specs.Cabinet.{reboot, publish}
use Rattle.checked.specs.Words.{steps_taken, checks_in, one_to, Occurs, kept_on, since_reboot, Behind, rebooted, started}

-- ---- the cut

pub kept_append : (kept a c : List ℕ) → kept_on kept (a ++ c) ≡ kept_on (kept_on kept a) c
unfolding kept_on
kept_append kept [] c = refl
kept_append kept (s ∷ a) c = kept_append (cond (eqb s reboot) [] (kept ++ (s ∷ []))) a c

later : (k s : ℕ) (rest : List ℕ) → Occurs k rest → Occurs k (s ∷ rest)
later k s rest o = let h : o.0 < length rest = o.1 in (suc o.0, (let z : suc o.0 < suc (length rest) = omega arith in z), o.2)

-- where no reboot is, nothing is cut
pub kept_all : (kept rest : List ℕ) → (Occurs reboot rest → ⊥) → kept_on kept rest ≡ kept ++ rest
unfolding kept_on
kept_all kept [] none = sym (append-nil kept)
kept_all kept (s ∷ rest) none =
    let other : eqb s reboot ≡ false =
    ne_eqb s reboot (λ e. none (0, (let z : 0 < suc (length rest) = omega arith in z), e)) in
    ap (λ (t : Bool). kept_on (cond t [] (kept ++ (s ∷ []))) rest) other
    ∙ kept_all (kept ++ (s ∷ [])) rest (λ o. none (later reboot s rest o))
    ∙ append_snoc kept s rest

-- so both ways to say it agree
pub behind_since : (steps behind : List ℕ) → Behind steps behind → since_reboot steps ≡ behind
unfolding kept_on
behind_since steps behind (started e none) = ap since_reboot e ∙ kept_all [] behind none
behind_since steps behind (rebooted before e none) =
    ap since_reboot e ∙ kept_append [] before (reboot ∷ behind) ∙ kept_all [] behind none

none_more : (kept : List ℕ) (s : ℕ) → (Occurs reboot kept → ⊥) → (s ≡ reboot → ⊥) → Occurs reboot (kept ++ (s ∷ [])) → ⊥
none_more kept s none other o = go (dec_lt o.0 (length kept))
  where
    go : Dec (o.0 < length kept) → ⊥
    go (yes l) = none (o.0, l, sym (get_or-append kept (s ∷ []) 0 o.0 l) ∙ o.2)
    go (no l) =
        let all : length (kept ++ (s ∷ [])) ≡ length kept + 1 = length-append kept (s ∷ []) in
        let low : o.0 < length (kept ++ (s ∷ [])) = o.1 in
        other (sym (get_or_at kept s [] 0 o.0 (let z : length kept ≡ o.0 = omega arith in z)) ∙ o.2)

-- and something always stands behind: what the cut leaves
behind_kept : (kept steps : List ℕ) → (Occurs reboot kept → ⊥) → Behind (kept ++ steps) (kept_on kept steps)
unfolding kept_on
behind_kept kept [] none = started (append-nil kept) none
behind_kept kept (s ∷ rest) none = go (dec_eq s reboot) (behind_kept [] rest nothing) (λ other. behind_kept (kept ++ (s ∷ [])) rest (none_more kept s none other))
  where
    nothing : Occurs reboot [] → ⊥
    nothing o = let low : o.0 < 0 = o.1 in let w : ⊥ = omega arith in w

    after : s ≡ reboot → Behind rest (kept_on [] rest) → Behind (kept ++ (s ∷ rest)) (kept_on [] rest)
    after e (started q free) = rebooted kept (ap₂ (λ (x : ℕ) (l : List ℕ). kept ++ (x ∷ l)) e q) free
    after e (rebooted before q free) =
        rebooted (kept ++ (s ∷ before))
        (ap (λ (l : List ℕ). kept ++ (s ∷ l)) q ∙ sym (append_assoc kept (s ∷ before) (reboot ∷ kept_on [] rest))) free

    go : Dec (s ≡ reboot) → Behind ([] ++ rest) (kept_on [] rest)
        → ((s ≡ reboot → ⊥) → Behind ((kept ++ (s ∷ [])) ++ rest) (kept_on (kept ++ (s ∷ [])) rest))
        → Behind (kept ++ (s ∷ rest)) (kept_on (cond (eqb s reboot) [] (kept ++ (s ∷ []))) rest)
    go (yes e) again on =
        subst (λ (t : Bool). Behind (kept ++ (s ∷ rest)) (kept_on (cond t [] (kept ++ (s ∷ []))) rest)) (sym (eq-eqb s reboot e)) (after e again)
    go (no other) again on =
        subst (λ (t : Bool). Behind (kept ++ (s ∷ rest)) (kept_on (cond t [] (kept ++ (s ∷ []))) rest)) (sym (ne_eqb s reboot other))
        (subst (λ (l : List ℕ). Behind l (kept_on (kept ++ (s ∷ [])) rest)) (append_snoc kept s rest) (on other))

pub behind_there : (steps : List ℕ) → Behind steps (since_reboot steps)
behind_there steps = behind_kept [] steps (λ o. let low : o.0 < 0 = o.1 in let w : ⊥ = omega arith in w)

-- ---- the checks among steps

pub checks_append : (b : ℕ) (a c : List ℕ) → checks_in b (a ++ c) ≡ checks_in b a ++ checks_in b c
unfolding checks_in
checks_append b [] c = refl
checks_append b (s ∷ a) c = go (leb 1 s && leb s b) (checks_append b a c)
  where
    go : (t : Bool) → checks_in b (a ++ c) ≡ checks_in b a ++ checks_in b c
        → cond t (s ∷ checks_in b (a ++ c)) (checks_in b (a ++ c)) ≡ cond t (s ∷ checks_in b a) (checks_in b a) ++ checks_in b c
    go true e = ap (λ (l : List ℕ). s ∷ l) e
    go false e = e

pub checks_counted : (b k : ℕ) → k ≤ b → checks_in b (one_to k) ≡ one_to k
unfolding tabled checks_in
checks_counted b zero h = refl
checks_counted b (suc k) h =
    checks_append b (one_to k) (suc k ∷ [])
    ∙ ap₂ (λ (l : List ℕ) (t : Bool). l ++ cond t (suc k ∷ []) []) (checks_counted b k (omega arith))
    (ap₂ ◌&&◌ (le-leb 1 (suc k) (omega arith)) (le-leb (suc k) b h))

pub checks_none : (b r : ℕ) → checks_in b (replicate r (publish b)) ≡ []
unfolding checks_in
checks_none b zero = refl
checks_none b (suc r) =
    ap (λ (t : Bool). cond (leb 1 (b + 1) && t) ((b + 1) ∷ checks_in b (replicate r (b + 1))) (checks_in b (replicate r (b + 1))))
    (lt-leb (b + 1) b (omega arith))
    ∙ ap (λ (t : Bool). cond (t && false) ((b + 1) ∷ checks_in b (replicate r (b + 1))) (checks_in b (replicate r (b + 1))))
    (le-leb 1 (b + 1) (omega arith))
    ∙ checks_none b r

-- ---- numbers in order

pub counted_occurs : (k n : ℕ) (rest : List ℕ) → 1 ≤ k → k ≤ n → Occurs k (one_to n ++ rest)
counted_occurs zero n rest h l = absurd (let w : ⊥ = omega arith in w)
counted_occurs (suc i) n rest h l =
    let count : length (one_to n) ≡ n = length_tabled n suc in
    let all : length (one_to n ++ rest) ≡ length (one_to n) + length rest = length-append (one_to n) rest in (
      i,
      (let z : i < length (one_to n ++ rest) = omega arith in z),
      get_or-append (one_to n) rest 0 i (let z : i < length (one_to n) = omega arith in z) ∙ row_tabled n suc i l,
    )

pub occurs_counted : (k n : ℕ) → Occurs k (one_to n) → k ≤ n
occurs_counted k n o =
    let count : length (one_to n) ≡ n = length_tabled n suc in
    let low : o.0 < length (one_to n) = o.1 in
    let here : suc o.0 ≡ k = sym (row_tabled n suc o.0 (omega arith)) ∙ o.2 in
    omega arith

pub replicate_more : (r x : ℕ) → replicate r x ++ (x ∷ []) ≡ replicate (suc r) x
replicate_more zero x = refl
replicate_more (suc r) x = ap (λ (l : List ℕ). x ∷ l) (replicate_more r x)

-- ---- entries and their steps

pub steps_append : (a c : List Entry) → steps_taken (a ++ c) ≡ steps_taken a ++ steps_taken c
unfolding steps_taken
steps_append [] c = refl
steps_append (e ∷ a) c = ap (λ (l : List ℕ). e.step.0 ∷ l) (steps_append a c)

-- where the steps fall apart at a step, so do the entries
pub record Parted (es : List Entry) (front : List ℕ) (s : ℕ) (after : List ℕ) : Type 0 where
  pub before : List Entry
  pub entry : Entry
  pub behind : List Entry
  pub whole : es ≡ before ++ (entry ∷ behind)
  pub before_steps : steps_taken before ≡ front
  pub entry_step : entry.step.0 ≡ s

abbrev head_of : List ℕ → ℕ
head_of [] = 0
head_of (s ∷ rest) = s

abbrev tail_of : List ℕ → List ℕ
tail_of [] = []
tail_of (s ∷ rest) = rest

abbrev empty_of : List ℕ → Bool
empty_of [] = true
empty_of (s ∷ rest) = false

pub parted : (es : List Entry) (front : List ℕ) (s : ℕ) (after : List ℕ) → steps_taken es ≡ front ++ (s ∷ after) → Parted es front s after
unfolding steps_taken
parted [] [] s after e = absurd (true≢false (ap empty_of e))
parted [] (x ∷ front) s after e = absurd (true≢false (ap empty_of e))
parted (c ∷ es) [] s after e =
    record { before = []; entry = c; behind = es; whole = refl; before_steps = refl; entry_step = ap head_of e }
parted (c ∷ es) (x ∷ front) s after e =
    let rest = parted es front s after (ap tail_of e) in
    record {
      before = c ∷ rest.before;
      entry = rest.entry;
      behind = rest.behind;
      whole = ap (λ (l : List Entry). c ∷ l) rest.whole;
      before_steps = ap₂ (λ (y : ℕ) (l : List ℕ). y ∷ l) (ap head_of e) rest.before_steps;
      entry_step = rest.entry_step;
    }
