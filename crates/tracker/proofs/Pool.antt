-- x exists exactly if P is not empty: where H is empty x is taken of P, and where H has a step so has P. Assumes nothing.
use Rattle.std.specs.Prelude.{ℕ, ◌≡◌, Bool, true, false, ◌&&◌, cond, ltb}
use Rattle.std.proofs.Common.{sym, ap, ◌∙◌, true≢false}
use Rattle.std.specs.Prelude.{refl}
use Rattle.sets.specs.Sets.{empty}
use Rattle.sets.specs.Laws.{empty_members, members_empty}
use Rattle.moves.specs.Move.{rank_of}
use Rattle.tracker.specs.Tracker.{above, pool}
use Rattle.tracker.specs.Laws.{above_members}

pub pool_empty : (i p : ℕ) → empty (pool i p) ≡ empty p
pool_empty i p = go (empty (above i p)) refl (empty p) refl
  where
    go : (h : Bool) → empty (above i p) ≡ h → (k : Bool) → empty p ≡ k → empty (cond (empty (above i p)) p (above i p)) ≡ empty p
    go true eh k ek = ap (λ (b : Bool). empty (cond b p (above i p))) eh
    go false eh false ek = ap (λ (b : Bool). empty (cond b p (above i p))) eh ∙ eh ∙ sym ek
    go false eh true ek =
        absurd (true≢false (sym
        (members_empty (above i p) (λ s. above_members i p s ∙ ap (λ (b : Bool). b && ltb i (rank_of s)) (empty_members p ek s))) ∙ eh))
