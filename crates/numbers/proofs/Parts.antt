-- A part of a list that was written over is what a writer promises, and so the writers fit one after the other. Assumes nothing.
use Rattle.std.proofs.Common.{◌≡◌, ℕ, ◌+◌, ◌≤◌, List, ◌++◌, length, take, drop, refl, sym, ap, ◌∙◌, arith, append_assoc}
use borrow.Rule.Slice.PartMut.{put_mid}
use Rattle.std.proofs.lemmas.Slice.{put_mid-paste}
use Rattle.std.proofs.lemmas.List.Edits.{sets-eq, paste_all}
use Rattle.numbers.specs.Numbers.{bytes, Spliced}
use Rattle.numbers.specs.Laws.{length_bytes, spliced_length}

pub spliced_part : (old part v : List ℕ) (at m r : ℕ) → part ≡ v → m ≡ length v → r ≡ at + length v → r ≤ length old
    → Spliced v at old (put_mid at m old part) r
spliced_part old part v at m r e n q h =
    record {
      next = q;
      stored = put_mid-paste at m old part v m e refl n
          ∙ paste_all old at v m n
          ∙ ap (λ (j : ℕ). take at old ++ (v ++ drop (at + j) old)) n
          ∙ sym (append_assoc (take at old) v (drop (at + length v) old))
          ∙ sym (sets-eq v old at (let z : at + length v ≤ length old = omega arith in z));
    }

-- a number was written: the place is w bytes on, and the room is as long as before
pub record On (w at : ℕ) (old new : List ℕ) (r : ℕ) : Type 0 where
  pub next : r ≡ at + w
  pub same : length new ≡ length old

pub on : (w x at : ℕ) (old new : List ℕ) (r : ℕ) → Spliced (bytes w x) at old new r → On w at old new r
on w x at old new r s =
    record {
      next = s.next ∙ ap (λ (k : ℕ). at + k) (length_bytes w x);
      same = spliced_length (bytes w x) at old new r s;
    }
