-- The answers by what is found against the sheet, the content and the room. Assumes nothing.
use Rattle.std.specs.Prelude.{ℕ, ◌+◌, ◌≤◌, ◌<◌, ◌≡◌, List, [], ◌∷◌, ◌++◌, Bool, true, false, cond, length, Result, Ok, Err}
use Rattle.std.proofs.Math.Path.{sym, ap}
use Rattle.std.proofs.Common.{◌∙◌, arith, lt-ltb, le-ltb}
use Rattle.std.proofs.Math.ListN.{drop}
use Rattle.std.proofs.lemmas.List.Edits.{sets-eq}
use Rattle.std.proofs.Math.Dec.{ltb}
use Rattle.moves.specs.declared.Marking.{Marking}
use Rattle.moves.specs.declared.Refusal.{Refusal}
use Rattle.moves.specs.declared.Refusal.TheVariants.{Room}
use Rattle.moves.specs.First.{Verdict, first}
use Rattle.moves.specs.Given.{first_clear, first_refused}
use Rattle.rules.specs.Graph.{Graph}
use Rattle.numbers.specs.Numbers.{Spliced}
use Rattle.reading.specs.Reading.{first_of, read_verdict, block_read}
use Rattle.writing.specs.Writing.{sheet_bytes, content_lines}
use Rattle.sheet.specs.Sheet.{Written, if_clear, answer_of, the_answer, write_verdict, the_written, room_after}

pub if_clear_lem : {A : Type 0} (v : Verdict) (a b : A) → v ≡ Ok tt → if_clear v a b ≡ a
unfolding if_clear
if_clear_lem v a b e = ap (λ (w : Verdict). if_clear w a b) e

pub if_refused : {A : Type 0} (v : Verdict) (r : Refusal) (a b : A) → v ≡ Err r → if_clear v a b ≡ b
unfolding if_clear
if_refused v r a b e = ap (λ (w : Verdict). if_clear w a b) e

-- ---- reading

-- what is left behind: the answer, and the block
pub record Read (s old new : List ℕ) (r : Result Marking Refusal) : Type 0 where
  pub answer : r ≡ the_answer s
  pub block : new ≡ if_clear (read_verdict s) (block_read s) old

-- a refusal is handed out, and the block stays
pub read_refused : (s old : List ℕ) (r : Refusal) → read_verdict s ≡ Err r → Read s old old (Err r)
unfolding answer_of
read_refused s old r e = record {
  answer = sym (ap (λ (v : Verdict). answer_of v (first_of s)) e);
  block = sym (if_refused (read_verdict s) r (block_read s) old e);
}

-- any other verdict is clear
pub not_refused : (v : Verdict) → if_clear v false true ≡ false → v ≡ Ok tt
unfolding if_clear
not_refused (Ok _) e = ap (λ (b : Bool). Ok tt) e
not_refused (Err r) e = absurd (let z : ◌≡◌ {A = ℕ} 0 1 = cc in let x : ⊥ = omega arith in x)

pub read_clear : (s old new : List ℕ) (m : Marking) → read_verdict s ≡ Ok tt → m ≡ first_of s → new ≡ block_read s → Read s old new (Ok m)
unfolding answer_of
read_clear s old new m e f b = record {
  answer = ap Ok f ∙ sym (ap (λ (v : Verdict). answer_of v (first_of s)) e);
  block = b ∙ sym (if_clear_lem (read_verdict s) (block_read s) old e);
}

-- ---- writing

module _ (g : Graph) (m : Marking) (old : List ℕ) where
  abbrev size : ℕ
  size = length (sheet_bytes g m)

  -- what is left behind: the answer, and the room
  pub record Wrote (new : List ℕ) (w : Written) : Type 0 where
    pub answer : w ≡ the_written g m (length old)
    pub room : new ≡ room_after g m old

  -- by the verdict
  refused_room : (r : Refusal) → write_verdict g m (length old) ≡ Err r → Wrote old (Err r)
  unfolding answer_of
  refused_room r v = record {
    answer = sym (ap (λ (w : Verdict). answer_of w size) v);
    room = sym (if_refused (write_verdict g m (length old)) r (sheet_bytes g m ++ drop size old) old v);
  }

  pub write_refused : (r : Refusal) → first (content_lines g m) ≡ Err r → Wrote old (Err r)
  unfolding write_verdict
  write_refused r e = refused_room r (first_refused (content_lines g m) ((Room, ltb (length old) size) ∷ []) r e)

  module _ (e : first (content_lines g m) ≡ Ok tt) where
    room_tested : write_verdict g m (length old) ≡ cond (ltb (length old) size) (Err Room) (Ok tt)
    unfolding write_verdict first
    room_tested = first_clear (content_lines g m) ((Room, ltb (length old) size) ∷ []) e

    pub write_short : length old < size → Wrote old (Err Room)
    write_short h =
        refused_room Room (room_tested ∙ ap (λ (b : Bool). cond b (Err Room) (Ok tt)) (lt-ltb (length old) size h))

    pub room_clear : size ≤ length old → write_verdict g m (length old) ≡ Ok tt
    room_clear h = room_tested ∙ ap (λ (b : Bool). cond b (Err Room) (Ok tt)) (le-ltb (length old) size h)

    -- with room enough the length is answered, and the room begins with the sheet
    pub clear_after : size ≤ length old
        → (the_written g m (length old) ≡ Ok size) × (room_after g m old ≡ sheet_bytes g m ++ drop size old)
    unfolding answer_of
    clear_after h = (
      ap (λ (w : Verdict). answer_of w size) (room_clear h),
      if_clear_lem (write_verdict g m (length old)) (sheet_bytes g m ++ drop size old) old (room_clear h),
    )

    -- the sheet was written from the start of the room
    pub write_done : (new : List ℕ) (r : ℕ) → size ≤ length old → Spliced (sheet_bytes g m) 0 old new r → Wrote new (Ok r)
    write_done new r h s =
        let n : r ≡ 0 + size = s.next in
        let z : 0 + size ≡ size = omega arith in
        let whole = sets-eq (sheet_bytes g m) old 0 (omega arith) ∙ ap (λ (k : ℕ). sheet_bytes g m ++ drop k old) z in
        record {
          answer = ap Ok (n ∙ z) ∙ sym (clear_after h).0;
          room = s.stored ∙ whole ∙ sym (clear_after h).1;
        }
