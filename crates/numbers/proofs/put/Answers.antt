-- `put`: eight bytes are std's. Of others what is left to spell, stored from where the loop stands, is the whole stored from the start.
-- Assumes nothing.
use Rattle.std.proofs.Common.{◌≡◌, ℕ, ◌+◌, ◌-◌, ◌/◌, ◌%◌, length, set, refl, sym, ap, ap₂, ◌∙◌, arith, length-set}
use Rattle.std.proofs.lemmas.List.Edits.{sets}
use Rattle.numbers.specs.Numbers.{bytes}
use Rattle.numbers.specs.Laws.{length_bytes, put_more, put_done}
use Rattle.numbers.proofs.Parts.{spliced_part}
use Rattle.numbers.proofs.Words.{word_bytes}
use Rattle.numbers.proofs.put.Goals as goal

pub loop-k-init : goal.loop-k-init
loop-k-init c =
    let a = c.args in record {
      same = refl;
      within = omega arith;
      small = omega arith;
      left = ap₂ (λ (i n : ℕ). sets a.room.now i (bytes n a.x)) (let z : a.at ≡ a.at + 0 = omega arith in z)
          (let z : a.w ≡ a.w - 0 = omega arith in z);
    }

pub loop-k-preserved : goal.loop-k-preserved
loop-k-preserved c =
    let l = c.loop-k in
    let a = c.args in
    let kept = l.invariant in
    let after = set l.room (a.at + l.k) (l.rest % 256) in record {
      same = length-set l.room (a.at + l.k) (l.rest % 256) ∙ kept.same;
      within = omega arith;
      small = omega arith;
      left = kept.left ∙ put_more l.room (a.at + l.k) (a.w - l.k) l.rest (omega arith)
          ∙ ap₂ (λ (i n : ℕ). sets after i (bytes n (l.rest / 256))) (let z : a.at + l.k + 1 ≡ a.at + (l.k + 1) = omega arith in z)
          (let z : a.w - l.k - 1 ≡ a.w - (l.k + 1) = omega arith in z);
    }

pub returns-then-w-eq8 : goal.returns-then-w-eq8
returns-then-w-eq8 c =
    let a = c.args in
    let e = c.if-w-eq8.true in
    let written = c.copy_from_slice.ensures.after ∙ c.to_le_bytes.ensures ∙ word_bytes a.x (omega arith) ∙ ap (λ (w : ℕ). bytes w a.x) (sym e) in
    let n : length (bytes a.w a.x) ≡ a.w = length_bytes a.w a.x in
    spliced_part a.room.now c.copy_from_slice.new.self (bytes a.w a.x) a.at _ _ written (omega arith) (omega arith) (omega arith)

pub returns : goal.returns
returns c =
    let a = c.args in
    let l = c.loop-k in
    let n : length (bytes a.w a.x) ≡ a.w = length_bytes a.w a.x in
    let none = put_done l.room (a.at + l.k) (a.w - l.k) l.rest (omega arith) in
    record { next = omega arith; stored = sym (l.invariant.left ∙ none) }
