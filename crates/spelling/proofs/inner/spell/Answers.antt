-- `inner::spell`: never is spelt, and behind it set after set; so many sets leave room for the next. Assumes nothing.
use mir.Val.{bool_byte}
use Rattle.std.proofs.Common.{Bool, true, false, refl, ◌∙◌, ◌≡◌, ℕ, ◌+◌, ◌*◌, ◌-◌, ◌≤◌, List, length, subst, arith, take_all}
use Rattle.numbers.specs.Numbers.{bytes, Spliced}
use Rattle.records.specs.Records.{sets_of}
use Rattle.spelling.specs.Bytes.{flag, sets_spelt}
use Rattle.spelling.specs.Spelling.{spelt_none, spelt_next, room_behind, room_behind_first, spelt_record}
use Rattle.spelling.proofs.inner.spell.Goals as goal

pub loop-word-init : goal.loop-word-init
loop-word-init c = spelt_none _ _

pub put-at-requires-in-loop-word : goal.put-at-requires-in-loop-word
put-at-requires-in-loop-word c =
    let first : c.put-at.result + 64 ≤ length c.put-at.new.room = room_behind 1 _ 64 0 _ _ _ c.put-at.ensures c.requires in
    let left : c.loop-word.at + 8 * (8 - c.loop-word.word-index) ≤ length c.loop-word.room =
    room_behind_first _ _ (8 * (8 - c.loop-word.word-index)) _ _ _ _ c.loop-word.invariant c.loop-word.auto.word-index-end (omega arith) in
    omega (arith, c.loop-word-test.true)

pub loop-word-preserved : goal.loop-word-preserved
loop-word-preserved c =
    spelt_next _ _ _ _ _ _ _ _ c.loop-word-test.true c.loop-word.invariant c.put-at-in-loop-word.ensures

-- never as a number is 0 or 1
flagged : (never : Bool) → bool_byte never ≡ flag never
flagged true = refl
flagged false = refl

pub returns : goal.returns
returns c =
    spelt_record c.args.r _ _ _ _ _ c.requires
    (subst (λ (x : ℕ). Spliced (bytes 1 x) 0 c.args.room.now c.put-at.new.room c.put-at.result)
    (c.from.ensures ∙ flagged c.args.r.never) c.put-at.ensures)
    (subst (λ (xs : List ℕ). Spliced (sets_spelt xs) c.put-at.result c.put-at.new.room c.loop-word.room c.loop-word.at)
    (take_all c.loop-word.word-index (sets_of c.args.r) c.loop-word-test.false) c.loop-word.invariant)
