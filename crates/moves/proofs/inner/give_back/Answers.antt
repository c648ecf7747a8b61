-- `inner::give_back`: the refusal's number decides. Assumes nothing.
use mathlib.Core.Path.{◌≡◌, sym, ap}
use mathlib.Core.Bool.{Bool, cond}
use native.Mathlib.Omega.{arith}
use Prim.Native.Nat.{◌<◌, ◌≤◌}
use borrow.Author.Tests.{lt-leb, le-leb}
use Rattle.moves.specs.First.{number_of}
use Rattle.moves.specs.Move.{no_marking}
use Rattle.moves.proofs.inner.give_back.Goals as goal

pub returns-then-number-lt11 : goal.returns-then-number-lt11
returns-then-number-lt11 c =
    let a = c.args in
    let low : number_of a.r < 11 = omega arith in
    sym (ap (λ (b : Bool). cond b a.m no_marking) (lt-leb 11 (number_of a.r) low))

pub returns : goal.returns
returns c =
    let a = c.args in
    let high : 11 ≤ number_of a.r = omega arith in
    sym (ap (λ (b : Bool). cond b a.m no_marking) (le-leb 11 (number_of a.r) high))
