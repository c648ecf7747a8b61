-- `inner::cleared`: the set that is replaced is the one that replaces it. Assumes nothing.
use mathlib.Core.Path.{sym}
use Rattle.folding.proofs.inner.cleared.Goals as goal

pub returns : goal.returns
returns c =
    λ i.
    record {
      never = c.args.r.never;
      needin = c.args.r.needin;
      needex = c.args.r.needex;
      needout = c.args.r.needout;
      done = c.args.r.done;
      dueset = c.args.r.dueset;
      dueclear = sym c.requires i;
      inset = c.args.r.inset;
      inclear = c.args.r.inclear;
    }
