-- Folded records: what one does, when it is well-formed, and the join.
use Rattle.std.specs.Prelude.{ℕ, List, [], ◌∷◌, Bool, true, false, not, ◌&&◌, ◌||◌, cond}
use Rattle.std.proofs.Math.Option.{Option, none, some}
use Rattle.sets.specs.Sets.{union, meet, minus, empty, subset, within}
use Rattle.moves.specs.declared.Marking.{Marking}
use Rattle.records.specs.declared.Record.{Record}

-- ---- what a record does

-- a record applies: never is off, what must be included is, what must be done is, and what must be excluded or done is done where it is
-- included
unfoldable pub applies : Record → Marking → Bool
applies r m =
    not r.never
    && subset r.needin m.included
    && subset r.needex m.done
    && subset (meet r.needout m.included) m.done

-- what it makes of the marking: where steps are cleared and set, setting comes last
abbrev pub gives : Record → Marking → Marking
gives r m =
    record {
      done = union m.done r.done;
      due = union (minus m.due r.dueclear) r.dueset;
      included = union (minus m.included r.inclear) r.inset;
    }

-- what it gives, if it applies
unfoldable pub acts : Record → Marking → Option Marking
acts r m = cond (applies r m) (some (gives r m)) none

-- ---- well-formed

-- the eight sets, in the order of the bytes
abbrev pub sets_of : Record → List ℕ
sets_of r =
    r.needin ∷ r.needex ∷ r.needout ∷ r.done ∷ r.dueset ∷ r.dueclear ∷ r.inset ∷ r.inclear ∷ []

-- the steps that stand in both sets of one of the pairs
abbrev pub clashes : Record → List ℕ
clashes r =
    meet r.needin r.needout
    ∷ meet r.needex r.needout
    ∷ meet r.done r.needex
    ∷ meet r.inset r.needin
    ∷ meet r.inset r.inclear
    ∷ meet r.dueset r.dueclear
    ∷ []

-- p holds of each
unfoldable pub each : (ℕ → Bool) → List ℕ → Bool
each p [] = true
each p (x ∷ xs) = p x && each p xs

-- every set is within n, the sets of each pair have nothing in common, and beside never there is no step at all
unfoldable pub well_formed : ℕ → Record → Bool
well_formed n r = each (within n) (sets_of r) && each empty (clashes r) && (not r.never || each empty (sets_of r))

-- what changes nothing: never off, and no step in any set
abbrev pub identity : Record
identity =
    record {
      never = false;
      needin = 0;
      needex = 0;
      needout = 0;
      done = 0;
      dueset = 0;
      dueclear = 0;
      inset = 0;
      inclear = 0;
    }

-- never on, all sets empty
abbrev pub impossible : Record
impossible =
    record {
      never = true;
      needin = 0;
      needex = 0;
      needout = 0;
      done = 0;
      dueset = 0;
      dueclear = 0;
      inset = 0;
      inclear = 0;
    }

-- ---- the join

-- What a needs, and what b needs after a, less what a brings about; what a does, and then b. Where a set says to clear what
-- another says to set, setting wins. A step that b needs included and a leaves excluded: never
abbrev pub compose : Record → Record → Record
compose a b =
    record {
      never = a.never || b.never || not (empty (meet b.needin (minus a.inclear a.inset)));
      needin = union a.needin (minus b.needin a.inset);
      needex = union a.needex (minus (union b.needex (meet b.needout a.inset)) a.done);
      needout = union a.needout (minus (minus b.needout (union a.inset a.inclear)) a.done);
      done = union a.done b.done;
      dueset = union (minus a.dueset b.dueclear) b.dueset;
      dueclear = union a.dueclear b.dueclear;
      inset = union (minus a.inset b.inclear) b.inset;
      inclear = union a.inclear b.inclear;
    }

-- what must be included, and also excluded or done, must be done. Then no set says what another has said
abbrev pub sorted : Record → Record
sorted r =
    record {
      never = false;
      needin = r.needin;
      needex = union r.needex (meet r.needin r.needout);
      needout = minus r.needout (union r.needin r.needex);
      done = minus r.done (union r.needex (meet r.needin r.needout));
      dueset = r.dueset;
      dueclear = minus r.dueclear r.dueset;
      inset = minus r.inset r.needin;
      inclear = minus r.inclear r.inset;
    }

-- any record made well-formed, with nothing changed in what it does
unfoldable pub tidy : Record → Record
tidy r = cond r.never impossible (sorted r)

-- a, then b
unfoldable pub join : Record → Record → Record
join a b = tidy (compose a b)
