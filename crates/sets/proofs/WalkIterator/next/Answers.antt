-- `next`: the lowest step that is left comes first, and those behind it are left. Assumes nothing.
use Rattle.std.proofs.Common.{rules, ◌≡◌, ◌∙◌, ◌∷◌, ap, sym, length, ◌<◌, ◌^◌, ℕ}
use Rattle.sets.specs.Sets.{members}
use Rattle.sets.specs.Later.{later}
use Rattle.sets.specs.Members.{members_none, members_later}
use Rattle.sets.proofs.WalkIterator.next.Goals as goal
use Rattle.sets.proofs.WalkIterator.next.Goals.{After-lowest-s}

-- what is left begins with the step that is given
first : (c : After-lowest-s) → members c.args.self.now.rest ≡ c.lowest-s.result ∷ members (later c.args.self.now.rest)
first c =
    let x = c.args.self.now.rest in
    let fits : x < 2 ^ 64 = search rules in
    members_later x fits c.if-self-eq0.false ∙ ap (λ (s : ℕ). s ∷ members (later x)) (sym c.lowest-s.ensures)

pub returns-then-self-eq0-clause-steps : goal.returns-then-self-eq0-clause-steps
returns-then-self-eq0-clause-steps c = let e = ap members c.if-self-eq0.true ∙ members_none in (e, e)

pub returns-clause-steps : goal.returns-clause-steps
returns-clause-steps c = first (goal.at.returns-clause-steps c).After-lowest-s

pub returns-clause-goes : goal.returns-clause-goes
returns-clause-goes c = let e = first (goal.at.returns-clause-goes c).After-lowest-s in let n = ap length e in search (rules, n)
