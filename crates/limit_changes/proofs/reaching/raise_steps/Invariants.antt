-- The ranks so far are raised.
use Rattle.limit_changes.proofs.Ranking.{RaisedSoFar}
use Rattle.limit_changes.proofs.reaching.raise_steps.Given as goal

abbrev pub invariant-loop-i : goal.invariant-loop-i
invariant-loop-i l = RaisedSoFar l.wanted l.cut l.steps.items l.i l.highest
