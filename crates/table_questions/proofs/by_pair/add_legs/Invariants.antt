-- The pairs of the legs so far are there.
use Rattle.std.proofs.Common.{◌≡◌, drop}
use Rattle.seat_loads.specs.Legs.{is_kept}
use Rattle.table_questions.specs.SumRows.{with_legs}
use Rattle.table_questions.proofs.by_pair.add_legs.Given as goal

abbrev pub invariant-loop-j : goal.invariant-loop-j
invariant-loop-j l = with_legs (is_kept l.asked) l.pairs.items (drop l.j l.legs) ≡ with_legs (is_kept l.asked) l.initial.pairs.items l.legs
