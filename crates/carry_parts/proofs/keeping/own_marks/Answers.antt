use Rattle.carry_parts.proofs.Kept.{few_kept}
use Rattle.carry_parts.specs.Parts.{has_flight}
use Rattle.carry_parts.proofs.keeping.own_marks.Goals as goal

pub returns-clause-few : goal.returns-clause-few
returns-clause-few c =
    few_kept (λ m. has_flight c.args.part c.args.flights.now m.flight) c.args.marks.now c.loop-mark.own.items c.loop-mark.mark-index c.loop-mark.invariant
    c.loop-mark-test.false
