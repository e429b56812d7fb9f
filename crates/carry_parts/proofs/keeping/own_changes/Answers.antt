use Rattle.carry_parts.proofs.Kept.{few_kept}
use Rattle.carry_parts.specs.Parts.{has_flight}
use Rattle.carry_parts.proofs.keeping.own_changes.Goals as goal

pub returns-clause-few : goal.returns-clause-few
returns-clause-few c =
    few_kept (λ row. has_flight c.args.part c.args.flights.now row.flight) c.args.rows.now c.loop-row.own.items c.loop-row.row-index c.loop-row.invariant
    c.loop-row-test.false
