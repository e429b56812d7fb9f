use Rattle.std.specs.Char.{is_ascii_digit}
use Rattle.airline_base.proofs.LeadingRuns.{run_all}
use Rattle.desk_hall.proofs.orders.count_of.Goals as goal

pub value_of-requires-clause-digits : goal.value_of-requires-clause-digits
value_of-requires-clause-digits c = rw c.digits_of.ensures.run (run_all is_ascii_digit c.args.bytes.now)
