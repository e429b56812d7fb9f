use Rattle.std.specs.Char.{is_ascii_digit}
use Rattle.airline_base.proofs.LeadingRuns.{run_all}
use Rattle.seat_seal.proofs.fields.number_at.Goals as goal

pub long_value_of-number-requires-clause-digits : goal.long_value_of-number-requires-clause-digits
long_value_of-number-requires-clause-digits c = rw c.digits_of.ensures.run (run_all is_ascii_digit c.args.bytes.now)
