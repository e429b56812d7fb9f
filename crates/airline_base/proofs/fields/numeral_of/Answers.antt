use Rattle.std.proofs.Common.{◌≤◌, arith, length}
use Rattle.std.specs.Char.{is_ascii_digit}
use Rattle.airline_base.proofs.Digits.{below_power}
use Rattle.airline_base.proofs.LeadingRuns.{run_all}
use Rattle.airline_base.proofs.fields.numeral_of.Goals as goal

pub value_of-number-requires-clause-digits : goal.value_of-number-requires-clause-digits
value_of-number-requires-clause-digits c = rw c.digits_of.ensures.run (run_all is_ascii_digit c.args.bytes.now)

pub overflow_cast-number : goal.overflow_cast-number
overflow_cast-number c =
    let few : length c.digits_of.result.0.now ≤ 4 = omega (arith, c.requires, c.if-digits-most.false) in
    omega (arith, below_power c.value_of-number.result (length c.digits_of.result.0.now) 4 few c.value_of-number.ensures.small)
