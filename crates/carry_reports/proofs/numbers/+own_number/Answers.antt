use Rattle.std.proofs.Common.{◌≡◌, ◌<◌, ◌+◌, ◌-◌, length, ◌^◌, arith}
use Rattle.carry_reports.proofs.Numbering.{journal_few}
use Rattle.carry_reports.proofs.numbers.+own_number.Goals as goal

pub overflow_add-result : goal.overflow_add-result
overflow_add-result t c =
    let few = journal_few c.in-Some.later.now (c.args.number - c.in-Some.count.now) in
    let one : length c.in-Some.later.now + 1 ≡ length c.args.counts.now = c.in-Some.ensures.cases.1 in
    let fits : length c.args.counts.now < 2 ^ 62 = omega arith in
    omega (arith, few, one, fits, c.own_number-behind.ensures.journal)
