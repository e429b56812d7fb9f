use Rattle.std.proofs.Common.{◌+◌, arith}
use Rattle.airline_base.proofs.DateLaws.{civil_is}
use Rattle.seat_words.proofs.days.of_century.Goals as goal

pub returns : goal.returns
returns c = civil_is (2000 + c.args.year) c.args.month c.args.day c.of.result (omega arith) (omega arith) c.of.ensures.valid.1 c.of.ensures.value
