use Rattle.std.proofs.Common.{sym}
use Rattle.carry_protections.proofs.Dates.{short_date}
use Rattle.carry_protections.proofs.row.date_of.Goals as goal

pub returns-in_err-front : goal.returns-in_err-front
returns-in_err-front c = rw c.from_residual.ensures (sym (short_date c.args.bytes.now c.in_err-front.ensures.cases))
