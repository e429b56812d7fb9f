use Rattle.std.proofs.Common.{sym}
use Rattle.seat_limits.proofs.RowFieldLaws.{short_date}
use Rattle.seat_limits.proofs.row_fields.date_of.Goals as goal

pub returns-in_default : goal.returns-in_default
returns-in_default c = sym (short_date c.args.bytes.now c.in_default.ensures.cases)
