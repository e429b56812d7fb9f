use Rattle.std.proofs.Common.{pos, arith}
use Rattle.jiff_core.proofs.CalendarLemmas.{weekday_number-parts}
use Rattle.jiff_core.proofs.SignedLemmas.{signed_arith}
use Rattle.ssim_records.proofs.operating.weekday.Goals as goal

pub returns-clause-value : goal.returns-clause-value
returns-clause-value c = omega (arith, signed_arith, weekday_number-parts (pos c.args.number))
