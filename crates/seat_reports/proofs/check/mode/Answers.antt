use Rattle.std.proofs.Common.{refl}
use Rattle.seat_reports.proofs.check.mode.Goals as goal

pub returns-then-local : goal.returns-then-local
returns-then-local c = rw c.if-local.true refl

pub returns-else-local : goal.returns-else-local
returns-else-local c = rw c.if-local.false refl
