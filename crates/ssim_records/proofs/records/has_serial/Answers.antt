use Rattle.std.proofs.Common.{sym, ap, ◌∙◌}
use Rattle.ssim_records.specs.SetSteps.{has_serial, is_number}
use Rattle.ssim_records.proofs.records.has_serial.Goals as goal

pub returns-in-Some : goal.returns-in-Some
unfolding has_serial
returns-in-Some c = ap (is_number c.args.serial) (sym c.in-Some.is ∙ c.six_of.ensures)
