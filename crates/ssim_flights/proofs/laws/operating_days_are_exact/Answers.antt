use Rattle.ssim_flights.proofs.OperatingDays.{days_exact}
use Rattle.ssim_flights.proofs.laws.operating_days_are_exact.Goals as goal

pub returns-clause-exact : goal.returns-clause-exact
returns-clause-exact c = days_exact
