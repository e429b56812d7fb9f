use Rattle.ssim_flights.proofs.Chaining.{reach_from}
use Rattle.ssim_flights.proofs.adding.days_fault.Goals as goal

pub falling_back-requires : goal.falling_back-requires
falling_back-requires c = reach_from c.args.plan.now c.args.chained.now c.args.indices.now c.requires
