use Rattle.std.proofs.Common.{arith, rules}
use Rattle.ssim_flights.proofs.Slotting.{along_more}
use Rattle.ssim_flights.proofs.slots.+place_along.Goals as goal

pub returns-in-None : goal.returns-in-None
returns-in-None t c =
    along_more c.args.flights.now c.args.entries.now c.args.entry c.in_ok-k.k _ c.args.wanted.now c.place_along.result c.requires.linked (omega arith) (omega arith) (search rules) c.in-None.ensures c.place_along.ensures
