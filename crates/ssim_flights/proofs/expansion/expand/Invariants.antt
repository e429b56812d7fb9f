use Rattle.std.proofs.Common.{◌≡◌, take, drop}
use Rattle.ssim_flights.specs.Adding.{IsFlown}
use Rattle.ssim_flights.specs.Flown.{first_fault, fault_after}
use Rattle.ssim_flights.proofs.expansion.expand.Given as goal

abbrev pub invariant-loop-legs : goal.invariant-loop-legs
invariant-loop-legs l =
    IsFlown l.plan (take l.legs-index l.legs-items) l.flown
    × (first_fault l.plan l.legs-items ≡ fault_after l.plan (take l.legs-index l.legs-items) (drop l.legs-index l.legs-items))
