-- The printed text of a fault.
use Rattle.std.specs.Prelude.{ℕ, List, ◌++◌, codes}
use Rattle.std.specs.Fmt.{decimal}
use Rattle.ssim_flights.specs.declared.fault.FlightFault.{FlightFault}
use Rattle.ssim_flights.specs.declared.fault.FlightKind.{FlightKind}
use Rattle.ssim_flights.specs.declared.fault.FlightKind.TheVariants as kinds

abbrev pub code_of : FlightKind → List ℕ
code_of kinds.MissingLeg = codes "F1"
code_of kinds.RepeatedLeg = codes "F2"
code_of kinds.BrokenChain = codes "F3"
code_of kinds.LegDatesDiffer = codes "F4"
code_of kinds.DatesFallBack = codes "F5"
code_of kinds.TwiceOnDate = codes "F6"
code_of kinds.TooManyLegs = codes "F7"
code_of kinds.TooManyFlights = codes "F8"
code_of kinds.Memory = codes "F9"

-- the code and the serial number, with a blank between
abbrev pub fault_text : FlightFault → List ℕ
fault_text f = code_of f.kind ++ codes " " ++ decimal f.serial
