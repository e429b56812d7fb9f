-- The printed text of what a command is refused with.
use Rattle.std.specs.Prelude.{ℕ, List, ◌++◌, codes}
use Rattle.std.specs.Fmt.{decimal}
use Rattle.ssim_records.specs.FaultText.{fault_text as set_text}
use Rattle.ssim_flights.specs.FaultText.{fault_text as flight_text}
use Rattle.seat_limits.specs.FaultText.{fault_text as limit_text}
use Rattle.airimp_lines.specs.FaultText.{kind_text}
use Rattle.seat_journal.specs.FaultText.{fault_text as journal_text}
use Rattle.seat_rules.specs.FaultText.{fault_text as replay_text}
use Rattle.seat_seal.specs.Faults.{words_of}
use Rattle.seat_desk.specs.declared.fault.DeskFault.{DeskFault}
use Rattle.seat_desk.specs.declared.fault.DeskFault.TheVariants as faults

-- the code, and where the fault stands, with single blanks between
abbrev pub fault_text : DeskFault → List ℕ
fault_text (faults.Set fault) = set_text fault
fault_text (faults.Flight fault) = flight_text fault
fault_text (faults.Limit fault) = limit_text fault
fault_text (faults.Change fault) = limit_text fault
fault_text (faults.NoLeg line) = codes "U1 " ++ decimal line
fault_text (faults.Command line) = codes "E1 " ++ decimal line
fault_text (faults.Full line) = codes "C1 " ++ decimal line
fault_text (faults.Seal fault) = words_of fault
fault_text (faults.Journal fault) = journal_text fault
fault_text (faults.Replay fault) = replay_text fault
fault_text (faults.Script session fault) =
    kind_text fault.kind ++ codes " " ++ decimal session ++ codes " " ++ decimal fault.line
fault_text (faults.Unasked session call) = codes "P8 " ++ decimal session ++ codes " " ++ decimal call
fault_text (faults.Book session call) = codes "B1 " ++ decimal session ++ codes " " ++ decimal call
fault_text faults.NoLine = codes "E2 line"
fault_text faults.NoBehind = codes "E2 behind"
fault_text faults.TooLarge = codes "R2"
fault_text faults.Device = codes "DEVICE"
fault_text faults.Memory = codes "MEMORY"
