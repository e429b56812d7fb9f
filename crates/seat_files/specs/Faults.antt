-- What the program prints of a fault, and its exit status.
use Rattle.std.specs.Prelude.{ℕ, List, ◌++◌, codes}
use Rattle.std.specs.Fmt.{decimal}
use Rattle.airimp_lines.specs.FaultText.{line_code}
use Rattle.seat_desk.specs.FaultText.{fault_text}
use Rattle.seat_desk.specs.Status.{status_of}
use Rattle.seat_season.specs.FaultText.{season_text}
use Rattle.seat_shards.specs.Faults.{shard_text, status_of_shards}
use Rattle.seat_words.specs.FaultText.{word_text}
use Rattle.seat_files.specs.declared.fault.Fault.{Fault}
use Rattle.seat_files.specs.declared.fault.Fault.TheVariants.{Desk, Shards, Feed, Word, Season, Listed, Carry}
use Rattle.seat_files.specs.declared.fault.CarryKind.{CarryKind}
use Rattle.seat_files.specs.declared.fault.CarryKind.TheVariants as carries
use Rattle.seat_files.specs.declared.fault.ListKind.{ListKind}
use Rattle.seat_files.specs.declared.fault.ListKind.TheVariants as kinds

abbrev pub kind_code : ListKind → List ℕ
kind_code kinds.Locator = codes "T1"
kind_code (kinds.Segment fault) = codes "T2"
kind_code kinds.Status = codes "T3"
kind_code kinds.Again = codes "T4"
kind_code kinds.Class = codes "V1"
kind_code kinds.ClassAgain = codes "V2"
kind_code kinds.Seats = codes "V3"
kind_code kinds.Refused = codes "W1"
kind_code kinds.First = codes "K1"
kind_code kinds.Protection = codes "G1"
kind_code kinds.Source = codes "G2"
kind_code kinds.SourceAgain = codes "G3"
kind_code kinds.Target = codes "G4"
kind_code kinds.TargetClass = codes "G5"
kind_code kinds.TargetHeld = codes "G6"

-- behind that of a segment line, what is wrong with it
abbrev pub list_code : ListKind → List ℕ
list_code (kinds.Segment fault) = codes "T2 " ++ line_code fault
list_code kind = kind_code kind

-- the code, a blank and the line
abbrev pub list_text : ListKind → ℕ → List ℕ
list_text kind line = list_code kind ++ codes " " ++ decimal line

abbrev pub carry_code : CarryKind → List ℕ
carry_code carries.Unfinished = codes "CARRY unfinished"
carry_code carries.New = codes "CARRY new"

abbrev pub printed : Fault → List ℕ
printed (Desk fault) = fault_text fault
printed (Shards fault) = shard_text fault
printed (Feed line number) = codes "FEED " ++ decimal line ++ codes " " ++ decimal number
printed (Word fault) = word_text fault
printed (Season fault) = season_text fault
printed (Listed kind line) = list_text kind line
printed (Carry kind) = carry_code kind

-- 2 for the command line, 1 for a feed, a season, a list or what is not carried, else that of the command
abbrev pub exit_status : Fault → ℕ
exit_status (Desk fault) = status_of fault
exit_status (Shards fault) = status_of_shards fault
exit_status (Feed line number) = 1
exit_status (Word fault) = 2
exit_status (Season fault) = 1
exit_status (Listed kind line) = 1
exit_status (Carry kind) = 1
