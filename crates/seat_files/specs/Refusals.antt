-- With which faults a file of a command is refused.
use Rattle.std.specs.Prelude.{Bool, true, false}
use Rattle.seat_desk.specs.declared.fault.DeskFault.TheVariants.{Device, Memory, Seal}
use Rattle.seat_words.specs.declared.fault.WordFault.TheVariants.{BadJournal, BadRefused, BadScripts}
use Rattle.seat_files.specs.declared.fault.Fault.{Fault}
use Rattle.seat_files.specs.declared.fault.Fault.TheVariants.{Desk, Word}
use Rattle.seat_files.specs.declared.file_fault.Failure.{Failure}
use Rattle.seat_files.specs.declared.file_fault.Failure.TheVariants as failures
use Rattle.seat_files.specs.declared.file_fault.FileFault.{FileFault}
use Rattle.seat_files.specs.declared.file_fault.FileFault.TheVariants as faults

-- a device that failed, or a growth that was refused
abbrev pub is_failure : Fault → Bool
is_failure (Desk Device) = true
is_failure (Desk Memory) = true
is_failure _ = false

abbrev pub failure_fault : Failure → Fault
failure_fault failures.Memory = Desk Memory
failure_fault (failures.Device part reason) = Desk Device
failure_fault failures.OutputClosed = Desk Device

-- the same, or a file that may not be the journal's
abbrev pub is_of_file : Fault → Bool
is_of_file (Word BadJournal) = true
is_of_file fault = is_failure fault

abbrev pub file_fault : FileFault → Fault
file_fault (faults.Failed failure) = failure_fault failure
file_fault (faults.Barred bar) = Word BadJournal

-- the fault of a file that may not be that of the refused lines
abbrev pub unlisted : Fault → Fault
unlisted (Word BadJournal) = Word BadRefused
unlisted fault = fault

-- a failure, or a file that may not be that of the refused lines
abbrev pub is_of_list : Fault → Bool
is_of_list (Word BadRefused) = true
is_of_list fault = is_failure fault

-- a failure, or one file as two scripts
abbrev pub is_of_scripts : Fault → Bool
is_of_scripts (Word BadScripts) = true
is_of_scripts fault = is_failure fault

-- one of what stands beside a journal
abbrev pub is_of_seal : Fault → Bool
is_of_seal (Desk (Seal _)) = true
is_of_seal _ = false
