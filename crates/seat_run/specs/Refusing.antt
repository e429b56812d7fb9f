-- The fault of the desk for one of a run.
use Rattle.std.specs.Prelude.{ℕ}
use Rattle.seat_desk.specs.declared.fault.DeskFault.{DeskFault}
use Rattle.seat_desk.specs.declared.fault.DeskFault.TheVariants.{Book, Memory}
use Rattle.line_booking.specs.declared.booking.BookFault.{BookFault}
use Rattle.line_booking.specs.declared.booking.BookFault.TheVariants.{JournalFull as Full, Memory as NoRoom}
use Rattle.seat_workers.specs.declared.workers.RunFault.{RunFault}

-- a full journal names the session and its call; want of memory names none
abbrev pub call_refusal : ℕ → ℕ → BookFault → DeskFault
call_refusal session call Full = Book session call
call_refusal session call NoRoom = Memory

-- the desk's fault for one of a run
abbrev pub run_refusal : RunFault → DeskFault
run_refusal fault = call_refusal fault.session fault.call fault.refusal.fault
