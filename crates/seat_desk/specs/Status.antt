-- Exit statuses.
use Rattle.std.specs.Prelude.{ℕ}
use Rattle.seat_desk.specs.declared.fault.DeskFault.{DeskFault}
use Rattle.seat_desk.specs.declared.fault.DeskFault.TheVariants.{NoLine, NoBehind, Device, Memory}

-- 2 for a line that is asked for and not there, 3 for a device or memory, 1 for an input that is refused
abbrev pub status_of : DeskFault → ℕ
status_of NoLine = 2
status_of NoBehind = 2
status_of Device = 3
status_of Memory = 3
status_of _ = 1
