-- What is printed of a fault of two seasons.
use Rattle.std.specs.Prelude.{Bool, true, false}
use Rattle.seat_desk.specs.declared.fault.DeskFault.{DeskFault}
use Rattle.seat_desk.specs.declared.fault.DeskFault.TheVariants.{Set, Flight, Limit}
use Rattle.seat_shards.specs.Faults.{placed}
use Rattle.seat_shards.specs.declared.fault.ShardFault.{ShardFault}
use Rattle.seat_shards.specs.declared.fault.ShardFault.TheVariants.{Desk, Journal}

-- of the old season: one of its set or its limits stands behind its place, and what else is wrong stands alone
abbrev pub of_old : DeskFault → ShardFault
of_old (Set fault) = Journal 1 (Set fault)
of_old (Flight fault) = Journal 1 (Flight fault)
of_old (Limit fault) = Journal 1 (Limit fault)
of_old fault = Desk fault

-- of the new one: it stands behind its place, but a device and memory say nothing about it
abbrev pub shown : Bool → DeskFault → ShardFault
shown true fault = placed 2 fault
shown false fault = of_old fault
