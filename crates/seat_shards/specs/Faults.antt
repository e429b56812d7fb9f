-- What is printed of a fault of several journals, and its exit status.
use Rattle.std.specs.Prelude.{ℕ, List, ◌++◌, codes}
use Rattle.std.specs.Fmt.{decimal}
use Rattle.seat_desk.specs.FaultText.{fault_text}
use Rattle.seat_desk.specs.Desk.{IsOfInput}
use Rattle.seat_desk.specs.Status.{status_of}
use Rattle.seat_desk.specs.declared.fault.DeskFault.{DeskFault}
use Rattle.seat_desk.specs.declared.fault.DeskFault.TheVariants.{Device, Memory}
use Rattle.seat_shards.specs.declared.fault.ShardFault.{ShardFault}
use Rattle.seat_shards.specs.declared.fault.ShardFault.TheVariants.{Desk, Journal, Shared}

-- the text of a fault of one journal stands behind the journal's place
abbrev pub shard_text : ShardFault → List ℕ
shard_text (Desk fault) = fault_text fault
shard_text (Journal place fault) = decimal place ++ codes ": " ++ fault_text fault
shard_text (Shared place number other) =
    decimal place ++ codes ": P9 " ++ decimal number ++ codes " " ++ decimal other

-- a journal that is refused is 1
abbrev pub status_of_shards : ShardFault → ℕ
status_of_shards (Desk fault) = status_of fault
status_of_shards (Journal place fault) = 1
status_of_shards (Shared place number other) = 1

-- a device and memory say nothing about the journal at this place
abbrev pub placed : ℕ → DeskFault → ShardFault
placed place Device = Desk Device
placed place Memory = Desk Memory
placed place fault = Journal place fault

-- what is wrong is a journal, by itself or beside the others
abbrev pub IsOfJournal : ShardFault → Type 0
IsOfJournal (Desk fault) = ⊥
IsOfJournal _ = Unit {0}

-- and a device or memory beside that
abbrev pub IsOfJournals : ShardFault → Type 0
IsOfJournals (Desk Device) = Unit {0}
IsOfJournals (Desk Memory) = Unit {0}
IsOfJournals (Desk _) = ⊥
IsOfJournals _ = Unit {0}

-- what is wrong is an input itself
abbrev pub IsOfShards : ShardFault → Type 0
IsOfShards (Desk fault) = IsOfInput fault
IsOfShards _ = Unit {0}
