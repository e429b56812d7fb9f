-- The printed text of a refused limit row.
use Rattle.std.specs.Prelude.{ℕ, List, ◌++◌, codes}
use Rattle.std.specs.Fmt.{decimal}
use Rattle.seat_limits.specs.declared.limit_fault.LimitKind.{LimitKind}
use Rattle.seat_limits.specs.declared.limit_fault.LimitKind.TheVariants as kinds
use Rattle.seat_limits.specs.declared.limit_fault.LimitFault.{LimitFault}
use Rattle.seat_nesting.specs.FaultText.{ladder_code}

-- the code
abbrev pub kind_code : LimitKind → List ℕ
kind_code kinds.Head = codes "M1"
kind_code kinds.Flight = codes "M2"
kind_code kinds.Period = codes "M3"
kind_code kinds.Pair = codes "M4"
kind_code kinds.Entry = codes "M5"
kind_code (kinds.Ladder fault) = codes "M6"
kind_code kinds.Memory = codes "M7"

-- the code, and behind M6 the ladder's own
abbrev pub kind_text : LimitKind → List ℕ
kind_text kinds.Head = codes "M1"
kind_text kinds.Flight = codes "M2"
kind_text kinds.Period = codes "M3"
kind_text kinds.Pair = codes "M4"
kind_text kinds.Entry = codes "M5"
kind_text (kinds.Ladder fault) = codes "M6 " ++ ladder_code fault
kind_text kinds.Memory = codes "M7"

-- the kind, a blank and the line
abbrev pub fault_text : LimitFault → List ℕ
fault_text f = kind_text f.kind ++ codes " " ++ decimal f.line
