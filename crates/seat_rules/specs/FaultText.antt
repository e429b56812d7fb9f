-- The printed text of a replay's fault.
use Rattle.std.specs.Prelude.{ℕ, List, ◌++◌, codes}
use Rattle.std.specs.Fmt.{decimal}
use Rattle.seat_rules.specs.declared.fault.ReplayFault.{ReplayFault}
use Rattle.seat_rules.specs.declared.fault.ReplayKind.{ReplayKind}
use Rattle.seat_rules.specs.declared.fault.ReplayKind.TheVariants as kinds

abbrev pub code_of : ReplayKind → List ℕ
code_of kinds.BadNumber = codes "P1"
code_of kinds.OtherReply = codes "P2"
code_of kinds.OtherReleased = codes "P3"
code_of kinds.OtherAdvices = codes "P4"
code_of kinds.BadCaller = codes "P5"
code_of kinds.Memory = codes "P6"
code_of kinds.BadCommand = codes "P7"

-- the code and the place, with a blank between
abbrev pub fault_text : ReplayFault → List ℕ
fault_text f = code_of f.kind ++ codes " " ++ decimal f.number
