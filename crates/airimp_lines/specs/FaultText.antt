-- The printed text of a refused line or script.
use Rattle.std.specs.Prelude.{ℕ, List, ◌++◌, codes}
use Rattle.std.specs.Fmt.{decimal}
use Rattle.airimp_lines.specs.declared.fault.LineFault.{LineFault}
use Rattle.airimp_lines.specs.declared.fault.LineFault.TheVariants as faults
use Rattle.airimp_lines.specs.declared.fault.ScriptKind.{ScriptKind}
use Rattle.airimp_lines.specs.declared.fault.ScriptKind.TheVariants as kinds
use Rattle.airimp_lines.specs.declared.fault.ScriptFault.{ScriptFault}

abbrev pub line_code : LineFault → List ℕ
line_code faults.Length = codes "A1"
line_code faults.Airline = codes "A2"
line_code faults.Number = codes "A3"
line_code faults.Class = codes "A4"
line_code faults.Day = codes "A5"
line_code faults.Pair = codes "A6"
line_code faults.Code = codes "A7"
line_code faults.Seats = codes "A8"
line_code faults.Tail = codes "A9"

abbrev pub kind_text : ScriptKind → List ℕ
kind_text kinds.Locator = codes "Q1"
kind_text (kinds.Line fault) = codes "Q2 " ++ line_code fault
kind_text kinds.Memory = codes "Q3"

-- the kind, a blank and the line
abbrev pub fault_text : ScriptFault → List ℕ
fault_text f = kind_text f.kind ++ codes " " ++ decimal f.line
