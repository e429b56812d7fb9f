-- The lines that say why a desk's line is refused.
use Rattle.std.specs.Prelude.{ℕ, List, ◌∷◌, [], ◌++◌, codes, decimal}
use Rattle.desk_lines.specs.FaultText.{wrong_text}
use Rattle.desk_lines.specs.declared.desk.Wrong.{Wrong}
use Rattle.seat_desk.specs.FaultText.{fault_text}
use Rattle.seat_desk.specs.declared.fault.DeskFault.TheVariants.{Book}

-- FAULT and a fault
abbrev pub fault_line : List ℕ → List ℕ
fault_line fault = codes "FAULT " ++ fault ++ 10 ∷ []

-- SESSION LINE, behind a blank
abbrev pub at_line : ℕ → ℕ → List ℕ
at_line session number = codes " " ++ decimal session ++ codes " " ++ decimal number

-- a wrong line: its code, the session and the line
abbrev pub wrong_line : Wrong → ℕ → ℕ → List ℕ
wrong_line wrong session number = fault_line (wrong_text wrong ++ at_line session number)

-- a wrong line that has the number of a call: its code, the session, @ and the call
abbrev pub wrong_call_line : Wrong → ℕ → ℕ → List ℕ
wrong_call_line wrong session call =
    fault_line (wrong_text wrong ++ codes " " ++ decimal session ++ codes " @" ++ decimal call)

-- a call to which a full journal gives no line: B1, the session and the call
abbrev pub full_line : ℕ → ℕ → List ℕ
full_line session call = fault_line (fault_text (Book session call))

-- a line for which memory was wanting
abbrev pub memory_line : ℕ → ℕ → List ℕ
memory_line session number = fault_line (codes "MEMORY" ++ at_line session number)
