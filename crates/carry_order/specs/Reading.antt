-- The list of the locators that keep their seats first: one a line.
use Rattle.std.specs.Prelude.{◌≡◌, ◌==◌, ◌+◌, ℕ, Bool, true, false, List, [], ◌∷◌, ◌++◌, Option, Some, None, Result, Ok, Err, if◌then◌else◌}
use Rattle.std.specs.List.{list_all}
use Rattle.std.specs.Str.Lines.{lines}
use Rattle.airline_base.specs.Fields.{fixed_at}
use Rattle.airline_base.specs.Names.{is_locator}
use Rattle.carry_order.specs.declared.reading.OrderFault.{OrderFault}
use Rattle.carry_order.specs.declared.reading.OrderFault.TheVariants.{Line, Memory}

-- nothing but blanks
abbrev pub is_blank : List ℕ → Bool
is_blank text = list_all (λ c. c == 32) text

abbrev pub if_last : List ℕ → List ℕ → Option (List ℕ)
if_last locator [] = Some locator
if_last locator (c ∷ rest) = None

abbrev pub alone : Option (List ℕ × List ℕ) → Option (List ℕ)
alone None = None
alone (Some found) = if_last found.0 found.1

-- the locator that a line is: six letters or digits, and nothing behind them
abbrev pub locator_in : List ℕ → Option (List ℕ)
locator_in text = alone (fixed_at 6 is_locator text)

abbrev pub one_more : List (List ℕ) → Option (List ℕ) → Option (List (List ℕ))
one_more ahead None = None
one_more ahead (Some locator) = Some (ahead ++ locator ∷ [])

-- the locators ahead of a line and its own; a blank line has none
abbrev pub with_line : List ℕ → List (List ℕ) → Option (List (List ℕ))
with_line text ahead = (if is_blank text then Some ahead else one_more ahead (locator_in text))

abbrev pub behind_line : ℕ → (List (List ℕ) → Result (List (List ℕ)) ℕ) → Option (List (List ℕ)) → Result (List (List ℕ)) ℕ
behind_line line more None = Err line
behind_line line more (Some all) = more all

-- the locators of these lines behind those ahead, or the number of the first line that is none
abbrev pub order_from : List (List ℕ) → ℕ → List (List ℕ) → Result (List (List ℕ)) ℕ
order_from ahead line [] = Ok ahead
order_from ahead line (text ∷ texts) = behind_line line (λ all. order_from all (line + 1) texts) (with_line text ahead)

-- what a list says: the locators of its lines in order, or its first wrong line, counted from 1
abbrev pub order_in : List ℕ → Result (List (List ℕ)) ℕ
order_in bytes = order_from [] 1 (lines bytes)

-- ---- why a list is refused

abbrev pub IsFaultOf : List ℕ → OrderFault → Type 0
IsFaultOf bytes (Line line) = order_in bytes ≡ Err line
IsFaultOf bytes Memory = Unit {0}

-- the line is neither blank nor a locator
abbrev pub IsLineFault : List ℕ → ℕ → OrderFault → Type 0
IsLineFault text line (Line n) = (n ≡ line) × (is_blank text ≡ false) × (locator_in text ≡ None)
IsLineFault text line Memory = Unit {0}
