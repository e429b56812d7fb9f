-- The text of a ladder: entries as F010/000, or F010/000N with the mark, with single blanks between them.
use Rattle.std.specs.Prelude.{◌≡◌, ℕ, ◌+◌, ◌*◌, ◌-◌, ◌/◌, ◌%◌, ◌<◌, ◌≤◌, ◌==◌, ◌&&◌, IsTrue, Bool, true, false, if◌then◌else◌, Option, Some, None, option_map, Result, Ok, Err, List, [], ◌∷◌, ◌++◌, length}
use Rattle.std.specs.Char.{is_ascii_uppercase, is_ascii_digit}
use Rattle.std.specs.List.{AllByRecursion}
use Rattle.seat_nesting.specs.Nesting.{Steps}
use Rattle.seat_nesting.specs.Ladders.{ladder_fault}
use Rattle.seat_nesting.specs.declared.ladder.Step.{Step}
use Rattle.seat_nesting.specs.declared.ladder.LadderFault.{LadderFault}
use Rattle.seat_limits.specs.declared.limit_fault.LimitKind.{LimitKind}
use Rattle.seat_limits.specs.declared.limit_fault.LimitKind.TheVariants.{Entry, Ladder}

-- ---- grammar

-- a number of 0 to 999 in three digits
abbrev pub three_digits : ℕ → List ℕ
three_digits n = (48 + n / 100) ∷ (48 + n / 10 % 10) ∷ (48 + n % 10) ∷ []

-- N where a need is listed
abbrev pub mark_text : Bool → List ℕ
mark_text true = 78 ∷ []
mark_text false = []

-- a class letter, three digits of limit, a stroke, three digits of wait, and the mark
abbrev pub entry_text : Step → List ℕ
entry_text s = s.class ∷ (three_digits s.limit ++ 47 ∷ (three_digits s.wait ++ mark_text s.listed))

-- the entries with single blanks between them
abbrev pub ladder_text : Steps → List ℕ
ladder_text [] = []
ladder_text (s ∷ []) = entry_text s
ladder_text (s ∷ t ∷ lower) = entry_text s ++ 32 ∷ ladder_text (t ∷ lower)

-- what an entry can write: no class is closed in a text of limits
pub record IsEntry (s : Step) : Type 0 where
  pub letter : IsTrue (is_ascii_uppercase s.class)
  pub limit : s.limit ≤ 999
  pub wait : s.wait ≤ 999
  pub open_now : s.closed ≡ false

-- the text is one entry or more, which write these steps
pub record SpellsSteps (text : List ℕ) (steps : Steps) : Type 0 where
  pub some : 0 < length steps
  pub each : AllByRecursion IsEntry steps
  pub written : text ≡ ladder_text steps

-- why a text is no ladder's: it is no list of entries, or its entries have this fault
abbrev pub IsLadderRefusal : List ℕ → LimitKind → Type 0
IsLadderRefusal text Entry = (steps : Steps) → SpellsSteps text steps → ⊥
IsLadderRefusal text (Ladder fault) = (steps : Steps) × SpellsSteps text steps × (ladder_fault steps ≡ Some fault)
IsLadderRefusal text _ = ⊥

-- ---- reading from left to right

-- the number that three digits write
abbrev pub three_in : ℕ → ℕ → ℕ → Option ℕ
three_in a b c =
    if is_ascii_digit a && is_ascii_digit b && is_ascii_digit c then Some ((a - 48) * 100 + (b - 48) * 10 + (c - 48))
    else None

abbrev pub step_in : ℕ → Option ℕ → Option ℕ → Bool → Option Step
step_in class None wait listed = None
step_in class (Some limit) None listed = None
step_in class (Some limit) (Some wait) listed =
    if is_ascii_uppercase class
    then Some (record { class = class; limit = limit; wait = wait; listed = listed; closed = false })
    else None

-- the step that eight bytes write, with the mark or without it
abbrev pub entry_in : ℕ → ℕ → ℕ → ℕ → ℕ → ℕ → ℕ → ℕ → Bool → Option Step
entry_in class a b c stroke d e f listed =
    if stroke == 47 then step_in class (three_in a b c) (three_in d e f) listed else None

-- whether the mark stands at the front, and what follows it
abbrev pub mark_at : List ℕ → Bool × List ℕ
mark_at [] = (false, [])
mark_at (c ∷ rest) = if c == 78 then (true, rest) else (false, c ∷ rest)

-- a step at the front, and what follows it
abbrev pub entry_at : List ℕ → Option (Step × List ℕ)
entry_at (a ∷ b ∷ c ∷ d ∷ e ∷ f ∷ g ∷ h ∷ rest) =
    option_map (λ s. (s, (mark_at rest).1)) (entry_in a b c d e f g h (mark_at rest).0)
entry_at _ = None

abbrev pub with_entry : Option Step → Option Steps → Option Steps
with_entry None lower = None
with_entry (Some s) None = None
with_entry (Some s) (Some lower) = Some (s ∷ lower)

-- the steps of one entry or more
unfoldable pub steps_in : List ℕ → Option Steps
steps_in (a ∷ b ∷ c ∷ d ∷ e ∷ f ∷ g ∷ h ∷ []) = with_entry (entry_in a b c d e f g h false) (Some [])
steps_in (a ∷ b ∷ c ∷ d ∷ e ∷ f ∷ g ∷ h ∷ i ∷ []) =
    with_entry (entry_in a b c d e f g h true) (if i == 78 then Some [] else None)
steps_in (a ∷ b ∷ c ∷ d ∷ e ∷ f ∷ g ∷ h ∷ i ∷ j ∷ rest) =
    if i == 78
    then with_entry (entry_in a b c d e f g h true) (if j == 32 then steps_in rest else None)
    else with_entry (entry_in a b c d e f g h false) (if i == 32 then steps_in (j ∷ rest) else None)
steps_in _ = None

abbrev pub ladder_or : Steps → Option LadderFault → Result Steps LimitKind
ladder_or steps None = Ok steps
ladder_or steps (Some fault) = Err (Ladder fault)

abbrev pub ladder_of : Option Steps → Result Steps LimitKind
ladder_of None = Err Entry
ladder_of (Some steps) = ladder_or steps (ladder_fault steps)

-- the ladder of a text, or the first fault
unfoldable pub ladder_in : List ℕ → Result Steps LimitKind
ladder_in text = ladder_of (steps_in text)
