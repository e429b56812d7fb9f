-- The line of a flight of which something becomes.
use Rattle.std.specs.Prelude.{◌≡◌, ℕ, Bool, true, false, if◌then◌else◌, List, [], ◌∷◌, ◌++◌, decimal, codes}
use Rattle.airline_base.specs.Days.{IsDateText}
use Rattle.airline_base.specs.Fields.{suffix_text}
use Rattle.season_changes.specs.declared.changes.Change.{Change}
use Rattle.season_changes.specs.declared.differing.What.{What}
use Rattle.season_changes.specs.declared.differing.What.TheVariants.{Gone, Added, Outside, Changed}
use Rattle.season_changes.specs.declared.naming.Name.{Name}

-- a part is written behind what was there
pub record IsPutBehind (IsPart : List ℕ → Type 0) (old new : List ℕ) : Type 0 where
  pub part : List ℕ
  pub is_part : IsPart part
  pub written : new ≡ old ++ part

abbrev pub word_if : Bool → List ℕ → List ℕ
word_if holds word = (if holds then word else [])

-- the words for what differs, each with a blank behind it
unfoldable pub changed_text : Bool → Bool → Bool → List ℕ
changed_text legs times limits =
    word_if legs (codes "LEGS ") ++ word_if times (codes "TIMES ") ++ word_if limits (codes "LIMITS ")

-- GONE, ADDED, or what differs
abbrev pub what_text : What → List ℕ
what_text Gone = codes "GONE "
what_text Added = codes "ADDED "
what_text Outside = []
what_text (Changed legs times limits) = changed_text legs times limits

-- the airline, the number without leading zeros, and the suffix
abbrev pub designator_text : Name → List ℕ
designator_text name = name.airline ++ decimal name.number ++ suffix_text name.suffix

abbrev pub is_added : What → Bool
is_added Gone = false
is_added Added = true
is_added Outside = false
is_added (Changed legs times limits) = false

abbrev pub is_outside : What → Bool
is_outside Gone = false
is_outside Added = false
is_outside Outside = true
is_outside (Changed legs times limits) = false

-- the seats on the flight of the old season, where there is a journal
unfoldable pub seats_text : Bool → Change → List ℕ
seats_text has_journal change =
    (if has_journal
    then (if is_added change.what then [] else codes " held " ++ decimal change.held ++ codes " waiting " ++ decimal change.waiting)
    else [])

-- what becomes of the flight, its designator and its day, and the seats
pub record IsChangeLine (has_journal : Bool) (change : Change) (line : List ℕ) : Type 0 where
  pub day : List ℕ
  pub is_day : IsDateText change.name.day day
  pub written : line
      ≡ what_text change.what ++ designator_text change.name ++ codes " " ++ day ++ seats_text has_journal change ++ 10 ∷ []

-- a flight that is not compared has no line
abbrev pub IsPartBy : Bool → Bool → Change → List ℕ → Type 0
IsPartBy true has_journal change part = part ≡ []
IsPartBy false has_journal change part = IsChangeLine has_journal change part

abbrev pub IsChangePart : Bool → Change → List ℕ → Type 0
IsChangePart has_journal change part = IsPartBy (is_outside change.what) has_journal change part
