-- A row that says where bookings go: a flight, a day and a pair of stations, another flight and its day, and classes where they differ.
use Rattle.std.specs.Prelude.{◌≡◌, ◌==◌, ◌&&◌, ◌||◌, ℕ, Bool, true, false, List, [], ◌∷◌, ◌++◌, take, drop, Option, Some, None, option_map, if◌then◌else◌}
use Rattle.std.specs.Char.{is_ascii_uppercase}
use Rattle.airline_base.specs.Days.{date_in}
use Rattle.airline_base.specs.Fields.{◌>>=◌, Field, byte_at, fixed_at, numeral_at}
use Rattle.airline_base.specs.Names.{is_airline, is_station}
use Rattle.ssim_flights.specs.declared.flight.Wanted.{Wanted}
use Rattle.carry_protections.specs.declared.course.CourseKind.{CourseKind}
use Rattle.carry_protections.specs.declared.course.CourseKind.TheVariants as kinds
use Rattle.carry_protections.specs.declared.row.ClassPair.{ClassPair}
use Rattle.carry_protections.specs.declared.row.Heading.{Heading}
use Rattle.carry_protections.specs.declared.row.NamedDay.{NamedDay}

-- ---- the two flights

-- a letter, if there is one
abbrev pub suffix_at : List ℕ → Option ℕ × List ℕ
suffix_at [] = (None, [])
suffix_at (c ∷ rest) = if is_ascii_uppercase c then (Some c, rest) else (None, c ∷ rest)

abbrev pub with_rest : List ℕ → ℕ → ℕ × List ℕ
with_rest rest n = (n, rest)

-- DDMMMYY
unfoldable pub date_at : List ℕ → Field ℕ
date_at bytes = option_map (with_rest (drop 7 bytes)) (date_in (take 7 bytes))

-- a flight's name, a blank and a day
unfoldable pub named_day_at : List ℕ → Field NamedDay
named_day_at text = do
  airline ← fixed_at 2 is_airline text
  number ← numeral_at 4 airline.1
  rest ← byte_at 32 (suffix_at number.1).1
  day ← date_at rest
  Some (record { airline = airline.0; number = number.0; suffix = (suffix_at number.1).0; day = day.0 }, day.1)

abbrev pub wanted_on : NamedDay → List ℕ → List ℕ → Wanted
wanted_on n board off =
    record { airline = n.airline; number = n.number; suffix = n.suffix; day = n.day; board = board; off = off }

-- a flight and a day, a pair of stations, and another flight and its day between the same stations
unfoldable pub heading_at : List ℕ → Field Heading
heading_at text = do
  from ← named_day_at text
  rest ← byte_at 32 from.1
  board ← fixed_at 3 is_station rest
  off ← fixed_at 3 is_station board.1
  behind ← byte_at 32 off.1
  to ← named_day_at behind
  Some (record { from = wanted_on from.0 board.0 off.0; to = wanted_on to.0 board.0 off.0 }, to.1)

-- ---- classes

abbrev pub class_in : ℕ → Option ℕ
class_in letter = (if is_ascii_uppercase letter then Some letter else None)

abbrev pub pair_with : ℕ → Option ℕ → Option ClassPair
pair_with old None = None
pair_with old (Some new) = Some (record { old = old; new = new })

abbrev pub pair_of : Option ℕ → Option ℕ → Option ClassPair
pair_of None new = None
pair_of (Some old) new = pair_with old new

-- a blank, a class, `=` and another class
abbrev pub pair_at : ℕ → ℕ → ℕ → ℕ → Option ClassPair
pair_at blank old sign new = (if (blank == 32) && (sign == 61) then pair_of (class_in old) (class_in new) else None)

abbrev pub is_named : ℕ → List ClassPair → Bool
is_named class [] = false
is_named class (p ∷ pairs) = (p.old == class) || is_named class pairs

-- no class is named twice
abbrev pub with_pair : List ClassPair → (List ClassPair → Option (List ClassPair)) → Option ClassPair → Option (List ClassPair)
with_pair ahead more None = None
with_pair ahead more (Some p) = (if is_named p.old ahead then None else more (ahead ++ p ∷ []))

-- the pairs of classes that a text is, behind those ahead
abbrev pub classes_from : List ClassPair → List ℕ → Option (List ClassPair)
classes_from ahead [] = Some ahead
classes_from ahead (a ∷ []) = None
classes_from ahead (a ∷ b ∷ []) = None
classes_from ahead (a ∷ b ∷ c ∷ []) = None
classes_from ahead (a ∷ b ∷ c ∷ d ∷ rest) = with_pair ahead (λ all. classes_from all rest) (pair_at a b c d)

-- the first pair, and what follows it
abbrev pub behind_pair : List ℕ → ClassPair → ClassPair × List ℕ
behind_pair rest p = (p, rest)

abbrev pub first_pair : List ℕ → Option (ClassPair × List ℕ)
first_pair [] = None
first_pair (a ∷ []) = None
first_pair (a ∷ b ∷ []) = None
first_pair (a ∷ b ∷ c ∷ []) = None
first_pair (a ∷ b ∷ c ∷ d ∷ rest) = option_map (behind_pair rest) (pair_at a b c d)

-- the text is no pairs of classes, or names one twice; or memory was wanting
abbrev pub IsClassesFault : List ℕ → CourseKind → Type 0
IsClassesFault text kinds.Form = classes_from [] text ≡ None
IsClassesFault text kinds.Memory = Unit {0}
IsClassesFault text kinds.Source = ⊥
IsClassesFault text kinds.Again = ⊥
IsClassesFault text kinds.Target = ⊥
IsClassesFault text kinds.Unsold = ⊥
IsClassesFault text kinds.Twice = ⊥
