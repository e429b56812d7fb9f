-- Change rows: what the manager sets on the leg of a flight between two cities on one day, or on each leg of that day. A class gets another limit and wait, or a class, or each, is closed or opened.
use Rattle.std.specs.Prelude.{◌≡◌, ℕ, ◌+◌, ◌==◌, IsTrue, Bool, true, false, if◌then◌else◌, List, [], ◌∷◌, ◌++◌, Option, Some, None, IfSome, Result, Ok, Err, codes}
use Rattle.std.specs.Char.{is_ascii_uppercase}
use Rattle.std.specs.Str.Lines.{lines}
use Rattle.airline_base.specs.Names.{is_airline, is_station}
use Rattle.airline_base.specs.Days.{IsDayField}
use Rattle.airline_base.specs.Chains.{◌>>=◌, want}
use Rattle.airline_base.specs.Fields.{Field, byte_at, word_at, fixed_at, numeral_at, IsNumberText, suffix_text}
use Rattle.seat_limits.specs.LadderText.{IsEntry, entry_text, entry_at}
use Rattle.seat_limits.specs.RowFields.{suffix_at, date_at}
use Rattle.seat_limits.specs.RowTexts.{each_row, WantsRowRoom}
use Rattle.seat_nesting.specs.declared.ladder.Step.{Step}
use Rattle.seat_limits.specs.declared.change_reading.Verb.{Verb}
use Rattle.seat_limits.specs.declared.change_reading.Verb.TheVariants as verbs
use Rattle.seat_limits.specs.declared.change_row.ChangeRow.{ChangeRow}
use Rattle.seat_limits.specs.declared.change_row.Cities.{Cities}
use Rattle.seat_limits.specs.declared.change_row.RowSetting.{RowSetting}
use Rattle.seat_limits.specs.declared.change_row.RowSetting.TheVariants.{SetLimit, SetSale}
use Rattle.seat_limits.specs.declared.limit_fault.LimitFault.{LimitFault}
use Rattle.seat_limits.specs.declared.limit_fault.LimitKind.{LimitKind}
use Rattle.seat_limits.specs.declared.limit_fault.LimitKind.TheVariants as kinds

-- ---- grammar

-- the word with which a row begins, and the blank behind it
abbrev pub verb_text : Verb → List ℕ
verb_text verbs.Change = codes "AU "
verb_text verbs.Close = codes "CLOSE "
verb_text verbs.Open = codes "OPEN "

abbrev pub sale_verb : Bool → Verb
sale_verb true = verbs.Close
sale_verb false = verbs.Open

abbrev pub verb_of : RowSetting → Verb
verb_of (SetLimit class limit wait) = verbs.Change
verb_of (SetSale class closed) = sale_verb closed

-- the class with its limit and wait, without the mark
abbrev pub step_with : ℕ → ℕ → ℕ → Step
step_with class limit wait = record { class = class; limit = limit; wait = wait; listed = false; closed = false }

-- a blank and the city pair, where there is one
abbrev pub cities_text : Option Cities → List ℕ
cities_text None = []
cities_text (Some pair) = 32 ∷ (pair.board ++ pair.off)

-- a blank and the class, where one is named
abbrev pub class_text : Option ℕ → List ℕ
class_text None = []
class_text (Some class) = 32 ∷ class ∷ []

-- a blank and one entry, or the class that is closed or opened
abbrev pub setting_text : RowSetting → List ℕ
setting_text (SetLimit class limit wait) = 32 ∷ entry_text (step_with class limit wait)
setting_text (SetSale class closed) = class_text class

-- what stands behind the day
abbrev pub tail_text : Option Cities → RowSetting → List ℕ
tail_text cities setting = cities_text cities ++ setting_text setting

pub record AreCities (pair : Cities) : Type 0 where
  pub board : IsTrue (is_station pair.board)
  pub off : IsTrue (is_station pair.off)

-- a limit is set between two cities; classes are closed and opened there or on each leg
abbrev pub IsTail : RowSetting → Option Cities → Type 0
IsTail (SetLimit class limit wait) None = ⊥
IsTail (SetLimit class limit wait) (Some pair) = AreCities pair × IsEntry (step_with class limit wait)
IsTail (SetSale class closed) cities = IfSome cities AreCities × IfSome class (λ k. IsTrue (is_ascii_uppercase k))

-- the line of this number: AU, flight, day, city pair and one entry; or CLOSE or OPEN, flight, day, and the city pair and the class where they are named; with a blank before each but the pair's second city
pub record SpellsChange (line : ℕ) (text : List ℕ) (row : ChangeRow) : Type 0 where
  pub line_is : row.line ≡ line
  pub number : List ℕ
  pub day : List ℕ
  pub written : text ≡ verb_text (verb_of row.setting)
      ++ (row.airline ++ (number ++ (suffix_text row.suffix ++ 32 ∷ (day ++ tail_text row.cities row.setting))))
  pub is_airline : IsTrue (is_airline row.airline)
  pub is_number : IsNumberText 4 number row.number
  pub is_suffix : IfSome row.suffix (λ c. IsTrue (is_ascii_uppercase c))
  pub is_day : IsDayField day row.day
  pub is_tail : IsTail row.setting row.cities

-- each line that is not empty spells a row; they are counted from n
abbrev pub SpellsChanges : ℕ → List (List ℕ) → List ChangeRow → Type 0
SpellsChanges n [] [] = Unit {0}
SpellsChanges n [] (row ∷ rows) = ⊥
SpellsChanges n ([] ∷ texts) rows = SpellsChanges (n + 1) texts rows
SpellsChanges n ((c ∷ text) ∷ texts) [] = ⊥
SpellsChanges n ((c ∷ text) ∷ texts) (row ∷ rows) = SpellsChange n (c ∷ text) row × SpellsChanges (n + 1) texts rows

-- the text of change rows, in lines that end with LF, with CR LF or where the bytes end
pub record IsChangeText (bytes : List ℕ) (rows : List ChangeRow) : Type 0 where
  pub spelled : SpellsChanges 1 (lines bytes) rows

-- ---- reading from left to right

abbrev pub verb_from : Option (List ℕ) → Option (List ℕ) → Option (List ℕ) → Field Verb
verb_from (Some rest) b c = Some (verbs.Change, rest)
verb_from None (Some rest) c = Some (verbs.Close, rest)
verb_from None None (Some rest) = Some (verbs.Open, rest)
verb_from None None None = None

-- the word at the front
unfoldable pub verb_at : List ℕ → Field Verb
verb_at text = verb_from (word_at (codes "AU ") text) (word_at (codes "CLOSE ") text) (word_at (codes "OPEN ") text)

-- an entry without the mark, behind which nothing follows
abbrev pub alone : Option (Step × List ℕ) → Option Step
alone None = None
alone (Some (s, [])) = if s.listed then None else Some s
alone (Some (s, c ∷ rest)) = None

-- where something is set, and what
abbrev pub Tail : Type 0
Tail = Option Cities × RowSetting

-- a city pair and an entry
unfoldable pub limit_tail : List ℕ → Result Tail LimitKind
limit_tail bytes = do
  pair ← want kinds.Period (byte_at 32 bytes)
  board ← want kinds.Pair (fixed_at 3 is_station pair)
  off ← want kinds.Pair (fixed_at 3 is_station board.1)
  entry ← want kinds.Entry (byte_at 32 off.1)
  step ← want kinds.Entry (alone (entry_at entry))
  Ok (Some (record { board = board.0; off = off.0 }), SetLimit step.class step.limit step.wait)

-- a class behind a blank, or nothing
abbrev pub class_in : List ℕ → Option (Option ℕ)
class_in [] = Some None
class_in (c ∷ []) = None
class_in (c ∷ k ∷ []) = if c == 32 then (if is_ascii_uppercase k then Some (Some k) else None) else None
class_in (c ∷ k ∷ d ∷ rest) = None

-- a city pair, and a class or none
unfoldable pub between : Bool → List ℕ → Result Tail LimitKind
between closed bytes = do
  board ← want kinds.Pair (fixed_at 3 is_station bytes)
  off ← want kinds.Pair (fixed_at 3 is_station board.1)
  class ← want kinds.Entry (class_in off.1)
  Ok (Some (record { board = board.0; off = off.0 }), SetSale class closed)

-- one letter is a class
abbrev pub behind_blank : Bool → List ℕ → Result Tail LimitKind
behind_blank closed [] = Err kinds.Pair
behind_blank closed (k ∷ []) =
    if is_ascii_uppercase k then Ok (None, SetSale (Some k) closed) else Err kinds.Pair
behind_blank closed (a ∷ b ∷ rest) = between closed (a ∷ b ∷ rest)

-- a city pair or none, and a class or none
unfoldable pub sale_tail : Bool → List ℕ → Result Tail LimitKind
sale_tail closed [] = Ok (None, SetSale None closed)
sale_tail closed (c ∷ rest) = if c == 32 then behind_blank closed rest else Err kinds.Period

-- what stands behind the day
abbrev pub tail_at : Verb → List ℕ → Result Tail LimitKind
tail_at verbs.Change bytes = limit_tail bytes
tail_at verbs.Close bytes = sale_tail true bytes
tail_at verbs.Open bytes = sale_tail false bytes

unfoldable pub change_at : ℕ → List ℕ → Result ChangeRow LimitKind
change_at line text = do
  verb ← want kinds.Head (verb_at text)
  airline ← want kinds.Flight (fixed_at 2 is_airline verb.1)
  number ← want kinds.Flight (numeral_at 4 airline.1)
  period ← want kinds.Flight (byte_at 32 (suffix_at number.1).1)
  day ← want kinds.Period (date_at period)
  tail ← tail_at verb.0 day.1
  Ok (record {
    line = line;
    airline = airline.0;
    number = number.0;
    suffix = (suffix_at number.1).0;
    day = day.0;
    cities = tail.0;
    setting = tail.1;
  })

-- the rows of the lines, which are counted from n, or the first line with a fault and its first fault
unfoldable pub changes_in : ℕ → List (List ℕ) → Result (List ChangeRow) LimitFault
changes_in n texts = each_row change_at n texts

-- the lines before this one have no fault, and this one spells a row, for which room is wanted
abbrev pub WantsChangeRoom : List ℕ → ℕ → Type 0
WantsChangeRoom bytes line = WantsRowRoom change_at bytes line
