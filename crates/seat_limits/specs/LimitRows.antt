-- Limit rows: their grammar, and their reading with the first fault.
use Rattle.std.specs.Prelude.{◌≡◌, ℕ, ◌≤◌, nat_le, IsTrue, List, [], ◌∷◌, ◌++◌, IfSome, Option, Result, Ok, codes}
use Rattle.std.specs.Char.{is_ascii_uppercase}
use Rattle.std.specs.Str.Lines.{lines}
use Rattle.airline_base.specs.Names.{is_airline, is_station}
use Rattle.airline_base.specs.Days.{IsDayField}
use Rattle.seat_nesting.specs.Nesting.{IsLadder}
use Rattle.airline_base.specs.Chains.{◌>>=◌, want, check}
use Rattle.airline_base.specs.Fields.{byte_at, word_at, fixed_at, numeral_at, IsNumberText, suffix_text}
use Rattle.seat_limits.specs.LadderText.{SpellsSteps, ladder_in}
use Rattle.seat_limits.specs.RowFields.{suffix_at, date_at}
use Rattle.seat_limits.specs.RowTexts.{Reading, each_row, WantsRowRoom}
use Rattle.seat_limits.specs.declared.limit_row.LimitRow.{LimitRow}
use Rattle.seat_limits.specs.declared.row_reading.ReadRow.{ReadRow}
use Rattle.seat_limits.specs.declared.limit_fault.LimitFault.{LimitFault}
use Rattle.seat_limits.specs.declared.limit_fault.LimitKind.{LimitKind}
use Rattle.seat_limits.specs.declared.limit_fault.LimitKind.TheVariants as kinds

-- ---- grammar

-- AU, flight, first and last day, city pair and ladder, with a blank before each but the pair's second city
pub record SpellsRow (line : List ℕ) (row : LimitRow) : Type 0 where
  pub number : List ℕ
  pub from : List ℕ
  pub to : List ℕ
  pub entries : List ℕ
  pub written : line ≡ 65 ∷ 85 ∷ 32
      ∷ (row.airline ++ (number ++ (suffix_text row.suffix ++ 32
      ∷ (from ++ 32 ∷ (to ++ 32 ∷ (row.board ++ (row.off ++ 32 ∷ entries)))))))
  pub is_airline : IsTrue (is_airline row.airline)
  pub is_number : IsNumberText 4 number row.number
  pub is_suffix : IfSome row.suffix (λ c. IsTrue (is_ascii_uppercase c))
  pub is_from : IsDayField from row.from
  pub is_to : IsDayField to row.to
  pub in_order : row.from ≤ row.to
  pub is_board : IsTrue (is_station row.board)
  pub is_off : IsTrue (is_station row.off)
  pub spells_ladder : SpellsSteps entries row.ladder
  pub is_ladder : IsLadder row.ladder

-- each line that is not empty spells a row
abbrev pub SpellsRows : List (List ℕ) → List LimitRow → Type 0
SpellsRows [] [] = Unit {0}
SpellsRows [] (row ∷ rows) = ⊥
SpellsRows ([] ∷ texts) rows = SpellsRows texts rows
SpellsRows ((c ∷ text) ∷ texts) [] = ⊥
SpellsRows ((c ∷ text) ∷ texts) (row ∷ rows) = SpellsRow (c ∷ text) row × SpellsRows texts rows

-- the text of limit rows, in lines that end with LF, with CR LF or where the bytes end
pub record IsLimitText (bytes : List ℕ) (rows : List LimitRow) : Type 0 where
  pub spelled : SpellsRows (lines bytes) rows

-- ---- reading from left to right

-- a row that is read, as it is kept
abbrev pub packed : ReadRow → LimitRow
packed row = record {
  airline = row.airline;
  number = row.number;
  suffix = row.suffix;
  from = row.from;
  to = row.to;
  board = row.board;
  off = row.off;
  ladder = row.ladder;
}

-- what stands behind the period
abbrev pub row_behind_period : List ℕ → ℕ → Option ℕ → ℕ → ℕ → List ℕ → Result LimitRow LimitKind
row_behind_period airline number suffix from to pair = do
  board ← want kinds.Pair (fixed_at 3 is_station pair)
  off ← want kinds.Pair (fixed_at 3 is_station board.1)
  entries ← want kinds.Entry (byte_at 32 off.1)
  ladder ← ladder_in entries
  Ok (record {
    airline = airline;
    number = number;
    suffix = suffix;
    from = from;
    to = to;
    board = board.0;
    off = off.0;
    ladder = ladder;
  })

-- what stands behind the flight
abbrev pub row_behind_flight : List ℕ → ℕ → Option ℕ → List ℕ → Result LimitRow LimitKind
row_behind_flight airline number suffix period = do
  from ← want kinds.Period (date_at period)
  second ← want kinds.Period (byte_at 32 from.1)
  to ← want kinds.Period (date_at second)
  pair ← want kinds.Period (byte_at 32 to.1)
  _ ← check kinds.Period (nat_le from.0 to.0)
  row_behind_period airline number suffix from.0 to.0 pair

unfoldable pub row_at : List ℕ → Result LimitRow LimitKind
row_at line = do
  head ← want kinds.Head (word_at (codes "AU ") line)
  airline ← want kinds.Flight (fixed_at 2 is_airline head)
  number ← want kinds.Flight (numeral_at 4 airline.1)
  period ← want kinds.Flight (byte_at 32 (suffix_at number.1).1)
  row_behind_flight airline.0 number.0 (suffix_at number.1).0 period

-- a row says nothing of its line's number
abbrev pub numbered : Reading LimitRow
numbered n = row_at

-- the rows of the lines, which are counted from n, or the first line with a fault and its first fault
unfoldable pub rows_in : ℕ → List (List ℕ) → Result (List LimitRow) LimitFault
rows_in n texts = each_row numbered n texts

-- the lines before this one have no fault, and this one spells a row, for which room is wanted
abbrev pub WantsRoom : List ℕ → ℕ → Type 0
WantsRoom bytes line = WantsRowRoom numbered bytes line
