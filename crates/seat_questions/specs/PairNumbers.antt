-- The numbers of the pairs of limit rows.
use Rattle.std.specs.Prelude.{◌≡◌, ◌<◌, ℕ, true, List, slice_get, Some, unwrap_or}
use Rattle.std.specs.HashMap.{HashMap, get}
use Rattle.std.specs.declared.hash.FoldHasher.{FoldHasher}
use Rattle.std.specs.declared.hash.BuildHasherDefault.{BuildHasherDefault}
use Rattle.seat_limits.specs.Authorised.{row_pair, same_pair}
use Rattle.seat_limits.specs.declared.limit_row.LimitRow.{LimitRow}
use Rattle.seat_limits.specs.declared.row_index.Pair.{Pair}

abbrev pub Numbers : Type 0
Numbers = HashMap Pair ℕ (BuildHasherDefault FoldHasher)

-- the pair has a number
pub record HasNumber (last : Numbers) (pair : Pair) : Type 0 where
  pub number : ℕ
  pub is : get same_pair last pair ≡ Some number

-- the row with this number, of the first n, is of the pair
pub record IsRowOf (rows : List LimitRow) (n number : ℕ) (pair : Pair) : Type 0 where
  pub row : LimitRow
  pub within : number < n
  pub at : slice_get rows number ≡ Some row
  pub of_pair : same_pair (row_pair row) pair ≡ true

-- the pair of each of the first n rows has a number, and each number is that of a row of its pair
pub record AreNumbered (last : Numbers) (rows : List LimitRow) (n : ℕ) : Type 0 where
  pub each : (i : ℕ) (row : LimitRow) → i < n → slice_get rows i ≡ Some row → HasNumber last (row_pair row)
  pub own : (pair : Pair) (number : ℕ) → get same_pair last pair ≡ Some number → IsRowOf rows n number pair

-- the number of a pair, and for one without rows a number that none has
abbrev pub number_of : Numbers → ℕ → Pair → ℕ
number_of last count pair = unwrap_or (get same_pair last pair) count
