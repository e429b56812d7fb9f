-- Limit rows by slots, which are the days of the pairs in one order, and the stretches between the edges of the rows.
use Rattle.std.specs.Prelude.{◌≡◌, ℕ, zero, suc, ◌+◌, ◌*◌, ◌<◌, ◌≤◌, nat_le, nat_lt, Bool, false, ◌&&◌, List, length, Option, Some, None, unwrap_or, slice_get, slice_index_or, All, if◌then◌else◌}
use Rattle.std.specs.List.{Contains}
use Rattle.std.specs.List.Sorted.{IsNonDecreasing}
use Rattle.std.specs.HashMap.{get}
use Rattle.seat_limits.specs.Authorised.{row_pair, same_pair, LastRows, last_below}
use Rattle.seat_limits.specs.declared.limit_row.LimitRow.{LimitRow}
use Rattle.seat_limits.specs.declared.row_index.Pair.{Pair}
use Rattle.seat_limits.specs.declared.row_index.Numbered.{Numbered}
use Rattle.seat_limits.specs.declared.row_index.Near.{Near}

-- ---- slots

-- the slot of a day, which is below 131072, of the pair with this number
abbrev pub slot : ℕ → ℕ → ℕ
slot number day = number * 131072 + day

-- the number of a pair is that of its last row; 0 where it has none
abbrev pub number_of : LastRows → Pair → ℕ
number_of last pair = unwrap_or (get same_pair last pair) 0

-- the pair that is noted, where one is, has a row, and this number
abbrev pub Knows : LastRows → Option Numbered → Type 0
Knows last None = Unit {0}
Knows last (Some known) = get same_pair last known.pair ≡ Some known.number

-- so it is with each place of what was found last
abbrev pub AllKnow : LastRows → List Near → Type 0
AllKnow last nears = All (λ near. Knows last near.known) nears

-- the number that is noted, where it is that of the pair
abbrev pub number_noted : Option Numbered → Pair → Option ℕ
number_noted None pair = None
number_noted (Some known) pair = (if same_pair known.pair pair then Some known.number else None)

-- the slot on which a row begins, and the one on which it has ended
abbrev pub start_of : LastRows → LimitRow → ℕ
start_of last row = slot (number_of last (row_pair row)) row.from

abbrev pub end_of : LastRows → LimitRow → ℕ
end_of last row = slot (number_of last (row_pair row)) row.to + 1

abbrev pub holds_slot : LastRows → ℕ → LimitRow → Bool
holds_slot last at row = nat_le (start_of last row) at && nat_lt at (end_of last row)

abbrev pub passes : (LimitRow → Bool) → Option LimitRow → Bool
passes test None = false
passes test (Some row) = test row

-- the last of the first n rows that passes a test
abbrev pub last_where : (LimitRow → Bool) → List LimitRow → ℕ → Option ℕ
last_where test rows zero = None
last_where test rows (suc n) = (if passes test (slice_get rows n) then Some n else last_where test rows n)

-- ---- edges

-- the start and the end of each row, in ascending order
pub record AreEdges (last : LastRows) (rows : List LimitRow) (edges : List ℕ) : Type 0 where
  pub sorted : IsNonDecreasing edges
  pub starts : All (λ row. Contains edges (start_of last row)) rows
  pub ends : All (λ row. Contains edges (end_of last row)) rows
  pub days : All (λ row. row.to < 131072) rows

-- the first edge that is not below a slot, or the number of edges
pub record IsFirst (edges : List ℕ) (at place : ℕ) : Type 0 where
  pub inside : place ≤ length edges
  pub below : (c : ℕ) → c < place → slice_index_or edges c 0 < at
  pub rest : (c : ℕ) → place ≤ c → c < length edges → at ≤ slice_index_or edges c 0

-- the edge ahead of a place, where there is one, is below a slot
abbrev pub IsBehind : List ℕ → ℕ → ℕ → Type 0
IsBehind edges at place = (c : ℕ) → c + 1 ≡ place → (c < length edges) × (slice_index_or edges c 0 < at)

-- the edge at a place, where there is one, is not
abbrev pub IsAhead : List ℕ → ℕ → ℕ → Type 0
IsAhead edges at place = place < length edges → at ≤ slice_index_or edges place 0

-- ---- stretches: one begins at each edge

-- each stretch has the last row that holds its edge
pub record ShowRows (last : LastRows) (rows : List LimitRow) (edges : List ℕ) (found : List (Option ℕ)) : Type 0 where
  pub counted : length found ≡ length edges
  pub each : (c : ℕ) → c < length edges
      → slice_index_or found c None ≡ last_where (holds_slot last (slice_index_or edges c 0)) rows (length rows)

pub record IsRowIndex (last : LastRows) (edges : List ℕ) (found : List (Option ℕ)) (rows : List LimitRow) : Type 0 where
  pub last_is : (p : Pair) → get same_pair last p ≡ last_below p rows (length rows)
  pub edged : AreEdges last rows edges
  pub shown : ShowRows last rows edges found
