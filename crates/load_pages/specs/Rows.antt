-- The rows of a table: a row for each flight and pair of stations, and in it a cell for each leg under its day.
use Rattle.std.specs.Prelude.{ℕ, ◌+◌, ◌-◌, ◌*◌, ◌/◌, ◌==◌, ◌&&◌, min, nat_eq, nat_lt, Bool, true, false, if◌then◌else◌, List, [], ◌∷◌, ◌++◌, decimal, codes, Option, Some, None}
use Rattle.std.specs.Cmp.Lexicographic.{pointwise}
use Rattle.std.specs.Option.{option_eq}
use Rattle.airline_base.specs.Fields.{suffix_text}
use Rattle.load_pages.specs.Marks.{mark_text}
use Rattle.load_pages.specs.declared.load.LegLoad.{LegLoad}
use Rattle.load_pages.specs.declared.marks.Mark.TheVariants.{Row, Gap, Close}

-- the tenths of the limit that are held, rounded down and at most 10; 0 of none
abbrev pub tenths : ℕ → ℕ → ℕ
tenths seats limit = (if limit == 0 then 0 else min (seats * 10 / limit) 10)

-- a colour by tenths, and HELD of LIMIT
abbrev pub load_text : LegLoad → List ℕ
load_text load =
    codes "<td class=s" ++ decimal (tenths load.held load.limit) ++ codes ">" ++ decimal load.held ++ codes " of " ++ decimal load.limit

-- days without such a leg, as one empty cell
abbrev pub gap_text : ℕ → List ℕ
gap_text days = (if days == 0 then [] else mark_text Gap ++ decimal days ++ mark_text Close)

-- the airline, the number without leading zeros, and the suffix
abbrev pub designator_text : LegLoad → List ℕ
designator_text load = load.airline ++ decimal load.number ++ suffix_text load.suffix

-- DESIGNATOR BOARD OFF
abbrev pub name_text : LegLoad → List ℕ
name_text load = designator_text load ++ codes " " ++ load.board ++ codes " " ++ load.off

-- a row of its own, whose days are counted from the first
abbrev pub opening_text : ℕ → LegLoad → List ℕ
opening_text first load = mark_text Row ++ name_text load ++ gap_text (load.day - first) ++ load_text load

-- the same flight and stations, on a later day
abbrev pub goes_on : LegLoad → LegLoad → Bool
goes_on last load =
    pointwise nat_eq last.airline load.airline && (last.number == load.number) && option_eq nat_eq last.suffix load.suffix
    && pointwise nat_eq last.board load.board && pointwise nat_eq last.off load.off && nat_lt last.day load.day

-- in the row of the leg ahead of it
abbrev pub next_text : LegLoad → LegLoad → List ℕ
next_text last load = gap_text (load.day - (last.day + 1)) ++ load_text load

-- behind the leg ahead of it: in its row, or in one of its own
abbrev pub behind_text : ℕ → LegLoad → LegLoad → List ℕ
behind_text first last load = (if goes_on last load then next_text last load else opening_text first load)

abbrev pub cell_text : ℕ → Option LegLoad → LegLoad → List ℕ
cell_text first None load = opening_text first load
cell_text first (Some last) load = behind_text first last load

-- the legs in order, each behind the one ahead of it
abbrev pub rows_text : ℕ → Option LegLoad → List LegLoad → List ℕ
rows_text first last [] = []
rows_text first last (load ∷ loads) = cell_text first last load ++ rows_text first (Some load) loads
