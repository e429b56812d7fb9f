-- The table that is shown, and its rule. No code keeps the list of entries behind it.
use Rattle.std.specs.Prelude.{◌≡◌, ℕ, suc, ◌+◌, ◌<◌, ◌^◌, Bool, List, [], ◌∷◌, ◌++◌, length, map, nat_lt, if◌then◌else◌, true, false, Option, option_map, IfSome}
use mathlib.Core.Option.{some}
use lib.ListN.{get_elem?}
use Rattle.logbook.specs.Pages.{Book}
use Rattle.seat_nesting.specs.Nesting.{Ladders, Steps, ByClass, Table as HeldSeats}
use Rattle.seat_nesting.specs.Counting.{LegSeats, Counted}
use Rattle.seat_journal.specs.declared.entry.Entry.{Entry}
use Rattle.seat_rules.specs.Journal.{IsLegal, replay}
use Rattle.seat_rules.specs.Showing.{Standing, shown, standing_left, standing_of}
use Rattle.seat_display.specs.declared.table.Table.{Table}
use Rattle.seat_display.specs.declared.table.Op.{Op}
use Rattle.seat_display.specs.declared.table.Op.TheVariants.{Line, Mark}
use Rattle.seat_display.specs.declared.table.View.{View}
use Rattle.seat_display.specs.declared.opening.Shows.{Shows}
use Rattle.seat_display.specs.declared.opening.Shows.TheVariants.{Rooms, Lines}

-- whether the tables of a display have counters
abbrev pub has_rooms : Shows → Bool
has_rooms Rooms = true
has_rooms Lines = false

-- ---- counters written from limits and seats, so that equal seats are equal counters

abbrev pub leg_seats : Steps → ByClass → LegSeats
leg_seats steps seats = record { steps = steps; held = map (λ s. seats s.class) steps }

abbrev pub flight_seats : List Steps → (ℕ → ByClass) → List LegSeats
flight_seats [] seats = []
flight_seats (steps ∷ legs) seats = leg_seats steps (seats 0) ∷ flight_seats legs (λ leg. seats (suc leg))

abbrev pub all_seats : Ladders → HeldSeats → Counted
all_seats [] seats = []
all_seats (legs ∷ flights) seats = flight_seats legs (seats 0) ∷ all_seats flights (λ flight. seats (suc flight))

abbrev pub counters_of : Standing → Counted
counters_of s = all_seats s.limits s.seats

-- the limits and the seats in the counters, where there are any
abbrev pub standing_in : Option Counted → Option Standing
standing_in counts = option_map standing_of counts

-- the same counters, so written
abbrev pub tidied : Table → Table
tidied t = record {
  opening = t.opening;
  counts = option_map counters_of (standing_in t.counts);
  lines = t.lines;
  seen = t.seen;
}

-- ---- one entry more

-- the limits and the seats that a history leaves
abbrev pub left_by : Ladders → List Entry → Standing
left_by grid journal = standing_left (replay grid journal)

abbrev pub counts_after : Option Counted → Entry → Option Counted
counts_after counts e = option_map (λ (s : Standing). counters_of (shown s e)) (standing_in counts)

abbrev pub one_more : ℕ → ℕ
one_more n = (if nat_lt (n + 1) (2 ^ 32) then n + 1 else n)

-- an entry was shown to the counters, where there are any, and counted
pub record ShowsEntry (old new : Table) (e : Entry) : Type 0 where
  pub opening : new.opening ≡ old.opening
  pub standing : standing_in new.counts ≡ option_map (λ (s : Standing). shown s e) (standing_in old.counts)
  pub lines : new.lines ≡ one_more old.lines
  pub seen : new.seen ≡ old.seen

-- the table after an operation, where its counters are so written
abbrev pub apply : Table → Op → Table
apply t (Line e) = record {
  opening = t.opening;
  counts = counts_after t.counts e;
  lines = one_more t.lines;
  seen = t.seen;
}
apply t (Mark s) = record { opening = t.opening; counts = t.counts; lines = t.lines; seen = s }

-- the entries among these operations
abbrev pub entries_of : List Op → List Entry
entries_of [] = []
entries_of (Line e ∷ ops) = e ∷ entries_of ops
entries_of (Mark s ∷ ops) = entries_of ops

-- ---- the rule

-- the seen history is legal over this opening grid, and counters know the limits and the seats that it leaves
pub record Leaves (grid : Ladders) (x : Table) : Type 0 where
  pub legal : IsLegal grid x.seen.log
  pub opening : x.opening ≡ grid
  pub standing : IfSome x.counts (λ c. standing_of c ≡ left_by grid x.seen.log)
  pub lines : x.lines ≡ length x.seen.log

-- a table with no line, over this grid
pub record IsEmptyTable (x : Table) (grid : Ladders) (book : Book) : Type 0 where
  pub book_is : x.seen.book ≡ book
  pub none : x.seen.log ≡ []
  pub leaves : Leaves grid x

-- who knows its opening grid and its history is right
abbrev pub KnowsRight : Ladders → Table → View → Type 0
KnowsRight grid x v = v.knows ≡ true → (v.grid ≡ grid) × (v.seen.book ≡ x.seen.book)

-- all speak of one opening grid, which no code keeps
pub record Kept (x : Table) (views : List View) : Type 0 where
  pub grid : Ladders
  pub leaves : Leaves grid x
  pub each : (seat : ℕ) (v : View) → get_elem? views seat ≡ some v → KnowsRight grid x v

-- over each opening grid that this view may know, y is right where x is, and y has the same history
pub record Follows (v : View) (x y : Table) : Type 0 where
  pub leaves : (grid : Ladders) → (v.knows ≡ true → v.grid ≡ grid) → Leaves grid x → Leaves grid y
  pub book : y.seen.book ≡ x.seen.book

-- the table y is right, and who knew its opening grid and its history was right
pub record Sees (v : View) (x y : Table) (w : View) : Type 0 where
  pub leaves : Leaves w.grid y
  pub known : (w.knows ≡ true) × (w.seen.book ≡ y.seen.book)
  pub before : v.knows ≡ true → (v.grid ≡ w.grid) × (v.seen.book ≡ y.seen.book)

-- a view that knows nothing
abbrev pub nobody : View
nobody = record {
  knows = false;
  grid = [];
  seen =
      record { marker = record {}; book = record { number = 0; log_name = 0; cells_name = 0 }; names = []; log = [] };
}

abbrev pub informed : View → View → View
informed v w = w

-- what holds of the publisher between two calls: of the table shown, the history seen, and the operations that are not shown yet
pub record Ready (grid : Ladders) (shown : Table) (log : List Entry) (ops : List Op) (n k : ℕ) : Type 0 where
  pub leaves : Leaves grid shown
  pub whole : shown.seen.log ≡ log
  pub plain : ops ≡ map Line (entries_of ops)
  pub legal : IsLegal grid (log ++ entries_of ops)
  pub lines : n ≡ length log
  pub more : k ≡ length (entries_of ops)
  pub short : n + k < 2 ^ 32
