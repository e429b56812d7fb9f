-- Which shard has a flight, and which lines go there.
use Rattle.std.specs.Prelude.{◌≡◌, ℕ, ◌+◌, List, [], ◌∷◌, slice_get, Option, None, Some, IfSome}
use Rattle.std.specs.List.{AllByRecursion}
use Rattle.airimp_lines.specs.declared.requests.Request.{Request}
use Rattle.ssim_flights.specs.declared.flight.Flight.{Flight as Flown}
use Rattle.seat_limits.specs.declared.change_row.ChangeRow.{ChangeRow}
use Rattle.seat_journal.specs.declared.entry.Work.{Work}
use Rattle.seat_nesting.specs.Nesting.{Ladders}
use Rattle.seat_rules.specs.Flights.{flight_of}
use Rattle.seat_rules.specs.Journal.{FitsWork, MayAsk}
use Rattle.desk_feed.specs.Laws.{Tested, asking_of}
use Rattle.flight_routes.specs.Shards.{name_text, shard_of}

-- ---- the shard of a name

abbrev pub shard_for : ℕ → Request → ℕ
shard_for shards q = shard_of shards (name_text q.segment.airline q.segment.number q.segment.suffix)

abbrev pub shard_for_row : ℕ → ChangeRow → ℕ
shard_for_row shards row = shard_of shards (name_text row.airline row.number row.suffix)

abbrev pub shard_flown : ℕ → Option Flown → ℕ
shard_flown shards None = 0
shard_flown shards (Some flight) = shard_of shards (name_text flight.airline flight.number flight.suffix)

-- the shard of a flight, by its number
abbrev pub shard_of_flight : ℕ → List Flown → ℕ → ℕ
shard_of_flight shards flights flight = shard_flown shards (slice_get flights flight)

-- ---- what goes to a shard

-- what is asked is on a flight of the shard, or on none
pub record GoesTo (shards : ℕ) (flights : List Flown) (shard : ℕ) (work : Work) : Type 0 where
  pub own : IfSome (flight_of work) (λ flight. shard_of_flight shards flights flight ≡ shard)

-- a line of the shard's feed: its session may ask for it, the limits have its legs, and it goes to the shard
pub record IsAskedOf (shards : ℕ) (flights : List Flown) (grid : Ladders) (shard : ℕ) (line : Tested) : Type 0 where
  pub may : MayAsk (asking_of line).session (asking_of line).asked.work
  pub fits : FitsWork grid (asking_of line).asked.work
  pub goes : GoesTo shards flights shard (asking_of line).asked.work

-- the feeds of the shards from this one on
abbrev pub AreFeeds : ℕ → List Flown → Ladders → ℕ → List (List Tested) → Type 0
AreFeeds shards flights grid shard [] = Unit {0}
AreFeeds shards flights grid shard (feed ∷ feeds) =
    AllByRecursion (IsAskedOf shards flights grid shard) feed × AreFeeds shards flights grid (shard + 1) feeds
