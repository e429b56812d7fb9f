-- The laws of parts.
use Rattle.std.specs.Prelude.{◌≡◌, ◌≤◌, ◌<◌, ◌↔◌, ℕ, ◌+◌, true, List, [], ◌∷◌, length}
use Rattle.std.specs.List.{AllByRecursion}
use Rattle.ssim_flights.specs.declared.flight.Flight.{Flight as Flown}
use Rattle.seat_journal.specs.declared.entry.Change.{Change}
use Rattle.seat_journal.specs.declared.entry.Entry.{Entry}
use Rattle.seat_nesting.specs.Nesting.{Ladders}
use Rattle.seat_rules.specs.Journal.{IsLegal}
use Rattle.seat_carrying.specs.declared.owned.Owned.{Owned}
use Rattle.carry_lines.specs.Carried.{carried_lines}
use Rattle.carry_lines.specs.declared.mark.Mark.{Mark}
use Rattle.carry_parts.specs.Parts.{IsOnOwn, has_flight, own_changes, own_marks, own_owned}
use Rattle.carry_parts.specs.declared.part.Part.{Part}
use Rattle.shard_feeds.specs.Laws.{AreTogether}
use Rattle.shard_feeds.specs.Owning.{shard_of_flight}

-- ---- flights

-- of some hosts a part has a flight that is there just where the flight's shard is the part's
abbrev pub PartsAreShards : Type 0
PartsAreShards = (part : Part) (flights : List Flown) (flight : ℕ) → 1 ≤ part.shards → flight < length flights
    → (has_flight part flights flight ≡ true) ↔ (shard_of_flight part.shards flights flight ≡ part.shard)

-- ---- journals

abbrev pub part_at : ℕ → ℕ → Part
part_at shards shard = record { shard = shard; shards = shards }

-- each line is on a flight that the part has, or on none
abbrev pub HasOwnLines : Part → List Flown → List Entry → Type 0
HasOwnLines part flights journal = AllByRecursion (λ e. IsOnOwn part flights e.work) journal

-- what is the part's of a carry makes no other lines
abbrev pub PartsHaveOwnLines : Type 0
PartsHaveOwnLines = (part : Part) (flights : List Flown) (grid : Ladders) (rows : List Change) (kept : List Owned) (marks : List Mark)
    → HasOwnLines part flights (carried_lines grid (own_changes part flights rows) (own_owned part flights kept) (own_marks part flights marks))

-- a legal history over the limits, of at most `cap` lines, all of which are the part's
pub record IsPart (part : Part) (flights : List Flown) (grid : Ladders) (cap : ℕ) (journal : List Entry) : Type 0 where
  pub legal : IsLegal grid journal
  pub few : length journal ≤ cap
  pub own : HasOwnLines part flights journal

-- the journals of the parts from this one on
abbrev pub AreParts : ℕ → List Flown → Ladders → ℕ → ℕ → List (List Entry) → Type 0
AreParts shards flights grid cap shard [] = Unit {0}
AreParts shards flights grid cap shard (journal ∷ journals) =
    IsPart (part_at shards shard) flights grid cap journal × AreParts shards flights grid cap (shard + 1) journals

-- the journals of all parts, one behind the other
abbrev pub PartsAreLegalTogether : Type 0
PartsAreLegalTogether = (flights : List Flown) (grid : Ladders) (cap : ℕ) (journals : List (List Entry))
    → AreParts (length journals) flights grid cap 1 journals → AreTogether grid cap journals
