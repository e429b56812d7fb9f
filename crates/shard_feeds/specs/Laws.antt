-- The laws of shards.
use Rattle.std.specs.Prelude.{◌≡◌, ℕ, List, [], ◌∷◌, drop, Some}
use Rattle.std.specs.List.{AllByRecursion}
use Rattle.airimp_lines.specs.declared.requests.Request.{Request}
use Rattle.ssim_flights.specs.declared.flight.Flight.{Flight as Flown}
use Rattle.seat_limits.specs.declared.change_row.ChangeRow.{ChangeRow}
use Rattle.seat_journal.specs.Controls.{set_by}
use Rattle.seat_journal.specs.declared.entry.Control.{Control}
use Rattle.seat_journal.specs.declared.entry.Entry.{Entry}
use Rattle.seat_journal.specs.declared.entry.Work.{Work}
use Rattle.seat_journal.specs.declared.entry.Work.TheVariants.{Seats}
use Rattle.seat_nesting.specs.Nesting.{Ladders}
use Rattle.seat_rules.specs.Agreement.{totals_in}
use Rattle.seat_rules.specs.Flights.{flight_of}
use Rattle.seat_replies.specs.Changes.{changes_of}
use Rattle.seat_replies.specs.Requests.{command_of}
use Rattle.seat_shards.specs.Shards.{AreShards}
use Rattle.seat_shards.specs.Taking.{Merge}
use Rattle.desk_feed.specs.Feeding.{AreSent, Cut, IsLived}
use Rattle.desk_feed.specs.Laws.{IsVeryBy, Tested, asking_of}
use Rattle.shard_feeds.specs.Owning.{AreFeeds, GoesTo, shard_for, shard_for_row}

-- ---- lines

-- a segment line goes to the shard of the flight that is found for it
abbrev pub LinesGoByTheirFlight : Type 0
LinesGoByTheirFlight = (shards : ℕ) (flights : List Flown) (q : Request)
    → GoesTo shards flights (shard_for shards q) (Seats (command_of flights q))

-- a row of changes goes to the shard of each flight that it sets something on
abbrev pub RowsGoByTheirFlight : Type 0
RowsGoByTheirFlight = (shards : ℕ) (flights : List Flown) (row : ChangeRow) (controls : List Control)
    → changes_of flights row ≡ Some controls
    → AllByRecursion (λ control. GoesTo shards flights (shard_for_row shards row) (set_by control)) controls

-- what is on one flight goes to one shard
abbrev pub TwoShardsShareNoFlight : Type 0
TwoShardsShareNoFlight = (shards : ℕ) (flights : List Flown) (a b flight : ℕ) (v w : Work)
    → GoesTo shards flights a v → GoesTo shards flights b w → flight_of v ≡ Some flight → flight_of w ≡ Some flight → a ≡ b

-- ---- hosts

-- the journal of a host whose feed was sent to its end, from a place that its journal had come to, however often it was broken off before
pub record IsHost (grid : Ladders) (cap : ℕ) (feed : List Tested) (journal : List Entry) : Type 0 where
  pub cuts : List Cut
  pub before : List Entry
  pub sent : AreSent grid cap asking_of IsVeryBy [] feed cuts [] before
  pub from : ℕ
  pub rest : List Entry
  pub lived : IsLived grid cap asking_of IsVeryBy [] feed from (drop from feed) before journal rest

-- a host for each feed
abbrev pub AreHosts : Ladders → ℕ → List (List Tested) → List (List Entry) → Type 0
AreHosts grid cap [] [] = Unit {0}
AreHosts grid cap (feed ∷ feeds) (journal ∷ journals) = IsHost grid cap feed journal × AreHosts grid cap feeds journals
AreHosts grid cap _ _ = ⊥

-- they are legal, no two have a line of one flight, and all lines in one journal are a legal history with the sums of the totals
pub record AreTogether (grid : Ladders) (cap : ℕ) (journals : List (List Entry)) : Type 0 where
  pub shards : AreShards grid cap journals
  pub merge : Merge grid journals (totals_in journals)

abbrev pub HostsAreLegalTogether : Type 0
HostsAreLegalTogether = (shards : ℕ) (flights : List Flown) (grid : Ladders) (cap : ℕ) (feeds : List (List Tested))
    (journals : List (List Entry)) → AreFeeds shards flights grid 1 feeds → AreHosts grid cap feeds journals
    → AreTogether grid cap journals
