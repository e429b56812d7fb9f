-- The pairs of stations between which places run: from the board point of its first leg to the off point of its last, whatever the flight.
use Rattle.std.specs.Prelude.{ℕ, ◌==◌, ◌&&◌, Bool, false, List, slice_get, take, drop, position, Option, Some, None, if◌then◌else◌}
use Rattle.airline_base.specs.declared.place.Place.{Place}
use Rattle.ssim_flights.specs.declared.flight.DatedLeg.{DatedLeg}
use Rattle.ssim_flights.specs.declared.flight.Flight.{Flight as Flown}
use Rattle.seat_journal.specs.declared.entry.Entry.{Entry}
use Rattle.seat_lists.specs.Picking.{keeps_flight}
use Rattle.seat_lists.specs.declared.picking.Designator.{Designator}
use Rattle.seat_questions.specs.Rooms.{keeps_pair, run_of}
use Rattle.seat_questions.specs.declared.rooms.CityPair.{CityPair}
use Rattle.seat_pickup.specs.Counting.{AreCounts}
use Rattle.seat_pickup.specs.Moves.{Where, cancelled_by, confirmed_by, is_at, sold_by, sum_of}
use Rattle.seat_pickup.specs.declared.pairing.Pairing.{Pairing}
use Rattle.seat_pickup.specs.declared.paired.PairMoves.{PairMoves}
use Rattle.seat_pickup.specs.declared.split.Tally.{Tally}
use Rattle.seat_pickup.specs.declared.split.Tally.TheVariants.{OnFlights, Between}

-- the first leg and the last as one, if the flight has both
abbrev pub run_on : Option DatedLeg → Option DatedLeg → Option DatedLeg
run_on None last = None
run_on (Some first) None = None
run_on (Some first) (Some last) = Some (run_of first last)

-- the legs of a place as one, if its flight is kept
abbrev pub run_at : Option Designator → Place → Option Flown → Option DatedLeg
run_at asked place None = None
run_at asked place (Some flight) =
    (if keeps_flight asked flight then run_on (slice_get flight.legs place.from) (slice_get flight.legs place.to) else None)

-- the place of its pair in a list
abbrev pub number_in : List CityPair → Option DatedLeg → Option ℕ
number_in pairs None = None
number_in pairs (Some run) = position (λ p. keeps_pair (Some p) run) pairs

abbrev pub number_at : Option Designator → List Flown → List CityPair → Place → Option ℕ
number_at asked flights pairs place = number_in pairs (run_at asked place (slice_get flights place.flight))

abbrev pub is_numbered : Option ℕ → ℕ → Bool
is_numbered None n = false
is_numbered (Some m) n = m == n

-- the seats of a place count once, at the number of its pair: each pair is one column, that of 65
abbrev pub between : Option Designator → List Flown → List CityPair → Where
between asked flights pairs place class n k = is_numbered (number_at asked flights pairs place) n && (65 == k)

abbrev pub pairs_at : Pairing → Where
pairs_at pairing = between pairing.asked pairing.flights.now pairing.pairs.now

-- by flight, or by pair
abbrev pub tally_at : Tally → Where
tally_at (OnFlights split) = is_at split
tally_at (Between pairing) = pairs_at pairing

-- the rows have what the first lines moved, and what those behind them did
pub record ArePairMoves (journal : List Entry) (lines : ℕ) (moves : PairMoves) : Type 0 where
  pub sold_ahead : AreCounts moves.count (sum_of (sold_by (pairs_at moves.pairing)) (take lines journal)) moves.sold_ahead.items
  pub cancelled_ahead : AreCounts moves.count (sum_of (cancelled_by (pairs_at moves.pairing)) (take lines journal)) moves.cancelled_ahead.items
  pub confirmed_ahead : AreCounts moves.count (sum_of (confirmed_by (pairs_at moves.pairing)) (take lines journal)) moves.confirmed_ahead.items
  pub sold : AreCounts moves.count (sum_of (sold_by (pairs_at moves.pairing)) (drop lines journal)) moves.sold.items
  pub cancelled : AreCounts moves.count (sum_of (cancelled_by (pairs_at moves.pairing)) (drop lines journal)) moves.cancelled.items
  pub confirmed : AreCounts moves.count (sum_of (confirmed_by (pairs_at moves.pairing)) (drop lines journal)) moves.confirmed.items
