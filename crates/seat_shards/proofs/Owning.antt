-- The flights of a legal history, and the places that they have.
use Rattle.std.proofs.Common.{◌≡◌, ℕ, ◌<◌, ◌≤◌, List, length, Option, Some, None, IfSome, arith, refl}
use Rattle.seat_journal.specs.declared.entry.Entry.{Entry}
use Rattle.seat_journal.specs.declared.entry.Work.{Work}
use Rattle.seat_nesting.specs.Nesting.{Ladders}
use Rattle.seat_rules.specs.Flights.{flight_of}
use Rattle.seat_rules.specs.Journal.{FitsWork, IsLegal}
use Rattle.seat_parts.proofs.Flights.{fitting_there}
use Rattle.taken_journals.specs.declared.taken.Taken.{Taken}
use Rattle.taken_journals.specs.Owners.{AreWithin, IsWithin}
use Rattle.taken_journals.specs.Taken.{HasPlaces}

-- those of a legal history are on flights of its grid
fits_within : (grid : Ladders) (n : ℕ) (w : Work) → FitsWork grid w → length grid ≤ n → IsWithin n w
fits_within grid n w fits room = record { below = by (flight_of w) refl } where
  by : (o : Option ℕ) → flight_of w ≡ o → IfSome o (λ f. f < n)
  by None at = tt
  by (Some f) at = omega (arith, fitting_there grid w fits f at, room)

pub places_kept : (flights : ℕ) (old new : Taken) → HasPlaces flights old → length new.owners.items ≡ length old.owners.items
    → HasPlaces flights new
places_kept flights old new has same = record { enough = omega (arith, has.enough, same) }

pub places_below : (grid : Ladders) (flights : ℕ) (taken : Taken) → length grid ≤ flights → HasPlaces flights taken
    → HasPlaces (length grid) taken
places_below grid flights taken room has = record { enough = omega (arith, room, has.enough) }

pub legal_within : (grid : Ladders) (n : ℕ) (entries : List Entry) → IsLegal grid entries → length grid ≤ n
    → AreWithin n entries
legal_within grid n entries legal room = record {
  each = λ front e b. fits_within grid n e.work (legal.each front e b).fits room;
}
