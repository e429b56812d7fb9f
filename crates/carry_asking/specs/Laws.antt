-- The laws of bookings that move to another season: they stay apart, and where they can be asked for.
use Rattle.std.specs.Prelude.{◌≡◌, ℕ, List}
use Rattle.std.specs.List.{AllByRecursion}
use Rattle.ssim_flights.specs.declared.flight.Flight.{Flight as Flown}
use Rattle.seat_journal.specs.declared.entry.Entry.{Entry}
use Rattle.seat_nesting.specs.Nesting.{Ladders}
use Rattle.seat_rules.specs.Bookings.{IsApart}
use Rattle.seat_rules.specs.Journal.{IsLegal, replay}
use Rattle.seat_rules.specs.declared.booking.Booking.{Booking}
use Rattle.seat_carrying.specs.Carrying.{sells}
use Rattle.seat_carrying.specs.Owned.{bookings_of}
use Rattle.seat_desk.specs.Loading.{IsGridOf}
use Rattle.seat_moving.specs.Moving.{moved}
use Rattle.carry_lines.specs.Carriable.{is_carriable}

-- no two of them for the same seats of one place, they are so on their new places: no two places of the old flights go onto one
abbrev pub MovedStayApart : Type 0
MovedStayApart = (journal : List Entry) (old new : List Flown) (today : ℕ) (bookings : List Booking) → IsApart bookings
    → IsApart (bookings_of (moved journal old new today bookings))

-- those that a legal history leaves can be asked for over the limits of the new flights just where each leg has the class, and it is open
abbrev pub MovedAreOwned : Type 0
MovedAreOwned = (limits : Ladders) (journal : List Entry) (old new : List Flown) (today : ℕ) (grid : Ladders) → IsLegal limits journal → IsGridOf new grid
    → AllByRecursion (λ o. is_carriable grid o ≡ sells grid o.booking.place o.booking.class) (moved journal old new today (replay limits journal).bookings)
