-- The names that most proofs of this crate cite, passed on from one place. Declares nothing.
pub use Rattle.airline_base.specs.declared.place.Place.{Place}
pub use Rattle.seat_journal.specs.declared.entry.Advice.{Advice}
pub use Rattle.seat_journal.specs.declared.entry.Change.{Change}
pub use Rattle.seat_journal.specs.declared.entry.Command.{Command}
pub use Rattle.seat_journal.specs.declared.entry.Entry.{Entry}
pub use Rattle.seat_journal.specs.declared.entry.SaleChange.{SaleChange}
pub use Rattle.seat_journal.specs.declared.entry.Work.{Work}
pub use Rattle.seat_journal.specs.declared.entry.Work.TheVariants.{Seats, Limit, Sale}
pub use Rattle.seat_nesting.specs.Nesting.{Ladders, legs_of, room, may_wait, is_listed, Steps, Table, room_on, least, ladder_at, HasLadders, IsWithin, held_from, covers, seats_at}
pub use Rattle.seat_nesting.specs.declared.ladder.Step.{Step}
pub use Rattle.seat_rules.specs.Bookings.{is_for, is_held, is_waiting, held, waiting, seats_on}
pub use Rattle.seat_rules.specs.Codes.{action_of}
pub use Rattle.seat_rules.specs.Flights.{renumbered, AgreeOn, NoneElseFits, is_on}
pub use Rattle.seat_rules.specs.Inventory.{Inventory, KeepsLimits}
pub use Rattle.seat_rules.specs.Journal.{calls_of, replay, FitsWork, IsNext, IsLegalAfter, IsLegal, next_line}
pub use Rattle.seat_rules.specs.Sequential.{State, Outcome, state_of, room_left, reduced, booking_of, booking_for, pass, passed, want, cancel, changed_by, may_change, sales_by, may_set_sale, answer, may_confirm, confirmed, advice_of, NoneFits, refused, booked}
pub use Rattle.seat_rules.specs.declared.action.Action.TheVariants.{Want, Cancel}
pub use Rattle.seat_rules.specs.declared.action.Wish.{Wish}
pub use Rattle.seat_rules.specs.declared.booking.Booking.{Booking}
pub use Rattle.seat_rules.specs.declared.booking.Status.{Status}
pub use Rattle.seat_rules.specs.declared.booking.Status.TheVariants.{Held, Waiting}
pub use Rattle.std.specs.Cmp.Lexicographic.{pointwise}
pub use Rattle.std.specs.List.{AllByRecursion, sum_by}
