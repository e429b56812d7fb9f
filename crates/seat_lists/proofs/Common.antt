-- The names that most proofs of this crate cite, passed on from one place. Declares nothing.
pub use Rattle.airline_base.specs.declared.place.Place.{Place}
pub use Rattle.seat_journal.specs.declared.entry.Entry.{Entry}
pub use Rattle.seat_journal.specs.declared.entry.Work.TheVariants.{Seats}
pub use Rattle.seat_limits.specs.declared.limit_row.LimitRow.{LimitRow}
pub use Rattle.seat_nesting.specs.Nesting.{Fits, Ladders, Steps}
pub use Rattle.seat_rules.specs.Journal.{replay}
pub use Rattle.seat_rules.specs.Sequential.{State}
pub use Rattle.seat_rules.specs.declared.booking.Booking.{Booking}
