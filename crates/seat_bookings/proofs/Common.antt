-- The names that most proofs of this crate cite, passed on from one place. Declares nothing.
pub use Rattle.airline_base.specs.declared.place.Place.{Place}
pub use Rattle.seat_bookings.specs.Books.{book_at}
pub use Rattle.seat_bookings.specs.Demands.{is_at, is_demand_of, is_booking_of, is_apart, least_with, smallest_of, seats_for, demand_smallest, demand_seats, IsIndexed}
pub use Rattle.seat_bookings.specs.Live.{key_for, key_of, same_key, number_of, AreLive}
pub use Rattle.seat_bookings.specs.Queues.{queue_of}
pub use Rattle.seat_bookings.specs.declared.books.FlightBook.{FlightBook}
pub use Rattle.seat_bookings.specs.declared.demands.Demand.{Demand}
pub use Rattle.seat_bookings.specs.declared.live_bookings.Key.{Key}
pub use Rattle.seat_journal.specs.declared.entry.Advice.{Advice}
pub use Rattle.seat_rules.specs.Applying.{confirmed_at, confirmed_each}
pub use Rattle.seat_rules.specs.Bookings.{is_waiting, is_for}
pub use Rattle.seat_rules.specs.Sequential.{reduced}
pub use Rattle.seat_rules.specs.declared.booking.Booking.{Booking}
pub use Rattle.std.specs.List.{AllByRecursion}
