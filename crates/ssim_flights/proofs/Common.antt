-- The names that most proofs of this crate cite, passed on from one place. Declares nothing.
pub use Rattle.ssim_flights.specs.Flown.{departure, leg_one_if}
unfoldable pub use Rattle.ssim_flights.specs.Flown.{departures_on, days_fault, fault_of}
unfoldable pub use Rattle.ssim_flights.specs.LegChains.{chain, missing_leg, repeated_leg, broken_chain}
pub use Rattle.ssim_flights.specs.Operating.{operating_days}
pub use Rattle.ssim_flights.specs.Rounds.{AreBefore}
pub use Rattle.ssim_flights.specs.Schedules.{day_at, is_in_horizon, schedule, shortest, flight_on}
unfoldable pub use Rattle.ssim_flights.specs.Schedules.{rows, flights_on}
pub use Rattle.ssim_flights.specs.declared.fault.FlightFault.{FlightFault}
pub use Rattle.ssim_flights.specs.declared.flight.Flight.{Flight}
pub use Rattle.ssim_flights.specs.declared.flown.Departure.{Departure}
pub use Rattle.ssim_flights.specs.declared.plan.Plan.{Plan}
pub use Rattle.ssim_flights.specs.declared.schedule.Scheduled.{Scheduled}
pub use Rattle.ssim_records.specs.declared.carrier.Leg.{Leg}
pub use Rattle.std.specs.List.{list_any, IsDistinct, range_with_len}
