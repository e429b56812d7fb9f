-- What adding an itinerary to the flights so far does.
use Rattle.std.specs.Prelude.{◌≡◌, ◌≤◌, List, ◌++◌, All, None, length}
use Rattle.std.specs.List.{flat_map, IsDistinct}
use Rattle.ssim_records.specs.declared.carrier.Leg.{Leg}
use Rattle.ssim_flights.specs.declared.adding.Flown.{Flown}
use Rattle.ssim_flights.specs.declared.flown.Departure.{Departure}
use Rattle.ssim_flights.specs.declared.plan.Plan.{Plan}
use Rattle.ssim_flights.specs.declared.schedule.Scheduled.{Scheduled}
use Rattle.ssim_flights.specs.Few.{AreJoined}
use Rattle.ssim_flights.specs.Flown.{all_departures, days_fault, departures_of, departures_on, fault_of, flights_of, is_taken, same_departure}
use Rattle.ssim_flights.specs.Schedules.{flights_on}
use Rattle.ssim_flights.specs.Taken.{has_departure, Takes}
use Rattle.ssim_flights.specs.Timetables.{flights_in, IsTable}

-- the flights of a chain without fault were added
pub record IsChainAdded (plan : Plan) (legs : List Leg) (chained : List Scheduled) (old new : Flown) : Type 0 where
  pub faultless : days_fault plan (has_departure old.taken) (length (flights_in old.flights)) legs chained ≡ None
  pub flights : flights_in new.flights ≡ flights_in old.flights ++ flights_on plan chained
  pub table : IsTable new.flights
  pub taken : Takes old.taken new.taken (departures_on plan chained)

-- the flights of an itinerary without fault were added
pub record IsAdded (plan : Plan) (legs : List Leg) (old new : Flown) : Type 0 where
  pub faultless : fault_of plan (has_departure old.taken) (length (flights_in old.flights)) legs ≡ None
  pub flights : flights_in new.flights ≡ flights_in old.flights ++ flights_of plan legs
  pub table : IsTable new.flights
  pub taken : Takes old.taken new.taken (departures_of plan legs)

-- the flights so far are those of the earlier itineraries
pub record IsFlown (plan : Plan) (earlier : List (List Leg)) (flown : Flown) : Type 0 where
  pub flights : flights_in flown.flights ≡ flat_map (flights_of plan) earlier
  pub table : IsTable flown.flights
  pub taken : (d : Departure) → has_departure flown.taken d ≡ is_taken plan earlier d
  pub few : length (flights_in flown.flights) ≤ plan.most
  pub short : All (λ f. length f.legs ≤ 8) (flights_in flown.flights)
  pub joined : AreJoined (flights_in flown.flights)
  pub distinct : IsDistinct same_departure (all_departures plan earlier)
