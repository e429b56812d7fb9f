-- The flights that leave on a day, in lists that days far apart share.
use Rattle.std.specs.Prelude.{◌≡◌, ℕ, ◌+◌, ◌%◌, ◌==◌, Bool, true, false, List, [], ◌∷◌, ◌++◌, length, slice_index_or}
use Rattle.std.specs.List.{list_any}
use Rattle.ssim_flights.specs.declared.flight.DatedLeg.{DatedLeg}
use Rattle.ssim_flights.specs.declared.flight.Flight.{Flight}
use Rattle.flight_days.specs.declared.day_flights.DayFlights.{DayFlights}

-- the list of a day, counted from 0
abbrev pub list_of : ℕ → ℕ
list_of day = day % 512

-- one of these legs departs on a day of list k
abbrev pub in_list : List DatedLeg → ℕ → Bool
in_list legs k = list_any (λ leg. list_of leg.day == k) legs

abbrev pub number_if : Bool → ℕ → List ℕ
number_if true n = n ∷ []
number_if false n = []

-- the numbers of the flights with such a leg, in order, where the first of all is flight n
abbrev pub flights_in : ℕ → List Flight → ℕ → List ℕ
flights_in n [] k = []
flights_in n (flight ∷ flights) k = number_if (in_list flight.legs k) n ++ flights_in (n + 1) flights k

-- those of the flights with a leg that departs on this day, or a multiple of 512 days from it
abbrev pub flights_on : List Flight → ℕ → List ℕ
flights_on flights day = flights_in 0 flights (list_of day)

abbrev pub list_at : DayFlights → ℕ → List ℕ
list_at days k = slice_index_or days.lists.items k []

-- what is listed for a day
abbrev pub listed : DayFlights → ℕ → List ℕ
listed days day = list_at days (list_of day)

-- each list has the flights with a leg on a day of it
pub record AreDaysOf (days : DayFlights) (flights : List Flight) : Type 0 where
  pub lists : length days.lists.items ≡ 512
  pub at : (k : ℕ) → list_at days k ≡ flights_in 0 flights k

-- these lists have flight n last, and the others are as they were
pub record PutsLast (old new : DayFlights) (n : ℕ) (is : ℕ → Bool) : Type 0 where
  pub lists : length new.lists.items ≡ length old.lists.items
  pub at : (k : ℕ) → list_at new k ≡ list_at old k ++ number_if (is k) n
