-- The places on flights, and the first one that a passenger asks for.
use Rattle.std.specs.Prelude.{ℕ, ◌+◌, ◌==◌, nat_eq, Bool, ◌&&◌, List, [], ◌∷◌, ◌++◌, Option}
use Rattle.std.specs.Option.{option_eq}
use Rattle.std.specs.Map.{lookup}
use Rattle.std.specs.Cmp.Lexicographic.{pointwise}
use Rattle.airline_base.specs.declared.place.Place.{Place}
use Rattle.ssim_flights.specs.declared.flight.DatedLeg.{DatedLeg}
use Rattle.ssim_flights.specs.declared.flight.Flight.{Flight}
use Rattle.ssim_flights.specs.declared.flight.Wanted.{Wanted}

-- the same flight name, day, board point and off point
abbrev pub same_wanted : Wanted → Wanted → Bool
same_wanted a b =
    pointwise nat_eq a.airline b.airline
    && ((a.number == b.number) && (option_eq nat_eq a.suffix b.suffix
    && ((a.day == b.day) && (pointwise nat_eq a.board b.board && pointwise nat_eq a.off b.off))))

-- what a passenger asks for who flies from where one leg departs, on its day, to where another arrives
abbrev pub wish : Flight → DatedLeg → DatedLeg → Wanted
wish flight first last = record {
  airline = flight.airline;
  number = flight.number;
  suffix = flight.suffix;
  day = first.day;
  board = first.board;
  off = last.off;
}

abbrev pub place : ℕ → ℕ → ℕ → Place
place flight from to = record { flight = flight; from = from; to = to }

-- the places that begin with leg `from` of flight n, by the leg that they end with, each with what it serves
abbrev pub ends_from : Flight → ℕ → ℕ → DatedLeg → ℕ → List DatedLeg → List (Wanted × Place)
ends_from flight n from first to [] = []
ends_from flight n from first to (leg ∷ legs) =
    (wish flight first leg, place n from to) ∷ ends_from flight n from first (to + 1) legs

-- the places of flight n from leg `from` on, by the leg that they begin with
abbrev pub places_from : Flight → ℕ → ℕ → List DatedLeg → List (Wanted × Place)
places_from flight n from [] = []
places_from flight n from (leg ∷ legs) =
    ends_from flight n from leg from (leg ∷ legs) ++ places_from flight n (from + 1) legs

-- all places, in the order of flight, first leg and last leg
abbrev pub places : ℕ → List Flight → List (Wanted × Place)
places n [] = []
places n (flight ∷ flights) = places_from flight n 0 flight.legs ++ places (n + 1) flights

-- the first place that serves what is wanted
unfoldable pub place_wanted : List Flight → Wanted → Option Place
place_wanted flights wanted = lookup (λ w. same_wanted w wanted) (places 0 flights)
