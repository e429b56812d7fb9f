-- How many flights there may be, how many legs a flight may have, and that its legs join.
use Rattle.std.specs.Prelude.{ℕ, ◌≤◌, nat_eq, Bool, true, ◌&&◌, IsTrue, List, [], ◌∷◌, length, All}
use Rattle.std.specs.Cmp.Lexicographic.{pointwise}
use Rattle.ssim_flights.specs.declared.flight.DatedLeg.{DatedLeg}
use Rattle.ssim_flights.specs.declared.flight.Flight.{Flight}

-- at most 100,000 flights, each of at most 8 legs
pub record AreFew (all : List Flight) : Type 0 where
  pub flights : length all ≤ 100000
  pub legs : All (λ f. length f.legs ≤ 8) all

abbrev pub joins_after : List ℕ → List DatedLeg → Bool
joins_after before [] = true
joins_after before (leg ∷ legs) = pointwise nat_eq before leg.board && joins_after leg.off legs

-- each leg but the first departs where the one before arrives
abbrev pub joins_up : List DatedLeg → Bool
joins_up [] = true
joins_up (leg ∷ legs) = joins_after leg.off legs

pub record AreJoined (all : List Flight) : Type 0 where
  pub joined : All (λ f. IsTrue (joins_up f.legs)) all
