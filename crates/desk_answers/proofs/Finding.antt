-- A look at a place that is found.
use Rattle.std.proofs.Common.{◌≡◌, List, sym, subst}
use Rattle.std.specs.Prelude.{Option, IfSome}
use Rattle.airline_base.specs.declared.place.Place.{Place}
use Rattle.ssim_flights.specs.Places.{place_wanted}
use Rattle.ssim_flights.specs.declared.flight.Flight.{Flight as Flown}
use Rattle.ssim_flights.specs.declared.flight.Wanted.{Wanted}
use Rattle.seat_desk.specs.Loading.{IsGridOf}
use Rattle.seat_nesting.specs.Nesting.{Fits, Ladders}
use Rattle.seat_replies.proofs.Serving.{served}

-- what is found is on the inventory's legs
pub there_fits : (flights : List Flown) (grid : Ladders) (wanted : Wanted) (place : Option Place) → IsGridOf flights grid
    → place ≡ place_wanted flights wanted → IfSome place (Fits grid)
there_fits flights grid wanted place g is =
    let found : IfSome (place_wanted flights wanted) (Fits grid) = subst (λ (l : Ladders). IfSome (place_wanted flights wanted) (Fits l)) (sym g.is) (served g.rows flights wanted) in
    subst (λ (o : Option Place). IfSome o (Fits grid)) (sym is) found
