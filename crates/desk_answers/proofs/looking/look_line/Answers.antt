use Rattle.std.proofs.Common.{◌≡◌, ℕ, List, ◌++◌, codes, Option, ap, sym, subst, ◌∙◌, append_assoc}
use Rattle.airimp_lines.specs.declared.look.FlightClass.{FlightClass}
use Rattle.airimp_lines.specs.declared.look.Look.{Look}
use Rattle.airline_base.specs.declared.place.Place.{Place}
use Rattle.ssim_flights.specs.Places.{place_wanted}
use Rattle.ssim_flights.specs.declared.flight.Flight.{Flight as Flown}
use Rattle.ssim_flights.specs.declared.flight.Wanted.{Wanted}
use Rattle.seat_rules.specs.Sequential.{State}
use Rattle.desk_answers.specs.Looks.{flight_text, left_text, wanted_at, IsAhead, IsLookLine}
use Rattle.desk_answers.proofs.Finding.{there_fits}
use Rattle.desk_answers.proofs.looking.look_line.Goals as goal

behind : (front a b c : List ℕ) → front ++ (a ++ b ++ c) ≡ front ++ a ++ b ++ c
behind front a b c = sym (append_assoc front (a ++ b) c) ∙ ap (λ (l : List ℕ). l ++ c) (sym (append_assoc front a b))

-- what stands ahead, and the seats that are left behind it
look_of : (flights : List Flown) (state : State) (count : ℕ) (flight : FlightClass) (look : Look) (wanted : Wanted) (place : Option Place)
    (part front left text : List ℕ) → wanted ≡ wanted_at flight look → place ≡ place_wanted flights wanted → part ≡ flight_text flight
    → IsAhead count look part front → left ≡ codes " " ++ left_text state place flight.class ++ codes "\n" → text ≡ front ++ left
    → IsLookLine flights state count flight look text
look_of flights state count flight look wanted place part front left text asked found named ahead seats whole =
    let there : place ≡ place_wanted flights (wanted_at flight look) = found ∙ ap (place_wanted flights) asked in
    let left_is : List ℕ = left_text state (place_wanted flights (wanted_at flight look)) flight.class in
    let seats_are : left ≡ codes " " ++ left_is ++ codes "\n" =
    seats ∙ ap (λ (o : Option Place). codes " " ++ left_text state o flight.class ++ codes "\n") there in
    record {
      ahead = front;
      is_ahead = subst (λ (l : List ℕ). IsAhead count look l front) named ahead;
      written = whole ∙ (ap (λ (l : List ℕ). front ++ l) seats_are ∙ behind front (codes " ") left_is (codes "\n"));
    }

pub left_part-requires : goal.left_part-requires
left_part-requires g c = there_fits c.args.served.now (g.S.Seats.ladders c.args.seats.now) c.wanted_at.result c.find-place.result c.requires c.find-place.ensures

pub returns : goal.returns
returns g c =
    look_of c.args.served.now (g.S.Seats.state c.args.seats.now) (g.S.Seats.count c.args.seats.now) c.args.flight.now c.args.look.now
    c.wanted_at.result c.find-place.result c.as_slice.result.now c.in_ok-text.text.items c.as_slice-2.result.now c.put.new.text.items
    c.wanted_at.ensures c.find-place.ensures (c.as_slice.ensures.value ∙ c.flight_part.ensures) c.in_ok-text.ensures
    (c.as_slice-2.ensures.value ∙ c.left_part.ensures) c.in_ok-put.ensures
