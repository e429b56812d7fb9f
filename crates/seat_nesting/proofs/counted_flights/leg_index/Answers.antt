use Rattle.std.proofs.Common.{◌≡◌, ◌+◌, ◌<◌, ◌≤◌, ℕ, Bool, true, false, if◌then◌else◌, nat_lt, Option, Some, None, List, length, get_or, ap, sym, ◌∙◌, arith}
use Rattle.std.proofs.lemmas.Bool.{ltb-false, ltb-true}
use Rattle.std.proofs.lemmas.Bool.Decides.{nat_tests}
use Rattle.std.proofs.lemmas.Option.{slice_get-get_or, slice_get_past}
use Rattle.seat_nesting.specs.FlatCounts.{index_on, leg_index}
use Rattle.seat_nesting.specs.declared.counted_flights.FlightPart.{FlightPart}
use Rattle.seat_nesting.proofs.counted_flights.leg_index.Goals as goal

found : (flights : List FlightPart) (flight leg : ℕ) (part : FlightPart) → true ≡ nat_lt flight (length flights)
    → part ≡ get_or flights flight part → leg_index flights flight leg ≡ index_on (Some part) leg
found flights flight leg part there is =
    ap (λ (o : Option FlightPart). index_on o leg)
    (slice_get-get_or flights flight part (ltb-true flight (length flights) (sym there)) ∙ ap (λ (p : FlightPart). Some p) (sym is))

inside : (part : FlightPart) (leg at : ℕ) → at ≡ leg → at < part.legs → Some (part.first + at) ≡ index_on (Some part) leg
inside part leg at same less =
    let test : nat_lt leg part.legs ≡ true = grind (arith, nat_tests) in
    ap (λ (n : ℕ). Some (part.first + n)) same ∙ sym (ap (λ (b : Bool). if b then Some (part.first + leg) else None) test)

outside : (part : FlightPart) (leg at : ℕ) → at ≡ leg → part.legs ≤ at → None ≡ index_on (Some part) leg
outside part leg at same more =
    let test : nat_lt leg part.legs ≡ false = grind (arith, nat_tests) in
    sym (ap (λ (b : Bool). if b then Some (part.first + leg) else None) test)

pub returns-in_default : goal.returns-in_default
returns-in_default c =
    sym (ap (λ (o : Option FlightPart). index_on o c.args.leg)
    (slice_get_past c.args.flights.now c.args.flight (ltb-false c.args.flight (length c.args.flights.now) (sym c.in_default.ensures.lookup.0))))

pub returns-then-leg-part : goal.returns-then-leg-part
returns-then-leg-part c =
    inside c.in-Some.part.now c.args.leg c.from-leg.result c.from-leg.ensures c.if-leg-part.true
    ∙ sym (found c.args.flights.now c.args.flight c.args.leg c.in-Some.part.now c.in-Some.ensures.lookup.0 c.in-Some.ensures.lookup.1)

pub returns-else-leg-part : goal.returns-else-leg-part
returns-else-leg-part c =
    outside c.in-Some.part.now c.args.leg c.from-leg.result c.from-leg.ensures c.if-leg-part.false
    ∙ sym (found c.args.flights.now c.args.flight c.args.leg c.in-Some.part.now c.in-Some.ensures.lookup.0 c.in-Some.ensures.lookup.1)
