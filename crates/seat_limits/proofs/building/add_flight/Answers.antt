use Rattle.std.proofs.Common.{◌≡◌, List, [], ◌∷◌, ◌++◌, map, refl, ap, sym, subst, ◌∙◌}
use Rattle.std.proofs.lemmas.List.{length-map, take_all}
use Rattle.ssim_flights.specs.declared.flight.DatedLeg.{DatedLeg}
use Rattle.seat_nesting.specs.Nesting.{Steps}
use Rattle.seat_nesting.specs.Planning.{Planned, steps_in}
use Rattle.seat_limits.specs.Authorised.{authorised, authorised_legs, leg_pair, AreNumbers}
use Rattle.seat_limits.proofs.Grids.{closed_more, legs_more}
use Rattle.seat_limits.proofs.building.add_flight.Goals as goal

pub loop-j-init : goal.loop-j-init
loop-j-init c = record {
  flights = refl;
  legs = c.requires.closed;
  numbers = c.requires.numbers;
  nears = c.requires.nears;
}

pub loop-j-preserved : goal.loop-j-preserved
loop-j-preserved c =
    let given : DatedLeg → Steps = λ leg. authorised c.args.rows.now (leg_pair c.args.flight.now leg) leg.day in
    let mid : Planned = c.number_of.new.plan in
    let steps : Steps = steps_in mid.ladders c.in-Ok.number in
    let its : steps ≡ given c.index-legs-j.result = c.in-Ok.ensures.steps ∙ (rw c.leg_pair_of.ensures at c.row_of-row.ensures.ladder) in
    record {
      flights = ap (λ (p : Planned). p.flights) c.in-Ok-add_leg.ensures ∙ c.in-Ok.ensures.flights ∙ c.loop-j.invariant.flights;
      legs =
          ap (λ (p : Planned). p.legs) c.in-Ok-add_leg.ensures
          ∙ ap (λ (l : List Steps). l ++ steps ∷ []) c.in-Ok.ensures.legs
          ∙ legs_more c.loop-j.plan.legs steps c.as_slice-legs.result.now given c.loop-j.j c.index-legs-j.result c.loop-j.invariant.legs c.loop-j-test.true c.index-legs-j.is its;
      numbers = subst (λ (l : List Steps). AreNumbers c.number_of.new.numbers.beside.items c.args.rows.now l) (sym (ap (λ (p : Planned). p.ladders) c.in-Ok-add_leg.ensures)) c.in-Ok.ensures.numbers;
      nears = c.row_of-row.ensures.nears;
    }

pub returns-clause-flights : goal.returns-clause-flights
returns-clause-flights c =
    let given : DatedLeg → Steps = λ leg. authorised c.args.rows.now (leg_pair c.args.flight.now leg) leg.day in
    let legs : c.loop-j.plan.legs ≡ authorised_legs c.args.rows.now c.args.flight.now = c.loop-j.invariant.legs ∙ take_all c.loop-j.j (map given c.as_slice-legs.result.now) (rw length-map c.loop-j-test.false) ∙ ap (map given) c.as_slice-legs.ensures in
    closed_more c.close_flight.result c.args.plan.now c.loop-j.plan c.close_flight.new.self (authorised_legs c.args.rows.now c.args.flight.now) c.loop-j.invariant.flights legs c.close_flight.ensures
