use Rattle.std.proofs.Common.{◌≡◌, List, All, length, ap, sym, subst, ◌∙◌}
use Rattle.ssim_records.specs.declared.carrier.Leg.{Leg}
use Rattle.ssim_flights.specs.LegChains.{chain, broken_chain}
use Rattle.ssim_flights.specs.Right.{IsRightLeg}
use Rattle.ssim_flights.specs.Schedules.{schedule}
use Rattle.ssim_flights.specs.Taken.{has_departure}
use Rattle.ssim_flights.specs.Timetables.{flights_in}
use Rattle.ssim_flights.proofs.Addings.{on_ok}
use Rattle.ssim_flights.proofs.Chaining.{chain_right, fault_one, fault_two, fault_three}
use Rattle.ssim_flights.proofs.Addings.{added_chain, days_are, refusal_same, refused}
use Rattle.ssim_flights.proofs.adding.add.Goals as goal

pub returns-in-Some-clause-fault : goal.returns-in-Some-clause-fault
returns-in-Some-clause-fault c =
    refused _ c.refuse.result _ _ c.refuse.ensures
    (fault_one c.args.plan.now (has_departure c.args.flown.now.taken) (length (flights_in c.args.flown.now.flights)) c.args.legs.now c.in-Some.serial
    (sym c.missing_leg.ensures ∙ c.in-Some.is))

pub returns-in-Some-repeated_leg-clause-fault : goal.returns-in-Some-repeated_leg-clause-fault
returns-in-Some-repeated_leg-clause-fault c =
    refused _ c.refuse-in-Some-repeated_leg.result _ _ c.refuse-in-Some-repeated_leg.ensures
    (fault_two c.args.plan.now (has_departure c.args.flown.now.taken) (length (flights_in c.args.flown.now.flights)) c.args.legs.now c.in-Some-repeated_leg.serial
    (sym c.missing_leg.ensures ∙ c.in_default.is) (sym c.repeated_leg.ensures ∙ c.in-Some-repeated_leg.is))

pub returns-in-Some-broken_chain-clause-fault : goal.returns-in-Some-broken_chain-clause-fault
returns-in-Some-broken_chain-clause-fault c =
    let links : c.as_slice-chained.result.now ≡ chain c.args.legs.now = c.as_slice-chained.ensures.value ∙ c.in-Ok.ensures in
    refused _ c.refuse-in-Some-broken_chain.result _ _ c.refuse-in-Some-broken_chain.ensures
    (fault_three c.args.plan.now (has_departure c.args.flown.now.taken) (length (flights_in c.args.flown.now.flights)) c.args.legs.now c.in-Some-broken_chain.serial
    (sym c.missing_leg.ensures ∙ c.in_default.is) (sym c.repeated_leg.ensures ∙ c.in_default-repeated_leg.is)
    (ap broken_chain (sym links) ∙ sym c.broken_chain.ensures ∙ c.in-Some-broken_chain.is))

pub schedule-requires-clause-right : goal.schedule-requires-clause-right
schedule-requires-clause-right c =
    let links : c.as_slice-chained.result.now ≡ chain c.args.legs.now = c.as_slice-chained.ensures.value ∙ c.in-Ok.ensures in
    subst (λ (l : List Leg). All IsRightLeg l) (sym links) (chain_right IsRightLeg c.args.legs.now c.requires.right)

pub returns-clause-ok : goal.returns-clause-ok
returns-clause-ok c =
    let links : c.as_slice-chained.result.now ≡ chain c.args.legs.now = c.as_slice-chained.ensures.value ∙ c.in-Ok.ensures in
    let plans : c.as_slice-scheduled.result.now ≡ schedule c.args.plan.now (chain c.args.legs.now) = c.as_slice-scheduled.ensures.value ∙ c.in-Ok-schedule.ensures ∙ ap (schedule c.args.plan.now) links in
    on_ok c.add_chain.result _ _
    (added_chain c.args.plan.now c.args.legs.now c.as_slice-scheduled.result.now c.args.flown.now _ plans
    (sym c.missing_leg.ensures ∙ c.in_default.is) (sym c.repeated_leg.ensures ∙ c.in_default-repeated_leg.is)
    (ap broken_chain (sym links) ∙ sym c.broken_chain.ensures ∙ c.in_default-broken_chain.is))
    c.add_chain.ensures.ok

pub returns-clause-fault : goal.returns-clause-fault
returns-clause-fault c =
    let links : c.as_slice-chained.result.now ≡ chain c.args.legs.now = c.as_slice-chained.ensures.value ∙ c.in-Ok.ensures in
    let plans : c.as_slice-scheduled.result.now ≡ schedule c.args.plan.now (chain c.args.legs.now) = c.as_slice-scheduled.ensures.value ∙ c.in-Ok-schedule.ensures ∙ ap (schedule c.args.plan.now) links in
    refusal_same c.add_chain.result _ _
    (days_are c.args.plan.now (has_departure c.args.flown.now.taken) (length (flights_in c.args.flown.now.flights)) c.args.legs.now c.as_slice-scheduled.result.now plans
    (sym c.missing_leg.ensures ∙ c.in_default.is) (sym c.repeated_leg.ensures ∙ c.in_default-repeated_leg.is)
    (ap broken_chain (sym links) ∙ sym c.broken_chain.ensures ∙ c.in_default-broken_chain.is))
    c.add_chain.ensures.fault
