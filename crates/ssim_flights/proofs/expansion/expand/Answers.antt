use Rattle.std.proofs.Common.{◌≡◌, ◌+◌, ◌-◌, ◌≤◌, List, All, None, refl, sym, ap, subst, ◌∙◌, arith}
use Rattle.std.specs.List.{IsDistinct}
use Rattle.ssim_records.specs.declared.carrier.Leg.{Leg}
use Rattle.ssim_flights.specs.declared.plan.Plan.{Plan}
use Rattle.ssim_flights.specs.Flown.{all_departures, dated_flights, first_fault, same_departure}
use Rattle.ssim_flights.specs.Itineraries.{itineraries}
use Rattle.ssim_flights.specs.Right.{IsRightLeg}
use Rattle.ssim_flights.specs.Schedules.{plan_of}
use Rattle.ssim_flights.proofs.Expanding.{distinct_all, end_small, fault_more, few_all, flights_all, flown_more, flown_none, itineraries_right, named, refusal_first, same_refusal}
use Rattle.ssim_flights.proofs.expansion.expand.Goals as goal

pub loop-legs-init : goal.loop-legs-init
unfolding first_fault
loop-legs-init c = (flown_none c.plan_of-plan.result _ c.new.ensures.none c.new.ensures.table c.new-2.ensures.empty, refl)

pub add-requires-clause-right : goal.add-requires-clause-right
add-requires-clause-right c =
    let legs = c.args.set.now.legs in
    let items : c.as_slice-legs-items.result.now ≡ itineraries legs = c.as_slice-legs-items.ensures ∙ c.in-Ok.ensures ∙ ap itineraries c.as_slice.ensures in
    let right : All (All IsRightLeg) c.as_slice-legs-items.result.now = subst (λ (ls : List (List Leg)). All (All IsRightLeg) ls) (sym items) (itineraries_right IsRightLeg legs c.requires.legs) in
    subst (λ (l : List Leg). All IsRightLeg l) (sym (c.as_slice-in-loop-legs.ensures ∙ c.legs-item.is)) (right c.loop-legs.legs-index c.legs-item.result (omega arith))

pub add-requires-clause-end : goal.add-requires-clause-end
unfolding plan_of
add-requires-clause-end c =
    let lasts = c.requires.first.lasts in
    let days = c.requires.days in
    let small : c.args.first + c.args.days - 1 ≤ 47846 = omega arith in
    subst (λ (p : Plan). p.end ≤ 47846) (sym c.plan_of-plan.ensures) (end_small c.args.set.now.carrier.to (c.args.first + c.args.days - 1) c.requires.carrier.to small)

pub returns-in-Err-clause-fault : goal.returns-in-Err-clause-fault
returns-in-Err-clause-fault c =
    let items : c.as_slice-legs-items.result.now ≡ itineraries c.args.set.now.legs = c.as_slice-legs-items.ensures ∙ c.in-Ok.ensures ∙ ap itineraries c.as_slice.ensures in
    same_refusal c.plan_of-plan.result _ c.as_slice-legs-items.result.now _ _ c.plan_of-plan.ensures items
    (refusal_first c.plan_of-plan.result c.as_slice-legs-items.result.now c.loop-legs.legs-index c.as_slice-in-loop-legs.result.now c.loop-legs.flown _ (omega arith)
    (named c.as_slice-legs-items.result.now c.loop-legs.legs-index c.legs-item.result c.as_slice-in-loop-legs.result.now c.as_slice-in-loop-legs.ensures c.legs-item.is)
    c.loop-legs.invariant.0 c.loop-legs.invariant.1 c.in-Err.ensures.fault)

pub loop-legs-preserved : goal.loop-legs-preserved
loop-legs-preserved c =
    let plan = c.plan_of-plan.result in
    let all = c.as_slice-legs-items.result.now in
    let i = c.loop-legs.legs-index in
    let legs = c.as_slice-in-loop-legs.result.now in
    let is = named all i c.legs-item.result legs c.as_slice-in-loop-legs.ensures c.legs-item.is in (
      flown_more plan all i legs c.loop-legs.flown c.add.new.flown (omega arith) is c.loop-legs.invariant.0 c.in_default-add.ensures.ok,
      c.loop-legs.invariant.1 ∙ fault_more plan all i legs c.loop-legs.flown None (omega arith) is c.loop-legs.invariant.0 c.in_default-add.ensures.ok.faultless,
    )

pub add-requires-clause-table : goal.add-requires-clause-table
add-requires-clause-table c = c.loop-legs.invariant.0.table

pub add-requires-clause-few : goal.add-requires-clause-few
unfolding plan_of
add-requires-clause-few c =
    let most : c.plan_of-plan.result.most ≡ c.args.most = ap (λ (p : Plan). p.most) c.plan_of-plan.ensures in
    let high = c.requires.most in
    let few = c.loop-legs.invariant.0.few in
    omega arith

pub of-requires-clause-table : goal.of-requires-clause-table
of-requires-clause-table c = c.loop-legs.invariant.0.table

pub of-requires-clause-joined : goal.of-requires-clause-joined
of-requires-clause-joined c = c.loop-legs.invariant.0.joined

pub of-requires-clause-few : goal.of-requires-clause-few
unfolding plan_of
of-requires-clause-few c =
    let most : c.plan_of-plan.result.most ≡ c.args.most = ap (λ (p : Plan). p.most) c.plan_of-plan.ensures in
    let high = c.requires.most in
    few_all c.plan_of-plan.result _ c.loop-legs.flown (omega arith) c.loop-legs.invariant.0

pub returns-clause-flights : goal.returns-clause-flights
returns-clause-flights c =
    let items : c.as_slice-legs-items.result.now ≡ itineraries c.args.set.now.legs = c.as_slice-legs-items.ensures ∙ c.in-Ok.ensures ∙ ap itineraries c.as_slice.ensures in
    c.of.ensures ∙ flights_all c.plan_of-plan.result c.as_slice-legs-items.result.now c.loop-legs.legs-index c.loop-legs.flown (omega arith) c.loop-legs.invariant.0
    ∙ ap (λ (p : Plan). dated_flights p c.as_slice-legs-items.result.now) c.plan_of-plan.ensures ∙ ap (dated_flights _) items

pub returns-clause-apart : goal.returns-clause-apart
returns-clause-apart c =
    let items : c.as_slice-legs-items.result.now ≡ itineraries c.args.set.now.legs =
    c.as_slice-legs-items.ensures ∙ c.in-Ok.ensures ∙ ap itineraries c.as_slice.ensures in
    subst (λ (all : List (List Leg)). IsDistinct same_departure (all_departures (plan_of c.args.set.now.carrier c.args.first c.args.days c.args.most) all)) items
    (subst (λ (p : Plan). IsDistinct same_departure (all_departures p c.as_slice-legs-items.result.now)) c.plan_of-plan.ensures
    (distinct_all c.plan_of-plan.result c.as_slice-legs-items.result.now c.loop-legs.legs-index c.loop-legs.flown (omega arith) c.loop-legs.invariant.0))
