use Rattle.std.proofs.Common.{◌≡◌, ◌+◌, ◌∷◌, [], ◌++◌, List, map, take, sym, ap, ◌∙◌, arith}
use Rattle.std.proofs.lemmas.List.{map-append, take_all, take_more}
use Rattle.ssim_records.specs.declared.carrier.Leg.{Leg}
use Rattle.ssim_flights.specs.Schedules.{scheduled}
use Rattle.ssim_flights.specs.declared.schedule.Scheduled.{Scheduled}
use Rattle.ssim_flights.proofs.schedule.schedule.Goals as goal

pub loop-leg-init : goal.loop-leg-init
loop-leg-init c = c.clear.ensures.items

pub loop-leg-preserved : goal.loop-leg-preserved
loop-leg-preserved c =
    let legs = c.args.legs.now in
    let i = c.loop-leg.leg-index in
    let leg = c.leg-item.result in
    let front : take (i + 1) legs ≡ take i legs ++ leg ∷ [] = take_more legs i leg (omega arith) ∙ ap (λ (x : Leg). take i legs ++ x ∷ []) (sym c.leg-item.is) in
    c.in-Ok.ensures.items ∙ ap (λ (s : List Scheduled). s ++ c.schedule_leg.result ∷ []) c.loop-leg.invariant
    ∙ ap (λ (s : Scheduled). map (scheduled c.args.plan.now) (take i legs) ++ s ∷ []) c.schedule_leg.ensures
    ∙ sym (map-append (scheduled c.args.plan.now) (take i legs) (leg ∷ [])) ∙ ap (map (scheduled c.args.plan.now)) (sym front)

pub returns : goal.returns
returns c = c.loop-leg.invariant ∙ ap (map (scheduled c.args.plan.now)) (take_all c.loop-leg.leg-index c.args.legs.now c.loop-leg-test.false)
