use Rattle.std.proofs.Common.{◌≡◌, ◌+◌, not, List, [], ◌∷◌, ◌++◌, take, sym, ap, subst, ◌∙◌, arith}
use Rattle.std.specs.List.{list_any, position_or_len}
use Rattle.std.proofs.lemmas.List.{take_more}
use Rattle.ssim_records.specs.declared.carrier.Leg.{Leg}
use Rattle.ssim_flights.specs.declared.itinerary.Name.{Name}
use Rattle.ssim_flights.specs.Itineraries.{same_name, with_name}
use Rattle.ssim_flights.proofs.Grouping.{IsGathered, gathered_placed, gathered_all, placed_below}
use Rattle.ssim_flights.proofs.itinerary.itineraries.Goals as goal

pub place-requires : goal.place-requires
place-requires c = λ old. placed_below (take c.loop-leg.leg-index c.args.legs.now) c.loop-leg.names.keys c.loop-leg.all _ c.in-Ok.index c.in-Ok.is_new c.loop-leg.invariant c.in-Ok.ensures.len c.in-Ok.ensures.within old

pub loop-leg-preserved : goal.loop-leg-preserved
loop-leg-preserved c =
    let legs = c.args.legs.now in
    let i = c.loop-leg.leg-index in
    let leg = c.leg-item.result in
    let front : take (i + 1) legs ≡ take i legs ++ leg ∷ [] = take_more legs i leg (omega arith) ∙ ap (λ x. take i legs ++ x ∷ []) (sym c.leg-item.is) in
    let e = c.in-Ok.ensures in
    let name = c.name_of.ensures in
    let names = c.loop-leg.names.keys in
    subst (λ (l : List Leg). IsGathered l c.insert_full.new.self.keys c.place.new.self) (sym front)
    (gathered_placed (take i legs) leg names c.insert_full.new.self.keys c.loop-leg.all c.place.new.self c.in-Ok.index c.in-Ok.is_new c.loop-leg.invariant
    (e.added ∙ ap (λ (n : Name). not (list_any (same_name n) names)) name) (e.keys ∙ ap (with_name names) name) e.unique
    (e.index ∙ ap (λ (n : Name). position_or_len (same_name n) names) name) c.in-Ok-place.ensures.begun c.in-Ok-place.ensures.extended)

pub returns : goal.returns
returns c = gathered_all c.args.legs.now c.loop-leg.leg-index c.loop-leg.names.keys c.loop-leg.all (omega arith) c.loop-leg.invariant
