use Rattle.std.proofs.Common.{◌≡◌, Option, Some, None, slice_get, subst, sym}
use Rattle.ssim_flights.specs.declared.flight.DatedLeg.{DatedLeg}
use Rattle.desk_telling.specs.Telling.{IsBehind, IsLegOf}
use Rattle.desk_telling.proofs.Places.{at_place, past_place}
use Rattle.desk_telling.proofs.lines.put_leg_of.Goals as goal

pub returns-in-Some-clause-text : goal.returns-in-Some-clause-text
returns-in-Some-clause-text c =
    let found = c.in-Some.ensures.lookup in
    let here : slice_get c.args.flight.now.legs c.args.leg ≡ Some c.in-Some.leg.now =
    at_place c.as_slice.result.now c.args.flight.now.legs c.from.result c.args.leg c.in-Some.leg.now c.as_slice.ensures c.from.ensures found.3.0 found.1 in
    subst (λ (leg : Option DatedLeg). IsBehind (IsLegOf c.args.flight.now leg) c.args.line.now.items c.put_leg_name.new.line.items) (sym here) c.put_leg_name.ensures.text

pub returns-in-None-clause-text : goal.returns-in-None-clause-text
returns-in-None-clause-text c =
    let past : slice_get c.args.flight.now.legs c.args.leg ≡ None =
    past_place c.as_slice.result.now c.args.flight.now.legs c.from.result c.args.leg c.as_slice.ensures c.from.ensures c.in-None.ensures.lookup.3 in
    subst (λ (leg : Option DatedLeg). IsBehind (IsLegOf c.args.flight.now leg) c.args.line.now.items c.put_no_leg.new.line.items) (sym past) c.put_no_leg.ensures.text
