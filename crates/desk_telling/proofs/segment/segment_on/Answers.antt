use Rattle.std.proofs.Common.{◌≡◌, ◌∙◌, Option, Some, None, slice_get, ap, ap₂, sym}
use Rattle.ssim_flights.specs.declared.flight.DatedLeg.{DatedLeg}
use Rattle.desk_telling.specs.Segments.{segment_between}
use Rattle.desk_telling.proofs.Places.{at_place, past_place}
use Rattle.desk_telling.proofs.segment.segment_on.Goals as goal

pub returns : goal.returns
returns c =
    let legs = c.args.flight.now.legs in
    let from = c.in_ok-first.ensures.lookup in
    let to = c.in_ok-last.ensures.lookup in
    let first : slice_get legs c.args.place.from ≡ Some c.in_ok-first.first.now =
    at_place c.as_slice-legs.result.now legs c.from.result c.args.place.from c.in_ok-first.first.now c.as_slice-legs.ensures c.from.ensures from.3.0 from.1 in
    let last : slice_get legs c.args.place.to ≡ Some c.in_ok-last.last.now =
    at_place c.as_slice-legs.result.now legs c.from-2.result c.args.place.to c.in_ok-last.last.now c.as_slice-legs.ensures c.from-2.ensures to.3.0 to.1 in
    sym (ap₂ (λ (a b : Option DatedLeg). segment_between c.args.command.now c.args.flight.now a b) first last)

pub returns-in_err-last : goal.returns-in_err-last
returns-in_err-last c =
    let legs = c.args.flight.now.legs in
    let from = c.in_ok-first.ensures.lookup in
    let first : slice_get legs c.args.place.from ≡ Some c.in_ok-first.first.now =
    at_place c.as_slice-legs.result.now legs c.from.result c.args.place.from c.in_ok-first.first.now c.as_slice-legs.ensures c.from.ensures from.3.0 from.1 in
    let last : slice_get legs c.args.place.to ≡ None =
    past_place c.as_slice-legs.result.now legs c.from-2.result c.args.place.to c.as_slice-legs.ensures c.from-2.ensures c.in_err-last.ensures.lookup.3 in
    c.from_residual-in_err-last.ensures ∙ sym (ap₂ (λ (a b : Option DatedLeg). segment_between c.args.command.now c.args.flight.now a b) first last)

pub returns-in_err-first : goal.returns-in_err-first
returns-in_err-first c =
    let legs = c.args.flight.now.legs in
    let first : slice_get legs c.args.place.from ≡ None =
    past_place c.as_slice-legs.result.now legs c.from.result c.args.place.from c.as_slice-legs.ensures c.from.ensures c.in_err-first.ensures.lookup.3 in
    c.from_residual.ensures
    ∙ sym (ap (λ (a : Option DatedLeg). segment_between c.args.command.now c.args.flight.now a (slice_get legs c.args.place.to)) first)
