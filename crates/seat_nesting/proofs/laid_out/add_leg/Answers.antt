use Rattle.std.proofs.Common.{◌≡◌, ◌<◌, length, unwrap_or, [], Some, Option, refl, ap, sym, subst, ◌∙◌}
use Rattle.std.proofs.lemmas.Option.{slice_get-get_or}
use Rattle.std.specs.Option.{IfSome}
use Rattle.seat_nesting.specs.Nesting.{Steps, steps_at}
use Rattle.seat_nesting.proofs.Layouts.{absent_told, shared_told}
use Rattle.seat_nesting.proofs.laid_out.add_leg.Goals as goal

pub returns-in_default-clause-legs : goal.returns-in_default-clause-legs
returns-in_default-clause-legs c =
    absent_told c.push_leg.result c.args.layout.now c.push_leg.new.layout c.args.ladder c.in_default.is c.push_leg.ensures.shared c.push_leg.ensures.legs c.push_leg.ensures.numbers

pub returns-clause-legs : goal.returns-clause-legs
returns-clause-legs c =
    let shared = c.args.layout.now.shared.items in
    let inside : c.in-Some.i < length shared = subst (λ o. IfSome o (λ i. i < length shared)) c.in-Some.is c.requires in
    let got : c.index.result.now ≡ steps_at shared c.in-Some.i = c.index.ensures ∙ ap (λ (o : Option Steps). unwrap_or o []) (sym (slice_get-get_or shared c.in-Some.i c.index.result.now inside)) in
    shared_told c.push_leg-2.result c.args.layout.now c.push_leg-2.new.layout c.args.ladder c.index.result.now c.in-Some.i (length c.steps.result.now) c.in-Some.is inside got c.steps.ensures.ladder (ap length c.steps.ensures.value) c.push_leg-2.ensures.shared c.push_leg-2.ensures.legs c.push_leg-2.ensures.numbers
