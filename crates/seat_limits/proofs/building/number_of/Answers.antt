use Rattle.std.proofs.Common.{◌<◌, length, ap, sym, subst, ◌∙◌, arith}
use Rattle.std.specs.Option.{IfSome}
use Rattle.seat_limits.specs.Authorised.{row_steps}
use Rattle.seat_limits.proofs.Sharing.{found_number, note_number}
use Rattle.seat_limits.proofs.building.number_of.Goals as goal

pub returns-in-Some-index-clause-there : goal.returns-in-Some-index-clause-there
returns-in-Some-index-clause-there c =
    let inside : c.in-Some.row < length c.args.rows.now = subst (λ o. IfSome o (λ i. i < length c.args.rows.now)) c.in-Some.is c.requires.inside in
    let few : c.in-Some.row < length c.args.numbers.now.beside.items = omega (arith, inside, c.requires.numbers.counted) in
    (c.requires.numbers.each c.in-Some.row c.in-Some-index.number (found_number c.args.numbers.now.beside.items c.in-Some.row c.in-Some-index.number c.index.result.now few c.index.ensures c.in-Some-index.is)).0

pub returns-in-Some-index-clause-steps : goal.returns-in-Some-index-clause-steps
returns-in-Some-index-clause-steps c =
    let inside : c.in-Some.row < length c.args.rows.now = subst (λ o. IfSome o (λ i. i < length c.args.rows.now)) c.in-Some.is c.requires.inside in
    let few : c.in-Some.row < length c.args.numbers.now.beside.items = omega (arith, inside, c.requires.numbers.counted) in
    (c.requires.numbers.each c.in-Some.row c.in-Some-index.number (found_number c.args.numbers.now.beside.items c.in-Some.row c.in-Some-index.number c.index.result.now few c.index.ensures c.in-Some-index.is)).1
    ∙ ap (row_steps c.args.rows.now) (sym c.in-Some.is)

pub returns-clause-numbers : goal.returns-clause-numbers
returns-clause-numbers c =
    let inside : c.in-Some.row < length c.args.rows.now = subst (λ o. IfSome o (λ i. i < length c.args.rows.now)) c.in-Some.is c.requires.inside in
    note_number c.number_for.new.numbers.beside.items c.args.rows.now c.number_for.new.plan.ladders c.in-Some.row c.in-Ok.number c.in-Ok.ensures.numbers inside c.in-Ok.ensures.there c.in-Ok.ensures.steps
