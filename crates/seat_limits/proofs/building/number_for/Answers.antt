use Rattle.std.proofs.Common.{◌≡◌, option_map, unwrap_or, [], Option, Some, sym, ap, ◌∙◌}
use Rattle.std.proofs.lemmas.Option.{slice_get-get_or}
use Rattle.seat_nesting.specs.Planning.{Planned}
use Rattle.seat_limits.specs.Authorised.{row_steps}
use Rattle.seat_limits.specs.declared.limit_row.LimitRow.{LimitRow}
use Rattle.seat_limits.proofs.Sharing.{put_steps, still_numbers}
use Rattle.seat_limits.proofs.building.number_for.Goals as goal

pub returns-in-Some-clause-there : goal.returns-in-Some-clause-there
returns-in-Some-clause-there c = (c.requires.numbers.each c.in-Some.ensures.row c.in-Some.number c.in-Some.ensures.beside).0

pub returns-in-Some-clause-steps : goal.returns-in-Some-clause-steps
returns-in-Some-clause-steps c =
    let row : LimitRow = c.index-rows-row.result in
    let at = slice_get-get_or c.args.rows.now c.args.row row c.requires.inside in
    let is =
    sym (ap (λ (o : Option LimitRow). unwrap_or (option_map (λ (r : LimitRow). r.ladder) o) []) at) in
    (c.requires.numbers.each c.in-Some.ensures.row c.in-Some.number c.in-Some.ensures.beside).1 ∙ c.in-Some.ensures.same ∙ is

pub returns-clause-steps : goal.returns-clause-steps
returns-clause-steps c =
    let row : LimitRow = c.index-rows-row.result in
    let at = slice_get-get_or c.args.rows.now c.args.row row c.requires.inside in
    let is : c.ladder.result ≡ row_steps c.args.rows.now (Some c.args.row) =
    c.ladder.ensures ∙ sym (ap (λ (o : Option LimitRow). unwrap_or (option_map (λ (r : LimitRow). r.ladder) o) []) at) in
    put_steps c.args.plan.now.ladders c.put.new.self.ladders c.in-Ok.number c.ladder.result c.in-Ok.ensures.number (ap (λ (p : Planned). p.ladders) c.in-Ok.ensures.ladder) ∙ is

pub returns-clause-numbers : goal.returns-clause-numbers
returns-clause-numbers c =
    still_numbers c.args.numbers.now.beside.items c.args.rows.now c.args.plan.now.ladders c.put.new.self.ladders c.ladder.result c.requires.numbers (ap (λ (p : Planned). p.ladders) c.in-Ok.ensures.ladder)
