use Rattle.std.proofs.Common.{◌≡◌, ◌+◌, ◌-◌, ◌<◌, None, get_or, length, arith, sym, ◌∙◌}
use Rattle.std.proofs.lemmas.List.{get_or_default}
use Rattle.seat_limits.specs.Authorised.{is_for}
use Rattle.seat_limits.specs.RowStretches.{slot, last_where, IsFirst}
use Rattle.seat_limits.proofs.RowSlots.{stretch_row, ahead_of_rows, found_inside}
use Rattle.seat_questions.proofs.Marking.{no_where}
use Rattle.seat_questions.proofs.winning.row_on.Goals as goal

pub returns-in_err-number-clause-last : goal.returns-in_err-number-clause-last
returns-in_err-number-clause-last c =
    rw c.from_residual.ensures (sym (no_where c.args.pair c.args.day c.args._rows.now (length c.args._rows.now) (sym (c.requires.last_is c.args.pair) ∙ sym c.in_err-number.ensures.value)))

pub returns-then-place-eq0-clause-last : goal.returns-then-place-eq0-clause-last
returns-then-place-eq0-clause-last c =
    let first : IsFirst c.args.index.now.edges.items (slot c.in_ok-number.field-0.now c.args.day + 1) c.first_at-place.result = rw (c.deref.ensures.value, c.slot.ensures.value) at c.first_at-place.ensures in
    let is : c.first_at-place.result ≡ 0 = omega arith in
    ahead_of_rows c.args.index.now.last c.args._rows.now c.args.index.now.edges.items c.args.index.now.found.items c.args.pair c.in_ok-number.field-0.now c.args.day c.first_at-place.result c.requires (sym c.in_ok-number.ensures.value) c.slot.ensures.day first is

pub returns-clause-last : goal.returns-clause-last
returns-clause-last c =
    let first : IsFirst c.args.index.now.edges.items (slot c.in_ok-number.field-0.now c.args.day + 1) c.first_at-place.result = rw (c.deref.ensures.value, c.slot.ensures.value) at c.first_at-place.ensures in
    let is : (c.first_at-place.result - 1) + 1 ≡ c.first_at-place.result = omega arith in
    let lt : c.first_at-place.result - 1 < length c.args.index.now.found.items = omega (arith, first.inside, is, c.requires.shown.counted) in
    let here : c.index.result.now ≡ get_or c.args.index.now.found.items (c.first_at-place.result - 1) None = c.index.ensures ∙ get_or_default c.args.index.now.found.items (c.first_at-place.result - 1) c.index.result.now None lt in
    here ∙ stretch_row c.args.index.now.last c.args._rows.now c.args.index.now.edges.items c.args.index.now.found.items c.args.pair c.in_ok-number.field-0.now c.args.day c.first_at-place.result (c.first_at-place.result - 1) c.requires (sym c.in_ok-number.ensures.value) c.slot.ensures.day first is

pub returns-clause-inside : goal.returns-clause-inside
returns-clause-inside c =
    let first : IsFirst c.args.index.now.edges.items (slot c.in_ok-number.field-0.now c.args.day + 1) c.first_at-place.result = rw (c.deref.ensures.value, c.slot.ensures.value) at c.first_at-place.ensures in
    let is : (c.first_at-place.result - 1) + 1 ≡ c.first_at-place.result = omega arith in
    let lt : c.first_at-place.result - 1 < length c.args.index.now.found.items = omega (arith, first.inside, is, c.requires.shown.counted) in
    let here : c.index.result.now ≡ get_or c.args.index.now.found.items (c.first_at-place.result - 1) None = c.index.ensures ∙ get_or_default c.args.index.now.found.items (c.first_at-place.result - 1) c.index.result.now None lt in
    let row : c.index.result.now ≡ last_where (is_for c.args.pair c.args.day) c.args._rows.now (length c.args._rows.now) =
    here ∙ stretch_row c.args.index.now.last c.args._rows.now c.args.index.now.edges.items c.args.index.now.found.items c.args.pair c.in_ok-number.field-0.now c.args.day c.first_at-place.result (c.first_at-place.result - 1) c.requires (sym c.in_ok-number.ensures.value) c.slot.ensures.day first is in
    found_inside c.args._rows.now c.args.pair c.args.day c.index.result.now row
