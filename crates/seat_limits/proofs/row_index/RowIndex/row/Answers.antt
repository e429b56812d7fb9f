use Rattle.std.proofs.Common.{◌≡◌, ◌+◌, ◌-◌, ◌<◌, None, get_or, length, arith, sym, ◌∙◌}
use Rattle.std.proofs.lemmas.List.{get_or_default}
use Rattle.seat_limits.specs.Authorised.{is_for}
use Rattle.seat_limits.specs.RowStretches.{slot, last_where, IsFirst}
use Rattle.seat_limits.proofs.RowSlots.{stretch_row, ahead_of_rows, found_steps, found_inside, no_row}
use Rattle.seat_limits.proofs.row_index.RowIndex.row.Goals as goal

pub returns-in_default-clause-ladder : goal.returns-in_default-clause-ladder
returns-in_default-clause-ladder c =
    no_row c.args.pair c.args.day c.args._rows.now (sym (c.requires.index.last_is c.args.pair) ∙ sym c.number_known.ensures.number ∙ c.in_default.is)

pub returns-then-place-eq0-clause-ladder : goal.returns-then-place-eq0-clause-ladder
returns-then-place-eq0-clause-ladder c =
    let first : IsFirst c.args.self.now.edges.items (slot c.in-Some.number c.args.day + 1) c.first_near-place.result = rw (c.deref.ensures.value, c.slot.ensures.value) at c.first_near-place.ensures in
    let is : c.first_near-place.result ≡ 0 = omega arith in
    found_steps c.args._rows.now c.args.pair c.args.day None
    (ahead_of_rows c.args.self.now.last c.args._rows.now c.args.self.now.edges.items c.args.self.now.found.items c.args.pair c.in-Some.number c.args.day c.first_near-place.result c.requires.index (sym c.number_known.ensures.number ∙ c.in-Some.is) c.slot.ensures.day first is)

pub returns-clause-ladder : goal.returns-clause-ladder
returns-clause-ladder c =
    let first : IsFirst c.args.self.now.edges.items (slot c.in-Some.number c.args.day + 1) c.first_near-place.result = rw (c.deref.ensures.value, c.slot.ensures.value) at c.first_near-place.ensures in
    let is : (c.first_near-place.result - 1) + 1 ≡ c.first_near-place.result = omega arith in
    let lt : c.first_near-place.result - 1 < length c.args.self.now.found.items = omega (arith, first.inside, is, c.requires.index.shown.counted) in
    let here : c.index.result.now ≡ get_or c.args.self.now.found.items (c.first_near-place.result - 1) None = c.index.ensures ∙ get_or_default c.args.self.now.found.items (c.first_near-place.result - 1) c.index.result.now None lt in
    let row : c.index.result.now ≡ last_where (is_for c.args.pair c.args.day) c.args._rows.now (length c.args._rows.now) =
    here ∙ stretch_row c.args.self.now.last c.args._rows.now c.args.self.now.edges.items c.args.self.now.found.items c.args.pair c.in-Some.number c.args.day c.first_near-place.result (c.first_near-place.result - 1) c.requires.index (sym c.number_known.ensures.number ∙ c.in-Some.is) c.slot.ensures.day first is in
    found_steps c.args._rows.now c.args.pair c.args.day c.index.result.now row

pub returns-clause-inside : goal.returns-clause-inside
returns-clause-inside c =
    let first : IsFirst c.args.self.now.edges.items (slot c.in-Some.number c.args.day + 1) c.first_near-place.result = rw (c.deref.ensures.value, c.slot.ensures.value) at c.first_near-place.ensures in
    let is : (c.first_near-place.result - 1) + 1 ≡ c.first_near-place.result = omega arith in
    let lt : c.first_near-place.result - 1 < length c.args.self.now.found.items = omega (arith, first.inside, is, c.requires.index.shown.counted) in
    let here : c.index.result.now ≡ get_or c.args.self.now.found.items (c.first_near-place.result - 1) None = c.index.ensures ∙ get_or_default c.args.self.now.found.items (c.first_near-place.result - 1) c.index.result.now None lt in
    let row : c.index.result.now ≡ last_where (is_for c.args.pair c.args.day) c.args._rows.now (length c.args._rows.now) =
    here ∙ stretch_row c.args.self.now.last c.args._rows.now c.args.self.now.edges.items c.args.self.now.found.items c.args.pair c.in-Some.number c.args.day c.first_near-place.result (c.first_near-place.result - 1) c.requires.index (sym c.number_known.ensures.number ∙ c.in-Some.is) c.slot.ensures.day first is in
    found_inside c.args._rows.now c.args.pair c.args.day c.index.result.now row
