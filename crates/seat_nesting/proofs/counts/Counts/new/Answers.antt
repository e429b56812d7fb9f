use Rattle.std.proofs.Common.{◌≡◌, length, replicate, ap, ◌∙◌, arith}
use Rattle.std.specs.Vec.{vec_capacity}
use Rattle.seat_nesting.specs.declared.laid_out.Layout.{Layout}
use Rattle.seat_nesting.proofs.Layouts.{are_new, new_counters, new_limits, new_seats}
use Rattle.seat_nesting.proofs.counts.Counts.new.Goals as goal

pub invariant_of-result : goal.invariant_of-result
invariant_of-result c =
    let layout : Layout = c.in-Ok.layout in
    let legs : c.in-Ok-from_slice.legs.items ≡ layout.legs.items = c.in-Ok-from_slice.ensures.items ∙ c.deref.ensures.value ∙ ap (λ (l : Layout). l.legs.items) c.get.ensures in
    let parts : c.in-Ok-from_slice-2.flights.items ≡ layout.flights.items = c.in-Ok-from_slice-2.ensures.items ∙ c.deref-2.ensures.value ∙ ap (λ (l : Layout). l.flights.items) c.get-2.ensures in
    let seats : c.in-Ok-no_seats.seats.items ≡ replicate layout.numbers 0 = c.in-Ok-no_seats.ensures ∙ ap (λ (l : Layout). replicate l.numbers 0) c.get-3.ensures in
    let count : c.in-Ok-number.places ≡ length c.in-Ok-from_slice.legs.items = omega (arith, c.in-Ok-number.ensures.value, c.len.ensures, c.in-Ok-from_slice.legs.ok) in
    new_counters layout c.args.grid.now c.in-Ok-no_seats.seats.items c.in-Ok-with_capacity.own.items c.in-Ok-number.places (vec_capacity c.in-Ok-with_capacity.own) c.of-flights.result
    (are_new layout c.layout.result.now c.args.grid.now c.in-Ok-no_seats.seats.items c.in-Ok-with_capacity.own.items c.in-Ok-number.places (vec_capacity c.in-Ok-with_capacity.own) c.in-Ok-from_slice.legs.items c.in-Ok-from_slice-2.flights.items c.of-flights.result
    c.layout.ensures c.in-Ok.ensures seats c.in-Ok-with_capacity.ensures.items count c.in-Ok-number.ensures.value.1 c.in-Ok-with_capacity.ensures.capacity legs parts c.of-flights.ensures)

pub returns-clause-limits : goal.returns-clause-limits
returns-clause-limits c =
    let layout : Layout = c.in-Ok.layout in
    let legs : c.in-Ok-from_slice.legs.items ≡ layout.legs.items = c.in-Ok-from_slice.ensures.items ∙ c.deref.ensures.value ∙ ap (λ (l : Layout). l.legs.items) c.get.ensures in
    let parts : c.in-Ok-from_slice-2.flights.items ≡ layout.flights.items = c.in-Ok-from_slice-2.ensures.items ∙ c.deref-2.ensures.value ∙ ap (λ (l : Layout). l.flights.items) c.get-2.ensures in
    let seats : c.in-Ok-no_seats.seats.items ≡ replicate layout.numbers 0 = c.in-Ok-no_seats.ensures ∙ ap (λ (l : Layout). replicate l.numbers 0) c.get-3.ensures in
    let count : c.in-Ok-number.places ≡ length c.in-Ok-from_slice.legs.items = omega (arith, c.in-Ok-number.ensures.value, c.len.ensures, c.in-Ok-from_slice.legs.ok) in
    new_limits layout c.args.grid.now c.in-Ok-no_seats.seats.items c.in-Ok-with_capacity.own.items c.in-Ok-number.places (vec_capacity c.in-Ok-with_capacity.own) c.of-flights.result
    (are_new layout c.layout.result.now c.args.grid.now c.in-Ok-no_seats.seats.items c.in-Ok-with_capacity.own.items c.in-Ok-number.places (vec_capacity c.in-Ok-with_capacity.own) c.in-Ok-from_slice.legs.items c.in-Ok-from_slice-2.flights.items c.of-flights.result
    c.layout.ensures c.in-Ok.ensures seats c.in-Ok-with_capacity.ensures.items count c.in-Ok-number.ensures.value.1 c.in-Ok-with_capacity.ensures.capacity legs parts c.of-flights.ensures)

pub returns-clause-seats : goal.returns-clause-seats
returns-clause-seats c =
    let layout : Layout = c.in-Ok.layout in
    let legs : c.in-Ok-from_slice.legs.items ≡ layout.legs.items = c.in-Ok-from_slice.ensures.items ∙ c.deref.ensures.value ∙ ap (λ (l : Layout). l.legs.items) c.get.ensures in
    let parts : c.in-Ok-from_slice-2.flights.items ≡ layout.flights.items = c.in-Ok-from_slice-2.ensures.items ∙ c.deref-2.ensures.value ∙ ap (λ (l : Layout). l.flights.items) c.get-2.ensures in
    let seats : c.in-Ok-no_seats.seats.items ≡ replicate layout.numbers 0 = c.in-Ok-no_seats.ensures ∙ ap (λ (l : Layout). replicate l.numbers 0) c.get-3.ensures in
    let count : c.in-Ok-number.places ≡ length c.in-Ok-from_slice.legs.items = omega (arith, c.in-Ok-number.ensures.value, c.len.ensures, c.in-Ok-from_slice.legs.ok) in
    new_seats layout c.args.grid.now c.in-Ok-no_seats.seats.items c.in-Ok-with_capacity.own.items c.in-Ok-number.places (vec_capacity c.in-Ok-with_capacity.own) c.of-flights.result
    (are_new layout c.layout.result.now c.args.grid.now c.in-Ok-no_seats.seats.items c.in-Ok-with_capacity.own.items c.in-Ok-number.places (vec_capacity c.in-Ok-with_capacity.own) c.in-Ok-from_slice.legs.items c.in-Ok-from_slice-2.flights.items c.of-flights.result
    c.layout.ensures c.in-Ok.ensures seats c.in-Ok-with_capacity.ensures.items count c.in-Ok-number.ensures.value.1 c.in-Ok-with_capacity.ensures.capacity legs parts c.of-flights.ensures)
