use Rattle.std.proofs.Common.{◌∙◌, ℕ, ◌-◌, Option, ap, position, set, sym, arith}
use Rattle.seat_bookings.specs.Demands.{is_demand_of, settled}
use Rattle.seat_bookings.proofs.Waitlists.Demands.{seats_found, settled_found, settled_gone, settled_none}
use Rattle.seat_bookings.proofs.demands.settle.Goals as goal

pub overflow_sub-demand : goal.overflow_sub-demand
overflow_sub-demand c =
    let ps = c.args.demands.now.items in
    let found = c.in-Some.ensures ∙ ap (position (is_demand_of c.args.place c.args.class)) c.deref.ensures.value in
    let seats = seats_found ps c.args.place c.args.class c.in-Some.at c.index_mut-demand.result.now found c.index_mut-demand.ensures.value in
    omega (arith, c.requires, seats, c.from.ensures)

pub returns-in-Some-smallest : goal.returns-in-Some-smallest
returns-in-Some-smallest c =
    let ps = c.args.demands.now.items in
    let place = c.args.place in
    let class = c.args.class in
    let next = c.args.next in
    let close = c.args.close in
    let off = c.args.off in
    let at = c.in-Some.at in
    let p = c.index_mut-demand.result.now in
    let first = c.begun-demand.result in
    let near = c.begun-demand-in-Some-smallest.result in
    let m = c.in-Some-smallest.smallest in
    let found = c.in-Some.ensures ∙ ap (position (is_demand_of place class)) c.deref.ensures.value in
    ap (λ (n : ℕ). set ps at (record p { first = first; near = near; smallest = m; seats = p.seats - n })) c.from.ensures
    ∙ (sym (settled_found ps place class m next close off at first near p found c.index_mut-demand.ensures.value c.begun-demand.ensures c.begun-demand-in-Some-smallest.ensures)
    ∙ ap (λ (o : Option ℕ). settled ps place class o next close off) (sym c.in-Some-smallest.is))

pub returns-in-None : goal.returns-in-None
returns-in-None c =
    let ps = c.args.demands.now.items in
    let place = c.args.place in
    let class = c.args.class in
    let next = c.args.next in
    let close = c.args.close in
    let off = c.args.off in
    let found = c.in-Some.ensures ∙ ap (position (is_demand_of place class)) c.deref.ensures.value in
    c.remove.ensures.items
    ∙ (sym (settled_gone ps place class next close off c.in-Some.at c.remove.result found)
    ∙ ap (λ (o : Option ℕ). settled ps place class o next close off) (sym c.in-None.is))

pub returns-in_default : goal.returns-in_default
returns-in_default c =
    let found = c.in_default.ensures ∙ ap (position (is_demand_of c.args.place c.args.class)) c.deref.ensures.value in
    sym (settled_none c.args.demands.now.items c.args.place c.args.class c.args.off c.args.smallest c.args.next c.args.close found)
