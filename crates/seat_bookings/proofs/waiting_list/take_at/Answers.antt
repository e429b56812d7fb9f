use Rattle.std.proofs.Common.{◌≡◌, ◌≤◌, List, arith, drop, length, remove, ap, subst, sym, ◌∙◌}
use Rattle.std.proofs.lemmas.List.Edits.{length-remove}
use Rattle.seat_rules.specs.declared.booking.Booking.{Booking}
use Rattle.seat_rules.specs.Applying.{IsOrdered}
use Rattle.seat_bookings.specs.declared.demands.Demand.{Demand}
use Rattle.seat_bookings.specs.Demands.{least_with, smallest_of, demand_first, demand_smallest, near_left, next_first, next_of, settled, IsIndexed}
use Rattle.seat_bookings.proofs.Waitlists.Departures.{demand_enough, demand_least, left, ordered_gone}
use Rattle.seat_bookings.proofs.waiting_list.take_at.Goals as goal

pub leave-requires-clause-within : goal.leave-requires-clause-within
leave-requires-clause-within c =
    let P : List Booking → Type 0 = λ ys. c.args.at ≤ length ys in
    subst P (sym (c.as_slice.ensures ∙ c.remove-gone.ensures.items))
    (omega (arith, length-remove c.args.bookings.now.items c.args.at c.requires.within, c.requires.within))

pub leave-requires-clause-ordered : goal.leave-requires-clause-ordered
leave-requires-clause-ordered c =
    subst IsOrdered (sym (c.as_slice.ensures ∙ c.remove-gone.ensures.items)) (ordered_gone c.args.bookings.now.items c.args.at c.requires.indexed.ordered)

pub leave-requires-clause-enough : goal.leave-requires-clause-enough
leave-requires-clause-enough c =
    demand_enough c.args.bookings.now.items c.args.demands.now.items c.args.at c.remove-gone.result c.requires.indexed c.requires.within c.remove-gone.ensures.value

pub leave-requires-clause-least : goal.leave-requires-clause-least
leave-requires-clause-least c =
    let b = c.remove-gone.result in
    let ps = c.args.demands.now.items in
    let P : List Booking → Type 0 = λ ys. demand_smallest b.place b.class ps ≡ least_with b.seats (smallest_of b.place b.class ys) in
    subst P (sym (c.as_slice.ensures ∙ c.remove-gone.ensures.items)) (demand_least c.args.bookings.now.items ps c.args.at b c.requires.indexed c.requires.within c.remove-gone.ensures.value)

pub returns-clause-indexed : goal.returns-clause-indexed
returns-clause-indexed c =
    let b : Booking = c.remove-gone.result in
    let xs : List Booking = c.args.bookings.now.items in
    let ps = c.args.demands.now.items in
    let same : c.as_slice.result.now ≡ remove xs c.args.at = c.as_slice.ensures ∙ c.remove-gone.ensures.items in
    let after : List Booking → List Demand =
    λ ys. settled ps b.place b.class (smallest_of b.place b.class ys)
    (next_first (demand_first b.place b.class ps) b.number (next_of b.place b.class (drop c.args.at ys)))
    (near_left b.place b.class (smallest_of b.place b.class ys) ps ys) b.seats in
    let new : c.leave.new.demands.items ≡ after (remove xs c.args.at) = c.leave.ensures ∙ ap after same in
    let P : List Booking → Type 0 = λ ys. IsIndexed ys c.leave.new.demands.items in
    subst P (sym c.remove-gone.ensures.items)
    (subst (IsIndexed (remove xs c.args.at)) (sym new) (left xs ps c.args.at b c.requires.indexed c.requires.within c.remove-gone.ensures.value))
