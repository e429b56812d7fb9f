use Rattle.std.proofs.Common.{rules}
use Rattle.std.proofs.lemmas.List.Sorted.{answers_always}
use Rattle.seat_rules.specs.declared.booking.Booking.{Booking}
use Rattle.seat_lists.proofs.Picks.{found_by_number, none_by_number}
use Rattle.seat_lists.proofs.picking.with_number.Goals as goal

pub returns-in-Ok-clause-found : goal.returns-in-Ok-clause-found
returns-in-Ok-clause-found c =
    let facts = c.binary_search_by_key.ensures in
    let by_key = facts.position (λ (b : Booking). b.number) (answers_always _ _ _ (λ f a r g called. search rules)) in
    found_by_number c.args.number c.args.bookings.now c.binary_search_by_key.result c.in-Ok.at c.index-bookings-at.result c.in-Ok.is c.requires facts.bound by_key c.index-bookings-at.is

pub returns-in-Err-clause-none : goal.returns-in-Err-clause-none
returns-in-Err-clause-none c =
    let facts = c.binary_search_by_key.ensures in
    let by_key = facts.position (λ (b : Booking). b.number) (answers_always _ _ _ (λ f a r g called. search rules)) in
    none_by_number c.args.number c.args.bookings.now c.binary_search_by_key.result c.in-Err.field-0 c.in-Err.is c.requires facts.bound by_key
