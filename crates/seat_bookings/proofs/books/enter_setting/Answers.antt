use Rattle.std.proofs.Common.{◌≤◌, ◌<◌, length, arith, ap, ◌∙◌}
use Rattle.seat_bookings.specs.declared.books.FlightBook.{FlightBook}
use Rattle.seat_rules.specs.Applying.{confirmed_each}
use Rattle.seat_bookings.proofs.Kept.Entering.{entered_at, entered_nowhere, queue_here, queued_at}
use Rattle.seat_bookings.proofs.books.enter_setting.Goals as goal

pub returns-then-flight-len-clause-entered : goal.returns-then-flight-len-clause-entered
returns-then-flight-len-clause-entered c =
    let beyond : length c.args.books.now.items ≤ c.args.flight = omega arith in
    entered_nowhere c.args.books.now.items c.args.entry.now c.args.flight c.requires.flight c.requires.nowhere beyond

pub confirm_all-requires : goal.confirm_all-requires
confirm_all-requires c =
    let inside : c.args.flight < length c.args.books.now.items = omega arith in
    record { queue = queue_here c.args.books.now.items c.args.flight c.index_mut-book.result.now c.requires.queued inside c.index_mut-book.ensures.value }

pub returns-clause-entered : goal.returns-clause-entered
returns-clause-entered c =
    let inside : c.args.flight < length c.args.books.now.items = omega arith in
    let new : FlightBook = record { bookings = c.confirm_all.new.bookings; queue = c.confirm_all.new.queue } in
    entered_at c.args.books.now.items c.index_mut-book.result.now new c.args.entry.now c.args.flight c.requires.flight c.requires.nowhere inside c.index_mut-book.ensures.value
    (c.confirm_all.ensures.bookings ∙ ap (confirmed_each c.index_mut-book.result.now.bookings.items) c.as_slice.ensures)

pub returns-clause-queued : goal.returns-clause-queued
returns-clause-queued c =
    let inside : c.args.flight < length c.args.books.now.items = omega arith in
    let new : FlightBook = record { bookings = c.confirm_all.new.bookings; queue = c.confirm_all.new.queue } in
    queued_at c.args.books.now.items c.args.flight new c.requires.queued inside c.confirm_all.ensures.queue
