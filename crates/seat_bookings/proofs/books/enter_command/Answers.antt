use Rattle.seat_bookings.specs.declared.books.FlightBook.{FlightBook}
use Rattle.seat_rules.specs.Applying.{effect_of}
use Rattle.seat_bookings.proofs.Kept.Entering.{command_on, entered_in, queue_here, queued_at, spare_inside}
use Rattle.seat_bookings.proofs.books.enter_command.Goals as goal

pub apply-requires-clause-queue : goal.apply-requires-clause-queue
apply-requires-clause-queue c =
    let books = c.args.books.now.items in
    let inside = spare_inside books c.args.command.now.place c.in-Some.place (effect_of c.args.entry.now.reply) c.in-Some.is c.requires.spare in
    queue_here books c.in-Some.place.flight c.index_mut-book.result.now c.requires.queued inside c.index_mut-book.ensures.value

pub returns-clause-entered : goal.returns-clause-entered
returns-clause-entered c =
    let books = c.args.books.now.items in
    let place = c.in-Some.place in
    let inside = spare_inside books c.args.command.now.place place (effect_of c.args.entry.now.reply) c.in-Some.is c.requires.spare in
    let on = command_on c.args.entry.now.work c.args.command.now place c.requires.command c.in-Some.is in
    let new : FlightBook = record { bookings = c.apply.new.bookings; queue = c.apply.new.queue } in
    entered_in books c.index_mut-book.result.now new c.args.entry.now place.flight on inside c.index_mut-book.ensures.value c.apply.ensures.bookings

pub returns-clause-queued : goal.returns-clause-queued
returns-clause-queued c =
    let books = c.args.books.now.items in
    let inside = spare_inside books c.args.command.now.place c.in-Some.place (effect_of c.args.entry.now.reply) c.in-Some.is c.requires.spare in
    let new : FlightBook = record { bookings = c.apply.new.bookings; queue = c.apply.new.queue } in
    queued_at books c.in-Some.place.flight new c.requires.queued inside c.apply.ensures.queue
