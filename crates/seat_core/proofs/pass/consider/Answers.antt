use Rattle.std.proofs.Common.{◌≤◌, ◌<◌, ◌++◌, List, arith, refl, rules, ap, sym, ◌∙◌}
use Rattle.seat_journal.specs.declared.entry.Advice.{Advice}
use Rattle.seat_nesting.specs.Counting.{limits_of, table_of}
use Rattle.seat_nesting.specs.Nesting.{room}
use Rattle.seat_nesting.proofs.Rooms.{fits_free}
use Rattle.seat_rules.specs.Showing.{shown_advices}
use Rattle.seat_core.proofs.Passes.Undone.{taken_one, told_fits, told_held, told_over}
use Rattle.seat_core.proofs.pass.consider.Goals as goal

pub returns-then-not-is_waiting-clause-advices : goal.returns-then-not-is_waiting-clause-advices
returns-then-not-is_waiting-clause-advices c =
    rw (told_held (limits_of c.args.counts.now) (table_of c.args.counts.now) c.args.booking.now (sym c.is_waiting.ensures ∙ c.if-not-is_waiting.true)) (search rules)

pub returns-then-not-is_waiting-clause-seats : goal.returns-then-not-is_waiting-clause-seats
returns-then-not-is_waiting-clause-seats c =
    rw (told_held (limits_of c.args.counts.now) (table_of c.args.counts.now) c.args.booking.now (sym c.is_waiting.ensures ∙ c.if-not-is_waiting.true)) refl

pub returns-then-booking-room-clause-advices : goal.returns-then-booking-room-clause-advices
returns-then-booking-room-clause-advices c =
    let b = c.args.booking.now in
    let over : room (limits_of c.args.counts.now) (table_of c.args.counts.now) b.place b.class < b.seats = omega (arith, c.room.ensures, c.if-booking-room.true) in
    rw (told_over (limits_of c.args.counts.now) (table_of c.args.counts.now) b over) (search rules)

pub returns-then-booking-room-clause-seats : goal.returns-then-booking-room-clause-seats
returns-then-booking-room-clause-seats c =
    let b = c.args.booking.now in
    let over : room (limits_of c.args.counts.now) (table_of c.args.counts.now) b.place b.class < b.seats = omega (arith, c.room.ensures, c.if-booking-room.true) in
    rw (told_over (limits_of c.args.counts.now) (table_of c.args.counts.now) b over) refl

pub take-requires : goal.take-requires
take-requires c =
    let b = c.args.booking.now in
    let fits : b.seats ≤ room (limits_of c.args.counts.now) (table_of c.args.counts.now) b.place b.class = omega (arith, c.room.ensures, c.if-booking-room.false) in
    fits_free (limits_of c.args.counts.now) (table_of c.args.counts.now) b.place b.class b.seats fits

pub returns-clause-advices : goal.returns-clause-advices
returns-clause-advices c =
    let b = c.args.booking.now in
    let fits : b.seats ≤ room (limits_of c.args.counts.now) (table_of c.args.counts.now) b.place b.class = omega (arith, c.room.ensures, c.if-booking-room.false) in
    let told = told_fits (limits_of c.args.counts.now) (table_of c.args.counts.now) b (sym c.is_waiting.ensures ∙ c.if-not-is_waiting.false) fits in
    c.in-Ok.ensures.ok ∙ ap (λ (l : List Advice). c.args.advices.now.items ++ l) (sym told)

pub returns-clause-seats : goal.returns-clause-seats
returns-clause-seats c =
    let b = c.args.booking.now in
    let fits : b.seats ≤ room (limits_of c.args.counts.now) (table_of c.args.counts.now) b.place b.class = omega (arith, c.room.ensures, c.if-booking-room.false) in
    let told = told_fits (limits_of c.args.counts.now) (table_of c.args.counts.now) b (sym c.is_waiting.ensures ∙ c.if-not-is_waiting.false) fits in
    taken_one c.args.counts.now c.take.new.self b c.take.ensures fits ∙ ap (shown_advices (limits_of c.args.counts.now) (table_of c.args.counts.now)) (sym told)
