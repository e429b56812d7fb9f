use Rattle.std.proofs.Common.{◌≡◌, ◌+◌, List, get_or, length, refl, ap, subst, arith}
use Rattle.seat_nesting.specs.Counting.{limits_of, table_of}
use Rattle.seat_journal.specs.declared.entry.Advice.{Advice}
use Rattle.seat_nesting.specs.Nesting.{Table}
use Rattle.seat_rules.specs.declared.booking.Booking.{Booking}
use Rattle.seat_rules.specs.Showing.{taken_back}
use Rattle.seat_core.proofs.Passes.Skipped.{back_behind, found_inside, none_behind, told_behind}
use Rattle.seat_core.proofs.pass.confirm_next.Goals as goal

pub returns-clause-told : goal.returns-clause-told
returns-clause-told c =
    let counts = c.args.counts.now in
    let at = c.args.from + c.in-Some.behind in
    let b = c.index-bookings-at.result in
    let P : List Booking → Type 0 = λ xs. b ≡ get_or xs at b in
    told_behind (limits_of counts) (table_of counts) (table_of c.consider.new.counts) c.args.advices.now.items c.consider.new.advices.items
    c.args.queue.now.bookings c.args.from c.in-Some.behind at (at + 1) b
    c.in-Some.ensures refl refl (subst P c.as_slice-bookings.ensures c.index-bookings-at.is) c.in-Ok.ensures.advices c.in-Ok.ensures.seats

pub returns-in_default-clause-limits : goal.returns-in_default-clause-limits
returns-in_default-clause-limits c = refl

pub returns-in_default-clause-back : goal.returns-in_default-clause-back
returns-in_default-clause-back c = refl

pub returns-in_default-clause-told : goal.returns-in_default-clause-told
returns-in_default-clause-told c =
    none_behind (limits_of c.args.counts.now) (table_of c.args.counts.now) c.args.advices.now.items c.args.queue.now.bookings c.args.from
    (length c.as_slice-bookings.result.now) c.in_default.ensures (ap length c.as_slice-bookings.ensures)

pub returns-in_default-clause-further : goal.returns-in_default-clause-further
returns-in_default-clause-further c = omega (arith, c.requires, ap length c.as_slice-bookings.ensures)

pub returns-in_default-clause-inside : goal.returns-in_default-clause-inside
returns-in_default-clause-inside c = omega (arith, ap length c.as_slice-bookings.ensures)

pub returns-in_default-consider-clause-limits : goal.returns-in_default-consider-clause-limits
returns-in_default-consider-clause-limits c = c.consider.ensures.limits

pub returns-in_default-consider-clause-back : goal.returns-in_default-consider-clause-back
returns-in_default-consider-clause-back c =
    let same = c.in_default-consider.ensures.same in
    ap (λ (x : Table × List Advice). taken_back (limits_of c.args.counts.now) x.0 x.1) (λ i. (same.1 i, same.0 i))

pub returns-clause-limits : goal.returns-clause-limits
returns-clause-limits c = c.consider.ensures.limits

pub returns-clause-back : goal.returns-clause-back
returns-clause-back c =
    back_behind (limits_of c.args.counts.now) (table_of c.args.counts.now) (table_of c.consider.new.counts) c.args.advices.now.items
    c.consider.new.advices.items c.index-bookings-at.result c.in-Ok.ensures.advices c.in-Ok.ensures.seats

pub returns-clause-further : goal.returns-clause-further
returns-clause-further c = omega arith

pub returns-clause-inside : goal.returns-clause-inside
returns-clause-inside c =
    omega (
      arith,
      found_inside (limits_of c.args.counts.now) (table_of c.args.counts.now) c.args.queue.now.bookings c.args.from c.in-Some.behind
          c.in-Some.ensures,
    )

pub overflow_add-at : goal.overflow_add-at
overflow_add-at c =
    omega (
      arith,
      found_inside (limits_of c.args.counts.now) (table_of c.args.counts.now) c.args.queue.now.bookings c.args.from c.in-Some.behind
          c.in-Some.ensures,
      ap length c.as_slice-bookings.ensures,
    )

pub offset_bounds-bookings-at : goal.offset_bounds-bookings-at
offset_bounds-bookings-at c =
    omega (
      arith,
      found_inside (limits_of c.args.counts.now) (table_of c.args.counts.now) c.args.queue.now.bookings c.args.from c.in-Some.behind
          c.in-Some.ensures,
      ap length c.as_slice-bookings.ensures,
    )

pub bounds-bookings-at : goal.bounds-bookings-at
bounds-bookings-at c =
    omega (
      arith,
      found_inside (limits_of c.args.counts.now) (table_of c.args.counts.now) c.args.queue.now.bookings c.args.from c.in-Some.behind
          c.in-Some.ensures,
      ap length c.as_slice-bookings.ensures,
    )
