use Rattle.seat_journal.specs.declared.entry.Entry.{Entry}
use Rattle.seat_pickup.proofs.Parting.{begins_all, part_end, part_here, same_more}
use Rattle.seat_pickup.proofs.past.parting.Goals as goal

pub returns-in_default-clause-named : goal.returns-in_default-clause-named
returns-in_default-clause-named c =
    part_end c.args.older.now c.args.journal.now c.loop-place.place c.index-older-place.result c.loop-place-test.true c.index-older-place.is c.loop-place.invariant
    c.in_default.ensures.lookup.3

pub returns-then-not-are_same-clause-named : goal.returns-then-not-are_same-clause-named
returns-then-not-are_same-clause-named c =
    let there : Entry = c.in-Some.there.now in
    let found = c.in-Some.ensures.lookup in
    part_here c.args.older.now c.args.journal.now c.loop-place.place c.index-older-place.result c.loop-place-test.true c.index-older-place.is c.loop-place.invariant
    there found.3.0 found.1 c.are_same.result c.are_same.ensures c.if-not-are_same.true

pub loop-place-preserved : goal.loop-place-preserved
loop-place-preserved c =
    let there : Entry = c.in-Some.there.now in
    let found = c.in-Some.ensures.lookup in
    same_more c.args.older.now c.args.journal.now c.loop-place.place c.index-older-place.result c.loop-place-test.true c.index-older-place.is c.loop-place.invariant
    there found.3.0 found.1 c.are_same.result c.are_same.ensures c.if-not-are_same.false

pub returns-clause-begins : goal.returns-clause-begins
returns-clause-begins c = begins_all c.args.older.now c.args.journal.now c.loop-place.place c.loop-place-test.false c.loop-place.invariant
