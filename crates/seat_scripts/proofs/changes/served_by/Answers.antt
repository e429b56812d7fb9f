use Rattle.std.proofs.Common.{◌≡◌, ◌++◌, refl, rules}
use Rattle.seat_replies.specs.Changes.{changes_of}
use Rattle.seat_scripts.proofs.Changing.{here_is, is_unserved, none_is, row_indexed, served_more}
use Rattle.seat_scripts.proofs.changes.served_by.Goals as goal

pub loop-row-preserved : goal.loop-row-preserved
loop-row-preserved c =
    let grown : c.extend_from_slice.new.self.items ≡ c.loop-row.changes.items ++ c.in-Some.more.items = search rules in
    served_more c.args.flights.now c.args.rows.now c.loop-row.row-index c.row-item.result c.in-Some.more.items c.loop-row.changes.items
    c.extend_from_slice.new.self.items c.loop-row.invariant c.loop-row-test.true c.row-item.is
    (here_is (λ v. v.items) c.in-Ok.asked c.in-Some.more (changes_of c.args.flights.now c.row-item.result) c.in-Some.is c.in-Ok.ensures)
    grown

pub changes_in_row-requires-clause-days : goal.changes_in_row-requires-clause-days
changes_in_row-requires-clause-days c =
    row_indexed c.args.flights.now c.args.days.now c.args.rows.now c.loop-row.row-index c.row-item.result
    c.requires.days c.requires.made c.loop-row-test.true c.row-item.is

pub returns-in_default-asked-clause-fault : goal.returns-in_default-asked-clause-fault
returns-in_default-asked-clause-fault c = λ known.
    is_unserved c.args.flights.now c.args.bytes.now c.args.rows.now c.loop-row.row-index c.row-item.result c.loop-row.changes.items c.row-item.result.line
    c.requires.size c.requires.rows c.loop-row.invariant c.loop-row-test.true c.row-item.is
    (none_is (λ v. v.items) c.in-Ok.asked (changes_of c.args.flights.now c.row-item.result) c.in_default-asked.is c.in-Ok.ensures) refl
