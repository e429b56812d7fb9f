use Rattle.std.proofs.Common.{Bool}
use Rattle.seat_rules.specs.declared.booking.Booking.{Booking}
use Rattle.seat_lists.specs.Picking.{is_asked}
use Rattle.seat_lists.proofs.Picks.{all_lines, all_there, line_at, no_line_yet, number_at, one_line_more}
use Rattle.seat_lists.proofs.picking.picked.Goals as goal

pub loop-i-init : goal.loop-i-init
loop-i-init c =
    let test : Booking → Bool = is_asked c.args.flights.now c.args.wanted.now c.args.waiting in
    record {
      legal = c.journal-lines.ensures.legal;
      chosen = no_line_yet c.args.core.now.grid c.args.core.now.journal test c.new-all.result.items c.journal-lines.ensures.legal c.new-all.ensures.items;
    }

pub pick_made-requires-clause-line : goal.pick_made-requires-clause-line
pick_made-requires-clause-line c = line_at c.args.core.now.grid c.args.core.now.journal c.journal-lines.result.now c.loop-i.i c.index-lines-i.result c.journal-lines.ensures.legal c.journal-lines.ensures.value c.loop-i-test.true c.index-lines-i.is

pub loop-i-preserved : goal.loop-i-preserved
loop-i-preserved c =
    let legal = c.journal-lines.ensures.legal in
    let number = number_at c.args.core.now.grid c.args.core.now.journal c.journal-lines.result.now c.loop-i.i c.index-lines-i.result legal c.journal-lines.ensures.value c.loop-i-test.true c.index-lines-i.is in
    let test : Booking → Bool = is_asked c.args.flights.now c.args.wanted.now c.args.waiting in
    record {
      legal = legal;
      chosen = one_line_more c.args.core.now.grid c.args.core.now.journal test c.loop-i.i c.index-lines-i.result.number c.loop-i.all.items c.pick_made.new.all.items legal number c.loop-i.invariant.chosen c.in_ok-pick_made.ensures;
    }

pub returns-clause-picked : goal.returns-clause-picked
returns-clause-picked c =
    let test : Booking → Bool = is_asked c.args.flights.now c.args.wanted.now c.args.waiting in
    all_lines c.args.core.now.grid c.args.core.now.journal c.journal-lines.result.now test c.loop-i.i c.loop-i.all.items c.journal-lines.ensures.legal c.journal-lines.ensures.value c.loop-i-test.false c.loop-i.invariant.chosen

pub returns-clause-there : goal.returns-clause-there
returns-clause-there c =
    let test : Booking → Bool = is_asked c.args.flights.now c.args.wanted.now c.args.waiting in
    all_there c.args.flights.now c.args.core.now.grid c.args.core.now.journal test c.loop-i.all.items c.requires.grid c.journal-lines.ensures.legal
    (all_lines c.args.core.now.grid c.args.core.now.journal c.journal-lines.result.now test c.loop-i.i c.loop-i.all.items c.journal-lines.ensures.legal c.journal-lines.ensures.value c.loop-i-test.false c.loop-i.invariant.chosen)
