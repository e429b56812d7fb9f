use Rattle.std.proofs.Common.{◌≡◌, ◌<◌, List, length, arith, ap, sym, refl, ◌∙◌}
use Rattle.seat_journal.specs.declared.entry.Entry.{Entry}
use Rattle.seat_rules.specs.Histories.{of_session}
use Rattle.seat_host.specs.Ledgers.{counted}
use Rattle.seat_host.proofs.Keeping.{many_kept}
use Rattle.seat_host.proofs.Opening.{seating_next, stake_seated}
use Rattle.seat_host.proofs.seating.seat_next.Goals as goal

pub returns-clause-seating : goal.returns-clause-seating
returns-clause-seating g c =
    let high : c.args.id < 9 = omega (arith, c.requires.number.0, c.requires.number.1) in
    let own : List Entry = of_session c.args.id c.args.lines.now in
    let many : length c.numbers.result.now ≡ length own = ap length c.numbers.ensures ∙ many_kept c.in-Ok.receipts own c.in-Ok.ensures in
    seating_next g.K.Hosting.book g.K.Hosting.grid c.args.id c.args.stakes.now c.take.new.self (length c.numbers.result.now) c.args.lines.now own c.args.line_counts.now c.add_all.new.self c.in-Some.stake
    c.args.viewers.now.items c.take_viewer.new.viewers.items c.requires.seating high c.in-Some.ensures.stake refl many c.add_all.ensures.total c.take.ensures.next c.take_viewer.ensures.rest

pub seated-requires-clause-stake : goal.seated-requires-clause-stake
seated-requires-clause-stake g c =
    let own : List Entry = of_session c.args.id c.args.lines.now in
    let kept = many_kept c.in-Ok.receipts own c.in-Ok.ensures in
    let many : length c.numbers.result.now ≡ length own = ap length c.numbers.ensures ∙ kept in
    stake_seated g.K.Hosting.book g.K.Hosting.grid c.args.id c.args.stakes.now (length c.numbers.result.now) c.args.lines.now own c.args.line_counts.now c.args.viewers.now.items c.in-Some.stake c.add_all.new.mine
    c.requires.seating c.in-Some.ensures.stake many c.add_all.ensures.mine ∙ ap (counted c.args.id) (sym kept)

pub take-requires : goal.take-requires
take-requires g c = omega (arith, c.requires.seating.next_is, c.requires.number.0, c.requires.number.1)

pub take_viewer-requires-clause-some : goal.take_viewer-requires-clause-some
take_viewer-requires-clause-some g c = c.requires.some

pub take_viewer-requires-clause-new : goal.take_viewer-requires-clause-new
take_viewer-requires-clause-new g c = c.requires.seating.new

pub seated-requires-clause-number : goal.seated-requires-clause-number
seated-requires-clause-number g c = c.requires.number
