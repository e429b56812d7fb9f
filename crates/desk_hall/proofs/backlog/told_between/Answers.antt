use Rattle.std.proofs.Common.{[], List, ℕ, refl, subst, sym}
use Rattle.seat_journal.specs.declared.entry.Entry.{Entry}
use Rattle.desk_telling.specs.Telling.{AreTold, AreToldBehind, told_of_each}
use Rattle.desk_telling.proofs.Tellings.{behind_none, lines_more, lines_whole}
use Rattle.desk_answers.proofs.Repeats.{whole_told}
use Rattle.desk_hall.proofs.backlog.told_between.Goals as goal

pub loop-line-init : goal.loop-line-init
loop-line-init c =
    subst (λ (l : List ℕ). AreToldBehind c.args.flights.now c.args.session [] [] l) (sym c.new-text.ensures.items)
    (behind_none c.args.flights.now c.args.session [])

pub loop-line-preserved : goal.loop-line-preserved
loop-line-preserved c =
    lines_more c.args.flights.now c.args.journal.now c.args.session c.loop-line.line-index c.lines_between-lines.result.now c.line-item.result
    [] c.loop-line.text.items c.put_told.new.text.items c.loop-line.invariant c.loop-line-test.true c.line-item.is c.in_ok-put_told.ensures.told

pub returns : goal.returns
returns c =
    subst (λ (l : List Entry). AreTold c.args.flights.now c.args.session (told_of_each c.args.journal.now c.args.session l) c.loop-line.text.items)
    c.lines_between-lines.ensures
    (whole_told c.args.flights.now c.args.session (told_of_each c.args.journal.now c.args.session c.lines_between-lines.result.now) []
    c.loop-line.text.items
    (lines_whole c.args.flights.now c.args.journal.now c.args.session c.loop-line.line-index c.lines_between-lines.result.now []
    c.loop-line.text.items c.loop-line.invariant c.loop-line-test.false) refl)
