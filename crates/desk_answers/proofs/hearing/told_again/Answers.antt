use Rattle.std.proofs.Common.{List, subst}
use Rattle.seat_journal.specs.declared.entry.Entry.{Entry}
use Rattle.desk_telling.specs.Telling.{AreTold, told_behind}
use Rattle.desk_answers.proofs.Repeats.{whole_told}
use Rattle.desk_answers.proofs.hearing.told_again.Goals as goal

pub returns : goal.returns
returns g c =
    subst (λ (l : List Entry). AreTold c.args.flights.now c.args.session (told_behind l c.args.session c.args.behind) c.put_told_behind.new.text.items)
    c.journal.ensures.value
    (whole_told c.args.flights.now c.args.session (told_behind c.journal.result.now c.args.session c.args.behind) c.new-text.result.items
    c.put_told_behind.new.text.items c.in_ok-put_told_behind.ensures.told c.new-text.ensures.items)
