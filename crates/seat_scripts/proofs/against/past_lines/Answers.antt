use Rattle.std.proofs.Common.{◌∙◌, List, ap, drop, subst, take}
use Rattle.seat_journal.specs.declared.entry.Entry.{Entry}
use Rattle.seat_scripts.specs.Against.{AreAskedBelow}
use Rattle.seat_scripts.proofs.Comparing.{all_asked}
use Rattle.seat_scripts.proofs.against.past_lines.Goals as goal

pub returns-in-None-clause-asked : goal.returns-in-None-clause-asked
returns-in-None-clause-asked c =
    all_asked c.args.flights.now c.args.core.now.grid c.args.scripts.now (take c.in_ok-past.past c.args.core.now.journal) c.args.core.now.journal (drop c.in_ok-past.past c.args.core.now.journal)
    c.journal.ensures.legal c.in_ok-past.ensures.parted.whole c.requires.few
    (subst (λ (l : List Entry). AreAskedBelow c.args.flights.now c.args.scripts.now l 9) (c.split_at.ensures.back ∙ ap (drop c.in_ok-past.past) c.journal.ensures.value) c.in-None.ensures.same)
