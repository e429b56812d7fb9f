use Rattle.seat_handing.specs.Marking.{mark_of}
use Rattle.journal_commands.proofs.Marked.{one_marked, say_more}
use Rattle.journal_commands.proofs.marking.add_mark.Goals as goal

pub older_mark-requires-clause-known : goal.older_mark-requires-clause-known
older_mark-requires-clause-known c = c.requires.known

pub older_mark-requires-clause-fits : goal.older_mark-requires-clause-fits
older_mark-requires-clause-fits c = c.requires.fits

pub returns-in-Ok-push_mark-clause-mark : goal.returns-in-Ok-push_mark-clause-mark
returns-in-Ok-push_mark-clause-mark c =
    one_marked (mark_of c.args.name.now c.args.text.now) _ c.args.known _ _ _ _ _ c.in-Ok-older_mark.ensures.hand c.in-Ok-older_mark.ensures.before
    c.in-Ok.ensures c.in-Ok-older_mark.ensures.mark c.in-Ok-push_mark.ensures.ok

pub returns-in-Ok-push_mark-clause-say : goal.returns-in-Ok-push_mark-clause-say
returns-in-Ok-push_mark-clause-say c = say_more _ _ _ _ c.requires.say c.in-Ok-older_mark.ensures.says c.in-Ok-push_mark.ensures.ok

pub returns-in-Ok-push_mark-clause-as_many : goal.returns-in-Ok-push_mark-clause-as_many
returns-in-Ok-push_mark-clause-as_many c = c.in-Ok-push_mark.ensures.as_many
