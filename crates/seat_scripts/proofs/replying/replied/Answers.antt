use Rattle.std.proofs.Common.{List, drop, length, subst, sym, take}
use Rattle.seat_journal.specs.declared.entry.Entry.{Entry}
use Rattle.seat_rules.specs.Histories.{by_session}
use Rattle.seat_replies.specs.Answering.{AreAllAnswerable}
use Rattle.seat_scripts.proofs.Sessions.{added_answerable}
use Rattle.seat_scripts.proofs.replying.replied.Goals as goal

pub session_replies-requires-clause-lines : goal.session_replies-requires-clause-lines
session_replies-requires-clause-lines c =
    let lines : List Entry = c.args.core.now.journal in
    let past = c.in_ok-past.past in
    subst (λ (l : List Entry). AreAllAnswerable c.args.flights.now c.args.scripts.now l (by_session (length c.args.scripts.now) c.behind_past-added.result.now)) (sym c.journal.ensures.value)
    (subst (λ (l : List Entry). AreAllAnswerable c.args.flights.now c.args.scripts.now lines (by_session (length c.args.scripts.now) l)) (sym c.behind_past-added.ensures.lines)
    (added_answerable c.args.flights.now c.args.core.now.grid c.args.scripts.now (take past lines) (drop past lines) lines c.in_ok-past.ensures.parted.whole c.requires.legs c.behind_past-added.ensures.legal c.in_ok-past.ensures.asked))
