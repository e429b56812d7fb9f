use Rattle.std.proofs.Common.{◌+◌, ◌∙◌, ℕ, List, sym, take}
use Rattle.seat_scripts.proofs.Sessions.{AnsweredSoFar, all_answered, answered_other, answered_own, entry_answerable, none_answered}
use Rattle.seat_scripts.proofs.by_session.put_answers.Goals as goal
use Rattle.seat_scripts.proofs.by_session.put_answers.Goals.{then-from-session+in_ok-put_wanted, else-from-session}

pub loop-entry-init : goal.loop-entry-init
loop-entry-init c = none_answered c.args.wanted c.args.flights.now c.args.requests.now c.args.journal.now c.args.session c.args.text.now.items

pub put_wanted-requires : goal.put_wanted-requires
put_wanted-requires c =
    entry_answerable c.args.wanted c.args.flights.now c.args.requests.now c.args.journal.now c.args.session c.loop-entry.place c.args.lines.now c.loop-entry.entry-index c.entry-item.result c.args.text.now.items c.loop-entry.text.items
    c.loop-entry-test.true c.entry-item.is c.loop-entry.invariant (sym c.from.ensures ∙ c.if-from-session.true) c.requires.lines

pub loop-entry-preserved : goal.loop-entry-preserved
loop-entry-preserved c =
    let so_far : ℕ → List ℕ → Type 0 = λ n text. AnsweredSoFar c.args.wanted c.args.flights.now c.args.requests.now c.args.journal.now c.args.session n (take (c.loop-entry.entry-index + 1) c.args.lines.now) c.args.text.now.items text in
    elim c.if-from-session.branch [
      | then-from-session+in_ok-put_wanted w ↦ rw (w.text-is, w.place-is)
          (answered_own c.args.wanted c.args.flights.now c.args.requests.now c.args.journal.now c.args.session c.loop-entry.place c.args.lines.now c.loop-entry.entry-index c.entry-item.result c.args.text.now.items c.loop-entry.text.items
          c.loop-entry-test.true c.entry-item.is c.loop-entry.invariant (sym c.from.ensures ∙ w.if-from-session.true) w.put_wanted.new.text.items w.in_ok-put_wanted.ensures)
      | else-from-session w ↦ rw (w.text-is, w.place-is)
          (answered_other c.args.wanted c.args.flights.now c.args.requests.now c.args.journal.now c.args.session c.loop-entry.place c.args.lines.now c.loop-entry.entry-index c.entry-item.result c.args.text.now.items c.loop-entry.text.items
          c.loop-entry-test.true c.entry-item.is c.loop-entry.invariant (λ own. w.if-from-session.false (c.from.ensures ∙ own)))
    ]

pub returns : goal.returns
returns c =
    all_answered c.args.wanted c.args.flights.now c.args.requests.now c.args.journal.now c.args.session c.loop-entry.place c.loop-entry.entry-index c.args.lines.now c.args.text.now.items c.loop-entry.text.items
    c.loop-entry.invariant c.loop-entry-test.false
