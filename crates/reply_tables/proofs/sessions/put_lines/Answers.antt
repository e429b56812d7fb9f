use Rattle.std.proofs.Common.{◌∙◌, sym}
use Rattle.reply_tables.specs.ReplyRows.{reply_names, wanted_rows}
use Rattle.reply_tables.proofs.Answered.{written_other, written_own}
use Rattle.reply_tables.proofs.sessions.put_lines.Goals as goal
use Rattle.reply_tables.proofs.sessions.put_lines.Goals.{then-from-session+in_ok-put_wanted, else-from-session}

pub put_wanted-requires : goal.put_wanted-requires
put_wanted-requires c = record { ready = c.loop-entry.invariant.put.ready }

pub loop-entry-preserved : goal.loop-entry-preserved
loop-entry-preserved c =
    let rows = wanted_rows c.args.wanted c.args.flights.now c.args.requests.now c.args.journal.now in
    elim c.if-from-session.branch [
      | then-from-session+in_ok-put_wanted w ↦ rw (w.sheet-is, w.place-is)
          (written_own reply_names rows c.args.session c.loop-entry.place c.args.lines.now c.loop-entry.entry-index c.entry-item.result c.args.sheet.now c.loop-entry.sheet
          c.loop-entry-test.true c.entry-item.is c.loop-entry.invariant (sym c.from.ensures ∙ w.if-from-session.true) w.put_wanted.new.sheet w.in_ok-put_wanted.ensures)
      | else-from-session w ↦ rw (w.sheet-is, w.place-is)
          (written_other reply_names rows c.args.session c.loop-entry.place c.args.lines.now c.loop-entry.entry-index c.entry-item.result c.args.sheet.now c.loop-entry.sheet
          c.loop-entry-test.true c.entry-item.is c.loop-entry.invariant (λ own. w.if-from-session.false (c.from.ensures ∙ own)))
    ]
