use Rattle.std.proofs.Common.{◌≡◌, ◌+◌, ◌<◌, ℕ, List, arith, get_or, length, subst, sym, zero-add}
use Rattle.std.proofs.lemmas.Option.{get_or_from_slice_get}
use Rattle.seat_journal.specs.declared.entry.Entry.{Entry}
use Rattle.seat_rules.specs.Histories.{by_session, of_session}
use Rattle.seat_replies.proofs.Going.{sessions_count}
use Rattle.seat_scripts.proofs.Sessions.{session_there}
use Rattle.seat_tables.specs.Sheets.{ArePut}
use Rattle.seat_tables.proofs.Putting.{put_more, put_none, put_whole}
use Rattle.reply_tables.specs.ReplyRows.{reply_names, session_rows}
use Rattle.reply_tables.proofs.sessions.put_sessions.Goals as goal

pub loop-session-init : goal.loop-session-init
loop-session-init c = put_none reply_names c.args.sheet.now c.requires.ready

pub loop-session-preserved : goal.loop-session-preserved
loop-session-preserved c =
    let rows = session_rows c.args.wanted c.args.flights.now c.args.scripts.now c.args.journal.now in
    let count : ℕ = length c.args.scripts.now in
    let s : ℕ = c.loop-session.session in
    let own : List Entry = of_session s c.args.added.now in
    let low : s < count + 1 = omega (arith, c.loop-session-test.true, c.loop-session.auto.session-end) in
    let at : own ≡ get_or (by_session count c.args.added.now) s own = sym (get_or_from_slice_get (by_session count c.args.added.now) s own own (session_there count s c.args.added.now low)) in
    put_more reply_names rows 0 s (by_session count c.args.added.now) own c.args.sheet.now c.loop-session.sheet c.put_session.new.sheet
    c.loop-session.invariant (omega (arith, low, sessions_count count c.args.added.now)) at
    (subst (λ (k : ℕ). ArePut reply_names (rows k own) c.loop-session.sheet c.put_session.new.sheet) (sym (zero-add s)) c.in_ok-put_session.ensures)

pub returns : goal.returns
returns c =
    put_whole reply_names (session_rows c.args.wanted c.args.flights.now c.args.scripts.now c.args.journal.now) 0 c.loop-session.session
    (by_session (length c.args.scripts.now) c.args.added.now) c.args.sheet.now c.loop-session.sheet c.loop-session.invariant
    (omega (arith, c.loop-session-test.false, c.loop-session.auto.session-end, sessions_count (length c.args.scripts.now) c.args.added.now))
