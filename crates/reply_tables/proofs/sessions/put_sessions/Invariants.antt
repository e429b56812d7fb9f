-- The rows of the sessions so far are written.
use Rattle.std.proofs.Common.{length, take}
use Rattle.seat_rules.specs.Histories.{by_session}
use Rattle.seat_tables.specs.Rows.{rows_from}
use Rattle.seat_tables.specs.Sheets.{ArePut}
use Rattle.reply_tables.specs.ReplyRows.{reply_names, session_rows}
use Rattle.reply_tables.proofs.sessions.put_sessions.Given as goal

abbrev pub invariant-loop-session : goal.invariant-loop-session
invariant-loop-session l = ArePut reply_names (rows_from (session_rows l.wanted l.flights l.scripts l.journal) 0 (take l.session (by_session (length l.scripts) l.added))) l.initial.sheet l.sheet
