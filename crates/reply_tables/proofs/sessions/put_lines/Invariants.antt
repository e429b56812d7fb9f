-- The rows of the session's lines so far are written.
use Rattle.std.proofs.Common.{take}
use Rattle.reply_tables.specs.ReplyRows.{reply_names, wanted_rows}
use Rattle.reply_tables.proofs.Answered.{WrittenSoFar}
use Rattle.reply_tables.proofs.sessions.put_lines.Given as goal

abbrev pub invariant-loop-entry : goal.invariant-loop-entry
invariant-loop-entry l = WrittenSoFar reply_names (wanted_rows l.wanted l.flights l.requests l.journal) l.session l.place (take l.entry-index l.lines) l.initial.sheet l.sheet
