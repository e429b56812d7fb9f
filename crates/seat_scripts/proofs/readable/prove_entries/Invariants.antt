-- The lines so far are entries.
use Rattle.std.proofs.Common.{take}
use Rattle.std.specs.List.{AllByRecursion}
use Rattle.seat_journal.specs.Text.{IsEntry}
use Rattle.seat_scripts.proofs.readable.prove_entries.Given as goal

abbrev pub invariant-loop-line : goal.invariant-loop-line
invariant-loop-line l = AllByRecursion IsEntry (take l.line-index l.lines)
