-- The cells so far are written, and those that are left make the rows whole.
use Rattle.std.proofs.Common.{◌≡◌, ◌++◌, drop, None}
use Rattle.load_pages.specs.Rows.{rows_text}
use Rattle.load_pages.proofs.rows.put_rows.Given as goal

abbrev pub invariant-loop-i : goal.invariant-loop-i
invariant-loop-i l =
    l.text.items ++ rows_text l.first l.last (drop l.i l.loads) ≡ l.initial.text.items ++ rows_text l.first None l.loads
