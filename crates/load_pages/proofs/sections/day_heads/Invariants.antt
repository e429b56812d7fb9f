-- The columns so far are written.
use Rattle.load_pages.specs.Sections.{AreHeads}
use Rattle.load_pages.proofs.sections.day_heads.Given as goal

abbrev pub invariant-loop-i : goal.invariant-loop-i
invariant-loop-i l = AreHeads l.i l.day l.heads.items
