-- The sections so far are written.
use Rattle.seat_rules.specs.Inventory.{state_now}
use Rattle.page_questions.proofs.Paging.{IsPageSoFar}
use Rattle.page_questions.proofs.page.page_under.Given as goal

abbrev pub invariant-loop-i : goal.invariant-loop-i
invariant-loop-i l = IsPageSoFar l.asked (state_now l.core) l.flights l.first l.heads l.i l.text.items
