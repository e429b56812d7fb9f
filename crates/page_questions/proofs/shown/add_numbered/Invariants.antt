-- The legs of the flights so far are added, and those that are left make the list whole.
use Rattle.std.proofs.Common.{◌≡◌, ◌++◌, drop}
use Rattle.seat_rules.specs.Inventory.{state_now}
use Rattle.page_questions.specs.Shown.{shown, shown_from}
use Rattle.page_questions.proofs.shown.add_numbered.Given as goal

abbrev pub invariant-loop-index : goal.invariant-loop-index
invariant-loop-index l =
    l.all.items ++ shown_from (shown l.asked (state_now l.core) l.class l.leg) l.index (drop l.index l.flights)
    ≡ l.initial.all.items ++ shown_from (shown l.asked (state_now l.core) l.class l.leg) 0 l.flights
