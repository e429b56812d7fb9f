-- The legs of the numbers so far are added, and those that are left make the list whole.
use Rattle.std.proofs.Common.{◌≡◌, ◌-◌, ◌++◌}
use Rattle.seat_rules.specs.Inventory.{state_now}
use Rattle.page_questions.specs.Each.{of_each}
use Rattle.page_questions.specs.Shown.{shown, shown_from, shown_legs}
use Rattle.page_questions.proofs.shown.shown_legs.Given as goal

abbrev pub invariant-loop-leg : goal.invariant-loop-leg
invariant-loop-leg l =
    l.all.items ++ of_each (λ j. shown_from (shown l.asked (state_now l.core) l.class j) 0 l.flights) (8 - l.leg) l.leg
    ≡ shown_legs l.asked (state_now l.core) l.flights l.class
