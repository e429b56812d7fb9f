-- The codes of requests, replies and advices (AIRIMP).
use Rattle.std.specs.Prelude.{ℕ, List, nat_eq, codes, if◌then◌else◌}
use Rattle.std.specs.Cmp.Lexicographic.{pointwise}
use Rattle.seat_rules.specs.declared.action.Action.{Action}
use Rattle.seat_rules.specs.declared.action.Action.TheVariants.{Want, Cancel, Other}
use Rattle.seat_rules.specs.declared.action.Wish.TheVariants.{Need, Sell, Waitlist}

-- NN, SS, LL and XX; every other code asks for nothing
abbrev pub action_of : List ℕ → Action
action_of code =
    (if pointwise nat_eq code (codes "NN") then Want Need
    else (if pointwise nat_eq code (codes "SS") then Want Sell
    else (if pointwise nat_eq code (codes "LL") then Want Waitlist
    else (if pointwise nat_eq code (codes "XX") then Cancel else Other))))
