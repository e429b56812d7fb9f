use Rattle.std.proofs.Common.{All}
use Rattle.seat_rules.specs.Journal.{FitsCommand}
use Rattle.host_trials.proofs.working_tests.lists_of.Given as goal

abbrev pub invariant-loop : goal.invariant-loop
invariant-loop l = All (λ list. All (λ command. FitsCommand l.grid command) list) l.lists.items
