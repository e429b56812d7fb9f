use Rattle.std.proofs.Common.{All, List, subst}
use Rattle.seat_journal.specs.declared.entry.Command.{Command}
use Rattle.seat_nesting.specs.Nesting.{Ladders}
use Rattle.seat_rules.specs.Journal.{FitsCommand}
use Rattle.host_trials.proofs.working_tests.run.Goals as goal

pub run_sessions-requires-clause-commands : goal.run_sessions-requires-clause-commands
run_sessions-requires-clause-commands g c κs within =
    subst (λ (grid : Ladders). All (λ (list : List Command). All (FitsCommand grid) list) c.args.lists.now) c.requires.parts.0 c.requires.lists
