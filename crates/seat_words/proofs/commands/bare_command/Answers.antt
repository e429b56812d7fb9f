use Rattle.seat_words.specs.CommandLine.{bare_app}
use Rattle.seat_words.proofs.commands.bare_command.Goals as goal

pub returns : goal.returns
unfolding bare_app
returns c = c.with_switches.ensures _ c.named_program.ensures
