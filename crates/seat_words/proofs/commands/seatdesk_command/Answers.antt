use Rattle.seat_words.specs.CommandLine.{asking_app, bare_app, seatdesk_app, selling_app}
use Rattle.seat_words.proofs.commands.seatdesk_command.Goals as goal

pub returns : goal.returns
unfolding seatdesk_app asking_app selling_app
returns c = c.with_commands.ensures bare_app c.bare_command.ensures
