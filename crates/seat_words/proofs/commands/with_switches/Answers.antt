use Rattle.seat_words.proofs.Building.{argued}
use Rattle.seat_words.proofs.commands.with_switches.Goals as goal

pub returns : goal.returns
returns c = λ a was.
    let verbose = argued a _ c.args.command c.with_argument-command.result c.lettered_flag.result was c.lettered_flag.ensures c.with_argument-command.ensures in
    argued _ _ c.with_argument-command.result c.with_argument.result c.flag.result verbose c.flag.ensures c.with_argument.ensures
