use Rattle.seat_words.proofs.Building.{added, parts}
use Rattle.seat_words.proofs.commands.arguments.+with_arguments.Goals as goal

pub returns : goal.returns
returns t c = λ a was.
    added a c.args.arguments.now _ _ c.args.command c.with_argument-command.result c.with_arguments.result c.argument_of.result
    (parts c.args.arguments.now _ c.in-len1-up.len_at_least) was c.argument_of.ensures c.with_argument-command.ensures c.with_arguments.ensures
