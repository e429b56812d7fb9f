use Rattle.seat_words.proofs.Building.{trailed}
use Rattle.seat_words.proofs.commands.arguments.trailing_values.Goals as goal

pub returns : goal.returns
returns c = trailed _ _ _ c.trailing_var_arg.ensures c.optional_values.ensures
