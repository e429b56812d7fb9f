use Rattle.seat_words.proofs.Building.{valued}
use Rattle.seat_words.proofs.commands.arguments.optional_values.Goals as goal

pub returns : goal.returns
returns c = valued _ _ _ c.action.ensures c.optional_value.ensures
