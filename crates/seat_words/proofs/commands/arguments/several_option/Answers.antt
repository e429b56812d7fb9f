use Rattle.seat_words.proofs.Building.{valued}
use Rattle.seat_words.proofs.commands.arguments.several_option.Goals as goal

pub returns : goal.returns
returns c = valued _ _ _ c.action.ensures c.optional_option.ensures
