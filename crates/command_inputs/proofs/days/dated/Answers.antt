use Rattle.command_inputs.proofs.Dated.{no_day}
use Rattle.command_inputs.proofs.days.dated.Goals as goal

pub returns-in-None : goal.returns-in-None
returns-in-None c = no_day c.args.word.now c.date_word.result c.date_word.ensures.only c.in-None.is
