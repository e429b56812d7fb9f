use Rattle.seat_words.proofs.Lines.{named_right, values_there}
use Rattle.seat_words.proofs.job.command_named.Goals as goal

pub returns-clause-word : goal.returns-clause-word
returns-clause-word c = named_right c.args.name.now _ c.in-Some.ensures

pub returns-clause-values : goal.returns-clause-values
returns-clause-values c = values_there c.args.name.now _ _ c.in-Some.ensures c.requires
