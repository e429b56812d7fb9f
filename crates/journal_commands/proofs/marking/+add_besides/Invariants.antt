use Rattle.std.proofs.Common.{length}
use Rattle.journal_commands.proofs.marking.+add_besides.Given as goal

abbrev pub decreases-add_besides : goal.decreases-add_besides
decreases-add_besides l = length l.texts.now
