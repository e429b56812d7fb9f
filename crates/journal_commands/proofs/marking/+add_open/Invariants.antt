use Rattle.std.proofs.Common.{length}
use Rattle.journal_commands.proofs.marking.+add_open.Given as goal

abbrev pub decreases-add_open : goal.decreases-add_open
decreases-add_open l = length l.seals.now
