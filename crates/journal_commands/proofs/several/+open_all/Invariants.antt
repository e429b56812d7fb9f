use Rattle.std.proofs.Common.{length}
use Rattle.journal_commands.proofs.several.+open_all.Given as goal

abbrev pub decreases-open_all : goal.decreases-open_all
decreases-open_all l = length l.names.now
