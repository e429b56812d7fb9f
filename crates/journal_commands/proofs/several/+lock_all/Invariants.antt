use Rattle.std.proofs.Common.{length}
use Rattle.journal_commands.proofs.several.+lock_all.Given as goal

abbrev pub decreases-lock_all : goal.decreases-lock_all
decreases-lock_all l = length l.names.now
