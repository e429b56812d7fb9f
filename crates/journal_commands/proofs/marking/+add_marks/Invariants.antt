use Rattle.std.proofs.Common.{length}
use Rattle.journal_commands.proofs.marking.+add_marks.Given as goal

abbrev pub decreases-add_marks : goal.decreases-add_marks
decreases-add_marks l = length l.hands.now
