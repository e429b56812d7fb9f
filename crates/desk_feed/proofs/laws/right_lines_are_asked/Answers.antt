use Rattle.desk_feed.proofs.Living.{right_lines_are_asked}
use Rattle.desk_feed.proofs.laws.right_lines_are_asked.Goals as goal

pub returns : goal.returns
returns c = right_lines_are_asked
