use Rattle.desk_stream.proofs.Sent.{right_lines_are_booked}
use Rattle.desk_stream.proofs.laws.right_lines_are_booked.Goals as goal

pub returns : goal.returns
returns c = right_lines_are_booked
