use Rattle.seat_questions.proofs.RoomTexts.{opening_rooms_are_of_no_lines}
use Rattle.seat_questions.proofs.laws.opening_rooms_are_of_no_lines.Goals as goal

pub returns : goal.returns
returns c = opening_rooms_are_of_no_lines
