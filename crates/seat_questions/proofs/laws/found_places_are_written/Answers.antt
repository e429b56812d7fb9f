use Rattle.seat_questions.proofs.RoomTexts.{found_places_are_written}
use Rattle.seat_questions.proofs.laws.found_places_are_written.Goals as goal

pub returns : goal.returns
returns c = found_places_are_written
