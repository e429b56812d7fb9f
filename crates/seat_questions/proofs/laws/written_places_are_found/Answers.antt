use Rattle.seat_questions.proofs.RoomTexts.{written_places_are_found}
use Rattle.seat_questions.proofs.laws.written_places_are_found.Goals as goal

pub returns : goal.returns
returns c = written_places_are_found
