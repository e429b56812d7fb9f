use Rattle.seat_season.proofs.WordLaws.{four_parts}
use Rattle.seat_season.proofs.words.put_line.Goals as goal

pub returns : goal.returns
returns c = four_parts _ _ _ _ _ _ _ _ _ c.in-Ok.ensures c.in-Ok-put.ensures c.in-Ok-put_added.ensures c.in-Ok-put_renamed.ensures
