use Rattle.seat_season.proofs.WordLaws.{four_pairs}
use Rattle.seat_season.proofs.words.put_horizon.Goals as goal

pub returns : goal.returns
returns c = four_pairs _ _ _ _ _ _ _ _ _ _ _ _ _ c.in-Ok.ensures c.in-Ok-put_path.ensures c.in-Ok-put_first.ensures c.in-Ok-put_days.ensures
