use Rattle.std.proofs.Common.{arith}
use Rattle.std.proofs.lemmas.Grind.{common_steps}
use Rattle.seat_season.proofs.WordLaws.{line_cut, place_of}
use Rattle.seat_season.proofs.line.line_of.Goals as goal

pub returns : goal.returns
returns c = line_cut c.args.words.now _ _ (grind (arith, common_steps)) (place_of c.args.words.now _ c.options_ahead-place.ensures.count)
