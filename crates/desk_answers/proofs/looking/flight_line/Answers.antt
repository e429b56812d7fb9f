use Rattle.desk_answers.proofs.Finding.{there_fits}
use Rattle.desk_answers.proofs.looking.flight_line.Goals as goal

pub found_line-requires : goal.found_line-requires
found_line-requires g c = there_fits c.args.served.now (g.S.Seats.ladders c.args.seats.now) c.wanted_on.result c.find-place.result c.requires.grid c.find-place.ensures
