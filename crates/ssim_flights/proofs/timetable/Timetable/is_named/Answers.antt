use Rattle.std.proofs.Common.{length, sym, ◌∙◌}
use Rattle.std.proofs.lemmas.Bool.{ltb-false, ltb-true}
use Rattle.ssim_flights.proofs.Timetables.{name_none, name_some}
use Rattle.ssim_flights.proofs.timetable.Timetable.is_named.Goals as goal

pub returns-in-Some : goal.returns-in-Some
returns-in-Some c =
    c.is_wanted.ensures
    ∙ name_some c.args.self.now c.deref.result.now c.args.i c.in-Some.row.now c.args.wanted.now c.deref.ensures.value (ltb-true c.args.i (length c.deref.result.now) (sym c.in-Some.ensures.lookup.0)) c.in-Some.ensures.lookup.1

pub returns-in-None : goal.returns-in-None
returns-in-None c =
    name_none c.args.self.now c.deref.result.now c.args.i c.args.wanted.now c.deref.ensures.value (ltb-false c.args.i (length c.deref.result.now) (sym c.in-None.ensures.lookup.0))
