use Rattle.std.proofs.Common.{List, Bool, subst, sym}
use Rattle.seat_questions.specs.Winning.{AreWinners}
use Rattle.table_questions.proofs.cover.cover_table.Goals as goal

pub table_of-requires-clause-marks : goal.table_of-requires-clause-marks
table_of-requires-clause-marks c =
    subst (λ (l : List Bool). AreWinners c.args.rows.now c.args.flights.now l) (sym c.as_slice.ensures.value) c.in_ok-marks.ensures
