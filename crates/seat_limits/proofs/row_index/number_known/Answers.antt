use Rattle.std.proofs.Common.{sym, ◌∙◌}
use Rattle.seat_limits.proofs.RowIndexing.{number_known}
use Rattle.seat_limits.proofs.row_index.number_known.Goals as goal

pub returns-in-Some-clause-number : goal.returns-in-Some-clause-number
returns-in-Some-clause-number c =
    sym (number_known c.args.last.now c.args.known.now c.args.pair.now c.in-Some.number c.requires (sym c.number_noted.ensures ∙ c.in-Some.is))
