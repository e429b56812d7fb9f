use Rattle.std.proofs.Common.{rules, IsTrue}
use Rattle.seat_limits.proofs.RowSlots.{is_first}
use Rattle.seat_limits.proofs.row_index.is_first.Goals as goal

pub returns-then-is_behind : goal.returns-then-is_behind
returns-then-is_behind c =
    let behind : IsTrue c.is_behind.result = search rules in
    λ ahead. is_first c.args.edges.now c.args.at c.args.place c.requires (c.is_behind.ensures behind) (c.is_ahead.ensures ahead)
