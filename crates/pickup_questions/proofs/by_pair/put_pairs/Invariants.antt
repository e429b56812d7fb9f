-- The rows of the pairs so far are written.
use Rattle.std.proofs.Common.{take}
use Rattle.seat_pickup.specs.Pairs.{pairs_at}
use Rattle.seat_pickup.specs.Pickups.{moved_behind}
use Rattle.seat_tables.specs.Rows.{rows_from}
use Rattle.seat_tables.specs.Sheets.{ArePut}
use Rattle.pickup_questions.specs.PairRows.{pair_names, rows_of_pair}
use Rattle.pickup_questions.proofs.by_pair.put_pairs.Given as goal

abbrev pub invariant-loop-number : goal.invariant-loop-number
invariant-loop-number l =
    ArePut pair_names (rows_from (rows_of_pair (moved_behind l.core.grid l.core.journal l.lines (pairs_at l.moves.pairing))) 0 (take l.number l.pairs)) l.initial.sheet l.sheet
