-- The rows of the pairs so far are written.
use Rattle.std.proofs.Common.{take}
use Rattle.seat_rules.specs.Inventory.{state_now}
use Rattle.seat_tables.specs.Rows.{rows_from}
use Rattle.seat_tables.specs.Sheets.{ArePut}
use Rattle.table_questions.specs.SumRows.{pair_names, sums_of_pair}
use Rattle.table_questions.proofs.by_pair.put_pairs.Given as goal

abbrev pub invariant-loop-i : goal.invariant-loop-i
invariant-loop-i l = ArePut pair_names (rows_from (sums_of_pair l.asked (state_now l.core) l.flights) 0 (take l.i l.pairs)) l.initial.sheet l.sheet
