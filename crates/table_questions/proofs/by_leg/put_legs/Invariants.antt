-- The rows of the legs so far are written.
use Rattle.std.proofs.Common.{take}
use Rattle.seat_rules.specs.Inventory.{state_now}
use Rattle.seat_tables.specs.Rows.{rows_from}
use Rattle.seat_tables.specs.Sheets.{ArePut}
use Rattle.table_questions.specs.SumRows.{sums_of_leg, leg_names}
use Rattle.table_questions.proofs.by_leg.put_legs.Given as goal

abbrev pub invariant-loop-j : goal.invariant-loop-j
invariant-loop-j l = ArePut leg_names (rows_from (sums_of_leg l.asked (state_now l.core) l.index l.flight) 0 (take l.j l.legs)) l.initial.sheet l.sheet
