-- The rows of the legs so far are written.
use Rattle.std.proofs.Common.{take}
use Rattle.seat_rules.specs.Inventory.{state_now}
use Rattle.seat_tables.specs.Rows.{rows_from}
use Rattle.seat_tables.specs.Sheets.{ArePut}
use Rattle.table_questions.specs.LoadRows.{leg_rows, load_names}
use Rattle.table_questions.proofs.loads.put_legs.Given as goal

abbrev pub invariant-loop-j : goal.invariant-loop-j
invariant-loop-j l = ArePut load_names (rows_from (leg_rows l.asked (state_now l.core) l.index l.flight) 0 (take l.j l.legs)) l.initial.sheet l.sheet
