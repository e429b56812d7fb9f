-- The members so far are written.
use Rattle.std.proofs.Common.{map, take}
use Rattle.seat_tables.specs.Sheets.{AreMembersPut}
use Rattle.seat_tables.proofs.json_rows.put_members.Given as goal

abbrev pub invariant-loop-i : goal.invariant-loop-i
invariant-loop-i l = AreMembersPut (take l.i (map (λ n. n.now) l.names)) (take l.i l.row) l.initial.writer l.writer
