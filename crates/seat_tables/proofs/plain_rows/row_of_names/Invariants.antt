-- The names so far are fields.
use Rattle.std.proofs.Common.{map}
use Rattle.csv.specs.Records.{fields_of, partial_of}
use Rattle.seat_tables.proofs.Fields.{NamesSoFar}
use Rattle.seat_tables.proofs.plain_rows.row_of_names.Given as goal

abbrev pub invariant-loop-name : goal.invariant-loop-name
invariant-loop-name l = NamesSoFar (map (λ n. n.now) l.names) l.name-index (fields_of l.fields) (partial_of l.fields)
