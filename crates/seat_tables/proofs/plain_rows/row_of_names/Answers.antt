use Rattle.std.proofs.Common.{map, sym, subst, ℕ, ◌<◌, ◌∙◌, []}
use Rattle.csv.specs.Records.{fields_of, partial_of}
use Rattle.seat_tables.proofs.Fields.{name_at, name_more, names_many}
use Rattle.seat_tables.proofs.plain_rows.row_of_names.Goals as goal

pub loop-name-preserved : goal.loop-name-preserved
loop-name-preserved c =
    let inside = subst (λ (k : ℕ). c.loop-name.name-index < k) (sym (names_many c.args.names.now)) c.loop-name-test.true in
    name_more (map (λ n. n.now) c.args.names.now) c.loop-name.name-index c.as_bytes.result.now (fields_of c.loop-name.fields) (fields_of c.push_field.new.self)
    (partial_of c.loop-name.fields) (partial_of c.push_field.new.self) c.loop-name.invariant inside
    (c.as_bytes.ensures.value ∙ name_at c.args.names.now c.loop-name.name-index (record { ref_ptr = (0, 0); now = [] }) c.as_bytes.result.now c.loop-name-test.true)
    c.in_ok-push_field.ensures.fields c.in_ok-push_field.ensures.partial
