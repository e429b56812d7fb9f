use Rattle.std.proofs.Common.{map, sym, subst, ℕ, ◌<◌, ◌∙◌}
use Rattle.seat_tables.proofs.Fields.{name_at, names_many}
use Rattle.seat_tables.proofs.Members.{member_more}
use Rattle.seat_tables.proofs.json_rows.put_members.Goals as goal

pub loop-i-preserved : goal.loop-i-preserved
loop-i-preserved c =
    let named = subst (λ (k : ℕ). c.loop-i.i < k) (sym c.requires.whole) c.loop-i-test.true in
    member_more (map (λ n. n.now) c.args.names.now) c.args.row.now c.loop-i.i _ c.index-row-i.result c.args.writer.now c.loop-i.writer c.put_member.new.writer
    c.loop-i.invariant (names_many c.args.names.now ∙ c.requires.whole) c.loop-i-test.true (name_at c.args.names.now c.loop-i.i _ _ named) c.index-row-i.is
    c.in_ok-put_member.ensures
