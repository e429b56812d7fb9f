use Rattle.std.proofs.Common.{rules, ◌≡◌, ◌++◌, length, sym, ap, ◌∙◌}
use Rattle.desk_pipes.proofs.Marks.{all_seen}
use Rattle.desk_pipes.proofs.holding.hold_piece.Goals as goal

-- src/holding.rt:61:1
pub returns-clause-marked : goal.returns-clause-marked
returns-clause-marked c over =
    let long : length c.args.ahead.now.mark.bytes ≡ 24 = sym (ap (λ mark. length mark.bytes) c.pass.ensures.mark) ∙ c.is_over.ensures.long in
    let held : c.extend_from_slice-held_all.new.self.items ≡ c.args.held.now.items ++ c.args.piece.now = search rules in
    all_seen c.args.ahead.now.mark.bytes c.args.held.now.items c.args.piece.now c.extend_from_slice-held_all.new.self.items
    c.args.ahead.now.seen c.pass.new.self.seen c.pass.result long c.requires.few c.requires.seen c.pass.ensures.seen
    (sym c.is_over.ensures.over ∙ over) held
