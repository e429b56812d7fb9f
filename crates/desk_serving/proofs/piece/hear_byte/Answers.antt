use Rattle.std.proofs.Common.{rules, arith}
use Rattle.desk_serving.proofs.Hearing.{line_ended}
use Rattle.desk_serving.proofs.piece.hear_byte.Goals as goal

pub returns-in-Ok-clause-hears : goal.returns-in-Ok-clause-hears
returns-in-Ok-clause-hears g c =
    line_ended c.args.feed.now c.hear_line.new.feed c.args.line.now.items c.as_slice.result.now c.clear.new.self.items c.args.byte
    c.in-Ok.ensures.heard (omega (arith, c.if-byte-ne10.false)) (search rules) (search rules)
