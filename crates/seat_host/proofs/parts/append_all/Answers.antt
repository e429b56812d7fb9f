use Rattle.std.proofs.Common.{◌<◌, ◌∙◌, length, arith}
use Rattle.seat_host.proofs.Opening.{legal_at_end, pending_next, short_at_end}
use Rattle.seat_host.proofs.parts.append_all.Goals as goal

pub append-requires-clause-legal : goal.append-requires-clause-legal
append-requires-clause-legal c =
    let i = c.loop-line.line-index in
    let inside : i < length c.args.lines.now = omega arith in
    legal_at_end c.args.publisher.now.grid c.loop-line.publisher.grid c.loop-line.publisher.visible c.loop-line.publisher.pending c.args.lines.now i c.line-item.result c.in-Ok.shown
    c.requires.legal c.loop-line.invariant.grid c.loop-line.invariant.visible c.loop-line.invariant.pending inside c.line-item.is c.in-Ok.ensures

pub append-requires-clause-short : goal.append-requires-clause-short
append-requires-clause-short c =
    let i = c.loop-line.line-index in
    let inside : i < length c.args.lines.now = omega arith in
    short_at_end c.loop-line.publisher.visible c.loop-line.publisher.pending c.args.lines.now i c.loop-line.invariant.visible c.loop-line.invariant.pending inside c.requires.few

pub loop-line-preserved : goal.loop-line-preserved
loop-line-preserved c =
    let i = c.loop-line.line-index in
    let inside : i < length c.args.lines.now = omega arith in
    record {
      pending = pending_next c.loop-line.publisher.pending c.append.new.self.pending c.args.lines.now i c.line-item.result c.in-Ok.shown c.loop-line.invariant.pending inside c.line-item.is c.in-Ok.ensures c.in-Ok-append.ensures.pending;
      visible = c.append.ensures.same.2 ∙ c.loop-line.invariant.visible;
      book = c.append.ensures.same.0 ∙ c.loop-line.invariant.book;
      grid = c.append.ensures.same.1 ∙ c.loop-line.invariant.grid;
    }
