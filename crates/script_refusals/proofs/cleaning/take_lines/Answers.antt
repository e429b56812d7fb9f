use Rattle.std.proofs.Common.{◌+◌, arith}
use Rattle.script_refusals.proofs.Taking.{done_is, not_done, refusals_done, refusals_further, text_done, text_further}
use Rattle.script_refusals.proofs.cleaning.take_lines.Goals as goal

pub loop-rest-preserved : goal.loop-rest-preserved
loop-rest-preserved c =
    let some = not_done c.is_empty.result c.loop-rest.rest.now c.is_empty.ensures c.loop-rest-test.true in
    let lines = c.cut_whole.ensures.lines some in
    record {
      text = text_further c.args.bytes.now c.loop-rest.rest.now c.cut_whole.result.0.now c.cut_whole.result.1.now c.loop-rest.text.items c.take_line.new.text.items c.loop-rest.passage _ c.loop-rest.invariant.text lines c.in_ok-passage.ensures.passage c.in_ok-passage.ensures.text;
      refusals = refusals_further c.args.bytes.now c.loop-rest.rest.now c.cut_whole.result.0.now c.cut_whole.result.1.now c.loop-rest.refusals c.take_line.new.refusals c.loop-rest.passage _ c.loop-rest.line c.loop-rest.invariant.refusals lines c.in_ok-passage.ensures.passage c.in_ok-passage.ensures.refusals;
      counted = omega (arith, c.loop-rest.invariant.counted, c.cut_whole.ensures.shorter some);
    }

pub loop-rest-smaller : goal.loop-rest-smaller
loop-rest-smaller c = c.cut_whole.ensures.shorter (not_done c.is_empty.result c.loop-rest.rest.now c.is_empty.ensures c.loop-rest-test.true)

pub returns-clause-text : goal.returns-clause-text
returns-clause-text c = text_done c.args.bytes.now c.loop-rest.rest.now c.loop-rest.text.items c.loop-rest.passage c.loop-rest.invariant.text (done_is c.is_empty.result c.loop-rest.rest.now c.is_empty.ensures c.loop-rest-test.false)

pub returns-clause-refusals : goal.returns-clause-refusals
returns-clause-refusals c = refusals_done c.args.bytes.now c.loop-rest.rest.now c.loop-rest.refusals c.loop-rest.passage (c.loop-rest.line + 1) c.loop-rest.invariant.refusals (done_is c.is_empty.result c.loop-rest.rest.now c.is_empty.ensures c.loop-rest-test.false)
