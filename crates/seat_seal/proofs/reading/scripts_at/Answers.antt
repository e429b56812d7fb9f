use Rattle.std.proofs.Common.{ℕ, List, ◌∷◌, [], length, arith, ap, sym}
use Rattle.std.proofs.lemmas.List.{length-append}
use Rattle.seat_seal.specs.declared.scripts.Script.{Script}
use Rattle.seat_seal.specs.Reading.{script_line_at, scripts_at}
use Rattle.seat_seal.proofs.ItemRuns.{one_more, no_more, all_read}
use Rattle.seat_seal.proofs.reading.scripts_at.Goals as goal

pub loop-preserved : goal.loop-preserved
loop-preserved c = record {
  counted = omega (arith, ap length c.push.ensures, length-append c.loop.scripts (c.in-Some.script ∷ []), c.loop.invariant.counted);
  kept = rw c.push.ensures (one_more script_line_at 8 c.loop.counter c.loop.scripts c.loop.rest.now c.in-Some.after.now c.in-Some.script (scripts_at c.args.bytes.now) c.loop-test.true c.loop.invariant.kept (sym c.in-Some.ensures));
}

pub returns-in_default-clause-scripts : goal.returns-in_default-clause-scripts
returns-in_default-clause-scripts c = ap (λ (p : List Script × List ℕ). p.0) (no_more script_line_at 8 c.loop.counter c.loop.scripts c.loop.rest.now (scripts_at c.args.bytes.now) c.loop-test.true c.loop.invariant.kept (sym c.in_default.ensures))

pub returns-in_default-clause-rest : goal.returns-in_default-clause-rest
returns-in_default-clause-rest c = ap (λ (p : List Script × List ℕ). p.1) (no_more script_line_at 8 c.loop.counter c.loop.scripts c.loop.rest.now (scripts_at c.args.bytes.now) c.loop-test.true c.loop.invariant.kept (sym c.in_default.ensures))

pub returns-clause-scripts : goal.returns-clause-scripts
returns-clause-scripts c = ap (λ (p : List Script × List ℕ). p.0) (all_read script_line_at 8 c.loop.counter c.loop.scripts c.loop.rest.now (scripts_at c.args.bytes.now) c.loop-test.false c.loop.invariant.kept)

pub returns-clause-rest : goal.returns-clause-rest
returns-clause-rest c = ap (λ (p : List Script × List ℕ). p.1) (all_read script_line_at 8 c.loop.counter c.loop.scripts c.loop.rest.now (scripts_at c.args.bytes.now) c.loop-test.false c.loop.invariant.kept)
