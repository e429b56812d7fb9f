use Rattle.std.proofs.Common.{ℕ, List, ◌∷◌, [], length, arith, ap, sym}
use Rattle.std.proofs.lemmas.List.{length-append}
use Rattle.seat_seal.specs.declared.run.Run.{Run}
use Rattle.seat_seal.specs.Reading.{run_at, runs_at}
use Rattle.seat_seal.specs.Text.{most_runs}
use Rattle.seat_seal.proofs.ItemRuns.{one_more, no_more, all_read}
use Rattle.seat_seal.proofs.reading.runs_at.Goals as goal

pub loop-preserved : goal.loop-preserved
loop-preserved c = record {
  counted = omega (arith, ap length c.push.ensures, length-append c.loop.runs (c.in-Some.one ∷ []), c.loop.invariant.counted);
  kept = rw c.push.ensures (one_more run_at most_runs c.loop.counter c.loop.runs c.loop.rest.now c.in-Some.after.now c.in-Some.one (runs_at c.args.bytes.now) c.loop-test.true c.loop.invariant.kept (sym c.in-Some.ensures));
}

pub returns-in_default-clause-runs : goal.returns-in_default-clause-runs
returns-in_default-clause-runs c = ap (λ (p : List Run × List ℕ). p.0) (no_more run_at most_runs c.loop.counter c.loop.runs c.loop.rest.now (runs_at c.args.bytes.now) c.loop-test.true c.loop.invariant.kept (sym c.in_default.ensures))

pub returns-in_default-clause-rest : goal.returns-in_default-clause-rest
returns-in_default-clause-rest c = ap (λ (p : List Run × List ℕ). p.1) (no_more run_at most_runs c.loop.counter c.loop.runs c.loop.rest.now (runs_at c.args.bytes.now) c.loop-test.true c.loop.invariant.kept (sym c.in_default.ensures))

pub returns-clause-runs : goal.returns-clause-runs
returns-clause-runs c = ap (λ (p : List Run × List ℕ). p.0) (all_read run_at most_runs c.loop.counter c.loop.runs c.loop.rest.now (runs_at c.args.bytes.now) c.loop-test.false c.loop.invariant.kept)

pub returns-clause-rest : goal.returns-clause-rest
returns-clause-rest c = ap (λ (p : List Run × List ℕ). p.1) (all_read run_at most_runs c.loop.counter c.loop.runs c.loop.rest.now (runs_at c.args.bytes.now) c.loop-test.false c.loop.invariant.kept)
