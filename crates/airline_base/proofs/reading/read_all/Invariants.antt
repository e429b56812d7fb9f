-- What was read stands in `bytes`, and no failure was counted.
use Rattle.std.specs.Prelude.{◌-◌, length}
use Rattle.airline_base.specs.Noting.{Held}
use Rattle.airline_base.proofs.reading.read_all.Given as goal

abbrev pub invariant-loop-bytes : goal.invariant-loop-bytes
invariant-loop-bytes g l = Held l.max (g.R.Read.remaining l.initial.reader) (g.R.Read.remaining l.reader) (g.R.Failures.failure_count l.initial.reader) (g.R.Failures.failure_count l.reader) l.bytes.items

abbrev pub decreases-loop-bytes : goal.decreases-loop-bytes
decreases-loop-bytes g l = l.max - length l.bytes.items
