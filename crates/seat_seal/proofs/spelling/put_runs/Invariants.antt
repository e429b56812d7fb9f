-- The runs so far were put.
use Rattle.std.proofs.Common.{◌≡◌, ◌+◌, ◌*◌, ◌≤◌, ◌++◌, length, take}
use Rattle.std.specs.List.{flat_map, AllByRecursion}
use Rattle.seat_seal.specs.Rules.{IsNamed}
use Rattle.seat_seal.specs.Text.{run_text}
use Rattle.seat_seal.proofs.spelling.put_runs.Given as goal

abbrev pub invariant-loop-run : goal.invariant-loop-run
invariant-loop-run l = record {
  text : l.text.items ≡ l.initial.text.items ++ flat_map run_text (take l.run-index l.runs);
  room : length l.text.items ≤ length l.initial.text.items + 1019 * l.run-index;
  is : AllByRecursion IsNamed (take l.run-index l.runs);
}
