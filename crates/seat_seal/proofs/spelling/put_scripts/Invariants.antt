-- The scripts so far were put.
use Rattle.std.proofs.Common.{◌≡◌, ◌+◌, ◌*◌, ◌≤◌, ◌++◌, length, take}
use Rattle.std.specs.List.{flat_map, AllByRecursion}
use Rattle.seat_seal.specs.Rules.{IsScript}
use Rattle.seat_seal.specs.Text.{script_line}
use Rattle.seat_seal.proofs.spelling.put_scripts.Given as goal

abbrev pub invariant-loop-script : goal.invariant-loop-script
invariant-loop-script l = record {
  text : l.text.items ≡ l.initial.text.items ++ flat_map script_line (take l.script-index l.scripts);
  room : length l.text.items ≤ length l.initial.text.items + 110 * l.script-index;
  is : AllByRecursion IsScript (take l.script-index l.scripts);
}
