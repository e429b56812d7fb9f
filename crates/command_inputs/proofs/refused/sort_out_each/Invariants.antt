-- The scripts so far are sorted out.
use Rattle.std.proofs.Common.{◌≡◌, ◌≤◌, length, map, take}
use Rattle.command_inputs.specs.Sorted.{AreSorted}
use Rattle.command_inputs.proofs.refused.sort_out_each.Given as goal

abbrev pub invariant-loop-script : goal.invariant-loop-script
invariant-loop-script l = AreSorted (take l.script-index l.script-items) (map (λ rows. rows.items) l.sessions.items)
    × (l.session ≡ l.script-index) × (length l.script-items ≤ 8)
