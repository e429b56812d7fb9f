-- The script at hand is sorted out behind those so far.
use Rattle.std.proofs.Common.{rules, ◌≡◌, ◌<◌, ◌+◌, ◌++◌, [], ◌∷◌, length}
use Rattle.command_inputs.specs.Sorted.{IsSorted}
use Rattle.command_inputs.proofs.Sorting.{sorted_on}
use Rattle.command_inputs.proofs.refused.sort_out_each.Goals as goal

pub loop-script-preserved : goal.loop-script-preserved
loop-script-preserved c =
    let number : c.saturating_add-session.result ≡ c.loop-script.script-index + 1 = search rules in
    let below : c.loop-script.script-index < length c.loop-script.script-items = search rules in
    let one : IsSorted c.saturating_add-session.result c.sort_out_one.new.script c.in_ok-rows.rows.items = search rules in
    let pushed : c.push.new.self.items ≡ c.loop-script.sessions.items ++ c.in_ok-rows.rows ∷ [] = search rules in (
      sorted_on c.loop-script.script-items c.loop-script.script-index c.sort_out_one.new.script c.loop-script.sessions.items
          c.push.new.self.items c.in_ok-rows.rows c.saturating_add-session.result below c.loop-script.invariant.0 number one pushed,
      number,
      search rules,
    )
