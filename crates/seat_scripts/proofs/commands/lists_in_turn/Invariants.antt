-- The lists so far are those of the scripts so far.
use Rattle.std.proofs.Common.{◌≡◌, map, take}
use Rattle.seat_replies.specs.Requests.{commands_of}
use Rattle.seat_scripts.proofs.commands.lists_in_turn.Given as goal

abbrev pub invariant-loop-script : goal.invariant-loop-script
invariant-loop-script l = l.lists.items ≡ map (commands_of l.served) (take l.script-index l.scripts)
