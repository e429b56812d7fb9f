-- The commands so far are those of the requests so far.
use Rattle.std.proofs.Common.{◌≡◌, map, take}
use Rattle.seat_replies.specs.Requests.{command_of}
use Rattle.seat_scripts.proofs.commands.commands.Given as goal

abbrev pub invariant-loop-request : goal.invariant-loop-request
invariant-loop-request l = l.commands.items ≡ map (command_of l.served) (take l.request-index l.requests)
