-- The lists so far are those that were found so far.
use Rattle.std.proofs.Common.{◌≡◌, Ok, map}
use Rattle.seat_scripts.proofs.commands.all_of.Given as goal

abbrev pub invariant-loop-list : goal.invariant-loop-list
invariant-loop-list l = l.yielded ≡ map Ok l.lists.items
