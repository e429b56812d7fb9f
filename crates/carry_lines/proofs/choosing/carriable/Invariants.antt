-- Those that came first and can be asked for are there.
use Rattle.std.proofs.Common.{◌≡◌, filter, take}
use Rattle.carry_lines.specs.Carriable.{is_carriable}
use Rattle.carry_lines.proofs.choosing.carriable.Given as goal

abbrev pub invariant-loop-owned : goal.invariant-loop-owned
invariant-loop-owned l = l.all.items ≡ filter (is_carriable l.grid) (take l.owned-index l.moved)
