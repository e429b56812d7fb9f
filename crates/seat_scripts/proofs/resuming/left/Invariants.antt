-- What is left of the scripts so far.
use Rattle.std.proofs.Common.{◌≡◌, take}
use Rattle.seat_scripts.specs.Resuming.{left_from}
use Rattle.seat_scripts.proofs.resuming.left.Given as goal

abbrev pub invariant-loop-place : goal.invariant-loop-place
invariant-loop-place l = l.left ≡ left_from 1 (take l.place l.scripts) l.lines
