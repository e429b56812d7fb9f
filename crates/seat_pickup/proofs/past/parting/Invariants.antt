-- The lines so far are the older ones.
use Rattle.std.proofs.Common.{◌≡◌, take}
use Rattle.seat_pickup.proofs.past.parting.Given as goal

abbrev pub invariant-loop-place : goal.invariant-loop-place
invariant-loop-place l = take l.place l.journal ≡ take l.place l.older
