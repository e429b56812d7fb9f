-- Those that were looked at so far.
use Rattle.std.proofs.Common.{◌≡◌, take}
use Rattle.std.specs.List.{list_any}
use Rattle.seat_seal.specs.Booked.{begins_with}
use Rattle.booked_texts.specs.Looks.{IsAt}
use Rattle.booked_texts.proofs.beginning.imprint_beside.Given as goal

abbrev pub invariant-loop-one : goal.invariant-loop-one
invariant-loop-one l = record {
  at : IsAt l.beginning l.text;
  so_far : l.is_booked ≡ list_any (begins_with l.text) (take l.one-index l.booked);
}
