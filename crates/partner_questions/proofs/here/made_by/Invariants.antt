-- Those of the bookings so far that the session made are added.
use Rattle.std.proofs.Common.{◌≡◌, take}
use Rattle.std.specs.List.{filter}
use Rattle.partner_questions.specs.Here.{is_made_by}
use Rattle.partner_questions.proofs.here.made_by.Given as goal

abbrev pub invariant-loop-booking : goal.invariant-loop-booking
invariant-loop-booking l = l.all.items ≡ filter (is_made_by l.session l.journal) (take l.booking-index l.bookings)
