-- The bookings so far are found by name.
use Rattle.std.proofs.Common.{take}
use Rattle.partner_lists.specs.Names.{Finds}
use Rattle.partner_questions.specs.Here.{all_named}
use Rattle.partner_questions.proofs.here.by_name.Given as goal

abbrev pub invariant-loop-booking : goal.invariant-loop-booking
invariant-loop-booking l = Finds l.here (all_named l.flights (take l.booking-index l.bookings))
