use Rattle.seat_questions.proofs.Standings.{few_bookings}
use Rattle.seat_questions.proofs.legs.waiting.Goals as goal

pub waiting_by-requires : goal.waiting_by-requires
waiting_by-requires c =
    record { few = few_bookings c.args.core.now.grid c.args.core.now.journal c.args.core.now.cap c.args.flight c.bookings_on.result.now c.journal.ensures.capped c.requires.capped c.bookings_on.ensures }
