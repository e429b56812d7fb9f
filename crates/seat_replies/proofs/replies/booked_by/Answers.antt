use Rattle.seat_replies.proofs.Parts.{booked_line}
use Rattle.seat_replies.proofs.replies.booked_by.Goals as goal

pub returns : goal.returns
returns c =
    booked_line c.args.flights.now c.args.journal.now c.args.number c.index-journal-number.result c.of_work.result c.requires c.index-journal-number.is c.of_work.ensures
