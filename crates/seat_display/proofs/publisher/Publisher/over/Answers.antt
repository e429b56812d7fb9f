use Rattle.seat_display.proofs.Steps.{ready_open}
use Rattle.seat_display.proofs.publisher.Publisher.over.Goals as goal

pub invariant_of-result : goal.invariant_of-result
invariant_of-result c = (c.requires.head, c.requires.shown.book_is, c.requires.knows, ready_open _ _ _ _ _ c.requires.shown c.requires.empty.1 c.requires.empty.0)
