use Rattle.std.proofs.Common.{◌∙◌}
use Rattle.seat_bookings.proofs.Kept.Books.{room_kept}
use Rattle.seat_core.proofs.balance.Balance.room.Goals as goal

pub returns : goal.returns
returns c = λ past left.
    let b = c.args.self.now in
    c.room.ensures ∙ room_kept b.opening 999999 past b.books.items b.calls b.counts c.args.place c.args.class left.of_replay
