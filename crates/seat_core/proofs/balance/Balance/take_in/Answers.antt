use Rattle.std.proofs.Common.{◌+◌, ◌<◌, ◌∙◌, length-set, arith, refl, ap, sym}
use Rattle.std.proofs.lemmas.List.{length_push}
use Rattle.seat_bookings.proofs.Kept.Books.{kept_live}
use Rattle.seat_core.proofs.Balances.{replay_next}
use Rattle.seat_core.proofs.balance.Balance.take_in.Goals as goal

pub enter-requires-clause-live : goal.enter-requires-clause-live
enter-requires-clause-live c =
    let b = c.args.self.now in
    let n = c.requires.next in
    kept_live b.opening 999999 n.past b.books.items b.calls b.counts c.args.entry.now n.left.of_replay n.next

pub returns : goal.returns
returns c =
    let b = c.args.self.now in
    let e = c.args.entry.now in
    let below : b.lines < 999999 = c.requires.below in
    record {
      grid = refl;
      left = λ past left next. record {
        count = ap (λ n. n + 1) left.count ∙ sym (length_push past e);
        nine = length-set b.calls e.session _ ∙ left.nine;
        of_replay = replay_next b.opening past b.books.items c.enter.new.books.items b.calls b.counts c.show.new.counts e left.of_replay left.nine
            (omega (arith, left.count, below)) next c.enter.ensures.entered c.enter.ensures.queued c.show.ensures;
      };
    }
