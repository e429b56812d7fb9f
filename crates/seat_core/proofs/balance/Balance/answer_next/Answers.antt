use Rattle.std.proofs.Common.{sym, subst, ◌∙◌}
use Rattle.seat_nesting.specs.Nesting.{Ladders}
use Rattle.seat_rules.specs.Journal.{IsNext}
use Rattle.seat_bookings.proofs.Kept.Books.{kept_same}
use Rattle.seat_core.proofs.Balances.{next_is}
use Rattle.seat_core.proofs.balance.Balance.answer_next.Goals as goal

pub take_in-requires-clause-next : goal.take_in-requires-clause-next
take_in-requires-clause-next c =
    let mid = c.next.new.self in
    let e = c.in_ok-entry.entry in
    let same = c.in_ok-entry.ensures.same in
    let past = c.requires.left.0 in
    let left = same.left past c.requires.left.1 in
    let P : Ladders → Type 0 = λ grid. IsNext grid past e in
    record {
      past = past;
      left = record {
        count = left.count;
        nine = left.nine;
        of_replay = kept_same mid.opening 999999 past mid.books.items c.reserve_place.new.books.items mid.calls mid.counts left.of_replay c.reserve_place.ensures.same;
      };
      next = subst P (sym same.grid) (next_is c.args.self.now c.args.session c.args.work e past c.requires.session c.requires.fits c.in_ok-entry.ensures.line c.requires.left.1);
    }

pub returns-clause-taken : goal.returns-clause-taken
returns-clause-taken c =
    let mid = c.next.new.self in
    let e = c.in_ok-entry.entry in
    let same = c.in_ok-entry.ensures.same in
    record {
      grid = c.take_in.ensures.grid ∙ same.grid;
      left = λ past before.
          let left = same.left past before in
          let P : Ladders → Type 0 = λ grid. IsNext grid past e in
          c.take_in.ensures.left past
          (record {
            count = left.count;
            nine = left.nine;
            of_replay = kept_same mid.opening 999999 past mid.books.items c.reserve_place.new.books.items mid.calls mid.counts left.of_replay c.reserve_place.ensures.same;
          })
          (subst P (sym same.grid) (next_is c.args.self.now c.args.session c.args.work e past c.requires.session c.requires.fits c.in_ok-entry.ensures.line before));
    }
