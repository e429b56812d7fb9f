use Rattle.std.proofs.Common.{List, refl, ap, sym, subst}
use Rattle.seat_bookings.specs.declared.books.FlightBook.{FlightBook}
use Rattle.seat_bookings.specs.Books.{book_of}
use Rattle.seat_bookings.proofs.Kept.Books.{kept_counts}
use Rattle.seat_core.specs.Answers.{CanAnswerWork}
use Rattle.seat_core.proofs.Balances.{said_next}
use Rattle.seat_core.proofs.Step.Reply.{asked_kept}
use Rattle.seat_core.proofs.balance.Balance.next.Goals as goal

pub answer_work-told-requires : goal.answer_work-told-requires
answer_work-told-requires c =
    let b = c.args.self.now in
    let w = c.args.work in
    let P : List FlightBook → Type 0 = λ books. CanAnswerWork b.counts books w in
    record { asked = subst P (sym c.deref.ensures.value) (asked_kept b.opening 999999 c.requires.left.0 b.books.items b.calls b.counts w c.requires.left.1.of_replay c.requires.fits) }

pub returns-clause-line : goal.returns-clause-line
returns-clause-line c =
    let w = c.args.work in
    said_next c.args.self.now c.args.session w c.answer_work-told.result c.entry_of.result (book_of c.deref.result.now w) c.requires.session
    (ap (λ (books : List FlightBook). book_of books w) c.deref.ensures.value) c.answer_work-told.ensures.says c.entry_of.ensures

pub returns-clause-same : goal.returns-clause-same
returns-clause-same c =
    let b = c.args.self.now in
    let told = c.answer_work-told in
    record {
      grid = refl;
      count = refl;
      left = λ past left. record {
        count = left.count;
        nine = left.nine;
        of_replay = kept_counts b.opening 999999 past b.books.items b.calls b.counts told.new.counts left.of_replay told.ensures.limits told.ensures.seats;
      };
    }
