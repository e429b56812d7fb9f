use Rattle.std.proofs.Common.{◌≡◌, ◌≤◌, rules, Option, IfSome, refl, ap, sym, subst}
use Rattle.seat_nesting.specs.Counting.{limits_of}
use Rattle.airline_base.specs.declared.place.Place.{Place}
use Rattle.seat_bookings.specs.Books.{book_at, book_for}
use Rattle.seat_core.specs.Answers.{CountsFlight}
use Rattle.seat_rules.specs.Sequential.{state_of}
use Rattle.seat_rules.proofs.Step.Found.{answers_want, answers_taken, answers_cancel, answers_missing}
use Rattle.seat_core.proofs.reply.answer_command.Goals as goal

pub returns-in-None : goal.returns-in-None
returns-in-None c =
    let at : book_for c.args.books.now c.args.command.now.place ≡ book_at c.args.books.now c.in-Some.place.flight = ap (book_for c.args.books.now) c.in-Some.is in
    rw (
      at,
      answers_want c.in-Want.wish (state_of (limits_of c.args.counts.now) (book_at c.args.books.now c.in-Some.place.flight)) c.args.number c.args.command.now c.in-Some.place (book_at c.args.books.now c.in-Some.place.flight)
          refl c.in-Want.ensures c.in-Some.is c.in-None.ensures,
    )
    (record { says = c.book_seats.ensures; limits = refl; seats = refl })

pub returns-in-Some-found-2 : goal.returns-in-Some-found-2
returns-in-Some-found-2 c =
    let at : book_for c.args.books.now c.args.command.now.place ≡ book_at c.args.books.now c.in-Some.place.flight = ap (book_for c.args.books.now) c.in-Some.is in
    rw (
      at,
      answers_cancel (state_of (limits_of c.args.counts.now) (book_at c.args.books.now c.in-Some.place.flight)) c.args.number c.args.command.now c.in-Some.place c.in-Some-found-2.at (book_at c.args.books.now c.in-Some.place.flight)
          refl c.in-Cancel.ensures c.in-Some.is c.in-Some-found-2.ensures,
    )
    c.cancel_seats.ensures

pub returns-in-Some-found : goal.returns-in-Some-found
returns-in-Some-found c =
    let at : book_for c.args.books.now c.args.command.now.place ≡ book_at c.args.books.now c.in-Some.place.flight = ap (book_for c.args.books.now) c.in-Some.is in
    rw (
      at,
      answers_taken c.in-Want.wish (state_of (limits_of c.args.counts.now) (book_at c.args.books.now c.in-Some.place.flight)) c.args.number c.args.command.now c.in-Some.place c.in-Some-found.field-0 (book_at c.args.books.now c.in-Some.place.flight)
          refl c.in-Want.ensures c.in-Some.is c.in-Some-found.ensures,
    )
    (search rules)

pub returns-in-None-found : goal.returns-in-None-found
returns-in-None-found c =
    let at : book_for c.args.books.now c.args.command.now.place ≡ book_at c.args.books.now c.in-Some.place.flight = ap (book_for c.args.books.now) c.in-Some.is in
    rw (
      at,
      answers_missing (state_of (limits_of c.args.counts.now) (book_at c.args.books.now c.in-Some.place.flight)) c.args.number c.args.command.now c.in-Some.place (book_at c.args.books.now c.in-Some.place.flight)
          refl c.in-Cancel.ensures c.in-Some.is c.in-None-found.ensures,
    )
    (search rules)

pub book_seats-requires : goal.book_seats-requires
book_seats-requires c =
    let P : Option Place → Type 0 = λ o. IfSome o (λ p. CountsFlight c.args.counts.now c.args.books.now p.flight) in
    record { flight = subst P c.in-Some.is c.requires.flight }

pub cancel_seats-requires : goal.cancel_seats-requires
cancel_seats-requires c =
    let P : Option Place → Type 0 = λ o. IfSome o (λ p. CountsFlight c.args.counts.now c.args.books.now p.flight) in
    let Q : Option Place → Type 0 = λ o. IfSome o (λ p. p.from ≤ p.to) in
    record {
      flight = subst P c.in-Some.is c.requires.flight;
      found = sym c.in-Some-found-2.ensures;
      order = subst Q c.in-Some.is c.requires.order;
      some = c.requires.some;
    }
