-- What lines leave, one line more.
use Rattle.std.proofs.Common.{◌≡◌, ℕ, ◌+◌, ◌<◌, List, [], ◌∷◌, ◌++◌, length, set, get_or, Result, Ok, Err, IfOk, refl, sym, ap, subst, ◌∙◌}
use Rattle.std.proofs.lemmas.Result.{IfOk-weaker}
use Rattle.seat_nesting.specs.Nesting.{Ladders}
use Rattle.seat_nesting.specs.Counting.{Counted, limits_of}
use Rattle.seat_journal.specs.declared.entry.Entry.{Entry}
use Rattle.seat_journal.specs.declared.entry.Work.{Work}
use Rattle.seat_rules.specs.declared.booking.Booking.{Booking}
use Rattle.seat_rules.specs.Journal.{calls_of, line_of, next_line, replay, FitsWork, IsNext, MayAsk}
use Rattle.seat_rules.specs.Sequential.{Outcome, answer, state_of}
use Rattle.seat_rules.specs.Showing.{shown, standing_of}
use Rattle.seat_rules.proofs.History.Lines.{is_next}
use Rattle.seat_bookings.specs.declared.books.FlightBook.{FlightBook}
use Rattle.seat_bookings.specs.Books.{book_of, IsEntered, IsOfReplay, IsQueued}
use Rattle.seat_bookings.proofs.Kept.Books.{kept_next, session_most}
use Rattle.seat_core.specs.declared.balance.Balance.{Balance}
use Rattle.seat_core.specs.declared.reply.Answer.{Answer}
use Rattle.seat_core.specs.Answers.{Says}
use Rattle.seat_core.specs.Balances.{grid_of, IsNextOf, Leave}
use Rattle.seat_core.proofs.Step.Reply.{says_kept}

-- what holds behind whatever lines holds of what is Ok
ok_each : {T E : Type 0} (r : Result T E) (L : List Entry → Type 0) (P : List Entry → T → Type 0)
    → ((past : List Entry) → L past → IfOk r (P past)) → IfOk r (λ t. (past : List Entry) → L past → P past t)
ok_each (Ok t) L P h = h
ok_each (Err e) L P h = tt

-- the next line may follow
pub next_is : (b : Balance) (session : ℕ) (work : Work) (e : Entry) (past : List Entry) → MayAsk session work
    → FitsWork (grid_of b) work → IsNextOf b session work e → Leave past b → IsNext (grid_of b) past e
next_is b session work e past may fits next left =
    is_next (grid_of b) past session (calls_of past session + 1) work e may refl fits (next.line past left)

-- the line that says what the flight's book says is the next
pub said_next : {E : Type 0} (b : Balance) (session : ℕ) (w : Work) (told : Answer) (r : Result Entry E)
    (book : List Booking) → MayAsk session w → book ≡ book_of b.books.items w
    → Says (answer (state_of (limits_of b.counts) book) (b.lines + 1) w) told
    → ((o : Outcome) → Says o told
    → IfOk r (λ e. e ≡ line_of o (b.lines + 1) session (get_or b.calls session 0 + 1) w))
    → IfOk r (λ e. IsNextOf b session w e)
said_next b session w told r book may is says makes =
    IfOk-weaker r (λ e. (past : List Entry) → Leave past b → is_that past e) (λ e. IsNextOf b session w e) (λ e h. record { line = h })
    (ok_each r (λ past. Leave past b) is_that each)
  where
    is_that : List Entry → Entry → Type 0
    is_that past e = e ≡ next_line (grid_of b) past session (calls_of past session + 1) w

    each : (past : List Entry) → Leave past b → IfOk r (is_that past)
    each past left =
        let o : Outcome = answer (replay b.opening past) (length past + 1) w in
        let number : b.lines + 1 ≡ length past + 1 = ap (λ n. n + 1) left.count in
        let calls : get_or b.calls session 0 ≡ calls_of past session = left.of_replay.by_session session (session_most session w may) in
        let same : line_of o (b.lines + 1) session (get_or b.calls session 0 + 1) w ≡ next_line b.opening past session (calls_of past session + 1) w =
        ap (λ n. line_of o n session (get_or b.calls session 0 + 1) w) number ∙ ap (λ n. line_of o (length past + 1) session (n + 1) w) calls in
        IfOk-weaker r (λ e. e ≡ line_of o (b.lines + 1) session (get_or b.calls session 0 + 1) w) (is_that past) (λ e h. h ∙ same)
        (makes o (says_kept b.opening 999999 past b.books.items b.calls b.counts book (b.lines + 1) w told left.of_replay is number says))

-- a line that is added
pub replay_next : (opening : Ladders) (past : List Entry) (books books' : List FlightBook) (calls : List ℕ)
    (counts counts' : Counted) (e : Entry) → IsOfReplay opening 999999 past books calls counts → length calls ≡ 9
    → length past < 999999 → IsNext opening past e
    → IsEntered books books' e → IsQueued books' → standing_of counts' ≡ shown (standing_of counts) e
    → IsOfReplay opening 999999 (past ++ e ∷ []) books' (set calls e.session (get_or calls e.session 0 + 1)) counts'
replay_next opening past books books' calls counts counts' e k nine lt next entered queued shows =
    let kept = kept_next opening 999999 past books books' calls counts counts' e k nine lt next entered queued shows in
    let P : ℕ → Type 0 = λ n. IsOfReplay opening 999999 (past ++ e ∷ []) books' (set calls e.session (n + 1)) counts' in
    subst P (sym (k.by_session e.session (session_most e.session e.work next.session))) kept
