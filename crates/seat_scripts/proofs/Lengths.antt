-- How long the text of a history may be.
use Rattle.std.proofs.Common.{◌≡◌, ℕ, ◌+◌, ◌*◌, ◌^◌, ◌<◌, ◌≤◌, Bool, true, false, nat_le, List, [], ◌∷◌, ◌++◌, length, refl, sym, ap, ◌∙◌, arith, length-append, Option, Some, None, IfSome, decimal, codes}
use Rattle.seat_scripts.proofs.Common.{AllByRecursion, Place, Ladders, Advice, Change, Command, Entry, Work, Seats, IsLegal, IsNext, most_journal_bytes}
use Rattle.std.specs.List.{flat_map}
use Rattle.std.proofs.lemmas.Fmt.{length-decimal-le}
use Rattle.airline_base.proofs.LeadingFields.{length_code, length_locator}
use Rattle.seat_journal.specs.Text.{IsAdvice, IsChange, IsCommand, IsEntry, IsPlace, IsSale, IsStem, IsWork, advice_text, blank, change_text, colon, dot, newline, command_text, end_text, entry_text, head_text, journal_text, mark_letter, place_text, sale_text, scope_letter, stem_text, wanted_text, work_text}
use Rattle.seat_journal.specs.declared.entry.SaleChange.{SaleChange}
use Rattle.seat_journal.specs.declared.entry.Work.TheVariants.{Limit, Sale}
use Rattle.seat_rules.specs.declared.booking.Booking.{Booking}
use Rattle.seat_rules.specs.declared.booking.Status.{Status}
use Rattle.seat_rules.specs.declared.booking.Status.TheVariants.{Held, Waiting}
use Rattle.seat_rules.specs.Bookings.{is_for, is_waiting}
use Rattle.seat_rules.specs.Sequential.{State, Outcome, answer, pass, may_confirm, confirmed, advice_of, reduced, booking_of, changed_by, sales_by}
use Rattle.seat_rules.specs.Journal.{replay}
use Rattle.seat_desk.specs.AuditDesk.{most_lines}
use Rattle.seat_rules.proofs.History.Lines.{replay_next}
use Rattle.seat_rules.proofs.History.Legal.{each_legal}
use Rattle.seat_rules.proofs.Step.Outcomes.{each_outcome}

-- ---- a line makes at most one waiting booking, and an advice ends one

abbrev one_if : Status → ℕ
one_if Held = 0
one_if Waiting = 1

-- how many bookings wait
abbrev waits : List Booking → ℕ
waits [] = 0
waits (b ∷ bs) = one_if b.status + waits bs

waits_append : (xs ys : List Booking) → waits (xs ++ ys) ≡ waits xs + waits ys
waits_append [] ys = omega arith
waits_append (x ∷ xs) ys = omega (arith, waits_append xs ys)

waiting_one : (s : Status) → is_waiting s ≡ true → one_if s ≡ 1
waiting_one Held e = cc
waiting_one Waiting e = refl

-- what a pass tells, it takes from those that wait
pass_waits : (grid : Ladders) (done : List Booking) (told : List Advice) (bs : List Booking)
    → waits (pass grid done told bs).bookings + length (pass grid done told bs).advices ≡ waits done + length told
    + waits bs
pass_waits grid done told [] = omega arith
pass_waits grid done told (b ∷ bs) =
    cases (may_confirm grid (done ++ b ∷ bs) b) refl (pass_waits grid (done ++ confirmed b ∷ []) (told ++ advice_of b ∷ []) bs) (pass_waits grid (done ++ b ∷ []) told bs) where
      held_now : waits (done ++ confirmed b ∷ []) ≡ waits done
      held_now = omega (arith, waits_append done (confirmed b ∷ []))

      still : waits (done ++ b ∷ []) ≡ waits done + one_if b.status
      still = omega (arith, waits_append done (b ∷ []))

      waited : may_confirm grid (done ++ b ∷ bs) b ≡ true → one_if b.status ≡ 1
      waited e = by (is_waiting b.status) refl where
        by : (t : Bool) → is_waiting b.status ≡ t → one_if b.status ≡ 1
        by true is = waiting_one b.status is
        by false is = absurd cc

      cases : (t : Bool) → may_confirm grid (done ++ b ∷ bs) b ≡ t
          → waits (pass grid (done ++ confirmed b ∷ []) (told ++ advice_of b ∷ []) bs).bookings
          + length (pass grid (done ++ confirmed b ∷ []) (told ++ advice_of b ∷ []) bs).advices
          ≡ waits (done ++ confirmed b ∷ []) + length (told ++ advice_of b ∷ []) + waits bs
          → waits (pass grid (done ++ b ∷ []) told bs).bookings + length (pass grid (done ++ b ∷ []) told bs).advices
          ≡ waits (done ++ b ∷ []) + length told + waits bs
          → waits (pass grid done told (b ∷ bs)).bookings + length (pass grid done told (b ∷ bs)).advices ≡ waits done
          + length told + waits (b ∷ bs)
      cases true e one other = rw e (omega (arith, one, held_now, waited e, length-append told (advice_of b ∷ [])))
      cases false e one other = rw e (omega (arith, other, still))

reduced_waits : (test : Booking → Bool) (n : ℕ) (bs : List Booking) → waits (reduced test n bs) ≤ waits bs
reduced_waits test n [] = omega arith
reduced_waits test n (b ∷ bs) = cases (test b) (nat_le b.seats n) refl refl (reduced_waits test n bs) where
  cases : (t u : Bool) → test b ≡ t → nat_le b.seats n ≡ u → waits (reduced test n bs) ≤ waits bs
      → waits (reduced test n (b ∷ bs)) ≤ waits (b ∷ bs)
  cases true true e g rest = rw (e, g) (omega arith)
  cases true false e g rest = rw (e, g) (omega arith)
  cases false u e g rest = rw e (omega (arith, rest))

-- one more booking waits, or an advice is told, for each line
record IsWithinOne (before : ℕ) (o : Outcome) : Type 0 where
  few : waits o.state.bookings + length o.advices ≤ before + 1

answer_waits : (s : State) (number : ℕ) (w : Work) → IsWithinOne (waits s.bookings) (answer s number w)
answer_waits s number w =
    each_outcome (λ v o. IsWithinOne (waits s.bookings) o) s number
    (λ v r. record { few = omega arith })
    (λ c place at none fits. record { few = omega (arith, waits_append s.bookings (booking_of number c place Held ∷ [])) })
    (λ c place at none over why. record { few = omega (arith, waits_append s.bookings (booking_of number c place Waiting ∷ [])) })
    (λ c place at none. record { few = omega (arith, waits_append s.bookings (booking_of number c place Waiting ∷ []), pass_waits s.grid [] [] (s.bookings ++ booking_of number c place Waiting ∷ [])) })
    (λ c place b at found le. record { few = omega (arith, reduced_waits (is_for c.locator place c.class) c.seats s.bookings, pass_waits s.grid [] [] (reduced (is_for c.locator place c.class) c.seats s.bookings)) })
    (λ c may. record { few = omega (arith, pass_waits (changed_by s.grid c) [] [] s.bookings) })
    (λ c may. record { few = omega (arith, pass_waits (sales_by s.grid c) [] [] s.bookings) })
    w

-- how many advices lines have
abbrev advices_in : List Entry → ℕ
advices_in [] = 0
advices_in (e ∷ es) = length e.advices + advices_in es

advices_append : (xs ys : List Entry) → advices_in (xs ++ ys) ≡ advices_in xs + advices_in ys
advices_append [] ys = omega arith
advices_append (x ∷ xs) ys = omega (arith, advices_append xs ys)

record IsFew (grid : Ladders) (history : List Entry) : Type 0 where
  few : waits (replay grid history).bookings + advices_in history ≤ length history

few_next : (grid : Ladders) (past : List Entry) (e : Entry) → IsLegal grid past → IsNext grid past e → IsFew grid past
    → IsFew grid (past ++ e ∷ [])
few_next grid past e legal next before =
    let o : Outcome = answer (replay grid past) e.number e.work in
    let number : e.number ≡ length past + 1 = ap (λ (x : Entry). x.number) next.line in
    let told : e.advices ≡ (answer (replay grid past) (length past + 1) e.work).advices = ap (λ (x : Entry). x.advices) next.line in
    let same : length e.advices ≡ length o.advices = ap length told ∙ ap (λ (k : ℕ). length (answer (replay grid past) k e.work).advices) (sym number) in
    let left : waits (replay grid (past ++ e ∷ [])).bookings ≡ waits o.state.bookings = ap (λ (s : State). waits s.bookings) (replay_next grid past e) in
    let step = (answer_waits (replay grid past) e.number e.work).few in
    record { few = omega (arith, before.few, step, same, left, advices_append past (e ∷ []), length-append past (e ∷ [])) }

few_advices : (grid : Ladders) (history : List Entry) → IsLegal grid history → advices_in history ≤ length history
few_advices grid history legal =
    let few = (each_legal grid (IsFew grid) (few_next grid) [] history (record { few = omega arith }) legal).few in
    omega (arith, few)

-- ---- the texts of its parts

ten : (n : ℕ) → n < 2 ^ 32 → length (decimal n) ≤ 10
ten n lt = length-decimal-le 10 n (omega arith) (omega (arith, lt)) (omega (arith, lt))

five : (n : ℕ) → n < 2 ^ 16 → length (decimal n) ≤ 5
five n lt = length-decimal-le 5 n (omega arith) (omega (arith, lt)) (omega (arith, lt))

three : (n : ℕ) → n < 2 ^ 8 → length (decimal n) ≤ 3
three n lt = length-decimal-le 3 n (omega arith) (omega (arith, lt)) (omega (arith, lt))

-- two texts with a byte between
between : (xs : List ℕ) (b : ℕ) (ys : List ℕ) → length (xs ++ (b ∷ ys)) ≡ length xs + 1 + length ys
between xs b ys = omega (arith, length-append xs (b ∷ ys))

place_short : (p : Place) → IsPlace p → length (place_text p) ≤ 18
unfolding place_text
place_short p is =
    omega (arith, between (decimal p.flight) dot (decimal p.from ++ (dot ∷ decimal p.to)), between (decimal p.from) dot (decimal p.to), ten p.flight is.flight, three p.from is.from, three p.to is.to)

wanted_short : (o : Option Place) → IfSome o IsPlace → length (wanted_text o) ≤ 18
wanted_short None is = omega arith
wanted_short (Some p) is = place_short p is

advice_short : (a : Advice) → IsAdvice a → length (advice_text a) ≤ 41
unfolding advice_text
advice_short a is =
    let seats = decimal a.seats in
    omega (
      arith,
      length-append (codes " KL:") (decimal a.number ++ (colon ∷ (place_text a.place ++ (colon ∷ (a.class ∷ (colon ∷ seats)))))),
      between (decimal a.number) colon (place_text a.place ++ (colon ∷ (a.class ∷ (colon ∷ seats)))),
      between (place_text a.place) colon (a.class ∷ (colon ∷ seats)),
      ten a.number is.number,
      place_short a.place is.place,
      five a.seats is.seats,
    )

command_short : (c : Command) → IsCommand c → length (command_text c) ≤ 36
unfolding command_text
command_short c is =
    let seats = decimal c.seats in
    omega (
      arith,
      between c.locator blank (wanted_text c.place ++ (blank ∷ (c.class ∷ (blank ∷ (c.code ++ (blank ∷ seats)))))),
      between (wanted_text c.place) blank (c.class ∷ (blank ∷ (c.code ++ (blank ∷ seats)))),
      between c.code blank seats,
      length_locator c.locator is.locator,
      wanted_short c.place is.place,
      length_code c.code is.code,
      five c.seats is.seats,
    )

change_short : (c : Change) → IsChange c → length (change_text c) ≤ 36
unfolding change_text
change_short c is =
    let wait = decimal c.wait in
    let limit = decimal c.limit ++ (blank ∷ wait) in
    let leg = decimal c.leg ++ (blank ∷ (c.class ∷ (blank ∷ limit))) in
    omega (
      arith,
      length-append (codes "AU ") (decimal c.flight ++ (dot ∷ leg)),
      between (decimal c.flight) dot leg,
      between (decimal c.leg) blank (c.class ∷ (blank ∷ limit)),
      between (decimal c.limit) blank wait,
      ten c.flight is.flight,
      three c.leg is.leg,
      five c.limit is.limit,
      five c.wait is.wait,
    )

sale_short : (c : SaleChange) → IsSale c → length (sale_text c) ≤ 36
unfolding sale_text
sale_short c is =
    let class = scope_letter c.class ∷ (blank ∷ (mark_letter c.closed ∷ [])) in
    let leg = decimal c.leg ++ (blank ∷ class) in
    omega (
      arith,
      length-append (codes "V3 ST ") (decimal c.flight ++ (dot ∷ leg)),
      between (decimal c.flight) dot leg,
      between (decimal c.leg) blank class,
      ten c.flight is.flight,
      three c.leg is.leg,
    )

work_short : (w : Work) → IsWork w → length (work_text w) ≤ 36
work_short (Seats c) is = command_short c is
work_short (Limit c) is = change_short c is
work_short (Sale c) is = sale_short c is

stem_short : (e : Entry) → IsStem e → length (stem_text e) ≤ 71
unfolding stem_text
stem_short e is =
    let behind = e.reply ++ (blank ∷ decimal e.released) in
    let asked = work_text e.work ++ (blank ∷ behind) in
    omega (
      arith,
      between (decimal e.number) blank (decimal e.session ++ (blank ∷ (decimal e.call ++ (blank ∷ asked)))),
      between (decimal e.session) blank (decimal e.call ++ (blank ∷ asked)),
      between (decimal e.call) blank asked,
      between (work_text e.work) blank behind,
      between e.reply blank (decimal e.released),
      ten e.number is.number,
      three e.session is.session,
      ten e.call is.call,
      work_short e.work is.work,
      length_code e.reply is.reply,
      five e.released is.released,
    )

advices_short : (advices : List Advice) → AllByRecursion IsAdvice advices
    → length (flat_map advice_text advices) ≤ 41 * length advices
advices_short [] is = omega arith
advices_short (a ∷ advices) is = omega (arith, length-append (advice_text a) (flat_map advice_text advices), advice_short a is.0, advices_short advices is.1)

entry_short : (e : Entry) → IsEntry e → length (entry_text e) ≤ 72 + 41 * length e.advices
unfolding entry_text
entry_short e is =
    omega (
      arith,
      length-append (stem_text e) (flat_map advice_text e.advices ++ newline ∷ []),
      length-append (flat_map advice_text e.advices) (newline ∷ []),
      stem_short e is.stem,
      advices_short e.advices is.advices,
    )

entries_short : (es : List Entry) → AllByRecursion IsEntry es
    → length (flat_map entry_text es) ≤ 72 * length es + 41 * advices_in es
entries_short [] is = omega arith
entries_short (e ∷ es) is = omega (arith, length-append (entry_text e) (flat_map entry_text es), entry_short e is.0, entries_short es is.1)

end_short : (count : ℕ) → count < 2 ^ 32 → length (end_text count) ≤ 15
unfolding end_text
end_short count lt = omega (arith, length-append (codes "END ") (decimal count ++ newline ∷ []), length-append (decimal count) (newline ∷ []), ten count lt)

-- the text of a legal history of so many lines is not too large
pub text_short : (grid : Ladders) (history : List Entry) → IsLegal grid history → AllByRecursion IsEntry history
    → length history ≤ most_lines → length (journal_text history) ≤ most_journal_bytes
unfolding journal_text
text_short grid history legal are few =
    let count : length history < 2 ^ 32 = omega (arith, few) in
    omega (
      arith,
      length-append head_text (flat_map entry_text history ++ end_text (length history)),
      length-append (flat_map entry_text history) (end_text (length history)),
      entries_short history are,
      few_advices grid history legal,
      end_short (length history) count,
      few,
    )
