-- A line that can be answered has its rows.
use Rattle.std.proofs.Common.{◌≡◌, ◌∙◌, ℕ, zero, suc, ◌+◌, ◌-◌, ◌<◌, ◌≤◌, List, [], ◌∷◌, ◌++◌, Option, Some, None, ap, arith, codes, get_or, length, refl, sym, ⊎_elim}
use Rattle.std.specs.Prelude.{slice_get}
use Rattle.std.proofs.lemmas.List.{length-append}
use Rattle.std.proofs.lemmas.Option.{slice_get_cases}
use Rattle.airimp_lines.specs.declared.requests.Request.{Request}
use Rattle.airimp_lines.specs.declared.segment.Segment.{Segment}
use Rattle.ssim_flights.specs.declared.flight.Flight.{Flight as Flown}
use Rattle.seat_journal.specs.declared.entry.Advice.{Advice}
use Rattle.seat_journal.specs.declared.entry.Command.{Command}
use Rattle.seat_journal.specs.declared.entry.Entry.{Entry}
use Rattle.seat_journal.specs.declared.entry.Work.{Work}
use Rattle.seat_journal.specs.declared.entry.Work.TheVariants.{Seats, Limit, Sale}
use Rattle.desk_telling.specs.Segments.{segment_of}
use Rattle.desk_telling.specs.Telling.{line_numbered}
use Rattle.seat_replies.specs.Answering.{IsBooked, IsRequested}
use Rattle.seat_tables.specs.Rows.{rows_from}
use Rattle.seat_tables.specs.declared.cell.Cell.TheVariants.{Nothing, Word}
use Rattle.reply_tables.specs.ReplyRows.{LinesHaveRows, advice_row, advice_rows, asked_row, asked_segment, confirmed_by, confirmed_in, row_on, rows_in, segment_row}

-- ---- rows

numbered : (history : List Entry) (n : ℕ) → 1 ≤ n → line_numbered history n ≡ slice_get history (n - 1)
numbered history zero low = absurd (omega (arith, low))
numbered history (suc n) low = let less : n ≡ suc n - 1 = omega arith in ap (slice_get history) less

advice_has_row : (flights : List Flown) (history : List Entry) (e : Entry) (k : ℕ) (a : Advice) → IsBooked flights history a.number
    → length (advice_rows flights history e k a) ≡ 1
advice_has_row flights history e k a b =
    let row : advice_row flights history e a ≡ Some (segment_row e b.command.locator b.segment (codes "KL") a.seats Nothing) =
    ap (confirmed_in flights e a) (numbered history a.number b.within.0 ∙ b.at) ∙ ap (confirmed_by flights e a) b.work_is
    ∙ ap (λ (o : Option Segment). row_on e b.command.locator o (codes "KL") a.seats Nothing) b.flown in
    ap (λ o. length (rows_in o)) row

advices_have_rows : (flights : List Flown) (history : List Entry) (e : Entry) (k : ℕ) (advices : List Advice)
    → ((i : ℕ) (d : Advice) → i < length advices → IsBooked flights history (get_or advices i d).number)
    → length (rows_from (advice_rows flights history e) k advices) ≡ length advices
advices_have_rows flights history e k [] booked = refl
advices_have_rows flights history e k (a ∷ advices) booked =
    let rest = advices_have_rows flights history e (k + 1) advices (λ i d lt. booked (suc i) d (omega (arith, lt))) in
    let one = advice_has_row flights history e k a (booked 0 a (omega arith)) in
    let more : 1 + length advices ≡ suc (length advices) = omega arith in
    length-append (advice_rows flights history e k a) (rows_from (advice_rows flights history e) (k + 1) advices)
    ∙ ap (λ (n : ℕ). n + length (rows_from (advice_rows flights history e) (k + 1) advices)) one
    ∙ ap (λ (n : ℕ). 1 + n) rest ∙ more

there : (requests : List Request) (place : ℕ) → place < length requests → slice_get requests place ≡ None → ⊥
there requests place low none = ⊎_elim
    (λ (s : (x : Request) × (place < length requests) × (slice_get requests place ≡ Some x) × (get_or requests place x ≡ x)).
    let bad : Some s.0 ≡ None = sym s.2 ∙ none in absurd cc)
    (λ (n : (length requests ≤ place) × (slice_get requests place ≡ None)). absurd (omega (arith, low, n.0)))
    (slice_get_cases requests place).1

asked_has_row : (flights : List Flown) (requests : List Request) (place : ℕ) (e : Entry) (work : Work) → IsRequested requests place work
    → length (rows_in (asked_row flights requests place e work)) ≡ 1
asked_has_row flights requests place e (Seats c) low = of (segment_of flights c) (slice_get requests place) (there requests place low) where
  of : (s : Option Segment) (r : Option Request) → (r ≡ None → ⊥)
      → length (rows_in (row_on e c.locator (asked_segment s r) c.code c.seats (Word e.reply))) ≡ 1
  of (Some s) r some = refl
  of None (Some r) some = refl
  of None None some = absurd (some refl)
asked_has_row flights requests place e (Limit c) low = refl
asked_has_row flights requests place e (Sale c) low = refl

pub lines_have_rows : LinesHaveRows
lines_have_rows flights requests history place e is =
    length-append (rows_in (asked_row flights requests place e e.work)) (rows_from (advice_rows flights history e) 0 e.advices)
    ∙ ap (λ (n : ℕ). n + length (rows_from (advice_rows flights history e) 0 e.advices)) (asked_has_row flights requests place e e.work is.asked)
    ∙ ap (λ (n : ℕ). 1 + n) (advices_have_rows flights history e 0 e.advices is.advised.each)
