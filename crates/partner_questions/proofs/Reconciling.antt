-- The answer over a journal.
use Rattle.std.proofs.Common.{◌≡◌, ℕ, List, length, ap, subst, ◌∙◌}
use Rattle.airimp_lines.specs.declared.requests.Request.{Request}
use Rattle.ssim_flights.specs.declared.flight.Flight.{Flight as Flown}
use Rattle.seat_journal.specs.declared.entry.Entry.{Entry}
use Rattle.seat_rules.specs.declared.booking.Booking.{Booking}
use Rattle.partner_questions.specs.DifferenceText.{IsDifferenceText}
use Rattle.partner_questions.specs.Differences.{differences, same_lines}
use Rattle.partner_questions.specs.Reconciled.{Reconciles}
use Rattle.partner_questions.specs.declared.difference.Difference.{Difference}

pub answered : (flights : List Flown) (journal lines : List Entry) (bookings items slice : List Booking) (theirs : List Request)
    (all shown : List Difference) (same : ℕ) (text : List ℕ) → lines ≡ journal → items ≡ bookings → slice ≡ items
    → all ≡ differences flights lines slice theirs → same ≡ same_lines flights lines slice theirs → shown ≡ all
    → IsDifferenceText shown same text → Reconciles flights journal bookings theirs text
answered flights journal lines bookings items slice theirs all shown same text e1 e2 e3 are counted e4 is =
    let are_all : shown ≡ differences flights lines slice theirs = e4 ∙ are in
    let one : IsDifferenceText (differences flights lines slice theirs) (same_lines flights lines slice theirs) text =
    subst (λ (n : ℕ). IsDifferenceText (differences flights lines slice theirs) n text) counted
    (subst (λ (l : List Difference). IsDifferenceText l same text) are_all is) in
    subst (λ (l : List Booking). Reconciles flights journal l theirs text) (e3 ∙ e2)
    (subst (λ (l : List Entry). Reconciles flights l slice theirs text) e1 one)

pub counted : (flights : List Flown) (journal lines : List Entry) (bookings items slice : List Booking) (theirs : List Request)
    (all : List Difference) (n : ℕ) → lines ≡ journal → items ≡ bookings → slice ≡ items → all ≡ differences flights lines slice theirs
    → n ≡ length all → n ≡ length (differences flights journal bookings theirs)
counted flights journal lines bookings items slice theirs all n e1 e2 e3 are is =
    is ∙ ap (λ (l : List Difference). length l) are ∙ ap (λ (l : List Booking). length (differences flights lines l theirs)) (e3 ∙ e2)
    ∙ ap (λ (l : List Entry). length (differences flights l bookings theirs)) e1
