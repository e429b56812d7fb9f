-- The lines of flights.
use Rattle.std.proofs.Common.{◌≡◌, ℕ, ◌+◌, ◌<◌, ◌≤◌, List, [], ◌∷◌, ◌++◌, length, take, refl, sym, ap, ◌∙◌, subst, get_or, zero-add, ⊎_elim}
use Rattle.std.specs.Prelude.{slice_get, Some, None}
use Rattle.std.proofs.lemmas.Option.{get_or_from_slice_get, slice_get_cases}
use Rattle.ssim_flights.specs.declared.flight.Flight.{Flight}
use Rattle.seat_desk.specs.FlightsDesk.{IsPut, IsLegText, head_text}
use Rattle.seat_desk.proofs.Texts.{assoc_four, missing, put_more}
use Rattle.seat_reports.specs.FlightLines.{IsFlightLine, IsLinePut}

pub flight_line : (index : ℕ) (flight : Flight) (old head legs new : List ℕ) → head ≡ old ++ head_text index flight
    → IsPut IsLegText 0 flight.legs head legs → new ≡ legs ++ 10 ∷ [] → IsLinePut index flight old new
flight_line index flight old head legs new e put f = record {
  line = head_text index flight ++ put.part ++ 10 ∷ [];
  is_line = (put.part, put.is_text, refl);
  written = f ∙ ap (λ l. l ++ 10 ∷ []) (put.written ∙ ap (λ l. l ++ put.part) e) ∙ assoc_four old (head_text index flight) put.part (10 ∷ []);
}

pub flights_more : (flights : List Flight) (i : ℕ) (flight : Flight) (mid new : List ℕ)
    → IsPut IsFlightLine 0 (take i flights) [] mid
    → slice_get flights i ≡ Some flight → IsLinePut i flight mid new
    → IsPut IsFlightLine 0 (take (i + 1) flights) [] new
flights_more flights i flight mid new put here line =
    let there : i < length flights = ⊎_elim
    (λ (s : (x : Flight) × (i < length flights) × (slice_get flights i ≡ Some x) × (get_or flights i x ≡ x)). s.1)
    (λ (n : (length flights ≤ i) × (slice_get flights i ≡ None)). absurd (missing flight (sym here ∙ n.1)))
    (slice_get_cases flights i).1 in
    put_more IsFlightLine 0 i flights flight [] mid new line.line put there (sym (get_or_from_slice_get flights i flight flight here))
    (subst (λ (k : ℕ). IsFlightLine k flight line.line) (sym (zero-add i)) line.is_line) line.written
