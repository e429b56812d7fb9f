-- The lines of those who wait, and the text of all of them.
use Rattle.std.proofs.Common.{◌≡◌, ℕ, false, List, [], ◌∷◌, ◌++◌, refl, ap, subst, ◌∙◌, append_assoc, decimal, codes}
use Rattle.ssim_flights.specs.declared.flight.Flight.{Flight as Flown}
use Rattle.seat_desk.specs.FlightsDesk.{IsPut}
use Rattle.seat_lists.proofs.Common.{Booking, State}
use Rattle.seat_lists.proofs.LiveTexts.{one_line, whole_text}
use Rattle.seat_lists.specs.Named.{IsNamedPut}
use Rattle.seat_lists.specs.Waiting.{IsWaitingLine, IsWaitingText, lacked}

-- one line
pub waiting_line : (flights : List Flown) (s : State) (b : Booking) (n : ℕ) (old mid t1 t2 new : List ℕ)
    → IsNamedPut flights false b old mid → t1 ≡ mid ++ codes " LACKS " → t2 ≡ t1 ++ decimal n → n ≡ lacked s b
    → new ≡ t2 ++ 10 ∷ [] → IsPut (λ k. IsWaitingLine flights s) 0 (b ∷ []) old new
waiting_line flights s b n old mid t1 t2 new named e1 e2 is feed =
    let line : List ℕ = named.part ++ codes " LACKS " ++ decimal (lacked s b) ++ 10 ∷ [] in
    let is_line : IsWaitingLine flights s b line = record { part = named.part; is_named = named.is_named; written = refl } in
    let written : new ≡ old ++ line =
    feed ∙ ap (λ (l : List ℕ). l ++ 10 ∷ [])
    (e2 ∙ ap (λ (k : ℕ). t1 ++ decimal k) is ∙ ap (λ (l : List ℕ). l ++ decimal (lacked s b)) (e1 ∙ ap (λ (l : List ℕ). l ++ codes " LACKS ") named.written))
    ∙ parts old named.part (codes " LACKS ") (decimal (lacked s b)) in
    one_line (IsWaitingLine flights s) b old new line is_line written
  where
    parts : (o a b c : List ℕ) → (((o ++ a) ++ b) ++ c) ++ 10 ∷ [] ≡ o ++ (a ++ b ++ c ++ 10 ∷ [])
    parts o a b c = simp append_assoc

-- ---- the whole

pub waiting_text : (flights : List Flown) (s : State) (all slice xs : List Booking) (old new : List ℕ) → old ≡ []
    → all ≡ xs → slice ≡ all → IsPut (λ k. IsWaitingLine flights s) 0 slice old new → IsWaitingText flights s xs new
waiting_text flights s all slice xs old new empty picks same put =
    subst (λ (l : List Booking). IsWaitingText flights s l new) (same ∙ picks) (whole_text (IsWaitingLine flights s) slice old new empty put)
