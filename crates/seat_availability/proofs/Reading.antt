-- The reading of a partner's thresholds, line by line.
use Rattle.std.proofs.Common.{◌≡◌, ◌==◌, ℕ, ◌+◌, ◌<◌, Bool, true, false, List, [], ◌∷◌, length, Result, Ok, Err, refl, sym, ap, ◌∙◌, arith}
use Rattle.std.specs.Str.Lines.{lines}
use Rattle.std.proofs.lemmas.Bool.Decides.{nat_tests}
use Rattle.seat_availability.specs.Partners.{behind, thresholds_from, thresholds_in, with_line}
use Rattle.seat_availability.specs.declared.partner.Threshold.{Threshold}
use Rattle.seat_availability.specs.declared.partner_fault.PartnerFault.{PartnerFault}
use Rattle.seat_availability.specs.declared.partner_fault.PartnerKind.{PartnerKind}

pub some_left : (b : Bool) (bytes : List ℕ) → b ≡ (length bytes == 0) → b ≡ false → 0 < length bytes
some_left b bytes e h = let t : (length bytes == 0) ≡ false = sym e ∙ h in grind (arith, nat_tests, t)

no_bytes : (bytes : List ℕ) → length bytes ≡ 0 → bytes ≡ []
no_bytes [] e = refl
no_bytes (c ∷ rest) e = absurd (omega (arith, e))

pub none_left : (b : Bool) (bytes : List ℕ) → b ≡ (length bytes == 0) → b ≡ true → bytes ≡ []
none_left b bytes e h =
    let t : (length bytes == 0) ≡ true = sym e ∙ h in
    no_bytes bytes (grind (arith, nat_tests, t))

pub reading_starts : (bytes : List ℕ) → thresholds_from 1 [] (lines bytes) ≡ thresholds_in bytes
unfolding thresholds_in
reading_starts bytes = refl

-- the line here is read
one_line : (n : ℕ) (rows : List Threshold) (bytes text after : List ℕ) → lines bytes ≡ text ∷ lines after
    → thresholds_from n rows (lines bytes) ≡ behind n (with_line rows text) (λ more. thresholds_from (n + 1) more (lines after))
one_line n rows bytes text after cut = ap (thresholds_from n rows) cut

pub reading_goes_on : (n m : ℕ) (rows more : List Threshold) (bytes text after : List ℕ) (whole : Result (List Threshold) PartnerFault)
    → thresholds_from n rows (lines bytes) ≡ whole → lines bytes ≡ text ∷ lines after → with_line rows text ≡ Ok more → m ≡ n + 1
    → thresholds_from m more (lines after) ≡ whole
reading_goes_on n m rows more bytes text after whole so_far cut taken next =
    ap (λ (k : ℕ). thresholds_from k more (lines after)) next
    ∙ ap (λ (r : Result (List Threshold) PartnerKind). behind n r (λ x. thresholds_from (n + 1) x (lines after))) (sym taken)
    ∙ sym (one_line n rows bytes text after cut) ∙ so_far

pub reading_stops : (n : ℕ) (rows : List Threshold) (kind : PartnerKind) (bytes text after : List ℕ) (whole : Result (List Threshold) PartnerFault)
    → thresholds_from n rows (lines bytes) ≡ whole → lines bytes ≡ text ∷ lines after → with_line rows text ≡ Err kind
    → whole ≡ Err (record { line = n; kind = kind })
reading_stops n rows kind bytes text after whole so_far cut fault =
    sym so_far ∙ one_line n rows bytes text after cut
    ∙ ap (λ (r : Result (List Threshold) PartnerKind). behind n r (λ x. thresholds_from (n + 1) x (lines after))) fault

pub reading_ends : (n : ℕ) (rows : List Threshold) (bytes : List ℕ) (whole : Result (List Threshold) PartnerFault)
    → thresholds_from n rows (lines bytes) ≡ whole → bytes ≡ [] → whole ≡ Ok rows
reading_ends n rows bytes whole so_far none = sym so_far ∙ ap (λ (l : List ℕ). thresholds_from n rows (lines l)) none
