-- Texts that begin with what was booked.
use Rattle.std.proofs.Common.{◌≡◌, ◌<◌, ℕ, true, ltb, List, length, refl, ap, ◌∙◌, arith}
use Rattle.std.proofs.lemmas.Bool.Decides.{nat_tests}
use Rattle.std.proofs.lemmas.List.{take_at}
use Rattle.airline_base.proofs.Tests.{both_are}
use Rattle.seat_seal.specs.Comparing.{same_imprint}
use Rattle.seat_seal.specs.Imprints.{imprint_of}
use Rattle.seat_seal.specs.Laws.{GrownIsKnown}
use Rattle.seat_seal.proofs.Fitting.{itself}

positive : (n : ℕ) → 0 < n → ltb 0 n ≡ true
positive n lt = grind (arith, nat_tests, lt)

pub grown : GrownIsKnown
grown text more some =
    both_are _ _ (positive (length text) some)
    (ap (λ (front : List ℕ). same_imprint (imprint_of text) (imprint_of front)) (take_at text more (length text) refl)
    ∙ itself (imprint_of text))
