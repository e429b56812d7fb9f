-- How far a list of locators is read.
use Rattle.std.proofs.Common.{◌≡◌, ◌==◌, Bool, true, false, ℕ, ◌+◌, ◌<◌, List, [], ◌∷◌, ◌++◌, length, Option, Some, None, Result, Ok, Err, if◌then◌else◌, refl, sym, ap, subst, ◌∙◌, arith}
use Rattle.std.specs.Str.Lines.{lines}
use Rattle.std.proofs.lemmas.Bool.Decides.{nat_tests}
use Rattle.std.proofs.lemmas.List.{nil_from_length}
use Rattle.carry_order.specs.Reading.{IsFaultOf, IsLineFault, behind_line, is_blank, locator_in, one_more, order_from, order_in, with_line}
use Rattle.carry_order.specs.declared.reading.OrderFault.{OrderFault}
use Rattle.carry_order.specs.declared.reading.OrderFault.TheVariants.{Line, Memory}

-- what is left comes to what the list comes to
pub record GoesOn (bytes : List ℕ) (line : ℕ) (rest : List ℕ) (all : List (List ℕ)) : Type 0 where
  pub whole : order_in bytes ≡ order_from all (line + 1) (lines rest)

pub goes_first : (bytes : List ℕ) → GoesOn bytes 0 bytes []
goes_first bytes = record { whole = refl }

pub goes_next : (bytes : List ℕ) (line : ℕ) (rest text after : List ℕ) (all more : List (List ℕ)) → GoesOn bytes line rest all
    → lines rest ≡ text ∷ lines after → with_line text all ≡ Some more → GoesOn bytes (line + 1) after more
goes_next bytes line rest text after all more goes cut takes = record {
  whole = goes.whole ∙ ap (order_from all (line + 1)) cut
      ∙ ap (behind_line (line + 1) (λ (l : List (List ℕ)). order_from l (line + 1 + 1) (lines after))) takes;
}

pub goes_end : (bytes : List ℕ) (line : ℕ) (rest : List ℕ) (all : List (List ℕ)) → GoesOn bytes line rest all → length rest ≡ 0
    → order_in bytes ≡ Ok all
goes_end bytes line rest all goes none =
    let e : rest ≡ [] = nil_from_length rest none in
    goes.whole ∙ ap (λ (x : List ℕ). order_from all (line + 1) (lines x)) e

-- ---- one line

pub blank_line : (text : List ℕ) (b : Bool) (old new : List (List ℕ)) → b ≡ is_blank text → b ≡ true → new ≡ old → with_line text old ≡ Some new
blank_line text b old new e on same = rw (sym e ∙ on) (ap (λ (l : List (List ℕ)). Some l) (sym same))

pub right_line : (text : List ℕ) (b : Bool) (locator : List ℕ) (old new : List (List ℕ)) → b ≡ is_blank text → b ≡ false
    → Some locator ≡ locator_in text → new ≡ old ++ locator ∷ [] → with_line text old ≡ Some new
right_line text b locator old new e off found added =
    rw (sym e ∙ off, sym found) (ap (λ (l : List (List ℕ)). Some l) (sym added))

pub wrong_line : (text : List ℕ) (line : ℕ) (b : Bool) → b ≡ is_blank text → b ≡ false → None ≡ locator_in text → IsLineFault text line (Line line)
wrong_line text line b e off none = (refl, sym e ∙ off, sym none)

-- ---- line by line

no_line : (text : List ℕ) (all : List (List ℕ)) → is_blank text ≡ false → locator_in text ≡ None → with_line text all ≡ None
no_line text all full none = rw (full, none) refl

pub goes_stop : (bytes : List ℕ) (line : ℕ) (rest text after : List ℕ) (all : List (List ℕ)) (fault : OrderFault) → GoesOn bytes line rest all
    → lines rest ≡ text ∷ lines after → IsLineFault text (line + 1) fault → IsFaultOf bytes fault
goes_stop bytes line rest text after all (Line n) goes cut wrong =
    goes.whole ∙ ap (order_from all (line + 1)) cut
    ∙ ap (behind_line (line + 1) (λ (l : List (List ℕ)). order_from l (line + 1 + 1) (lines after))) (no_line text all wrong.1 wrong.2)
    ∙ ap (λ (k : ℕ). Err k) (sym wrong.0)
goes_stop bytes line rest text after all Memory goes cut wrong = tt

pub not_done : (b : Bool) (rest : List ℕ) → b ≡ (length rest == 0) → b ≡ false → 0 < length rest
not_done b rest e off = grind (arith, nat_tests)

pub done_is : (b : Bool) (rest : List ℕ) → b ≡ (length rest == 0) → b ≡ true → length rest ≡ 0
done_is b rest e on = grind (arith, nat_tests)
