-- What a session is asked, by its script where it has one.
use Rattle.std.proofs.Common.{◌≡◌, ◌-◌, ◌≤◌, ℕ, zero, suc, List, [], ap, sym, ◌∙◌, subst, arith, Option, Some, None}
use Rattle.std.specs.Prelude.{slice_get, unwrap_or}
use Rattle.airimp_lines.specs.declared.requests.Request.{Request}
use Rattle.seat_replies.specs.RunDesk.{requests_of}

pub managed : (scripts : List (List Request)) (session : ℕ) → session ≡ 0 → [] ≡ requests_of scripts session
managed scripts session is = ap (requests_of scripts) (sym is)

pub scripted : (scripts : List (List Request)) (session : ℕ) (script slice : List Request) → 1 ≤ session
    → slice_get scripts (session - 1) ≡ Some script → slice ≡ script → slice ≡ requests_of scripts session
scripted scripts zero script slice low at same = absurd (omega (arith, low))
scripted scripts (suc i) script slice low at same =
    let is : suc i - 1 ≡ i = omega arith in
    let here : slice_get scripts i ≡ Some script = subst (λ (k : ℕ). slice_get scripts k ≡ Some script) is at in
    same ∙ sym (ap (λ (o : Option (List Request)). unwrap_or o []) here)

pub unscripted : (scripts : List (List Request)) (session : ℕ) → 1 ≤ session → slice_get scripts (session - 1) ≡ None
    → [] ≡ requests_of scripts session
unscripted scripts zero low at = absurd (omega (arith, low))
unscripted scripts (suc i) low at =
    let is : suc i - 1 ≡ i = omega arith in
    let here : slice_get scripts i ≡ None = subst (λ (k : ℕ). slice_get scripts k ≡ None) is at in
    sym (ap (λ (o : Option (List Request)). unwrap_or o []) here)
