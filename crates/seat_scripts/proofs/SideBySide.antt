-- What is found place by place, on threads of their own, is found in order.
use Rattle.std.proofs.Common.{◌≡◌, ℕ, zero, suc, ◌+◌, ◌<◌, List, [], ◌∷◌, length, map, slice_get, slice_index_or, Option, Some, None, Result, IfOk, arith, refl, ap, subst}
use Rattle.std.specs.Prelude.{Err, Ok}
use Rattle.seat_scripts.specs.SideBySide.{AreFound}

some_is : {A : Type 0} (x y : A) → Some x ≡ Some y → x ≡ y
some_is x y is = cc is

-- each of these, all of which could be had, is what is wanted at its place
in_order : {A E : Type 0} (all wanted : List A) → AreFound {A = A} {E = E} wanted (map Ok all) → all ≡ wanted
in_order [] [] found = refl
in_order [] (y ∷ ys) found = absurd (omega (arith, found.count))
in_order (x ∷ xs) [] found = absurd (omega (arith, found.count))
in_order (x ∷ xs) (y ∷ ys) found =
    let first : Some y ≡ Some x = found.each 0 (Ok x) (omega arith) in
    let rest : xs ≡ ys = in_order xs ys (record { count = omega (arith, found.count); each = λ i d lt. found.each (suc i) d (omega (arith, lt)) }) in
    cc (some_is y x first, rest)

pub all_found : {A E : Type 0} (all wanted : List A) (found : List (Result A E)) → AreFound wanted found → found ≡ map Ok all → all ≡ wanted
all_found all wanted found are is = in_order all wanted (subst (AreFound wanted) is are)

-- what a call that went well leaves gives what is left of all
pub on_ok : {A E : Type 0} {P Q : A → Type 0} (r : Result A E) → ((x : A) → P x → Q x) → IfOk r P → IfOk r Q
on_ok (Ok x) more put = more x put
on_ok (Err _) more put = tt
