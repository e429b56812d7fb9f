-- Which journal has the lines of a flight, line by line.
use Rattle.std.proofs.Common.{◌≡◌, ◌≢◌, ◌==◌, ◌||◌, ℕ, zero, suc, ◌+◌, ◌<◌, ◌≤◌, Bool, true, false, List, [], ◌∷◌, ◌++◌, length, replicate, take, get_or, set, Option, Some, None, IfSome, if◌then◌else◌, arith, refl, ap, sym, subst, ◌∙◌}
use Rattle.std.proofs.lemmas.Bool.Decides.{nat_tests}
use Rattle.std.proofs.lemmas.List.{take_all, take_more, length-replicate, get_or-set_same, get_or-set_other}
use Rattle.std.proofs.lemmas.List.Folds.{list_any-append}
use Rattle.seat_journal.specs.declared.entry.Entry.{Entry}
use Rattle.seat_journal.specs.declared.entry.Work.{Work}
use Rattle.seat_rules.specs.Flights.{flight_of, is_flight, is_on}
use Rattle.seat_rules.specs.Prefixes.{Begins}
use Rattle.seat_parts.proofs.Flights.{nowhere}
use Rattle.taken_journals.specs.Owners.{has_line, owner_at, AreWithin, IsWithin, OwnsLine, OwnsNone, OwnsToo}

or_false : (b : Bool) → (b || false) ≡ b
or_false true = refl
or_false false = refl

-- ---- all lines

pub owned_none : (place : ℕ) (owners : List ℕ) → OwnsToo place owners owners []
owned_none place owners = record { each = λ f. refl }

pub any_push : (f : ℕ) (xs : List Entry) (e : Entry) → has_line f (xs ++ e ∷ []) ≡ (has_line f xs || is_on f e.work)
any_push f xs e =
    list_any-append (λ (x : Entry). is_on f x.work) xs (e ∷ [])
    ∙ ap (λ (b : Bool). has_line f xs || b) (or_false (is_on f e.work))

both_ways : (a b : Bool) (place old : ℕ) → (if b then place else (if a then place else old)) ≡ (if a || b then place else old)
both_ways true true place old = refl
both_ways true false place old = refl
both_ways false true place old = refl
both_ways false false place old = refl

pub owned_next : (place : ℕ) (old now new : List ℕ) (entries : List Entry) (i : ℕ) (e : Entry) → i < length entries
    → e ≡ get_or entries i e → OwnsToo place old now (take i entries) → OwnsLine place now new e.work
    → OwnsToo place old new (take (i + 1) entries)
owned_next place old now new entries i e lt is k more = record {
  each = λ f.
      more.each f
      ∙ (ap (λ (n : ℕ). if is_on f e.work then place else n) (k.each f)
      ∙ (both_ways (has_line f (take i entries)) (is_on f e.work) place (owner_at old f)
      ∙ ap (λ (b : Bool). if b then place else owner_at old f) (sym (longer f))));
}
  where
    longer : (f : ℕ) → has_line f (take (i + 1) entries) ≡ (has_line f (take i entries) || is_on f e.work)
    longer f =
        ap (has_line f) (take_more entries i e lt ∙ ap (λ (x : Entry). take i entries ++ x ∷ []) (sym is))
        ∙ any_push f (take i entries) e

pub owned_whole : (place : ℕ) (old new : List ℕ) (entries : List Entry) (i : ℕ) → length entries ≤ i
    → OwnsToo place old new (take i entries) → OwnsToo place old new entries
owned_whole place old new entries i le k =
    let P : List Entry → Type 0 = λ l. OwnsToo place old new l in
    subst P (take_all i entries le) k

-- ---- lines on flights that there are

begins_at : (entries : List Entry) (i : ℕ) (e : Entry) → i < length entries → e ≡ get_or entries i e
    → Begins (take i entries ++ e ∷ []) entries
begins_at [] i e lt same = absurd (omega (arith, lt))
begins_at (x ∷ entries) zero e lt same = record { rest = entries; is = ap (λ (y : Entry). y ∷ entries) (sym same) }
begins_at (x ∷ entries) (suc i) e lt same =
    let b : Begins (take i entries ++ e ∷ []) entries = begins_at entries i e (omega (arith, lt)) same in
    record { rest = b.rest; is = ap (λ (l : List Entry). x ∷ l) b.is }

pub within_at : (flights n : ℕ) (entries : List Entry) (i : ℕ) (e : Entry) → AreWithin flights entries → i < length entries
    → e ≡ get_or entries i e → n ≡ flights → IsWithin n e.work
within_at flights n entries i e all lt is same =
    let P : ℕ → Type 0 = λ x. IsWithin x e.work in
    subst P (sym same) (all.each (take i entries) e (begins_at entries i e lt is))

pub is_inside : (flights : ℕ) (w : Work) (flight : ℕ) → IsWithin flights w → flight_of w ≡ Some flight → flight < flights
is_inside flights w flight is at =
    let P : Option ℕ → Type 0 = λ o. IfSome o (λ f. f < flights) in
    subst P at is.below

-- ---- one line

pub own_nowhere : (place : ℕ) (owners : List ℕ) (w : Work) → flight_of w ≡ None → OwnsLine place owners owners w
own_nowhere place owners w is = record {
  each = λ f. sym (ap (λ (b : Bool). if b then place else owner_at owners f) (nowhere w f is));
}

pub own_there : (place : ℕ) (old new : List ℕ) (w : Work) (flight : ℕ) → flight_of w ≡ Some flight → flight < length old
    → new ≡ set old flight place → OwnsLine place old new w
own_there place old new w flight is lt set_is = record {
  each = λ f. ap (λ (l : List ℕ). owner_at l f) set_is ∙ cases f (flight == f) refl;
}
  where
    cases : (f : ℕ) (t : Bool) → (flight == f) ≡ t
        → owner_at (set old flight place) f ≡ (if is_on f w then place else owner_at old f)
    cases f true at =
        let here : flight ≡ f = grind (arith, nat_tests) in
        let on : is_on f w ≡ true = ap (is_flight f) is ∙ at in
        let P : ℕ → Type 0 = λ x. owner_at (set old flight place) x ≡ place in
        subst P here (get_or-set_same old flight place 0 lt)
        ∙ sym (ap (λ (b : Bool). if b then place else owner_at old f) on)
    cases f false at =
        let off : is_on f w ≡ false = ap (is_flight f) is ∙ at in
        let other : f ≢ flight = grind (arith, nat_tests) in
        get_or-set_other old flight f place 0 other
        ∙ sym (ap (λ (b : Bool). if b then place else owner_at old f) off)

-- ---- none yet

none_at : (n f : ℕ) → owner_at (replicate n 0) f ≡ 0
none_at zero f = refl
none_at (suc n) zero = refl
none_at (suc n) (suc f) = none_at n f

pub as_long : (n : ℕ) (owners : List ℕ) → owners ≡ replicate n 0 → length owners ≡ n
as_long n owners is = ap length is ∙ length-replicate n 0

pub owns_none : (n : ℕ) (owners : List ℕ) → owners ≡ replicate n 0 → OwnsNone owners
owns_none n owners is = record { each = λ f. ap (λ (l : List ℕ). owner_at l f) is ∙ none_at n f }
