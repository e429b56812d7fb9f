-- A pass over the bookings that fit: those between are passed over.
use Rattle.std.proofs.Common.{◌≡◌, ◌&&◌, ℕ, zero, suc, ◌+◌, ◌<◌, ◌≤◌, Bool, true, false, List, [], ◌∷◌, ◌++◌, length, drop, get_or, position, Option, Some, None, arith, refl, ap, sym, subst, ◌∙◌}
use Rattle.std.proofs.lemmas.List.{append-nil, drop-drop, drop_all, length-drop}
use Rattle.std.proofs.lemmas.List.Quantifiers.{position-Some}
use Rattle.seat_nesting.specs.Nesting.{Ladders, Table}
use Rattle.seat_journal.specs.declared.entry.Advice.{Advice}
use Rattle.seat_rules.specs.declared.booking.Booking.{Booking}
use Rattle.seat_rules.specs.Bookings.{is_waiting}
use Rattle.std.specs.List.{AllByRecursion}
use Rattle.seat_rules.specs.Showing.{shown_advices, taken_back}
use Rattle.seat_rules.specs.Tables.{advices_by, told_of}
use Rattle.seat_rules.proofs.Step.Reduced.{IsFirst}
use Rattle.seat_rules.proofs.Step.Effect.{absent}
use Rattle.seat_bookings.specs.Queues.{fits, next_fit}
use Rattle.seat_core.proofs.Passes.Undone.{back_next, told_next}

-- a booking that does not fit is told nothing
over_one : (grid : Ladders) (t : Table) (b : Booking) (bs : List Booking) → fits grid t b ≡ false
    → advices_by grid t (b ∷ bs) ≡ advices_by grid t bs
over_one grid t b bs e = cases (is_waiting b.status) refl where
  cases : (w : Bool) → is_waiting b.status ≡ w → advices_by grid t (b ∷ bs) ≡ advices_by grid t bs
  cases true f = rw (f, e) refl
  cases false f = rw f refl

over_all : (grid : Ladders) (t : Table) (xs : List Booking) → AllByRecursion (λ b. fits grid t b ≡ false) xs
    → advices_by grid t xs ≡ []
over_all grid t [] a = refl
over_all grid t (b ∷ bs) a = over_one grid t b bs a.0 ∙ over_all grid t bs a.1

over_first : (grid : Ladders) (t : Table) (xs : List Booking) (k : ℕ) (d : Booking) → IsFirst (fits grid t) xs k d
    → advices_by grid t xs ≡ advices_by grid t (drop k xs)
over_first grid t [] k d first = absurd (omega (arith, first.0))
over_first grid t (b ∷ bs) zero d first = refl
over_first grid t (b ∷ bs) (suc k) d first =
    over_one grid t b bs (first.2 zero (omega arith))
    ∙ over_first grid t bs k d (omega (arith, first.0), first.1, λ j lt. first.2 (suc j) (omega (arith, lt)))

-- where the next that fits stands
pub found_inside : (grid : Ladders) (t : Table) (queue : List Booking) (from k : ℕ)
    → Some k ≡ next_fit grid t queue from → from + k < length queue
found_inside grid t queue from k found = omega (arith, length-drop from queue, within (drop from queue) found) where
  within : (xs : List Booking) → Some k ≡ position (fits grid t) xs → k < length xs
  within [] e = absurd cc
  within (x ∷ xs) e = (position-Some (fits grid t) (x ∷ xs) k x (sym e)).0

-- the pass from there is the pass from here
pub told_behind : (grid : Ladders) (t u : Table) (old new : List Advice) (queue : List Booking) (from k i j : ℕ)
    (b : Booking) → Some k ≡ next_fit grid t queue from → i ≡ from + k → j ≡ i + 1 → b ≡ get_or queue i b
    → new ≡ old ++ told_of grid t b → u ≡ shown_advices grid t (told_of grid t b)
    → new ++ advices_by grid u (drop j queue) ≡ old ++ advices_by grid t (drop from queue)
told_behind grid t u old new queue from k i j b found at next is tells shows =
    let inside : i < length queue = omega (arith, at, found_inside grid t queue from k found) in
    let first = position-Some (fits grid t) (drop from queue) k b (sym found) in
    let skip : advices_by grid t (drop from queue) ≡ advices_by grid t (drop i queue) =
    over_first grid t (drop from queue) k b first
    ∙ (ap (advices_by grid t) (drop-drop k from queue) ∙ ap (λ (n : ℕ). advices_by grid t (drop n queue)) (sym at)) in
    ap (λ (x : List Advice). x ++ advices_by grid u (drop j queue)) tells
    ∙ (told_next grid t u old (told_of grid t b) queue i j b next inside is refl shows
    ∙ ap (λ (x : List Advice). old ++ x) (sym skip))

-- where none fits the pass is at its end
pub none_behind : (grid : Ladders) (t : Table) (old : List Advice) (queue : List Booking) (from n : ℕ)
    → None ≡ next_fit grid t queue from → n ≡ length queue
    → old ++ advices_by grid t (drop n queue) ≡ old ++ advices_by grid t (drop from queue)
none_behind grid t old queue from n none end =
    ap (λ (x : List Advice). old ++ x)
    (ap (advices_by grid t) (drop_all n queue (omega (arith, end)))
    ∙ sym (over_all grid t (drop from queue) (absent (fits grid t) (drop from queue) (sym none))))

-- what it took is given back as before
pub back_behind : (grid : Ladders) (t u : Table) (old new : List Advice) (b : Booking) → new ≡ old ++ told_of grid t b
    → u ≡ shown_advices grid t (told_of grid t b) → taken_back grid u new ≡ taken_back grid t old
back_behind grid t u old new b tells shows =
    ap (taken_back grid u) tells ∙ back_next grid (taken_back grid t old) t u old b refl shows

-- at its end nothing is left to tell
pub ended : (grid : Ladders) (t : Table) (told : List Advice) (queue : List Booking) (n : ℕ) → length queue ≤ n
    → told ++ advices_by grid t (drop n queue) ≡ told
ended grid t told queue n le = ap (λ (xs : List Booking). told ++ advices_by grid t xs) (drop_all n queue le) ∙ append-nil told

-- ---- from one step of a pass to the next, under the same limits
pub told_on : (g h : Ladders) (t u : Table) (old new all : List Advice) (xs ys : List Booking) → g ≡ h
    → new ++ advices_by g u ys ≡ old ++ advices_by g t xs → old ++ advices_by h t xs ≡ all
    → new ++ advices_by h u ys ≡ all
told_on g h t u old new all xs ys same step before =
    let P : Ladders → Type 0 = λ l. new ++ advices_by l u ys ≡ old ++ advices_by l t xs in
    subst P same step ∙ before

pub back_on : (g h : Ladders) (t u base : Table) (old new : List Advice) → g ≡ h
    → taken_back g u new ≡ taken_back g t old → taken_back h t old ≡ base → taken_back h u new ≡ base
back_on g h t u base old new same step before =
    let P : Ladders → Type 0 = λ l. taken_back l u new ≡ taken_back l t old in
    subst P same step ∙ before
