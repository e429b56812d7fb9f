-- A pass goes over those who wait, in their order.
use Rattle.std.proofs.Common.{◌≡◌, Bool, true, false, ◌&&◌, nat_le, List, [], ◌∷◌, ◌++◌, inl, inr, refl, sym, ◌∙◌, subst, append_assoc}
use Rattle.std.proofs.lemmas.List.{append-nil}
use Rattle.seat_nesting.specs.Nesting.{Ladders, room}
use Rattle.seat_journal.specs.declared.entry.Advice.{Advice}
use Rattle.seat_rules.specs.Bookings.{held, is_waiting}
use Rattle.seat_rules.specs.Sequential.{advice_of, confirmed, may_confirm, pass}
use Rattle.seat_rules.specs.declared.booking.Booking.{Booking}
use Rattle.seat_lists.specs.Passing.{AreInOrder, waiting_of}

skip : (advices : List Advice) (b : Booking) (bookings : List Booking) → AreInOrder advices bookings
    → AreInOrder advices (b ∷ bookings)
skip [] b bookings is = tt
skip (a ∷ advices) b bookings is = inr is

first_true : (t u : Bool) → (t && u) ≡ true → t ≡ true
first_true true u h = refl
first_true false u h = cc

-- what a pass tells of these bookings, behind what it has told
pass_tells : (grid : Ladders) (done : List Booking) (told : List Advice) (bs : List Booking)
    → (more : List Advice) × ((pass grid done told bs).advices ≡ told ++ more) × AreInOrder more (waiting_of bs)
pass_tells grid done told [] = ([], sym (append-nil told), tt)
pass_tells grid done told (b ∷ bs) =
    cases (may_confirm grid (done ++ b ∷ bs) b) (is_waiting b.status) refl refl
    (pass_tells grid (done ++ confirmed b ∷ []) (told ++ advice_of b ∷ []) bs) (pass_tells grid (done ++ b ∷ []) told bs)
  where
    cases : (t u : Bool) → may_confirm grid (done ++ b ∷ bs) b ≡ t → is_waiting b.status ≡ u
        → (more : List Advice) × ((pass grid (done ++ confirmed b ∷ []) (told ++ advice_of b ∷ []) bs).advices ≡ (told ++ advice_of b ∷ []) ++ more) × AreInOrder more (waiting_of bs)
        → (more : List Advice) × ((pass grid (done ++ b ∷ []) told bs).advices ≡ told ++ more) × AreInOrder more (waiting_of bs)
        → (more : List Advice) × ((pass grid done told (b ∷ bs)).advices ≡ told ++ more) × AreInOrder more (waiting_of (b ∷ bs))
    cases true true e f r q = (advice_of b ∷ r.0, rw e (r.1 ∙ append_assoc told (advice_of b ∷ []) r.0), rw f (inl (refl, r.2)))
    cases true false e f r q =
        let waits : is_waiting b.status ≡ true = first_true (is_waiting b.status) (nat_le b.seats (room grid (held (done ++ b ∷ bs)) b.place b.class)) e in
        absurd cc
    cases false true e f r q = (q.0, rw e q.1, rw f (skip q.0 b (waiting_of bs) q.2))
    cases false false e f r q = (q.0, rw e q.1, rw f q.2)

pub passes_go_in_order : (grid : Ladders) (bookings : List Booking)
    → AreInOrder (pass grid [] [] bookings).advices (waiting_of bookings)
passes_go_in_order grid bookings =
    let r = pass_tells grid [] [] bookings in
    subst (λ (advices : List Advice). AreInOrder advices (waiting_of bookings)) (sym r.1) r.2
