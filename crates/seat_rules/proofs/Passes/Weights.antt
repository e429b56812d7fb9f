-- Sums over bookings, after a pass and after a cancellation.
use Rattle.std.proofs.Common.{◌≡◌, ℕ, ◌+◌, ◌-◌, ◌≤◌, ◌&&◌, Bool, true, false, nat_le, List, [], ◌∷◌, ◌++◌, Some, find, cond, arith, refl, ap, sym, subst, ◌∙◌, append_assoc}
use Rattle.seat_rules.proofs.Common.{sum_by, Ladders, room, Booking, Advice, is_waiting, held, pass, reduced, confirmed, may_confirm, advice_of}
use Rattle.std.proofs.lemmas.List.{append-nil}
use Rattle.std.proofs.lemmas.List.Sums.{sum_by-cons, sum_by-append, sum_by_push}
use Rattle.std.proofs.lemmas.Bool.Decides.{nat_tests}

waits : (t u : Bool) → (t && u) ≡ true → t ≡ true
waits true u e = refl
waits false u e = absurd cc

pub sum_in : (w : Booking → ℕ) (done : List Booking) (b : Booking) (bs : List Booking)
    → sum_by w (done ++ b ∷ bs) ≡ sum_by w done + (w b + sum_by w bs)
sum_in w done b bs = sum_by-append w done (b ∷ bs) ∙ ap (λ x. sum_by w done + x) (sum_by-cons w b bs)

-- a waiting booking weighs nothing, and a confirmed one what its advice does: a pass adds the weight of its advices
pub pass_weighs : (w : Booking → ℕ) (v : Advice → ℕ)
    → ((b : Booking) → is_waiting b.status ≡ true → w b ≡ 0) → ((b : Booking) → w (confirmed b) ≡ v (advice_of b))
    → (grid : Ladders) (done bs : List Booking) (told : List Advice)
    → sum_by w (pass grid done told bs).bookings + sum_by v told ≡ sum_by w (done ++ bs)
    + sum_by v (pass grid done told bs).advices
pass_weighs w v light heavy grid done [] told = rw (append-nil done) refl
pass_weighs w v light heavy grid done (b ∷ bs) told =
    cases (may_confirm grid (done ++ b ∷ bs) b) refl (λ (x : Booking) (t : List Advice). pass_weighs w v light heavy grid (done ++ x ∷ []) bs t)
  where
    cases : (t : Bool) → may_confirm grid (done ++ b ∷ bs) b ≡ t
        → ((x : Booking) (t : List Advice) → sum_by w (pass grid (done ++ x ∷ []) t bs).bookings + sum_by v t
        ≡ sum_by w ((done ++ x ∷ []) ++ bs) + sum_by v (pass grid (done ++ x ∷ []) t bs).advices)
        → sum_by w (pass grid done told (b ∷ bs)).bookings + sum_by v told ≡ sum_by w (done ++ b ∷ bs)
        + sum_by v (pass grid done told (b ∷ bs)).advices
    cases true e rest =
        let none = light b (waits (is_waiting b.status) (nat_le b.seats (room grid (held (done ++ b ∷ bs)) b.place b.class)) e) in
        rw e (omega (
          arith,
          rest (confirmed b) (told ++ advice_of b ∷ []),
          ap (sum_by w) (append_assoc done (confirmed b ∷ []) bs),
          sum_in w done (confirmed b) bs,
          sum_in w done b bs,
          none,
          heavy b,
          sum_by_push v told (advice_of b),
        ))
    cases false e rest =
        rw e (omega (arith, rest b told, ap (sum_by w) (append_assoc done (b ∷ []) bs)))

-- a booking that loses n seats loses the weight r
pub reduced_weighs : (w r : Booking → ℕ) (test : Booking → Bool) (n : ℕ)
    → ((b : Booking) → n ≤ b.seats → w (record b { seats = b.seats - n }) + r b ≡ w b)
    → ((b : Booking) → n ≡ b.seats → r b ≡ w b)
    → (xs : List Booking) (b : Booking) → find test xs ≡ Some b → n ≤ b.seats
    → sum_by w (reduced test n xs) + r b ≡ sum_by w xs
reduced_weighs w r test n part all [] b found le = absurd cc
reduced_weighs w r test n part all (x ∷ xs) b found le = cases (test x) refl found (λ (f : find test xs ≡ Some b). reduced_weighs w r test n part all xs b f le) where
  here : (u : Bool) → test x ≡ true → nat_le x.seats n ≡ u → n ≤ x.seats
      → sum_by w (reduced test n (x ∷ xs)) + r x ≡ sum_by w (x ∷ xs)
  here true e g le' =
      let same : n ≡ x.seats = grind (arith, nat_tests) in
      rw (e, g) (omega (arith, sum_by-cons w x xs, all x same))
  here false e g le' =
      rw (e, g) (omega (arith, sum_by-cons w x xs, sum_by-cons w (record x { seats = x.seats - n }) xs, part x le'))

  cases : (t : Bool) → test x ≡ t → cond t (Some x) (find test xs) ≡ Some b
      → (find test xs ≡ Some b → sum_by w (reduced test n xs) + r b ≡ sum_by w xs)
      → sum_by w (reduced test n (x ∷ xs)) + r b ≡ sum_by w (x ∷ xs)
  cases true e f rest =
      let same : x ≡ b = cc in
      let P : Booking → Type 0 = λ y. sum_by w (reduced test n (x ∷ xs)) + r y ≡ sum_by w (x ∷ xs) in
      subst P same (here (nat_le x.seats n) e refl (let Q : Booking → Type 0 = λ y. n ≤ y.seats in subst Q (sym same) le))
  cases false e f rest = rw e (omega (arith, rest f, sum_by-cons w x xs, sum_by-cons w x (reduced test n xs)))

-- what is found passes the test
pub found_passes : (test : Booking → Bool) (xs : List Booking) (b : Booking) → find test xs ≡ Some b → test b ≡ true
found_passes test [] b found = absurd cc
found_passes test (x ∷ xs) b found = cases (test x) refl found (found_passes test xs b) where
  cases : (t : Bool) → test x ≡ t → cond t (Some x) (find test xs) ≡ Some b → (find test xs ≡ Some b → test b ≡ true)
      → test b ≡ true
  cases true e f rest = let same : x ≡ b = cc in let P : Booking → Type 0 = λ y. test y ≡ true in subst P same e
  cases false e f rest = rest f
