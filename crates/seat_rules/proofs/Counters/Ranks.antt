-- Held by classes is held by bookings.
use Rattle.std.proofs.Common.{◌≡◌, ◌≢◌, ◌==◌, ◌&&◌, ◌||◌, ℕ, zero, suc, ◌+◌, Bool, true, false, List, [], ◌∷◌, drop, if◌then◌else◌, arith, refl, sym, ◌∙◌}
use Rattle.seat_rules.proofs.Common.{sum_by, Step, Steps, held_from, ladder_at, covers, Booking, is_held, seats_on, held}
use Rattle.std.proofs.lemmas.List.Sums.{sum_by-cons}
use Rattle.std.proofs.lemmas.Bool.Decides.{nat_tests}
use Rattle.seat_nesting.specs.Nesting.{IsDistinct, LacksClass, has_class}
use Rattle.seat_rules.specs.Bookings.{seats_among}
use Rattle.seat_rules.specs.Laws.{HeldByRankIsHeldByBookings}

sum_both : (f g h : Booking → ℕ) (xs : List Booking) → ((b : Booking) → f b ≡ g b + h b)
    → sum_by f xs ≡ sum_by g xs + sum_by h xs
sum_both f g h [] e = refl
sum_both f g h (b ∷ bs) e = omega (arith, sum_by-cons f b bs, sum_by-cons g b bs, sum_by-cons h b bs, e b, sum_both f g h bs e)

sum_none : (f : Booking → ℕ) (xs : List Booking) → ((b : Booking) → f b ≡ 0) → sum_by f xs ≡ 0
sum_none f [] e = refl
sum_none f (b ∷ bs) e = omega (arith, sum_by-cons f b bs, e b, sum_none f bs e)

lacks_class : (steps : Steps) (class other : ℕ) → class ≡ other → LacksClass other steps → has_class steps class ≡ false
lacks_class [] class other e l = refl
lacks_class (s ∷ lower) class other e l =
    let apart : class ≢ s.class = λ same. l.0 (sym e ∙ same) in
    let differs : (class == s.class) ≡ false = grind (arith, nat_tests) in
    rw (differs, lacks_class lower class other e l.1) refl

none_among : (flight leg : ℕ) (b : Booking) → seats_among [] flight leg b ≡ 0
none_among flight leg b = cases (is_held b.status) (covers flight leg b.place) where
  cases : (t u : Bool) → (if (t && u) && false then b.seats else 0) ≡ 0
  cases true true = refl
  cases true false = refl
  cases false u = refl

-- one rank more
one_rank : (s : Step) (lower : Steps) (flight leg : ℕ) (b : Booking) → LacksClass s.class lower
    → seats_among (s ∷ lower) flight leg b ≡ seats_on flight leg s.class b + seats_among lower flight leg b
one_rank s lower flight leg b l = cases (is_held b.status) (covers flight leg b.place) (b.class == s.class) (has_class lower b.class) refl refl where
  here : (b.class == s.class) ≡ true → has_class lower b.class ≡ false
  here e = let same : b.class ≡ s.class = grind (arith, nat_tests) in lacks_class lower b.class s.class same l

  cases : (t u v w : Bool) → (b.class == s.class) ≡ v → has_class lower b.class ≡ w
      → (if (t && u) && (v || w) then b.seats else 0) ≡ (if t then (if u && v then b.seats else 0) else 0)
      + (if (t && u) && w then b.seats else 0)
  cases true true true true e f = absurd (cc (here e))
  cases true true true false e f = omega arith
  cases true true false true e f = omega arith
  cases true true false false e f = omega arith
  cases true false v w e f = omega arith
  cases false u v w e f = omega arith

held_is : (bookings : List Booking) (flight leg : ℕ) (lower : Steps) → IsDistinct lower
    → held_from (held bookings flight leg) lower ≡ sum_by (seats_among lower flight leg) bookings
held_is bookings flight leg [] d = sym (sum_none (seats_among [] flight leg) bookings (none_among flight leg))
held_is bookings flight leg (s ∷ lower) d =
    omega (
      arith,
      sum_by-cons (λ (t : Step). held bookings flight leg t.class) s lower,
      held_is bookings flight leg lower d.1,
      sum_both (seats_among (s ∷ lower) flight leg) (seats_on flight leg s.class) (seats_among lower flight leg) bookings (λ b. one_rank s lower flight leg b d.0),
    )

distinct_drop : (i : ℕ) (steps : Steps) → IsDistinct steps → IsDistinct (drop i steps)
distinct_drop zero steps d = d
distinct_drop (suc i) [] d = tt
distinct_drop (suc i) (s ∷ lower) d = distinct_drop i lower d.1

pub held_by_rank : HeldByRankIsHeldByBookings
held_by_rank grid bookings flight leg rank ladders = held_is bookings flight leg (drop rank (ladder_at grid flight leg)) (distinct_drop rank (ladder_at grid flight leg) (ladders flight leg))
