-- Seats that stay within the limits in the end have room on the way, and those that wait have theirs.
use Rattle.std.proofs.Common.{◌≡◌, ◌≢◌, ◌==◌, ◌&&◌, ℕ, zero, suc, ◌+◌, ◌-◌, ◌≤◌, Bool, true, false, nat_le, [], ◌∷◌, arith, refl, ap}
use Rattle.std.proofs.lemmas.Bool.Decides.{nat_tests}
use Rattle.airline_base.specs.declared.place.Place.{Place}
use Rattle.seat_nesting.specs.Nesting.{Steps, Ladders, Table, IsWithin, each_leg, held_from, is_open_on, ladder_at, least, may_wait, may_wait_on, room, room_on}
use Rattle.seat_nesting.proofs.Rooms.{IsMore, held_cons, held_less, other_class, same_class}
use Rattle.seat_carrying.specs.Carrying.{sells, wait_of}

more_all : (new old : ℕ → ℕ) (class n : ℕ) → IsMore new old class n → (k : ℕ) → old k ≤ new k
more_all new old class n h k = cases (k == class) refl where
  cases : (t : Bool) → (k == class) ≡ t → old k ≤ new k
  cases true e = let is : k ≡ class = grind (arith, nat_tests) in omega (arith, h.here, ap new is, ap old is)
  cases false e = let is : k ≢ class = grind (arith, nat_tests) in omega (arith, h.others k is)

-- n seats more in a class that is there
held_grows : (steps : Steps) (new old : ℕ → ℕ) (class n : ℕ) → IsMore new old class n → is_open_on steps class ≡ true
    → held_from old steps + n ≤ held_from new steps
held_grows [] new old class n h there = absurd cc
held_grows (s ∷ lower) new old class n h there = cases (s.class == class) refl (held_grows lower new old class n h) where
  cases : (t : Bool) → (s.class == class) ≡ t
      → (is_open_on lower class ≡ true → held_from old lower + n ≤ held_from new lower)
      → held_from old (s ∷ lower) + n ≤ held_from new (s ∷ lower)
  cases true e rest =
      let is = same_class s class e in
      let less : held_from old lower ≤ held_from new lower = held_less lower old new (more_all new old class n h) in
      omega (arith, held_cons new s lower, held_cons old s lower, h.here, ap new is, ap old is, less)
  cases false e rest =
      let lower_open : is_open_on lower class ≡ true = rw e at there in
      omega (arith, held_cons new s lower, held_cons old s lower, h.others s.class (other_class s class e), rest lower_open)

-- there is room for them on a leg, where the limits have room with them
pub room_there : (steps : Steps) (new old : ℕ → ℕ) (class n : ℕ) → IsMore new old class n
    → is_open_on steps class ≡ true → IsWithin steps new → n ≤ room_on steps old class
room_there [] new old class n h there w = absurd cc
room_there (s ∷ lower) new old class n h there w =
    cases (s.class == class) s.closed refl refl (λ (o : is_open_on lower class ≡ true). room_there lower new old class n h o w.1)
  where
    cases : (t u : Bool) → (s.class == class) ≡ t → s.closed ≡ u
        → (is_open_on lower class ≡ true → n ≤ room_on lower old class) → n ≤ room_on (s ∷ lower) old class
    cases true true e g rest = let shut : false ≡ true = rw (e, g) at there in absurd cc
    cases true false e g rest =
        let grows = held_grows (s ∷ lower) new old class n h there in
        rw (e, g) (omega (arith, grows, w.0))
    cases false u e g rest =
        let grows = held_grows (s ∷ lower) new old class n h there in
        let lower_open : is_open_on lower class ≡ true = rw e at there in
        rw e (omega (arith, grows, w.0, rest lower_open))

-- so many may wait on a leg as its wait says
pub waits_there : (steps : Steps) (waits : ℕ → ℕ) (class n : ℕ) → is_open_on steps class ≡ true
    → waits class + n ≤ wait_of steps class → may_wait_on steps waits class n ≡ true
waits_there [] waits class n there le = absurd cc
waits_there (s ∷ lower) waits class n there le =
    cases (s.class == class) s.closed refl refl (waits_there lower waits class n)
  where
    cases : (t u : Bool) → (s.class == class) ≡ t → s.closed ≡ u
        → (is_open_on lower class ≡ true → waits class + n ≤ wait_of lower class → may_wait_on lower waits class n ≡ true)
        → may_wait_on (s ∷ lower) waits class n ≡ true
    cases true true e g rest = let shut : false ≡ true = rw (e, g) at there in absurd cc
    cases true false e g rest =
        let here : waits class + n ≤ s.wait = rw e at le in
        let fits : nat_le (waits class + n) s.wait ≡ true = grind (arith, nat_tests) in
        rw (e, g, fits) refl
    cases false u e g rest =
        let lower_open : is_open_on lower class ≡ true = rw e at there in
        let lower_le : waits class + n ≤ wait_of lower class = rw e at le in
        rw e (rest lower_open lower_le)

-- ---- leg by leg

both_parts : (a b : Bool) → (a && b) ≡ true → (a ≡ true) × (b ≡ true)
both_parts true true e = (refl, refl)
both_parts true false e = absurd cc
both_parts false b e = absurd cc

-- the least is enough where each is
least_there : (f : ℕ → ℕ) (p : ℕ → Bool) (n from k : ℕ) → ((i : ℕ) → from ≤ i → i ≤ from + k → p i ≡ true → n ≤ f i)
    → each_leg p from k ≡ true → n ≤ least f from k
least_there f p n from zero h e = h from (omega arith) (omega arith) e
least_there f p n from (suc k) h e =
    let both = both_parts (each_leg p from k) (p (from + suc k)) e in
    let before = least_there f p n from k (λ i a b. h i a (omega (arith, b))) both.0 in
    omega (arith, before, h (from + suc k) (omega arith) (omega arith) both.1)

each_there : (p q : ℕ → Bool) (from k : ℕ) → ((i : ℕ) → from ≤ i → i ≤ from + k → p i ≡ true → q i ≡ true)
    → each_leg p from k ≡ true → each_leg q from k ≡ true
each_there p q from zero h e = h from (omega arith) (omega arith) e
each_there p q from (suc k) h e =
    let both = both_parts (each_leg p from k) (p (from + suc k)) e in
    let before = each_there p q from k (λ i a b. h i a (omega (arith, b))) both.0 in
    let last = h (from + suc k) (omega arith) (omega arith) both.1 in
    rw (before, last) refl

-- on a whole place, where on each of its legs
pub room_enough : (grid : Ladders) (seats : Table) (p : Place) (class n : ℕ) → sells grid p class ≡ true
    → ((leg : ℕ) → p.from ≤ leg → leg ≤ p.to → is_open_on (ladder_at grid p.flight leg) class ≡ true
    → n ≤ room_on (ladder_at grid p.flight leg) (seats p.flight leg) class)
    → n ≤ room grid seats p class
room_enough grid seats p class n there each =
    let both = both_parts (nat_le p.from p.to) (each_leg (λ leg. is_open_on (ladder_at grid p.flight leg) class) p.from (p.to - p.from)) there in
    let le : p.from ≤ p.to = grind (arith, nat_tests, both.0) in
    rw both.0 (least_there (λ leg. room_on (ladder_at grid p.flight leg) (seats p.flight leg) class)
    (λ leg. is_open_on (ladder_at grid p.flight leg) class) n p.from (p.to - p.from)
    (λ i a b o. each i a (omega (arith, b, le)) o) both.1)

pub all_may_wait : (grid : Ladders) (waits : Table) (p : Place) (class n : ℕ) → sells grid p class ≡ true
    → ((leg : ℕ) → p.from ≤ leg → leg ≤ p.to
    → waits p.flight leg class + n ≤ wait_of (ladder_at grid p.flight leg) class)
    → may_wait grid waits p class n ≡ true
all_may_wait grid waits p class n there each =
    let both = both_parts (nat_le p.from p.to) (each_leg (λ leg. is_open_on (ladder_at grid p.flight leg) class) p.from (p.to - p.from)) there in
    let le : p.from ≤ p.to = grind (arith, nat_tests, both.0) in
    let legs = each_there (λ leg. is_open_on (ladder_at grid p.flight leg) class)
    (λ leg. may_wait_on (ladder_at grid p.flight leg) (waits p.flight leg) class n) p.from (p.to - p.from)
    (λ i a b o. waits_there (ladder_at grid p.flight i) (waits p.flight i) class n o (each i a (omega (arith, b, le)))) both.1 in
    rw (both.0, legs) refl
