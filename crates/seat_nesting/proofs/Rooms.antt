-- Held seats, room and limits of one leg, whatever the table of held seats.
use Rattle.std.proofs.Common.{◌≡◌, ◌≢◌, ◌==◌, ℕ, zero, suc, ◌+◌, ◌-◌, ◌<◌, ◌≤◌, min, Bool, true, false, cond, if◌then◌else◌, nat_le, List, [], ◌∷◌, length, drop, get_or, refl, ap, sym, subst, ◌∙◌, drop-cons, add-one, arith}
use Rattle.std.proofs.lemmas.Bool.Decides.{nat_tests}
use Rattle.std.proofs.lemmas.List.Sums.{sum_by-cons}
use Rattle.seat_nesting.specs.declared.ladder.Step.{Step}
use Rattle.airline_base.specs.declared.place.Place.{Place}
use Rattle.seat_nesting.specs.Nesting.{Steps, Ladders, Table, held_from, free, free_on, ladder_at, room, room_on, IsWithin, IsDistinct, LacksClass, least}

-- the highest rank and those below it
pub held_cons : (seats : ℕ → ℕ) (s : Step) (lower : Steps)
    → held_from seats (s ∷ lower) ≡ seats s.class + held_from seats lower
held_cons seats s lower = sum_by-cons (λ (t : Step). seats t.class) s lower

-- ---- two tables that agree

pub held_same : (steps : Steps) (new old : ℕ → ℕ) → ((k : ℕ) → new k ≡ old k)
    → held_from new steps ≡ held_from old steps
held_same [] new old h = refl
held_same (s ∷ lower) new old h = omega (arith, held_cons new s lower, held_cons old s lower, h s.class, held_same lower new old h)

pub room_same : (steps : Steps) (new old : ℕ → ℕ) (class : ℕ) → ((k : ℕ) → new k ≡ old k)
    → room_on steps new class ≡ room_on steps old class
room_same [] new old class h = refl
room_same (s ∷ lower) new old class h = rw (held_same (s ∷ lower) new old h, room_same lower new old class h) refl

pub free_same : (steps : Steps) (new old : ℕ → ℕ) (class : ℕ) → ((k : ℕ) → new k ≡ old k)
    → free_on steps new class ≡ free_on steps old class
free_same [] new old class h = refl
free_same (s ∷ lower) new old class h = rw (held_same (s ∷ lower) new old h, free_same lower new old class h) refl

pub within_same : (steps : Steps) (new old : ℕ → ℕ) → ((k : ℕ) → new k ≡ old k) → IsWithin steps old
    → IsWithin steps new
within_same [] new old h w = tt
within_same (s ∷ lower) new old h w = (omega (arith, held_same (s ∷ lower) new old h, w.0), within_same lower new old h w.1)

-- ---- fewer seats

pub held_less : (steps : Steps) (new old : ℕ → ℕ) → ((k : ℕ) → new k ≤ old k)
    → held_from new steps ≤ held_from old steps
held_less [] new old h = omega arith
held_less (s ∷ lower) new old h = omega (arith, held_cons new s lower, held_cons old s lower, h s.class, held_less lower new old h)

pub within_less : (steps : Steps) (new old : ℕ → ℕ) → ((k : ℕ) → new k ≤ old k) → IsWithin steps old
    → IsWithin steps new
within_less [] new old h w = tt
within_less (s ∷ lower) new old h w = (omega (arith, held_less (s ∷ lower) new old h, w.0), within_less lower new old h w.1)

-- ---- no seats

pub held_none : (steps : Steps) (seats : ℕ → ℕ) → ((k : ℕ) → seats k ≡ 0) → held_from seats steps ≡ 0
held_none [] seats h = refl
held_none (s ∷ lower) seats h = omega (arith, held_cons seats s lower, h s.class, held_none lower seats h)

pub within_none : (steps : Steps) (seats : ℕ → ℕ) → ((k : ℕ) → seats k ≡ 0) → IsWithin steps seats
within_none [] seats h = tt
within_none (s ∷ lower) seats h = (omega (arith, held_none (s ∷ lower) seats h), within_none lower seats h)

-- ---- n more seats in one class

pub record IsMore (new old : ℕ → ℕ) (class n : ℕ) : Type 0 where
  pub here : new class ≡ old class + n
  pub others : (k : ℕ) → k ≢ class → new k ≡ old k

held_lacking : (steps : Steps) (new old : ℕ → ℕ) (class n : ℕ) → IsMore new old class n → LacksClass class steps
    → held_from new steps ≡ held_from old steps
held_lacking [] new old class n h l = refl
held_lacking (s ∷ lower) new old class n h l =
    omega (arith, held_cons new s lower, held_cons old s lower, h.others s.class (λ e. l.0 (sym e)), held_lacking lower new old class n h l.1)

within_lacking : (steps : Steps) (new old : ℕ → ℕ) (class n : ℕ) → IsMore new old class n → LacksClass class steps
    → IsWithin steps old → IsWithin steps new
within_lacking [] new old class n h l w = tt
within_lacking (s ∷ lower) new old class n h l w =
    (omega (arith, held_lacking (s ∷ lower) new old class n h l, w.0), within_lacking lower new old class n h l.1 w.1)

pub same_class : (s : Step) (class : ℕ) → (s.class == class) ≡ true → s.class ≡ class
same_class s class e = grind (arith, nat_tests)

pub other_class : (s : Step) (class : ℕ) → (s.class == class) ≡ false → s.class ≢ class
other_class s class e = grind (arith, nat_tests)

held_more : (steps : Steps) (new old : ℕ → ℕ) (class n : ℕ) → IsMore new old class n → IsDistinct steps
    → held_from new steps ≤ held_from old steps + n
held_more [] new old class n h d = omega arith
held_more (s ∷ lower) new old class n h d = cases (s.class == class) refl (held_more lower new old class n h d.1)
  where
    cases : (b : Bool) → (s.class == class) ≡ b → held_from new lower ≤ held_from old lower + n
        → held_from new (s ∷ lower) ≤ held_from old (s ∷ lower) + n
    cases true e _ =
        let is = same_class s class e in
        let rest = held_lacking lower new old s.class n (let P : ℕ → Type 0 = λ k. IsMore new old k n in subst P (sym is) h) d.0 in
        omega (arith, held_cons new s lower, held_cons old s lower, ap new is, ap old is, h.here, rest)
    cases false e below = omega (arith, held_cons new s lower, held_cons old s lower, h.others s.class (other_class s class e), below)

-- seats that the limits leave stay within them
pub within_more : (steps : Steps) (new old : ℕ → ℕ) (class n : ℕ) → IsMore new old class n → IsDistinct steps
    → n ≤ free_on steps old class → IsWithin steps old → IsWithin steps new
within_more [] new old class n h d r w = tt
within_more (s ∷ lower) new old class n h d r w = cases (s.class == class) refl (λ (r' : n ≤ free_on lower old class). within_more lower new old class n h d.1 r' w.1)
  where
    cases : (b : Bool) → (s.class == class) ≡ b → (n ≤ free_on lower old class → IsWithin lower new)
        → IsWithin (s ∷ lower) new
    cases true e _ =
        let is = same_class s class e in
        let here : n ≤ s.limit - held_from old (s ∷ lower) = rw e at r in
        let lacks : LacksClass class lower = let P : ℕ → Type 0 = λ k. LacksClass k lower in subst P is d.0 in
        (omega (arith, held_more (s ∷ lower) new old class n h d, here, w.0), within_lacking lower new old class n h lacks w.1)
    cases false e below =
        let both : n ≤ min (s.limit - held_from old (s ∷ lower)) (free_on lower old class) = rw e at r in
        (omega (arith, held_more (s ∷ lower) new old class n h d, both, w.0), below (omega (arith, both)))

-- ---- from a rank on

-- the list from i on, by its first element
pub drop_first : {X : Type 0} (xs : List X) (i j : ℕ) (x : X) → j ≡ i + 1 → i < length xs → x ≡ get_or xs i x
    → drop i xs ≡ x ∷ drop j xs
drop_first xs i j x e h is = rw (e, add-one) (drop-cons xs i x h ∙ ap (λ y. y ∷ drop (suc i) xs) (sym is))

pub held_from_rank : (steps : Steps) (i j : ℕ) (x : Step) (seats : ℕ → ℕ) → j ≡ i + 1 → i < length steps
    → x ≡ get_or steps i x
    → held_from seats (drop i steps) ≡ held_from seats (drop j steps) + seats x.class
held_from_rank steps i j x seats e h is = rw (drop_first steps i j x e h is) (let k = held_cons seats x (drop j steps) in omega (arith, k))

-- the room down to a class, where the highest rank is not the class
pub room_above : (steps : Steps) (i j : ℕ) (x : Step) (seats : ℕ → ℕ) (class : ℕ) → j ≡ i + 1 → i < length steps
    → x ≡ get_or steps i x → false ≡ (x.class == class)
    → room_on (drop i steps) seats class
    ≡ min (x.limit - held_from seats (drop i steps)) (room_on (drop j steps) seats class)
room_above steps i j x seats class e h is other = rw (drop_first steps i j x e h is, ← other) refl

-- and where it is: nothing where the class is closed
pub room_here : (steps : Steps) (i j : ℕ) (x : Step) (seats : ℕ → ℕ) (class : ℕ) → j ≡ i + 1 → i < length steps
    → x ≡ get_or steps i x → true ≡ (x.class == class)
    → room_on (drop i steps) seats class ≡ (if x.closed then 0 else x.limit - held_from seats (drop i steps))
room_here steps i j x seats class e h is same = rw (drop_first steps i j x e h is, ← same) refl

pub within_rank : (steps : Steps) (seats : ℕ → ℕ) (i : ℕ) (d : Step) → IsWithin steps seats → i < length steps
    → held_from seats (drop i steps) ≤ (get_or steps i d).limit
within_rank [] seats i d w h = absurd (omega arith)
within_rank (s ∷ lower) seats zero d w h = w.0
within_rank (s ∷ lower) seats (suc i) d w h = within_rank lower seats i d w.1 (omega arith)

-- ---- legs one after the other

pub least_next : (f : ℕ → ℕ) (from leg : ℕ) → from ≤ leg
    → least f from (leg + 1 - from) ≡ min (least f from (leg - from)) (f (leg + 1))
least_next f from leg le =
    let one : leg + 1 - from ≡ suc (leg - from) = omega arith in
    let last : from + suc (leg - from) ≡ leg + 1 = omega arith in
    rw one (ap (λ k. min (least f from (leg - from)) (f k)) last)

-- the least is at most each
pub least_le : (f : ℕ → ℕ) (from n leg : ℕ) → from ≤ leg → leg ≤ from + n → least f from n ≤ f leg
least_le f from zero leg a b = let e : leg ≡ from = omega arith in omega (arith, ap f e)
least_le f from (suc n) leg a b = cases (leg == from + suc n) refl (λ (le : leg ≤ from + n). least_le f from n leg a le)
  where
    cases : (t : Bool) → (leg == from + suc n) ≡ t → (leg ≤ from + n → least f from n ≤ f leg)
        → least f from (suc n) ≤ f leg
    cases true e _ = let is : leg ≡ from + suc n = grind (arith, nat_tests) in omega (arith, ap f is)
    cases false e below = let le : leg ≤ from + n = grind (arith, nat_tests) in omega (arith, below le)

-- ---- the room is at most what the limits leave

pub room_free_on : (steps : Steps) (seats : ℕ → ℕ) (class : ℕ) → room_on steps seats class ≤ free_on steps seats class
room_free_on [] seats class = omega arith
room_free_on (s ∷ lower) seats class = of (s.class == class) s.closed (s.limit - held_from seats (s ∷ lower)) (room_free_on lower seats class)
  where
    of : (b c : Bool) (here : ℕ) → room_on lower seats class ≤ free_on lower seats class
        → cond b (cond c 0 here) (min here (room_on lower seats class)) ≤ cond b here (min here (free_on lower seats class))
    of true true here h = omega arith
    of true false here h = omega arith
    of false c here h = omega (arith, h)

least_most : (f g : ℕ → ℕ) (from n : ℕ) → ((i : ℕ) → f i ≤ g i) → least f from n ≤ least g from n
least_most f g from zero h = h from
least_most f g from (suc n) h = omega (arith, least_most f g from n h, h (from + suc n))

pub room_free : (grid : Ladders) (seats : Table) (place : Place) (class : ℕ)
    → room grid seats place class ≤ free grid seats place class
room_free grid seats place class = of (nat_le place.from place.to)
  where
    of : (b : Bool)
        → cond b (least (λ leg. room_on (ladder_at grid place.flight leg) (seats place.flight leg) class) place.from
        (place.to - place.from)) 0
        ≤ cond b (least (λ leg. free_on (ladder_at grid place.flight leg) (seats place.flight leg) class) place.from
        (place.to - place.from)) 0
    of true = least_most (λ leg. room_on (ladder_at grid place.flight leg) (seats place.flight leg) class) (λ leg. free_on (ladder_at grid place.flight leg) (seats place.flight leg) class) place.from (place.to - place.from) (λ leg. room_free_on (ladder_at grid place.flight leg) (seats place.flight leg) class)
    of false = omega arith

-- seats that fit the room fit what the limits leave
pub fits_free : (grid : Ladders) (seats : Table) (place : Place) (class n : ℕ) → n ≤ room grid seats place class
    → n ≤ free grid seats place class
fits_free grid seats place class n h = omega (arith, h, room_free grid seats place class)
