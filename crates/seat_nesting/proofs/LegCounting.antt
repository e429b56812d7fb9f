-- The counters of one leg.
use Rattle.std.proofs.Common.{◌≡◌, ◌≢◌, ◌==◌, ℕ, zero, suc, ◌+◌, ◌-◌, ◌<◌, ◌≤◌, Bool, true, false, if◌then◌else◌, cond, ◌||◌, not, nat_lt, List, [], ◌∷◌, length, drop, get_or, set, Option, Some, None, refl, ap, sym, subst, ◌∙◌, arith}
use Rattle.std.specs.Prelude.{IfSome, IfNone, is_some}
use Rattle.std.specs.List.{AllByRecursion, list_all, list_any, position, position_or_len}
use Rattle.std.proofs.lemmas.Bool.{eqb-true, eqb-false, eq-eqb, ne_eqb, and_parts, or_parts}
use Rattle.std.proofs.lemmas.List.{drop_all, length-set}
use Rattle.std.proofs.lemmas.List.Quantifiers.{position-Some}
use Rattle.std.proofs.lemmas.Bool.Decides.{nat_tests}
use Rattle.seat_nesting.specs.declared.ladder.Step.{Step}
use Rattle.seat_nesting.specs.Nesting.{ByClass, Steps, held_from, free_on, room_on, has_class, IsDistinct, IsLegLadder, LacksClass}
use Rattle.seat_nesting.specs.Counting.{LegSeats, leg_of, count_at, held_on, KeepsLimits, IsFresh, IsRank, LegChanges, plus, less}
use Rattle.seat_nesting.proofs.Rooms.{held_from_rank, within_rank, within_none, within_less, within_more, IsMore}

-- ---- ladders

-- ---- no seats

pub count_none : (steps : Steps) (held : List ℕ) (k : ℕ) → list_all (λ n. n == 0) held ≡ true
    → count_at steps held k ≡ 0
count_none [] held k h = refl
count_none (s ∷ lower) [] k h = refl
count_none (s ∷ lower) (n ∷ more) k h =
    let p = and_parts (n == 0) (list_all (λ m. m == 0) more) h in
    of (k == s.class) (eqb-true n 0 p.0) (count_none lower more k p.1)
  where
    of : (b : Bool) → n ≡ 0 → count_at lower more k ≡ 0 → cond b n (count_at lower more k) ≡ 0
    of true here rest = here
    of false here rest = rest

pub is_fresh : (leg : LegSeats) → KeepsLimits leg → ((k : ℕ) → held_on leg k ≡ 0) → IsFresh leg
is_fresh leg kept none = record { kept = kept; none = none }

pub kept_none : (steps : Steps) (held : List ℕ) → IsLegLadder steps → length steps ≤ length held
    → list_all (λ n. n == 0) held ≡ true → KeepsLimits (record { steps = steps; held = held })
kept_none steps held ladder all h = record { ladder = ladder; counted = all; within = within_none steps (count_at steps held) (λ k. count_none steps held k h) }

-- ---- a class and its rank

-- whether a class stands in the steps is whether it has a rank
any_place : {X : Type 0} (p : X → Bool) (xs : List X) → list_any p xs ≡ nat_lt (position_or_len p xs) (length xs)
any_place p [] = refl
any_place p (x ∷ xs) = of (p x) (any_place p xs)
  where
    of : (b : Bool) → list_any p xs ≡ nat_lt (position_or_len p xs) (length xs)
        → (b || list_any p xs) ≡ nat_lt (cond (not b) (1 + position_or_len p xs) 0) (suc (length xs))
    of true h = grind (arith, nat_tests)
    of false h = h ∙ grind (arith, nat_tests)

pub no_rank : (steps : Steps) (class : ℕ) → position (λ s. class == s.class) steps ≡ None
    → has_class steps class ≡ false
no_rank steps class h = any_place (λ s. class == s.class) steps ∙ of (nat_lt (position_or_len (λ s. class == s.class) steps) (length steps)) h
  where
    of : (b : Bool) → cond b (Some (position_or_len (λ s. class == s.class) steps)) None ≡ None → b ≡ false
    of true e = absurd cc
    of false e = refl

pub is_rank : (steps : Steps) (class rank : ℕ) → position (λ s. class == s.class) steps ≡ Some rank
    → IsRank steps class rank
is_rank steps class rank h = record {
  inside = (position-Some (λ (s : Step). class == s.class) steps rank (record { class = 0; limit = 0; wait = 0; listed = false; closed = false }) h).0;
  class_is = λ d. sym (eqb-true class (get_or steps rank d).class (position-Some (λ (s : Step). class == s.class) steps rank d h).1);
  there = any_place (λ s. class == s.class) steps ∙ of (nat_lt (position_or_len (λ s. class == s.class) steps) (length steps)) h;
}
  where
    of : (b : Bool) → cond b (Some (position_or_len (λ s. class == s.class) steps)) None ≡ Some rank → b ≡ true
    of true e = refl
    of false e = absurd cc

pub lacks_at : (class : ℕ) (lower : Steps) (i : ℕ) (d : Step) → LacksClass class lower → i < length lower
    → class ≢ (get_or lower i d).class
lacks_at class [] i d h lt = absurd (omega arith)
lacks_at class (t ∷ lower) zero d h lt = h.0
lacks_at class (t ∷ lower) (suc i) d h lt = lacks_at class lower i d h.1 (omega arith)

pub count_rank : (steps : Steps) (held : List ℕ) (i : ℕ) (d : Step) → IsDistinct steps → i < length steps
    → i < length held → count_at steps held (get_or steps i d).class ≡ get_or held i 0
count_rank [] held i d distinct a b = absurd (omega arith)
count_rank (s ∷ lower) [] i d distinct a b = absurd (omega arith)
count_rank (s ∷ lower) (n ∷ more) zero d distinct a b = let same : (s.class == s.class) ≡ true = eq-eqb s.class s.class refl in rw same refl
count_rank (s ∷ lower) (n ∷ more) (suc i) d distinct a b =
    let other : ((get_or lower i d).class == s.class) ≡ false = ne_eqb (get_or lower i d).class s.class (λ e. lacks_at s.class lower i d distinct.0 (omega arith) (sym e)) in
    rw other (count_rank lower more i d distinct.1 (omega arith) (omega arith))

-- a number at a rank is that of its class
pub count_set : (steps : Steps) (held : List ℕ) (i x k : ℕ) (d : Step) → IsDistinct steps → i < length steps
    → i < length held
    → count_at steps (set held i x) k ≡ (if k == (get_or steps i d).class then x else count_at steps held k)
count_set [] held i x k d distinct a b = absurd (omega arith)
count_set (s ∷ lower) [] i x k d distinct a b = absurd (omega arith)
count_set (s ∷ lower) (n ∷ more) zero x k d distinct a b = of (k == s.class)
  where
    of : (t : Bool) → cond t x (count_at lower more k) ≡ cond t x (cond t n (count_at lower more k))
    of true = refl
    of false = refl
count_set (s ∷ lower) (n ∷ more) (suc i) x k d distinct a b =
    of (k == s.class) (k == (get_or lower i d).class) refl refl (count_set lower more i x k d distinct.1 (omega arith) (omega arith))
  where
    of : (t u : Bool) → (k == s.class) ≡ t → (k == (get_or lower i d).class) ≡ u
        → count_at lower (set more i x) k ≡ cond u x (count_at lower more k)
        → cond t n (count_at lower (set more i x) k) ≡ cond u x (cond t n (count_at lower more k))
    of true true e f h = absurd (lacks_at s.class lower i d distinct.0 (omega arith) (sym (eqb-true k s.class e) ∙ eqb-true k (get_or lower i d).class f))
    of true false e f h = refl
    of false u e f h = h

-- ---- taking and giving

count_more : (b : Bool) (old x n k class : ℕ) → (k == class) ≡ b → (b ≡ true → x ≡ old + n)
    → cond b x old ≡ old + cond (class == k) n 0
count_more true old x n k class e h = let same : (class == k) ≡ true = eq-eqb class k (sym (eqb-true k class e)) in rw (same, h refl) refl
count_more false old x n k class e h = let other : (class == k) ≡ false = ne_eqb class k (λ is. eqb-false k class e (sym is)) in rw other (omega arith)

count_less : (b : Bool) (old x n k class : ℕ) → (k == class) ≡ b → (b ≡ true → x ≡ old - n)
    → cond b x old ≡ old - cond (class == k) n 0
count_less true old x n k class e h = let same : (class == k) ≡ true = eq-eqb class k (sym (eqb-true k class e)) in rw (same, h refl) refl
count_less false old x n k class e h = let other : (class == k) ≡ false = ne_eqb class k (λ is. eqb-false k class e (sym is)) in rw other (omega arith)

abbrev no_step : Step
no_step = record { class = 0; limit = 0; wait = 0; listed = false; closed = false }

count_class : (steps : Steps) (held : List ℕ) (class rank : ℕ) → IsDistinct steps → IsRank steps class rank
    → rank < length held → count_at steps held class ≡ get_or held rank 0
count_class steps held class rank distinct is inside = ap (count_at steps held) (sym (is.class_is no_step)) ∙ count_rank steps held rank no_step distinct is.inside inside

set_class : (steps : Steps) (held : List ℕ) (class rank x k : ℕ) → IsDistinct steps → IsRank steps class rank
    → rank < length held → count_at steps (set held rank x) k ≡ (if k == class then x else count_at steps held k)
set_class steps held class rank x k distinct is inside =
    count_set steps held rank x k no_step distinct is.inside inside ∙ ap (λ (c : ℕ). if k == c then x else count_at steps held k) (is.class_is no_step)

pub taken_at : (steps : Steps) (held : List ℕ) (class rank n : ℕ) → IsDistinct steps → IsRank steps class rank
    → rank < length held → (k : ℕ)
    → count_at steps (set held rank (get_or held rank 0 + n)) k ≡ count_at steps held k + (if class == k then n else 0)
taken_at steps held class rank n distinct is inside k =
    set_class steps held class rank (get_or held rank 0 + n) k distinct is inside
    ∙ count_more (k == class) (count_at steps held k) (get_or held rank 0 + n) n k class refl
    (λ e. ap (λ (m : ℕ). m + n) (sym (ap (count_at steps held) (eqb-true k class e) ∙ count_class steps held class rank distinct is inside)))

pub given_at : (steps : Steps) (held : List ℕ) (class rank n : ℕ) → IsDistinct steps → IsRank steps class rank
    → rank < length held → (k : ℕ)
    → count_at steps (set held rank (get_or held rank 0 - n)) k ≡ count_at steps held k - (if class == k then n else 0)
given_at steps held class rank n distinct is inside k =
    set_class steps held class rank (get_or held rank 0 - n) k distinct is inside
    ∙ count_less (k == class) (count_at steps held k) (get_or held rank 0 - n) n k class refl
    (λ e. ap (λ (m : ℕ). m - n) (sym (ap (count_at steps held) (eqb-true k class e) ∙ count_class steps held class rank distinct is inside)))

is_more : (new old : ℕ → ℕ) (class n : ℕ) → ((k : ℕ) → new k ≡ old k + (if class == k then n else 0))
    → IsMore new old class n
is_more new old class n h = record {
  here = let same : (class == class) ≡ true = eq-eqb class class refl in h class ∙ ap (λ (b : Bool). old class + cond b n 0) same;
  others = λ k ne. let other : (class == k) ≡ false = ne_eqb class k (λ e. ne (sym e)) in omega (arith, h k, ap (λ (b : Bool). old k + cond b n 0) other);
}

pub leg_takes : (leg : LegSeats) (class rank n : ℕ) → KeepsLimits leg → IsRank leg.steps class rank
    → n ≤ free_on leg.steps (held_on leg) class
    → LegChanges plus leg (record { steps = leg.steps; held = set leg.held rank (get_or leg.held rank 0 + n) }) class n
leg_takes leg class rank n kept is fits =
    let inside : rank < length leg.held = omega (arith, is.inside, kept.counted) in
    let after = taken_at leg.steps leg.held class rank n kept.ladder.distinct is inside in
    let new : ℕ → ℕ = count_at leg.steps (set leg.held rank (get_or leg.held rank 0 + n)) in
    record {
      steps = refl;
      seats = after;
      kept = record { ladder = kept.ladder; counted = rw length-set kept.counted; within = within_more leg.steps new (held_on leg) class n (is_more new (held_on leg) class n after) kept.ladder.distinct fits kept.within };
    }

pub leg_gives : (leg : LegSeats) (class rank n : ℕ) → KeepsLimits leg → IsRank leg.steps class rank
    → LegChanges less leg (record { steps = leg.steps; held = set leg.held rank (get_or leg.held rank 0 - n) }) class n
leg_gives leg class rank n kept is =
    let inside : rank < length leg.held = omega (arith, is.inside, kept.counted) in
    let after = given_at leg.steps leg.held class rank n kept.ladder.distinct is inside in
    let new : ℕ → ℕ = count_at leg.steps (set leg.held rank (get_or leg.held rank 0 - n)) in
    record {
      steps = refl;
      seats = after;
      kept = record { ladder = kept.ladder; counted = rw length-set kept.counted; within = within_less leg.steps new (held_on leg) (λ k. omega (arith, after k)) kept.within };
    }

-- ---- a missing class

pub room_lacking : (steps : Steps) (seats : ℕ → ℕ) (class : ℕ) → has_class steps class ≡ false
    → room_on steps seats class ≡ 0
room_lacking [] seats class h = refl
room_lacking (s ∷ lower) seats class h =
    let p = or_parts (class == s.class) (has_class lower class) h in
    let other : (s.class == class) ≡ false = ne_eqb s.class class (λ e. eqb-false class s.class p.0 (sym e)) in
    rw (other, room_lacking lower seats class p.1) (omega arith)

pub free_lacking : (steps : Steps) (seats : ℕ → ℕ) (class : ℕ) → has_class steps class ≡ false
    → free_on steps seats class ≡ 0
free_lacking [] seats class h = refl
free_lacking (s ∷ lower) seats class h =
    let p = or_parts (class == s.class) (has_class lower class) h in
    let other : (s.class == class) ≡ false = ne_eqb s.class class (λ e. eqb-false class s.class p.0 (sym e)) in
    rw (other, free_lacking lower seats class p.1) (omega arith)

pub count_lacking : (steps : Steps) (held : List ℕ) (class : ℕ) → has_class steps class ≡ false
    → count_at steps held class ≡ 0
count_lacking [] held class h = refl
count_lacking (s ∷ lower) [] class h = refl
count_lacking (s ∷ lower) (n ∷ more) class h =
    let p = or_parts (class == s.class) (has_class lower class) h in
    rw (p.0, count_lacking lower more class p.1) refl

-- no seat more or fewer is no change
pub takes_none : (leg : LegSeats) (class n : ℕ) → KeepsLimits leg → n ≡ 0 → LegChanges plus leg leg class n
takes_none leg class n kept none = record { steps = refl; seats = λ k. of (class == k) (held_on leg k); kept = kept }
  where
    of : (b : Bool) (m : ℕ) → m ≡ m + cond b n 0
    of true m = omega (arith, none)
    of false m = omega arith

pub gives_none : (leg : LegSeats) (class n : ℕ) → KeepsLimits leg → n ≡ 0 → LegChanges less leg leg class n
gives_none leg class n kept none = record { steps = refl; seats = λ k. of (class == k) (held_on leg k); kept = kept }
  where
    of : (b : Bool) (m : ℕ) → m ≡ m - cond b n 0
    of true m = omega (arith, none)
    of false m = omega arith

-- ---- bounds

limit_at : (steps : Steps) (i : ℕ) (d : Step) → AllByRecursion (λ s. (s.limit ≤ 999) × (s.wait ≤ 999)) steps
    → i < length steps → (get_or steps i d).limit ≤ 999
limit_at [] i d h lt = absurd (omega arith)
limit_at (s ∷ lower) zero d h lt = h.0.0
limit_at (s ∷ lower) (suc i) d h lt = limit_at lower i d h.1 (omega arith)

free_at : (steps : Steps) (seats : ℕ → ℕ) (class rank : ℕ) (d : Step) → IsDistinct steps → rank < length steps
    → (get_or steps rank d).class ≡ class
    → free_on steps seats class ≤ (get_or steps rank d).limit - held_from seats (drop rank steps)
free_at [] seats class rank d distinct lt is = absurd (omega arith)
free_at (s ∷ lower) seats class zero d distinct lt is = let same : (s.class == class) ≡ true = eq-eqb s.class class is in rw same (omega arith)
free_at (s ∷ lower) seats class (suc rank) d distinct lt is =
    let other : (s.class == class) ≡ false = ne_eqb s.class class (λ e. lacks_at s.class lower rank d distinct.0 (omega arith) (e ∙ sym is)) in
    let below = free_at lower seats class rank d distinct.1 (omega arith) is in
    rw other (omega (arith, below))

pub get_or_any : {X : Type 0} (xs : List X) (i : ℕ) (d e : X) → i < length xs → get_or xs i d ≡ get_or xs i e
get_or_any [] i d e h = absurd (omega arith)
get_or_any (x ∷ xs) zero d e h = refl
get_or_any (x ∷ xs) (suc i) d e h = get_or_any xs i d e (omega arith)

-- seats that the limits leave are few with those held
pub few_taken : (leg : LegSeats) (class rank n : ℕ) → KeepsLimits leg → IsRank leg.steps class rank
    → n ≤ free_on leg.steps (held_on leg) class → get_or leg.held rank 0 + n ≤ 999
few_taken leg class rank n kept is fits =
    let inside : rank < length leg.held = omega (arith, is.inside, kept.counted) in
    let steps = leg.steps in
    let x = get_or steps rank no_step in
    let more = held_from_rank steps rank (rank + 1) x (held_on leg) refl is.inside (get_or_any steps rank no_step x is.inside) in
    let here = count_rank steps leg.held rank no_step kept.ladder.distinct is.inside inside in
    let within = within_rank steps (held_on leg) rank no_step kept.within is.inside in
    let room = free_at steps (held_on leg) class rank no_step kept.ladder.distinct is.inside (is.class_is no_step) in
    let limit = limit_at steps rank no_step kept.ladder.bounded is.inside in
    omega (arith, more, here, within, room, limit, fits)

-- the highest rank of the rest, when the lower ones are added up
pub held_at : (leg : LegSeats) (i j : ℕ) (x : Step) → KeepsLimits leg → j ≡ i + 1 → i < length leg.steps
    → x ≡ get_or leg.steps i x
    → (held_from (held_on leg) (drop i leg.steps) ≡ held_from (held_on leg) (drop j leg.steps) + get_or leg.held i 0)
    × (held_from (held_on leg) (drop i leg.steps) ≤ x.limit) × (x.limit ≤ 999)
held_at leg i j x kept e inside is =
    let counted : i < length leg.held = omega (arith, inside, kept.counted) in
    let steps = leg.steps in
    let more = held_from_rank steps i j x (held_on leg) e inside is in
    let here = ap (λ (s : Step). count_at steps leg.held s.class) is ∙ count_rank steps leg.held i x kept.ladder.distinct inside counted in
    let within = within_rank steps (held_on leg) i x kept.within inside in
    let small = limit_at steps i x kept.ladder.bounded inside in
    let limit : x.limit ≡ (get_or steps i x).limit = ap (λ (s : Step). s.limit) is in
    (omega (arith, more, here), omega (arith, within, limit), omega (arith, small, limit))

-- what is held in a class stands at its rank
pub seats_rank : (leg : LegSeats) (class rank : ℕ) → KeepsLimits leg → IsRank leg.steps class rank
    → held_on leg class ≡ get_or leg.held rank 0
seats_rank leg class rank kept is = count_class leg.steps leg.held class rank kept.ladder.distinct is (omega (arith, is.inside, kept.counted))

-- ---- the same of a leg that is seen as another

pub few_seen : (leg now : LegSeats) (class rank n : ℕ) → leg ≡ now → KeepsLimits now → IsRank now.steps class rank
    → n ≤ free_on now.steps (held_on now) class → get_or leg.held rank 0 + n ≤ 999
few_seen leg now class rank n e =
    let P : LegSeats → Type 0 = λ x. KeepsLimits x → IsRank x.steps class rank → n ≤ free_on x.steps (held_on x) class → get_or leg.held rank 0 + n ≤ 999 in
    subst P e (few_taken leg class rank n)

pub takes_seen : (leg now : LegSeats) (class rank n : ℕ) → leg ≡ now → KeepsLimits now → IsRank now.steps class rank
    → n ≤ free_on now.steps (held_on now) class
    → LegChanges plus now (record { steps = leg.steps; held = set leg.held rank (get_or leg.held rank 0 + n) }) class n
takes_seen leg now class rank n e =
    let P : LegSeats → Type 0 = λ x. KeepsLimits x → IsRank x.steps class rank → n ≤ free_on x.steps (held_on x) class → LegChanges plus x (record { steps = leg.steps; held = set leg.held rank (get_or leg.held rank 0 + n) }) class n in
    subst P e (leg_takes leg class rank n)

pub gives_seen : (leg now : LegSeats) (class rank n : ℕ) → leg ≡ now → KeepsLimits now → IsRank now.steps class rank
    → LegChanges less now (record { steps = leg.steps; held = set leg.held rank (get_or leg.held rank 0 - n) }) class n
gives_seen leg now class rank n e =
    let P : LegSeats → Type 0 = λ x. KeepsLimits x → IsRank x.steps class rank → LegChanges less x (record { steps = leg.steps; held = set leg.held rank (get_or leg.held rank 0 - n) }) class n in
    subst P e (leg_gives leg class rank n)

pub seats_seen : (leg now : LegSeats) (class rank : ℕ) → leg ≡ now → KeepsLimits now → IsRank now.steps class rank
    → held_on now class ≡ get_or leg.held rank 0
seats_seen leg now class rank e =
    let P : LegSeats → Type 0 = λ x. KeepsLimits x → IsRank x.steps class rank → held_on x class ≡ get_or leg.held rank 0 in
    subst P e (seats_rank leg class rank)

pub held_seen : (leg now : LegSeats) (i j : ℕ) (x : Step) → leg ≡ now → KeepsLimits now → j ≡ i + 1
    → i < length now.steps → x ≡ get_or now.steps i x
    → (held_from (held_on now) (drop i now.steps) ≡ held_from (held_on now) (drop j now.steps) + get_or leg.held i 0)
    × (held_from (held_on now) (drop i now.steps) ≤ x.limit) × (x.limit ≤ 999)
held_seen leg now i j x e =
    let P : LegSeats → Type 0 = λ y. KeepsLimits y → j ≡ i + 1 → i < length y.steps → x ≡ get_or y.steps i x
    → (held_from (held_on y) (drop i y.steps) ≡ held_from (held_on y) (drop j y.steps) + get_or leg.held i 0)
    × (held_from (held_on y) (drop i y.steps) ≤ x.limit) × (x.limit ≤ 999) in
    subst P e (held_at leg i j x)

pub held_more_seen : (leg now : LegSeats) (i j : ℕ) → leg ≡ now → KeepsLimits now → j ≡ i + 1 → i < length now.steps
    → (held_from (held_on now) (drop i now.steps) ≡ held_from (held_on now) (drop j now.steps) + get_or leg.held i 0)
    × (held_from (held_on now) (drop i now.steps) ≤ 999)
held_more_seen leg now i j e kept next inside =
    let x = get_or now.steps i no_step in
    let h = held_seen leg now i j x e kept next inside (get_or_any now.steps i no_step x inside) in
    (h.0, omega (arith, h))

-- what is known of the parts of a leg
pub kept_now : (steps : Steps) (held : List ℕ) (now : LegSeats) → leg_of steps held ≡ now
    → KeepsLimits (leg_of steps held) → KeepsLimits now
kept_now steps held now e kept = subst KeepsLimits e kept

pub steps_now : (steps : Steps) (held : List ℕ) (now : LegSeats) → leg_of steps held ≡ now → steps ≡ now.steps
steps_now steps held now e = ap (λ (l : LegSeats). l.steps) e

-- ---- what a search for the rank says

pub some_rank : (steps : Steps) (class : ℕ) (o : Option ℕ) → o ≡ position (λ s. class == s.class) steps
    → IfSome o (IsRank steps class)
some_rank steps class None e = tt
some_rank steps class (Some rank) e = is_rank steps class rank (sym e)

pub none_rank : (steps : Steps) (class : ℕ) (o : Option ℕ) → o ≡ position (λ s. class == s.class) steps
    → IfNone o (has_class steps class ≡ false)
none_rank steps class None e = no_rank steps class (sym e)
none_rank steps class (Some rank) e = tt

pub rank_tells : (steps : Steps) (class : ℕ) (o : Option ℕ) → o ≡ position (λ s. class == s.class) steps
    → is_some o ≡ has_class steps class
rank_tells steps class None e = sym (no_rank steps class (sym e))
rank_tells steps class (Some rank) e = sym (is_rank steps class rank (sym e)).there

-- in no rank none is held
pub held_past : (seats : ByClass) (steps : Steps) (rank : ℕ) → length steps ≤ rank
    → 0 ≡ held_from seats (drop rank steps)
held_past seats steps rank past = sym (ap (held_from seats) (drop_all rank steps past))
