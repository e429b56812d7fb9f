-- Steps have no fault exactly where they are a ladder.
use Rattle.std.proofs.Common.{◌≡◌, ℕ, suc, Bool, cond, Some, ◌-◌, ◌<◌, ◌≤◌, true, false, eqb, ltb, ◌||◌, [], ◌∷◌, length, map, None, IsTrue, refl, ap, inl, inr, arith}
use Rattle.std.specs.Char.{is_ascii_uppercase}
use Rattle.std.specs.List.{AllByRecursion, list_any, IsDistinct as Differ}
use Rattle.std.proofs.lemmas.Bool.{or_parts, or_from, or_cases, eqb-false, ne_eqb, eqb-true, ltb-false, le-ltb}
use Rattle.std.proofs.lemmas.Bool.Decides.{nat_tests}
use Rattle.std.proofs.lemmas.Map.Steps.{length-le_from_distinct_below}
use Rattle.seat_nesting.specs.Nesting.{Steps, LacksClass, HasLetters, IsDistinct, IsNotRising, IsLadder, has_class}
use Rattle.seat_nesting.specs.Ladders.{repeats_class, is_below_next, is_rising, is_too_large, ladder_fault}
use Rattle.seat_nesting.specs.declared.ladder.Step.{Step}
use Rattle.seat_nesting.specs.declared.ladder.LadderFault.TheVariants.{Empty, RepeatedClass, Rising, TooLarge}

-- ---- classes

lacks_class : (class : ℕ) (steps : Steps) → has_class steps class ≡ false → LacksClass class steps
lacks_class class [] h = tt
lacks_class class (s ∷ lower) h =
    let p = or_parts (eqb class s.class) (has_class lower class) h in
    (eqb-false class s.class p.0, lacks_class class lower p.1)

has_no_class : (class : ℕ) (steps : Steps) → LacksClass class steps → has_class steps class ≡ false
has_no_class class [] h = refl
has_no_class class (s ∷ lower) h = or_from (eqb class s.class) (has_class lower class) (ne_eqb class s.class h.0) (has_no_class class lower h.1)

is_distinct : (steps : Steps) → repeats_class steps ≡ false → IsDistinct steps
is_distinct [] h = tt
is_distinct (s ∷ lower) h =
    let p = or_parts (has_class lower s.class) (repeats_class lower) h in
    (lacks_class s.class lower p.0, is_distinct lower p.1)

repeats_none : (steps : Steps) → IsDistinct steps → repeats_class steps ≡ false
repeats_none [] h = refl
repeats_none (s ∷ lower) h = or_from (has_class lower s.class) (repeats_class lower) (has_no_class s.class lower h.0) (repeats_none lower h.1)

-- ---- the alphabet is 26 letters long

abbrev place_of : Step → ℕ
place_of s = s.class - 65

letter_range : (c : ℕ) → IsTrue (is_ascii_uppercase c) → (65 ≤ c) × (c < 91)
letter_range c h = grind (arith, nat_tests, h)

places_differ : (c : ℕ) (lower : Steps) → IsTrue (is_ascii_uppercase c) → HasLetters lower → has_class lower c ≡ false
    → AllByRecursion (λ y. eqb (c - 65) y ≡ false) (map place_of lower)
places_differ c [] is letters h = tt
places_differ c (t ∷ lower) is letters h =
    let p = or_parts (eqb c t.class) (has_class lower c) h in
    let ne = eqb-false c t.class p.0 in
    let a = letter_range c is in
    let b = letter_range t.class letters.0 in
    (ne_eqb (c - 65) (t.class - 65) (λ e. ne (omega (arith, e, a, b))), places_differ c lower is letters.1 p.1)

differ : (steps : Steps) → HasLetters steps → repeats_class steps ≡ false → Differ eqb (map place_of steps)
unfolding Differ
differ [] letters h = tt
differ (s ∷ lower) letters h =
    let p = or_parts (has_class lower s.class) (repeats_class lower) h in
    (places_differ s.class lower letters.0 letters.1 p.0, differ lower letters.1 p.1)

places_below : (steps : Steps) → HasLetters steps → (q : ℕ) → list_any (eqb q) (map place_of steps) ≡ true → q < 26
places_below [] letters q h = absurd cc
places_below (s ∷ lower) letters q h =
    let a = letter_range s.class letters.0 in
    elim (or_cases (eqb q (s.class - 65)) (list_any (eqb q) (map place_of lower)) h) [
      | inl e ↦ omega (arith, eqb-true q (s.class - 65) e, a)
      | inr l ↦ places_below lower letters.1 q l
    ]

length_places : (steps : Steps) → length (map place_of steps) ≡ length steps
length_places [] = refl
length_places (s ∷ lower) = ap suc (length_places lower)

-- steps of different classes are at most 26
pub at_most_26 : (steps : Steps) → HasLetters steps → repeats_class steps ≡ false → length steps ≤ 26
at_most_26 steps letters h =
    let few = length-le_from_distinct_below (map place_of steps) 26 (differ steps letters h) (places_below steps letters) in
    omega (arith, few, length_places steps)

-- ---- limits

all_below : (low high : ℕ) (steps : Steps) → low ≤ high → AllByRecursion (λ t. t.limit ≤ low) steps
    → AllByRecursion (λ t. t.limit ≤ high) steps
all_below low high [] le h = tt
all_below low high (t ∷ lower) le h = (omega (arith, h.0), all_below low high lower le h.1)

all_under : (limit : ℕ) (lower : Steps) → is_below_next limit lower ≡ false → IsNotRising lower
    → AllByRecursion (λ t. t.limit ≤ limit) lower
all_under limit [] h falls = tt
all_under limit (t ∷ lower) h falls =
    let le = ltb-false limit t.limit h in
    (le, all_below t.limit limit lower le falls.0)

is_not_rising : (steps : Steps) → is_rising steps ≡ false → IsNotRising steps
is_not_rising [] h = tt
is_not_rising (s ∷ lower) h =
    let p = or_parts (is_below_next s.limit lower) (is_rising lower) h in
    let falls = is_not_rising lower p.1 in
    (all_under s.limit lower p.0 falls, falls)

next_under : (limit : ℕ) (lower : Steps) → AllByRecursion (λ t. t.limit ≤ limit) lower
    → is_below_next limit lower ≡ false
next_under limit [] h = refl
next_under limit (t ∷ lower) h = le-ltb limit t.limit h.0

rises_nowhere : (steps : Steps) → IsNotRising steps → is_rising steps ≡ false
rises_nowhere [] h = refl
rises_nowhere (s ∷ lower) h = or_from (is_below_next s.limit lower) (is_rising lower) (next_under s.limit lower h.0) (rises_nowhere lower h.1)

all_small : (steps : Steps) → is_too_large steps ≡ false → AllByRecursion (λ s. (s.limit ≤ 999) × (s.wait ≤ 999)) steps
all_small [] h = tt
all_small (s ∷ lower) h =
    let p = or_parts (ltb 999 s.limit || ltb 999 s.wait) (is_too_large lower) h in
    let q = or_parts (ltb 999 s.limit) (ltb 999 s.wait) p.0 in
    ((ltb-false 999 s.limit q.0, ltb-false 999 s.wait q.1), all_small lower p.1)

none_large : (steps : Steps) → AllByRecursion (λ s. (s.limit ≤ 999) × (s.wait ≤ 999)) steps → is_too_large steps ≡ false
none_large [] h = refl
none_large (s ∷ lower) h =
    or_from (ltb 999 s.limit || ltb 999 s.wait) (is_too_large lower) (or_from (ltb 999 s.limit) (ltb 999 s.wait) (le-ltb 999 s.limit h.0.0) (le-ltb 999 s.wait h.0.1)) (none_large lower h.1)

-- ---- together

-- steps without a fault are a ladder
pub is_ladder : (steps : Steps) → HasLetters steps → 0 < length steps → repeats_class steps ≡ false
    → is_rising steps ≡ false → is_too_large steps ≡ false → IsLadder steps
is_ladder steps letters some distinct falls small = record {
  some = some;
  most = at_most_26 steps letters distinct;
  distinct = is_distinct steps distinct;
  not_rising = is_not_rising steps falls;
  bounded = all_small steps small;
}

-- a ladder has no fault
pub has_no_fault : (steps : Steps) → IsLadder steps
    → (repeats_class steps ≡ false) × (is_rising steps ≡ false) × (is_too_large steps ≡ false)
has_no_fault steps h = (repeats_none steps h.distinct, rises_nowhere steps h.not_rising, none_large steps h.bounded)

pub no_fault : (steps : Steps) → IsLadder steps → ladder_fault steps ≡ None
unfolding ladder_fault
no_fault [] h = absurd (omega (arith, h.some))
no_fault (s ∷ lower) h =
    let p = has_no_fault (s ∷ lower) h in
    let some : eqb (suc (length lower)) 0 ≡ false = ne_eqb (suc (length lower)) 0 (λ e. absurd (omega arith)) in
    rw (some, p.0, p.1, p.2) refl

-- steps of letters without a fault are a ladder
pub is_ladder_of : (steps : Steps) → HasLetters steps → ladder_fault steps ≡ None → IsLadder steps
unfolding ladder_fault
is_ladder_of [] letters h = absurd cc
is_ladder_of (s ∷ lower) letters h = of (eqb (suc (length lower)) 0) (repeats_class (s ∷ lower)) (is_rising (s ∷ lower)) (is_too_large (s ∷ lower)) refl refl refl h
  where
    of : (none repeats rises large : Bool) → repeats_class (s ∷ lower) ≡ repeats → is_rising (s ∷ lower) ≡ rises
        → is_too_large (s ∷ lower) ≡ large
        → cond none (Some Empty) (cond repeats (Some RepeatedClass)
        (cond rises (Some Rising) (cond large (Some TooLarge) None))) ≡ None → IsLadder (s ∷ lower)
    of true repeats rises large e f g h = absurd cc
    of false true rises large e f g h = absurd cc
    of false false true large e f g h = absurd cc
    of false false false true e f g h = absurd cc
    of false false false false e f g h = is_ladder (s ∷ lower) letters (omega arith) e f g
