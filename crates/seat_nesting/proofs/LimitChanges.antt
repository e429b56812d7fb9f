-- What is set on a leg, a limit before all: what it changes, and what stays.
use Rattle.std.proofs.Common.{◌≡◌, ◌≢◌, ◌==◌, ℕ, zero, suc, ◌+◌, ◌-◌, ◌<◌, ◌≤◌, Bool, true, false, if◌then◌else◌, cond, ◌&&◌, ◌||◌, nat_le, Option, Some, None, List, [], ◌∷◌, length, map, drop, get_or, set, refl, ap, sym, subst, ◌∙◌, add-one, arith}
use Rattle.std.specs.List.{AllByRecursion, position, refill}
use Rattle.std.proofs.lemmas.Bool.{eqb-true, eqb-false, eq-eqb, ne_eqb, le-leb, leb-true, and_parts, or_parts}
use Rattle.std.proofs.lemmas.List.{length-set}
use Rattle.seat_nesting.specs.declared.ladder.Step.{Step}
use Rattle.seat_nesting.specs.Nesting.{Steps, Ladders, ByClass, Table, LacksClass, has_class, IsDistinct, IsNotRising, IsLadder, IsLegLadder, HasLadders, steps_of, steps_at, legs_of, ladder_at, held_from, IsWithin}
use Rattle.seat_nesting.specs.Counting.{LegSeats, Counted, leg_of, count_at, held_on, leg_in, leg_at, limits_of, KeepsLimits, IsRank}
use Rattle.seat_nesting.specs.declared.setting.Setting.{Setting}
use Rattle.seat_nesting.specs.declared.setting.Setting.TheVariants.{ToLimit, ToSale, ToMarks}
use Rattle.seat_nesting.specs.Changing.{with_limit, with_setting, leg_set, ladders_set, limits_with, step_of, top_of, limit_above, may_have_below, may_have, can_set, LegSets}
use Rattle.seat_nesting.proofs.Rooms.{held_cons, within_same}
use Rattle.seat_nesting.proofs.LegCounting.{is_rank, no_rank, lacks_at}

-- ---- one step

abbrev reset : Step → ℕ → ℕ → Step
reset s limit wait = record s { limit = limit; wait = wait }

-- what the test of a limit says where the class stands
pub record MayHere (above : ℕ) (s : Step) (lower : Steps) (seats : ByClass) (limit : ℕ) : Type 0 where
  pub high : limit ≤ above
  pub low : top_of lower ≤ limit
  pub held : held_from seats (s ∷ lower) ≤ limit

may_here : (above : ℕ) (s : Step) (lower : Steps) (seats : ByClass) (limit : ℕ)
    → (nat_le limit above && nat_le (top_of lower) limit && nat_le (held_from seats (s ∷ lower)) limit) ≡ true
    → MayHere above s lower seats limit
may_here above s lower seats limit h =
    let p = and_parts (nat_le limit above && nat_le (top_of lower) limit) (nat_le (held_from seats (s ∷ lower)) limit) h in
    let q = and_parts (nat_le limit above) (nat_le (top_of lower) limit) p.0 in
    record { high = leb-true limit above q.0; low = leb-true (top_of lower) limit q.1; held = leb-true (held_from seats (s ∷ lower)) limit p.1 }

may_again : (above : ℕ) (s : Step) (lower : Steps) (seats : ByClass) (limit : ℕ) → MayHere above s lower seats limit
    → (nat_le limit above && nat_le (top_of lower) limit && nat_le (held_from seats (s ∷ lower)) limit) ≡ true
may_again above s lower seats limit h = rw (le-leb limit above h.high, le-leb (top_of lower) limit h.low, le-leb (held_from seats (s ∷ lower)) limit h.held) refl

-- ---- the steps of a leg: what stays

pub length_with : (steps : Steps) (class limit wait : ℕ) → length (with_limit steps class limit wait) ≡ length steps
length_with [] class limit wait = refl
length_with (s ∷ lower) class limit wait = of (s.class == class) (length_with lower class limit wait)
  where
    of : (b : Bool) → length (with_limit lower class limit wait) ≡ length lower
        → length (cond b (reset s limit wait ∷ lower) (s ∷ with_limit lower class limit wait)) ≡ suc (length lower)
    of true h = refl
    of false h = ap suc h

pub has_class_with : (steps : Steps) (class limit wait k : ℕ)
    → has_class (with_limit steps class limit wait) k ≡ has_class steps k
has_class_with [] class limit wait k = refl
has_class_with (s ∷ lower) class limit wait k = of (s.class == class) (has_class_with lower class limit wait k)
  where
    of : (b : Bool) → has_class (with_limit lower class limit wait) k ≡ has_class lower k
        → has_class (cond b (reset s limit wait ∷ lower) (s ∷ with_limit lower class limit wait)) k
        ≡ ((k == s.class) || has_class lower k)
    of true h = refl
    of false h = ap (λ (b : Bool). (k == s.class) || b) h

-- what holds of each step
pub all_with : (P : Step → Type 0) (steps : Steps) (class limit wait : ℕ) → ((s : Step) → P s → P (reset s limit wait))
    → AllByRecursion P steps → AllByRecursion P (with_limit steps class limit wait)
all_with P [] class limit wait keeps all = tt
all_with P (s ∷ lower) class limit wait keeps all = of (s.class == class) (all_with P lower class limit wait keeps all.1)
  where
    of : (b : Bool) → AllByRecursion P (with_limit lower class limit wait)
        → AllByRecursion P (cond b (reset s limit wait ∷ lower) (s ∷ with_limit lower class limit wait))
    of true h = (keeps s all.0, all.1)
    of false h = (all.0, h)

pub distinct_with : (steps : Steps) (class limit wait : ℕ) → IsDistinct steps
    → IsDistinct (with_limit steps class limit wait)
distinct_with [] class limit wait h = tt
distinct_with (s ∷ lower) class limit wait h = of (s.class == class) (distinct_with lower class limit wait h.1)
  where
    of : (b : Bool) → IsDistinct (with_limit lower class limit wait)
        → IsDistinct (cond b (reset s limit wait ∷ lower) (s ∷ with_limit lower class limit wait))
    of true below = h
    of false below = (all_with (λ (t : Step). s.class ≢ t.class) lower class limit wait (λ t e. e) h.0, below)

pub held_with : (seats : ByClass) (steps : Steps) (class limit wait : ℕ)
    → held_from seats (with_limit steps class limit wait) ≡ held_from seats steps
held_with seats [] class limit wait = refl
held_with seats (s ∷ lower) class limit wait = of (s.class == class) (held_with seats lower class limit wait)
  where
    of : (b : Bool) → held_from seats (with_limit lower class limit wait) ≡ held_from seats lower
        → held_from seats (cond b (reset s limit wait ∷ lower) (s ∷ with_limit lower class limit wait))
        ≡ held_from seats (s ∷ lower)
    of true h = held_cons seats (reset s limit wait) lower ∙ sym (held_cons seats s lower)
    of false h = held_cons seats s (with_limit lower class limit wait) ∙ ap (λ (n : ℕ). seats s.class + n) h ∙ sym (held_cons seats s lower)

pub count_with : (steps : Steps) (held : List ℕ) (class limit wait k : ℕ)
    → count_at (with_limit steps class limit wait) held k ≡ count_at steps held k
count_with [] held class limit wait k = refl
count_with (s ∷ lower) [] class limit wait k = of (s.class == class)
  where
    of : (b : Bool) → count_at (cond b (reset s limit wait ∷ lower) (s ∷ with_limit lower class limit wait)) [] k ≡ 0
    of true = refl
    of false = refl
count_with (s ∷ lower) (n ∷ more) class limit wait k = of (s.class == class) (count_with lower more class limit wait k)
  where
    of : (b : Bool) → count_at (with_limit lower class limit wait) more k ≡ count_at lower more k
        → count_at (cond b (reset s limit wait ∷ lower) (s ∷ with_limit lower class limit wait)) (n ∷ more) k
        ≡ (if k == s.class then n else count_at lower more k)
    of true h = refl
    of false h = ap (λ (m : ℕ). if k == s.class then n else m) h

-- ---- a limit that may be set keeps the ladder in order, and the seats within it

abbrev AtMost : ℕ → Step → Type 0
AtMost above t = t.limit ≤ above

at_most_more : (steps : Steps) (low high : ℕ) → low ≤ high → AllByRecursion (AtMost low) steps
    → AllByRecursion (AtMost high) steps
at_most_more [] low high le all = tt
at_most_more (s ∷ lower) low high le all = (omega (arith, all.0), at_most_more lower low high le all.1)

at_most_top : (steps : Steps) (limit : ℕ) → IsNotRising steps → top_of steps ≤ limit
    → AllByRecursion (AtMost limit) steps
at_most_top [] limit order low = tt
at_most_top (s ∷ lower) limit order low = (low, at_most_more lower s.limit limit low order.0)

top_most : (steps : Steps) (limit : ℕ) → AllByRecursion (AtMost limit) steps → top_of steps ≤ limit
top_most [] limit all = omega arith
top_most (s ∷ lower) limit all = all.0

-- the limit is no higher than what stands above
pub limit_most : (above : ℕ) (steps : Steps) (seats : ByClass) (class limit : ℕ) → AllByRecursion (AtMost above) steps
    → IsNotRising steps → may_have_below above steps seats class limit ≡ true → limit ≤ above
limit_most above [] seats class limit all order h = absurd cc
limit_most above (s ∷ lower) seats class limit all order h = of (s.class == class) h (λ (e : may_have_below s.limit lower seats class limit ≡ true). limit_most s.limit lower seats class limit order.0 order.1 e)
  where
    of : (b : Bool)
        → cond b (nat_le limit above && nat_le (top_of lower) limit && nat_le (held_from seats (s ∷ lower)) limit)
        (may_have_below s.limit lower seats class limit) ≡ true
        → (may_have_below s.limit lower seats class limit ≡ true → limit ≤ s.limit) → limit ≤ above
    of true h below = (may_here above s lower seats limit h).high
    of false h below = let le : limit ≤ s.limit = below h in omega (arith, le, all.0)

not_rising_below : (above : ℕ) (steps : Steps) (seats : ByClass) (class limit wait : ℕ)
    → AllByRecursion (AtMost above) steps → IsNotRising steps → may_have_below above steps seats class limit ≡ true
    → IsNotRising (with_limit steps class limit wait)
not_rising_below above [] seats class limit wait all order h = tt
not_rising_below above (s ∷ lower) seats class limit wait all order h =
    of (s.class == class) h (λ (e : may_have_below s.limit lower seats class limit ≡ true). not_rising_below s.limit lower seats class limit wait order.0 order.1 e)
  where
    of : (b : Bool)
        → cond b (nat_le limit above && nat_le (top_of lower) limit && nat_le (held_from seats (s ∷ lower)) limit)
        (may_have_below s.limit lower seats class limit) ≡ true
        → (may_have_below s.limit lower seats class limit ≡ true → IsNotRising (with_limit lower class limit wait))
        → IsNotRising (cond b (reset s limit wait ∷ lower) (s ∷ with_limit lower class limit wait))
    of true h below = (at_most_top lower limit order.1 (may_here above s lower seats limit h).low, order.1)
    of false h below =
        let le = limit_most s.limit lower seats class limit order.0 order.1 h in
        (all_with (AtMost s.limit) lower class limit wait (λ (t : Step) _. le) order.0, below h)

abbrev IsBounded : Step → Type 0
IsBounded s = (s.limit ≤ 999) × (s.wait ≤ 999)

at_most_999 : (steps : Steps) → AllByRecursion IsBounded steps → AllByRecursion (AtMost 999) steps
at_most_999 [] all = tt
at_most_999 (s ∷ lower) all = (all.0.0, at_most_999 lower all.1)

pub not_rising_with : (steps : Steps) (seats : ByClass) (class limit wait : ℕ)
    → AllByRecursion (λ s. (s.limit ≤ 999) × (s.wait ≤ 999)) steps → IsNotRising steps
    → may_have steps seats class limit ≡ true → IsNotRising (with_limit steps class limit wait)
not_rising_with steps seats class limit wait all order h = not_rising_below 999 steps seats class limit wait (at_most_999 steps all) order h

pub bounded_with : (steps : Steps) (seats : ByClass) (class limit wait : ℕ)
    → AllByRecursion (λ s. (s.limit ≤ 999) × (s.wait ≤ 999)) steps → IsNotRising steps
    → may_have steps seats class limit ≡ true → wait ≤ 999
    → AllByRecursion (λ s. (s.limit ≤ 999) × (s.wait ≤ 999)) (with_limit steps class limit wait)
bounded_with steps seats class limit wait all order h most =
    let le = limit_most 999 steps seats class limit (at_most_999 steps all) order h in
    all_with IsBounded steps class limit wait (λ (s : Step) _. (le, most)) all

pub ladder_with : (steps : Steps) (seats : ByClass) (class limit wait : ℕ) → IsLadder steps
    → may_have steps seats class limit ≡ true → wait ≤ 999 → IsLadder (with_limit steps class limit wait)
ladder_with steps seats class limit wait is h most = record {
  some = omega (arith, is.some, length_with steps class limit wait);
  most = omega (arith, is.most, length_with steps class limit wait);
  distinct = distinct_with steps class limit wait is.distinct;
  not_rising = not_rising_with steps seats class limit wait is.bounded is.not_rising h;
  bounded = bounded_with steps seats class limit wait is.bounded is.not_rising h most;
}

pub leg_ladder_with : (steps : Steps) (seats : ByClass) (class limit wait : ℕ) → IsLegLadder steps
    → may_have steps seats class limit ≡ true → wait ≤ 999 → IsLegLadder (with_limit steps class limit wait)
leg_ladder_with steps seats class limit wait is h most = record {
  most = omega (arith, is.most, length_with steps class limit wait);
  distinct = distinct_with steps class limit wait is.distinct;
  not_rising = not_rising_with steps seats class limit wait is.bounded is.not_rising h;
  bounded = bounded_with steps seats class limit wait is.bounded is.not_rising h most;
}

within_below : (above : ℕ) (steps : Steps) (seats : ByClass) (class limit wait : ℕ)
    → may_have_below above steps seats class limit ≡ true → IsWithin steps seats
    → IsWithin (with_limit steps class limit wait) seats
within_below above [] seats class limit wait h w = tt
within_below above (s ∷ lower) seats class limit wait h w =
    of (s.class == class) h (λ (e : may_have_below s.limit lower seats class limit ≡ true). within_below s.limit lower seats class limit wait e w.1)
  where
    of : (b : Bool)
        → cond b (nat_le limit above && nat_le (top_of lower) limit && nat_le (held_from seats (s ∷ lower)) limit)
        (may_have_below s.limit lower seats class limit) ≡ true
        → (may_have_below s.limit lower seats class limit ≡ true → IsWithin (with_limit lower class limit wait) seats)
        → IsWithin (cond b (reset s limit wait ∷ lower) (s ∷ with_limit lower class limit wait)) seats
    of true h below =
        let held = (may_here above s lower seats limit h).held in
        (omega (arith, held, held_cons seats s lower, held_cons seats (reset s limit wait) lower), w.1)
    of false h below = (omega (arith, w.0, held_cons seats s lower, held_cons seats s (with_limit lower class limit wait), held_with seats lower class limit wait), below h)

pub within_with : (steps : Steps) (seats : ByClass) (class limit wait : ℕ) → may_have steps seats class limit ≡ true
    → IsWithin steps seats → IsWithin (with_limit steps class limit wait) seats
within_with steps seats class limit wait h w = within_below 999 steps seats class limit wait h w

-- ---- the old limit and wait again

pub back_with : (steps : Steps) (class limit wait : ℕ) (old : Step) → step_of steps class ≡ Some old
    → with_limit (with_limit steps class limit wait) class old.limit old.wait ≡ steps
back_with [] class limit wait old h = absurd cc
back_with (s ∷ lower) class limit wait old h = of (s.class == class) refl h (λ (e : step_of lower class ≡ Some old). back_with lower class limit wait old e)
  where
    of : (b : Bool) → (s.class == class) ≡ b → cond b (Some s) (step_of lower class) ≡ Some old
        → (step_of lower class ≡ Some old → with_limit (with_limit lower class limit wait) class old.limit old.wait
        ≡ lower)
        → with_limit (cond b (reset s limit wait ∷ lower) (s ∷ with_limit lower class limit wait)) class old.limit
        old.wait ≡ s ∷ lower
    of true e is below =
        let same : s ≡ old = cc in
        rw e (ap (λ (t : Step). reset s t.limit t.wait ∷ lower) (sym same))
    of false e is below = rw e (ap (λ (t : Steps). s ∷ t) (below is))

may_back : (above : ℕ) (steps : Steps) (seats : ByClass) (class limit wait : ℕ) (old : Step)
    → AllByRecursion (AtMost above) steps → IsNotRising steps → IsWithin steps seats → step_of steps class ≡ Some old
    → may_have_below above (with_limit steps class limit wait) seats class old.limit ≡ true
may_back above [] seats class limit wait old all order w h = absurd cc
may_back above (s ∷ lower) seats class limit wait old all order w h =
    of (s.class == class) refl h (λ (e : step_of lower class ≡ Some old). may_back s.limit lower seats class limit wait old order.0 order.1 w.1 e)
  where
    of : (b : Bool) → (s.class == class) ≡ b → cond b (Some s) (step_of lower class) ≡ Some old
        → (step_of lower class ≡ Some old
        → may_have_below s.limit (with_limit lower class limit wait) seats class old.limit ≡ true)
        → may_have_below above (cond b (reset s limit wait ∷ lower) (s ∷ with_limit lower class limit wait)) seats class
        old.limit ≡ true
    of true e is below =
        let same : s ≡ old = cc in
        let limit_is : s.limit ≡ old.limit = ap (λ (t : Step). t.limit) same in
        let top = top_most lower s.limit order.0 in
        let here : MayHere above (reset s limit wait) lower seats old.limit = record {
          high = omega (arith, all.0, limit_is);
          low = omega (arith, top, limit_is);
          held = omega (arith, w.0, limit_is, held_cons seats s lower, held_cons seats (reset s limit wait) lower);
        } in
        rw e (may_again above (reset s limit wait) lower seats old.limit here)
    of false e is below = rw e (below is)

-- the old limit may be set again, whatever limit was set in its place
pub may_have_back : (steps : Steps) (seats : ByClass) (class limit wait : ℕ) (old : Step) → IsLegLadder steps
    → IsWithin steps seats → step_of steps class ≡ Some old
    → may_have (with_limit steps class limit wait) seats class old.limit ≡ true
may_have_back steps seats class limit wait old is w h = may_back 999 steps seats class limit wait old (at_most_999 steps is.bounded) is.not_rising w h

step_bounded : (steps : Steps) (class : ℕ) (old : Step) → AllByRecursion IsBounded steps
    → step_of steps class ≡ Some old → IsBounded old
step_bounded [] class old all h = absurd cc
step_bounded (s ∷ lower) class old all h = of (s.class == class) h (λ (e : step_of lower class ≡ Some old). step_bounded lower class old all.1 e)
  where
    of : (b : Bool) → cond b (Some s) (step_of lower class) ≡ Some old
        → (step_of lower class ≡ Some old → IsBounded old) → IsBounded old
    of true is below = let same : s ≡ old = cc in subst IsBounded same all.0
    of false is below = below is

-- ---- by rank

abbrev no_step : Step
no_step = record { class = 0; limit = 0; wait = 0; listed = false; closed = false }

-- the step at the rank of a class is the one that is set
set_rank : (steps : Steps) (class limit wait rank : ℕ) (d : Step) → IsDistinct steps → rank < length steps
    → (get_or steps rank d).class ≡ class
    → set steps rank (reset (get_or steps rank d) limit wait) ≡ with_limit steps class limit wait
set_rank [] class limit wait rank d distinct inside is = absurd (omega arith)
set_rank (s ∷ lower) class limit wait zero d distinct inside is =
    let same : (s.class == class) ≡ true = eq-eqb s.class class is in
    rw same refl
set_rank (s ∷ lower) class limit wait (suc i) d distinct inside is =
    let other : (s.class == class) ≡ false = ne_eqb s.class class (λ e. lacks_at s.class lower i d distinct.0 (omega arith) (e ∙ sym is)) in
    rw other (ap (λ (t : Steps). s ∷ t) (set_rank lower class limit wait i d distinct.1 (omega arith) is))

pub set_found : (steps : Steps) (class limit wait rank : ℕ) (d : Step) → IsDistinct steps
    → position (λ s. class == s.class) steps ≡ Some rank
    → set steps rank (reset (get_or steps rank d) limit wait) ≡ with_limit steps class limit wait
set_found steps class limit wait rank d distinct e =
    let is = is_rank steps class rank e in
    set_rank steps class limit wait rank d distinct is.inside (is.class_is d)

pub with_lacking : (steps : Steps) (class limit wait : ℕ) → has_class steps class ≡ false
    → with_limit steps class limit wait ≡ steps
with_lacking [] class limit wait h = refl
with_lacking (s ∷ lower) class limit wait h =
    let p = or_parts (class == s.class) (has_class lower class) h in
    let other : (s.class == class) ≡ false = ne_eqb s.class class (λ e. eqb-false class s.class p.0 (sym e)) in
    rw other (ap (λ (t : Steps). s ∷ t) (with_lacking lower class limit wait p.1))

-- a list that is written over another of its length
refill_same : {X : Type 0} (xs ws : List X) → length ws ≡ length xs → refill (length xs) xs ws ≡ ws
refill_same [] [] h = refl
refill_same [] (w ∷ ws) h = absurd (omega arith)
refill_same (x ∷ xs) [] h = absurd (omega arith)
refill_same {X = X} (x ∷ xs) (w ∷ ws) h = ap (λ (l : List X). w ∷ l) (refill_same xs ws (omega arith))

-- a step is written with the marks that stand at its rank
pub written_with : (steps slice seen read now : Steps) (class limit wait rank : ℕ) (d x : Step) → slice ≡ steps
    → seen ≡ steps → read ≡ steps → steps ≡ now → IsDistinct steps → Some rank ≡ position (λ s. class == s.class) seen
    → x ≡ reset (get_or read rank d) limit wait
    → refill (length steps) steps (set slice rank x) ≡ with_limit now class limit wait
written_with steps slice seen read now class limit wait rank d x e f r g distinct h is =
    let at = ap (λ (l : Steps). position (λ s. class == s.class) l) (sym f) ∙ sym h in
    let here : x ≡ reset (get_or steps rank d) limit wait = is ∙ ap (λ (l : Steps). reset (get_or l rank d) limit wait) r in
    ap (λ (l : Steps). refill (length steps) steps (set l rank x)) e ∙ refill_same steps (set steps rank x) (length-set steps rank x)
    ∙ ap (λ (y : Step). set steps rank y) here ∙ set_found steps class limit wait rank d distinct at ∙ ap (λ (l : Steps). with_limit l class limit wait) g

pub unwritten_with : (steps seen now : Steps) (class limit wait : ℕ) → seen ≡ steps → steps ≡ now
    → None ≡ position (λ s. class == s.class) seen → now ≡ with_limit now class limit wait
unwritten_with steps seen now class limit wait f g h =
    let none = sym (ap (λ (l : Steps). position (λ s. class == s.class) l) (sym (f ∙ g))) in
    sym (with_lacking now class limit wait (no_rank now class (sym none ∙ sym h)))

step_at_rank : (steps : Steps) (class rank : ℕ) (d : Step) → IsDistinct steps → rank < length steps
    → (get_or steps rank d).class ≡ class → Some (get_or steps rank d) ≡ step_of steps class
step_at_rank [] class rank d distinct inside is = absurd (omega arith)
step_at_rank (s ∷ lower) class zero d distinct inside is = let same : (s.class == class) ≡ true = eq-eqb s.class class is in rw same refl
step_at_rank (s ∷ lower) class (suc i) d distinct inside is =
    let other : (s.class == class) ≡ false = ne_eqb s.class class (λ e. lacks_at s.class lower i d distinct.0 (omega arith) (e ∙ sym is)) in
    rw other (step_at_rank lower class i d distinct.1 (omega arith) is)

pub step_found : (steps : Steps) (class rank : ℕ) (d : Step) → IsDistinct steps → IsRank steps class rank
    → Some (get_or steps rank d) ≡ step_of steps class
step_found steps class rank d distinct is = step_at_rank steps class rank d distinct is.inside (is.class_is d)

pub step_lacking : (steps : Steps) (class : ℕ) → has_class steps class ≡ false → None ≡ step_of steps class
step_lacking [] class h = refl
step_lacking (s ∷ lower) class h =
    let p = or_parts (class == s.class) (has_class lower class) h in
    let other : (s.class == class) ≡ false = ne_eqb s.class class (λ e. eqb-false class s.class p.0 (sym e)) in
    rw other (step_lacking lower class p.1)

pub above_at : (above : ℕ) (steps : Steps) (i j : ℕ) (d : Step) → j ≡ suc i → i < length steps
    → limit_above above steps j ≡ (get_or steps i d).limit
above_at above [] i j d e inside = absurd (omega arith)
above_at above (s ∷ lower) zero j d e inside = rw e refl
above_at above (s ∷ lower) (suc i) j d e inside = rw e (above_at s.limit lower i (suc i) d refl (omega arith))

may_at_rank : (above : ℕ) (steps : Steps) (seats : ByClass) (class limit rank : ℕ) (d : Step) → IsDistinct steps
    → rank < length steps → (get_or steps rank d).class ≡ class
    → may_have_below above steps seats class limit
    ≡ (nat_le limit (limit_above above steps rank) && nat_le (top_of (drop (suc rank) steps)) limit
    && nat_le (held_from seats (drop rank steps)) limit)
may_at_rank above [] seats class limit rank d distinct inside is = absurd (omega arith)
may_at_rank above (s ∷ lower) seats class limit zero d distinct inside is = let same : (s.class == class) ≡ true = eq-eqb s.class class is in rw same refl
may_at_rank above (s ∷ lower) seats class limit (suc i) d distinct inside is =
    let other : (s.class == class) ≡ false = ne_eqb s.class class (λ e. lacks_at s.class lower i d distinct.0 (omega arith) (e ∙ sym is)) in
    rw other (may_at_rank s.limit lower seats class limit i d distinct.1 (omega arith) is)

-- the tests of a limit at its rank, one after the other
pub may_found : (steps seen : Steps) (seats : ByClass) (class limit rank : ℕ) (between : Bool) → IsDistinct steps
    → IsRank steps class rank → seen ≡ steps
    → between ≡ (nat_le limit (limit_above 999 seen rank) && nat_le (top_of (drop (rank + 1) seen)) limit)
    → (between && nat_le (held_from seats (drop rank steps)) limit) ≡ may_have steps seats class limit
may_found steps seen seats class limit rank between distinct is e test =
    let rest : Bool = nat_le (held_from seats (drop rank steps)) limit in
    let P : Steps → Bool = λ s. nat_le limit (limit_above 999 s rank) && nat_le (top_of (drop (rank + 1) s)) limit in
    ap (λ (b : Bool). b && rest) (test ∙ ap P e)
    ∙ ap (λ (j : ℕ). nat_le limit (limit_above 999 steps rank) && nat_le (top_of (drop j steps)) limit && rest) (add-one rank)
    ∙ sym (may_at_rank 999 steps seats class limit rank no_step distinct is.inside (is.class_is no_step))

may_lacking_below : (above : ℕ) (steps : Steps) (seats : ByClass) (class limit : ℕ) → has_class steps class ≡ false
    → may_have_below above steps seats class limit ≡ false
may_lacking_below above [] seats class limit h = refl
may_lacking_below above (s ∷ lower) seats class limit h =
    let p = or_parts (class == s.class) (has_class lower class) h in
    let other : (s.class == class) ≡ false = ne_eqb s.class class (λ e. eqb-false class s.class p.0 (sym e)) in
    rw other (may_lacking_below s.limit lower seats class limit p.1)

pub may_lacking : (steps : Steps) (seats : ByClass) (class limit : ℕ) → has_class steps class ≡ false
    → false ≡ may_have steps seats class limit
may_lacking steps seats class limit h = sym (may_lacking_below 999 steps seats class limit h)

-- ---- the counters of a leg

pub ladder_of_leg : (steps : Steps) (seats : ByClass) (class limit : ℕ) → IsLegLadder steps
    → may_have steps seats class limit ≡ true → IsLadder steps
ladder_of_leg [] seats class limit is h = absurd cc
ladder_of_leg (s ∷ lower) seats class limit is h = record { some = omega arith; most = is.most; distinct = is.distinct; not_rising = is.not_rising; bounded = is.bounded }

-- ---- one leg of a flight

pub length_leg_set : (legs : List Steps) (leg : ℕ) (setting : Setting)
    → length (leg_set legs leg setting) ≡ length legs
length_leg_set [] leg setting = refl
length_leg_set (steps ∷ legs) zero setting = refl
length_leg_set (steps ∷ legs) (suc leg) setting = ap suc (length_leg_set legs leg setting)

-- on no steps nothing is set
pub set_none : (setting : Setting) → [] ≡ with_setting [] setting
set_none (ToLimit class limit wait) = refl
set_none (ToSale which closed) = refl
set_none (ToMarks marks) = refl

pub steps_set : (legs : List Steps) (leg : ℕ) (setting : Setting)
    → steps_at (leg_set legs leg setting) leg ≡ with_setting (steps_at legs leg) setting
steps_set [] leg setting = set_none setting
steps_set (steps ∷ legs) zero setting = refl
steps_set (steps ∷ legs) (suc leg) setting = steps_set legs leg setting

pub steps_other : (legs : List Steps) (leg : ℕ) (setting : Setting) (at : ℕ) → at ≢ leg
    → steps_at (leg_set legs leg setting) at ≡ steps_at legs at
steps_other [] leg setting at h = refl
steps_other (steps ∷ legs) zero setting zero h = absurd (h refl)
steps_other (steps ∷ legs) zero setting (suc at) h = refl
steps_other (steps ∷ legs) (suc leg) setting zero h = refl
steps_other (steps ∷ legs) (suc leg) setting (suc at) h = steps_other legs leg setting at (λ e. h (ap suc e))

-- ---- one leg of one flight

pub legs_set : (grid : Ladders) (flight leg : ℕ) (setting : Setting)
    → legs_of (ladders_set grid flight leg setting) flight
    ≡ leg_set (legs_of grid flight) leg setting
legs_set [] flight leg setting = refl
legs_set (legs ∷ flights) zero leg setting = refl
legs_set (legs ∷ flights) (suc flight) leg setting = legs_set flights flight leg setting

-- the legs of another flight stay
pub legs_other_set : (grid : Ladders) (flight leg : ℕ) (setting : Setting) (at : ℕ) → at ≢ flight
    → legs_of (ladders_set grid flight leg setting) at ≡ legs_of grid at
legs_other_set [] flight leg setting at h = refl
legs_other_set (legs ∷ flights) zero leg setting zero h = absurd (h refl)
legs_other_set (legs ∷ flights) zero leg setting (suc at) h = refl
legs_other_set (legs ∷ flights) (suc flight) leg setting zero h = refl
legs_other_set (legs ∷ flights) (suc flight) leg setting (suc at) h = legs_other_set flights flight leg setting at (λ e. h (ap suc e))

pub length_legs_set : (grid : Ladders) (flight leg : ℕ) (setting : Setting) (at : ℕ)
    → length (legs_of (ladders_set grid flight leg setting) at) ≡ length (legs_of grid at)
length_legs_set [] flight leg setting at = refl
length_legs_set (legs ∷ flights) zero leg setting zero = length_leg_set legs leg setting
length_legs_set (legs ∷ flights) zero leg setting (suc at) = refl
length_legs_set (legs ∷ flights) (suc flight) leg setting zero = refl
length_legs_set (legs ∷ flights) (suc flight) leg setting (suc at) = length_legs_set flights flight leg setting at

-- the ladder of the leg, and of the others
pub ladder_at_set : (grid : Ladders) (flight leg : ℕ) (setting : Setting)
    → ladder_at (ladders_set grid flight leg setting) flight leg
    ≡ with_setting (ladder_at grid flight leg) setting
ladder_at_set grid flight leg setting =
    ap (λ (legs : List Steps). steps_at legs leg) (legs_set grid flight leg setting) ∙ steps_set (legs_of grid flight) leg setting

pub ladder_other_leg_set : (grid : Ladders) (flight leg : ℕ) (setting : Setting) (at : ℕ) → at ≢ leg
    → ladder_at (ladders_set grid flight leg setting) flight at ≡ ladder_at grid flight at
ladder_other_leg_set grid flight leg setting at h =
    ap (λ (legs : List Steps). steps_at legs at) (legs_set grid flight leg setting) ∙ steps_other (legs_of grid flight) leg setting at h

pub ladder_other_flight_set : (grid : Ladders) (flight leg : ℕ) (setting : Setting) (f at : ℕ) → f ≢ flight
    → ladder_at (ladders_set grid flight leg setting) f at ≡ ladder_at grid f at
ladder_other_flight_set grid flight leg setting f at h = ap (λ (legs : List Steps). steps_at legs at) (legs_other_set grid flight leg setting f h)

-- what holds of the ladders as they were, and of the one that is set, holds of all
pub each_ladder_set : (P : ℕ → ℕ → Steps → Type 0) (grid : Ladders) (flight leg : ℕ) (setting : Setting)
    → ((f at : ℕ) → P f at (ladder_at grid f at))
    → P flight leg (with_setting (ladder_at grid flight leg) setting)
    → (f at : ℕ) → P f at (ladder_at (ladders_set grid flight leg setting) f at)
each_ladder_set P grid flight leg setting all here f at = of (f == flight) (at == leg) refl refl
  where
    of : (b c : Bool) → (f == flight) ≡ b → (at == leg) ≡ c
        → P f at (ladder_at (ladders_set grid flight leg setting) f at)
    of true true e g =
        let same_flight : flight ≡ f = sym (eqb-true f flight e) in
        let same_leg : leg ≡ at = sym (eqb-true at leg g) in
        let new = ladders_set grid flight leg setting in
        subst (λ (x : ℕ). P x at (ladder_at new x at)) same_flight
        (subst (λ (x : ℕ). P flight x (ladder_at new flight x)) same_leg (subst (λ (s : Steps). P flight leg s) (sym (ladder_at_set grid flight leg setting)) here))
    of true false e g =
        let same_flight : flight ≡ f = sym (eqb-true f flight e) in
        let new = ladders_set grid flight leg setting in
        subst (λ (x : ℕ). P x at (ladder_at new x at)) same_flight
        (subst (λ (s : Steps). P flight at s) (sym (ladder_other_leg_set grid flight leg setting at (eqb-false at leg g))) (all flight at))
    of false c e g = subst (λ (s : Steps). P f at s) (sym (ladder_other_flight_set grid flight leg setting f at (eqb-false f flight e))) (all f at)

-- ---- the same of a limit

pub leg_back : (legs : List Steps) (leg class limit wait : ℕ) (old : Step)
    → step_of (steps_at legs leg) class ≡ Some old
    → leg_set (leg_set legs leg (ToLimit class limit wait)) leg (ToLimit class old.limit old.wait) ≡ legs
leg_back [] leg class limit wait old h = refl
leg_back (steps ∷ legs) zero class limit wait old h = ap (λ (s : Steps). s ∷ legs) (back_with steps class limit wait old h)
leg_back (steps ∷ legs) (suc leg) class limit wait old h = ap (λ (l : List Steps). steps ∷ l) (leg_back legs leg class limit wait old h)

pub legs_with : (grid : Ladders) (flight leg class limit wait : ℕ)
    → legs_of (limits_with grid flight leg class limit wait) flight
    ≡ leg_set (legs_of grid flight) leg (ToLimit class limit wait)
legs_with grid flight leg class limit wait = legs_set grid flight leg (ToLimit class limit wait)

pub legs_other : (grid : Ladders) (flight leg class limit wait at : ℕ) → at ≢ flight
    → legs_of (limits_with grid flight leg class limit wait) at ≡ legs_of grid at
legs_other grid flight leg class limit wait at h = legs_other_set grid flight leg (ToLimit class limit wait) at h

pub length_legs : (grid : Ladders) (flight leg class limit wait at : ℕ)
    → length (legs_of (limits_with grid flight leg class limit wait) at) ≡ length (legs_of grid at)
length_legs grid flight leg class limit wait at = length_legs_set grid flight leg (ToLimit class limit wait) at

pub ladder_at_with : (grid : Ladders) (flight leg class limit wait : ℕ)
    → ladder_at (limits_with grid flight leg class limit wait) flight leg
    ≡ with_limit (ladder_at grid flight leg) class limit wait
ladder_at_with grid flight leg class limit wait = ladder_at_set grid flight leg (ToLimit class limit wait)

pub ladder_other_leg : (grid : Ladders) (flight leg class limit wait at : ℕ) → at ≢ leg
    → ladder_at (limits_with grid flight leg class limit wait) flight at ≡ ladder_at grid flight at
ladder_other_leg grid flight leg class limit wait at h = ladder_other_leg_set grid flight leg (ToLimit class limit wait) at h

pub ladder_other_flight : (grid : Ladders) (flight leg class limit wait f at : ℕ) → f ≢ flight
    → ladder_at (limits_with grid flight leg class limit wait) f at ≡ ladder_at grid f at
ladder_other_flight grid flight leg class limit wait f at h = ladder_other_flight_set grid flight leg (ToLimit class limit wait) f at h

pub each_ladder : (P : ℕ → ℕ → Steps → Type 0) (grid : Ladders) (flight leg class limit wait : ℕ)
    → ((f at : ℕ) → P f at (ladder_at grid f at))
    → P flight leg (with_limit (ladder_at grid flight leg) class limit wait)
    → (f at : ℕ) → P f at (ladder_at (limits_with grid flight leg class limit wait) f at)
each_ladder P grid flight leg class limit wait = each_ladder_set P grid flight leg (ToLimit class limit wait)

pub has_ladders_with : (grid : Ladders) (flight leg class limit wait : ℕ) → HasLadders grid
    → HasLadders (limits_with grid flight leg class limit wait)
has_ladders_with grid flight leg class limit wait all =
    each_ladder (λ _ _ s. IsDistinct s) grid flight leg class limit wait all (distinct_with (ladder_at grid flight leg) class limit wait (all flight leg))

-- the class stands on the same legs
pub has_class_at : (grid : Ladders) (flight leg class limit wait f at k : ℕ)
    → has_class (ladder_at (limits_with grid flight leg class limit wait) f at) k ≡ has_class (ladder_at grid f at) k
has_class_at grid flight leg class limit wait f at k =
    each_ladder (λ f at s. has_class s k ≡ has_class (ladder_at grid f at) k) grid flight leg class limit wait (λ f at. refl) (has_class_with (ladder_at grid flight leg) class limit wait k) f at

-- ---- what may be set

pub can_parts : (grid : Ladders) (seats : Table) (flight leg class limit wait : ℕ)
    → can_set grid seats flight leg class limit wait ≡ true
    → (wait ≤ 999) × (may_have (ladder_at grid flight leg) (seats flight leg) class limit ≡ true)
can_parts grid seats flight leg class limit wait h =
    let p = and_parts (nat_le wait 999) (may_have (ladder_at grid flight leg) (seats flight leg) class limit) h in
    (leb-true wait 999 p.0, p.1)

-- no seat is held beyond the limits after a limit is set
pub within_set : (grid : Ladders) (seats : Table) (flight leg class limit wait : ℕ)
    → can_set grid seats flight leg class limit wait ≡ true → ((f at : ℕ) → IsWithin (ladder_at grid f at) (seats f at))
    → (f at : ℕ) → IsWithin (ladder_at (limits_with grid flight leg class limit wait) f at) (seats f at)
within_set grid seats flight leg class limit wait h all =
    each_ladder (λ f at s. IsWithin s (seats f at)) grid flight leg class limit wait all
    (within_with (ladder_at grid flight leg) (seats flight leg) class limit wait (can_parts grid seats flight leg class limit wait h).1 (all flight leg))

-- ---- the old limit and wait again

pub limits_back : (grid : Ladders) (flight leg class limit wait : ℕ) (old : Step)
    → step_of (ladder_at grid flight leg) class ≡ Some old
    → limits_with (limits_with grid flight leg class limit wait) flight leg class old.limit old.wait ≡ grid
limits_back [] flight leg class limit wait old h = refl
limits_back (legs ∷ flights) zero leg class limit wait old h = ap (λ (l : List Steps). l ∷ flights) (leg_back legs leg class limit wait old h)
limits_back (legs ∷ flights) (suc flight) leg class limit wait old h = ap (λ (g : Ladders). legs ∷ g) (limits_back flights flight leg class limit wait old h)

pub can_set_back : (grid : Ladders) (seats : Table) (flight leg class limit wait : ℕ) (old : Step)
    → IsLegLadder (ladder_at grid flight leg) → IsWithin (ladder_at grid flight leg) (seats flight leg)
    → step_of (ladder_at grid flight leg) class ≡ Some old
    → can_set (limits_with grid flight leg class limit wait) seats flight leg class old.limit old.wait ≡ true
can_set_back grid seats flight leg class limit wait old is w h =
    let may = may_have_back (ladder_at grid flight leg) (seats flight leg) class limit wait old is w h in
    let here : may_have (ladder_at (limits_with grid flight leg class limit wait) flight leg) (seats flight leg) class old.limit ≡ true =
    ap (λ (s : Steps). may_have s (seats flight leg) class old.limit) (ladder_at_with grid flight leg class limit wait) ∙ may in
    let most = le-leb old.wait 999 (step_bounded (ladder_at grid flight leg) class old is.bounded h).1 in
    rw (most, here) refl

-- the limits that counters show of a leg are its steps
pub ladder_seen : (counts : Counted) (flight leg : ℕ)
    → ladder_at (limits_of counts) flight leg ≡ (leg_at counts flight leg).steps
ladder_seen [] flight leg = refl
ladder_seen (legs ∷ flights) zero leg = at_leg legs leg
  where
    at_leg : (legs : List LegSeats) (leg : ℕ)
        → steps_at (map (λ (l : LegSeats). l.steps) legs) leg ≡ (leg_in legs leg).steps
    at_leg [] leg = refl
    at_leg (l ∷ legs) zero = refl
    at_leg (l ∷ legs) (suc leg) = at_leg legs leg
ladder_seen (legs ∷ flights) (suc flight) leg = ladder_seen flights flight leg
