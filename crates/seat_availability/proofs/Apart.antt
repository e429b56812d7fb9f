-- No segment stands twice.
use Rattle.std.proofs.Common.{◌≡◌, ◌==◌, ◌&&◌, ℕ, ◌+◌, ◌≤◌, Bool, true, false, List, [], ◌∷◌, ◌++◌, map, drop, arith, if◌then◌else◌, refl, sym, ap, ◌∙◌}
use Rattle.std.specs.List.{AllByRecursion}
use Rattle.std.proofs.lemmas.Bool.{and_parts, eq-eqb}
use Rattle.airline_base.specs.declared.place.Place.{Place}
use Rattle.ssim_flights.specs.declared.flight.DatedLeg.{DatedLeg}
use Rattle.ssim_flights.specs.declared.flight.Flight.{Flight as Flown}
use Rattle.seat_nesting.specs.Nesting.{HasLadders, IsDistinct, Ladders, LacksClass, Steps, ladder_at}
use Rattle.seat_nesting.specs.declared.ladder.Step.{Step}
use Rattle.seat_rules.specs.Bookings.{same_place}
use Rattle.seat_rules.proofs.History.Faults.{place_same, nat_same}
use Rattle.seat_questions.specs.Rooms.{is_shown, place_of, run_of}
use Rattle.seat_lists.specs.Picking.{keeps_flight}
use Rattle.seat_availability.specs.Messages.{AreApart, SegmentsStandOnce, each_from, rooms_asked, same_segment, segment_in, segment_of, segments_from, segments_of_flight, segments_of_legs, segments_of_run, segments_to}
use Rattle.seat_availability.specs.declared.segments.Asked.{Asked}
use Rattle.seat_availability.specs.declared.segments.Segment.{Segment}

-- ---- what holds of each

module _ {A : Type 0} where
  all_more : (P : A → Type 0) (xs ys : List A) → AllByRecursion P xs → AllByRecursion P ys → AllByRecursion P (xs ++ ys)
  all_more P [] ys a b = b
  all_more P (x ∷ xs) ys a b = (a.0, all_more P xs ys a.1 b)

  all_so : (P Q : A → Type 0) → ((x : A) → P x → Q x) → (xs : List A) → AllByRecursion P xs → AllByRecursion Q xs
  all_so P Q so [] a = tt
  all_so P Q so (x ∷ xs) a = (so x a.0, all_so P Q so xs a.1)

module _ {A B : Type 0} where
  all_of : (P : B → Type 0) (g : A → B) → ((x : A) → P (g x)) → (xs : List A) → AllByRecursion P (map g xs)
  all_of P g each [] = tt
  all_of P g each (x ∷ xs) = (each x, all_of P g each xs)

  all_from : (P : B → Type 0) (part : ℕ → A → List B) → ((i : ℕ) (x : A) → AllByRecursion P (part i x)) → (n : ℕ) (xs : List A)
      → AllByRecursion P (each_from part n xs)
  all_from P part each n [] = tt
  all_from P part each n (x ∷ xs) = all_more P (part n x) (each_from part (n + 1) xs) (each n x) (all_from P part each (n + 1) xs)

-- ---- two segments

not_itself : (a b : ℕ) → (a ≡ b → ⊥) → (a == b) ≡ false
not_itself a b never = cases (a == b) refl where
  cases : (t : Bool) → (a == b) ≡ t → (a == b) ≡ false
  cases true e = absurd (never (nat_same a b e))
  cases false e = e

-- whatever tells two places apart
differ : (tag : Place → ℕ) (a b : Segment) → (tag a.place ≡ tag b.place → ⊥) → same_segment a b ≡ false
differ tag a b never = cases (same_segment a b) refl where
  cases : (t : Bool) → same_segment a b ≡ t → same_segment a b ≡ false
  cases true e = absurd (never (ap tag (place_same a.place b.place (and_parts (same_place a.place b.place) (a.class == b.class) e).0)))
  cases false e = e

other_class : (p : Bool) (a b : ℕ) → (a ≡ b → ⊥) → (p && (a == b)) ≡ false
other_class true a b never = not_itself a b never
other_class false a b never = refl

pub same_itself : (k : Segment) → same_segment k k ≡ true
same_itself k =
    rw (eq-eqb k.place.flight k.place.flight refl, eq-eqb k.place.from k.place.from refl, eq-eqb k.place.to k.place.to refl, eq-eqb k.class k.class refl) refl

pub flip : (a b : Segment) → same_segment a b ≡ false → same_segment b a ≡ false
flip a b e = cases (same_segment b a) refl where
  untrue : false ≡ true → ⊥
  untrue h = cc

  cases : (t : Bool) → same_segment b a ≡ t → same_segment b a ≡ false
  cases true h =
      let parts = and_parts (same_place b.place a.place) (b.class == a.class) h in
      let place : b.place ≡ a.place = place_same b.place a.place parts.0 in
      let class : b.class ≡ a.class = nat_same b.class a.class parts.1 in
      absurd (untrue (sym e
      ∙ ap (λ (q : Place). same_place a.place q && (a.class == b.class)) place
      ∙ ap (λ (c : ℕ). same_place a.place a.place && (a.class == c)) class
      ∙ same_itself a))
  cases false h = h

-- ---- lists of segments

apart_more : (xs ys : List Segment) → AreApart xs → AreApart ys → AllByRecursion (λ x. AllByRecursion (λ y. same_segment x y ≡ false) ys) xs
    → AreApart (xs ++ ys)
apart_more [] ys a b c = b
apart_more (x ∷ xs) ys a b c = (all_more (λ y. same_segment x y ≡ false) xs ys a.0 c.0, apart_more xs ys a.1 b c.1)

-- parts that a number of their places tells apart
module _ {A : Type 0} (tag : Place → ℕ) (part : ℕ → A → List Segment) (apart : (i : ℕ) (x : A) → AreApart (part i x))
    (tagged : (i : ℕ) (x : A) → AllByRecursion (λ k. tag k.place ≡ i) (part i x)) where
  from_here : (n : ℕ) (xs : List A) → AllByRecursion (λ k. n ≤ tag k.place) (each_from part n xs)
  from_here n [] = tt
  from_here n (x ∷ xs) =
      all_more (λ k. n ≤ tag k.place) (part n x) (each_from part (n + 1) xs)
      (all_so (λ k. tag k.place ≡ n) (λ k. n ≤ tag k.place) (λ (k : Segment) (e : tag k.place ≡ n). omega (arith, e)) (part n x) (tagged n x))
      (all_so (λ k. n + 1 ≤ tag k.place) (λ k. n ≤ tag k.place) (λ (k : Segment) (e : n + 1 ≤ tag k.place). omega (arith, e)) (each_from part (n + 1) xs) (from_here (n + 1) xs))

  below : (n : ℕ) (a b : Segment) → tag a.place ≡ n → n + 1 ≤ tag b.place → tag a.place ≡ tag b.place → ⊥
  below n a b here there same = omega (arith, here, there, same)

  pub each_apart : (n : ℕ) (xs : List A) → AreApart (each_from part n xs)
  each_apart n [] = tt
  each_apart n (x ∷ xs) =
      apart_more (part n x) (each_from part (n + 1) xs) (apart n x) (each_apart (n + 1) xs)
      (all_so (λ k. tag k.place ≡ n) (λ k. AllByRecursion (λ y. same_segment k y ≡ false) (each_from part (n + 1) xs)) others (part n x) (tagged n x))
    where
      others : (k : Segment) → tag k.place ≡ n → AllByRecursion (λ y. same_segment k y ≡ false) (each_from part (n + 1) xs)
      others k e =
          all_so (λ y. n + 1 ≤ tag y.place) (λ y. same_segment k y ≡ false) (λ (y : Segment) (le : n + 1 ≤ tag y.place). differ tag k y (below n k y e le))
          (each_from part (n + 1) xs) (from_here (n + 1) xs)

-- ---- the segments of a place

module _ (flight : Flown) (place : Place) (run : DatedLeg) where
  other_classes : (s : Step) (lower : Steps) → LacksClass s.class lower
      → AllByRecursion (λ x. same_segment (segment_of flight place run s) x ≡ false) (map (segment_of flight place run) lower)
  other_classes s [] lacks = tt
  other_classes s (t ∷ lower) lacks = (other_class (same_place place place) s.class t.class lacks.0, other_classes s lower lacks.1)

  classes_apart : (steps : Steps) → IsDistinct steps → AreApart (map (segment_of flight place run) steps)
  classes_apart [] distinct = tt
  classes_apart (s ∷ lower) distinct = (other_classes s lower distinct.0, classes_apart lower distinct.1)

module _ (flights : List Flown) (asked : Asked) (grid : Ladders) where
  run_all : (P : Segment → Type 0) (flight : Flown) (place : Place) (run : DatedLeg) → ((class : ℕ) → P (segment_in flight place run class))
      → AllByRecursion P (segments_of_run flights asked grid flight place run)
  run_all P flight place run each = cases (is_shown flights (rooms_asked asked) flight place run) where
    cases : (b : Bool) → AllByRecursion P (if b then map (segment_of flight place run) (ladder_at grid place.flight place.from) else [])
    cases true = all_of P (segment_of flight place run) (λ (s : Step). each s.class) (ladder_at grid place.flight place.from)
    cases false = tt

  run_apart : HasLadders grid → (flight : Flown) (place : Place) (run : DatedLeg) → AreApart (segments_of_run flights asked grid flight place run)
  run_apart ladders flight place run = cases (is_shown flights (rooms_asked asked) flight place run) where
    cases : (b : Bool) → AreApart (if b then map (segment_of flight place run) (ladder_at grid place.flight place.from) else [])
    cases true = classes_apart flight place run (ladder_at grid place.flight place.from) (ladders place.flight place.from)
    cases false = tt

  -- ---- those of a leg, of a flight

  leg_all : (P : Segment → Type 0) (i : ℕ) (flight : Flown) (from : ℕ) (first : DatedLeg)
      → ((to : ℕ) (run : DatedLeg) (class : ℕ) → P (segment_in flight (place_of i from to) run class))
      → AllByRecursion P (segments_from flights asked grid i flight from first)
  leg_all P i flight from first each =
      all_from P (segments_to flights asked grid i flight from first)
      (λ (to : ℕ) (last : DatedLeg). run_all P flight (place_of i from to) (run_of first last) (each to (run_of first last))) from (drop from flight.legs)

  leg_apart : HasLadders grid → (i : ℕ) (flight : Flown) (from : ℕ) (first : DatedLeg) → AreApart (segments_from flights asked grid i flight from first)
  leg_apart ladders i flight from first =
      each_apart (λ p. p.to) (segments_to flights asked grid i flight from first)
      (λ (to : ℕ) (last : DatedLeg). run_apart ladders flight (place_of i from to) (run_of first last))
      (λ (to : ℕ) (last : DatedLeg). run_all (λ k. k.place.to ≡ to) flight (place_of i from to) (run_of first last) (λ (class : ℕ). refl))
      from (drop from flight.legs)

  legs_all : (i : ℕ) (flight : Flown) → AllByRecursion (λ k. k.place.flight ≡ i) (segments_of_legs flights asked grid i flight)
  legs_all i flight =
      all_from (λ k. k.place.flight ≡ i) (segments_from flights asked grid i flight)
      (λ (from : ℕ) (first : DatedLeg). leg_all (λ k. k.place.flight ≡ i) i flight from first (λ (to : ℕ) (run : DatedLeg) (class : ℕ). refl)) 0 flight.legs

  legs_apart : HasLadders grid → (i : ℕ) (flight : Flown) → AreApart (segments_of_legs flights asked grid i flight)
  legs_apart ladders i flight =
      each_apart (λ p. p.from) (segments_from flights asked grid i flight) (leg_apart ladders i flight)
      (λ (from : ℕ) (first : DatedLeg). leg_all (λ k. k.place.from ≡ from) i flight from first (λ (to : ℕ) (run : DatedLeg) (class : ℕ). refl))
      0 flight.legs

  flight_all : (i : ℕ) (flight : Flown) → AllByRecursion (λ k. k.place.flight ≡ i) (segments_of_flight flights asked grid i flight)
  flight_all i flight = cases (keeps_flight asked.flight flight) where
    cases : (b : Bool) → AllByRecursion (λ k. k.place.flight ≡ i) (if b then segments_of_legs flights asked grid i flight else [])
    cases true = legs_all i flight
    cases false = tt

  flight_apart : HasLadders grid → (i : ℕ) (flight : Flown) → AreApart (segments_of_flight flights asked grid i flight)
  flight_apart ladders i flight = cases (keeps_flight asked.flight flight) where
    cases : (b : Bool) → AreApart (if b then segments_of_legs flights asked grid i flight else [])
    cases true = legs_apart ladders i flight
    cases false = tt

pub segments_stand_once : SegmentsStandOnce
segments_stand_once flights asked grid ladders =
    each_apart (λ p. p.flight) (segments_of_flight flights asked grid) (flight_apart flights asked grid ladders) (flight_all flights asked grid) 0 flights
