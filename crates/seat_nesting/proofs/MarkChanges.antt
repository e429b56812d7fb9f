-- Classes that are closed or opened: what that changes, and what stays.
use Rattle.std.proofs.Common.{◌≡◌, ◌≢◌, ◌==◌, ℕ, zero, suc, ◌+◌, ◌-◌, ◌<◌, ◌≤◌, min, Bool, true, false, if◌then◌else◌, cond, ◌&&◌, ◌||◌, Option, Some, None, List, [], ◌∷◌, ◌++◌, length, map, take, get_or, refl, ap, sym, subst, ◌∙◌, arith, rules}
use Rattle.std.specs.List.{AllByRecursion, list_any, refill}
use Rattle.std.proofs.lemmas.List.{length-map, length-take, map-append, take_all, take_more}
use Rattle.seat_nesting.specs.declared.ladder.Step.{Step}
use Rattle.seat_nesting.specs.Nesting.{Steps, ByClass, has_class, free_on, IsDistinct, IsNotRising, IsLadder, IsLegLadder, held_from, IsWithin, is_listed_on}
use Rattle.seat_nesting.specs.Counting.{count_at}
use Rattle.seat_nesting.specs.Changing.{closed_at, has_named, is_named, marked, with_marks, with_sale}
use Rattle.seat_nesting.proofs.Rooms.{held_cons}

-- ---- one step

abbrev remark : Step → Bool → Step
remark s closed = record s { closed = closed }

-- ---- closed and open as in other steps

pub length_marks : (steps marks : Steps) → length (with_marks steps marks) ≡ length steps
length_marks [] marks = refl
length_marks (s ∷ lower) [] = refl
length_marks (s ∷ lower) (t ∷ more) = ap suc (length_marks lower more)

-- what holds of each step
pub all_marks : (P : Step → Type 0) (steps marks : Steps) → ((s : Step) (closed : Bool) → P s → P (remark s closed))
    → AllByRecursion P steps → AllByRecursion P (with_marks steps marks)
all_marks P [] marks keeps all = tt
all_marks P (s ∷ lower) [] keeps all = all
all_marks P (s ∷ lower) (t ∷ more) keeps all = (keeps s t.closed all.0, all_marks P lower more keeps all.1)

pub distinct_marks : (steps marks : Steps) → IsDistinct steps → IsDistinct (with_marks steps marks)
distinct_marks [] marks h = tt
distinct_marks (s ∷ lower) [] h = h
distinct_marks (s ∷ lower) (t ∷ more) h =
    (all_marks (λ (u : Step). s.class ≢ u.class) lower more (λ u closed e. e) h.0, distinct_marks lower more h.1)

not_rising_marks : (steps marks : Steps) → IsNotRising steps → IsNotRising (with_marks steps marks)
not_rising_marks [] marks h = tt
not_rising_marks (s ∷ lower) [] h = h
not_rising_marks (s ∷ lower) (t ∷ more) h =
    (all_marks (λ (u : Step). u.limit ≤ s.limit) lower more (λ u closed e. e) h.0, not_rising_marks lower more h.1)

pub held_marks : (seats : ByClass) (steps marks : Steps)
    → held_from seats (with_marks steps marks) ≡ held_from seats steps
held_marks seats [] marks = refl
held_marks seats (s ∷ lower) [] = refl
held_marks seats (s ∷ lower) (t ∷ more) =
    held_cons seats (remark s t.closed) (with_marks lower more) ∙ ap (λ (n : ℕ). seats s.class + n) (held_marks seats lower more) ∙ sym (held_cons seats s lower)

pub count_marks : (steps marks : Steps) (held : List ℕ) (k : ℕ)
    → count_at (with_marks steps marks) held k ≡ count_at steps held k
count_marks [] marks held k = refl
count_marks (s ∷ lower) [] held k = refl
count_marks (s ∷ lower) (t ∷ more) [] k = refl
count_marks (s ∷ lower) (t ∷ more) (n ∷ rest) k = ap (λ (m : ℕ). if k == s.class then n else m) (count_marks lower more rest k)

pub within_marks : (steps marks : Steps) (seats : ByClass) → IsWithin steps seats
    → IsWithin (with_marks steps marks) seats
within_marks [] marks seats w = tt
within_marks (s ∷ lower) [] seats w = w
within_marks (s ∷ lower) (t ∷ more) seats w =
    (omega (arith, w.0, held_cons seats s lower, held_cons seats (remark s t.closed) (with_marks lower more), held_marks seats lower more), within_marks lower more seats w.1)

pub leg_ladder_marks : (steps marks : Steps) → IsLegLadder steps → IsLegLadder (with_marks steps marks)
leg_ladder_marks steps marks is = record {
  most = omega (arith, is.most, length_marks steps marks);
  distinct = distinct_marks steps marks is.distinct;
  not_rising = not_rising_marks steps marks is.not_rising;
  bounded = all_marks (λ (s : Step). (s.limit ≤ 999) × (s.wait ≤ 999)) steps marks (λ s closed e. e) is.bounded;
}

pub has_class_marks : (steps marks : Steps) (class : ℕ) → has_class (with_marks steps marks) class ≡ has_class steps class
has_class_marks [] marks class = refl
has_class_marks (s ∷ lower) [] class = refl
has_class_marks (s ∷ lower) (t ∷ more) class = ap (λ (b : Bool). (class == s.class) || b) (has_class_marks lower more class)

pub listed_marks : (steps marks : Steps) (class : ℕ) → is_listed_on (with_marks steps marks) class ≡ is_listed_on steps class
listed_marks [] marks class = refl
listed_marks (s ∷ lower) [] class = refl
listed_marks (s ∷ lower) (t ∷ more) class = ap (λ (b : Bool). if s.class == class then s.listed else b) (listed_marks lower more class)

-- what the limits leave knows no marks
pub free_marks : (steps marks : Steps) (seats : ByClass) (class : ℕ)
    → free_on (with_marks steps marks) seats class ≡ free_on steps seats class
free_marks [] marks seats class = refl
free_marks (s ∷ lower) [] seats class = refl
free_marks (s ∷ lower) (t ∷ more) seats class =
    rw (held_marks seats (s ∷ lower) (t ∷ more), free_marks lower more seats class) refl

-- as it was again
marks_same : (steps : Steps) → with_marks steps steps ≡ steps
marks_same [] = refl
marks_same (s ∷ lower) = ap (λ (l : Steps). s ∷ l) (marks_same lower)

pub marks_back : (steps marks : Steps) → with_marks (with_marks steps marks) steps ≡ steps
marks_back [] marks = refl
marks_back (s ∷ lower) [] = marks_same (s ∷ lower)
marks_back (s ∷ lower) (t ∷ more) = ap (λ (l : Steps). s ∷ l) (marks_back lower more)

-- ---- a class that is closed or opened is marked as in the steps after it

pub sale_marks : (steps : Steps) (which : Option ℕ) (closed : Bool)
    → with_sale steps which closed ≡ with_marks steps (with_sale steps which closed)
sale_marks [] which closed = refl
sale_marks (s ∷ lower) which closed = of (is_named which s.class) (sale_marks lower which closed)
  where
    of : (b : Bool) → with_sale lower which closed ≡ with_marks lower (with_sale lower which closed)
        → cond b (remark s closed) s ∷ with_sale lower which closed
        ≡ remark s (cond b (remark s closed) s).closed ∷ with_marks lower (with_sale lower which closed)
    of true h = ap (λ (l : Steps). remark s closed ∷ l) h
    of false h = ap (λ (l : Steps). s ∷ l) h

pub length_sale : (steps : Steps) (which : Option ℕ) (closed : Bool) → length (with_sale steps which closed) ≡ length steps
length_sale steps which closed = rw length-map refl

-- where a named class stands, there is a step
pub some_named : (steps : Steps) (which : Option ℕ) → has_named steps which ≡ true → 0 < length steps
some_named [] which h = absurd cc
some_named (s ∷ lower) which h = omega arith

-- ---- step by step

pub sale_push : (steps : Steps) (which : Option ℕ) (closed : Bool) (i : ℕ) (s : Step) (now : Steps) (x : Step) → i < length steps
    → s ≡ get_or steps i s → now ≡ with_sale (take i steps) which closed → x ≡ marked which closed s
    → now ++ x ∷ [] ≡ with_sale (take (i + 1) steps) which closed
sale_push steps which closed i s now x inside is e made =
    let last : x ∷ [] ≡ map (marked which closed) (s ∷ []) = ap (λ (y : Step). y ∷ []) made in
    let front : now ++ x ∷ [] ≡ with_sale (take i steps) which closed ++ map (marked which closed) (s ∷ []) =
    ap (λ (l : Steps). l ++ x ∷ []) e ∙ ap (λ (l : Steps). with_sale (take i steps) which closed ++ l) last in
    front ∙ sym (map-append (marked which closed) (take i steps) (s ∷ [])) ∙ ap (map (marked which closed)) (sym (take_more steps i s inside ∙ ap (λ (y : Step). take i steps ++ y ∷ []) (sym is)))

pub sale_none : (steps : Steps) (which : Option ℕ) (closed : Bool) → [] ≡ with_sale (take 0 steps) which closed
sale_none steps which closed = refl

pub marks_none : (steps marks : Steps) → [] ≡ take 0 (with_marks steps marks)
marks_none steps marks = refl

marks_at : (steps marks : Steps) (i : ℕ) (d : Step) → i < length steps
    → get_or (with_marks steps marks) i d
    ≡ remark (get_or steps i d) (closed_at marks i (get_or steps i d).closed)
marks_at [] marks i d inside = absurd (omega arith)
marks_at (s ∷ lower) [] i d inside = refl
marks_at (s ∷ lower) (t ∷ more) zero d inside = refl
marks_at (s ∷ lower) (t ∷ more) (suc i) d inside = marks_at lower more i d (omega arith)

pub marks_pushed : (steps marks now : Steps) (i : ℕ) (s x : Step) (closed : Bool) → i < length steps
    → s ≡ get_or steps i s → now ≡ take i (with_marks steps marks) → closed ≡ closed_at marks i s.closed
    → x ≡ record s { closed = closed } → now ++ x ∷ [] ≡ take (i + 1) (with_marks steps marks)
marks_pushed steps marks now i s x closed inside is e mark made =
    let there : i < length (with_marks steps marks) = omega (arith, inside, length_marks steps marks) in
    let step : x ≡ get_or (with_marks steps marks) i s =
    made ∙ ap (remark s) mark ∙ ap (λ (y : Step). remark y (closed_at marks i y.closed)) is ∙ sym (marks_at steps marks i s inside) in
    ap (λ (l : Steps). l ++ x ∷ []) e ∙ ap (λ (y : Step). take i (with_marks steps marks) ++ y ∷ []) step ∙ sym (take_more (with_marks steps marks) i s there)

pub marks_room : (steps marks now : Steps) (i : ℕ) → i < length steps → length steps ≤ 26
    → now ≡ take i (with_marks steps marks) → length now < 26
marks_room steps marks now i inside most e =
    let len = ap (λ (l : Steps). length l) e in
    let few = length-take i (with_marks steps marks) in
    omega (arith, inside, most, len, few, length_marks steps marks)

pub marks_all : (steps marks now : Steps) (i : ℕ) → now ≡ take i (with_marks steps marks) → length steps ≤ i
    → now ≡ with_marks steps marks
marks_all steps marks now i e past = e ∙ take_all i (with_marks steps marks) (omega (arith, past, length_marks steps marks))

pub sale_room : (steps now : Steps) (which : Option ℕ) (closed : Bool) (i : ℕ) → i < length steps → length steps ≤ 26
    → now ≡ with_sale (take i steps) which closed → length now < 26
sale_room steps now which closed i inside most e =
    let len = ap (λ (l : Steps). length l) e in
    let few = length-take i steps in
    omega (arith, inside, most, len, few, length_sale (take i steps) which closed)

pub sale_all : (steps now : Steps) (which : Option ℕ) (closed : Bool) (i : ℕ)
    → now ≡ with_sale (take i steps) which closed → length steps ≤ i → now ≡ with_sale steps which closed
sale_all steps now which closed i e past = e ∙ ap (λ (l : Steps). with_sale l which closed) (take_all i steps past)
