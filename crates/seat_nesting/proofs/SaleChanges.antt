-- A class of a leg that is closed or opened: what that changes on the grid, and what stays.
use Rattle.std.proofs.Common.{◌≡◌, ◌≢◌, ◌==◌, ℕ, zero, suc, ◌+◌, ◌-◌, ◌<◌, ◌≤◌, min, Bool, true, false, not, cond, ◌&&◌, ◌||◌, nat_le, if◌then◌else◌, Option, List, [], ◌∷◌, length, refl, ap, sym, subst, ◌∙◌, arith}
use Rattle.std.specs.List.{AllByRecursion, list_any}
use Rattle.std.proofs.lemmas.Bool.{eqb-true, eqb-false, or_parts}
use Rattle.airline_base.specs.declared.place.Place.{Place}
use Rattle.seat_nesting.specs.declared.ladder.Step.{Step}
use Rattle.seat_nesting.specs.declared.setting.Setting.TheVariants.{ToSale, ToMarks}
use Rattle.seat_nesting.specs.Nesting.{Steps, Ladders, ByClass, Table, free, free_on, has_class, held_from, is_listed_on, is_open_on, ladder_at, least, legs_of, may_wait_on, room_on, HasLadders, IsDistinct, IsWithin}
use Rattle.seat_nesting.specs.Changing.{has_named, is_named, with_limit, ladders_set, leg_set, marked, marks_with, sales_with, with_marks, with_sale}
use Rattle.seat_nesting.proofs.LimitChanges.{each_ladder_set, ladder_at_set, ladder_other_flight_set, ladder_other_leg_set, length_legs_set}
use Rattle.seat_nesting.proofs.MarkChanges.{distinct_marks, free_marks, has_class_marks, held_marks, listed_marks, marks_back, sale_marks, within_marks}

-- ---- one leg

pub distinct_sale : (steps : Steps) (which : Option ℕ) (closed : Bool) → IsDistinct steps
    → IsDistinct (with_sale steps which closed)
distinct_sale steps which closed h = subst IsDistinct (sym (sale_marks steps which closed)) (distinct_marks steps (with_sale steps which closed) h)

pub has_class_sale : (steps : Steps) (which : Option ℕ) (closed : Bool) (class : ℕ)
    → has_class (with_sale steps which closed) class ≡ has_class steps class
has_class_sale steps which closed class =
    ap (λ (s : Steps). has_class s class) (sale_marks steps which closed) ∙ has_class_marks steps (with_sale steps which closed) class

pub listed_sale : (steps : Steps) (which : Option ℕ) (closed : Bool) (class : ℕ)
    → is_listed_on (with_sale steps which closed) class ≡ is_listed_on steps class
listed_sale steps which closed class =
    ap (λ (s : Steps). is_listed_on s class) (sale_marks steps which closed) ∙ listed_marks steps (with_sale steps which closed) class

pub held_sale : (seats : ByClass) (steps : Steps) (which : Option ℕ) (closed : Bool)
    → held_from seats (with_sale steps which closed) ≡ held_from seats steps
held_sale seats steps which closed = ap (held_from seats) (sale_marks steps which closed) ∙ held_marks seats steps (with_sale steps which closed)

pub free_sale : (steps : Steps) (which : Option ℕ) (closed : Bool) (seats : ByClass) (class : ℕ)
    → free_on (with_sale steps which closed) seats class ≡ free_on steps seats class
free_sale steps which closed seats class =
    ap (λ (s : Steps). free_on s seats class) (sale_marks steps which closed) ∙ free_marks steps (with_sale steps which closed) seats class

pub within_sale : (steps : Steps) (which : Option ℕ) (closed : Bool) (seats : ByClass) → IsWithin steps seats
    → IsWithin (with_sale steps which closed) seats
within_sale steps which closed seats w = subst (λ (s : Steps). IsWithin s seats) (sym (sale_marks steps which closed)) (within_marks steps (with_sale steps which closed) seats w)

-- ---- all legs

pub length_legs_sale : (grid : Ladders) (flight leg : ℕ) (which : Option ℕ) (closed : Bool) (at : ℕ)
    → length (legs_of (sales_with grid flight leg which closed) at) ≡ length (legs_of grid at)
length_legs_sale grid flight leg which closed at = length_legs_set grid flight leg (ToSale which closed) at

pub has_ladders_sale : (grid : Ladders) (flight leg : ℕ) (which : Option ℕ) (closed : Bool) → HasLadders grid
    → HasLadders (sales_with grid flight leg which closed)
has_ladders_sale grid flight leg which closed all =
    each_ladder_set (λ _ _ s. IsDistinct s) grid flight leg (ToSale which closed) all (distinct_sale (ladder_at grid flight leg) which closed (all flight leg))

pub has_class_sale_at : (grid : Ladders) (flight leg : ℕ) (which : Option ℕ) (closed : Bool) (f at k : ℕ)
    → has_class (ladder_at (sales_with grid flight leg which closed) f at) k ≡ has_class (ladder_at grid f at) k
has_class_sale_at grid flight leg which closed f at k =
    each_ladder_set (λ f at s. has_class s k ≡ has_class (ladder_at grid f at) k) grid flight leg (ToSale which closed) (λ f at. refl) (has_class_sale (ladder_at grid flight leg) which closed k) f at

pub within_sale_set : (grid : Ladders) (seats : Table) (flight leg : ℕ) (which : Option ℕ) (closed : Bool)
    → ((f at : ℕ) → IsWithin (ladder_at grid f at) (seats f at))
    → (f at : ℕ) → IsWithin (ladder_at (sales_with grid flight leg which closed) f at) (seats f at)
within_sale_set grid seats flight leg which closed all =
    each_ladder_set (λ f at s. IsWithin s (seats f at)) grid flight leg (ToSale which closed) all
    (within_sale (ladder_at grid flight leg) which closed (seats flight leg) (all flight leg))

free_on_sale : (grid : Ladders) (seats : Table) (flight leg : ℕ) (which : Option ℕ) (closed : Bool) (class f at : ℕ)
    → free_on (ladder_at (sales_with grid flight leg which closed) f at) (seats f at) class
    ≡ free_on (ladder_at grid f at) (seats f at) class
free_on_sale grid seats flight leg which closed class f at =
    each_ladder_set (λ f at s. free_on s (seats f at) class ≡ free_on (ladder_at grid f at) (seats f at) class) grid flight leg (ToSale which closed) (λ f at. refl)
    (free_sale (ladder_at grid flight leg) which closed (seats flight leg) class) f at

least_alike : (f g : ℕ → ℕ) (from n : ℕ) → ((x : ℕ) → f x ≡ g x) → least f from n ≡ least g from n
least_alike f g from zero h = h from
least_alike f g from (suc n) h = rw (least_alike f g from n h, h (from + suc n)) refl

-- the seats that the limits leave know no closed class
pub free_sale_set : (grid : Ladders) (seats : Table) (flight leg : ℕ) (which : Option ℕ) (closed : Bool) (place : Place) (class : ℕ)
    → free (sales_with grid flight leg which closed) seats place class ≡ free grid seats place class
free_sale_set grid seats flight leg which closed place class =
    ap (λ (n : ℕ). if nat_le place.from place.to then n else 0)
    (least_alike (λ at. free_on (ladder_at (sales_with grid flight leg which closed) place.flight at) (seats place.flight at) class)
    (λ at. free_on (ladder_at grid place.flight at) (seats place.flight at) class) place.from (place.to - place.from)
    (λ at. free_on_sale grid seats flight leg which closed class place.flight at))

-- ---- as it was again

steps_sale_back : (steps : Steps) (which : Option ℕ) (closed : Bool) → with_marks (with_sale steps which closed) steps ≡ steps
steps_sale_back steps which closed =
    ap (λ (s : Steps). with_marks s steps) (sale_marks steps which closed) ∙ marks_back steps (with_sale steps which closed)

legs_sale_back : (legs : List Steps) (leg : ℕ) (which : Option ℕ) (closed : Bool) (marks : Steps)
    → marks ≡ ladder_at (legs ∷ []) 0 leg
    → leg_set (leg_set legs leg (ToSale which closed)) leg (ToMarks marks) ≡ legs
legs_sale_back [] leg which closed marks e = refl
legs_sale_back (steps ∷ legs) zero which closed marks e =
    ap (λ (s : Steps). s ∷ legs) (ap (with_marks (with_sale steps which closed)) e ∙ steps_sale_back steps which closed)
legs_sale_back (steps ∷ legs) (suc leg) which closed marks e = ap (λ (l : List Steps). steps ∷ l) (legs_sale_back legs leg which closed marks e)

pub sales_back : (grid : Ladders) (flight leg : ℕ) (which : Option ℕ) (closed : Bool) (marks : Steps)
    → marks ≡ ladder_at grid flight leg
    → marks_with (sales_with grid flight leg which closed) flight leg marks ≡ grid
sales_back [] flight leg which closed marks e = refl
sales_back (legs ∷ flights) zero leg which closed marks e = ap (λ (l : List Steps). l ∷ flights) (legs_sale_back legs leg which closed marks e)
sales_back (legs ∷ flights) (suc flight) leg which closed marks e = ap (λ (g : Ladders). legs ∷ g) (sales_back flights flight leg which closed marks e)

-- ---- the leg itself, and those beside it

pub sale_here : (grid : Ladders) (flight leg : ℕ) (which : Option ℕ) (closed : Bool) (f at : ℕ) → flight ≡ f → leg ≡ at
    → ladder_at (sales_with grid flight leg which closed) f at ≡ with_sale (ladder_at grid f at) which closed
sale_here grid flight leg which closed f at e g =
    let P : ℕ → ℕ → Type 0 = λ x y. ladder_at (sales_with grid flight leg which closed) x y ≡ with_sale (ladder_at grid x y) which closed in
    subst (P f) g (subst (λ (x : ℕ). P x leg) e (ladder_at_set grid flight leg (ToSale which closed)))

pub sale_beside : (grid : Ladders) (flight leg : ℕ) (which : Option ℕ) (closed : Bool) (f at : ℕ) (b c : Bool)
    → (flight == f) ≡ b → (leg == at) ≡ c → (b && c) ≡ false
    → ladder_at (sales_with grid flight leg which closed) f at ≡ ladder_at grid f at
sale_beside grid flight leg which closed f at true true e g apart = absurd cc
sale_beside grid flight leg which closed f at true false e g apart =
    let same : flight ≡ f = eqb-true flight f e in
    let P : ℕ → Type 0 = λ x. ladder_at (sales_with grid flight leg which closed) x at ≡ ladder_at grid x at in
    subst P same (ladder_other_leg_set grid flight leg (ToSale which closed) at (λ h. eqb-false leg at g (sym h)))
sale_beside grid flight leg which closed f at false c e g apart =
    ladder_other_flight_set grid flight leg (ToSale which closed) f at (λ h. eqb-false flight f e (sym h))

-- ---- whether a class is open on a leg

-- a class that is named is closed
pub closed_named : (steps : Steps) (which : Option ℕ) (class : ℕ) → is_named which class ≡ true
    → is_open_on (with_sale steps which true) class ≡ false
closed_named [] which class named = refl
closed_named (s ∷ lower) which class named = of (is_named which s.class) (s.class == class) refl refl (closed_named lower which class named)
  where
    of : (b c : Bool) → is_named which s.class ≡ b → (s.class == class) ≡ c → is_open_on (with_sale lower which true) class ≡ false
        → is_open_on (cond b (record s { closed = true }) s ∷ with_sale lower which true) class ≡ false
    of true true e g h = rw g refl
    of true false e g h = rw g h
    of false true e g h =
        let same : s.class ≡ class = eqb-true s.class class g in
        let other : is_named which class ≡ false = ap (is_named which) (sym same) ∙ e in
        absurd (let no : true ≡ false = sym named ∙ other in cc)
    of false false e g h = rw g h

-- closing opens none
pub closed_stays : (steps : Steps) (which : Option ℕ) (class : ℕ) → is_open_on steps class ≡ false
    → is_open_on (with_sale steps which true) class ≡ false
closed_stays [] which class shut = refl
closed_stays (s ∷ lower) which class shut = of (is_named which s.class) (s.class == class) refl shut (closed_stays lower which class)
  where
    of : (b c : Bool) → (s.class == class) ≡ c → cond c (not s.closed) (is_open_on lower class) ≡ false
        → (is_open_on lower class ≡ false → is_open_on (with_sale lower which true) class ≡ false)
        → is_open_on (cond b (record s { closed = true }) s ∷ with_sale lower which true) class ≡ false
    of true true g e h = rw g refl
    of true false g e h = rw g (h e)
    of false true g e h = rw g e
    of false false g e h = rw g (h e)

-- a class that is not named stays as it is
pub unnamed_stays : (steps : Steps) (which : Option ℕ) (closed : Bool) (class : ℕ) → is_named which class ≡ false
    → is_open_on (with_sale steps which closed) class ≡ is_open_on steps class
unnamed_stays [] which closed class other = refl
unnamed_stays (s ∷ lower) which closed class other = of (is_named which s.class) (s.class == class) refl refl (unnamed_stays lower which closed class other)
  where
    of : (b c : Bool) → is_named which s.class ≡ b → (s.class == class) ≡ c
        → is_open_on (with_sale lower which closed) class ≡ is_open_on lower class
        → is_open_on (cond b (record s { closed = closed }) s ∷ with_sale lower which closed) class
        ≡ (if s.class == class then not s.closed else is_open_on lower class)
    of true true e g h =
        let same : s.class ≡ class = eqb-true s.class class g in
        let no : true ≡ false = sym e ∙ ap (is_named which) same ∙ other in
        absurd cc
    of true false e g h = rw g h
    of false true e g h = rw g refl
    of false false e g h = rw g h

-- a class that is named is not open where no named class stands
pub lacking_named : (steps : Steps) (which : Option ℕ) (class : ℕ) → has_named steps which ≡ false
    → is_named which class ≡ true → is_open_on steps class ≡ false
lacking_named [] which class lacks named = refl
lacking_named (s ∷ lower) which class lacks named =
    let p = or_parts (is_named which s.class) (has_named lower which) lacks in
    of (s.class == class) refl p.0 (lacking_named lower which class p.1 named)
  where
    of : (c : Bool) → (s.class == class) ≡ c → is_named which s.class ≡ false → is_open_on lower class ≡ false
        → is_open_on (s ∷ lower) class ≡ false
    of true g e h =
        let same : s.class ≡ class = eqb-true s.class class g in
        let no : true ≡ false = sym named ∙ ap (is_named which) (sym same) ∙ e in
        absurd cc
    of false g e h = rw g h

-- a limit opens and closes none
pub open_with : (steps : Steps) (class limit wait k : ℕ)
    → is_open_on (with_limit steps class limit wait) k ≡ is_open_on steps k
open_with [] class limit wait k = refl
open_with (s ∷ lower) class limit wait k = of (s.class == class) (open_with lower class limit wait k)
  where
    of : (b : Bool) → is_open_on (with_limit lower class limit wait) k ≡ is_open_on lower k
        → is_open_on (cond b (record s { limit = limit; wait = wait } ∷ lower) (s ∷ with_limit lower class limit wait)) k
        ≡ is_open_on (s ∷ lower) k
    of true h = refl
    of false h = ap (λ (b : Bool). if s.class == k then not s.closed else b) h

-- ---- a closed class has no room

pub shut_room : (steps : Steps) (seats : ByClass) (class : ℕ) → is_open_on steps class ≡ false
    → room_on steps seats class ≡ 0
shut_room [] seats class shut = refl
shut_room (s ∷ lower) seats class shut = of (s.class == class) s.closed (s.limit - held_from seats (s ∷ lower)) shut (shut_room lower seats class)
  where
    of : (b c : Bool) (here : ℕ) → cond b (not c) (is_open_on lower class) ≡ false
        → (is_open_on lower class ≡ false → room_on lower seats class ≡ 0)
        → cond b (cond c 0 here) (min here (room_on lower seats class)) ≡ 0
    of true true here e h = refl
    of true false here e h = absurd cc
    of false c here e h = omega (arith, h e)
