-- Courses are found by the numbers of their places.
use Rattle.std.proofs.Common.{◌≡◌, ◌==◌, ◌&&◌, ◌||◌, ℕ, suc, Bool, true, false, List, [], ◌∷◌, ◌++◌, ◌<◌, get_or, length, Option, Some, None, option_map, if◌then◌else◌, refl, sym, ap, subst, ◌∙◌}
use Rattle.std.specs.List.{slice_get}
use Rattle.std.specs.HashMap.{get}
use Rattle.std.specs.Prelude.{is_some}
use Rattle.std.proofs.lemmas.Bool.{eqb-true, eq-eqb, and_parts}
use Rattle.std.proofs.lemmas.Option.{slice_get-get_or}
use Rattle.airline_base.specs.declared.place.Place.{Place}
use Rattle.seat_rules.specs.Bookings.{same_place}
use Rattle.carry_protections.specs.ByPlace.{AreNumbers, Numbers, PutsNumber, SameNumbers, number_of, numbered, same_spot, spot_of}
use Rattle.carry_protections.specs.Courses.{has_course}
use Rattle.carry_protections.specs.Going.{course_for}
use Rattle.carry_protections.specs.declared.by_place.Spot.{Spot}
use Rattle.carry_protections.specs.declared.course.Course.{Course}

abbrev spot_at : ℕ → ℕ → ℕ → Spot
spot_at flight from to = record { flight = flight; from = from; to = to }

spot_is : (a b : Spot) → same_spot a b ≡ true → a ≡ b
spot_is a b h =
    let p = and_parts (a.flight == b.flight) ((a.from == b.from) && (a.to == b.to)) h in
    let q = and_parts (a.from == b.from) (a.to == b.to) p.1 in
    ap (λ (x : ℕ). spot_at x a.from a.to) (eqb-true a.flight b.flight p.0)
    ∙ ap (λ (x : ℕ). spot_at b.flight x a.to) (eqb-true a.from b.from q.0)
    ∙ ap (λ (x : ℕ). spot_at b.flight b.from x) (eqb-true a.to b.to q.1)

and_same : (a b c : Bool) → ((a && b) && c) ≡ (a && (b && c))
and_same true b c = refl
and_same false b c = refl

place_is : (p q : Place) → same_place p q ≡ same_spot (spot_of p) (spot_of q)
place_is p q = and_same (p.flight == q.flight) (p.from == q.from) (p.to == q.to)

spot_itself : (s : Spot) → same_spot s s ≡ true
spot_itself s = rw (eq-eqb s.flight s.flight refl, eq-eqb s.from s.from refl, eq-eqb s.to s.to refl) refl

-- ---- what the number of a place tells

behind : (c : Course) (courses : List Course) (o : Option ℕ) → numbered (c ∷ courses) (option_map suc o) ≡ numbered courses o
behind c courses None = refl
behind c courses (Some n) = refl

found_by : (courses : List Course) (p : Place) → numbered courses (number_of courses (spot_of p)) ≡ course_for courses p
found_by [] p = refl
found_by (c ∷ courses) p = by (same_spot (spot_of c.from) (spot_of p)) refl (found_by courses p) where
  by : (t : Bool) → same_spot (spot_of c.from) (spot_of p) ≡ t → numbered courses (number_of courses (spot_of p)) ≡ course_for courses p
      → numbered (c ∷ courses) (if same_spot (spot_of c.from) (spot_of p) then Some 0 else option_map suc (number_of courses (spot_of p)))
      ≡ (if same_place c.from p then Some c else course_for courses p)
  by true e rest =
      ap (λ (t : Bool). numbered (c ∷ courses) (if t then Some 0 else option_map suc (number_of courses (spot_of p)))) e
      ∙ sym (ap (λ (t : Bool). if t then Some c else course_for courses p) (place_is c.from p ∙ e))
  by false e rest =
      ap (λ (t : Bool). numbered (c ∷ courses) (if t then Some 0 else option_map suc (number_of courses (spot_of p)))) e
      ∙ behind c courses (number_of courses (spot_of p)) ∙ rest
      ∙ sym (ap (λ (t : Bool). if t then Some c else course_for courses p) (place_is c.from p ∙ e))

some_behind : (o : Option ℕ) → is_some (option_map suc o) ≡ is_some o
some_behind None = refl
some_behind (Some n) = refl

has_by : (courses : List Course) (p : Place) → is_some (number_of courses (spot_of p)) ≡ has_course courses p
has_by [] p = refl
has_by (c ∷ courses) p = by (same_spot (spot_of c.from) (spot_of p)) refl (has_by courses p) where
  by : (t : Bool) → same_spot (spot_of c.from) (spot_of p) ≡ t → is_some (number_of courses (spot_of p)) ≡ has_course courses p
      → is_some (if same_spot (spot_of c.from) (spot_of p) then Some 0 else option_map suc (number_of courses (spot_of p)))
      ≡ (same_place c.from p || has_course courses p)
  by true e rest =
      ap (λ (t : Bool). is_some (if t then Some 0 else option_map suc (number_of courses (spot_of p)))) e
      ∙ sym (ap (λ (t : Bool). t || has_course courses p) (place_is c.from p ∙ e))
  by false e rest =
      ap (λ (t : Bool). is_some (if t then Some 0 else option_map suc (number_of courses (spot_of p)))) e
      ∙ some_behind (number_of courses (spot_of p)) ∙ rest
      ∙ sym (ap (λ (t : Bool). t || has_course courses p) (place_is c.from p ∙ e))

-- ---- one course more

no_other : (a b : Bool) → (a || b) ≡ false → (a ≡ false) × (b ≡ false)
no_other true b h = absurd cc
no_other false b h = (refl, h)

number_of_it : (courses : List Course) (c : Course) → has_course courses c.from ≡ false
    → number_of (courses ++ c ∷ []) (spot_of c.from) ≡ Some (length courses)
number_of_it [] c none = ap (λ (t : Bool). if t then Some 0 else option_map suc None) (spot_itself (spot_of c.from))
number_of_it (x ∷ courses) c none =
    let both = no_other (same_place x.from c.from) (has_course courses c.from) none in
    ap (λ (t : Bool). if t then Some 0 else option_map suc (number_of (courses ++ c ∷ []) (spot_of c.from))) (sym (place_is x.from c.from) ∙ both.0)
    ∙ ap (λ (o : Option ℕ). option_map suc o) (number_of_it courses c both.1)

number_of_others : (courses : List Course) (c : Course) (s : Spot) → same_spot (spot_of c.from) s ≡ false
    → number_of (courses ++ c ∷ []) s ≡ number_of courses s
number_of_others [] c s other = ap (λ (t : Bool). if t then Some 0 else option_map suc None) other
number_of_others (x ∷ courses) c s other =
    ap (λ (o : Option ℕ). if same_spot (spot_of x.from) s then Some 0 else option_map suc o) (number_of_others courses c s other)

number_more : (courses : List Course) (c : Course) (s : Spot) → has_course courses c.from ≡ false
    → number_of (courses ++ c ∷ []) s ≡ (if same_spot (spot_of c.from) s then Some (length courses) else number_of courses s)
number_more courses c s none = by (same_spot (spot_of c.from) s) refl where
  by : (t : Bool) → same_spot (spot_of c.from) s ≡ t
      → number_of (courses ++ c ∷ []) s ≡ (if same_spot (spot_of c.from) s then Some (length courses) else number_of courses s)
  by true e =
      subst (λ (x : Spot). number_of (courses ++ c ∷ []) x ≡ Some (length courses)) (spot_is (spot_of c.from) s e) (number_of_it courses c none)
      ∙ sym (ap (λ (t : Bool). if t then Some (length courses) else number_of courses s) e)
  by false e =
      number_of_others courses c s e ∙ sym (ap (λ (t : Bool). if t then Some (length courses) else number_of courses s) e)

-- ---- the index

pub numbers_none : (numbers : Numbers) (courses : List Course) → numbers.entries ≡ [] → courses ≡ [] → AreNumbers numbers courses
numbers_none numbers courses none empty =
    subst (λ (l : List Course). AreNumbers numbers l) (sym empty) (record { at = λ s. rw none refl })

pub numbers_same : (old new : Numbers) (courses others : List Course) → AreNumbers old courses → SameNumbers old new → others ≡ courses
    → AreNumbers new others
numbers_same old new courses others are same is =
    subst (λ (l : List Course). AreNumbers new l) (sym is) (record { at = λ s. same.at s ∙ are.at s })

pub numbers_more : (old room new : Numbers) (courses more : List Course) (c : Course) (spot : Spot) (n : ℕ) → AreNumbers old courses
    → SameNumbers old room → has_course courses c.from ≡ false → more ≡ courses ++ c ∷ [] → spot ≡ spot_of c.from → n ≡ length courses
    → PutsNumber room new spot n → AreNumbers new more
numbers_more old room new courses more c spot n are same none added its behind puts =
    subst (λ (l : List Course). AreNumbers new l) (sym added) (record {
      at = λ s.
          puts.at s
          ∙ ap (λ (o : Option ℕ). if same_spot spot s then Some n else o) (same.at s ∙ are.at s)
          ∙ ap (λ (k : ℕ). if same_spot spot s then Some k else number_of courses s) behind
          ∙ ap (λ (x : Spot). if same_spot x s then Some (length courses) else number_of courses s) its
          ∙ sym (number_more courses c s none);
    })

-- ---- a look at it

pub row_there : (courses : List Course) (n : ℕ) (c : Course) → n < length courses → c ≡ get_or courses n c → Some c ≡ slice_get courses n
row_there courses n c inside here = sym (slice_get-get_or courses n c inside ∙ ap (λ (x : Course). Some x) (sym here))

pub has_it : (numbers : Numbers) (courses all : List Course) (p : Place) (o : Option ℕ) → AreNumbers numbers courses
    → o ≡ get same_spot numbers (spot_of p) → courses ≡ all → is_some o ≡ has_course all p
has_it numbers courses all p o are found same =
    ap (λ (x : Option ℕ). is_some x) (found ∙ are.at (spot_of p)) ∙ has_by courses p ∙ ap (λ (l : List Course). has_course l p) same

pub course_is : (numbers : Numbers) (courses all : List Course) (p : Place) (o : Option ℕ) → AreNumbers numbers courses
    → o ≡ get same_spot numbers (spot_of p) → courses ≡ all → numbered courses o ≡ course_for all p
course_is numbers courses all p o are found same =
    ap (numbered courses) (found ∙ are.at (spot_of p)) ∙ found_by courses p ∙ ap (λ (l : List Course). course_for l p) same
