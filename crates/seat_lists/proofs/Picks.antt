-- The bookings that pass a test, one number after the other.
use Rattle.std.proofs.Common.{◌≡◌, ◌==◌, ◌&&◌, ◌≤◌, ◌<◌, ◌+◌, ℕ, zero, suc, Bool, true, false, nat_eq, nat_le, List, [], ◌∷◌, ◌++◌, length, filter, Option, Some, None, IfSome, IfNone, OnOk, Bor, Result, Ok, Err, ◌⊎◌, inl, inr, slice_get, get_or, nat_lt, Less, Equal, Greater, if◌then◌else◌, arith, refl, sym, ap, subst, ◌∙◌}
use Rattle.seat_lists.proofs.Common.{Place, Ladders, Entry, Seats, replay, Booking}
use Rattle.std.specs.List.{AllByRecursion}
use Rattle.std.specs.List.{HoldsAt}
use Rattle.std.specs.List.Sorted.{IsBinarySearchResult, IsNonDecreasingBy, IsPartitionPoint, IsSearchInRange}
use Rattle.std.specs.Ordering.{nat_cmp, ordering_index}
use Rattle.std.proofs.lemmas.Bool.Decides.{nat_tests}
use Rattle.std.proofs.lemmas.Cmp.{ranked}
use Rattle.std.proofs.lemmas.List.{append-nil}
use Rattle.std.proofs.lemmas.List.Elements.{All-from_recursion, recursion_from_All}
use Rattle.std.proofs.lemmas.Option.{same_Some, slice_get_read}
use Rattle.seat_rules.specs.Applying.{IsOrdered}
use Rattle.seat_rules.specs.Flights.{bookings_on}
use Rattle.seat_rules.specs.Journal.{IsLegal, IsNext}
use Rattle.seat_rules.proofs.Filters.{all_pass, ordered_pass}
use Rattle.seat_rules.proofs.History.Legal.{each_legal}
use Rattle.seat_rules.proofs.Passes.Quiet.{all_map}
use Rattle.seat_rules.proofs.Step.Effect.{replay_is_numbered}
use Rattle.seat_desk.specs.Loading.{IsGridOf}
use Rattle.ssim_flights.specs.declared.flight.Flight.{Flight as Flown}
use Rattle.seat_lists.proofs.Making.{has_place, replay_is_made}
use Rattle.seat_lists.specs.Picking.{IsLine, IsMade, IsThere, chosen_at, chosen_up_to, numbered, place_asked}

module _ {A : Type 0} where
  filter_none : (p : A → Bool) (xs : List A) → AllByRecursion (λ x. p x ≡ false) xs → filter p xs ≡ []
  filter_none p [] a = refl
  filter_none p (x ∷ xs) a = rw (a.0) (filter_none p xs a.1)

  filter_same : (p q : A → Bool) (xs : List A) → AllByRecursion (λ x. p x ≡ q x) xs → filter p xs ≡ filter q xs
  filter_same p q [] a = refl
  filter_same p q (x ∷ xs) a = cases (q x) refl (a.0) (filter_same p q xs a.1) where
    cases : (t : Bool) → q x ≡ t → p x ≡ q x → filter p xs ≡ filter q xs → filter p (x ∷ xs) ≡ filter q (x ∷ xs)
    cases true e s rest = rw (s, e, rest) refl
    cases false e s rest = rw (s, e, rest) refl

  filter_both : (p q : A → Bool) (xs : List A) → filter (λ x. p x && q x) xs ≡ filter p (filter q xs)
  filter_both p q [] = refl
  filter_both p q (x ∷ xs) = cases (q x) (p x) refl refl (filter_both p q xs) where
    cases : (t u : Bool) → q x ≡ t → p x ≡ u → filter (λ y. p y && q y) xs ≡ filter p (filter q xs)
        → filter (λ y. p y && q y) (x ∷ xs) ≡ filter p (filter q (x ∷ xs))
    cases true true e f rest = rw (f, e) (rw f (ap (λ (l : List A). x ∷ l) rest))
    cases true false e f rest = rw (f, e) (rw f rest)
    cases false true e f rest = rw (f, e) rest
    cases false false e f rest = rw (f, e) rest

-- those later than n have no part in the numbers up to n
later_none : (test : Booking → Bool) (n : ℕ) (bs : List Booking) → AllByRecursion (λ x. n < x.number) bs
    → (chosen_up_to test n bs ≡ []) × (chosen_at test n bs ≡ [])
later_none test n [] a = (refl, refl)
later_none test n (b ∷ bs) a = cases (test b) refl (a.0) (later_none test n bs a.1) where
  cases : (t : Bool) → test b ≡ t → n < b.number → (chosen_up_to test n bs ≡ []) × (chosen_at test n bs ≡ [])
      → (chosen_up_to test n (b ∷ bs) ≡ []) × (chosen_at test n (b ∷ bs) ≡ [])
  cases true e lt rest =
      let over : nat_le b.number n ≡ false = grind (arith, nat_tests) in
      let other : (b.number == n) ≡ false = grind (arith, nat_tests) in
      (rw (e, over) rest.0, rw (e, other) rest.1)
  cases false e lt rest = (rw e rest.0, rw e rest.1)

-- one number more
up_to_next : (test : Booking → Bool) (n : ℕ) (bs : List Booking) → IsOrdered bs
    → chosen_up_to test (n + 1) bs ≡ chosen_up_to test n bs ++ chosen_at test (n + 1) bs
up_to_next test n [] o = refl
up_to_next test n (b ∷ bs) o = cases (test b) (nat_le b.number n) (b.number == n + 1) refl refl refl (o.0) (up_to_next test n bs o.1) where
  cases : (t u w : Bool) → test b ≡ t → nat_le b.number n ≡ u → (b.number == n + 1) ≡ w
      → AllByRecursion (λ x. b.number < x.number) bs
      → chosen_up_to test (n + 1) bs ≡ chosen_up_to test n bs ++ chosen_at test (n + 1) bs
      → chosen_up_to test (n + 1) (b ∷ bs) ≡ chosen_up_to test n (b ∷ bs) ++ chosen_at test (n + 1) (b ∷ bs)
  cases false u w e f g later rest = rw e rest
  cases true true w e f g later rest =
      let le : nat_le b.number (n + 1) ≡ true = grind (arith, nat_tests) in
      let other : (b.number == n + 1) ≡ false = grind (arith, nat_tests) in
      rw (e, f, le, other, rest) refl
  cases true false true e f g later rest =
      let le : nat_le b.number (n + 1) ≡ true = grind (arith, nat_tests) in
      let same : b.number ≡ n + 1 = grind (arith, nat_tests) in
      let none = later_none test (n + 1) bs (all_map (λ x. b.number < x.number) (λ x. n + 1 < x.number) bs (λ x lt. omega arith) later) in
      let none_before = later_none test n bs (all_map (λ x. b.number < x.number) (λ x. n < x.number) bs (λ x lt. omega arith) later) in
      rw (e, f, le, g, none.0, none.1, none_before.0) refl
  cases true false false e f g later rest =
      let over : nat_le b.number (n + 1) ≡ false = grind (arith, nat_tests) in
      rw (e, f, over, g, rest) refl

-- no number is 0
up_to_zero : (grid : Ladders) (journal : List Entry) (test : Booking → Bool) (bs : List Booking)
    → AllByRecursion (IsMade grid journal) bs → chosen_up_to test 0 bs ≡ []
up_to_zero grid journal test bs made =
    (later_none test 0 bs (all_map (IsMade grid journal) (λ x. 0 < x.number) bs (λ x m. omega (arith, m.number_is)) made)).0

-- and none is above the last line's
up_to_last : (test : Booking → Bool) (n : ℕ) (bs : List Booking) → AllByRecursion (λ b. b.number ≤ n) bs
    → chosen_up_to test n bs ≡ filter test bs
up_to_last test n bs a = filter_same (λ b. test b && nat_le b.number n) test bs
    (all_map (λ b. b.number ≤ n) (λ b. (test b && nat_le b.number n) ≡ test b) bs (λ b le. within b le (test b) refl) a)
  where
    within : (b : Booking) → b.number ≤ n → (t : Bool) → test b ≡ t → (test b && nat_le b.number n) ≡ test b
    within b le true e = let small : nat_le b.number n ≡ true = grind (arith, nat_tests) in rw (e, small) refl
    within b le false e = rw e refl

-- ---- the booking that a line made

same_line : (journal : List Entry) (i line : ℕ) (e entry : Entry) → slice_get journal i ≡ Some e
    → slice_get journal line ≡ Some entry → line ≡ i → e ≡ entry
same_line journal i line e entry at there is = cc

place_made : (grid : Ladders) (journal : List Entry) (i : ℕ) (e : Entry) (b : Booking) → slice_get journal i ≡ Some e
    → IsMade grid journal b → b.number ≡ i + 1 → place_asked e.work ≡ Some b.place
place_made grid journal i e b at m n =
    let same : e ≡ m.entry = same_line journal i m.line e m.entry at m.is_entry (omega (arith, m.number_is)) in
    let work : e.work ≡ Seats m.command = ap (λ (x : Entry). x.work) same ∙ m.is_command in
    rw work m.place_is

-- the line asks for no place, so it made no booking
numbered_unasked : (grid : Ladders) (journal : List Entry) (i : ℕ) (e : Entry) (bs : List Booking)
    → AllByRecursion (IsMade grid journal) bs → slice_get journal i ≡ Some e → place_asked e.work ≡ None
    → numbered (i + 1) bs ≡ []
numbered_unasked grid journal i e bs made at none =
    filter_none (λ b. b.number == i + 1) bs (all_map (IsMade grid journal) (λ b. (b.number == i + 1) ≡ false) bs (λ b m. other b m (b.number == i + 1) refl) made)
  where
    other : (b : Booking) → IsMade grid journal b → (t : Bool) → (b.number == i + 1) ≡ t → (b.number == i + 1) ≡ false
    other b m false f = f
    other b m true f =
        let n : b.number ≡ i + 1 = grind (arith, nat_tests) in
        let asks : place_asked e.work ≡ Some b.place = place_made grid journal i e b at m n in
        absurd cc

-- it asks for one, so the booking that it made is on that flight
numbered_asked : (grid : Ladders) (journal : List Entry) (i : ℕ) (e : Entry) (place : Place) (bs : List Booking)
    → AllByRecursion (IsMade grid journal) bs → slice_get journal i ≡ Some e → place_asked e.work ≡ Some place
    → numbered (i + 1) bs ≡ numbered (i + 1) (bookings_on place.flight bs)
numbered_asked grid journal i e place [] made at asks = refl
numbered_asked grid journal i e place (b ∷ bs) made at asks =
    cases (b.number == i + 1) (b.place.flight == place.flight) refl refl (numbered_asked grid journal i e place bs made.1 at asks)
  where
    is_place : b.number ≡ i + 1 → b.place ≡ place
    is_place n =
        let here : place_asked e.work ≡ Some b.place = place_made grid journal i e b at made.0 n in
        cc

    cases : (t w : Bool) → (b.number == i + 1) ≡ t → (b.place.flight == place.flight) ≡ w
        → numbered (i + 1) bs ≡ numbered (i + 1) (bookings_on place.flight bs)
        → numbered (i + 1) (b ∷ bs) ≡ numbered (i + 1) (bookings_on place.flight (b ∷ bs))
    cases true true f h rest = rw (f, h) (rw f (ap (λ (l : List Booking). b ∷ l) rest))
    cases true false f h rest =
        let n : b.number ≡ i + 1 = grind (arith, nat_tests) in
        let same : b.place.flight ≡ place.flight = ap (λ (p : Place). p.flight) (is_place n) in
        let no : ⊥ = grind (arith, nat_tests) in
        absurd no
    cases false true f h rest = rw (f, h) (rw f rest)
    cases false false f h rest = rw (f, h) rest

-- ---- one number among bookings in order

-- no booking has the number
pub no_number : (n : ℕ) (bs : List Booking) → AllByRecursion (λ b. (b.number == n) ≡ false) bs → numbered n bs ≡ []
no_number n bs a = filter_none (λ b. b.number == n) bs a

-- the one that has it is the only one
one_number : (n : ℕ) (bs : List Booking) (k : ℕ) (d : Booking) → IsOrdered bs → k < length bs
    → (get_or bs k d).number ≡ n → numbered n bs ≡ get_or bs k d ∷ []
one_number n [] k d o inside is = absurd (omega arith)
one_number n (x ∷ bs) zero d o inside is =
    let number : (x.number == n) ≡ true = grind (arith, nat_tests) in
    let none = no_number n bs (all_map (λ y. x.number < y.number) (λ y. (y.number == n) ≡ false) bs (λ y lt. later y lt) o.0) in
    rw (number, none) refl
  where
    later : (y : Booking) → x.number < y.number → (y.number == n) ≡ false
    later y lt = let h : x.number ≡ n = is in grind (arith, nat_tests)
one_number n (x ∷ bs) (suc k) d o inside is =
    let in_rest : k < length bs = omega arith in
    let before : x.number < (get_or bs k d).number = All-from_recursion (λ y. x.number < y.number) bs o.0 k d in_rest in
    let other : (x.number == n) ≡ false = grind (arith, nat_tests) in
    rw other (one_number n bs k d o.1 in_rest is)

ordered_at : (bs : List Booking) (i j : ℕ) (d : Booking) → IsOrdered bs → i < j → j < length bs
    → (get_or bs i d).number < (get_or bs j d).number
ordered_at [] i j d o lt inside = absurd (omega arith)
ordered_at (x ∷ bs) zero zero d o lt inside = absurd (omega arith)
ordered_at (x ∷ bs) zero (suc j) d o lt inside = All-from_recursion (λ y. x.number < y.number) bs o.0 j d (omega arith)
ordered_at (x ∷ bs) (suc i) zero d o lt inside = absurd (omega arith)
ordered_at (x ∷ bs) (suc i) (suc j) d o lt inside = ordered_at bs i j d o.1 (omega arith) (omega arith)

-- a search by number, which the numbers' order makes right
comparisons_rise : (n : ℕ) (bs : List Booking) → IsOrdered bs
    → IsNonDecreasingBy (λ (b : Booking). ordering_index (nat_cmp b.number n)) bs
comparisons_rise n bs o i j d le inside = cases (nat_eq i j) refl where
  rising : (x y : ℕ) → x ≤ y → ordering_index (nat_cmp x n) ≤ ordering_index (nat_cmp y n)
  rising x y le = grind (arith, nat_tests)

  cases : (t : Bool) → nat_eq i j ≡ t
      → ordering_index (nat_cmp (get_or bs i d).number n) ≤ ordering_index (nat_cmp (get_or bs j d).number n)
  cases true e = let same : i ≡ j = grind (arith, nat_tests) in rising (get_or bs i d).number (get_or bs j d).number (omega (arith, ap (λ (k : ℕ). (get_or bs k d).number) same))
  cases false e = let lt : i < j = grind (arith, nat_tests) in rising (get_or bs i d).number (get_or bs j d).number (omega (arith, ordered_at bs i j d o lt inside))

found_at : (n : ℕ) (bs : List Booking) (k : ℕ) (b : Booking) → IsOrdered bs → k < length bs
    → HoldsAt (λ (b : Booking). nat_cmp b.number n ≡ Equal) bs k → b ≡ get_or bs k b
    → numbered n bs ≡ b ∷ []
found_at n bs k b o inside equal is =
    let number : (get_or bs k b).number ≡ n = ranked (get_or bs k b).number n _ (sym (equal b)) in
    one_number n bs k b o inside number ∙ ap (λ (x : Booking). x ∷ []) (sym is)

none_at : (n : ℕ) (bs : List Booking) (k : ℕ) → IsOrdered bs → k ≤ length bs
    → (IsNonDecreasingBy (λ (b : Booking). ordering_index (nat_cmp b.number n)) bs
    → IsPartitionPoint (λ (b : Booking). nat_cmp b.number n ≡ Less) (λ (b : Booking). nat_cmp b.number n ≡ Greater) bs
    k)
    → numbered n bs ≡ []
none_at n bs k o inside parted =
    no_number n bs (recursion_from_All (λ (b : Booking). (b.number == n) ≡ false) bs (λ i d lt. at i d lt (nat_lt i k) refl))
  where
    at : (i : ℕ) (d : Booking) → i < length bs → (t : Bool) → nat_lt i k ≡ t → ((get_or bs i d).number == n) ≡ false
    at i d lt true e =
        let less : (get_or bs i d).number < n = ranked (get_or bs i d).number n _ (sym ((parted (comparisons_rise n bs o)).0 i d (omega arith) (grind (arith, nat_tests)))) in
        grind (arith, nat_tests)
    at i d lt false e =
        let greater : n < (get_or bs i d).number = ranked (get_or bs i d).number n _ (sym ((parted (comparisons_rise n bs o)).1 i d (grind (arith, nat_tests)) lt)) in
        grind (arith, nat_tests)

pub found_by_number : (n : ℕ) (bs : List Booking) (r : Result ℕ ℕ) (k : ℕ) (b : Booking) → r ≡ Ok k → IsOrdered bs
    → IsSearchInRange r (length bs) → IsBinarySearchResult (λ (b : Booking). nat_cmp b.number n) bs r
    → b ≡ get_or bs k b → numbered n bs ≡ b ∷ []
found_by_number n bs (Ok j) k b e o inside equal is =
    let same : j ≡ k = cc in
    found_at n bs j b o inside equal (is ∙ ap (λ (i : ℕ). get_or bs i b) (sym same))
found_by_number n bs (Err j) k b e o inside parted is = absurd cc

pub none_by_number : (n : ℕ) (bs : List Booking) (r : Result ℕ ℕ) (k : ℕ) → r ≡ Err k → IsOrdered bs
    → IsSearchInRange r (length bs) → IsBinarySearchResult (λ (b : Booking). nat_cmp b.number n) bs r
    → numbered n bs ≡ []
none_by_number n bs (Ok j) k e o inside equal = absurd cc
none_by_number n bs (Err j) k e o inside parted = none_at n bs j o inside parted

-- ---- the line that made a booking

pub line_asked : (grid : Ladders) (journal : List Entry) (line : Entry) (place : Place) → IsLegal grid journal
    → IsLine journal line → place_asked line.work ≡ Some place
    → numbered line.number (replay grid journal).bookings
    ≡ numbered line.number (bookings_on place.flight (replay grid journal).bookings)
line_asked grid journal line place legal l asks =
    let bs : List Booking = (replay grid journal).bookings in
    subst (λ (n : ℕ). numbered n bs ≡ numbered n (bookings_on place.flight bs)) (sym l.number_is)
    (numbered_asked grid journal l.index line place bs (replay_is_made grid journal legal) l.here asks)

pub line_unasked : (grid : Ladders) (journal : List Entry) (line : Entry) → IsLegal grid journal
    → IsLine journal line → place_asked line.work ≡ None → numbered line.number (replay grid journal).bookings ≡ []
line_unasked grid journal line legal l none =
    let bs : List Booking = (replay grid journal).bookings in
    subst (λ (n : ℕ). numbered n bs ≡ []) (sym l.number_is) (numbered_unasked grid journal l.index line bs (replay_is_made grid journal legal) l.here none)

-- what holds where a call was right holds where what it says implies it
pub on_ok : {A E : Type 0} (r : Result A E) (P Q : Type 0) → (P → Q) → OnOk r P → OnOk r Q
on_ok (Ok x) P Q f p = f p
on_ok (Err e) P Q f p = tt

-- what a search on the flight finds
pub made_found : (o : Option (Bor Booking)) (xs ys : List Booking) → xs ≡ ys → IfSome o (λ b. ys ≡ b.now ∷ [])
    → IfSome o (λ b. xs ≡ b.now ∷ [])
made_found None xs ys e h = tt
made_found (Some b) xs ys e h = e ∙ h

pub made_none : (o : Option (Bor Booking)) (xs ys : List Booking) → xs ≡ ys → IfNone o (ys ≡ []) → IfNone o (xs ≡ [])
made_none None xs ys e h = e ∙ h
made_none (Some b) xs ys e h = tt

pub in_order : (grid : Ladders) (journal : List Entry) (flight : ℕ) → IsLegal grid journal
    → IsOrdered (bookings_on flight (replay grid journal).bookings)
in_order grid journal flight legal = ordered_pass _ (replay grid journal).bookings (replay_is_numbered grid journal legal).ordered

chosen_by : (test : Booking → Bool) (n : ℕ) (bs : List Booking) → chosen_at test n bs ≡ filter test (numbered n bs)
chosen_by test n bs = filter_both test (λ b. b.number == n) bs

-- the one booking of a number is kept where it passes the test
pub one_picked : (test : Booking → Bool) (n : ℕ) (bs : List Booking) (b : Booking) (old new : List Booking)
    → numbered n bs ≡ b ∷ [] → new ≡ old ++ (if test b then b ∷ [] else []) → new ≡ old ++ chosen_at test n bs
one_picked test n bs b old new one is =
    let chosen : chosen_at test n bs ≡ (if test b then b ∷ [] else []) = chosen_by test n bs ∙ ap (filter test) one in
    is ∙ ap (λ (l : List Booking). old ++ l) (sym chosen)

pub none_picked : (test : Booking → Bool) (n : ℕ) (bs all : List Booking) → numbered n bs ≡ []
    → all ≡ all ++ chosen_at test n bs
none_picked test n bs all none =
    let chosen : chosen_at test n bs ≡ [] = chosen_by test n bs ∙ ap (filter test) none in
    sym (append-nil all) ∙ ap (λ (l : List Booking). all ++ l) (sym chosen)

pub kept_one : (t : Bool) (b : Booking) (old new : List Booking) → t ≡ true → new ≡ old ++ b ∷ []
    → new ≡ old ++ (if t then b ∷ [] else [])
kept_one t b old new e is = rw e is

pub left_one : (t : Bool) (b : Booking) (old : List Booking) → t ≡ false → old ≡ old ++ (if t then b ∷ [] else [])
left_one t b old e = rw e (sym (append-nil old))

-- ---- line by line

pub no_line_yet : (grid : Ladders) (journal : List Entry) (test : Booking → Bool) (all : List Booking) → IsLegal grid journal
    → all ≡ [] → all ≡ chosen_up_to test 0 (replay grid journal).bookings
no_line_yet grid journal test all legal empty =
    empty ∙ sym (up_to_zero grid journal test (replay grid journal).bookings (replay_is_made grid journal legal))

pub one_line_more : (grid : Ladders) (journal : List Entry) (test : Booking → Bool) (i n : ℕ) (mid new : List Booking)
    → IsLegal grid journal → n ≡ i + 1 → mid ≡ chosen_up_to test i (replay grid journal).bookings
    → new ≡ mid ++ chosen_at test n (replay grid journal).bookings
    → new ≡ chosen_up_to test (i + 1) (replay grid journal).bookings
one_line_more grid journal test i n mid new legal number so_far is =
    let bs : List Booking = (replay grid journal).bookings in
    is ∙ ap (λ (k : ℕ). mid ++ chosen_at test k bs) number ∙ ap (λ (l : List Booking). l ++ chosen_at test (i + 1) bs) so_far
    ∙ sym (up_to_next test i bs (replay_is_numbered grid journal legal).ordered)

pub all_lines : (grid : Ladders) (journal lines : List Entry) (test : Booking → Bool) (i : ℕ) (all : List Booking)
    → IsLegal grid journal → lines ≡ journal → length lines ≤ i → all ≡ chosen_up_to test i (replay grid journal).bookings
    → all ≡ filter test (replay grid journal).bookings
all_lines grid journal lines test i all legal same over so_far =
    let le : length journal ≤ i = subst (λ (l : List Entry). length l ≤ i) same over in
    so_far ∙ up_to_last test i (replay grid journal).bookings
    (all_map (λ b. b.number ≤ length journal) (λ b. b.number ≤ i) (replay grid journal).bookings (λ b h. omega (arith, le)) (replay_is_numbered grid journal legal).below)

-- ---- where they are

made_there : (flights : List Flown) (grid : Ladders) (journal : List Entry) (b : Booking) → IsGridOf flights grid
    → IsMade grid journal b → IsThere flights grid b
made_there flights grid journal b is m =
    record { fits = m.fits; place = has_place is.rows flights grid b.place is.is m.fits }

pub all_there : (flights : List Flown) (grid : Ladders) (journal : List Entry) (test : Booking → Bool) (all : List Booking)
    → IsGridOf flights grid → IsLegal grid journal → all ≡ filter test (replay grid journal).bookings
    → AllByRecursion (IsThere flights grid) all
all_there flights grid journal test all is legal e =
    let bs : List Booking = (replay grid journal).bookings in
    let made : AllByRecursion (IsMade grid journal) (filter test bs) = all_pass test (IsMade grid journal) bs (replay_is_made grid journal legal) in
    subst (λ (l : List Booking). AllByRecursion (IsThere flights grid) l) (sym e) (all_map (IsMade grid journal) (IsThere flights grid) (filter test bs) (λ b m. made_there flights grid journal b is m) made)

-- ---- the numbers of lines

last_or_before : (xs : List Entry) (x : Entry) (k : ℕ) (y : Entry) → slice_get (xs ++ x ∷ []) k ≡ Some y
    → (slice_get xs k ≡ Some y) ⊎ ((y ≡ x) × (k ≡ length xs))
last_or_before [] x zero y e = inr (sym (same_Some x y e), refl)
last_or_before [] x (suc k) y e = absurd cc
last_or_before (z ∷ xs) x zero y e = inl e
last_or_before (z ∷ xs) x (suc k) y e = elim (last_or_before xs x k y e) [
  | inl b ↦ inl b
  | inr b ↦ inr (b.0, ap suc b.1)
]

line_number : (grid : Ladders) (journal : List Entry) → IsLegal grid journal → (i : ℕ) (line : Entry)
    → slice_get journal i ≡ Some line → line.number ≡ i + 1
line_number grid journal legal =
    each_legal grid (λ j. (i : ℕ) (line : Entry) → slice_get j i ≡ Some line → line.number ≡ i + 1) next_number [] journal (λ i line e. absurd cc) legal
  where
    next_number : (past : List Entry) (e : Entry) → IsLegal grid past → IsNext grid past e
        → ((i : ℕ) (line : Entry) → slice_get past i ≡ Some line → line.number ≡ i + 1)
        → (i : ℕ) (line : Entry) → slice_get (past ++ e ∷ []) i ≡ Some line → line.number ≡ i + 1
    next_number past e l next before i line at =
        let is : e.number ≡ length past + 1 = ap (λ (x : Entry). x.number) next.line in
        elim (last_or_before past e i line at) [
          | inl b ↦ before i line b
          | inr b ↦ ap (λ (x : Entry). x.number) b.0 ∙ is ∙ ap (λ (n : ℕ). n + 1) (sym b.1)
        ]

pub line_at : (grid : Ladders) (journal lines : List Entry) (i : ℕ) (line : Entry) → IsLegal grid journal
    → lines ≡ journal → i < length lines → line ≡ get_or lines i line → IsLine journal line
line_at grid journal lines i line legal same lt is =
    let here : slice_get journal i ≡ Some line = ap (λ (l : List Entry). slice_get l i) (sym same) ∙ slice_get_read lines (length lines) i line refl lt is in
    record { index = i; here = here; number_is = line_number grid journal legal i line here }

pub number_at : (grid : Ladders) (journal lines : List Entry) (i : ℕ) (line : Entry) → IsLegal grid journal
    → lines ≡ journal → i < length lines → line ≡ get_or lines i line → line.number ≡ i + 1
number_at grid journal lines i line legal same lt is =
    line_number grid journal legal i line (ap (λ (l : List Entry). slice_get l i) (sym same) ∙ slice_get_read lines (length lines) i line refl lt is)
