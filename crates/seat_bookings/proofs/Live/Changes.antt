-- What a change of the bookings does to their order, their keys and their numbers.
use Rattle.std.proofs.Common.{◌≡◌, ◌==◌, ℕ, zero, suc, ◌+◌, ◌<◌, ◌≤◌, Bool, true, false, nat_le, List, [], ◌∷◌, length, cond, get_or, nat_lt, position, Some, None, option_map, if◌then◌else◌, arith, refl, ap, sym, subst, ◌∙◌}
use Rattle.seat_bookings.proofs.Common.{AllByRecursion, Place, Advice, Booking, Key, confirmed_at, confirmed_each, is_for, is_waiting, key_for, key_of, same_key, number_of, AreLive, queue_of, reduced}
use Rattle.std.specs.List.{position_or_len}
use Rattle.std.proofs.lemmas.List.Elements.{All-from_recursion}
use Rattle.std.proofs.lemmas.List.Quantifiers.{position-Some}
use Rattle.std.proofs.lemmas.Option.{same_Some}
use Rattle.std.proofs.lemmas.Bool.Decides.{nat_tests}
use Rattle.seat_rules.specs.Applying.{IsOrdered}
use Rattle.seat_rules.specs.Bookings.{Differs, IsApart}
use Rattle.seat_rules.specs.Sequential.{confirmed}
use Rattle.seat_bookings.proofs.Live.Keys.{key_is, is_for_key, apart_keys, number_none}
use Rattle.seat_rules.proofs.Step.Found.{find_some}
use Rattle.seat_rules.proofs.Step.Reduced.{IsFirst}
use Rattle.seat_rules.proofs.Step.Apart.{apart_reduced}
use Rattle.seat_rules.proofs.Step.Effect.{ordered_reduced}

-- ---- a booking is confirmed
all_held : (P : Booking → Type 0) (n : ℕ) (bs : List Booking) → ((b : Booking) → P b → P (confirmed b))
    → AllByRecursion P bs → AllByRecursion P (confirmed_at bs n)
all_held P n [] f a = tt
all_held P n (b ∷ bs) f a = cases (b.number == n) refl (all_held P n bs f a.1) where
  cases : (t : Bool) → (b.number == n) ≡ t → AllByRecursion P (confirmed_at bs n)
      → AllByRecursion P (confirmed_at (b ∷ bs) n)
  cases true e rest = rw e (f b a.0, a.1)
  cases false e rest = rw e (a.0, rest)

all_before : (P : Booking → Type 0) (n : ℕ) (bs : List Booking) → ((b : Booking) → P (confirmed b) → P b)
    → AllByRecursion P (confirmed_at bs n) → AllByRecursion P bs
all_before P n [] f a = tt
all_before P n (b ∷ bs) f a = cases (b.number == n) refl a (all_before P n bs f) where
  cases : (t : Bool) → (b.number == n) ≡ t → AllByRecursion P (cond t (confirmed b ∷ bs) (b ∷ confirmed_at bs n))
      → (AllByRecursion P (confirmed_at bs n) → AllByRecursion P bs) → AllByRecursion P (b ∷ bs)
  cases true e a rest = (f b a.0, a.1)
  cases false e a rest = (a.0, rest a.1)

ordered_held : (n : ℕ) (bs : List Booking) → IsOrdered bs → IsOrdered (confirmed_at bs n)
ordered_held n [] o = tt
ordered_held n (b ∷ bs) o = cases (b.number == n) refl (ordered_held n bs o.1) where
  cases : (t : Bool) → (b.number == n) ≡ t → IsOrdered (confirmed_at bs n) → IsOrdered (confirmed_at (b ∷ bs) n)
  cases true e rest = rw e (o.0, o.1)
  cases false e rest = rw e (all_held (λ x. b.number < x.number) n bs (λ x h. h) o.0, rest)

apart_held : (n : ℕ) (bs : List Booking) → IsApart bs → IsApart (confirmed_at bs n)
apart_held n [] o = tt
apart_held n (b ∷ bs) o = cases (b.number == n) refl (apart_held n bs o.1) where
  cases : (t : Bool) → (b.number == n) ≡ t → IsApart (confirmed_at bs n) → IsApart (confirmed_at (b ∷ bs) n)
  cases true e rest = rw e (o.0, o.1)
  cases false e rest = rw e (all_held (Differs b) n bs (λ x h. h) o.0, rest)

ordered_before : (n : ℕ) (bs : List Booking) → IsOrdered (confirmed_at bs n) → IsOrdered bs
ordered_before n [] o = tt
ordered_before n (b ∷ bs) o = cases (b.number == n) refl o (ordered_before n bs) where
  cases : (t : Bool) → (b.number == n) ≡ t → IsOrdered (cond t (confirmed b ∷ bs) (b ∷ confirmed_at bs n))
      → (IsOrdered (confirmed_at bs n) → IsOrdered bs) → IsOrdered (b ∷ bs)
  cases true e o rest = (o.0, o.1)
  cases false e o rest = (all_before (λ x. b.number < x.number) n bs (λ x h. h) o.0, rest o.1)

apart_before : (n : ℕ) (bs : List Booking) → IsApart (confirmed_at bs n) → IsApart bs
apart_before n [] o = tt
apart_before n (b ∷ bs) o = cases (b.number == n) refl o (apart_before n bs) where
  cases : (t : Bool) → (b.number == n) ≡ t → IsApart (cond t (confirmed b ∷ bs) (b ∷ confirmed_at bs n))
      → (IsApart (confirmed_at bs n) → IsApart bs) → IsApart (b ∷ bs)
  cases true e o rest = (o.0, o.1)
  cases false e o rest = (all_before (Differs b) n bs (λ x h. h) o.0, rest o.1)

pub live_held : (n : ℕ) (bs : List Booking) → AreLive bs → AreLive (confirmed_at bs n)
live_held n bs l = record { ordered = ordered_held n bs l.ordered; apart = apart_held n bs l.apart }

-- what is live once advices are applied was live before
pub live_before : (bs : List Booking) (advices : List Advice) → AreLive (confirmed_each bs advices) → AreLive bs
live_before bs [] l = l
live_before bs (a ∷ advices) l =
    let one = live_before (confirmed_at bs a.number) advices l in
    record { ordered = ordered_before a.number bs one.ordered; apart = apart_before a.number bs one.apart }

pub number_held : (key : Key) (n : ℕ) (bs : List Booking) → number_of key (confirmed_at bs n) ≡ number_of key bs
number_held key n [] = refl
number_held key n (b ∷ bs) = cases (b.number == n) refl (number_held key n bs) where
  cases : (t : Bool) → (b.number == n) ≡ t → number_of key (confirmed_at bs n) ≡ number_of key bs
      → number_of key (confirmed_at (b ∷ bs) n) ≡ number_of key (b ∷ bs)
  cases true e rest = rw e refl
  cases false e rest = rw (e, rest) refl

-- ---- a booking loses seats
pub live_reduced : (test : Booking → Bool) (n : ℕ) (bs : List Booking) → AreLive bs → AreLive (reduced test n bs)
live_reduced test n bs l = record { ordered = ordered_reduced test n bs l.ordered; apart = apart_reduced test n bs l.apart }

other_key : (a b : Key) (k : Key) → same_key a b ≡ true → same_key b k ≡ false → same_key a k ≡ false
other_key a b k is other = let P : Key → Type 0 = λ x. same_key x k ≡ false in subst P (sym (key_is a b is)) other

same_other : (a b : Key) (k : Key) → same_key a b ≡ true → same_key a k ≡ same_key b k
same_other a b k is = ap (λ (x : Key). same_key x k) (key_is a b is)

all_apart : (x : Booking) (xs : List Booking) (key : Key) → AllByRecursion (Differs x) xs
    → same_key (key_of x) key ≡ true → AllByRecursion (λ (b : Booking). same_key (key_of b) key ≡ false) xs
all_apart x [] key a is = tt
all_apart x (b ∷ bs) key a is = (apart_keys x b key a.0 is, all_apart x bs key a.1 is)

is_key : (l : List ℕ) (p : Place) (k : ℕ) (x : Booking) → is_for l p k x ≡ true
    → same_key (key_of x) (key_for l p k) ≡ true
is_key l p k x e = sym (is_for_key l p k x) ∙ e

pub number_less : (key : Key) (l : List ℕ) (p : Place) (k n : ℕ) (xs : List Booking) (i : ℕ) (d : Booking)
    → IsFirst (is_for l p k) xs i d → n < (get_or xs i d).seats
    → number_of key (reduced (is_for l p k) n xs) ≡ number_of key xs
number_less key l p k n [] i d first lt = absurd (omega (arith, first.0))
number_less key l p k n (x ∷ xs) zero d first lt =
    let part : nat_le x.seats n ≡ false = grind (arith, nat_tests) in
    rw (first.1, part) refl
number_less key l p k n (x ∷ xs) (suc i) d first lt =
    let below : i < length xs = omega (arith, first.0) in
    let rest = number_less key l p k n xs i d (below, first.1, λ k h. first.2 (suc k) (omega arith)) lt in
    let other : is_for l p k x ≡ false = first.2 zero (omega arith) in
    rw (other, rest) refl

pub number_gone : (key : Key) (l : List ℕ) (p : Place) (k n : ℕ) (xs : List Booking) (i : ℕ) (d : Booking) → IsApart xs
    → IsFirst (is_for l p k) xs i d → (get_or xs i d).seats ≤ n
    → number_of key (reduced (is_for l p k) n xs) ≡ (if same_key (key_for l p k) key then None else number_of key xs)
number_gone key l p k n [] i d apart first le = absurd (omega (arith, first.0))
number_gone key l p k n (x ∷ xs) zero d apart first le =
    let all : nat_le x.seats n ≡ true = grind (arith, nat_tests) in
    rw (first.1, all) (cases (same_key (key_for l p k) key) refl)
  where
    mine : same_key (key_of x) key ≡ same_key (key_for l p k) key
    mine = same_other (key_of x) (key_for l p k) key (is_key l p k x first.1)

    cases : (t : Bool) → same_key (key_for l p k) key ≡ t
        → number_of key xs ≡ (if same_key (key_for l p k) key then None else number_of key (x ∷ xs))
    cases true e = rw e (number_none key xs (all_apart x xs key apart.0 (mine ∙ e)))
    cases false e = rw (e, mine ∙ e) refl
number_gone key l p k n (x ∷ xs) (suc i) d apart first le =
    let below : i < length xs = omega (arith, first.0) in
    let rest = number_gone key l p k n xs i d apart.1 (below, first.1, λ k h. first.2 (suc k) (omega arith)) le in
    let other : is_for l p k x ≡ false = first.2 zero (omega arith) in
    rw other (cases (same_key (key_for l p k) key) refl other rest)
  where
    cases : (t : Bool) → same_key (key_for l p k) key ≡ t → is_for l p k x ≡ false
        → number_of key (reduced (is_for l p k) n xs)
        ≡ (if same_key (key_for l p k) key then None else number_of key xs)
        → number_of key (x ∷ reduced (is_for l p k) n xs)
        ≡ (if same_key (key_for l p k) key then None else number_of key (x ∷ xs))
    cases true e other rest =
        let gone : number_of key (reduced (is_for l p k) n xs) ≡ None = rest ∙ ap (λ (t : Bool). if t then None else number_of key xs) e in
        let not_mine : same_key (key_of x) key ≡ false =
        let P : Key → Type 0 = λ y. same_key (key_of x) y ≡ false in subst P (key_is (key_for l p k) key e) (sym (is_for_key l p k x) ∙ other) in
        rw (e, not_mine) gone
    cases false e other rest =
        let same : number_of key (reduced (is_for l p k) n xs) ≡ number_of key xs = rest ∙ ap (λ (t : Bool). if t then None else number_of key xs) e in
        rw (e, same) refl

-- ---- the booking of a number among those that wait
here : (test : Booking → Bool) (x : Booking) (xs : List Booking) → test x ≡ true → position test (x ∷ xs) ≡ Some 0
here test x xs e =
    let at : position_or_len test (x ∷ xs) ≡ 0 = rw e refl in
    let inside : nat_lt 0 (length (x ∷ xs)) ≡ true = grind (arith, nat_tests) in
    ap (λ (k : ℕ). cond (nat_lt k (length (x ∷ xs))) (Some k) None) at ∙ ap (λ (t : Bool). cond t (Some 0) None) inside

further : (test : Booking → Bool) (x : Booking) (xs : List Booking) → test x ≡ false
    → position test (x ∷ xs) ≡ option_map suc (position test xs)
further test x xs e = cases (nat_lt (position_or_len test xs) (length xs)) refl where
  at : position_or_len test (x ∷ xs) ≡ suc (position_or_len test xs)
  at = let one : position_or_len test (x ∷ xs) ≡ 1 + position_or_len test xs = rw e refl in omega (arith, one)

  same : nat_lt (suc (position_or_len test xs)) (length (x ∷ xs)) ≡ nat_lt (position_or_len test xs) (length xs)
  same = grind (arith, nat_tests)

  cases : (t : Bool) → nat_lt (position_or_len test xs) (length xs) ≡ t
      → position test (x ∷ xs) ≡ option_map suc (position test xs)
  cases true f =
      ap (λ (k : ℕ). cond (nat_lt k (length (x ∷ xs))) (Some k) None) at ∙ ap (λ (t : Bool). cond t (Some (suc (position_or_len test xs))) None) (same ∙ f)
      ∙ sym (ap (λ (t : Bool). option_map suc (cond t (Some (position_or_len test xs)) None)) f)
  cases false f =
      ap (λ (k : ℕ). cond (nat_lt k (length (x ∷ xs))) (Some k) None) at ∙ ap (λ (t : Bool). cond t (Some (suc (position_or_len test xs))) None) (same ∙ f)
      ∙ sym (ap (λ (t : Bool). option_map suc (cond t (Some (position_or_len test xs)) None)) f)

number_first : (test : Booking → Bool) (xs : List Booking) (i : ℕ) (d : Booking) → IsOrdered xs → IsFirst test xs i d
    → position (λ (y : Booking). y.number == (get_or xs i d).number) xs ≡ position test xs
number_first test [] i d o first = absurd (omega (arith, first.0))
number_first test (x ∷ xs) zero d o first =
    let one : (x.number == x.number) ≡ true = grind (arith, nat_tests) in
    here (λ (y : Booking). y.number == x.number) x xs one ∙ sym (here test x xs first.1)
number_first test (x ∷ xs) (suc i) d o first =
    let below : i < length xs = omega (arith, first.0) in
    let rest = number_first test xs i d o.1 (below, first.1, λ k h. first.2 (suc k) (omega arith)) in
    let other : test x ≡ false = first.2 zero (omega arith) in
    let less : x.number < (get_or xs i d).number = All-from_recursion (λ (y : Booking). x.number < y.number) xs o.0 i d below in
    let apart : (x.number == (get_or xs i d).number) ≡ false = grind (arith, nat_tests) in
    further (λ (y : Booking). y.number == (get_or xs i d).number) x xs apart ∙ (ap (option_map suc) rest ∙ sym (further test x xs other))

number_waiting : (test : Booking → Bool) (xs : List Booking) (i : ℕ) (d : Booking) → IsOrdered xs → IsFirst test xs i d
    → is_waiting (get_or xs i d).status ≡ true
    → position (λ (y : Booking). y.number == (get_or xs i d).number) (queue_of xs) ≡ position test (queue_of xs)
number_waiting test [] i d o first waits = absurd (omega (arith, first.0))
number_waiting test (x ∷ xs) zero d o first waits =
    let one : (x.number == x.number) ≡ true = grind (arith, nat_tests) in
    rw waits (here (λ (y : Booking). y.number == x.number) x (queue_of xs) one ∙ sym (here test x (queue_of xs) first.1))
number_waiting test (x ∷ xs) (suc i) d o first waits =
    let below : i < length xs = omega (arith, first.0) in
    let rest = number_waiting test xs i d o.1 (below, first.1, λ k h. first.2 (suc k) (omega arith)) waits in
    let other : test x ≡ false = first.2 zero (omega arith) in
    let less : x.number < (get_or xs i d).number = All-from_recursion (λ (y : Booking). x.number < y.number) xs o.0 i d below in
    let apart : (x.number == (get_or xs i d).number) ≡ false = grind (arith, nat_tests) in
    cases (is_waiting x.status) refl rest other apart
  where
    n : ℕ
    n = (get_or xs i d).number

    cases : (t : Bool) → is_waiting x.status ≡ t
        → position (λ (y : Booking). y.number == n) (queue_of xs) ≡ position test (queue_of xs) → test x ≡ false
        → (x.number == n) ≡ false
        → position (λ (y : Booking). y.number == n) (queue_of (x ∷ xs)) ≡ position test (queue_of (x ∷ xs))
    cases true e rest other apart = rw e (further (λ (y : Booking). y.number == n) x (queue_of xs) apart ∙ (ap (option_map suc) rest ∙ sym (further test x (queue_of xs) other)))
    cases false e rest other apart = rw e rest

-- where a booking was found, one stands
pub at_inside : (test : Booking → Bool) (xs ys : List Booking) (i : ℕ) → ys ≡ xs → Some i ≡ position test xs → i < length ys
at_inside test xs ys i same found =
    let b = find_some test xs i (sym found) in
    subst (λ (l : List Booking). i < length l) (sym same) (position-Some test xs i b.0 (sym found)).0

pub number_in_queue : (test : Booking → Bool) (xs queue : List Booking) (i : ℕ) (b : Booking) → IsOrdered xs
    → queue ≡ queue_of xs → Some i ≡ position test xs → b ≡ get_or xs i b → is_waiting b.status ≡ true
    → position (λ (y : Booking). y.number == b.number) queue ≡ position test queue
number_in_queue test xs queue i b o is found at waits =
    let there : is_waiting (get_or xs i b).status ≡ true = ap (λ (y : Booking). is_waiting y.status) (sym at) ∙ waits in
    let P : List Booking → Type 0 = λ q. position (λ (y : Booking). y.number == b.number) q ≡ position test q in
    subst P (sym is)
    (ap (λ (n : ℕ). position (λ (y : Booking). y.number == n) (queue_of xs)) (ap (λ (y : Booking). y.number) at)
    ∙ number_waiting test xs i b o (position-Some test xs i b (sym found)) there)

-- ---- the number that an index gives leads to the booking
number_above : (key : Key) (m n : ℕ) (xs : List Booking) → AllByRecursion (λ (y : Booking). m < y.number) xs
    → number_of key xs ≡ Some n → m < n
number_above key m n [] a e = absurd cc
number_above key m n (x ∷ xs) a e = cases (same_key (key_of x) key) refl e (λ (h : number_of key xs ≡ Some n). number_above key m n xs a.1 h) where
  cases : (t : Bool) → same_key (key_of x) key ≡ t → cond t (Some x.number) (number_of key xs) ≡ Some n
      → (number_of key xs ≡ Some n → m < n) → m < n
  cases true f e rest = let same : x.number ≡ n = same_Some x.number n e in let lt : m < x.number = a.0 in omega (arith, lt, same)
  cases false f e rest = rest e

pub number_leads : (l : List ℕ) (p : Place) (k n : ℕ) (xs : List Booking) → IsOrdered xs
    → number_of (key_for l p k) xs ≡ Some n → position (λ (y : Booking). y.number == n) xs ≡ position (is_for l p k) xs
number_leads l p k n [] o e = absurd cc
number_leads l p k n (x ∷ xs) o e = cases (is_for l p k x) refl e (number_leads l p k n xs o.1) where
  cases : (t : Bool) → is_for l p k x ≡ t → number_of (key_for l p k) (x ∷ xs) ≡ Some n
      → (number_of (key_for l p k) xs ≡ Some n → position (λ (y : Booking). y.number == n) xs
      ≡ position (is_for l p k) xs)
      → position (λ (y : Booking). y.number == n) (x ∷ xs) ≡ position (is_for l p k) (x ∷ xs)
  cases true f e rest =
      let mine : same_key (key_of x) (key_for l p k) ≡ true = sym (is_for_key l p k x) ∙ f in
      let same : x.number ≡ n = same_Some x.number n (sym (ap (λ (t : Bool). cond t (Some x.number) (number_of (key_for l p k) xs)) mine) ∙ e) in
      let one : (x.number == n) ≡ true = grind (arith, nat_tests) in
      here (λ (y : Booking). y.number == n) x xs one ∙ sym (here (is_for l p k) x xs f)
  cases false f e rest =
      let other : same_key (key_of x) (key_for l p k) ≡ false = sym (is_for_key l p k x) ∙ f in
      let later : number_of (key_for l p k) xs ≡ Some n = sym (ap (λ (t : Bool). cond t (Some x.number) (number_of (key_for l p k) xs)) other) ∙ e in
      let more : x.number < n = number_above (key_for l p k) x.number n xs o.0 later in
      let apart : (x.number == n) ≡ false = grind (arith, nat_tests) in
      further (λ (y : Booking). y.number == n) x xs apart ∙ (ap (option_map suc) (rest later) ∙ sym (further (is_for l p k) x xs f))
