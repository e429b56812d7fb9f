-- Which answer a request gets, by where its booking stands.
use Rattle.std.proofs.Common.{◌≡◌, ℕ, zero, suc, ◌<◌, ◌≤◌, Bool, true, false, List, [], ◌∷◌, length, slice_get, get_or, cond, nat_lt, Some, None, position, find, codes, arith, refl, ap, sym, ◌∙◌}
use Rattle.seat_rules.proofs.Common.{Place, Booking, Command, Seats, Want, Cancel, Wish, action_of, is_for, State, refused, want, cancel, answer}
use Rattle.std.proofs.lemmas.List.Folds.{find_at}
use Rattle.std.proofs.lemmas.List.Quantifiers.{position-Some}
use Rattle.std.specs.List.{position_or_len}
use Rattle.std.proofs.lemmas.Bool.Decides.{nat_tests}

at_some : (b : Bool) (k i : ℕ) → cond b (Some k) None ≡ Some i → (b ≡ true) × (k ≡ i)
at_some true k i e = (refl, cc)
at_some false k i e = absurd cc

at_none : (b : Bool) (k : ℕ) → cond b (Some k) None ≡ None → b ≡ false
at_none true k e = absurd cc
at_none false k e = refl

inside : {X : Type 0} (xs : List X) (i : ℕ) → i < length xs → (x : X) × (slice_get xs i ≡ Some x)
inside [] i h = absurd (omega arith)
inside (x ∷ xs) zero h = (x, refl)
inside (x ∷ xs) (suc i) h = inside xs i (omega arith)

outside : {X : Type 0} (xs : List X) (i : ℕ) → length xs ≤ i → slice_get xs i ≡ None
outside [] i h = refl
outside (x ∷ xs) zero h = absurd (omega arith)
outside (x ∷ xs) (suc i) h = outside xs i (omega arith)

pub find_found : {X : Type 0} (p : X → Bool) (xs : List X) (i : ℕ) → position p xs ≡ Some i → find p xs ≡ slice_get xs i
find_found p xs i e = find_at p xs ∙ ap (slice_get xs) (at_some (nat_lt (position_or_len p xs) (length xs)) (position_or_len p xs) i e).1

-- what is found
pub find_some : {X : Type 0} (p : X → Bool) (xs : List X) (i : ℕ) → position p xs ≡ Some i
    → (x : X) × (find p xs ≡ Some x)
find_some p xs i e =
    let test = at_some (nat_lt (position_or_len p xs) (length xs)) (position_or_len p xs) i e in
    let below : i < length xs = grind (arith, nat_tests, test.0, test.1) in
    let x = inside xs i below in
    (x.0, find_found p xs i e ∙ x.1)

pub find_none : {X : Type 0} (p : X → Bool) (xs : List X) → position p xs ≡ None → find p xs ≡ None
find_none p xs e =
    let test = at_none (nat_lt (position_or_len p xs) (length xs)) (position_or_len p xs) e in
    let past : length xs ≤ position_or_len p xs = grind (arith, nat_tests, test) in
    find_at p xs ∙ outside xs (position_or_len p xs) past

-- what stands where it was found
stands : (xs : List Booking) (i : ℕ) (b : Booking) → i < length xs → b ≡ get_or xs i b → slice_get xs i ≡ Some b
stands [] i b h e = absurd (omega (arith, h))
stands (x ∷ xs) zero b h e = ap Some (sym e)
stands (x ∷ xs) (suc i) b h e = stands xs i b (omega (arith, h)) e

pub found_at : (test : Booking → Bool) (xs ys : List Booking) (i : ℕ) (b : Booking) → ys ≡ xs
    → position test xs ≡ Some i → b ≡ get_or ys i b → slice_get xs i ≡ Some b
found_at test xs ys i b same found is = stands xs i b (position-Some test xs i b found).0 (is ∙ ap (λ (l : List Booking). get_or l i b) same)

-- below, `xs` is the list of bookings in which the code looked
pub answers_want : (w : Wish) (s : State) (n : ℕ) (c : Command) (p : Place) (xs : List Booking) → xs ≡ s.bookings
    → Want w ≡ action_of c.code → c.place ≡ Some p → None ≡ position (is_for c.locator p c.class) xs
    → answer s n (Seats c) ≡ want w s n c p None
answers_want w s n c p xs same r at found =
    let none : position (is_for c.locator p c.class) s.bookings ≡ None = rw (← same) (sym found) in
    rw (← r, at, find_none (is_for c.locator p c.class) s.bookings none) refl

pub answers_taken : (w : Wish) (s : State) (n : ℕ) (c : Command) (p : Place) (i : ℕ) (xs : List Booking)
    → xs ≡ s.bookings → Want w ≡ action_of c.code → c.place ≡ Some p → Some i ≡ position (is_for c.locator p c.class) xs
    → answer s n (Seats c) ≡ refused s (codes "NO")
answers_taken w s n c p i xs same r at found =
    let some : position (is_for c.locator p c.class) s.bookings ≡ Some i = rw (← same) (sym found) in
    rw (← r, at, (find_some (is_for c.locator p c.class) s.bookings i some).1) refl

pub answers_cancel : (s : State) (n : ℕ) (c : Command) (p : Place) (i : ℕ) (xs : List Booking) → xs ≡ s.bookings
    → Cancel ≡ action_of c.code → c.place ≡ Some p → Some i ≡ position (is_for c.locator p c.class) xs
    → answer s n (Seats c) ≡ cancel s c p (slice_get s.bookings i)
answers_cancel s n c p i xs same r at found =
    let some : position (is_for c.locator p c.class) s.bookings ≡ Some i = rw (← same) (sym found) in
    rw (← r, at, find_found (is_for c.locator p c.class) s.bookings i some) refl

pub answers_missing : (s : State) (n : ℕ) (c : Command) (p : Place) (xs : List Booking) → xs ≡ s.bookings
    → Cancel ≡ action_of c.code → c.place ≡ Some p → None ≡ position (is_for c.locator p c.class) xs
    → answer s n (Seats c) ≡ refused s (codes "NO")
answers_missing s n c p xs same r at found =
    let none : position (is_for c.locator p c.class) s.bookings ≡ None = rw (← same) (sym found) in
    rw (← r, at, find_none (is_for c.locator p c.class) s.bookings none) refl
