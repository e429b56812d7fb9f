-- Bookings in a row, of which the first may have left room.
use Rattle.std.proofs.Common.{◌≡◌, ℕ, zero, suc, ◌+◌, ◌-◌, ◌<◌, ◌≤◌, List, [], ◌∷◌, ◌++◌, length, take, drop, set, remove, arith, refl, ap, sym, ◌∙◌, append_assoc}
use Rattle.std.specs.List.{copy_within}
use Rattle.std.proofs.lemmas.List.{drop-drop, length-drop}
use Rattle.seat_rules.specs.declared.booking.Booking.{Booking}

-- ---- behind the start
pub inside : (xs : List Booking) (n k : ℕ) → k < length (drop n xs) → n + k < length xs
inside xs zero k lt = omega (arith, lt)
inside [] (suc n) k lt = absurd (omega (arith, lt))
inside (x ∷ xs) (suc n) k lt = omega (arith, inside xs n k lt)

pub set_behind : (xs : List Booking) (n k i : ℕ) (b : Booking) → k < length (drop n xs) → i ≡ n + k
    → drop n (set xs i b) ≡ set (drop n xs) k b
set_behind xs zero k i b lt at = let here : i ≡ k = omega (arith, at) in ap (λ (j : ℕ). set xs j b) here
set_behind [] (suc n) k i b lt at = absurd (omega (arith, lt))
set_behind (x ∷ xs) (suc n) k zero b lt at = absurd (omega (arith, at))
set_behind (x ∷ xs) (suc n) k (suc i) b lt at = set_behind xs n k i b lt (omega (arith, at))

-- ---- one is taken out
pub taken_out : (xs : List Booking) (n k i : ℕ) → k < length (drop n xs) → i ≡ n + k
    → drop n (remove xs i) ≡ remove (drop n xs) k
taken_out xs zero k i lt at = let here : i ≡ k = omega (arith, at) in ap (λ (j : ℕ). remove xs j) here
taken_out [] (suc n) k i lt at = absurd (omega (arith, lt))
taken_out (x ∷ xs) (suc n) k zero lt at = absurd (omega (arith, at))
taken_out (x ∷ xs) (suc n) k (suc i) lt at = taken_out xs n k i lt (omega (arith, at))

drop_taken : (n : ℕ) (xs ys : List Booking) → n ≤ length xs → drop n (take n xs ++ ys) ≡ ys
drop_taken zero xs ys le = refl
drop_taken (suc n) [] ys le = absurd (omega (arith, le))
drop_taken (suc n) (x ∷ xs) ys le = drop_taken n xs ys (omega (arith, le))

pub moved_up : (xs : List Booking) (n k i m : ℕ) → k < length (drop n xs) → i ≡ n + k → m ≡ n + 1
    → drop m (copy_within xs n i m) ≡ remove (drop n xs) k
moved_up xs n k i m lt at next =
    let within : m ≤ length xs = omega (arith, next, inside xs n k lt) in
    let few : i - n ≡ k = omega (arith, at) in
    let last : m + k ≡ n + suc k = omega (arith, next) in
    ap (drop m) (append_assoc (take m xs) (take (i - n) (drop n xs)) (drop (m + (i - n)) xs))
    ∙ (drop_taken m xs (take (i - n) (drop n xs) ++ drop (m + (i - n)) xs) within
    ∙ (ap (λ (j : ℕ). take j (drop n xs) ++ drop (m + j) xs) few
    ∙ ap (λ (ys : List Booking). take k (drop n xs) ++ ys) (ap (λ (j : ℕ). drop j xs) last ∙ sym (drop-drop (suc k) n xs))))

-- ---- what stands before the start goes
take_taken : (ys zs : List Booking) (n : ℕ) → n ≡ length ys → take n (take n ys ++ zs) ≡ ys
take_taken ys zs n is = ap (λ (j : ℕ). take j (take j ys ++ zs)) is ∙ whole ys where
  whole : (ys : List Booking) → take (length ys) (take (length ys) ys ++ zs) ≡ ys
  whole [] = refl
  whole (y ∷ ys) = ap (λ (l : List Booking). y ∷ l) (whole ys)

pub closed_up : (xs : List Booking) (n len : ℕ) → len ≡ length xs
    → take (len - n) (copy_within xs n len 0) ≡ drop n xs
closed_up xs n len is = take_taken (drop n xs) (drop (0 + (len - n)) xs) (len - n) (omega (arith, is, length-drop n xs))
