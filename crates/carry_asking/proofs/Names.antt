-- A place that is found by a name has that name.
use Rattle.std.proofs.Common.{◌≡◌, ℕ, zero, suc, ◌+◌, ◌==◌, ◌&&◌, Bool, true, false, nat_eq, drop, List, [], ◌∷◌, ◌++◌, slice_get, Option, Some, None, arith, refl, sym, ap, ◌∙◌}
use Rattle.std.specs.Cmp.Lexicographic.{pointwise, same_text}
use Rattle.std.specs.List.{AllByRecursion}
use Rattle.std.specs.Map.{lookup}
use Rattle.std.specs.Option.{option_eq}
use Rattle.airline_base.proofs.Tests.{both_true}
use Rattle.airline_base.specs.declared.place.Place.{Place}
use Rattle.ssim_flights.specs.Places.{ends_from, place, place_wanted, places, places_from, same_wanted, wish}
use Rattle.ssim_flights.specs.declared.flight.DatedLeg.{DatedLeg}
use Rattle.ssim_flights.specs.declared.flight.Flight.{Flight as Flown}
use Rattle.ssim_flights.specs.declared.flight.Wanted.{Wanted}
use Rattle.seat_rules.proofs.History.Faults.{nat_same}
use Rattle.seat_moving.specs.Moving.{name_of, name_on, named}

-- ---- names

same_suffix : (a b : Option ℕ) → option_eq nat_eq a b ≡ true → a ≡ b
same_suffix None None e = refl
same_suffix None (Some y) e = absurd cc
same_suffix (Some x) None e = absurd cc
same_suffix (Some x) (Some y) e = ap (λ (n : ℕ). Some n) (nat_same x y e)

same_name : (a b : Wanted) → a.airline ≡ b.airline → a.number ≡ b.number → a.suffix ≡ b.suffix → a.day ≡ b.day
    → a.board ≡ b.board → a.off ≡ b.off → a ≡ b
same_name a b e f g h k l = λ i. record { airline = e i; number = f i; suffix = g i; day = h i; board = k i; off = l i }

wanted_same : (a b : Wanted) → same_wanted a b ≡ true → a ≡ b
wanted_same a b e =
    let one = both_true (pointwise nat_eq a.airline b.airline) ((a.number == b.number) && (option_eq nat_eq a.suffix b.suffix && ((a.day == b.day) && (pointwise nat_eq a.board b.board && pointwise nat_eq a.off b.off)))) e in
    let two = both_true (a.number == b.number) (option_eq nat_eq a.suffix b.suffix && ((a.day == b.day) && (pointwise nat_eq a.board b.board && pointwise nat_eq a.off b.off))) one.1 in
    let three = both_true (option_eq nat_eq a.suffix b.suffix) ((a.day == b.day) && (pointwise nat_eq a.board b.board && pointwise nat_eq a.off b.off)) two.1 in
    let four = both_true (a.day == b.day) (pointwise nat_eq a.board b.board && pointwise nat_eq a.off b.off) three.1 in
    let five = both_true (pointwise nat_eq a.board b.board) (pointwise nat_eq a.off b.off) four.1 in
    same_name a b (same_text a.airline b.airline (sym one.0)) (nat_same a.number b.number two.0) (same_suffix a.suffix b.suffix three.0) (nat_same a.day b.day four.0)
    (same_text a.board b.board (sym five.0)) (same_text a.off b.off (sym five.1))

-- ---- places and their names

-- the first of the items behind so many
at_drop : {A : Type 0} (xs : List A) (i : ℕ) (x : A) (rest : List A) → x ∷ rest ≡ drop i xs
    → (slice_get xs i ≡ Some x) × (rest ≡ drop (suc i) xs)
at_drop [] zero x rest e = absurd cc
at_drop [] (suc i) x rest e = absurd cc
at_drop (y ∷ ys) zero x rest e = let first : x ≡ y = cc in let more : rest ≡ ys = cc in (ap (λ (z : _). Some z) (sym first), more)
at_drop (y ∷ ys) (suc i) x rest e = at_drop ys i x rest e

next_drop : {A : Type 0} (xs : List A) (i : ℕ) (rest : List A) → rest ≡ drop (suc i) xs → rest ≡ drop (i + 1) xs
next_drop {A} xs i rest e = let n : suc i ≡ i + 1 = omega arith in e ∙ ap (λ (k : ℕ). drop k xs) n

-- the place of what it is listed with has that name
abbrev HasName : List Flown → (Wanted × Place) → Type 0
HasName flights e = name_of flights e.1 ≡ Some e.0

name_at : (flights : List Flown) (n : ℕ) (flight : Flown) (from to : ℕ) (first last : DatedLeg) → slice_get flights n ≡ Some flight
    → slice_get flight.legs from ≡ Some first → slice_get flight.legs to ≡ Some last
    → name_of flights (place n from to) ≡ Some (wish flight first last)
name_at flights n flight from to first last at starts ends =
    ap (λ (o : Option Flown). name_on o (place n from to)) at
    ∙ ap (λ (o : Option DatedLeg). named flight o (slice_get flight.legs to)) starts
    ∙ ap (λ (o : Option DatedLeg). named flight (Some first) o) ends

both_all : (P : Wanted × Place → Type 0) (xs ys : List (Wanted × Place)) → AllByRecursion P xs → AllByRecursion P ys
    → AllByRecursion P (xs ++ ys)
both_all P [] ys a b = b
both_all P (x ∷ xs) ys a b = (a.0, both_all P xs ys a.1 b)

ends_named : (flights : List Flown) (n : ℕ) (flight : Flown) (from : ℕ) (first : DatedLeg) (to : ℕ) (legs : List DatedLeg)
    → slice_get flights n ≡ Some flight → slice_get flight.legs from ≡ Some first → legs ≡ drop to flight.legs
    → AllByRecursion (HasName flights) (ends_from flight n from first to legs)
ends_named flights n flight from first to [] at starts rest = tt
ends_named flights n flight from first to (leg ∷ legs) at starts rest =
    let here = at_drop flight.legs to leg legs rest in (
      name_at flights n flight from to first leg at starts here.0,
      ends_named flights n flight from first (to + 1) legs at starts (next_drop flight.legs to legs here.1),
    )

from_named : (flights : List Flown) (n : ℕ) (flight : Flown) (from : ℕ) (legs : List DatedLeg) → slice_get flights n ≡ Some flight
    → legs ≡ drop from flight.legs → AllByRecursion (HasName flights) (places_from flight n from legs)
from_named flights n flight from [] at rest = tt
from_named flights n flight from (leg ∷ legs) at rest =
    let here = at_drop flight.legs from leg legs rest in
    both_all (HasName flights) (ends_from flight n from leg from (leg ∷ legs)) (places_from flight n (from + 1) legs)
    (ends_named flights n flight from leg from (leg ∷ legs) at here.0 rest)
    (from_named flights n flight (from + 1) legs at (next_drop flight.legs from legs here.1))

all_named : (flights : List Flown) (n : ℕ) (rest : List Flown) → rest ≡ drop n flights → AllByRecursion (HasName flights) (places n rest)
all_named flights n [] behind = tt
all_named flights n (flight ∷ rest) behind =
    let here = at_drop flights n flight rest behind in
    both_all (HasName flights) (places_from flight n 0 flight.legs) (places (n + 1) rest)
    (from_named flights n flight 0 flight.legs here.0 refl) (all_named flights (n + 1) rest (next_drop flights n rest here.1))

-- ---- what is found

looked_up : (flights : List Flown) (wanted : Wanted) (entries : List (Wanted × Place)) (p : Place) → AllByRecursion (HasName flights) entries
    → lookup (λ w. same_wanted w wanted) entries ≡ Some p → name_of flights p ≡ Some wanted
looked_up flights wanted [] p all is = absurd cc
looked_up flights wanted (e ∷ entries) p all is =
    cases (same_wanted e.0 wanted) refl (looked_up flights wanted entries p all.1)
  where
    cases : (t : Bool) → same_wanted e.0 wanted ≡ t
        → (lookup (λ w. same_wanted w wanted) entries ≡ Some p → name_of flights p ≡ Some wanted) → name_of flights p ≡ Some wanted
    cases true told later =
        let one : Some e.1 ≡ Some p = rw told at is in
        let same : e.1 ≡ p = cc one in
        ap (name_of flights) (sym same) ∙ all.0 ∙ ap (λ (w : Wanted). Some w) (wanted_same e.0 wanted told)
    cases false told later = later (rw told at is)

-- a place that is found by a name has that name
pub found_is_named : (flights : List Flown) (wanted : Wanted) (p : Place) → place_wanted flights wanted ≡ Some p
    → name_of flights p ≡ Some wanted
unfolding place_wanted
found_is_named flights wanted p is = looked_up flights wanted (places 0 flights) p (all_named flights 0 flights refl) is
