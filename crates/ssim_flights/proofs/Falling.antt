-- Where the local days of all legs come again together, one round tells whether a leg falls back.
use Rattle.std.proofs.Common.{◌≡◌, ℕ, zero, suc, ◌+◌, ◌-◌, ◌*◌, ◌/◌, ◌%◌, ◌<◌, ◌≤◌, Bool, cond, nat_lt, List, [], ◌∷◌, ◌++◌, length, get_or, take, drop, min, All, Option, Some, None, inl, inr, refl, sym, ap, subst, ◌∙◌, arith}
use Rattle.std.specs.Prelude.{◌⊎◌}
use Rattle.std.specs.Option.{option_or}
use Rattle.std.proofs.Math.Nat.{add-div_right, add-mod_right, suc-mul}
use Rattle.std.proofs.lemmas.Bool.{cases_lt, le-ltb}
use Rattle.std.proofs.lemmas.Bool.Decides.{nat_tests}
use Rattle.std.proofs.lemmas.List.{get_or-take, length-take, take-append-drop}
use Rattle.std.proofs.lemmas.List.Elements.{All-get_or, All-head, All-tail}
use Rattle.std.proofs.lemmas.List.FromFn.{get_or-range_with_len, length-range_with_len}
use Rattle.ssim_flights.proofs.Common.{range_with_len, Scheduled}
use Rattle.ssim_flights.specs.declared.local_days.LocalDays.{LocalDays}
use Rattle.ssim_flights.specs.Schedules.{falling_after, falling_at, local_at, AreNext, Reaches, Repeats, RepeatTogether}
use Rattle.ssim_flights.specs.Timetables.{local_of, AreLocalsOf}

-- ---- one row

-- a leg falls back at an operation where it does a round later
later_after : (n later i before : ℕ) (legs : List Scheduled) → All (Repeats n later) legs → Reaches legs (i + n)
    → falling_after (i + n) (before + later) legs ≡ falling_after i before legs
later_after n later i before [] each reach = refl
later_after n later i before (leg ∷ legs) each reach =
    let here : local_at leg (i + n) ≡ local_at leg i + later = (All-head (Repeats n later) leg legs each).at i (All-head (λ l. i + n < length l.operations) leg legs reach) in
    let test : nat_lt (local_at leg (i + n) + 1) (before + later) ≡ nat_lt (local_at leg i + 1) before = grind (arith, nat_tests, here) in
    let rest : falling_after (i + n) (local_at leg (i + n)) legs ≡ falling_after i (local_at leg i) legs =
    ap (λ (d : ℕ). falling_after (i + n) d legs) here
    ∙ later_after n later i (local_at leg i) legs (All-tail (Repeats n later) leg legs each) (All-tail (λ l. i + n < length l.operations) leg legs reach) in
    ap (λ (b : Bool). cond b (Some leg.leg.serial) (falling_after (i + n) (local_at leg (i + n)) legs)) test
    ∙ ap (λ (o : Option ℕ). cond (nat_lt (local_at leg i + 1) before) (Some leg.leg.serial) o) rest

-- leg 1 never does
first_never : (i : ℕ) (leg : Scheduled) (legs : List Scheduled)
    → falling_after i 0 (leg ∷ legs) ≡ falling_after i (local_at leg i) legs
first_never i leg legs =
    ap (λ (b : Bool). cond b (Some leg.leg.serial) (falling_after i (local_at leg i) legs)) (le-ltb (local_at leg i + 1) 0 (omega arith))

again_at : (n later i : ℕ) (legs : List Scheduled) → All (Repeats n later) legs → Reaches legs (i + n)
    → falling_after (i + n) 0 legs ≡ falling_after i 0 legs
again_at n later i [] each reach = refl
again_at n later i (leg ∷ legs) each reach =
    let here : local_at leg (i + n) ≡ local_at leg i + later = (All-head (Repeats n later) leg legs each).at i (All-head (λ l. i + n < length l.operations) leg legs reach) in
    first_never (i + n) leg legs
    ∙ ap (λ (d : ℕ). falling_after (i + n) d legs) here
    ∙ later_after n later i (local_at leg i) legs (All-tail (Repeats n later) leg legs each) (All-tail (λ l. i + n < length l.operations) leg legs reach)
    ∙ sym (first_never i leg legs)

-- ---- all rows

none_each : (legs : List Scheduled) (rows : List ℕ) → falling_at legs rows ≡ None → (k : ℕ) → k < length rows
    → falling_after (get_or rows k 0) 0 legs ≡ None
none_each legs [] none k inside = absurd (omega arith)
none_each legs (i ∷ rows) none k inside =
    of (falling_after i 0 legs) refl (λ rest. none_each legs rows rest) k inside
  where
    of : (o : Option ℕ) → falling_after i 0 legs ≡ o
        → (falling_at legs rows ≡ None → (k : ℕ) → k < length rows → falling_after (get_or rows k 0) 0 legs ≡ None)
        → (k : ℕ) → k < length (i ∷ rows) → falling_after (get_or (i ∷ rows) k 0) 0 legs ≡ None
    of (Some s) e later k inside =
        let some : None ≡ Some s = sym none ∙ ap (λ (o : Option ℕ). option_or o (falling_at legs rows)) e in
        absurd cc
    of None e later zero inside = e
    of None e later (suc k) inside =
        later (ap (λ (o : Option ℕ). option_or o (falling_at legs rows)) (sym e) ∙ none) k (omega arith)

none_all : (legs : List Scheduled) (rows : List ℕ)
    → ((k : ℕ) → k < length rows → falling_after (get_or rows k 0) 0 legs ≡ None) → falling_at legs rows ≡ None
none_all legs [] each = refl
none_all legs (i ∷ rows) each =
    ap (λ (o : Option ℕ). option_or o (falling_at legs rows)) (each 0 (omega arith))
    ∙ none_all legs rows (λ k inside. each (suc k) (omega arith))

falling_append : (legs : List Scheduled) (xs ys : List ℕ)
    → falling_at legs (xs ++ ys) ≡ option_or (falling_at legs xs) (falling_at legs ys)
falling_append legs [] ys = refl
falling_append legs (i ∷ xs) ys =
    ap (option_or (falling_after i 0 legs)) (falling_append legs xs ys)
    ∙ nested (falling_after i 0 legs) (falling_at legs xs) (falling_at legs ys)
  where
    nested : (a b c : Option ℕ) → option_or a (option_or b c) ≡ option_or (option_or a b) c
    nested None b c = refl
    nested (Some s) b c = refl

module _ (legs : List Scheduled) (rows : List ℕ) (n : ℕ) (next : AreNext rows) (reach : All (Reaches legs) rows) (again : RepeatTogether n legs) (none : falling_at legs (take n rows) ≡ None) where
  none_at : (m k : ℕ) → k < m → k < length rows → falling_after (next.begin + k) 0 legs ≡ None
  none_at zero k below inside = absurd (omega arith)
  none_at (suc m) k below inside = by (cases_lt k n) (λ j h inside. none_at m j h inside)
    where
      by : (k < n) ⊎ (n ≤ k) → ((j : ℕ) → j < m → j < length rows → falling_after (next.begin + j) 0 legs ≡ None)
          → falling_after (next.begin + k) 0 legs ≡ None
      by (inl front) earlier =
          let some = length-take n rows in
          ap (λ (i : ℕ). falling_after i 0 legs) (sym (get_or-take n rows k 0 front ∙ next.at k inside))
          ∙ none_each legs (take n rows) none k (omega arith)
      by (inr past) earlier =
          let some = again.some in
          let is : next.begin + k ≡ next.begin + (k - n) + n = omega arith in
          let here : Reaches legs (next.begin + (k - n) + n) =
          subst (λ (i : ℕ). Reaches legs i) (next.at k inside ∙ is) (All-get_or (Reaches legs) rows k 0 inside reach) in
          ap (λ (i : ℕ). falling_after i 0 legs) is
          ∙ again_at n again.later (next.begin + (k - n)) legs again.each here
          ∙ earlier (k - n) (omega arith) (omega arith)

  none_falls_back : falling_at legs rows ≡ None
  none_falls_back = none_all legs rows (λ k inside. ap (λ (i : ℕ). falling_after i 0 legs) (next.at k inside) ∙ none_at (suc k) k (omega arith) inside)

-- the rows of one round tell of all
pub round_tells : (legs : List Scheduled) (rows : List ℕ) (n : ℕ) → AreNext rows → All (Reaches legs) rows
    → RepeatTogether n legs → falling_at legs rows ≡ falling_at legs (take n rows)
round_tells legs rows n next reach again = of (falling_at legs (take n rows)) refl
  where
    of : (o : Option ℕ) → falling_at legs (take n rows) ≡ o → falling_at legs rows ≡ falling_at legs (take n rows)
    of None e = none_falls_back legs rows n next reach again e ∙ sym e
    of (Some s) e =
        ap (falling_at legs) (sym (take-append-drop n rows)) ∙ falling_append legs (take n rows) (drop n rows)
        ∙ ap (λ (o : Option ℕ). option_or o (falling_at legs (drop n rows))) e ∙ sym e

-- ---- rounds

pub range_next : (begin n : ℕ) (rows : List ℕ) → range_with_len begin n ≡ rows → AreNext rows
range_next begin n rows is = record {
  begin = begin;
  at = λ k inside.
      let count = length-range_with_len begin n in
      let same = ap length is in
      ap (λ (l : List ℕ). get_or l k 0) (sym is) ∙ get_or-range_with_len begin n k 0 (omega arith);
}

pub take_range : (begin n k : ℕ) → take k (range_with_len begin n) ≡ range_with_len begin (min k n)
take_range begin n k = of begin n k (cases_lt k n)
  where
    front : (begin n k : ℕ) → k ≤ n → take k (range_with_len begin n) ≡ range_with_len begin k
    front begin n zero le = refl
    front begin zero (suc k) le = absurd (omega arith)
    front begin (suc n) (suc k) le = ap (λ (l : List ℕ). begin ∷ l) (front (begin + 1) n k (omega arith))

    all : (begin n k : ℕ) → n ≤ k → take k (range_with_len begin n) ≡ range_with_len begin n
    all begin zero zero le = refl
    all begin zero (suc k) le = refl
    all begin (suc n) zero le = absurd (omega arith)
    all begin (suc n) (suc k) le = ap (λ (l : List ℕ). begin ∷ l) (all (begin + 1) n k (omega arith))

    of : (begin n k : ℕ) → (k < n) ⊎ (n ≤ k) → take k (range_with_len begin n) ≡ range_with_len begin (min k n)
    of begin n k (inl lt) =
        let least : k ≡ min k n = omega arith in
        front begin n k (omega arith) ∙ ap (range_with_len begin) least
    of begin n k (inr ge) =
        let least : n ≡ min k n = omega arith in
        all begin n k ge ∙ ap (range_with_len begin) least

-- local days that are told by rounds come again round by round
pub locals_repeat : (leg : Scheduled) (days : LocalDays) (n later : ℕ) → AreLocalsOf leg.operations days → 1 ≤ n
    → days.many ≡ n → days.round ≡ later → Repeats n later leg
locals_repeat leg days n later are some many round = record {
  at = λ i inside.
      let there = are.at (i + n) inside in
      let here = are.at i (omega arith) in
      sym there ∙ by_round i ∙ ap (λ (d : ℕ). d + later) here;
}
  where
    more : (a q r later : ℕ) → r ≡ later → a + (q + 1) * r ≡ a + q * r + later
    more a q r later e =
        let product = suc-mul q r in
        omega arith

    by_round : (i : ℕ) → local_of days (i + n) ≡ local_of days i + later
    by_round i =
        let place : (i + n) % days.many ≡ i % days.many = ap (λ (m : ℕ). (i + m) % days.many) (sym many) ∙ add-mod_right i days.many in
        let past : (i + n) / days.many ≡ i / days.many + 1 = ap (λ (m : ℕ). (i + m) / days.many) (sym many) ∙ add-div_right i (omega arith) in
        ap (λ (j : ℕ). get_or days.first j 0 + (i + n) / days.many * days.round) place
        ∙ ap (λ (q : ℕ). get_or days.first (i % days.many) 0 + q * days.round) past
        ∙ more (get_or days.first (i % days.many) 0) (i / days.many) days.round later round
