-- A date that is read is written so, and what is written so is read.
use Rattle.std.proofs.Common.{inl, inr, ◌≡◌, ℕ, zero, suc, ◌+◌, ◌-◌, ◌*◌, ◌/◌, ◌%◌, ◌<◌, ◌≤◌, Bool, true, false, cond, leb, eqb, ◌&&◌, ◌||◌, List, [], ◌∷◌, ◌++◌, length, Option, Some, None, refl, sym, ap, subst, ◌∙◌, arith, ℤ, pos, negsuc, ◌≤ℤ◌, unsigned_abs}
use Rattle.std.specs.Prelude.{IsSome, IfSome}
use Rattle.std.specs.Char.{is_ascii_digit}
use Rattle.std.proofs.lemmas.Bool.{eqb-true}
use Rattle.std.proofs.lemmas.Bool.Decides.{nat_tests}
use Rattle.jiff_core.specs.Calendar.{days_from_civil, days_in_month, IsCivilDate}
use Rattle.jiff_core.proofs.SignedLemmas.{signed_arith}
use Rattle.airline_base.specs.Fields.{two_are, two_value, month_of}
use Rattle.airline_base.specs.Days.{day_month, IsCenturyDay, ReadIsWritten, WrittenIsRead, OneDateText, IsDate, IsDayField, two_digits, month_name, is_civil, civil_in, dated, date_in}
use Rattle.airline_base.proofs.Years.{low_day, low_century, high_century, from_2000, until_2099, same_parts}
use Rattle.airline_base.proofs.Tests.{passed, guarded, chosen, kept, both_true, both_are, none_some, nothing}

-- ---- two digits

pub two_takes : (t u : ℕ) → two_are t u ≡ true → two_digits (two_value t u) ≡ t ∷ u ∷ []
two_takes t u h =
    let d = both_true (is_ascii_digit t) (is_ascii_digit u) h in
    let p : (48 ≤ t) × (t ≤ 57) = grind (arith, nat_tests, d.0) in
    let q : (48 ≤ u) × (u ≤ 57) = grind (arith, nat_tests, d.1) in
    let first : 48 + ((t - 48) * 10 + (u - 48)) / 10 ≡ t = omega arith in
    let second : 48 + ((t - 48) * 10 + (u - 48)) % 10 ≡ u = omega arith in
    rw (first, second) refl

pub two_small : (t u : ℕ) → two_are t u ≡ true → two_value t u < 100
two_small t u h =
    let d = both_true (is_ascii_digit t) (is_ascii_digit u) h in
    let p : (48 ≤ t) × (t ≤ 57) = grind (arith, nat_tests, d.0) in
    let q : (48 ≤ u) × (u ≤ 57) = grind (arith, nat_tests, d.1) in
    omega arith

pub two_again : (n : ℕ) → n < 100
    → (two_are (48 + n / 10) (48 + n % 10) ≡ true) × (two_value (48 + n / 10) (48 + n % 10) ≡ n)
two_again n h =
    let first : is_ascii_digit (48 + n / 10) ≡ true = grind (arith, nat_tests) in
    let second : is_ascii_digit (48 + n % 10) ≡ true = grind (arith, nat_tests) in
    (both_are (is_ascii_digit (48 + n / 10)) (is_ascii_digit (48 + n % 10)) first second, omega arith)

-- ---- months

-- three bytes are these
abbrev is_name : ℕ → ℕ → ℕ → ℕ → ℕ → ℕ → Bool
is_name x y z a b c = eqb a x && eqb b y && eqb c z

pub record IsMonth (a b c m : ℕ) : Type 0 where
  pub name : a ∷ b ∷ c ∷ [] ≡ month_name m
  pub low : 1 ≤ m
  pub high : m ≤ 12

named : (x y z k : ℕ) (a b c m : ℕ) → x ∷ y ∷ z ∷ [] ≡ month_name k → 1 ≤ k → k ≤ 12
    → (is_name x y z a b c ≡ true) × (k ≡ m) → IsMonth a b c m
named x y z k a b c m name low high h =
    let p = both_true (eqb a x && eqb b y) (eqb c z) h.0 in
    let q = both_true (eqb a x) (eqb b y) p.0 in
    let first : a ≡ x = eqb-true a x q.0 in
    let second : b ≡ y = eqb-true b y q.1 in
    let third : c ≡ z = eqb-true c z p.1 in
    rw (← h.1, first, second, third) (record { name = name; low = low; high = high })

pub month_takes : (a b c m : ℕ) → month_of a b c ≡ Some m → IsMonth a b c m
month_takes a b c m e =
    elim (chosen (is_name 74 65 78 a b c) 1 _ m e) [ inl h ↦ named 74 65 78 1 a b c m refl (omega arith) (omega arith) h | inr e1 ↦ elim (chosen (is_name 70 69 66 a b c) 2 _ m e1) [ inl h ↦ named 70 69 66 2 a b c m refl (omega arith) (omega arith) h | inr e2 ↦ elim (chosen (is_name 77 65 82 a b c) 3 _ m e2) [ inl h ↦ named 77 65 82 3 a b c m refl (omega arith) (omega arith) h | inr e3 ↦ elim (chosen (is_name 65 80 82 a b c) 4 _ m e3) [ inl h ↦ named 65 80 82 4 a b c m refl (omega arith) (omega arith) h | inr e4 ↦ elim (chosen (is_name 77 65 89 a b c) 5 _ m e4) [ inl h ↦ named 77 65 89 5 a b c m refl (omega arith) (omega arith) h | inr e5 ↦ elim (chosen (is_name 74 85 78 a b c) 6 _ m e5) [ inl h ↦ named 74 85 78 6 a b c m refl (omega arith) (omega arith) h | inr e6 ↦ elim (chosen (is_name 74 85 76 a b c) 7 _ m e6) [ inl h ↦ named 74 85 76 7 a b c m refl (omega arith) (omega arith) h | inr e7 ↦ elim (chosen (is_name 65 85 71 a b c) 8 _ m e7) [ inl h ↦ named 65 85 71 8 a b c m refl (omega arith) (omega arith) h | inr e8 ↦ elim (chosen (is_name 83 69 80 a b c) 9 _ m e8) [ inl h ↦ named 83 69 80 9 a b c m refl (omega arith) (omega arith) h | inr e9 ↦ elim (chosen (is_name 79 67 84 a b c) 10 _ m e9) [ inl h ↦ named 79 67 84 10 a b c m refl (omega arith) (omega arith) h | inr e10 ↦ elim (chosen (is_name 78 79 86 a b c) 11 _ m e10) [ inl h ↦ named 78 79 86 11 a b c m refl (omega arith) (omega arith) h | inr e11 ↦ elim (chosen (is_name 68 69 67 a b c) 12 nothing m e11) [ inl h ↦ named 68 69 67 12 a b c m refl (omega arith) (omega arith) h | inr r ↦ absurd (none_some m r) ] ] ] ] ] ] ] ] ] ] ] ]

-- the name of each month is read
abbrev pub reads_month : ℕ → List ℕ → Type 0
reads_month m (a ∷ b ∷ c ∷ []) = month_of a b c ≡ Some m
reads_month m _ = ⊥

pub month_again : (m : ℕ) → 1 ≤ m → m ≤ 12 → reads_month m (month_name m)
month_again zero low high = absurd (omega arith)
month_again (suc zero) low high = refl
month_again (suc (suc zero)) low high = refl
month_again (suc (suc (suc zero))) low high = refl
month_again (suc (suc (suc (suc zero)))) low high = refl
month_again (suc (suc (suc (suc (suc zero))))) low high = refl
month_again (suc (suc (suc (suc (suc (suc zero)))))) low high = refl
month_again (suc (suc (suc (suc (suc (suc (suc zero))))))) low high = refl
month_again (suc (suc (suc (suc (suc (suc (suc (suc zero)))))))) low high = refl
month_again (suc (suc (suc (suc (suc (suc (suc (suc (suc zero))))))))) low high = refl
month_again (suc (suc (suc (suc (suc (suc (suc (suc (suc (suc zero)))))))))) low high = refl
month_again (suc (suc (suc (suc (suc (suc (suc (suc (suc (suc (suc zero))))))))))) low high = refl
month_again (suc (suc (suc (suc (suc (suc (suc (suc (suc (suc (suc (suc zero)))))))))))) low high = refl
month_again (suc (suc (suc (suc (suc (suc (suc (suc (suc (suc (suc (suc (suc n))))))))))))) low high = absurd (omega arith)

length_read : (m : ℕ) (name : List ℕ) → reads_month m name → length name ≡ 3
length_read m [] h = absurd h
length_read m (a ∷ []) h = absurd h
length_read m (a ∷ b ∷ []) h = absurd h
length_read m (a ∷ b ∷ c ∷ []) h = refl
length_read m (a ∷ b ∷ c ∷ d ∷ name) h = absurd h

pub length_name : (m : ℕ) → 1 ≤ m → m ≤ 12 → length (month_name m) ≡ 3
length_name m low high = length_read m (month_name m) (month_again m low high)

-- ---- the calendar

pub from_zero : (z : ℤ) → pos 10592 ≤ℤ z → z ≡ pos (unsigned_abs z)
from_zero (pos n) low = refl
from_zero (negsuc n) low = absurd (omega (arith, signed_arith))

pub civil_takes : (y m d n : ℕ) → y < 100 → civil_in (2000 + y) m d ≡ Some n → IsDate (2000 + y) m d n
unfolding civil_in
civil_takes y m d n small e =
    let p = passed (is_civil (2000 + y) m d) (unsigned_abs (days_from_civil (pos (2000 + y)) m d)) n e in
    let t = both_true (leb 1 m && leb m 12) (leb 1 d && leb d (days_in_month (pos (2000 + y)) m)) p.0 in
    let u = both_true (leb 1 m) (leb m 12) t.0 in
    let v = both_true (leb 1 d) (leb d (days_in_month (pos (2000 + y)) m)) t.1 in
    let m1 : 1 ≤ m = grind (arith, nat_tests, u.0) in
    let m2 : m ≤ 12 = grind (arith, nat_tests, u.1) in
    let d1 : 1 ≤ d = grind (arith, nat_tests, v.0) in
    let d2 : d ≤ days_in_month (pos (2000 + y)) m = le_of d (days_in_month (pos (2000 + y)) m) v.1 in
    let civil : IsCivilDate (pos (2000 + y)) m d = ((omega (arith, signed_arith), omega (arith, signed_arith)), (m1, m2), (d1, d2)) in
    (civil, from_zero _ (low_day (pos (2000 + y)) m d civil (omega (arith, signed_arith))) ∙ ap (λ (x : ℕ). pos x) p.1)
  where
    le_of : (a b : ℕ) → leb a b ≡ true → a ≤ b
    le_of a b h = grind (arith, nat_tests, h)

pub civil_again : (y m d n : ℕ) → IsDate y m d n → civil_in y m d ≡ Some n
unfolding civil_in
civil_again y m d n h =
    let civil = h.0 in
    let m1 : leb 1 m ≡ true = of_le 1 m civil.1.0 in
    let m2 : leb m 12 ≡ true = of_le m 12 civil.1.1 in
    let d1 : leb 1 d ≡ true = of_le 1 d civil.2.0 in
    let d2 : leb d (days_in_month (pos y) m) ≡ true = of_le d (days_in_month (pos y) m) civil.2.1 in
    kept (is_civil y m d) (Some (unsigned_abs (days_from_civil (pos y) m d))) (both_are (leb 1 m && leb m 12) (leb 1 d && leb d (days_in_month (pos y) m)) (both_are (leb 1 m) (leb m 12) m1 m2) (both_are (leb 1 d) (leb d (days_in_month (pos y) m)) d1 d2))
    ∙ ap (λ (z : ℤ). Some (unsigned_abs z)) h.1
  where
    of_le : (a b : ℕ) → a ≤ b → leb a b ≡ true
    of_le a b h = grind (arith, nat_tests, h)

civil_true : (y m d : ℕ) → y ≤ 2099 → is_civil y m d ≡ true → IsCivilDate (pos y) m d
civil_true y m d small h =
    let t = both_true (leb 1 m && leb m 12) (leb 1 d && leb d (days_in_month (pos y) m)) h in
    let u = both_true (leb 1 m) (leb m 12) t.0 in
    let v = both_true (leb 1 d) (leb d (days_in_month (pos y) m)) t.1 in
    ((omega (arith, signed_arith), omega (arith, signed_arith)), (le_is 1 m u.0, le_is m 12 u.1), (le_is 1 d v.0, le_is d (days_in_month (pos y) m) v.1))
  where
    le_is : (a b : ℕ) → leb a b ≡ true → a ≤ b
    le_is a b h = grind (arith, nat_tests, h)

-- what the calendar answers
pub civil_is : (y m d : ℕ) (r : Option ℕ) → 2000 ≤ y → y ≤ 2099
    → ((1999 ≤ y) × (y ≤ 2199) × IsCivilDate (pos y) m d → IsSome r) → IfSome r (λ n. IsDate y m d n)
    → r ≡ civil_in y m d
unfolding civil_in
civil_is y m d (Some n) low high valid value = sym (civil_again y m d n value)
civil_is y m d None low high valid value = of (is_civil y m d) refl
  where
    of : (b : Bool) → is_civil y m d ≡ b → nothing ≡ cond b (Some (unsigned_abs (days_from_civil (pos y) m d))) None
    of true h = let bad : false ≡ true = valid (omega arith, omega arith, civil_true y m d high h) in absurd cc
    of false h = refl

-- ---- dates

dated_takes : (y d : ℕ) (o : Option ℕ) (n : ℕ) → dated y d o ≡ Some n
    → (m : ℕ) × (o ≡ Some m) × (civil_in (2000 + y) m d ≡ Some n)
dated_takes y d None n e = absurd (none_some n e)
dated_takes y d (Some m) n e = (m, refl, e)

pub date_takes : (text : List ℕ) (n : ℕ) → date_in text ≡ Some n → IsDayField text n
unfolding date_in
date_takes [] n e = absurd cc
date_takes (t ∷ []) n e = absurd cc
date_takes (t ∷ u ∷ []) n e = absurd cc
date_takes (t ∷ u ∷ a ∷ []) n e = absurd cc
date_takes (t ∷ u ∷ a ∷ b ∷ []) n e = absurd cc
date_takes (t ∷ u ∷ a ∷ b ∷ c ∷ []) n e = absurd cc
date_takes (t ∷ u ∷ a ∷ b ∷ c ∷ y ∷ []) n e = absurd cc
date_takes (t ∷ u ∷ a ∷ b ∷ c ∷ y ∷ z ∷ []) n e =
    let g = guarded (two_are t u && two_are y z) (dated (two_value y z) (two_value t u) (month_of a b c)) n e in
    let w = both_true (two_are t u) (two_are y z) g.0 in
    let d = dated_takes (two_value y z) (two_value t u) (month_of a b c) n g.1 in
    let m = month_takes a b c d.0 d.1 in
    let day = two_value t u in
    let year = two_value y z in
    let front : t ∷ u ∷ [] ≡ two_digits day = sym (two_takes t u w.0) in
    let back : y ∷ z ∷ [] ≡ two_digits year = sym (two_takes y z w.1) in
    let written : t ∷ u ∷ a ∷ b ∷ c ∷ y ∷ z ∷ [] ≡ (two_digits day ++ month_name d.0) ++ two_digits year =
    ap (λ (x : List ℕ). t ∷ u ∷ a ∷ b ∷ c ∷ x) back ∙ ap (λ (x : List ℕ). (t ∷ u ∷ x) ++ two_digits year) m.name ∙ ap (λ (x : List ℕ). (x ++ month_name d.0) ++ two_digits year) front in
    record { year = year; month = d.0; day = day; date = civil_takes year d.0 day n (two_small y z w.1) d.2; century = two_small y z w.1; written = written }
date_takes (t ∷ u ∷ a ∷ b ∷ c ∷ y ∷ z ∷ k ∷ text) n e = absurd cc

date_of : (day month year : ℕ) (name : List ℕ) → day < 100 → year < 100 → reads_month month name
    → date_in ((two_digits day ++ name) ++ two_digits year) ≡ civil_in (2000 + year) month day
unfolding date_in
date_of day month year [] x y h = absurd h
date_of day month year (a ∷ []) x y h = absurd h
date_of day month year (a ∷ b ∷ []) x y h = absurd h
date_of day month year (a ∷ b ∷ c ∷ d ∷ name) x y h = absurd h
date_of day month year (a ∷ b ∷ c ∷ []) x y h =
    let p = two_again day x in
    let q = two_again year y in
    let t = 48 + day / 10 in
    let u = 48 + day % 10 in
    let v = 48 + year / 10 in
    let w = 48 + year % 10 in
    kept (two_are t u && two_are v w) (dated (two_value v w) (two_value t u) (month_of a b c)) (both_are (two_are t u) (two_are v w) p.0 q.0)
    ∙ ap (λ (o : Option ℕ). dated (two_value v w) (two_value t u) o) h
    ∙ ap (λ (i : ℕ). civil_in (2000 + i) month (two_value t u)) q.1
    ∙ ap (λ (i : ℕ). civil_in (2000 + year) month i) p.1

pub short_month : (leap : Bool) (m d : ℕ)
    → d ≤ cond (eqb m 2) (cond leap 29 28) (cond (eqb m 4 || eqb m 6 || eqb m 9 || eqb m 11) 30 31) → d < 100
short_month leap m d h = grind (arith, nat_tests, h)

pub date_again : (text : List ℕ) (n : ℕ) → IsDayField text n → date_in text ≡ Some n
date_again text n h =
    let civil = h.date.0 in
    let day : h.day < 100 = short_month _ h.month h.day civil.2.1 in
    ap date_in h.written ∙ date_of h.day h.month h.year (month_name h.month) day h.century (month_again h.month civil.1.0 civil.1.1) ∙ civil_again (2000 + h.year) h.month h.day n h.date

-- ---- the form and its reading

pub century : (text : List ℕ) (n : ℕ) → IsDayField text n → IsCenturyDay n
century text n h =
    let small : h.year < 100 = h.century in
    let low = low_century (pos (2000 + h.year)) h.month h.day h.date.0 (omega (arith, signed_arith)) in
    let high = high_century (pos (2000 + h.year)) h.month h.day h.date.0 (omega (arith, signed_arith, small)) in
    (omega (arith, signed_arith, low, h.date.1), omega (arith, signed_arith, high, h.date.1))

shorten : (year : ℕ) → year < 100 → (2000 + year) % 100 ≡ year
shorten year h = omega arith

pub read_is_written : ReadIsWritten
read_is_written n text e =
    let h = date_takes text n e in (
      century text n h,
      record {
        year = 2000 + h.year;
        month = h.month;
        day = h.day;
        date = h.date;
        written = h.written ∙ ap (λ (y : ℕ). day_month h.day h.month ++ two_digits y) (sym (shorten h.year h.century));
      },
    )

pub written_is_read : WrittenIsRead
written_is_read n text c h =
    let low : 2000 ≤ h.year = by_pos 2000 h.year (from_2000 (pos h.year) h.month h.day h.date.0 (omega (arith, signed_arith, c.0, h.date.1))) in
    let high : h.year ≤ 2099 = by_pos h.year 2099 (until_2099 (pos h.year) h.month h.day h.date.0 (omega (arith, signed_arith, c.1, h.date.1))) in
    let year : h.year ≡ 2000 + (h.year - 2000) = omega (arith, low) in
    let short : h.year % 100 ≡ h.year - 2000 = omega (arith, low, high) in
    date_again text n (record {
      year = h.year - 2000;
      month = h.month;
      day = h.day;
      date = subst (λ (y : ℕ). IsDate y h.month h.day n) year h.date;
      century = omega (arith, high);
      written = h.written ∙ ap (λ (y : ℕ). day_month h.day h.month ++ two_digits y) short;
    })
  where
    by_pos : (a b : ℕ) → pos a ≤ℤ pos b → a ≤ b
    by_pos a b le = omega (arith, signed_arith, le)

pub one_date_text : OneDateText
one_date_text n a b h k =
    let p = same_parts h.year h.month h.day k.year k.month k.day n h.date k.date in
    h.written ∙ ap (λ (y : ℕ). day_month h.day h.month ++ two_digits (y % 100)) p.0 ∙ ap (λ (m : ℕ). day_month h.day m ++ two_digits (k.year % 100)) p.1 ∙ ap (λ (d : ℕ). day_month d k.month ++ two_digits (k.year % 100)) p.2 ∙ sym k.written
