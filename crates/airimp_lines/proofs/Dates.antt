-- The earliest date on or after a day.
use Rattle.std.proofs.Common.{◌≡◌, ℕ, ◌+◌, ◌<◌, ◌≤◌, inl, inr, Bool, true, cond, leb, eqb, ◌||◌, refl, sym, subst, ◌∙◌, arith, rules, pos, unsigned_abs}
use Rattle.std.proofs.lemmas.Bool.{cases_order, cases_lt, leb-true, le-leb}
use Rattle.std.proofs.lemmas.Bool.Decides.{nat_tests}
use Rattle.jiff_core.specs.Calendar.{day_count, days_from_civil, days_in_month, is_leap_year, IsCivilDate}
use Rattle.jiff_core.proofs.SignedLemmas.{signed_arith}
use Rattle.jiff_core.proofs.CalendarLemmas.{days_from_civil-day_count, day_count-lt_year}
use Rattle.jiff_core.proofs.MarchLemmas.{day_count-late}
use Rattle.airline_base.specs.Days.{IsDate}
use Rattle.airline_base.proofs.Years.{low_day, pos_inj}
use Rattle.airline_base.proofs.DateLaws.{from_zero}
use Rattle.airline_base.proofs.Tests.{both_true, both_are}
use Rattle.airimp_lines.specs.Fields.{in_month}
use Rattle.airimp_lines.specs.Grammar.{IsNextDate}

-- a date of an earlier year has a smaller number
pub earlier : (y m d k y2 m2 d2 n : ℕ) → IsDate y m d k → IsDate y2 m2 d2 n → y < y2 → k < n
earlier y m d k y2 m2 d2 n a b lt =
    omega (arith, signed_arith, a.1, b.1, days_from_civil-day_count (pos y) m d, days_from_civil-day_count (pos y2) m2 d2, day_count-lt_year (pos y) m d (pos y2) m2 d2 a.0 b.0.2.0 (omega (arith, signed_arith)))

pub same_date : (y m d k n : ℕ) → IsDate y m d k → IsDate y m d n → k ≡ n
same_date y m d k n a b = pos_inj k n (sym a.1 ∙ b.1)

last_2099 : day_count (pos 2099) 12 31 ≡ 4_419_434
last_2099 = day_count-late (pos 2099) 12099 12 31 refl (omega arith) (omega arith) (omega arith)

date_2099 : IsDate 2099 12 31 47481
date_2099 = (search rules, omega (arith, signed_arith, days_from_civil-day_count (pos 2099) 12 31, last_2099))

pub today_year : (y m d n : ℕ) → IsDate y m d n → n ≤ 47481 → y ≤ 2099
today_year y m d n date h =
    elim (cases_lt 2099 y) [
      | inl lt ↦ absurd (omega (arith, earlier 2099 12 31 47481 y m d n date_2099 date lt))
      | inr le ↦ le
    ]

-- the year 2104 has each day that some year has
civil_2104 : (m d : ℕ) → 1 ≤ m → m ≤ 12 → in_month d m ≡ true → IsCivilDate (pos 2104) m d
unfolding in_month
civil_2104 m d low high h =
    let b = both_true (leb 1 d) (leb d (days_in_month (pos 2104) m)) h in
    (search rules, (low, high), (leb-true 1 d b.0, leb-true d (days_in_month (pos 2104) m) b.1))

pub date_2104 : (m d : ℕ) → 1 ≤ m → m ≤ 12 → in_month d m ≡ true → (n : ℕ) × IsDate 2104 m d n
date_2104 m d low high h =
    let civil = civil_2104 m d low high h in
    (unsigned_abs (days_from_civil (pos 2104) m d), (civil, from_zero _ (low_day (pos 2104) m d civil (omega (arith, signed_arith)))))

in_leap : (leap : Bool) (m d : ℕ)
    → d ≤ cond (eqb m 2) (cond leap 29 28) (cond (eqb m 4 || eqb m 6 || eqb m 9 || eqb m 11) 30 31)
    → d ≤ cond (eqb m 2) 29 (cond (eqb m 4 || eqb m 6 || eqb m 9 || eqb m 11) 30 31)
in_leap leap m d high = grind (arith, nat_tests, high)

in_longest : (leap : Bool) (m d : ℕ) → 1 ≤ d
    → d ≤ cond (eqb m 2) (cond leap 29 28) (cond (eqb m 4 || eqb m 6 || eqb m 9 || eqb m 11) 30 31)
    → in_month d m ≡ true
unfolding in_month
in_longest leap m d low high = both_are (leb 1 d) (leb d (days_in_month (pos 2104) m)) (le-leb 1 d low) (le-leb d (days_in_month (pos 2104) m) (in_leap leap m d high))

-- some year has the day
pub has_year : (y m d n : ℕ) → IsDate y m d n → (1 ≤ m) × (m ≤ 12) × (in_month d m ≡ true)
has_year y m d n date = (date.0.1.0, date.0.1.1, in_longest (is_leap_year (pos y)) m d date.0.2.0 date.0.2.1)

-- ---- the loop over the years

abbrev pub NoneBefore : ℕ → ℕ → ℕ → ℕ → Type 0
NoneBefore today day month year = (y k : ℕ) → y < year → IsDate y month day k → today ≤ k → ⊥

pub none_first : (today day month first m d : ℕ) → IsDate first m d today → NoneBefore today day month first
none_first today day month first m d is y k lt date le = absurd (omega (arith, earlier y month day k first m d today date is lt))

pub none_more : (today day month year : ℕ) → NoneBefore today day month year
    → ((k : ℕ) → IsDate year month day k → today ≤ k → ⊥) → NoneBefore today day month (year + 1)
none_more today day month year before here y k lt date le =
    elim (cases_lt y year) [
      | inl less ↦ before y k less date le
      | inr ge ↦ let same : y ≡ year = omega arith in here k (subst (λ (z : ℕ). IsDate z month day k) same date) le
    ]

pub is_next : (today day month year n : ℕ) → NoneBefore today day month year → IsDate year month day n → today ≤ n
    → IsNextDate today day month n
is_next today day month year n before date le = record {
  year = year;
  date = date;
  after = le;
  first = λ y k other on.
      elim (cases_order y year) [
        | inl same ↦ omega (arith, same_date year month day k n (subst (λ (z : ℕ). IsDate z month day k) same other) date)
        | inr (inl less) ↦ absurd (before y k less other on)
        | inr (inr more) ↦ omega (arith, earlier year month day n y month day k date other more)
      ];
}

pub same_next : (today day month n k : ℕ) → IsNextDate today day month n → IsNextDate today day month k → n ≡ k
same_next today day month n k a b = omega (arith, a.first b.year k b.date b.after, b.first a.year n a.date a.after)
