-- The days of the years 1999 to 2199.
use Rattle.std.proofs.Common.{rules, ◌≡◌, ℕ, ◌+◌, ◌-◌, ◌≤◌, refl, sym, subst, negsuc, ◌∙◌, arith, ℤ, pos, ◌+ℤ◌, ◌≤ℤ◌, unsigned_abs, to_z, of_z, w8, w16}
use Rattle.std.proofs.lemmas.Int.{by_lt_z, to_z_pos}
use Rattle.jiff_core.specs.Calendar.{day_count, days_from_civil, IsCivilDate}
use Rattle.jiff_core.specs.declared.civil.date.Date.{Date}
use Rattle.jiff_core.specs.Date.{epoch_day, IsYmd}
use Rattle.jiff_core.proofs.SignedLemmas.{signed_arith, back_small}
use Rattle.jiff_core.proofs.DateLemmas.{civil, epoch_day_injective}
use Rattle.airline_base.specs.Days.{IsDay, IsDate}
use Rattle.jiff_core.proofs.CalendarLemmas.{days_from_civil-day_count, day_count-lt_year}
use Rattle.jiff_core.proofs.MarchLemmas.{day_count-early, day_count-late}

count_1999 : day_count (pos 1999) 1 1 ≡ 4_382_545
count_1999 = day_count-early (pos 1999) 11998 1 1 refl (omega arith) (omega arith) (omega arith)

count_2200 : day_count (pos 2200) 1 1 ≡ 4_455_959
count_2200 = day_count-early (pos 2200) 12199 1 1 refl (omega arith) (omega arith) (omega arith)

last_1998 : day_count (pos 1998) 12 31 ≡ 4_382_544
last_1998 = day_count-late (pos 1998) 11998 12 31 refl (omega arith) (omega arith) (omega arith)

last_2199 : day_count (pos 2199) 12 31 ≡ 4_455_958
last_2199 = day_count-late (pos 2199) 12199 12 31 refl (omega arith) (omega arith) (omega arith)

date_1998 : IsCivilDate (pos 1998) 12 31
date_1998 = search rules

date_2199 : IsCivilDate (pos 2199) 12 31
date_2199 = search rules

-- 1 January 1999 is day 10592, and 31 December 2199 is day 84005
pub low_day : (y : ℤ) (m d : ℕ) → IsCivilDate y m d → pos 1999 ≤ℤ y → pos 10592 ≤ℤ days_from_civil y m d
low_day y m d date low =
    omega (arith, signed_arith, days_from_civil-day_count y m d, last_1998, day_count-lt_year (pos 1998) 12 31 y m d date_1998 date.2.0 (omega (arith, signed_arith)))

pub high_day : (y : ℤ) (m d : ℕ) → IsCivilDate y m d → y ≤ℤ pos 2199 → days_from_civil y m d ≤ℤ pos 84005
high_day y m d date high =
    omega (arith, signed_arith, days_from_civil-day_count y m d, count_2200, day_count-lt_year y m d (pos 2200) 1 1 date (omega arith) (omega (arith, signed_arith)))

-- 1 January 2000 is day 10957, and 31 December 2099 is day 47481
count_2100 : day_count (pos 2100) 1 1 ≡ 4_419_435
count_2100 = day_count-early (pos 2100) 12099 1 1 refl (omega arith) (omega arith) (omega arith)

last_1999 : day_count (pos 1999) 12 31 ≡ 4_382_909
last_1999 = day_count-late (pos 1999) 11999 12 31 refl (omega arith) (omega arith) (omega arith)

date_1999 : IsCivilDate (pos 1999) 12 31
date_1999 = search rules

pub low_century : (y : ℤ) (m d : ℕ) → IsCivilDate y m d → pos 2000 ≤ℤ y → pos 10957 ≤ℤ days_from_civil y m d
low_century y m d date low =
    omega (arith, signed_arith, days_from_civil-day_count y m d, last_1999, day_count-lt_year (pos 1999) 12 31 y m d date_1999 date.2.0 (omega (arith, signed_arith)))

pub high_century : (y : ℤ) (m d : ℕ) → IsCivilDate y m d → y ≤ℤ pos 2099 → days_from_civil y m d ≤ℤ pos 47481
high_century y m d date high =
    omega (arith, signed_arith, days_from_civil-day_count y m d, count_2100, day_count-lt_year y m d (pos 2100) 1 1 date (omega arith) (omega (arith, signed_arith)))

pub low_year : (y : ℤ) (m d : ℕ) → IsCivilDate y m d → pos 10592 ≤ℤ days_from_civil y m d → pos 1999 ≤ℤ y
low_year y m d date low = by_lt_z y (pos 1999)
    (λ lt. absurd (omega (arith, signed_arith, days_from_civil-day_count y m d, count_1999, day_count-lt_year y m d (pos 1999) 1 1 date (omega arith) lt)))
    (λ le. le)

pub high_year : (y : ℤ) (m d : ℕ) → IsCivilDate y m d → days_from_civil y m d ≤ℤ pos 84005 → y ≤ℤ pos 2199
high_year y m d date high = by_lt_z (pos 2199) y
    (λ lt. absurd (omega (arith, signed_arith, days_from_civil-day_count y m d, last_2199, day_count-lt_year (pos 2199) 12 31 y m d date_2199 date.2.0 lt)))
    (λ le. le)

count_2000 : day_count (pos 2000) 1 1 ≡ 4_382_910
count_2000 = day_count-early (pos 2000) 11999 1 1 refl (omega arith) (omega arith) (omega arith)

last_2099 : day_count (pos 2099) 12 31 ≡ 4_419_434
last_2099 = day_count-late (pos 2099) 12099 12 31 refl (omega arith) (omega arith) (omega arith)

date_2099 : IsCivilDate (pos 2099) 12 31
date_2099 = search rules

pub from_2000 : (y : ℤ) (m d : ℕ) → IsCivilDate y m d → pos 10957 ≤ℤ days_from_civil y m d → pos 2000 ≤ℤ y
from_2000 y m d date low = by_lt_z y (pos 2000)
    (λ lt. absurd (omega (arith, signed_arith, days_from_civil-day_count y m d, count_2000, day_count-lt_year y m d (pos 2000) 1 1 date (omega arith) lt)))
    (λ le. le)

pub until_2099 : (y : ℤ) (m d : ℕ) → IsCivilDate y m d → days_from_civil y m d ≤ℤ pos 47481 → y ≤ℤ pos 2099
until_2099 y m d date high = by_lt_z (pos 2099) y
    (λ lt. absurd (omega (arith, signed_arith, days_from_civil-day_count y m d, last_2099, day_count-lt_year (pos 2099) 12 31 y m d date_2099 date.2.0 lt)))
    (λ le. le)

pub pos_inj : (m n : ℕ) → pos m ≡ pos n → m ≡ n
pos_inj m n e = cc

-- what the parts of a date of these years and its distance from the first date say
pub dated : (d : Date) (y m day n : ℕ) → IsYmd (to_z w16 y) (to_z w8 m) (to_z w8 day) d → 1999 ≤ y → y ≤ 2199 → m ≤ 12
    → day ≤ 31 → epoch_day d +ℤ pos 4_371_587 ≡ pos n
    → (4_371_587 ≤ n) × IsDay (n - 4_371_587) × IsDate y m day (n - 4_371_587)
dated d y m day n parts low high months days e =
    let year : d.year ≡ pos y = parts.0 ∙ to_z_pos w16 y (omega arith) in
    let month : d.month ≡ m = pos_inj _ _ (parts.1 ∙ to_z_pos w8 m (omega arith)) in
    let date : d.day ≡ day = pos_inj _ _ (parts.2 ∙ to_z_pos w8 day (omega arith)) in
    let is : IsCivilDate (pos y) m day = subst (λ (z : ℤ). IsCivilDate z m day) year (subst (λ (k : ℕ). IsCivilDate d.year k day) month (subst (λ (k : ℕ). IsCivilDate d.year d.month k) date (civil d))) in
    let f : days_from_civil (pos y) m day +ℤ pos 4_371_587 ≡ pos n = rw (← year, ← month, ← date) e in
    let low_n = low_day (pos y) m day is (omega (arith, signed_arith)) in
    let high_n = high_day (pos y) m day is (omega (arith, signed_arith)) in
    (omega (arith, signed_arith), (omega (arith, signed_arith), omega (arith, signed_arith)), (is, omega (arith, signed_arith)))

from_zero : (z : ℤ) → pos 1999 ≤ℤ z → z ≡ pos (unsigned_abs z)
from_zero (pos n) low = refl
from_zero (negsuc n) low = absurd (omega (arith, signed_arith))

-- and the year, the month and the day of a day number
pub parted : (d : Date) (n : ℕ) → IsDay n → epoch_day d +ℤ pos 4_371_587 ≡ pos (n + 4_371_587)
    → (y : ℕ) × (d.year ≡ pos y) × (1999 ≤ y) × (y ≤ 2199) × IsDate y d.month d.day n
parted d n day e =
    let number : epoch_day d ≡ pos n = omega (arith, signed_arith) in
    let low = low_year d.year d.month d.day (civil d) (omega (arith, signed_arith)) in
    let high = high_year d.year d.month d.day (civil d) (omega (arith, signed_arith)) in
    let year : d.year ≡ pos (unsigned_abs d.year) = from_zero d.year low in
    (unsigned_abs d.year, year, omega (arith, signed_arith), omega (arith, signed_arith), subst (λ (z : ℤ). IsCivilDate z d.month d.day × (days_from_civil z d.month d.day ≡ pos n)) year (civil d, number))

-- such a year after a cast
pub cast_year : (z : ℤ) (y : ℕ) → z ≡ pos y → y ≤ 2199 → to_z w16 (of_z w16 z) ≡ pos y
cast_year z y e high = back_small w16 z (rw e (omega arith)) ∙ e

as_date : (y m d : ℕ) → IsCivilDate (pos y) m d → Date
as_date y m d h = record { year = pos y; month = m; day = d; year_in = h.0; month_in = h.1; day_in = h.2 }

-- a day number has one year, month and day
pub same_parts : (y m d y2 m2 d2 n : ℕ) → IsDate y m d n → IsDate y2 m2 d2 n → (y ≡ y2) × (m ≡ m2) × (d ≡ d2)
unfolding as_date
same_parts y m d y2 m2 d2 n a b =
    let e = epoch_day_injective (as_date y m d a.0) (as_date y2 m2 d2 b.0) (a.1 ∙ sym b.1) in
    (pos_inj y y2 e.0, e.1, e.2)
