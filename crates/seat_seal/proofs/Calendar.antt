-- Dates: what the calendar answers, and the text of a date.
use Rattle.std.proofs.Common.{◌≡◌, ℕ, ◌+◌, ◌-◌, ◌*◌, ◌/◌, ◌%◌, ◌<◌, ◌≤◌, Bool, true, false, cond, leb, ◌&&◌, List, ◌++◌, Option, Some, None, refl, sym, subst, ap, ◌∙◌, arith, pos}
use Rattle.std.specs.Prelude.{IsSome, IfSome, is_some}
use Rattle.std.proofs.lemmas.Bool.Decides.{nat_tests}
use Rattle.jiff_core.specs.Calendar.{IsCivilDate, days_in_month}
use Rattle.airline_base.specs.Days.{IsCenturyDay, IsDate, civil_in, day_month, is_civil, two_digits}
use Rattle.airline_base.proofs.DateLaws.{century as century_of_field, civil_is, civil_takes, short_month, two_again}
use Rattle.airline_base.proofs.Tests.{both_true, guarded, kept}
use Rattle.seat_seal.specs.declared.date.Date.{Date}
use Rattle.seat_seal.specs.Dates.{is_of_century, day_in, is_date}
use Rattle.seat_seal.specs.Text.{date_text}
use Rattle.seat_seal.specs.Reading.{date_at}

le_is : (a b : ℕ) → leb a b ≡ true → a ≤ b
le_is a b h = grind (arith, nat_tests, h)

century : (d : Date) → is_of_century d ≡ true → (2000 ≤ d.year) × (d.year ≤ 2099)
century d h =
    let b = both_true (leb 2000 d.year) (leb d.year 2099) h in
    (le_is 2000 d.year b.0, le_is d.year 2099 b.1)

pub day_is : (d : Date) (r : Option ℕ) → is_of_century d ≡ true
    → ((1999 ≤ d.year) × (d.year ≤ 2199) × IsCivilDate (pos d.year) d.month d.day → IsSome r)
    → IfSome r (λ n. IsDate d.year d.month d.day n) → r ≡ day_in d
unfolding day_in
day_is d r h valid value =
    let c = century d h in
    civil_is d.year d.month d.day r c.0 c.1 valid value ∙ sym (kept (is_of_century d) (civil_in d.year d.month d.day) h)

-- ---- a date of these years is a day of them

civil_of : (d : Date) (n : ℕ) → day_in d ≡ Some n → (is_of_century d ≡ true) × (civil_in d.year d.month d.day ≡ Some n)
unfolding day_in
civil_of d n e = guarded (is_of_century d) (civil_in d.year d.month d.day) n e

pub day_century : (d : Date) (n : ℕ) → day_in d ≡ Some n → IsCenturyDay n
day_century d n e =
    let g = civil_of d n e in
    let c = century d g.0 in
    let year : ℕ = d.year - 2000 in
    let whole : d.year ≡ 2000 + year = omega (arith, c.0) in
    let small : year < 100 = omega (arith, c.1) in
    let civil : civil_in (2000 + year) d.month d.day ≡ Some n = ap (λ (y : ℕ). civil_in y d.month d.day) (sym whole) ∙ g.1 in
    century_of_field ((day_month d.day d.month) ++ two_digits year) n
    (record { year = year; month = d.month; day = d.day; date = civil_takes year d.month d.day n small civil; century = small; written = refl })

pub some_century : (d : Date) (r : Option ℕ) → r ≡ day_in d → IfSome r IsCenturyDay
some_century d None e = tt
some_century d (Some n) e = day_century d n (sym e)

-- ---- a date has two digits for each of its numbers

behind_test : (b : Bool) (o : Option ℕ) → is_some (cond b o None) ≡ true → (b ≡ true) × (is_some o ≡ true)
behind_test true o h = (refl, h)
behind_test false o h = absurd cc

pub record HasDigits (d : Date) : Type 0 where
  pub year : d.year ≤ 2099
  pub month : d.month < 100
  pub day : d.day < 100

pub has_digits : (d : Date) → is_date d ≡ true → HasDigits d
unfolding day_in civil_in
has_digits d h =
    let t = behind_test (is_of_century d) (civil_in d.year d.month d.day) h in
    let civil = (behind_test (is_civil d.year d.month d.day) _ t.1).0 in
    let u = both_true (leb 1 d.month && leb d.month 12) (leb 1 d.day && leb d.day (days_in_month (pos d.year) d.month)) civil in
    let month = le_is d.month 12 (both_true (leb 1 d.month) (leb d.month 12) u.0).1 in
    let day = le_is d.day (days_in_month (pos d.year) d.month) (both_true (leb 1 d.day) (leb d.day (days_in_month (pos d.year) d.month)) u.1).1 in
    record { year = (century d t.0).1; month = omega arith; day = short_month _ d.month d.day day }

pub date_again : (d : Date) (rest : List ℕ) → is_date d ≡ true → date_at (date_text d ++ rest) ≡ Some (d, rest)
unfolding date_at date_text
date_again d rest h =
    let small = has_digits d h in
    let c = two_again (d.year / 100) (omega (arith, small.year)) in
    let y = two_again (d.year % 100) (omega arith) in
    let m = two_again d.month small.month in
    let k = two_again d.day small.day in
    let year : (d.year / 100) * 100 + d.year % 100 ≡ d.year = omega arith in
    rw (c.0, c.1, y.0, y.1, m.0, m.1, k.0, k.1, year) refl
