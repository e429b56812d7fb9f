-- A word that names a date of 2000 to 2099 names a day of that century.
use Rattle.std.proofs.Common.{◌≡◌, ℕ, ◌+◌, ◌-◌, List, arith, subst}
use Rattle.airline_base.specs.Days.{IsCenturyDay, IsDate}
use Rattle.ssim_flights.specs.Right.{IsOfCentury}
use Rattle.ssim_flights.proofs.RightSets.{of_century}
use Rattle.seat_words.specs.DayWords.{IsDateWord}

pub of_word : (word : List ℕ) (n : ℕ) → IsDateWord word n → IsOfCentury n
of_word word n w =
    let whole : w.year ≡ 2000 + (w.year - 2000) = omega (arith, w.first) in
    of_century (w.year - 2000) w.month w.day n (omega (arith, w.last)) (subst (λ (y : ℕ). IsDate y w.month w.day n) whole w.date)

pub day_of_word : (word : List ℕ) (n : ℕ) → IsDateWord word n → IsCenturyDay n
day_of_word word n w = let of = of_word word n w in (of.begun, of.lasts)
