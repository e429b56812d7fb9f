-- The carrier and the legs of a data set are right in what dates are reckoned from.
use Rattle.std.proofs.Common.{◌≡◌, ℕ, ◌+◌, ◌<◌, ◌≤◌, List, [], ◌∷◌, Option, Some, None, All, ⊎_elim, sym, subst, ℤ, pos, negsuc, ◌-ℤ◌, ◌≤ℤ◌, unwrap_or, arith}
use Rattle.ssim_flights.proofs.Common.{Leg}
use Rattle.std.proofs.lemmas.List.Elements.{All-nil, All-cons}
use Rattle.jiff_core.proofs.SignedLemmas.{signed_arith}
use Rattle.airline_base.specs.Days.{IsDate, IsDayField}
use Rattle.airline_base.proofs.Years.{high_century, low_century}
use Rattle.ssim_records.specs.SetText.{IsBody, IsDataSet, IsLeg, IsUntil}
use Rattle.ssim_records.specs.declared.set.DataSet.{DataSet}
use Rattle.ssim_flights.specs.Right.{IsOfCentury, IsRightCarrier, IsRightLeg}
use Rattle.ssim_records.proofs.RightLaws.{right_offset, right_shift}

-- ---- the years 2000 to 2099

pub of_century : (year m d n : ℕ) → year < 100 → IsDate (2000 + year) m d n → IsOfCentury n
of_century year m d n small date =
    let low = low_century (pos (2000 + year)) m d date.0 (omega (arith, signed_arith)) in
    let high = high_century (pos (2000 + year)) m d date.0 (omega (arith, signed_arith)) in
    let number = date.1 in
    record { begun = omega (arith, signed_arith); lasts = omega (arith, signed_arith) }

day_right : (text : List ℕ) (n : ℕ) → IsDayField text n → IsOfCentury n
day_right text n d = of_century d.year d.month d.day n d.century d.date

until_right : (from : ℕ) (text : List ℕ) (to : Option ℕ) → from ≤ 47481 → IsUntil from text to
    → unwrap_or to from ≤ 47481
until_right from text None high u = high
until_right from text (Some to) high u = (day_right text to u.0).lasts

end_right : (from : ℕ) (text : List ℕ) (to : Option ℕ) → IsUntil from text to → unwrap_or to 0 ≤ 47481
end_right from text None u = omega arith
end_right from text (Some to) u = (day_right text to u.0).lasts

-- ---- times

plus_right : (n : ℕ) (z : ℤ) → n ≤ 1439 → z ≡ pos n → (negsuc 1438 ≤ℤ z) × (z ≤ℤ pos 1439)
plus_right n z few e = subst (λ (x : ℤ). (negsuc 1438 ≤ℤ x) × (x ≤ℤ pos 1439)) (sym e) (omega (arith, signed_arith), omega (arith, signed_arith))

minus_right : (n : ℕ) (z : ℤ) → n ≤ 1439 → z ≡ pos 0 -ℤ pos n → (negsuc 1438 ≤ℤ z) × (z ≤ℤ pos 1439)
minus_right n z few e = subst (λ (x : ℤ). (negsuc 1438 ≤ℤ x) × (x ≤ℤ pos 1439)) (sym e) (omega (arith, signed_arith), omega (arith, signed_arith))

small_right : (n : ℕ) (z : ℤ) → n ≤ 7 → z ≡ pos n → (negsuc 0 ≤ℤ z) × (z ≤ℤ pos 7)
small_right n z few e = subst (λ (x : ℤ). (negsuc 0 ≤ℤ x) × (x ≤ℤ pos 7)) (sym e) (omega (arith, signed_arith), omega (arith, signed_arith))

early_right : (z : ℤ) → z ≡ negsuc 0 → (negsuc 0 ≤ℤ z) × (z ≤ℤ pos 7)
early_right z e = subst (λ (x : ℤ). (negsuc 0 ≤ℤ x) × (x ≤ℤ pos 7)) (sym e) (omega (arith, signed_arith), omega (arith, signed_arith))

-- ---- records

leg_right : (airline text : List ℕ) (leg : Leg) → IsLeg airline text leg → IsRightLeg leg
leg_right airline text leg is =
    let from = day_right _ leg.from is.from in
    let offset = right_offset _ leg.offset is.offset in
    let shift = right_shift _ leg.shift is.shift in
    record {
      from = from;
      to = until_right leg.from _ leg.to from.lasts is.to;
      std = is.std.1;
      early = offset.0;
      late = offset.1;
      earlier = shift.0;
      later = shift.1;
    }

body_right : (airline : List ℕ) (before : ℕ) (texts : List (List ℕ)) (legs : List Leg) (segments : ℕ)
    → IsBody airline before texts legs segments → All IsRightLeg legs
body_right airline before [] legs segments h = subst (λ (l : List Leg). All IsRightLeg l) (sym h.0) (All-nil IsRightLeg)
body_right airline before (text ∷ texts) legs segments h =
    ⊎_elim
    (λ p. subst (λ (l : List Leg). All IsRightLeg l) (sym p.4) (All-cons IsRightLeg p.0 p.1 (leg_right airline text p.0 p.2) (body_right airline (before + 1) texts p.1 segments p.5)))
    (λ p. body_right airline (before + 1) texts legs p.0 p.3) h

pub right_carrier : (most : ℕ) (bytes : List ℕ) (set : DataSet) → IsDataSet most bytes set → IsRightCarrier set.carrier
right_carrier most bytes set is = record { to = end_right _ _ set.carrier.to is.is_carrier.to }

pub right_legs : (most : ℕ) (bytes : List ℕ) (set : DataSet) → IsDataSet most bytes set → All IsRightLeg set.legs
right_legs most bytes set is = body_right _ _ _ set.legs _ is.is_body
