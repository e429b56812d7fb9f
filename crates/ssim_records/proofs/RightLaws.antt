-- What a data set says is right, field by field.
use Rattle.std.proofs.Common.{inl, inr, ◌≡◌, ℕ, ◌+◌, ◌*◌, ◌^◌, ◌<◌, ◌≤◌, true, List, [], ◌∷◌, length, drop, Option, Some, None, Result, Ok, Err, sym, ap, subst, ◌∙◌, IsTrue, arith, ℤ, pos, negsuc, ◌≤ℤ◌}
use Rattle.std.specs.Prelude.{◌-ℤ◌, IfSome, IfOk}
use Rattle.std.specs.Char.{is_ascii_digit, is_ascii_uppercase}
use Rattle.std.specs.List.{list_all, All}
use Rattle.std.specs.Str.Parse.{digits_value, AllDigits}
use Rattle.std.proofs.lemmas.Int.Digits.{digits_value-lt}
use Rattle.std.proofs.lemmas.List.{length-append, length-take}
use Rattle.std.proofs.lemmas.List.Elements.{All-cons, All-nil}
use Rattle.std.proofs.Math.Nat.{pow-le-pow_right}
use Rattle.jiff_core.proofs.SignedLemmas.{signed_arith}
use Rattle.ssim_records.specs.declared.carrier.Carrier.{Carrier}
use Rattle.ssim_records.specs.declared.carrier.Leg.{Leg}
use Rattle.ssim_records.specs.declared.set.DataSet.{DataSet}
use Rattle.ssim_records.specs.declared.set_fault.SetFault.{SetFault}
use Rattle.airline_base.specs.Bytes.{field}
use Rattle.airline_base.specs.Days.{IsDayField}
use Rattle.ssim_records.specs.RightSet.{IsPeriod, IsRightCarrier, IsRightLeg, IsRightSet, IsRising}
use Rattle.ssim_records.specs.SetText.{IsPadded, IsUntil, IsSuffix, IsOffset, IsShift, IsCarrier, IsLeg, IsBody, IsDataSet}
use Rattle.airline_base.proofs.DateLaws.{century}
use Rattle.airline_base.proofs.Digits.{digit_is}
use Rattle.airline_base.proofs.Tests.{both_true}

-- ---- numbers

pub all_digits : (digits : List ℕ) → list_all is_ascii_digit digits ≡ true → AllDigits 10 digits
all_digits [] h = tt
all_digits (d ∷ digits) h =
    let b = both_true (is_ascii_digit d) (list_all is_ascii_digit digits) h in
    let v = digit_is d b.0 in
    (omega (arith, v.0, v.1), all_digits digits b.1)

-- a number in so many places
padded_small : (text : List ℕ) (n places : ℕ) → length text ≤ places → IsPadded text n → n < 10 ^ places
padded_small text n places short h =
    let len : length text ≡ length h.blanks + length h.digits = ap length h.parts ∙ length-append h.blanks h.digits in
    let few : length h.digits ≤ places = omega (arith, len, short) in
    let ten : 1 ≤ 10 = omega arith in
    let most : 10 ^ length h.digits ≤ 10 ^ places = pow-le-pow_right ten few in
    let below : digits_value 10 h.digits < 10 ^ length h.digits = digits_value-lt 10 h.digits (all_digits h.digits h.digit) in
    omega (arith, h.value, below, most)

four_places : (text : List ℕ) → length (field 6 9 text) ≤ 4
four_places text = omega (arith, length-take 4 (drop 5 text))

variation_places : (text : List ℕ) → length (field 10 11 text) ≤ 2
variation_places text = omega (arith, length-take 2 (drop 9 text))

sequence_places : (text : List ℕ) → length (field 12 13 text) ≤ 2
sequence_places text = omega (arith, length-take 2 (drop 11 text))

-- ---- days

period : (text more : List ℕ) (from : ℕ) (to : Option ℕ) → IsDayField text from → IsUntil from more to
    → IsPeriod from to
period text more from None f t = record { first = century text from f; last = tt; order = tt }
period text more from (Some to) f t = record { first = century text from f; last = century more to t.0; order = t.1 }

-- ---- signs

right_suffix : (text : List ℕ) (suffix : Option ℕ) → IsSuffix text suffix
    → IfSome suffix (λ letter. IsTrue (is_ascii_uppercase letter))
right_suffix text None h = tt
right_suffix text (Some letter) h = h.0

offset_plus : (hours minutes : ℕ) (z : ℤ) → hours < 24 → minutes < 60 → z ≡ pos (60 * hours + minutes)
    → (negsuc 1438 ≤ℤ z) × (z ≤ℤ pos 1439)
offset_plus hours minutes z x y e = (omega (arith, signed_arith), omega (arith, signed_arith))

offset_minus : (hours minutes : ℕ) (z : ℤ) → hours < 24 → minutes < 60 → z ≡ pos 0 -ℤ pos (60 * hours + minutes)
    → (negsuc 1438 ≤ℤ z) × (z ≤ℤ pos 1439)
offset_minus hours minutes z x y e = (omega (arith, signed_arith), omega (arith, signed_arith))

pub right_offset : (text : List ℕ) (z : ℤ) → IsOffset text z → (negsuc 1438 ≤ℤ z) × (z ≤ℤ pos 1439)
right_offset text z h = elim h.4 [ inl p ↦ offset_plus h.0 h.1 z h.2 h.3 p.1 | inr p ↦ offset_minus h.0 h.1 z h.2 h.3 p.1 ]

pub right_shift : (text : List ℕ) (z : ℤ) → IsShift text z → (negsuc 0 ≤ℤ z) × (z ≤ℤ pos 7)
right_shift text z (inl h) = (omega (arith, signed_arith, h.1), omega (arith, signed_arith, h.1))
right_shift text z (inr (inl h)) = (omega (arith, signed_arith, h.3), omega (arith, signed_arith, h.1, h.3))
right_shift text z (inr (inr h)) = (omega (arith, signed_arith, h.1), omega (arith, signed_arith, h.1))

-- ---- records

right_carrier : (text : List ℕ) (c : Carrier) → IsCarrier text c → IsRightCarrier c
right_carrier text c h = record { airline = h.airline.0; period = period (field 15 21 text) (field 22 28 text) c.from c.to h.from h.to }

right_leg : (airline text : List ℕ) (leg : Leg) → IsLeg airline text leg → IsRightLeg leg
right_leg airline text leg h =
    let number : leg.number < 10 ^ 4 = padded_small (field 6 9 text) leg.number 4 (four_places text) h.number.0 in
    let variation : leg.variation < 10 ^ 2 = padded_small (field 10 11 text) leg.variation 2 (variation_places text) h.variation in
    let sequence : leg.sequence < 10 ^ 2 = padded_small (field 12 13 text) leg.sequence 2 (sequence_places text) h.sequence.0 in
    record {
      number = (h.number.1, omega (arith, number));
      suffix = right_suffix (field 2 2 text) leg.suffix h.suffix;
      variation = omega (arith, variation);
      sequence = (h.sequence.1, omega (arith, sequence));
      period = period (field 15 21 text) (field 22 28 text) leg.from leg.to h.from h.to;
      days = h.days.0;
      board = h.board.0;
      std = h.std.1;
      offset = right_offset (field 48 52 text) leg.offset h.offset;
      off = h.off.0;
      shift = right_shift (field 193 193 text) leg.shift h.shift;
    }

-- ---- the body

right_legs : (airline : List ℕ) (before : ℕ) (texts : List (List ℕ)) (legs : List Leg) (segments : ℕ)
    → IsBody airline before texts legs segments → All IsRightLeg legs
right_legs airline before [] legs segments h = subst (All IsRightLeg) (sym h.0) (All-nil IsRightLeg)
right_legs airline before (text ∷ texts) legs segments (inl h) =
    subst (All IsRightLeg) (sym h.4) (All-cons IsRightLeg h.0 h.1 (right_leg airline text h.0 h.2) (right_legs airline (before + 1) texts h.1 segments h.5))
right_legs airline before (text ∷ texts) legs segments (inr h) = right_legs airline (before + 1) texts legs h.0 h.3

rising_from : (low high : ℕ) (legs : List Leg) → low ≤ high → IsRising high legs → IsRising low legs
rising_from low high [] le h = tt
rising_from low high (leg ∷ legs) le h = (omega (arith, h.0, le), h.1)

rising : (airline : List ℕ) (before : ℕ) (texts : List (List ℕ)) (legs : List Leg) (segments : ℕ)
    → IsBody airline before texts legs segments → IsRising before legs
rising airline before [] legs segments h = subst (IsRising before) (sym h.0) tt
rising airline before (text ∷ texts) legs segments (inl h) =
    let more : IsRising h.0.serial h.1 = subst (λ (k : ℕ). IsRising k h.1) (sym h.3) (rising airline (before + 1) texts h.1 segments h.5) in
    subst (IsRising before) (sym h.4) (omega (arith, h.3), more)
rising airline before (text ∷ texts) legs segments (inr h) = rising_from before (before + 1) legs (omega arith) (rising airline (before + 1) texts legs h.0 h.3)

right_set : (most : ℕ) (bytes : List ℕ) (set : DataSet) → IsDataSet most bytes set → IsRightSet set
right_set most bytes set h = record {
  carrier = right_carrier h.carrier set.carrier h.is_carrier;
  legs = right_legs set.carrier.airline 2 h.body set.legs set.segments h.is_body;
  serials = rising set.carrier.airline 2 h.body set.legs set.segments h.is_body;
}

pub is_right : (most : ℕ) (bytes : List ℕ) (r : Result DataSet SetFault) → IfOk r (IsDataSet most bytes)
    → IfOk r IsRightSet
is_right most bytes (Ok set) h = right_set most bytes set h
is_right most bytes (Err f) h = tt
