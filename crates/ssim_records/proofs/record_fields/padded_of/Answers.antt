use Rattle.std.proofs.Common.{◌≡◌, ℕ, ◌<◌, ◌≤◌, ◌^◌, List, length, drop, arith, length-drop, ap}
use Rattle.std.proofs.Math.Nat.{pow-le-pow_right}
use Rattle.ssim_records.proofs.record_fields.padded_of.Goals as goal

shorter : (text digits : List ℕ) (k n : ℕ) → digits ≡ drop k text → n < 10 ^ length digits → n < 10 ^ length text
shorter text digits k n e h =
    let len : length digits ≡ length (drop k text) = ap length e in
    let le : length digits ≤ length text = omega (arith, len, length-drop k text) in
    let p : 10 ^ length digits ≤ 10 ^ length text = pow-le-pow_right (omega arith) le in
    omega (arith, h, p)

pub returns-clause-small : goal.returns-clause-small
returns-clause-small c = shorter c.args.text.now c.unpadded-digits.result.now _ c.value_of.result c.unpadded-digits.ensures.value c.value_of.ensures.small
