use Rattle.std.proofs.Common.{◌≡◌, ◌∙◌, ◌+◌, ◌-◌, ◌<◌, ◌≤◌, ◌&&◌, ℕ, Bool, true, false, nat_le, length, drop, ap, sym, arith, length-drop}
use Rattle.std.proofs.lemmas.Bool.Decides.{nat_tests}
use Rattle.std.proofs.lemmas.List.{take_all}
use Rattle.seat_nesting.specs.Changing.{limit_above, top_of}
use Rattle.seat_nesting.proofs.leg_counts.is_between.Goals as goal

within : (limit above is top told : ℕ) → above ≡ is → top ≡ told → limit ≤ above
    → nat_le top limit ≡ (nat_le limit is && nat_le told limit)
within limit above is top told same at le =
    let low : nat_le limit is ≡ true = grind (arith, nat_tests) in
    ap (λ (n : ℕ). nat_le n limit) at ∙ sym (ap (λ (b : Bool). b && nat_le told limit) low)

beyond : (limit above is told : ℕ) → above ≡ is → above < limit → nat_le limit above ≡ (nat_le limit is && nat_le told limit)
beyond limit above is told same far =
    let high : nat_le limit is ≡ false = grind (arith, nat_tests) in
    ap (nat_le limit) same ∙ (high ∙ sym (ap (λ (b : Bool). b && nat_le told limit) high))

pub returns-then-limit-limit_above : goal.returns-then-limit-limit_above
returns-then-limit-limit_above c =
    let steps = c.args.steps.now in
    let lower = drop (c.args.rank + 1) steps in
    within c.args.limit c.limit_above.result (limit_above 999 steps c.args.rank) c.top_of.result (top_of lower) c.limit_above.ensures
    (c.top_of.ensures ∙ ap top_of (take_all (length steps - (c.args.rank + 1)) lower (omega (arith, length-drop (c.args.rank + 1) steps)))) c.if-limit-limit_above.true

pub returns-else-limit-limit_above : goal.returns-else-limit-limit_above
returns-else-limit-limit_above c =
    let steps = c.args.steps.now in
    beyond c.args.limit c.limit_above.result (limit_above 999 steps c.args.rank) (top_of (drop (c.args.rank + 1) steps)) c.limit_above.ensures c.if-limit-limit_above.false
