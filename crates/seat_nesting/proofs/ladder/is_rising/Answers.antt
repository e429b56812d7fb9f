use Rattle.std.proofs.Common.{◌≡◌, ◌||◌, ◌-◌, ◌<◌, ◌≤◌, Bool, false, [], ◌∷◌, length, take, drop, get_or, refl, ap, sym, ◌∙◌, arith}
use Rattle.std.proofs.lemmas.List.{take_all}
use Rattle.seat_nesting.specs.Nesting.{Steps}
use Rattle.seat_nesting.specs.Ladders.{is_rising}
use Rattle.seat_nesting.specs.declared.ladder.Step.{Step}
use Rattle.seat_nesting.proofs.ladder.is_rising.Goals as goal

-- the first of the steps, and those below it
split : (rest : Steps) (step : Step) → 1 ≤ length rest → step ≡ get_or rest 0 step → rest ≡ step ∷ take (length rest - 1) (drop 1 rest)
split [] step some is = absurd (omega (arith, some))
split (s ∷ lower) step some is =
    ap (λ (x : Step). x ∷ lower) (sym is) ∙ ap (λ (l : Steps). step ∷ l) (sym (take_all (length (s ∷ lower) - 1) lower (omega arith)))

none_rises : (rest : Steps) → length rest < 1 → is_rising rest ≡ false
none_rises [] few = refl
none_rises (s ∷ lower) few = absurd (omega (arith, few))

pub loop-rest-init : goal.loop-rest-init
loop-rest-init c = refl

pub returns-then-is_below_next : goal.returns-then-is_below_next
returns-then-is_below_next c =
    let rest = c.loop-rest.rest.now in
    let lower : Steps = take (length rest - 1) (drop 1 rest) in
    sym (sym c.loop-rest.invariant ∙ ap is_rising (split rest c.step-item.result c.in-len1-up.len_at_least c.step-item.is)
    ∙ ap (λ (b : Bool). b || is_rising lower) (sym c.is_below_next.ensures ∙ c.if-is_below_next.true))

pub loop-rest-smaller : goal.loop-rest-smaller
loop-rest-smaller c = omega (arith, ap length (split c.loop-rest.rest.now c.step-item.result c.in-len1-up.len_at_least c.step-item.is))

pub loop-rest-preserved : goal.loop-rest-preserved
loop-rest-preserved c =
    let rest = c.loop-rest.rest.now in
    let lower : Steps = take (length rest - 1) (drop 1 rest) in
    sym (ap is_rising (split rest c.step-item.result c.in-len1-up.len_at_least c.step-item.is)
    ∙ ap (λ (b : Bool). b || is_rising lower) (sym c.is_below_next.ensures ∙ c.if-is_below_next.false))
    ∙ c.loop-rest.invariant

pub returns : goal.returns
returns c = sym (sym c.loop-rest.invariant ∙ none_rises c.loop-rest.rest.now (omega (arith, c.in_default.len_below)))
