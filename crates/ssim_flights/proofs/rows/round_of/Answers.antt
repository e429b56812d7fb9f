use Rattle.std.proofs.Common.{◌+◌, ◌≤◌, ◌∷◌, [], ◌++◌, ◌≡◌, ℕ, rules, All, take, List, ap, refl, sym, subst, ◌∙◌, arith}
use Rattle.std.proofs.lemmas.List.{take_all, take_more}
use Rattle.std.proofs.lemmas.List.Elements.{All-append, All-cons, All-nil}
use Rattle.ssim_flights.specs.declared.schedule.Scheduled.{Scheduled}
use Rattle.ssim_flights.specs.Schedules.{Repeats, RepeatTogether}
use Rattle.ssim_flights.proofs.Falling.{locals_repeat}
use Rattle.ssim_flights.proofs.rows.round_of.Goals as goal

pub loop-leg-preserved : goal.loop-leg-preserved
loop-leg-preserved c =
    let rest = c.in-Some.rest.now in
    let i = c.loop-leg.leg-index in
    let leg = c.leg-item.result in
    let days = c.locals-days.result in
    let others = c.locals-others.result in
    let front : take (i + 1) rest ≡ take i rest ++ leg ∷ [] = take_more rest i leg (omega arith) ∙ ap (λ (x : Scheduled). take i rest ++ x ∷ []) (sym c.leg-item.is) in
    let here : Repeats days.many days.round leg = locals_repeat leg others days.many days.round c.locals-others.ensures (search rules) (search rules) (search rules) in
    subst (λ (ls : List Scheduled). All (Repeats days.many days.round) ls) (sym front)
    (All-append (Repeats days.many days.round) (take i rest) (leg ∷ []) c.loop-leg.invariant (All-cons (Repeats days.many days.round) leg [] here (All-nil (Repeats days.many days.round))))

pub returns : goal.returns
returns c =
    let first = c.in-Some.first.now in
    let rest = c.in-Some.rest.now in
    let days = c.locals-days.result in
    let parts : c.args.legs.now ≡ first ∷ rest = search rules in
    let some : 1 ≤ days.many = omega (arith, c.if-days-eq0.false) in
    let here : Repeats days.many days.round first = locals_repeat first days days.many days.round c.locals-days.ensures some refl refl in
    let others : All (Repeats days.many days.round) rest =
    subst (λ (ls : List Scheduled). All (Repeats days.many days.round) ls) (take_all c.loop-leg.leg-index rest c.loop-leg-test.false) c.loop-leg.invariant in
    subst (λ (n : ℕ). RepeatTogether n c.args.legs.now) (sym c.from.ensures) (record {
      some = some;
      later = days.round;
      each = subst (λ (ls : List Scheduled). All (Repeats days.many days.round) ls) (sym parts) (All-cons (Repeats days.many days.round) first rest here others);
    })
