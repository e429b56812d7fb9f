use Rattle.std.proofs.Common.{◌≡◌, ◌+◌, ◌<◌, length, refl, sym, ap, ◌∙◌, arith}
use Rattle.ssim_flights.specs.Operating.{operates}
use Rattle.ssim_flights.proofs.OperatingDays.{days_more_yes, days_more_no}
use Rattle.ssim_flights.proofs.Repeating.{few}
use Rattle.ssim_flights.proofs.days.days_among.Goals as goal
use Rattle.ssim_flights.proofs.days.days_among.Goals.{then-operates_on, else-operates_on}

pub push-requires : goal.push-requires
push-requires c =
    let most = few (operates c.args.leg.now) c.args.leg.now.from c.loop-past.past in
    let is = ap length c.loop-past.invariant in
    let inside = c.loop-past-test.true in
    let count = c.requires.few in
    let here : length c.loop-past.days.items < 14 = omega arith in
    (omega arith, here)

pub loop-past-preserved : goal.loop-past-preserved
loop-past-preserved c =
    let leg = c.args.leg.now in
    let n = c.loop-past.past in
    let at : c.number-first.result + n ≡ leg.from + n = ap (λ k. k + n) c.number-first.ensures.value in
    let yes = days_more_yes (operates leg) leg.from n (n + 1) (c.number-first.result + n) refl at in
    let no = days_more_no (operates leg) leg.from n (n + 1) (c.number-first.result + n) refl at in
    elim c.if-operates_on.branch [
      | then-operates_on w ↦ let e = yes (sym c.operates_on.ensures ∙ w.if-operates_on.true) in let p = w.push.ensures.items in cc
      | else-operates_on w ↦ let e = no (sym c.operates_on.ensures ∙ w.if-operates_on.false) in cc
    ]
