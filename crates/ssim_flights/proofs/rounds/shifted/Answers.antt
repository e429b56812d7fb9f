use Rattle.std.proofs.Common.{ℕ, pos, ◌+ℤ◌, unsigned_abs, to_z, of_z, w32, refl, ap, ◌∙◌, arith}
use Rattle.std.proofs.lemmas.List.{length-set}
use Rattle.ssim_flights.proofs.Timetables.{shifted_more}
use Rattle.ssim_flights.proofs.rounds.shifted.Goals as goal

pub loop-j-preserved : goal.loop-j-preserved
loop-j-preserved c =
    let few = c.requires.few in
    let long = c.loop-j.invariant.1 in (
      shifted_more (to_z w32 (of_z w32 c.args.after)) c.args.days.now c.loop-j.shifted_days _ c.loop-j.j c.number.result (omega arith) c.loop-j.invariant.0 refl
          (c.number.ensures.value ∙ (c.local_day-day.ensures ∙ ap (λ (d : ℕ). unsigned_abs (pos d +ℤ to_z w32 (of_z w32 c.args.after))) c.numbered.ensures)),
      length-set c.loop-j.shifted_days c.loop-j.j c.number.result ∙ long,
    )
