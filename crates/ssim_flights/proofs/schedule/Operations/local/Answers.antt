use Rattle.std.proofs.Common.{ℕ, ℤ, List, get_or, length, map, pos, ◌+ℤ◌, unsigned_abs, sym, ap, ◌∙◌, arith}
use Rattle.std.proofs.lemmas.List.{length-map}
use Rattle.ssim_flights.specs.Operating.{Operation, operation}
use Rattle.ssim_flights.proofs.Clocks.{few_days}
use Rattle.ssim_flights.proofs.Departing.{local_back}
use Rattle.ssim_flights.proofs.schedule.Operations.local.Goals as goal

pub returns : goal.returns
returns c =
    let n = ap length c.self.view_is in
    let m = length-map c.self.inside.days (operation c.self.inside.after) in
    let inside = c.requires in
    c.local_day.ensures ∙ ap (λ (z : ℤ). unsigned_abs (pos c.day.result +ℤ z)) (few_days c.self.inside.after c.self.invariant.0 c.self.invariant.1) ∙ ap (λ (d : ℕ). unsigned_abs (pos d +ℤ c.self.inside.after)) c.day.ensures.value ∙ sym (local_back c.self.inside.after c.self.inside.days c.args.i (omega arith))
    ∙ ap (λ (ops : List Operation). get_or (map (λ o. o.local) ops) c.args.i 0) c.self.view_is
