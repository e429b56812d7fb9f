use Rattle.std.proofs.Common.{◌≡◌, ◌≤◌, ℕ, Option, None, slice_get, subst, sym}
use Rattle.std.proofs.lemmas.Option.{slice_get_past}
use Rattle.ssim_flights.specs.declared.flight.Flight.{Flight as Flown}
use Rattle.desk_telling.specs.Telling.{IsBehind, IsLegOn}
use Rattle.desk_telling.proofs.lines.put_leg.Goals as goal

pub returns-then-flight-len-clause-text : goal.returns-then-flight-len-clause-text
returns-then-flight-len-clause-text c =
    subst (λ (flight : Option Flown). IsBehind (IsLegOn flight c.args.leg) c.args.line.now.items c.put_leg_of.new.line.items) (sym c.flight.ensures.value) c.put_leg_of.ensures.text

pub returns-else-flight-len-clause-text : goal.returns-else-flight-len-clause-text
returns-else-flight-len-clause-text c =
    let past : slice_get c.args.flights.now c.args.flight ≡ None =
    slice_get_past c.args.flights.now c.args.flight (subst (λ (n : ℕ). n ≤ c.args.flight) c.len.ensures.value c.if-flight-len.false) in
    subst (λ (flight : Option Flown). IsBehind (IsLegOn flight c.args.leg) c.args.line.now.items c.put_no_leg.new.line.items) (sym past) c.put_no_leg.ensures.text
