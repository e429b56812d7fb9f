-- The grid of the lifted limits, leg by leg.
use Rattle.std.proofs.Common.{◌≡◌, ℕ, ◌+◌, ◌<◌, ◌≤◌, Bool, true, false, List, [], ◌∷◌, ◌++◌, length, map, drop, get_or, Option, Some, None, arith, refl, ap, sym, subst, ◌∙◌}
use Rattle.std.specs.Prelude.{slice_get, OnOk, Result, Ok, Err}
use Rattle.std.proofs.lemmas.Option.{get_or_from_slice_get, slice_get_within}
use Rattle.airline_base.specs.declared.place.Place.{Place}
use Rattle.ssim_flights.specs.declared.flight.DatedLeg.{DatedLeg}
use Rattle.ssim_flights.specs.declared.flight.Flight.{Flight as Flown}
use Rattle.seat_nesting.specs.Nesting.{HasLadders, IsLadder, IsLegLadder, Ladders, Steps, ladder_at, steps_at}
use Rattle.seat_nesting.specs.Planning.{Planned, with_flight}
use Rattle.seat_nesting.proofs.CountChanges.{each_push}
use Rattle.seat_rules.specs.Inventory.{Inventory}
use Rattle.seat_carrying.specs.Lifting.{lifted, top_of}
use Rattle.carry_limits.specs.ByFlight.{Lists}
use Rattle.limit_changes.specs.Legs.{each_from}
use Rattle.carry_limits.specs.Legs.{flight_ladders, leg_ladder, leg_ladders}
use Rattle.carry_limits.specs.Lifting.{held_on, lifted_on, waits_on}
use Rattle.carry_limits.specs.Wanting.{old_leg, wanted_after, wanted_by}
use Rattle.carry_limits.specs.declared.wanting.Seasons.{Seasons}
use Rattle.limit_changes.proofs.Keeping.{number_more, part_more}

-- ---- a leg without limits in the file

after_none : (before : Inventory) (old : Option Place) → wanted_after before [] old ≡ []
after_none before None = refl
after_none before (Some p) = refl

wanted_none : (fresh : Bool) (s : Seasons) (flight leg : ℕ) → ladder_at s.file.now flight leg ≡ [] → wanted_by fresh s flight leg ≡ []
wanted_none true s flight leg none = none
wanted_none false s flight leg none =
    let old : Option Place = old_leg s.old.now s.flights.now flight leg in
    ap (λ (steps : Steps). wanted_after s.before.now steps old) none ∙ after_none s.before.now old

pub none_lifted : (s : Seasons) (lists : Lists) (flight leg : ℕ) → ladder_at s.file.now flight leg ≡ [] → [] ≡ lifted_on s lists flight leg
none_lifted s lists flight leg none =
    sym (ap (lifted (top_of (ladder_at s.file.now flight leg)) (held_on lists flight leg) (waits_on lists flight leg)) (wanted_none s.fresh s flight leg none))

-- ---- one leg more

pub leg_more : (rule : ℕ → Steps) (so_far more : List Steps) (i : ℕ) (legs : List DatedLeg)
    (whole : List Steps) → so_far ++ each_from (leg_ladder rule) i (drop i legs) ≡ whole → i < length legs
    → more ≡ so_far ++ rule i ∷ []
    → more ++ each_from (leg_ladder rule) (i + 1) (drop (i + 1) legs) ≡ whole
leg_more rule so_far more i legs whole all inside is =
    number_more (leg_ladder rule) (λ n. rule n ∷ []) i (i + 1) i legs so_far more whole (λ n leg. refl) all inside is refl

pub ladder_more : (so_far more : List Steps) (steps : Steps) → ((leg : ℕ) → IsLegLadder (steps_at so_far leg))
    → IsLegLadder steps → more ≡ so_far ++ steps ∷ [] → (leg : ℕ) → IsLegLadder (steps_at more leg)
ladder_more so_far more steps all here is =
    subst (λ (l : List Steps). (leg : ℕ) → IsLegLadder (steps_at l leg)) (sym is)
    (each_push so_far steps [] (λ (s : Steps). IsLegLadder s) all here)

-- the next flight is closed
pub closed_more : {T E : Type 0} (r : Result T E) (old mid new : Planned) (legs : List Steps) → mid.flights ≡ old.flights → mid.legs ≡ legs
    → OnOk r (new ≡ with_flight mid) → OnOk r (new.flights ≡ old.flights ++ legs ∷ [])
closed_more (Ok x) old mid new legs flights its is =
    ap (λ (p : Planned). p.flights) is ∙ ap (λ (g : Ladders). g ++ mid.legs ∷ []) flights ∙ ap (λ (l : List Steps). old.flights ++ l ∷ []) its
closed_more (Err e) old mid new legs flights its is = tt

pub closed_nested : {T E : Type 0} (r : Result T E) (mid legs : List Steps) → ((leg : ℕ) → IsLegLadder (steps_at mid leg)) → mid ≡ legs
    → OnOk r ((leg : ℕ) → IsLegLadder (steps_at legs leg))
closed_nested (Ok x) mid legs all its = subst (λ (l : List Steps). (leg : ℕ) → IsLegLadder (steps_at l leg)) its all
closed_nested (Err e) mid legs all its = tt

-- ---- one flight more

pub flight_more : (rule : ℕ → ℕ → Steps) (grid pushed : Ladders) (ladders : List Steps) (legs : List DatedLeg) (i : ℕ) (flights : List Flown)
    (flight : Flown) (whole : Ladders) → grid ++ each_from (flight_ladders rule) i (drop i flights) ≡ whole
    → slice_get flights i ≡ Some flight → legs ≡ flight.legs → ladders ≡ leg_ladders (rule i) legs → pushed ≡ grid ++ ladders ∷ []
    → pushed ++ each_from (flight_ladders rule) (i + 1) (drop (i + 1) flights) ≡ whole
flight_more rule grid pushed ladders legs i flights flight whole so_far at run are is =
    part_more (flight_ladders rule) i (i + 1) i flights flight grid pushed whole so_far (slice_get_within flights i flight at)
    (sym (get_or_from_slice_get flights i flight flight at)) put refl
  where
    put : pushed ≡ grid ++ leg_ladders (rule i) flight.legs ∷ []
    put = is ∙ ap (λ (l : List Steps). grid ++ l ∷ []) (are ∙ ap (leg_ladders (rule i)) run)

pub ladders_more : (grid pushed : Ladders) (legs : List Steps) → ((flight leg : ℕ) → IsLegLadder (ladder_at grid flight leg))
    → ((leg : ℕ) → IsLegLadder (steps_at legs leg)) → pushed ≡ grid ++ legs ∷ []
    → (flight leg : ℕ) → IsLegLadder (ladder_at pushed flight leg)
ladders_more grid pushed legs all here is =
    subst (λ (g : Ladders). (flight leg : ℕ) → IsLegLadder (ladder_at g flight leg)) (sym is)
    (each_push grid legs [] (λ (l : List Steps). (leg : ℕ) → IsLegLadder (steps_at l leg)) all here)
