-- The lifted limits of a leg have room, where its highest rank has the seats.
use Rattle.std.proofs.Common.{◌≡◌, ℕ, ◌≤◌, min, Bool, true, false, List, [], ◌∷◌, Option, Some, None, arith, refl, ap, sym, subst, ◌∙◌}
use Rattle.std.specs.List.{AllByRecursion}
use Rattle.airline_base.specs.declared.place.Place.{Place}
use Rattle.seat_nesting.specs.declared.ladder.Step.{Step}
use Rattle.seat_nesting.specs.Nesting.{IsLadder, IsLegLadder, IsNotRising, Steps, held_from, ladder_at}
use Rattle.seat_nesting.specs.Changing.{step_of}
use Rattle.seat_rules.specs.Inventory.{Inventory, state_now}
use Rattle.seat_carrying.specs.Lifting.{HasRoomAt, changed_step, step_wanted, top_of, wanted, wanted_under, with_change}
use Rattle.seat_carrying.proofs.Lifted.{lifted_has_room}
use Rattle.seat_carrying.proofs.Wanted.{wanted_is_ladder}
use Rattle.limit_changes.specs.Laws.{AreLadders}
use Rattle.limit_changes.specs.declared.legs.NamedLeg.{NamedLeg}
use Rattle.limit_changes.proofs.Arriving.{bounded_waits}
use Rattle.carry_limits.specs.ByFlight.{Lists}
use Rattle.carry_limits.specs.Laws.{LiftedLimitsHaveRoom}
use Rattle.carry_limits.specs.Legs.{HasLegsOf}
use Rattle.carry_limits.specs.Lifting.{held_on, lifted_on, waits_on}
use Rattle.carry_limits.specs.Overs.{over_on, seats_at}
use Rattle.carry_limits.specs.Wanting.{old_leg, wanted_after, wanted_by, wanted_on}
use Rattle.carry_limits.specs.declared.wanting.Seasons.{Seasons}
use Rattle.carry_limits.proofs.Grids.{lifted_at}
use Rattle.carry_limits.proofs.Ranked.{same_held, wanted_ranks}
use Rattle.carry_limits.proofs.Roomy.{few_here}
use Rattle.carry_limits.proofs.Standing.{stays_replay}

-- limits that nest, none of which is above so many seats, and waits of at most 999
pub record AreUnder (top : ℕ) (steps : Steps) : Type 0 where
  pub falls : IsNotRising steps
  pub few : AllByRecursion (λ (s : Step). (s.limit ≤ top) × (s.wait ≤ 999)) steps

both : (top : ℕ) (steps : Steps) → AllByRecursion (λ (s : Step). s.limit ≤ top) steps → AllByRecursion (λ (s : Step). s.wait ≤ 999) steps
    → AllByRecursion (λ (s : Step). (s.limit ≤ top) × (s.wait ≤ 999)) steps
both top [] a b = tt
both top (s ∷ lower) a b = ((a.0, b.0), both top lower a.1 b.1)

-- ---- the file's

itself : (n : ℕ) → n ≤ n
itself n = omega arith

file_under : (steps : Steps) → IsLegLadder steps → AreUnder (top_of steps) steps
file_under [] is = record { falls = tt; few = tt }
file_under (s ∷ lower) is =
    record { falls = is.not_rising; few = both s.limit (s ∷ lower) (itself s.limit, is.not_rising.0) (bounded_waits (s ∷ lower) is.bounded) }

-- ---- with what a journal's changes set

-- what is under a limit is under any that is no lower
all_less : (low high : ℕ) (steps : Steps) → low ≤ high → AllByRecursion (λ (s : Step). s.limit ≤ low) steps
    → AllByRecursion (λ (s : Step). s.limit ≤ high) steps
all_less low high [] le all = tt
all_less low high (s ∷ lower) le all = (omega (arith, all.0, le), all_less low high lower le all.1)

changed_under : (file begun now : Steps) → IsLegLadder file → AllByRecursion (λ (t : Step). t.wait ≤ 999) now
    → AreUnder (top_of file) (wanted file begun now)
changed_under [] begun now is waits = record { falls = tt; few = tt }
changed_under (s ∷ lower) begun now is waits = record {
  falls = ladder.not_rising;
  few = both s.limit (wanted (s ∷ lower) begun now)
      (head, all_less (step_wanted s.limit begun now s).limit s.limit (wanted_under (step_wanted s.limit begun now s).limit begun now lower) head ladder.not_rising.0)
      (bounded_waits (wanted (s ∷ lower) begun now) ladder.bounded);
}
  where
    set : Step
    set = with_change (changed_step (step_of begun s.class) (step_of now s.class)) s

    head : min set.limit s.limit ≤ s.limit
    head = omega arith

    whole : IsLadder (s ∷ lower)
    whole = record { some = omega arith; most = is.most; distinct = is.distinct; not_rising = is.not_rising; bounded = is.bounded }

    ladder : IsLadder (wanted (s ∷ lower) begun now)
    ladder = wanted_is_ladder (s ∷ lower) begun now whole waits

-- a leg of the old season has waits of at most 999, whatever lines set
old_waits : (before : Inventory) (flight leg : ℕ) → AreLadders before.grid → AllByRecursion (λ (t : Step). t.wait ≤ 999) (ladder_at (state_now before).grid flight leg)
old_waits before flight leg ladders =
    bounded_waits (ladder_at (state_now before).grid flight leg) (stays_replay flight leg before.grid before.journal (ladders flight leg)).bounded

after_under : (before : Inventory) (file : Steps) (old : Option Place) → AreLadders before.grid → IsLegLadder file
    → AreUnder (top_of file) (wanted_after before file old)
after_under before file None ladders is = file_under file is
after_under before file (Some p) ladders is =
    changed_under file (ladder_at before.grid p.flight p.from) (ladder_at (state_now before).grid p.flight p.from) is (old_waits before p.flight p.from ladders)

wanted_is_under : (fresh : Bool) (s : Seasons) (flight leg : ℕ) → AreLadders s.file.now → AreLadders s.before.now.grid
    → AreUnder (top_of (ladder_at s.file.now flight leg)) (wanted_by fresh s flight leg)
wanted_is_under true s flight leg file before = file_under (ladder_at s.file.now flight leg) (file flight leg)
wanted_is_under false s flight leg file before =
    after_under s.before.now (ladder_at s.file.now flight leg) (old_leg s.old.now s.flights.now flight leg) before (file flight leg)

-- ---- lifted

pub lifted_limits_have_room : LiftedLimitsHaveRoom
lifted_limits_have_room s lists leg has file before none few =
    subst (λ (steps : Steps). HasRoomAt (wanted_on s leg.flight leg.leg) steps (held_on lists leg.flight leg.leg) (waits_on lists leg.flight leg.leg))
    (sym (lifted_at s lists has leg.flight leg.leg))
    (lifted_has_room (top_of (ladder_at s.file.now leg.flight leg.leg)) (wanted_on s leg.flight leg.leg) (held_on lists leg.flight leg.leg)
    (waits_on lists leg.flight leg.leg) under.falls under.few enough few)
  where
    under : AreUnder (top_of (ladder_at s.file.now leg.flight leg.leg)) (wanted_on s leg.flight leg.leg)
    under = wanted_is_under s.fresh s leg.flight leg.leg file before

    enough : held_from (held_on lists leg.flight leg.leg) (wanted_on s leg.flight leg.leg) ≤ top_of (ladder_at s.file.now leg.flight leg.leg)
    enough =
        omega (
          arith,
          few_here s.file.now lists leg none,
          same_held (held_on lists leg.flight leg.leg) (ladder_at s.file.now leg.flight leg.leg) (wanted_on s leg.flight leg.leg) (wanted_ranks s leg.flight leg.leg),
        )
