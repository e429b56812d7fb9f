-- What is wanted of the limits of each leg of a new season.
use Rattle.std.specs.Prelude.{ℕ, ◌==◌, Bool, true, false, List, Option, Some, None, if◌then◌else◌}
use Rattle.airline_base.specs.declared.place.Place.{Place}
use Rattle.ssim_flights.specs.Places.{place, place_wanted}
use Rattle.ssim_flights.specs.declared.flight.Flight.{Flight as Flown}
use Rattle.ssim_flights.specs.declared.flight.Wanted.{Wanted}
use Rattle.seat_nesting.specs.Nesting.{Steps, ladder_at}
use Rattle.seat_rules.specs.Inventory.{Inventory, state_now}
use Rattle.seat_carrying.specs.Lifting.{wanted}
use Rattle.seat_moving.specs.Moving.{is_very, name_of}
use Rattle.carry_limits.specs.declared.wanting.Seasons.{Seasons}

-- ---- the old leg of a new one

-- a place of one leg
abbrev pub one_leg : Option Place → Option Place
one_leg None = None
one_leg (Some p) = (if p.from == p.to then Some p else None)

-- a leg of that name, if the name finds this leg among the new flights
abbrev pub leg_named : List Flown → List Flown → Place → Option Wanted → Option Place
leg_named old new p None = None
leg_named old new p (Some name) = (if is_very p (place_wanted new name) then one_leg (place_wanted old name) else None)

-- the leg of the old flights that is found by what passengers call a leg of the new ones; none where that finds another of the new ones
abbrev pub old_leg : List Flown → List Flown → ℕ → ℕ → Option Place
old_leg old new flight leg = leg_named old new (place flight leg leg) (name_of new (place flight leg leg))

-- ---- what is wanted of it

-- the file's limits, with what the journal's changes set of classes of the old leg that are still there
abbrev pub wanted_after : Inventory → Steps → Option Place → Steps
wanted_after before file None = file
wanted_after before file (Some old) =
    wanted file (ladder_at before.grid old.flight old.from) (ladder_at (state_now before).grid old.flight old.from)

abbrev pub wanted_by : Bool → Seasons → ℕ → ℕ → Steps
wanted_by true s flight leg = ladder_at s.file.now flight leg
wanted_by false s flight leg =
    wanted_after s.before.now (ladder_at s.file.now flight leg) (old_leg s.old.now s.flights.now flight leg)

-- the wanted limits of a leg: the file's, or with the journal's changes
abbrev pub wanted_on : Seasons → ℕ → ℕ → Steps
wanted_on s flight leg = wanted_by s.fresh s flight leg
