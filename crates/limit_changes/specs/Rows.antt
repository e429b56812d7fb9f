-- The changes that bring the limits to those that are wanted, in the order in which they are made.
use Rattle.std.specs.Prelude.{List, ◌++◌, flat_map, map}
use Rattle.seat_nesting.specs.Nesting.{ByClass, Ladders, Steps, ladder_at}
use Rattle.seat_nesting.specs.declared.ladder.Step.{Step}
use Rattle.seat_rules.specs.Bookings.{held}
use Rattle.seat_rules.specs.Sequential.{State}
use Rattle.limit_changes.specs.Reaching.{changes_down, changes_up, cut_steps, reach_steps}
use Rattle.limit_changes.specs.declared.legs.NamedLeg.{NamedLeg}
use Rattle.limit_changes.specs.declared.rows.Row.{Row}

-- ---- one leg

-- its limits now, the seats that are held in each class, and the limits that are wanted
abbrev pub steps_now : State → NamedLeg → Steps
steps_now s leg = ladder_at s.grid leg.flight leg.leg

abbrev pub seats_now : State → NamedLeg → ByClass
seats_now s leg = held s.bookings leg.flight leg.leg

abbrev pub wanted_on : Ladders → NamedLeg → Steps
wanted_on wanted leg = ladder_at wanted leg.flight leg.leg

-- its limits once they are cut, and once they are raised too
abbrev pub cut_on : Ladders → State → NamedLeg → Steps
cut_on wanted s leg = cut_steps (wanted_on wanted leg) (seats_now s leg) (steps_now s leg)

abbrev pub reached_on : Ladders → State → NamedLeg → Steps
reached_on wanted s leg = reach_steps (wanted_on wanted leg) (seats_now s leg) (steps_now s leg)

-- a class gets the limit and the wait of a step
abbrev pub row_of : NamedLeg → Step → Row
row_of leg t = record { leg = leg; class = t.class; limit = t.limit; wait = t.wait }

abbrev pub cuts_of : Ladders → State → NamedLeg → List Row
cuts_of wanted s leg = map (row_of leg) (changes_up (steps_now s leg) (cut_on wanted s leg))

abbrev pub raises_of : Ladders → State → NamedLeg → List Row
raises_of wanted s leg = map (row_of leg) (changes_down (cut_on wanted s leg) (reached_on wanted s leg))

-- ---- all legs

-- all cuts are ahead of all raises: a limit that is raised lets in those who wait, and what they hold would be in the way of a cut
abbrev pub rows : Ladders → State → List NamedLeg → List Row
rows wanted s legs = flat_map (cuts_of wanted s) legs ++ flat_map (raises_of wanted s) legs
