-- The classes whose limits do not come to what is wanted.
use Rattle.std.specs.Prelude.{ℕ, ◌==◌, List, [], ◌∷◌, ◌++◌, flat_map, Option, Some, None, if◌then◌else◌}
use Rattle.seat_nesting.specs.Nesting.{ByClass, Ladders, Steps, held_from}
use Rattle.seat_nesting.specs.Changing.{step_of}
use Rattle.seat_nesting.specs.declared.ladder.Step.{Step}
use Rattle.seat_rules.specs.Sequential.{State}
use Rattle.limit_changes.specs.Rows.{reached_on, seats_now, steps_now, wanted_on}
use Rattle.limit_changes.specs.declared.legs.NamedLeg.{NamedLeg}
use Rattle.limit_changes.specs.declared.shorts.Short.{Short}

-- a class of which this is wanted and in which so many seats are held, where its limit comes to another
abbrev pub short_of : NamedLeg → Option Step → ℕ → Step → List Short
short_of leg None seats t = []
short_of leg (Some w) seats t =
    (if t.limit == w.limit then []
    else record { leg = leg; class = t.class; wanted = w.limit; held = seats; limit = t.limit } ∷ [])

-- those of a leg, from the highest rank down
abbrev pub shorts_from : NamedLeg → Steps → ByClass → Steps → Steps → List Short
shorts_from leg wanted seats [] new = []
shorts_from leg wanted seats (s ∷ lower) [] = []
shorts_from leg wanted seats (s ∷ lower) (t ∷ new) =
    short_of leg (step_of wanted s.class) (held_from seats (s ∷ lower)) t ++ shorts_from leg wanted seats lower new

abbrev pub shorts_of : Ladders → State → NamedLeg → List Short
shorts_of wanted s leg = shorts_from leg (wanted_on wanted leg) (seats_now s leg) (steps_now s leg) (reached_on wanted s leg)

-- a leg that no row names stays as it is
abbrev pub unnamed_of : Ladders → State → NamedLeg → List Short
unnamed_of wanted s leg = shorts_from leg (wanted_on wanted leg) (seats_now s leg) (steps_now s leg) (steps_now s leg)

-- those of all such legs
abbrev pub unnamed : Ladders → State → List NamedLeg → List Short
unnamed wanted s legs = flat_map (unnamed_of wanted s) legs

-- those of all legs
abbrev pub shorts : Ladders → State → List NamedLeg → List Short
shorts wanted s legs = flat_map (shorts_of wanted s) legs
