-- How the limits of a leg come to those that are wanted: first they are cut, from the lowest rank up, and then raised, from the highest down.
use Rattle.std.specs.Prelude.{ℕ, ◌==◌, ◌&&◌, max, min, nat_le, nat_lt, [], ◌∷◌, ◌++◌, Option, Some, None, if◌then◌else◌}
use Rattle.seat_nesting.specs.Nesting.{ByClass, Steps, held_from}
use Rattle.seat_nesting.specs.Changing.{step_of, top_of}
use Rattle.seat_nesting.specs.declared.ladder.Step.{Step}

-- a limit above what is wanted is cut to it, or as low as it goes; any other stays, and so does a class of which nothing is wanted
abbrev pub cut_to : Option Step → ℕ → Step → Step
cut_to None lowest s = s
cut_to (Some w) lowest s =
    (if nat_lt w.limit s.limit then record s { limit = max w.limit lowest; wait = w.wait } else s)

-- all ranks: none is cut below the seats that are held in it and those below it, or below the limit of the next lower rank
abbrev pub cut_steps : Steps → ByClass → Steps → Steps
cut_steps wanted seats [] = []
cut_steps wanted seats (s ∷ lower) =
    cut_to (step_of wanted s.class) (max (held_from seats (s ∷ lower)) (top_of (cut_steps wanted seats lower))) s
    ∷ cut_steps wanted seats lower

-- a limit that is not above what is wanted is raised to it, or as high as it goes, and gets the wait that is wanted; any other stays
abbrev pub raise_to : Option Step → ℕ → Step → Step
raise_to None highest s = s
raise_to (Some w) highest s =
    (if nat_le s.limit w.limit then record s { limit = min w.limit highest; wait = w.wait } else s)

-- all ranks: none is raised above the next higher rank
abbrev pub raise_steps : Steps → ℕ → Steps → Steps
raise_steps wanted highest [] = []
raise_steps wanted highest (s ∷ lower) =
    raise_to (step_of wanted s.class) highest s
    ∷ raise_steps wanted (raise_to (step_of wanted s.class) highest s).limit lower

-- cut, and then raised
abbrev pub reach_steps : Steps → ByClass → Steps → Steps
reach_steps wanted seats steps = raise_steps wanted 999 (cut_steps wanted seats steps)

-- ---- the changes that do that

-- the second step, where its limit or its wait is not that of the first
abbrev pub change_of : Step → Step → Steps
change_of s t = (if (s.limit == t.limit) && (s.wait == t.wait) then [] else t ∷ [])

-- the changes of all ranks, from the lowest up
abbrev pub changes_up : Steps → Steps → Steps
changes_up [] new = []
changes_up (s ∷ lower) [] = []
changes_up (s ∷ lower) (t ∷ new) = changes_up lower new ++ change_of s t

-- and from the highest down
abbrev pub changes_down : Steps → Steps → Steps
changes_down [] new = []
changes_down (s ∷ lower) [] = []
changes_down (s ∷ lower) (t ∷ new) = change_of s t ++ changes_down lower new
