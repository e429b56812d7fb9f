-- Why steps are no ladder: the first fault in the order L1 to L4.
use Rattle.std.specs.Prelude.{ℕ, ◌==◌, ◌||◌, nat_lt, Bool, false, if◌then◌else◌, Option, Some, None, [], ◌∷◌, length}
use Rattle.std.specs.List.{list_any}
use Rattle.seat_nesting.specs.Nesting.{Steps, has_class}
use Rattle.seat_nesting.specs.declared.ladder.LadderFault.{LadderFault}
use Rattle.seat_nesting.specs.declared.ladder.LadderFault.TheVariants.{Empty, RepeatedClass, Rising, TooLarge}

-- a class stands twice
abbrev pub repeats_class : Steps → Bool
repeats_class [] = false
repeats_class (s ∷ lower) = has_class lower s.class || repeats_class lower

-- the next lower rank has a higher limit
abbrev pub is_below_next : ℕ → Steps → Bool
is_below_next limit [] = false
is_below_next limit (t ∷ lower) = nat_lt limit t.limit

-- a limit rises from a rank to the next lower one
abbrev pub is_rising : Steps → Bool
is_rising [] = false
is_rising (s ∷ lower) = is_below_next s.limit lower || is_rising lower

-- a limit or a wait is above 999
abbrev pub is_too_large : Steps → Bool
is_too_large steps = list_any (λ s. nat_lt 999 s.limit || nat_lt 999 s.wait) steps

-- the first fault of the steps, if they have one
unfoldable pub ladder_fault : Steps → Option LadderFault
ladder_fault steps =
    if length steps == 0 then Some Empty
    else if repeats_class steps then Some RepeatedClass
    else if is_rising steps then Some Rising
    else if is_too_large steps then Some TooLarge
    else None
