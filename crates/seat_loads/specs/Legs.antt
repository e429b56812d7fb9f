-- Which legs `loads` keeps, and how full a leg is.
use Rattle.std.specs.Prelude.{ℕ, ◌*◌, ◌/◌, ◌==◌, ◌&&◌, Bool, if◌then◌else◌, List, [], ◌∷◌, ◌++◌, decimal, codes}
use Rattle.std.specs.List.{flat_map}
use Rattle.ssim_flights.specs.declared.flight.DatedLeg.{DatedLeg}
use Rattle.seat_nesting.specs.Nesting.{ByClass, Steps, held_from, ladder_at}
use Rattle.seat_nesting.specs.declared.ladder.Step.{Step}
use Rattle.seat_rules.specs.Bookings.{held, waiting}
use Rattle.seat_rules.specs.Sequential.{State}
use Rattle.seat_questions.specs.Rooms.{keeps_day, keeps_pair}
use Rattle.seat_questions.specs.Why.{class_text, room_text, wait_text}
use Rattle.seat_loads.specs.declared.loads.LoadsOf.{LoadsOf}

-- the leg is asked for, on a flight that is
abbrev pub is_kept : LoadsOf → DatedLeg → Bool
is_kept asked leg = keeps_day asked.day leg.day && keeps_pair asked.pair leg

-- the limit of the highest class, which is the leg's; limits are nested, so they are never added up
abbrev pub top_limit : Steps → ℕ
top_limit [] = 0
top_limit (s ∷ lower) = s.limit

abbrev pub limit_on : State → ℕ → ℕ → ℕ
limit_on s flight leg = top_limit (ladder_at s.grid flight leg)

-- the seats that are held on the leg in its classes
abbrev pub held_on : State → ℕ → ℕ → ℕ
held_on s flight leg = held_from (held s.bookings flight leg) (ladder_at s.grid flight leg)

-- what is held of a limit, per mille and rounded down; 0 of none
abbrev pub share : ℕ → ℕ → ℕ
share seats limit = (if limit == 0 then 0 else seats * 1000 / limit)

-- HELD/LIMIT SHARE
abbrev pub share_text : ℕ → ℕ → List ℕ
share_text seats limit = decimal seats ++ codes "/" ++ decimal limit ++ codes " " ++ decimal (share seats limit)

-- a class, the seats that are held in it and those below, and its limit
abbrev pub load_text : ℕ → Step → List ℕ
load_text seats step = class_text step.class seats ++ codes "/" ++ decimal step.limit

-- such a piece for each class, from the highest down
abbrev pub load_texts : ByClass → Steps → List ℕ
load_texts seats [] = []
load_texts seats (s ∷ lower) = load_text (held_from seats (s ∷ lower)) s ++ load_texts seats lower

-- the classes of a leg with this ladder: what is held of each limit, the room in each, and what waits in each of those that may
abbrev pub classes_text : State → ℕ → ℕ → Steps → List ℕ
classes_text s flight leg steps =
    load_texts (held s.bookings flight leg) steps ++ codes " ROOM" ++ flat_map (room_text s flight leg) steps
    ++ codes " WAIT" ++ flat_map (wait_text (waiting s.bookings flight leg)) steps

-- LOAD, how full the leg is, and its classes
abbrev pub standing_text : State → ℕ → ℕ → List ℕ
standing_text s flight leg =
    codes " LOAD " ++ share_text (held_on s flight leg) (limit_on s flight leg)
    ++ classes_text s flight leg (ladder_at s.grid flight leg)
