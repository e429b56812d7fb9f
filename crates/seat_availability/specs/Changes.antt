-- What changed between two lists of messages over the same segments, and what a partner makes of it.
use Rattle.std.specs.Prelude.{◌≡◌, ◌==◌, ◌&&◌, Bool, true, false, List, [], ◌∷◌, ◌++◌, map, Option, Some, None, if◌then◌else◌}
use Rattle.ssim_flights.specs.declared.flight.Flight.{Flight as Flown}
use Rattle.seat_nesting.specs.Nesting.{HasLadders, Ladders}
use Rattle.seat_rules.specs.Sequential.{State}
use Rattle.seat_availability.specs.Messages.{messages, same_segment}
use Rattle.seat_availability.specs.declared.segments.Asked.{Asked}
use Rattle.seat_availability.specs.declared.segments.Message.{Message}
use Rattle.seat_availability.specs.declared.statuses.Status.{Status}
use Rattle.seat_availability.specs.declared.statuses.Status.TheVariants.{Open, ListOpen, Closed, NotOperated}

abbrev pub same_status : Status → Status → Bool
same_status Open Open = true
same_status ListOpen ListOpen = true
same_status Closed Closed = true
same_status NotOperated NotOperated = true
same_status _ _ = false

-- two messages of one segment tell the same
abbrev pub tells_same : Message → Message → Bool
tells_same a b = same_status a.status b.status && (a.seats == b.seats)

-- a message, where it tells something else than the older one
abbrev pub news : Option Message → Message → List Message
news None n = n ∷ []
news (Some o) n = (if tells_same o n then [] else n ∷ [])

-- those of the newer messages, one for each of the older ones
abbrev pub changed : List Message → List Message → List Message
changed older [] = []
changed [] (n ∷ newer) = news None n ++ changed [] newer
changed (o ∷ older) (n ∷ newer) = news (Some o) n ++ changed older newer

-- ---- a partner

-- the change of a message's segment, if there is one; else the message
abbrev pub latest : List Message → Message → Message
latest [] m = m
latest (c ∷ changes) m = (if same_segment m.segment c.segment then c else latest changes m)

-- what a partner has, once each change has taken the place of what it was told of its segment
abbrev pub applied : List Message → List Message → List Message
applied had changes = map (latest changes) had

-- what it was told, with the changes, is what it would be told of all
abbrev pub ChangesSuffice : Type 0
ChangesSuffice = (asked : Asked) (flights : List Flown) (grid : Ladders) (older newer : State) → HasLadders grid →
    applied (messages asked flights grid older) (changed (messages asked flights grid older) (messages asked flights grid newer))
    ≡ messages asked flights grid newer
