-- What the lines of a feed mean.
use Rattle.std.specs.Prelude.{◌≡◌, ℕ, Bool, true, false, ◌==◌, List, ⊤}
use Rattle.desk_answers.specs.Saying.{HasHeard}
use Rattle.desk_hall.specs.Orders.{IsOrder}
use Rattle.desk_hall.specs.declared.orders.Order.{Order}
use Rattle.desk_hall.specs.declared.orders.Order.TheVariants as orders
use Rattle.desk_hall.specs.declared.turn.Turn.TheVariants.{Quiet, Refused, RefusedCall}
use Rattle.desk_lines.specs.declared.desk.Desk.{Desk}
use Rattle.desk_lines.specs.declared.desk.Meaning.{Meaning as Means}
use Rattle.desk_lines.specs.declared.desk.Meaning.TheVariants as meanings
use Rattle.desk_lines.specs.declared.desk.Wrong.TheVariants.{Word}
use Rattle.desk_stream.specs.Wanting.{IsRightWanted}
use Rattle.desk_stream.specs.declared.meant.Meant.{Meant}
use Rattle.desk_stream.specs.declared.meant.Meant.TheVariants.{Called, Said}
use Rattle.desk_stream.specs.declared.wanted.Wanted.TheVariants.{Seats, Row}
use Rattle.ssim_flights.specs.declared.flight.Flight.{Flight as Flown}

-- no line of a feed
abbrev pub unnumbered : ℕ → Desk → Meant
unnumbered session desk = Said (Quiet session desk (meanings.Wrong Word))

-- of a session: a request has a number
abbrev pub meant_by : ℕ → Desk → Means → Meant
meant_by session desk (meanings.Call number wish) = Called number (Seats wish)
meant_by session desk (meanings.Request wish) = unnumbered session desk
meant_by session desk meaning = Said (Quiet session desk meaning)

-- of the manager: a row has a number, a day is a word of the feed, and an end is none
abbrev pub ordered : Desk → Order → Meant
ordered manager (orders.RowCall number control) = Called number (Row control)
ordered manager (orders.Said meaning) = Said (Quiet 0 manager meaning)
ordered manager (orders.Refused fault) = Said (Refused fault manager.lines)
ordered manager (orders.RefusedCall number fault) = Said (RefusedCall fault number)
ordered manager (orders.Row control) = unnumbered 0 manager
ordered manager (orders.Day day) = unnumbered 0 manager
ordered manager orders.Stop = unnumbered 0 manager

abbrev pub IsRightMeant : List Flown → ℕ → Meant → Type 0
IsRightMeant flights session (Called number wanted) = IsRightWanted flights session wanted
IsRightMeant flights session (Said turn) = ⊤

-- the session's desk, or the manager, has heard this line, and it means this
pub record IsOfSession (session : ℕ) (old new : Desk) (line : List ℕ) (meant : Meant) : Type 0 where
  pub meaning : Means
  pub has_heard : HasHeard old new line meaning
  pub meant_is : meant ≡ meant_by session new meaning

pub record IsOfManager (flights : List Flown) (old new : Desk) (line : List ℕ) (meant : Meant) : Type 0 where
  pub order : Order
  pub is_order : IsOrder false flights old new line order
  pub meant_is : meant ≡ ordered new order

abbrev pub IsMeantBy : Bool → List Flown → ℕ → Desk → Desk → List ℕ → Meant → Type 0
IsMeantBy true flights session old new line meant = IsOfManager flights old new line meant
IsMeantBy false flights session old new line meant = IsOfSession session old new line meant

abbrev pub IsMeant : List Flown → ℕ → Desk → Desk → List ℕ → Meant → Type 0
IsMeant flights session old new line meant = IsMeantBy (session == 0) flights session old new line meant
