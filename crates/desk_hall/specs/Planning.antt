-- What a line comes to behind the lines that are there, and those that are asked for ahead of it.
use Rattle.std.specs.Prelude.{◌≡◌, ℕ, ◌+◌, ◌==◌, Bool, true, false, nat_le, nat_lt, if◌then◌else◌, List, length, Some, None}
use Rattle.airimp_lines.specs.declared.requests.Request.{Request as Wish}
use Rattle.desk_answers.specs.Saying.{asked_by}
use Rattle.desk_lines.specs.declared.desk.Desk.{Desk}
use Rattle.desk_lines.specs.declared.desk.Meaning.{Meaning}
use Rattle.desk_lines.specs.declared.desk.Meaning.TheVariants.{Request, Call, WrongCall}
use Rattle.desk_lines.specs.declared.desk.Wrong.TheVariants.{Beyond}
use Rattle.desk_lines.specs.declared.desk.Meaning.TheVariants.{Nothing}
use Rattle.desk_hall.specs.declared.orders.Order.{Order}
use Rattle.desk_hall.specs.declared.orders.Order.TheVariants as orders
use Rattle.desk_hall.specs.declared.planning.Plan.{Plan}
use Rattle.desk_hall.specs.declared.turn.Turn.TheVariants.{Line, Full, Repeated, RepeatedRow, Quiet, Refused, RefusedCall, Stands}
use Rattle.seat_journal.specs.declared.entry.Control.{Control}
use Rattle.seat_journal.specs.declared.entry.Entry.{Entry}
use Rattle.seat_journal.specs.Controls.{set_by}
use Rattle.seat_serving.specs.declared.asked.Asked.{Asked}
use Rattle.seat_rules.specs.Journal.{calls_of}
use Rattle.ssim_flights.specs.declared.flight.Flight.{Flight as Flown}

-- where there is room its line is the next, and else the journal is full
abbrev pub PlansRequest : Bool → List Flown → ℕ → List Entry → Wish → Plan → Type 0
PlansRequest true flights session past wish plan =
    (plan.turn ≡ Line (length past)) × (plan.asked ≡ Some (asked_by flights session wish))
PlansRequest false flights session past wish plan =
    (plan.turn ≡ Full session (calls_of past session + 1)) × (plan.asked ≡ None)

-- a line that books nothing
abbrev pub PlansQuiet : ℕ → Desk → Meaning → Plan → Type 0
PlansQuiet session desk meaning plan = (plan.turn ≡ Quiet session desk meaning) × (plan.asked ≡ None)

-- the next call is asked for; one that is there is told once more; one beyond the next is refused
abbrev pub PlansCall : Bool → Bool → List Flown → ℕ → ℕ → Desk → ℕ → List Entry → Wish → Plan → Type 0
PlansCall true there flights cap session desk number past wish plan =
    PlansRequest (nat_lt (length past) cap) flights session past wish plan
PlansCall false true flights cap session desk number past wish plan =
    (plan.turn ≡ Repeated session number wish) × (plan.asked ≡ None)
PlansCall false false flights cap session desk number past wish plan =
    PlansQuiet session desk (WrongCall number Beyond) plan

abbrev pub Plans : List Flown → ℕ → ℕ → Desk → List Entry → Meaning → Plan → Type 0
Plans flights cap session desk past (Request wish) plan =
    PlansRequest (nat_lt (length past) cap) flights session past wish plan
Plans flights cap session desk past (Call number wish) plan =
    PlansCall (number == calls_of past session + 1) (nat_le number (calls_of past session)) flights cap session desk number past
    wish plan
Plans flights cap session desk past meaning plan = PlansQuiet session desk meaning plan

-- ---- the manager

-- what a row sets, which session 0 asks for
abbrev pub control_asked : Control → Asked
control_asked control = record { session = 0; work = set_by control }

-- where there is room its line is the next, and else the journal is full
abbrev pub PlansRow : Bool → List Entry → Control → Plan → Type 0
PlansRow true past control plan = (plan.turn ≡ Line (length past)) × (plan.asked ≡ Some (control_asked control))
PlansRow false past control plan = (plan.turn ≡ Full 0 (calls_of past 0 + 1)) × (plan.asked ≡ None)

-- the next call is asked for; one that is there is told once more; one beyond the next is refused
abbrev pub PlansRowCall : Bool → Bool → ℕ → Desk → ℕ → List Entry → Control → Plan → Type 0
PlansRowCall true there cap manager number past control plan = PlansRow (nat_lt (length past) cap) past control plan
PlansRowCall false true cap manager number past control plan =
    (plan.turn ≡ RepeatedRow number control) × (plan.asked ≡ None)
PlansRowCall false false cap manager number past control plan =
    PlansQuiet 0 manager (WrongCall number Beyond) plan

-- the later of today and the day of an order
abbrev pub day_behind : ℕ → Order → ℕ
day_behind today (orders.Day day) = if nat_lt today day then day else today
day_behind today order = today

-- the manager stands so behind its line, at a journal of its epoch, and today is the day that holds then
abbrev pub PlansOrder : ℕ → Desk → ℕ → List Entry → Order → Plan → Type 0
PlansOrder cap manager today past (orders.Said meaning) plan = PlansQuiet 0 manager meaning plan
PlansOrder cap manager today past (orders.Row control) plan = PlansRow (nat_lt (length past) cap) past control plan
PlansOrder cap manager today past (orders.RowCall number control) plan =
    PlansRowCall (number == calls_of past 0 + 1) (nat_le number (calls_of past 0)) cap manager number past control plan
PlansOrder cap manager today past (orders.Refused fault) plan = (plan.turn ≡ Refused fault manager.lines) × (plan.asked ≡ None)
PlansOrder cap manager today past (orders.RefusedCall number fault) plan =
    (plan.turn ≡ RefusedCall fault number) × (plan.asked ≡ None)
PlansOrder cap manager today past (orders.Day day) plan = (plan.turn ≡ Stands today manager.epoch) × (plan.asked ≡ None)
PlansOrder cap manager today past orders.Stop plan = PlansQuiet 0 manager Nothing plan

-- all but the end
abbrev pub goes_on : Order → Bool
goes_on orders.Stop = false
goes_on order = true
