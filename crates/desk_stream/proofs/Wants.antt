-- What numbered lines ask for is right.
use Rattle.std.proofs.Common.{◌≡◌, ◌∙◌, ℕ, ◌≤◌, List, refl, ap}
use Rattle.airimp_lines.specs.declared.requests.Request.{Request}
use Rattle.desk_answers.specs.Saying.{asked_by}
use Rattle.desk_answers.proofs.Wishes.{right_request}
use Rattle.desk_hall.proofs.Ordered.{row_right}
use Rattle.desk_stream.specs.Wanting.{IsRightWanted}
use Rattle.desk_stream.specs.declared.wanted.Wanted.TheVariants.{Seats, Row}
use Rattle.seat_desk.specs.Loading.{IsGridOf}
use Rattle.seat_journal.specs.Controls.{set_by}
use Rattle.seat_journal.specs.declared.entry.Control.{Control}
use Rattle.seat_journal.specs.declared.entry.Work.{Work}
use Rattle.seat_nesting.specs.Nesting.{Ladders}
use Rattle.seat_serving.specs.Answering.{IsRight}
use Rattle.seat_serving.specs.declared.asked.Asked.{Asked}
use Rattle.ssim_flights.specs.declared.flight.Flight.{Flight as Flown}

pub seats_right : (served : List Flown) (grid : Ladders) (session : ℕ) (wish : Request) (asked : Asked) → IsGridOf served grid
    → IsRightWanted served session (Seats wish) → session ≤ 8 → asked ≡ asked_by served session wish → IsRight grid asked
seats_right served grid session wish asked on right high is =
    right_request served served grid session wish asked on refl right.1 right.0 high is

abbrev asked_as : ℕ → Work → Asked
asked_as s work = record { session = s; work = work }

pub row_wanted : (served : List Flown) (grid : Ladders) (session : ℕ) (control : Control) (work : Work) → IsGridOf served grid
    → IsRightWanted served session (Row control) → work ≡ set_by control → IsRight grid (record { session = session; work = work })
row_wanted served grid session control work on right is =
    row_right served grid control (record { session = session; work = work }) on right.1
    (ap (λ (s : ℕ). asked_as s work) right.0 ∙ ap (asked_as 0) is)
