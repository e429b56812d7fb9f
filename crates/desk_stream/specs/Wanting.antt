-- What the numbered lines of a feed ask for.
use Rattle.std.specs.Prelude.{◌≡◌, ◌≤◌, ℕ, List}
use Rattle.airimp_lines.specs.Grammar.{IsRightSegment}
use Rattle.desk_feed.specs.Feeding.{Asking}
use Rattle.desk_hall.specs.declared.turn.Turn.{Turn}
use Rattle.desk_hall.specs.declared.turn.Turn.TheVariants.{Repeated, RepeatedRow}
use Rattle.desk_stream.specs.declared.planning.Called.{Called}
use Rattle.desk_stream.specs.declared.wanted.Wanted.{Wanted}
use Rattle.desk_stream.specs.declared.wanted.Wanted.TheVariants.{Seats, Row}
use Rattle.seat_journal.specs.Controls.{set_by}
use Rattle.seat_journal.specs.declared.entry.Work.{Work}
use Rattle.seat_journal.specs.declared.entry.Work.TheVariants as works
use Rattle.seat_replies.specs.Changes.{IsOnLeg}
use Rattle.seat_replies.specs.Requests.{command_of}
use Rattle.seat_replies.specs.VeryRequest.{IsVeryRequest}
use Rattle.seat_serving.specs.declared.asked.Asked.{Asked}
use Rattle.ssim_flights.specs.declared.flight.Flight.{Flight as Flown}

-- seats on the first place that serves them, or what the manager sets
abbrev pub work_of : List Flown → Wanted → Work
work_of flights (Seats wish) = works.Seats (command_of flights wish)
work_of flights (Row control) = set_by control

abbrev pub asked_for : List Flown → ℕ → Wanted → Asked
asked_for flights session wanted = record { session = session; work = work_of flights wanted }

-- a line of the journal asks for this very request, or set this very limit, or closed or opened this very class
abbrev pub IsVery : List Flown → Wanted → Work → Type 0
IsVery flights (Seats wish) work = IsVeryRequest flights wish work
IsVery flights (Row control) work = set_by control ≡ work

-- a session asks for seats by a right segment, and the manager sets what is on a leg of the flights
abbrev pub IsRightWanted : List Flown → ℕ → Wanted → Type 0
IsRightWanted flights session (Seats wish) = (1 ≤ session) × IsRightSegment wish.segment
IsRightWanted flights session (Row control) = (session ≡ 0) × IsOnLeg flights control

-- a numbered line of a feed
abbrev pub asking_of : List Flown → Called → Asking
asking_of flights c = record { session = c.session; asked = record { call = c.number; work = work_of flights c.wanted } }

abbrev pub repeat_of : ℕ → ℕ → Wanted → Turn
repeat_of session number (Seats wish) = Repeated session number wish
repeat_of session number (Row control) = RepeatedRow number control
