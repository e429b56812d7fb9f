-- What holds of all that a host says.
use Rattle.std.specs.Prelude.{◌≡◌, ℕ, Bool, List}
use Rattle.airimp_lines.specs.declared.requests.Request.{Request as Wish}
use Rattle.desk_calls.specs.Sending.{behind_call, Numbered}
use Rattle.desk_lines.specs.declared.desk.Meaning.TheVariants.{Call}
use Rattle.ssim_flights.specs.declared.flight.Flight.{Flight as Flown}
use Rattle.seat_journal.specs.declared.entry.Entry.{Entry}
use Rattle.seat_journal.specs.declared.entry.Work.TheVariants.{Seats}
use Rattle.seat_nesting.specs.Nesting.{Ladders}
use Rattle.seat_replies.specs.Requests.{command_of}
use Rattle.desk_answers.specs.Saying.{Says}

-- a request, on the first place that serves it, and the number of its call
abbrev pub numbered : List Flown → ℕ → Wish → Numbered
numbered flights call wish = record { call = call; work = Seats (command_of flights wish) }

-- whatever is said of a numbered request, the journal is behind it as a list of them leaves it
abbrev pub CallsAreBehind : Type 0
CallsAreBehind = (flights : List Flown) (grid : Ladders) (cap session today epoch number call : ℕ) (past journal : List Entry)
    (wish : Wish) (stays : Bool) (text : List ℕ)
    → Says flights grid cap session today epoch number past journal (Call call wish) stays text
    → journal ≡ behind_call grid cap session past (numbered flights call wish)
