-- The laws of feeds of very requests.
use Rattle.std.specs.Prelude.{◌≡◌, ◌≤◌, ℕ, List, [], ◌∷◌, ◌++◌, length, take, drop, map}
use Rattle.desk_feed.specs.Feeding.{Asking, behind_feed, right_lines, AreSent, Cut, IsLived, IsStrange}
use Rattle.desk_stream.specs.Wanting.{asking_of, IsVery}
use Rattle.desk_stream.specs.declared.planning.Called.{Called}
use Rattle.seat_journal.specs.declared.entry.Entry.{Entry}
use Rattle.seat_journal.specs.declared.entry.Work.{Work}
use Rattle.seat_nesting.specs.Nesting.{Ladders}
use Rattle.seat_serving.specs.Answering.{behind}
use Rattle.seat_serving.specs.declared.asked.Asked.{Asked}
use Rattle.ssim_flights.specs.declared.flight.Flight.{Flight as Flown}

abbrev pub IsVeryCall : List Flown → Called → Work → Type 0
IsVeryCall flights c work = IsVery flights c.wanted work

-- the journal is that of the feed in one piece
abbrev pub AFeedIsItsJournal : Type 0
AFeedIsItsJournal = (flights : List Flown) (grid : Ladders) (cap : ℕ) (past : List Entry) (feed : List Called) (cuts : List Cut)
    (journal : List Entry) (from : ℕ) (now rest : List Entry)
    → AreSent grid cap (asking_of flights) (IsVeryCall flights) past feed cuts past journal
    → IsLived grid cap (asking_of flights) (IsVeryCall flights) past feed from (drop from feed) journal now rest
    → (now ≡ behind_feed grid cap (asking_of flights) past feed) × (rest ≡ [])

-- whose a line is, and what it asks for
abbrev pub asked_of : Asking → Asked
asked_of a = record { session = a.session; work = a.asked.work }

-- which is the journal behind the right lines of it, asked for in their order
abbrev pub RightLinesAreBooked : Type 0
RightLinesAreBooked = (flights : List Flown) (grid : Ladders) (cap : ℕ) (past : List Entry) (feed : List Called)
    → behind_feed grid cap (asking_of flights) past feed
    ≡ behind grid past (map asked_of (right_lines grid cap (asking_of flights) past feed))

-- what is there is not booked again
abbrev pub LivedAgainBooksNothing : Type 0
LivedAgainBooksNothing = (flights : List Flown) (grid : Ladders) (cap : ℕ) (past : List Entry) (feed : List Called) (cuts : List Cut)
    (journal : List Entry) (from count : ℕ) (now rest : List Entry)
    → AreSent grid cap (asking_of flights) (IsVeryCall flights) past feed cuts past journal
    → IsLived grid cap (asking_of flights) (IsVeryCall flights) past feed from (take count (drop from feed)) journal now rest
    → length now ≤ length journal → now ++ rest ≡ journal

-- no line of a feed is refused as a stranger's over its own journal
abbrev pub OwnFeedIsNoStranger : Type 0
OwnFeedIsNoStranger = (flights : List Flown) (grid : Ladders) (cap : ℕ) (past : List Entry) (feed : List Called) (cuts : List Cut)
    (journal : List Entry) (from count : ℕ) (now rest : List Entry) (c : Called) (more : List Called)
    → AreSent grid cap (asking_of flights) (IsVeryCall flights) past feed cuts past journal
    → IsLived grid cap (asking_of flights) (IsVeryCall flights) past feed from (take count (drop from feed)) journal now rest
    → drop count (drop from feed) ≡ c ∷ more → IsStrange (asking_of flights c) (IsVeryCall flights c) now rest → ⊥
