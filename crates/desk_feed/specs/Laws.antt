-- The laws of feeds.
use Rattle.std.specs.Prelude.{◌≡◌, ◌≤◌, ℕ, Bool, IsTrue, List, [], ◌∷◌, ◌++◌, length, take, drop}
use Rattle.seat_journal.specs.declared.entry.Entry.{Entry}
use Rattle.seat_journal.specs.declared.entry.Work.{Work}
use Rattle.seat_nesting.specs.Nesting.{Ladders}
use Rattle.desk_feed.specs.Feeding.{Asking, asked_one_by_one, behind_feed, right_lines, AreSent, Cut, IsLived, IsStrange}

-- what a line asks for, and the test whether a line of the journal asks for this very request
pub record Tested : Type 0 where
  pub asking : Asking
  pub is_very : Work → Bool

abbrev pub asking_of : Tested → Asking
asking_of x = x.asking

abbrev pub IsVeryBy : Tested → Work → Type 0
IsVeryBy x work = IsTrue (x.is_very work)

-- the journal of a feed is that of the sequential inventory asked for its right lines one by one
abbrev pub RightLinesAreAsked : Type 0
RightLinesAreAsked = (grid : Ladders) (cap : ℕ) (past : List Entry) (feed : List Asking)
    → behind_feed grid cap (λ a. a) past feed ≡ asked_one_by_one grid past (right_lines grid cap (λ a. a) past feed)

-- however a feed was sent before, wherever it was broken off, and whatever of the journal was left then: sent from a place that the
-- journal has come to, to its end, it leaves the journal of the feed in one piece
abbrev pub AFeedIsItsJournal : Type 0
AFeedIsItsJournal = (grid : Ladders) (cap : ℕ) (past : List Entry) (feed : List Tested) (cuts : List Cut) (journal : List Entry)
    (from : ℕ) (now rest : List Entry) → AreSent grid cap asking_of IsVeryBy past feed cuts past journal
    → IsLived grid cap asking_of IsVeryBy past feed from (drop from feed) journal now rest
    → (now ≡ behind_feed grid cap asking_of past feed) × (rest ≡ [])

-- where the journal has the lines of all that is sent, nothing is booked
abbrev pub LivedAgainBooksNothing : Type 0
LivedAgainBooksNothing = (grid : Ladders) (cap : ℕ) (past : List Entry) (feed : List Tested) (cuts : List Cut) (journal : List Entry)
    (from count : ℕ) (now rest : List Entry) → AreSent grid cap asking_of IsVeryBy past feed cuts past journal
    → IsLived grid cap asking_of IsVeryBy past feed from (take count (drop from feed)) journal now rest
    → length now ≤ length journal → now ++ rest ≡ journal

-- a feed is no stranger to its own journal
abbrev pub OwnFeedIsNoStranger : Type 0
OwnFeedIsNoStranger = (grid : Ladders) (cap : ℕ) (past : List Entry) (feed : List Tested) (cuts : List Cut) (journal : List Entry)
    (from count : ℕ) (now rest : List Entry) (x : Tested) (more : List Tested)
    → AreSent grid cap asking_of IsVeryBy past feed cuts past journal
    → IsLived grid cap asking_of IsVeryBy past feed from (take count (drop from feed)) journal now rest
    → drop count (drop from feed) ≡ x ∷ more → IsVeryBy x x.asking.asked.work
    → IsStrange x.asking (IsVeryBy x) now rest → ⊥
