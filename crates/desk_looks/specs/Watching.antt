-- What becomes of a line where it is read.
use Rattle.std.specs.Prelude.{◌≡◌, ◌≤◌, ◌<◌, ◌==◌, ℕ, Bool, true, false, List, [], ◌∷◌, length, ◌⊎◌}
use Rattle.airimp_lines.specs.declared.look.Look.{Look as Looked}
use Rattle.desk_answers.specs.Looks.{IsLooked}
use Rattle.desk_answers.specs.Saying.{HasHeard}
use Rattle.desk_lines.specs.declared.desk.Desk.{Desk}
use Rattle.desk_lines.specs.declared.desk.Meaning.{Meaning}
use Rattle.desk_lines.specs.declared.desk.Meaning.TheVariants.{Look, Again, Hello, Wrong}
use Rattle.desk_pipes.specs.declared.watch.Watched.{Watched}
use Rattle.desk_pipes.specs.declared.watch.Watched.TheVariants.{Told, Heard, Awaited}
use Rattle.ssim_flights.specs.declared.flight.Flight.{Flight}
use Rattle.desk_looks.specs.Asking.{IsUnseen}
use Rattle.desk_looks.specs.Windows.{Flown, Windowed}
use Rattle.desk_looks.specs.declared.question.Unseen.{Unseen}

-- who answers the looks of a desk
pub record Looking : Type 0 where
  pub flown : Flown
  pub window : Windowed
  pub desk : Desk

-- what the looks of a desk are answered by
pub record Outfit : Type 0 where
  pub flown : Flown
  pub window : Windowed

-- the index is of these flights, and the table is over their legs
pub record IsLookout (flown : Flown) (served : List Flight) (window : Windowed) : Type 0 where
  pub served_is : served ≡ flown.flights
  pub grid_is : window.grid ≡ flown.grid

-- a word to the host begins with ?
abbrev pub begins_word : List ℕ → Bool
begins_word [] = false
begins_word (c ∷ line) = c == 63

-- why a look waits for the host: nothing was seen, lines came in between, or less was seen than what is told
pub record IsUnanswered (old new : Windowed) (lines : ℕ) : Type 0 where
  pub none_seen : length new.front < lines ⊎ ((why : Unseen) × IsUnseen old new why)

-- a look is answered by what is then seen, which is no less than what is told; or it waits, for one of those reasons
abbrev pub IsWatchedLook : Flown → Windowed → Windowed → ℕ → Looked → Watched → Type 0
IsWatchedLook flown old new lines look (Told text) =
    IsLooked flown.flights flown.grid new.front look text.items × (lines ≤ length new.front)
IsWatchedLook flown old new lines look Heard = IsUnanswered old new lines
IsWatchedLook flown old new lines look Awaited = ⊥

-- a hello waits for the host, and all behind it for its answer; so does who asks to be told again, which goes piece by piece, and a wrong word, which may
-- be one of the manager's, as a day is; any other line waits for the host
abbrev pub IsWatchedBy : Meaning → Looking → Looking → ℕ → Watched → Type 0
IsWatchedBy (Look look) old new lines watched = IsWatchedLook new.flown old.window new.window lines look watched
IsWatchedBy (Hello name named) old new lines watched = (watched ≡ Awaited) × (new.window ≡ old.window)
IsWatchedBy (Again behind) old new lines watched = (watched ≡ Awaited) × (new.window ≡ old.window)
IsWatchedBy (Wrong wrong) old new lines watched = (watched ≡ Awaited) × (new.window ≡ old.window)
IsWatchedBy meaning old new lines watched = (watched ≡ Heard) × (new.window ≡ old.window)

-- by what it means on this day
pub record IsLookedOut (old new : Looking) (today lines : ℕ) (line : List ℕ) (watched : Watched) : Type 0 where
  pub meaning : Meaning
  pub has_heard : HasHeard (record old.desk { today = today }) new.desk line meaning
  pub watched_so : IsWatchedBy meaning old new lines watched

-- a word to the host, or any other line
abbrev pub IsWatched : Bool → Looking → Looking → ℕ → ℕ → List ℕ → Watched → Type 0
IsWatched true old new today lines line watched = IsLookedOut old new today lines line watched
IsWatched false old new today lines line watched = (watched ≡ Heard) × (new ≡ old)

-- what is told piece by piece is waited for
abbrev pub is_again : Meaning → Bool
is_again (Again behind) = true
is_again meaning = false

-- a word to the host is heard, and nothing is looked at for it
pub record IsPassedWord (old new : Looking) (today : ℕ) (line : List ℕ) (awaited : Bool) : Type 0 where
  pub meaning : Meaning
  pub has_heard : HasHeard (record old.desk { today = today }) new.desk line meaning
  pub awaited_is : awaited ≡ is_again meaning
  pub window_is : new.window ≡ old.window

-- where no look is answered a word to the host is heard
pub record IsWordHeard (old new : Desk) (today : ℕ) (line : List ℕ) (awaited : Bool) : Type 0 where
  pub meaning : Meaning
  pub has_heard : HasHeard (record old { today = today }) new line meaning
  pub awaited_is : awaited ≡ is_again meaning

-- and it is waited for where it asks to be told again
abbrev pub IsWaitedFor : Bool → Desk → Desk → ℕ → List ℕ → Bool → Type 0
IsWaitedFor true old new today line awaited = IsWordHeard old new today line awaited
IsWaitedFor false old new today line awaited = (awaited ≡ false) × (new ≡ old)

-- so it is of each line that is read there
abbrev pub IsWatchedWord : Desk → Desk → ℕ → List ℕ → Watched → Type 0
IsWatchedWord old new today line (Told text) = ⊥
IsWatchedWord old new today line Heard = IsWaitedFor (begins_word line) old new today line false
IsWatchedWord old new today line Awaited = IsWaitedFor (begins_word line) old new today line true

-- a line that waits for the host whatever it is
abbrev pub IsHeardOnly : Bool → Looking → Looking → ℕ → List ℕ → Bool → Type 0
IsHeardOnly true old new today line awaited = IsPassedWord old new today line awaited
IsHeardOnly false old new today line awaited = (awaited ≡ false) × (new ≡ old)
