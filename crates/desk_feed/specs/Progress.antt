-- How far a feed has come in a journal.
use Rattle.std.specs.Prelude.{◌≡◌, ◌≤◌, ◌-◌, ◌+◌, ◌^◌, ℕ, ◌==◌, min, nat_le, if◌then◌else◌, List, [], ◌∷◌, length, set, slice_get, take, Some}
use Rattle.seat_journal.specs.declared.entry.Entry.{Entry}
use Rattle.seat_rules.specs.Journal.{calls_of}
use Rattle.desk_feed.specs.declared.progress.CallKind.{CallKind}
use Rattle.desk_feed.specs.declared.progress.CallKind.TheVariants.{Next, There, Beyond}
use Rattle.desk_feed.specs.declared.progress.Progress.{Progress}

-- how many lines the manager and each of the eight sessions have
abbrev pub all_calls : List Entry → List ℕ
all_calls lines =
    calls_of lines 0 ∷ calls_of lines 1 ∷ calls_of lines 2 ∷ calls_of lines 3 ∷ calls_of lines 4 ∷ calls_of lines 5
    ∷ calls_of lines 6 ∷ calls_of lines 7 ∷ calls_of lines 8 ∷ []

-- it is behind so many of these lines, and has the calls that are in them
pub record IsProgress (journal : List Entry) (progress : Progress) : Type 0 where
  pub within : progress.lines ≤ length journal
  pub calls_are : progress.calls ≡ all_calls (take progress.lines journal)

-- ahead of the first line
abbrev pub start : Progress
start = record { lines = 0; calls = 0 ∷ 0 ∷ 0 ∷ 0 ∷ 0 ∷ 0 ∷ 0 ∷ 0 ∷ 0 ∷ [] }

-- what a number is to a session that has so many calls
abbrev pub kind_of : ℕ → ℕ → CallKind
kind_of calls number = if nat_le number calls then There else if number == calls + 1 then Next else Beyond

-- the session has this many calls, and the number is this to it
pub record IsKind (progress : Progress) (session number : ℕ) (kind : CallKind) : Type 0 where
  pub calls : ℕ
  pub stood : slice_get progress.calls session ≡ Some calls
  pub kind_is : kind ≡ kind_of calls number

abbrev pub one_more : ℕ → ℕ
one_more n = min (n + 1) (2 ^ 32 - 1)

-- it has come to a line more, of this session
pub record HasPassed (old new : Progress) (session : ℕ) : Type 0 where
  pub calls : ℕ
  pub stood : slice_get old.calls session ≡ Some calls
  pub calls_are : new.calls ≡ set old.calls session (one_more calls)
  pub lines_are : new.lines ≡ one_more old.lines
