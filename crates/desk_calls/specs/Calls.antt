-- The calls of a session in a journal, and where they stand.
use Rattle.std.specs.Prelude.{◌≡◌, ◌≤◌, ℕ, zero, suc, ◌+◌, ◌==◌, Bool, true, false, List, [], ◌∷◌, ◌++◌, length, take, Option, Some, None, slice_get}
use Rattle.seat_journal.specs.declared.entry.Entry.{Entry}
use Rattle.seat_rules.specs.Histories.{of_session}
use Rattle.seat_rules.specs.Journal.{calls_of}
use Rattle.desk_calls.specs.declared.call_index.CallIndex.{CallIndex}

-- the line that a session's call of this number has, counted from 1
abbrev pub call_line : ℕ → ℕ → List Entry → Option Entry
call_line session zero journal = None
call_line session (suc k) journal = slice_get (of_session session journal) k

-- each line has the number of its session's next call, as in any legal journal
pub record CallsRun (journal : List Entry) : Type 0 where
  pub each : (past : List Entry) (e : Entry) (rest : List Entry) → journal ≡ past ++ e ∷ rest
      → e.call ≡ calls_of past e.session + 1

-- it is a line of this journal
pub record IsLineIn (journal : List Entry) (line : Entry) : Type 0 where
  pub past : List Entry
  pub rest : List Entry
  pub is : journal ≡ past ++ line ∷ rest

-- ---- places

-- a line's place, if it is of the session
abbrev pub place_if : Bool → ℕ → List ℕ
place_if true n = n ∷ []
place_if false n = []

abbrev pub place_of : ℕ → ℕ → Entry → List ℕ
place_of session n e = place_if (e.session == session) n

-- the places of a session's lines among these, the first of which stands at n
abbrev pub places_from : ℕ → ℕ → List Entry → List ℕ
places_from session n [] = []
places_from session n (e ∷ lines) = place_of session n e ++ places_from session (suc n) lines

-- the places are those among the lines that were looked through
pub record IsIndex (session : ℕ) (journal : List Entry) (index : CallIndex) : Type 0 where
  pub within : index.seen ≤ length journal
  pub places_are : index.places.items ≡ places_from session 0 (take index.seen journal)

-- those of all lines
pub record IsWhole (session : ℕ) (journal : List Entry) (index : CallIndex) : Type 0 where
  pub places_are : index.places.items ≡ places_from session 0 journal

-- the place that it has for a call, and what stands there
abbrev pub place_by : CallIndex → ℕ → Option ℕ
place_by index zero = None
place_by index (suc k) = slice_get index.places.items k

abbrev pub line_at : List Entry → Option ℕ → Option Entry
line_at journal None = None
line_at journal (Some place) = slice_get journal place

abbrev pub line_by : CallIndex → ℕ → List Entry → Option Entry
line_by index call journal = line_at journal (place_by index call)

-- one line more was looked at
pub record HasStepped (session : ℕ) (line : Entry) (old new : CallIndex) : Type 0 where
  pub seen_is : new.seen ≡ old.seen + 1
  pub places_are : new.places.items ≡ old.places.items ++ place_of session old.seen line

pub record IsSameIndex (old new : CallIndex) : Type 0 where
  pub seen_is : new.seen ≡ old.seen
  pub places_are : new.places.items ≡ old.places.items
