-- A feed: one stream of the numbered requests of all sessions, and the journal that it leaves.
use Rattle.std.specs.Prelude.{◌≡◌, ◌≤◌, ℕ, ◌+◌, ◌==◌, Bool, true, false, List, [], ◌∷◌, ◌++◌, length, take, drop}
use Rattle.seat_journal.specs.declared.entry.Entry.{Entry}
use Rattle.seat_journal.specs.declared.entry.Work.{Work}
use Rattle.seat_nesting.specs.Nesting.{Ladders}
use Rattle.seat_rules.specs.Journal.{calls_of, next_line}
use Rattle.desk_calls.specs.Sending.{Numbered, behind_call, is_next}

-- what a line of a feed asks for, with the number of its call, and whose it is
pub record Asking : Type 0 where
  pub session : ℕ
  pub asked : Numbered

-- ---- in one piece

-- the journal behind a line: a line more where it is its session's next call and there is room, and else nothing changes
abbrev pub behind_asking : Ladders → ℕ → List Entry → Asking → List Entry
behind_asking grid cap past a = behind_call grid cap a.session past a.asked

-- and behind all lines of a feed, of which each asks for this
abbrev pub behind_feed : {A : Type 0} → Ladders → ℕ → (A → Asking) → List Entry → List A → List Entry
behind_feed grid cap asks past [] = past
behind_feed grid cap asks past (x ∷ feed) = behind_feed grid cap asks (behind_asking grid cap past (asks x)) feed

-- ---- the right lines

abbrev pub right_if : Bool → Asking → List Asking
right_if true a = a ∷ []
right_if false a = []

-- a line is right where it is its session's next call and there is room
abbrev pub right_lines : {A : Type 0} → Ladders → ℕ → (A → Asking) → List Entry → List A → List Asking
right_lines grid cap asks past [] = []
right_lines grid cap asks past (x ∷ feed) =
    right_if (is_next cap (asks x).session past (asks x).asked.call) (asks x)
    ++ right_lines grid cap asks (behind_asking grid cap past (asks x)) feed

-- the sequential inventory, asked for each of these as its session's next call
abbrev pub asked_one_by_one : Ladders → List Entry → List Asking → List Entry
asked_one_by_one grid past [] = past
asked_one_by_one grid past (a ∷ asked) =
    asked_one_by_one grid (past ++ next_line grid past a.session (calls_of past a.session + 1) a.asked.work ∷ []) asked

-- ---- lived again: the feed has come to some lines of the journal, and the others are ahead of it

-- it is its session's next call, as the journal was then
abbrev pub is_call : List Entry → Asking → Bool
is_call past a = a.asked.call == calls_of past a.session + 1

-- the line of the journal is that session's, and asks for this very request
pub record IsItsLine (a : Asking) (IsVery : Work → Type 0) (e : Entry) : Type 0 where
  pub own : e.session ≡ a.session
  pub very : IsVery e.work

-- a next call has come to the next line, which is its own; behind the last line it is booked where there is room
abbrev pub LivesNext : Ladders → ℕ → Asking → (Work → Type 0) → List Entry → List Entry → List Entry → List Entry → Type 0
LivesNext grid cap a IsVery past [] now rest = (now ≡ behind_asking grid cap past a) × (rest ≡ [])
LivesNext grid cap a IsVery past (e ∷ ahead) now rest = IsItsLine a IsVery e × (now ≡ past ++ e ∷ []) × (rest ≡ ahead)

abbrev pub LivesBy : Bool → Ladders → ℕ → Asking → (Work → Type 0) → List Entry → List Entry → List Entry → List Entry → Type 0
LivesBy true grid cap a IsVery past ahead now rest = LivesNext grid cap a IsVery past ahead now rest
LivesBy false grid cap a IsVery past ahead now rest = (now ≡ past) × (rest ≡ ahead)

-- what a line of the feed comes to; by any that is no next call nothing changes
abbrev pub Lives : Ladders → ℕ → Asking → (Work → Type 0) → List Entry → List Entry → List Entry → List Entry → Type 0
Lives grid cap a IsVery past ahead now rest = LivesBy (is_call past a) grid cap a IsVery past ahead now rest

-- it is a next call, and the next line of the journal is another's: the feed is a stranger's
abbrev pub IsStrangeBy : Bool → Asking → (Work → Type 0) → List Entry → Type 0
IsStrangeBy true a IsVery (e ∷ ahead) = IsItsLine a IsVery e → ⊥
IsStrangeBy true a IsVery [] = ⊥
IsStrangeBy false a IsVery ahead = ⊥

abbrev pub IsStrange : Asking → (Work → Type 0) → List Entry → List Entry → Type 0
IsStrange a IsVery past ahead = IsStrangeBy (is_call past a) a IsVery ahead

-- all of these, one behind the other
abbrev pub LivesThrough : {A : Type 0} → Ladders → ℕ → (A → Asking) → (A → Work → Type 0) → List Entry → List Entry → List A
    → List Entry → List Entry → Type 0
LivesThrough grid cap asks IsVery past ahead [] now rest = (now ≡ past) × (rest ≡ ahead)
LivesThrough grid cap asks IsVery past ahead (x ∷ feed) now rest =
    (mid : List Entry) × (left : List Entry) × Lives grid cap (asks x) (IsVery x) past ahead mid left
    × LivesThrough grid cap asks IsVery mid left feed now rest

-- ---- sent again

-- how many lines the journal had where the feed came to this line of its own first
abbrev pub place_at : {A : Type 0} → Ladders → ℕ → (A → Asking) → List Entry → List A → ℕ → ℕ
place_at grid cap asks past feed from = length (behind_feed grid cap asks past (take from feed))

-- behind so many lines of the feed these are sent over a journal that has come there, and lived again
pub record IsLived {A : Type 0} (grid : Ladders) (cap : ℕ) (asks : A → Asking) (IsVery : A → Work → Type 0) (past : List Entry)
    (feed : List A) (from : ℕ) (sent : List A) (journal now rest : List Entry) : Type 0 where
  pub come : place_at grid cap asks past feed from ≤ length journal
  pub lives : LivesThrough grid cap asks IsVery (take (place_at grid cap asks past feed from) journal)
      (drop (place_at grid cap asks past feed from) journal) sent now rest

-- from where it is sent, how many lines of it, and how many lines of the journal are left where it is broken off
pub record Cut : Type 0 where
  pub from : ℕ
  pub count : ℕ
  pub left : ℕ

pub record IsSent {A : Type 0} (grid : Ladders) (cap : ℕ) (asks : A → Asking) (IsVery : A → Work → Type 0) (past : List Entry)
    (feed : List A) (cut : Cut) (journal next : List Entry) : Type 0 where
  pub now : List Entry
  pub rest : List Entry
  pub lived : IsLived grid cap asks IsVery past feed cut.from (take cut.count (drop cut.from feed)) journal now rest
  pub left : next ≡ take cut.left (now ++ rest)

-- the journal behind these, the feed having been begun over the lines past
abbrev pub AreSent : {A : Type 0} → Ladders → ℕ → (A → Asking) → (A → Work → Type 0) → List Entry → List A → List Cut → List Entry
    → List Entry → Type 0
AreSent grid cap asks IsVery past feed [] journal next = next ≡ journal
AreSent grid cap asks IsVery past feed (cut ∷ cuts) journal next =
    (mid : List Entry) × IsSent grid cap asks IsVery past feed cut journal mid
    × AreSent grid cap asks IsVery past feed cuts mid next
