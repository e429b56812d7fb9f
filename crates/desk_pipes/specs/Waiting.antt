-- Lines that wait for the host, and texts that wait for a desk.
use Rattle.std.specs.Prelude.{◌≡◌, ◌<◌, ◌+◌, ◌-◌, ℕ, ◌==◌, ◌&&◌, Bool, true, false, not, nat_le, nat_lt, List, [], ◌∷◌, ◌++◌, codes, get_or, length, set, slice_get, Option, Some, None}
use Rattle.desk_pipes.specs.Watching.{one_more}
use Rattle.desk_pipes.specs.declared.inbox.Said.{Said}
use Rattle.desk_pipes.specs.declared.text.Text.{Text}

-- the most lines of a desk that are not answered
abbrev pub most_open : ℕ
most_open = 64

-- 1 MiB: where as many bytes wait for a desk no more are added
abbrev pub most_bytes : ℕ
most_bytes = 1_048_576

-- whether a desk may say a line: nothing is over, and fewer of its lines are not answered than may be
abbrev pub may_say : Bool → Option ℕ → Bool
may_say true unanswered = false
may_say false None = false
may_say false (Some unanswered) = nat_lt unanswered most_open

-- whether so many lines that are not answered are none
abbrev pub are_answered : Option ℕ → Bool
are_answered None = true
are_answered (Some unanswered) = unanswered == 0

-- whether a desk is told nothing piece by piece
abbrev pub is_free : Option Bool → Bool
is_free None = true
is_free (Some held) = not held

-- whether each line that a desk has said is answered: while it is told piece by piece its last is not
abbrev pub is_settled : Option ℕ → Option Bool → Bool
is_settled unanswered held = are_answered unanswered && is_free held

-- one line more of a session is not answered
abbrev pub one_open : List ℕ → ℕ → List ℕ
one_open unanswered session = set unanswered session (one_more (get_or unanswered session 0))

-- one fewer is not
abbrev pub one_answered : List ℕ → ℕ → List ℕ
one_answered unanswered session = set unanswered session (get_or unanswered session 0 - 1)

-- how many of each session are not, behind the answers to these
abbrev pub behind_answers : List ℕ → List Said → List ℕ
behind_answers unanswered [] = unanswered
behind_answers unanswered (one ∷ said) = behind_answers (one_answered unanswered one.session) said

-- what waits for a desk behind a text, and whether a text was left out: where too much waits that is said once, and then nothing more
abbrev pub text_told : Bool → Bool → List ℕ → List ℕ → List ℕ
text_told true full old more = old
text_told false true old more = old ++ codes "FAULT - LOST\n"
text_told false false old more = old ++ more

-- who writes what waits, whether what was taken is written, who waits for room, and whether more is told are as they were
pub record IsSameOutlet (old new : Text) : Type 0 where
  pub writing_is : new.is_writing ≡ old.is_writing
  pub writer_is : new.has_writer ≡ old.has_writer
  pub awaited_is : new.is_awaited ≡ old.is_awaited
  pub over_is : new.is_over ≡ old.is_over

-- whether it is too much
abbrev pub is_full : List ℕ → Bool
is_full bytes = nat_le most_bytes (length bytes)

-- 64 KiB: where fewer bytes wait for a desk a piece more of what it is told piece by piece may
abbrev pub most_ahead : ℕ
most_ahead = 65_536

-- whether it may
abbrev pub has_room : List ℕ → Bool
has_room bytes = nat_lt (length bytes) most_ahead

-- a text for a session's desk
pub record Posted : Type 0 where
  pub session : ℕ
  pub text : List ℕ

-- letters that go to their desks one behind the other: the first of them are delivered, so many
pub record Sent (X : Type 0) : Type 0 where
  pub letters : List X
  pub delivered : ℕ

-- the next of them is
abbrev pub IsFurther : {X : Type 0} → Sent X → Sent X → Type 0
IsFurther old new = (new.letters ≡ old.letters) × (new.delivered ≡ old.delivered + 1)

abbrev pub session_of : {X : Type 0} → (X → Posted) → Option X → ℕ
session_of posted None = 0
session_of posted (Some letter) = (posted letter).session

abbrev pub text_of : {X : Type 0} → (X → Posted) → Option X → List ℕ
text_of posted None = []
text_of posted (Some letter) = (posted letter).text

-- to whom the next of them goes, and what it says
abbrev pub next_session : {X : Type 0} → (X → Posted) → Sent X → ℕ
next_session posted sent = session_of posted (slice_get sent.letters sent.delivered)

abbrev pub next_text : {X : Type 0} → (X → Posted) → Sent X → List ℕ
next_text posted sent = text_of posted (slice_get sent.letters sent.delivered)

-- whether a piece more may wait for a session's desk
pub record Roomed : Type 0 where
  pub session : ℕ
  pub is_there : Bool

-- the outbox of each session's desk stands at its number
pub record AreNumbered (sessions : List ℕ) : Type 0 where
  pub at : (n : ℕ) → n < length sessions → get_or sessions n 0 ≡ n

-- whether there are no bytes
abbrev pub are_none : List ℕ → Bool
are_none bytes = length bytes == 0

-- whether something is to be written for a desk: where nobody writes nothing is
abbrev pub is_owed : Bool → Bool → List ℕ → Bool
is_owed false writing bytes = false
is_owed true true bytes = true
is_owed true false bytes = not (length bytes == 0)
