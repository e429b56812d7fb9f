-- Reading a seal from left to right, leading zeros and capital hex digits too: who reads it spells it again.
use Rattle.std.specs.Prelude.{ℕ, zero, suc, ◌+◌, ◌*◌, ◌&&◌, nat_le, if◌then◌else◌, List, [], ◌∷◌, ◌++◌, length, take, drop, Option, Some, None, codes}
use Rattle.std.specs.Char.{is_ascii_digit}
use Rattle.std.specs.List.{prefix_len}
use Rattle.std.specs.Str.Parse.{digits_value}
use Rattle.airline_base.specs.Fields.{Field, ◌>>=◌, word_at, byte_at, two_are, two_value}
use Rattle.seat_seal.specs.declared.date.Date.{Date}
use Rattle.seat_seal.specs.declared.era.Era.{Era}
use Rattle.seat_seal.specs.declared.imprint.Imprint.{Imprint}
use Rattle.seat_seal.specs.declared.run.Run.{Run}
use Rattle.seat_seal.specs.declared.scripts.Script.{Script}
use Rattle.seat_seal.specs.declared.seal.JournalState.{JournalState}
use Rattle.seat_seal.specs.declared.seal.JournalState.TheVariants.{Open, Closed}
use Rattle.seat_seal.specs.declared.seal.SealedJournal.{SealedJournal}
use Rattle.seat_seal.specs.declared.seal.Sealed.{Sealed as Belonging}
use Rattle.seat_seal.specs.declared.seal.SealEntry.{SealEntry}
use Rattle.seat_seal.specs.declared.seal.SealEntry.TheVariants.{Sealed, Other}
use Rattle.seat_seal.specs.declared.seal.Seal.{Seal}
use Rattle.seat_seal.specs.Digests.{digest_in}
use Rattle.seat_seal.specs.Eras.{first_era}
use Rattle.seat_seal.specs.Text.{blank, dash, most_runs, newline}

-- ---- fields

-- 64 hex digits
unfoldable pub digest_at : List ℕ → Field (List ℕ)
digest_at bytes = digest_in (take 64 bytes) >>= (λ digest. Some (digest, drop 64 bytes))

abbrev pub number_in : ℕ → List ℕ → List ℕ → Field ℕ
number_in most run rest =
    if nat_le (length run) 10 && nat_le (digits_value 10 run) most then Some (digits_value 10 run, rest) else None

-- the run of digits, at most ten, which writes a number of at most `most`
unfoldable pub number_at : ℕ → List ℕ → Field ℕ
number_at most bytes =
    number_in most (take (prefix_len is_ascii_digit bytes) bytes) (drop (prefix_len is_ascii_digit bytes) bytes)

abbrev pub two_at : List ℕ → Field ℕ
two_at (t ∷ u ∷ rest) = if two_are t u then Some (two_value t u, rest) else None
two_at _ = None

-- YYYY-MM-DD
unfoldable pub date_at : List ℕ → Field Date
date_at bytes = do
  century ← two_at bytes
  year ← two_at century.1
  month ← byte_at dash year.1 >>= two_at
  day ← byte_at dash month.1 >>= two_at
  Some (record { year = century.0 * 100 + year.0; month = month.0; day = day.0 }, day.1)

unfoldable pub imprint_at : List ℕ → Field Imprint
imprint_at bytes = do
  digest ← digest_at bytes
  count ← word_at (codes " bytes ") digest.1 >>= number_at 9_999_999_999
  Some (record { digest = digest.0; bytes = count.0 }, count.1)

abbrev pub state_from : Option (List ℕ) → Option (List ℕ) → Field JournalState
state_from (Some rest) closed = Some (Open, rest)
state_from None (Some rest) = Some (Closed, rest)
state_from None None = None

unfoldable pub state_at : List ℕ → Field JournalState
state_at bytes = state_from (word_at (codes " open") bytes) (word_at (codes " closed") bytes)

unfoldable pub journal_at : List ℕ → Field SealedJournal
journal_at bytes = do
  digest ← digest_at bytes
  lines ← word_at (codes " lines ") digest.1 >>= number_at 999_999
  count ← word_at (codes " bytes ") lines.1 >>= number_at 9_999_999_999
  state ← state_at count.1
  Some (record { imprint = record { digest = digest.0; bytes = count.0 }; lines = lines.0; state = state.0 }, state.1)

unfoldable pub script_at : List ℕ → Field Script
script_at bytes = do
  session ← number_at 8 bytes
  imprint ← byte_at blank session.1 >>= imprint_at
  Some (record { session = session.0; imprint = imprint.0 }, imprint.1)

-- ---- lines

-- a word, a field behind it, and LF
unfoldable pub line_at : {A : Type 0} → List ℕ → (List ℕ → Field A) → List ℕ → Field A
line_at word field bytes = do
  x ← word_at word bytes >>= field
  rest ← byte_at newline x.1
  Some (x.0, rest)

abbrev pub script_line_at : List ℕ → Field Script
script_line_at bytes = line_at (codes "script ") script_at bytes

abbrev pub items_from : {A : Type 0} → (List A → List ℕ → List A × List ℕ) → List A → List ℕ → Field A
    → List A × List ℕ
items_from next read bytes None = (read, bytes)
items_from next read bytes (Some x) = next (read ++ x.0 ∷ []) x.1

-- the items behind those that were read, at most n more
unfoldable pub items_in : {A : Type 0} → (List ℕ → Field A) → ℕ → List A → List ℕ → List A × List ℕ
items_in at zero read bytes = (read, bytes)
items_in at (suc n) read bytes = items_from (items_in at n) read bytes (at bytes)

abbrev pub scripts_at : List ℕ → List Script × List ℕ
scripts_at bytes = items_in script_line_at 8 [] bytes

abbrev pub changes_from : List ℕ → Field Imprint → Option Imprint × List ℕ
changes_from bytes None = (None, bytes)
changes_from bytes (Some imprint) = (Some imprint.0, imprint.1)

-- the line of changes, where it stands there
unfoldable pub changes_at : List ℕ → Option Imprint × List ℕ
changes_at bytes = changes_from bytes (line_at (codes "changes ") imprint_at bytes)

-- ---- the lines of an era

abbrev pub today_from : List ℕ → Field Date → Option Date × List ℕ
today_from bytes None = (None, bytes)
today_from bytes (Some date) = (Some date.0, date.1)

-- the line of the host's day, where it stands there
unfoldable pub today_at : List ℕ → Option Date × List ℕ
today_at bytes = today_from bytes (line_at (codes "today ") date_at bytes)

abbrev pub carried_from : List ℕ → Field Imprint → Option Imprint × List ℕ
carried_from bytes None = (None, bytes)
carried_from bytes (Some imprint) = (Some imprint.0, imprint.1)

-- the line of the journal to which the bookings were carried, where it stands there
unfoldable pub carried_at : List ℕ → Option Imprint × List ℕ
carried_at bytes = carried_from bytes (line_at (codes "carried ") imprint_at bytes)

abbrev pub era_from : List ℕ → Field ℕ → Era × List ℕ
era_from bytes None = (first_era, bytes)
era_from bytes (Some epoch) = (
  record { epoch = epoch.0; today = (today_at epoch.1).0; carried = (carried_at (today_at epoch.1).1).0 },
  (carried_at (today_at epoch.1).1).1,
)

-- the line of the epoch, where it stands there, the host's day and the journal to which the bookings were carried: else the first era
unfoldable pub era_at : List ℕ → Era × List ℕ
era_at bytes = era_from bytes (line_at (codes "epoch ") (number_at 999_999) bytes)

-- ---- runs

-- the line of a run, its scripts and its changes
unfoldable pub run_at : List ℕ → Field Run
run_at bytes = do
  behind ← word_at (codes "run behind ") bytes >>= number_at 999_999
  today ← word_at (codes " today ") behind.1 >>= date_at
  rest ← byte_at newline today.1
  Some (
    record {
      behind = behind.0;
      today = today.0;
      scripts = (scripts_at rest).0;
      changes = (changes_at (scripts_at rest).1).0;
    },
    (changes_at (scripts_at rest).1).1,
  )

abbrev pub runs_at : List ℕ → List Run × List ℕ
runs_at bytes = items_in run_at most_runs [] bytes

-- ---- entries

-- the era, the journal and the runs, behind what it belongs to
abbrev pub sealed_behind : List ℕ → List ℕ → Date → ℕ → List ℕ → Field Belonging
sealed_behind set limits first days bytes = do
  journal ← line_at (codes "journal ") journal_at (era_at bytes).1
  rest ← word_at (codes "END\n") (runs_at journal.1).1
  Some (
    record {
      set = set;
      limits = limits;
      first = first;
      days = days;
      era = (era_at bytes).0;
      journal = journal.0;
      runs = (runs_at journal.1).0;
    },
    rest,
  )

unfoldable pub sealed_at : List ℕ → Field Belonging
sealed_at bytes = do
  set ← line_at (codes "set ") digest_at bytes
  limits ← line_at (codes "limits ") digest_at set.1
  first ← line_at (codes "first ") date_at limits.1
  days ← line_at (codes "days ") (number_at 366) first.1
  sealed_behind set.0 limits.0 first.0 days.0 days.1

unfoldable pub other_at : List ℕ → Field Imprint
other_at bytes = do
  imprint ← line_at (codes "other ") imprint_at bytes
  rest ← word_at (codes "END\n") imprint.1
  Some (imprint.0, rest)

abbrev pub entry_from : Field Imprint → Field Belonging → Field SealEntry
entry_from (Some other) sealed = Some (Other other.0, other.1)
entry_from None (Some sealed) = Some (Sealed sealed.0, sealed.1)
entry_from None None = None

unfoldable pub entry_at : List ℕ → Field SealEntry
entry_at bytes = entry_from (other_at bytes) (sealed_at bytes)

abbrev pub one_entry : SealEntry → Seal
one_entry first = record { first = first; second = None }

abbrev pub two_entries : SealEntry → SealEntry → Seal
two_entries first second = record { first = first; second = Some second }

abbrev pub second_from : SealEntry → Option (List ℕ) → Field SealEntry → Option Seal
second_from first (Some rest) second = Some (one_entry first)
second_from first None second = second >>= (λ second. Some (two_entries first second.0))

-- the digest's line, or a second entry
unfoldable pub second_at : SealEntry → List ℕ → Option Seal
second_at first bytes = second_from first (word_at (codes "digest ") bytes) (entry_at bytes)

abbrev pub either_of : Option (List ℕ) → Option (List ℕ) → Option (List ℕ)
either_of None other = other
either_of (Some rest) other = Some rest

-- behind the head of either version
unfoldable pub head_at : List ℕ → Option (List ℕ)
head_at bytes = either_of (word_at (codes "SEATSEAL 4\n") bytes) (word_at (codes "SEATSEAL 5\n") bytes)

-- the digest is not compared here
unfoldable pub seal_at : List ℕ → Option Seal
seal_at bytes = do
  rest ← head_at bytes
  first ← entry_at rest
  second_at first.0 first.1
