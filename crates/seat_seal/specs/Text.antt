-- The text of a seal, version 5, and 4 where no entry has more than the first era.
use Rattle.std.specs.Prelude.{ℕ, ◌/◌, ◌%◌, Bool, true, false, ◌&&◌, List, [], ◌∷◌, ◌++◌, Option, None, Some, codes, decimal}
use Rattle.std.specs.List.{flat_map}
use Rattle.hex.specs.Hex.{encode_lower}
use Rattle.sha2.specs.Sha256.{sha256}
use Rattle.airline_base.specs.Days.{two_digits}
use Rattle.seat_seal.specs.declared.date.Date.{Date}
use Rattle.seat_seal.specs.declared.era.Era.{Era}
use Rattle.seat_seal.specs.declared.imprint.Imprint.{Imprint}
use Rattle.seat_seal.specs.declared.run.Run.{Run}
use Rattle.seat_seal.specs.declared.scripts.Script.{Script}
use Rattle.seat_seal.specs.declared.seal.JournalState.{JournalState}
use Rattle.seat_seal.specs.declared.seal.JournalState.TheVariants.{Open, Closed}
use Rattle.seat_seal.specs.declared.seal.SealedJournal.{SealedJournal}
use Rattle.seat_seal.specs.declared.seal.Sealed.{Sealed as Belonging}
use Rattle.seat_seal.specs.declared.seal.SealEntry.{SealEntry}
use Rattle.seat_seal.specs.declared.seal.SealEntry.TheVariants.{Sealed, Other}
use Rattle.seat_seal.specs.declared.seal.Seal.{Seal}
use Rattle.seat_seal.specs.Eras.{is_first}

abbrev pub blank : ℕ
blank = 32

abbrev pub dash : ℕ
dash = 45

abbrev pub newline : ℕ
newline = 10

-- the most runs of an entry
abbrev pub most_runs : ℕ
most_runs = 128

-- a word, what stands behind it, and LF
abbrev pub line : List ℕ → List ℕ → List ℕ
line word value = word ++ value ++ newline ∷ []

-- YYYY-MM-DD
unfoldable pub date_text : Date → List ℕ
date_text d =
    two_digits (d.year / 100) ++ two_digits (d.year % 100) ++ dash ∷ two_digits d.month ++ dash ∷ two_digits d.day

abbrev pub today_text : Option Date → List ℕ
today_text None = []
today_text (Some date) = line (codes "today ") (date_text date)

-- a digest, and a count of bytes
unfoldable pub imprint_text : Imprint → List ℕ
imprint_text i = encode_lower i.digest ++ codes " bytes " ++ decimal i.bytes

-- the journal to which the bookings were carried
abbrev pub carried_text : Option Imprint → List ℕ
carried_text None = []
carried_text (Some imprint) = line (codes "carried ") (imprint_text imprint)

-- the epoch, the day of the host where one had the journal, and the journal to which the bookings were carried, where they were
unfoldable pub era_lines : Era → List ℕ
era_lines e = line (codes "epoch ") (decimal e.epoch) ++ today_text e.today ++ carried_text e.carried

abbrev pub era_lines_but : Bool → Era → List ℕ
era_lines_but true e = []
era_lines_but false e = era_lines e

-- the lines of an era: none of the first
unfoldable pub era_text : Era → List ℕ
era_text e = era_lines_but (is_first e) e

abbrev pub state_text : JournalState → List ℕ
state_text Open = codes " open"
state_text Closed = codes " closed"

-- a digest, the count of lines, the count of bytes, and the state
unfoldable pub journal_text : SealedJournal → List ℕ
journal_text j =
    encode_lower j.imprint.digest ++ codes " lines " ++ decimal j.lines ++ codes " bytes " ++ decimal j.imprint.bytes
    ++ state_text j.state

-- a session, and its script's digest and count of bytes
unfoldable pub script_text : Script → List ℕ
script_text s = decimal s.session ++ blank ∷ imprint_text s.imprint

abbrev pub script_line : Script → List ℕ
script_line s = line (codes "script ") (script_text s)

abbrev pub changes_text : Option Imprint → List ℕ
changes_text None = []
changes_text (Some imprint) = line (codes "changes ") (imprint_text imprint)

-- behind how many lines a run began, and its day
unfoldable pub run_line : ℕ → Date → List ℕ
run_line behind today = codes "run behind " ++ decimal behind ++ line (codes " today ") (date_text today)

-- the lines of a run
unfoldable pub run_text : Run → List ℕ
run_text r = run_line r.behind r.today ++ flat_map script_line r.scripts ++ changes_text r.changes

-- the lines of an entry
unfoldable pub sealed_text : Belonging → List ℕ
sealed_text s =
    line (codes "set ") (encode_lower s.set)
    ++ line (codes "limits ") (encode_lower s.limits)
    ++ line (codes "first ") (date_text s.first)
    ++ line (codes "days ") (decimal s.days)
    ++ era_text s.era
    ++ line (codes "journal ") (journal_text s.journal)
    ++ flat_map run_text s.runs
    ++ codes "END\n"

unfoldable pub other_text : Imprint → List ℕ
other_text i = line (codes "other ") (imprint_text i) ++ codes "END\n"

abbrev pub entry_text : SealEntry → List ℕ
entry_text (Sealed s) = sealed_text s
entry_text (Other i) = other_text i

abbrev pub second_text : Option SealEntry → List ℕ
second_text None = []
second_text (Some entry) = entry_text entry

-- an entry without lines of an era
abbrev pub is_plain : SealEntry → Bool
is_plain (Sealed s) = is_first s.era
is_plain (Other i) = true

abbrev pub is_second_plain : Option SealEntry → Bool
is_second_plain None = true
is_second_plain (Some entry) = is_plain entry

-- version 4 had no lines of an era
abbrev pub head_text : Bool → List ℕ
head_text true = codes "SEATSEAL 4\n"
head_text false = codes "SEATSEAL 5\n"

-- the head, and a block for each entry
unfoldable pub entries_text : Seal → List ℕ
entries_text s = head_text (is_second_plain s.second && is_plain s.first) ++ entry_text s.first ++ second_text s.second

-- the digest of the lines above it
unfoldable pub digest_line : List ℕ → List ℕ
digest_line lines = line (codes "digest ") (encode_lower (sha256 lines))

-- these lines, and behind them their digest
unfoldable pub seal_text : Seal → List ℕ
seal_text s = entries_text s ++ digest_line (entries_text s)
