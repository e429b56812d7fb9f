-- The answer to a question of availability.
use Rattle.std.specs.Prelude.{◌≡◌, ◌⊎◌, ◌≤◌, ℕ, List, length, take, Option, Some, None}
use Rattle.ssim_flights.specs.declared.flight.Flight.{Flight as Flown}
use Rattle.seat_journal.specs.Text.{IsJournalText}
use Rattle.seat_journal.specs.declared.entry.Entry.{Entry}
use Rattle.seat_nesting.specs.Nesting.{Ladders}
use Rattle.seat_rules.specs.Journal.{IsLegal, replay}
use Rattle.seat_desk.specs.AuditDesk.{IsUnlawful, most_lines}
use Rattle.seat_desk.specs.FlightsDesk.{IsText}
use Rattle.seat_desk.specs.declared.fault.DeskFault.{DeskFault}
use Rattle.seat_pickup.specs.Older.{IsNoPast, IsPast, past_lines}
use Rattle.seat_pickup.specs.declared.past.Past.{Past}
use Rattle.seat_availability.specs.Changes.{changed}
use Rattle.seat_availability.specs.Lines.{IsMessageLine}
use Rattle.seat_availability.specs.Messages.{messages}
use Rattle.seat_availability.specs.declared.availability.AvailabilityOf.{AvailabilityOf}
use Rattle.seat_availability.specs.declared.segments.Asked.{Asked}
use Rattle.seat_availability.specs.declared.segments.Message.{Message}

-- all messages after a journal, or those that changed behind its first n lines
abbrev pub told : Option ℕ → Asked → List Flown → Ladders → List Entry → List Message
told None asked flights grid journal = messages asked flights grid (replay grid journal)
told (Some n) asked flights grid journal =
    changed (messages asked flights grid (replay grid (take n journal))) (messages asked flights grid (replay grid journal))

-- the journal begins with what stands ahead, and this is how many lines that is; where all is told, nothing stands ahead
abbrev pub IsBehind : Option Past → List Entry → Option ℕ → Type 0
IsBehind None journal (Some n) = ⊥
IsBehind None journal None = Unit {0}
IsBehind (Some past) journal None = ⊥
IsBehind (Some past) journal (Some n) = (n ≡ past_lines past) × (n ≤ length journal) × IsPast past journal

-- it doesn't begin with what stands ahead, and the fault says why
abbrev pub IsNotBehind : Option Past → List Entry → DeskFault → Type 0
IsNotBehind None journal fault = ⊥
IsNotBehind (Some past) journal fault = IsNoPast past journal fault

-- the bytes are the text of a legal history over these limits that begins with what stands ahead, and the text has the messages that are asked for
pub record IsAvailabilityAfter (asked : AvailabilityOf) (flights : List Flown) (grid : Ladders) (journal text : List ℕ) : Type 0 where
  pub entries : List Entry
  pub behind : Option ℕ
  pub is_text : IsJournalText journal entries
  pub legal : IsLegal grid entries
  pub few : length entries ≤ most_lines
  pub is_behind : IsBehind asked.past entries behind
  pub are_lines : IsText (λ n. IsMessageLine) 0 (told behind asked.asked flights grid entries) text

-- the bytes are the text of a legal history over these limits that does not begin with what stands ahead, and the fault says why
pub record IsParted (past : Option Past) (grid : Ladders) (fault : DeskFault) (journal : List ℕ) : Type 0 where
  pub entries : List Entry
  pub is_text : IsJournalText journal entries
  pub legal : IsLegal grid entries
  pub parted : IsNotBehind past entries fault

-- they are no such text, or such a one
pub record IsAvailabilityRefused (past : Option Past) (grid : Ladders) (fault : DeskFault) (journal : List ℕ) : Type 0 where
  pub refused : IsUnlawful grid fault journal ⊎ IsParted past grid fault journal
