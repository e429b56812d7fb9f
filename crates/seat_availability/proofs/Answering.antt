-- The answer over a replay.
use Rattle.std.proofs.Common.{◌≡◌, ◌≢◌, ◌≤◌, inl, inr, ℕ, List, [], length, take, Option, Some, None, IfSome, sym, ap, ◌∙◌, subst}
use Rattle.ssim_flights.specs.declared.flight.Flight.{Flight as Flown}
use Rattle.seat_journal.specs.declared.entry.Entry.{Entry}
use Rattle.seat_nesting.specs.Nesting.{Ladders}
use Rattle.seat_rules.specs.Inventory.{Inventory, state_now}
use Rattle.seat_rules.specs.Journal.{replay}
use Rattle.seat_desk.specs.AuditDesk.{IsReplayOf, IsUnlawful}
use Rattle.seat_desk.specs.FlightsDesk.{IsPut, IsText}
use Rattle.seat_desk.specs.declared.fault.DeskFault.{DeskFault}
use Rattle.seat_desk.specs.declared.fault.DeskFault.TheVariants.{Device, Memory, TooLarge}
use Rattle.seat_lists.proofs.LiveTexts.{whole_text}
use Rattle.seat_pickup.specs.Older.{IsNoPast, IsPast, past_lines}
use Rattle.seat_pickup.specs.declared.past.Past.{Past}
use Rattle.seat_pickup.specs.declared.past.Past.TheVariants.{Lines, Older}
use Rattle.seat_availability.specs.Answers.{IsAvailabilityAfter, IsAvailabilityRefused, IsBehind, IsNotBehind, told}
use Rattle.seat_availability.specs.Changes.{changed}
use Rattle.seat_availability.specs.Lines.{IsMessageLine}
use Rattle.seat_availability.specs.Messages.{messages}
use Rattle.seat_availability.specs.declared.availability.AvailabilityOf.{AvailabilityOf}
use Rattle.seat_availability.specs.declared.segments.Asked.{Asked}
use Rattle.seat_availability.specs.declared.segments.Message.{Message}

-- ---- what stands ahead

pub no_past : (past : Option Past) (journal : List Entry) → past ≡ None → IsBehind past journal None
no_past past journal is = subst (λ (p : Option Past). IsBehind p journal None) (sym is) tt

pub is_behind : (asked : Option Past) (past : Past) (journal : List Entry) (n : ℕ) → asked ≡ Some past → n ≤ length journal → n ≡ past_lines past
    → IsPast past journal → IsBehind asked journal (Some n)
is_behind asked past journal n is within count begins = subst (λ (p : Option Past). IsBehind p journal (Some n)) (sym is) (count, within, begins)

pub is_not_behind : (asked : Option Past) (past : Past) (journal : List Entry) (fault : DeskFault) → asked ≡ Some past → IsNoPast past journal fault
    → IsNotBehind asked journal fault
is_not_behind asked past journal fault is none = subst (λ (p : Option Past). IsNotBehind p journal fault) (sym is) none

pub not_of_input : (past : Past) (journal : List Entry) (fault : DeskFault) → IsNoPast past journal fault → (fault ≢ Device) × (fault ≢ TooLarge)
not_of_input past journal fault none =
    (λ (e : fault ≡ Device). no_device past (subst (IsNoPast past journal) e none), λ (e : fault ≡ TooLarge). no_size past (subst (IsNoPast past journal) e none))
  where
    no_device : (p : Past) → IsNoPast p journal Device → ⊥
    no_device (Lines n) x = x
    no_device (Older lines) x = x

    no_size : (p : Past) → IsNoPast p journal TooLarge → ⊥
    no_size (Lines n) x = x
    no_size (Older lines) x = x

pub behind_within : (past : Option Past) (lines journal : List Entry) (behind : Option ℕ) → lines ≡ journal → IsBehind past lines behind
    → IfSome behind (λ n. n ≤ length journal)
behind_within past lines journal None same is = tt
behind_within None lines journal (Some n) same is = absurd is
behind_within (Some past) lines journal (Some n) same is = subst (λ (l : List Entry). n ≤ length l) same is.1

-- ---- what is told

pub within_some : (behind : Option ℕ) (n m : ℕ) → IfSome behind (λ k. k ≤ m) → behind ≡ Some n → n ≤ m
within_some behind n m within is = subst (λ (o : Option ℕ). IfSome o (λ k. k ≤ m)) is within

pub all_told : (behind : Option ℕ) (asked : Asked) (flights : List Flown) (core : Inventory) (all : List Message) → behind ≡ None
    → all ≡ messages asked flights core.grid (state_now core) → all ≡ told behind asked flights core.grid core.journal
all_told behind asked flights core all none is =
    is ∙ ap (λ (o : Option ℕ). told o asked flights core.grid core.journal) (sym none)

pub some_told : (behind : Option ℕ) (n : ℕ) (asked : Asked) (flights : List Flown) (core : Inventory) (all : List Message) → behind ≡ Some n
    → all ≡ told (Some n) asked flights core.grid core.journal → all ≡ told behind asked flights core.grid core.journal
some_told behind n asked flights core all some is =
    is ∙ ap (λ (o : Option ℕ). told o asked flights core.grid core.journal) (sym some)

pub changed_behind : (asked : Asked) (flights : List Flown) (core past : Inventory) (n : ℕ) (older newer os ns all : List Message)
    → past.grid ≡ core.grid → past.journal ≡ take n core.journal
    → older ≡ messages asked flights past.grid (state_now past) → newer ≡ messages asked flights core.grid (state_now core)
    → os ≡ older → ns ≡ newer → all ≡ changed os ns → all ≡ told (Some n) asked flights core.grid core.journal
changed_behind asked flights core past n older newer os ns all grid journal is_older is_newer is_os is_ns is =
    is ∙ ap (λ (l : List Message). changed l ns) (is_os ∙ is_older ∙ was) ∙ ap (changed before) (is_ns ∙ is_newer)
  where
    before : List Message
    before = messages asked flights core.grid (replay core.grid (take n core.journal))

    was : messages asked flights past.grid (state_now past) ≡ before
    was =
        ap (λ (l : List Entry). messages asked flights past.grid (replay past.grid l)) journal
        ∙ ap (λ (g : Ladders). messages asked flights g (replay g (take n core.journal))) grid

pub text_whole : (all slice xs : List Message) (old new : List ℕ) → old ≡ [] → all ≡ xs → slice ≡ all
    → IsPut (λ n. IsMessageLine) 0 slice old new → IsText (λ n. IsMessageLine) 0 xs new
text_whole all slice xs old new empty picks same put =
    subst (λ (l : List Message). IsText (λ n. IsMessageLine) 0 l new) (same ∙ picks) (whole_text IsMessageLine slice old new empty put)

-- ---- the answer

pub after_replay : (asked : AvailabilityOf) (flights : List Flown) (grid : Ladders) (journal text : List ℕ) (core : Inventory) (lines : List Entry)
    (behind : Option ℕ) → IsReplayOf grid journal core → lines ≡ core.journal → IsBehind asked.past lines behind
    → IsText (λ n. IsMessageLine) 0 (told behind asked.asked flights core.grid core.journal) text → IsAvailabilityAfter asked flights grid journal text
after_replay asked flights grid journal text core lines behind is same ahead are = record {
  entries = core.journal;
  behind = behind;
  is_text = is.is_text;
  legal = is.legal;
  few = is.few;
  is_behind = subst (λ (l : List Entry). IsBehind asked.past l behind) same ahead;
  are_lines = subst (λ (g : Ladders). IsText (λ n. IsMessageLine) 0 (told behind asked.asked flights g core.journal) text) is.grid_is are;
}

pub unlawful : (past : Option Past) (grid : Ladders) (fault : DeskFault) (journal : List ℕ) → (fault ≢ Memory → IsUnlawful grid fault journal)
    → fault ≢ Memory → IsAvailabilityRefused past grid fault journal
unlawful past grid fault journal is not = record { refused = inl (is not) }

pub parted : (past : Option Past) (grid : Ladders) (fault : DeskFault) (journal : List ℕ) (core : Inventory) (lines : List Entry)
    → IsReplayOf grid journal core → lines ≡ core.journal → IsNotBehind past lines fault → IsAvailabilityRefused past grid fault journal
parted past grid fault journal core lines is same none = record {
  refused = inr (record {
    entries = core.journal;
    is_text = is.is_text;
    legal = is.legal;
    parted = subst (λ (l : List Entry). IsNotBehind past l fault) same none;
  });
}
