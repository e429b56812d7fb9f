-- What an inventory tells, a journal does that leads to it.
use Rattle.std.proofs.Common.{◌≡◌, ℕ, List, sym, subst}
use Rattle.ssim_flights.specs.declared.flight.Flight.{Flight as Flown}
use Rattle.seat_nesting.specs.Nesting.{Ladders}
use Rattle.seat_journal.specs.Text.{IsJournalText}
use Rattle.seat_journal.specs.declared.entry.Entry.{Entry}
use Rattle.seat_journal.proofs.TextLaws.{one_text}
use Rattle.seat_rules.specs.Inventory.{Inventory}
use Rattle.seat_desk.specs.AuditDesk.{IsReplayOf}
use Rattle.seat_desk.specs.Loading.{IsGridOf}
use Rattle.seat_desk.specs.After.{HoldsAfter}

pub grid_kept : (flights : List Flown) (grid other : Ladders) → IsGridOf flights grid → other ≡ grid → IsGridOf flights other
grid_kept flights grid other is same = subst (IsGridOf flights) (sym same) is

pub holds_after : (Tells : List Flown → Ladders → List Entry → List ℕ → Type 0) (flights : List Flown) (grid : Ladders)
    (bytes text : List ℕ) (core : Inventory) → IsReplayOf grid bytes core
    → Tells flights core.grid core.journal text → HoldsAfter (λ entries. Tells flights grid entries text) grid bytes
holds_after Tells flights grid bytes text core r is = record {
  entries = core.journal;
  is_text = r.is_text;
  legal = r.legal;
  few = r.few;
  holds = subst (λ (g : Ladders). Tells flights g core.journal text) r.grid_is is;
}

-- a text is that of one history, so what holds after it holds of those lines
pub holds_of : (Holds : List Entry → Type 0) (grid : Ladders) (bytes : List ℕ) (entries : List Entry)
    → IsJournalText bytes entries → HoldsAfter Holds grid bytes → Holds entries
holds_of Holds grid bytes entries is after = subst Holds (one_text bytes after.entries entries after.is_text is) after.holds
