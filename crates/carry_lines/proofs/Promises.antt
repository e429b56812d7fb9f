-- What is promised of the journal of a carry.
use Rattle.std.proofs.Common.{◌≡◌, ℕ, ◌+◌, List, [], length, refl, ap, sym, subst, ◌∙◌}
use Rattle.seat_journal.specs.declared.entry.Change.{Change}
use Rattle.seat_journal.specs.declared.entry.Entry.{Entry}
use Rattle.seat_nesting.specs.Nesting.{Ladders}
use Rattle.seat_rules.specs.declared.booking.Booking.{Booking}
use Rattle.seat_rules.specs.Inventory.{Inventory, IsReplayed, state_now}
use Rattle.seat_rules.specs.Journal.{replay}
use Rattle.seat_rules.specs.Prefixes.{Begins}
use Rattle.seat_rules.specs.Sequential.{NoneFits, State, state_of}
use Rattle.seat_carrying.specs.Carrying.{AreCarried, HasRoomFor, anew, asked_from, in_turn}
use Rattle.seat_carrying.specs.Owned.{bookings_of}
use Rattle.seat_carrying.specs.declared.owned.Owned.{Owned}
use Rattle.seat_carrying.proofs.Asked.{asked_in_turn}
use Rattle.seat_carrying.proofs.Carried.{nobody_loses}
use Rattle.seat_carrying.proofs.Identity.{carry_is_identity}
use Rattle.carry_lines.specs.Carried.{AnswersByRoom, AreShut, HasLineEach, HasTheVery, KeepsAll, LosesNobody, asked_lines, carried_lines, changed_lines, limits_behind}
use Rattle.carry_lines.specs.declared.mark.Mark.{Mark}
use Rattle.carry_lines.specs.Setting.{closings_of}
use Rattle.carry_lines.proofs.Answered.{answers_by_room, none_changed}
use Rattle.carry_lines.proofs.Closed.{all_shut, closings_keep}
use Rattle.carry_lines.proofs.Counting.{length_changed}
use Rattle.carry_lines.proofs.Lines.{begins_set, line_each}

-- the state behind the lines that ask is the one that asking leaves
state_asked : (grid : Ladders) (rows : List Change) (live : List Owned)
    → replay grid (asked_lines grid rows live)
    ≡ asked_from (state_of (limits_behind grid rows) []) (length rows + 1) (in_turn (bookings_of live))
state_asked grid rows live =
    asked_in_turn grid (changed_lines grid rows) live
    ∙ ap (λ (n : ℕ). asked_from (replay grid (changed_lines grid rows)) (n + 1) (in_turn (bookings_of live))) (length_changed grid rows)
    ∙ ap (λ (l : List Booking). asked_from (state_of (limits_behind grid rows) l) (length rows + 1) (in_turn (bookings_of live))) (none_changed grid rows)

pub keeps_all : (grid : Ladders) (cap : ℕ) (rows : List Change) (live : List Owned) (marks : List Mark) (new : Inventory)
    → IsReplayed new grid cap (carried_lines grid rows live marks) → KeepsAll grid rows live new
keeps_all grid cap rows live marks new is =
    ap (λ (g : Ladders). (replay g new.journal).bookings) is.grid_is ∙ ap (λ (l : List Entry). (replay grid l).bookings) is.journal_is
    ∙ closings_keep grid (asked_lines grid rows live) marks

bookings_in : (grid : Ladders) (cap : ℕ) (rows : List Change) (live : List Owned) (marks : List Mark) (new : Inventory)
    → IsReplayed new grid cap (carried_lines grid rows live marks)
    → (state_now new).bookings ≡ (asked_from (state_of (limits_behind grid rows) []) (length rows + 1) (in_turn (bookings_of live))).bookings
bookings_in grid cap rows live marks new is =
    keeps_all grid cap rows live marks new is ∙ ap (λ (s : State). s.bookings) (state_asked grid rows live)

pub loses_nobody : (grid : Ladders) (cap : ℕ) (rows : List Change) (live : List Owned) (marks : List Mark) (new : Inventory)
    → IsReplayed new grid cap (carried_lines grid rows live marks) → LosesNobody grid rows live new
loses_nobody grid cap rows live marks new is = record { each = each } where
  each : HasRoomFor (limits_behind grid rows) (bookings_of live)
      → AreCarried (length rows + 1) (in_turn (bookings_of live)) (state_now new).bookings
  each has = subst (λ (l : List Booking). AreCarried (length rows + 1) (in_turn (bookings_of live)) l) (sym (bookings_in grid cap rows live marks new is))
      (nobody_loses (limits_behind grid rows) (bookings_of live) (length rows + 1) has)

pub has_the_very : (grid : Ladders) (cap : ℕ) (rows : List Change) (live : List Owned) (marks : List Mark) (new : Inventory)
    → IsReplayed new grid cap (carried_lines grid rows live marks) → HasTheVery grid rows live new
has_the_very grid cap rows live marks new is = record { same = same } where
  same : HasRoomFor (limits_behind grid rows) (bookings_of live) → NoneFits (limits_behind grid rows) (bookings_of live)
      → (state_now new).bookings ≡ anew (length rows + 1) (in_turn (bookings_of live))
  same has still = bookings_in grid cap rows live marks new is
      ∙ ap (λ (s : State). s.bookings) (carry_is_identity (limits_behind grid rows) (bookings_of live) (length rows + 1) has still)

pub has_line_each : (grid : Ladders) (cap : ℕ) (rows : List Change) (live : List Owned) (marks : List Mark) (new : Inventory)
    → IsReplayed new grid cap (carried_lines grid rows live marks) → HasLineEach rows live new.journal
has_line_each grid cap rows live marks new is =
    subst (λ (l : List Entry). HasLineEach rows live l) (sym is.journal_is) (line_each grid rows live marks)

pub answered : (grid : Ladders) (cap : ℕ) (rows : List Change) (live : List Owned) (marks : List Mark) (new : Inventory)
    → IsReplayed new grid cap (carried_lines grid rows live marks) → AnswersByRoom grid rows live new
answered grid cap rows live marks new is =
    answers_by_room grid rows live new
    (subst (λ (l : List Entry). Begins (asked_lines grid rows live) l) (sym is.journal_is) (begins_set grid (asked_lines grid rows live) (closings_of marks)))

pub are_shut : (grid : Ladders) (cap : ℕ) (rows : List Change) (live : List Owned) (marks : List Mark) (new : Inventory)
    → IsReplayed new grid cap (carried_lines grid rows live marks) → AreShut marks new.journal
are_shut grid cap rows live marks new is =
    subst (λ (l : List Entry). AreShut marks l) (sym is.journal_is) (all_shut grid (asked_lines grid rows live) marks)
