-- Which live bookings are asked for.
use Rattle.std.proofs.Common.{◌≡◌, ◌==◌, ℕ, true, List, [], ◌∷◌, length, filter, None, arith, refl, ◌∙◌, ap}
use Rattle.std.specs.Prelude.{false}
use Rattle.std.specs.List.{All}
use Rattle.std.proofs.lemmas.Bool.Decides.{nat_tests}
use Rattle.std.proofs.lemmas.List.Sorted.{All-permutation}
use Rattle.ssim_flights.specs.declared.flight.Flight.{Flight as Flown}
use Rattle.seat_journal.specs.declared.entry.Entry.{Entry}
use Rattle.seat_nesting.specs.Nesting.{Ladders}
use Rattle.seat_rules.specs.Inventory.{Inventory, state_now}
use Rattle.seat_rules.specs.declared.booking.Booking.{Booking}
use Rattle.seat_carrying.specs.Owned.{IsOwned}
use Rattle.seat_carrying.specs.declared.owned.Owned.{Owned}
use Rattle.seat_lists.specs.Picking.{picked}
use Rattle.seat_lists.specs.declared.picking.Wanted.{Wanted as Asking}
use Rattle.carry_lines.specs.Carriable.{is_carriable}
use Rattle.carry_order.specs.Ordering.{IsReordered, first_under}
use Rattle.carry_protections.specs.Going.{moved_under}
use Rattle.carry_protections.specs.declared.course.Course.{Course}
use Rattle.carry_plans.specs.Plans.{AreChosen, IsEvery}
use Rattle.carry_plans.specs.declared.asked.CarryAsked.{CarryAsked}

pub is_every : (before : Inventory) (olds : List Flown) (asking : Asking) (all : List Booking) → asking.locators.now ≡ [] → asking.flight ≡ None
    → asking.day ≡ None → all ≡ picked olds asking false (state_now before).bookings → IsEvery before olds all
is_every before olds asking all a b c is = record { asking = asking; asks = record { locators = a; flight = b; day = c }; live_are = is }

pub are_chosen : (asked : CarryAsked) (courses : List Course) (before : Inventory) (olds news : List Flown) (file : Ladders) (journal : List Entry) (live slice : List Booking)
    (gone gone_slice fit kept : List Owned) → IsEvery before olds live → slice ≡ live → journal ≡ before.journal
    → gone ≡ moved_under courses journal olds news asked.today slice → gone_slice ≡ gone → fit ≡ filter (is_carriable file) gone_slice
    → kept ≡ first_under asked.order.now fit → AreChosen asked courses before olds news file live kept
are_chosen asked courses before olds news file journal live slice gone gone_slice fit kept every is_slice is_journal went is_gone fit_are kept_are = record {
  every = every;
  kept_are =
      kept_are ∙ ap (first_under asked.order.now) (fit_are ∙ ap (filter (is_carriable file)) (is_gone ∙ went
      ∙ ap (λ (j : List Entry). moved_under courses j olds news asked.today slice) is_journal
      ∙ ap (λ (l : List Booking). moved_under courses before.journal olds news asked.today l) is_slice));
}

-- ---- the order in which they keep their seats

pub nobody_first : (first : List (List ℕ)) (live : List Owned) → (length first == 0) ≡ true → live ≡ first_under first live
nobody_first [] live none = refl
nobody_first (l ∷ first) live none = absurd (grind (arith, nat_tests, none))

pub all_owned : (file : Ladders) (old new : List Owned) → IsReordered old new → All (IsOwned file) old → All (IsOwned file) new
all_owned file old new reordered owned = All-permutation (IsOwned file) old new reordered.same owned
