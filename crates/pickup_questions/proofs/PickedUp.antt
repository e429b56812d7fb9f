-- What is picked up over a replay.
use Rattle.std.proofs.Common.{◌≡◌, ◌≢◌, inl, inr, ℕ, List, ◌++◌, Option, sym, ap, ◌∙◌, subst, append_assoc}
use Rattle.std.proofs.lemmas.List.{append-nil}
use Rattle.ssim_flights.specs.declared.flight.Flight.{Flight as Flown}
use Rattle.seat_journal.specs.declared.entry.Entry.{Entry}
use Rattle.seat_nesting.specs.Nesting.{Ladders}
use Rattle.seat_rules.specs.Inventory.{Inventory}
use Rattle.seat_desk.specs.AuditDesk.{IsReplayOf, IsUnlawful}
use Rattle.seat_desk.specs.declared.fault.DeskFault.{DeskFault}
use Rattle.seat_desk.specs.declared.fault.DeskFault.TheVariants.{Memory}
use Rattle.seat_lists.specs.declared.picking.Designator.{Designator}
use Rattle.seat_pickup.specs.Moves.{Where, is_at}
use Rattle.seat_pickup.specs.Older.{IsNoPast, IsPast, past_lines}
use Rattle.seat_pickup.specs.Pickups.{moved_behind, pickups_of}
use Rattle.seat_pickup.specs.declared.classes.Pickup.{Pickup}
use Rattle.seat_pickup.specs.declared.moved.MoveSums.{MoveSums}
use Rattle.seat_pickup.specs.declared.past.Past.{Past}
use Rattle.seat_pickup.specs.declared.split.Split.TheVariants.{Legs}
use Rattle.seat_tables.specs.Rows.{IsTable, rows_from}
use Rattle.seat_tables.specs.declared.sheet.Form.{Form}
use Rattle.seat_tables.specs.declared.sheet.Form.TheVariants.{Text, Csv, Json}
use Rattle.pickup_questions.specs.PickupRows.{IsPickupOver, IsPickupRefused, IsPickupText, names_by, pickup_names, rows_by, rows_of_pickup, sums_part, sums_text}
use Rattle.pickup_questions.specs.GroupRows.{class_names, class_rows, day_names, day_rows, flight_names, flight_rows}
use Rattle.pickup_questions.specs.LegRows.{leg_names, leg_rows}
use Rattle.pickup_questions.specs.PairRows.{pair_names, pair_rows}
use Rattle.pickup_questions.specs.declared.pickup.By.{By}
use Rattle.pickup_questions.specs.declared.pickup.By.TheVariants.{EachRow, EachFlight, EachLeg, EachClass, EachDay, EachPair}
use Rattle.pickup_questions.specs.declared.pickup.PickupOf.{PickupOf}

pub summed : (by : By) (form : Form) (asked : Option Designator) (flights : List Flown) (all : List Pickup) (moved : Where → ℕ → ℕ → MoveSums)
    (table text : List ℕ) → IsTable form (names_by by) (rows_by by asked flights all moved) table → text ≡ table ++ sums_part form all
    → IsPickupText by form asked flights all moved text
summed by form asked flights all moved table text is put = record { table = table; is_table = is; written = put }

-- ---- the table

module _ (by : By) (form : Form) (asked : Option Designator) (flights : List Flown) (all : List Pickup) (moved : Where → ℕ → ℕ → MoveSums)
    (text : List ℕ) where
  pub each_row : by ≡ EachRow → IsTable form pickup_names (rows_from rows_of_pickup 0 all) text → IsTable form (names_by by) (rows_by by asked flights all moved) text
  each_row is table = subst (λ (b : By). IsTable form (names_by b) (rows_by b asked flights all moved) text) (sym is) table

  pub each_flight : by ≡ EachFlight → IsTable form flight_names (flight_rows flights all) text → IsTable form (names_by by) (rows_by by asked flights all moved) text
  each_flight is table = subst (λ (b : By). IsTable form (names_by b) (rows_by b asked flights all moved) text) (sym is) table

  pub each_leg : by ≡ EachLeg → IsTable form leg_names (leg_rows asked (moved (is_at Legs)) flights) text → IsTable form (names_by by) (rows_by by asked flights all moved) text
  each_leg is table = subst (λ (b : By). IsTable form (names_by b) (rows_by b asked flights all moved) text) (sym is) table

  pub each_class : by ≡ EachClass → IsTable form class_names (class_rows all) text → IsTable form (names_by by) (rows_by by asked flights all moved) text
  each_class is table = subst (λ (b : By). IsTable form (names_by b) (rows_by b asked flights all moved) text) (sym is) table

  pub each_day : by ≡ EachDay → IsTable form day_names (day_rows flights all) text → IsTable form (names_by by) (rows_by by asked flights all moved) text
  each_day is table = subst (λ (b : By). IsTable form (names_by b) (rows_by b asked flights all moved) text) (sym is) table

  pub each_pair : by ≡ EachPair → IsTable form pair_names (pair_rows asked flights moved) text → IsTable form (names_by by) (rows_by by asked flights all moved) text
  each_pair is table = subst (λ (b : By). IsTable form (names_by b) (rows_by b asked flights all moved) text) (sym is) table

-- ---- the sums

-- one piece more behind the others
one_more : (old so_far piece middle new : List ℕ) → middle ≡ old ++ so_far → new ≡ middle ++ piece → new ≡ old ++ (so_far ++ piece)
one_more old so_far piece middle new is put = put ∙ ap (λ (x : List ℕ). x ++ piece) is ∙ append_assoc old so_far piece

pub six_pieces : (o u v w x y t a b c d e new : List ℕ) → a ≡ o ++ u → b ≡ a ++ v → c ≡ b ++ w → d ≡ c ++ x → e ≡ d ++ y → new ≡ e ++ t
    → new ≡ o ++ (u ++ v ++ w ++ x ++ y ++ t)
six_pieces o u v w x y t a b c d e new is_a is_b is_c is_d is_e put =
    one_more o (u ++ v ++ w ++ x ++ y) t e new
    (one_more o (u ++ v ++ w ++ x) y d e (one_more o (u ++ v ++ w) x c d (one_more o (u ++ v) w b c (one_more o u v a b is_a is_b) is_c) is_d) is_e) put

pub text_sums : (form : Form) (all : List Pickup) (old new : List ℕ) → form ≡ Text → new ≡ old ++ sums_text all → new ≡ old ++ sums_part form all
text_sums form all old new is put = put ∙ ap (λ (f : Form). old ++ sums_part f all) (sym is)

pub no_csv_sums : (form : Form) (all : List Pickup) (text : List ℕ) → form ≡ Csv → text ≡ text ++ sums_part form all
no_csv_sums form all text is = sym (append-nil text) ∙ ap (λ (f : Form). text ++ sums_part f all) (sym is)

pub no_json_sums : (form : Form) (all : List Pickup) (text : List ℕ) → form ≡ Json → text ≡ text ++ sums_part form all
no_json_sums form all text is = sym (append-nil text) ∙ ap (λ (f : Form). text ++ sums_part f all) (sym is)

-- ---- the answer

pub over_replay : (asked : PickupOf) (flights : List Flown) (grid : Ladders) (journal text : List ℕ) (core : Inventory)
    (lines : List Entry) (n : ℕ) → IsReplayOf grid journal core → lines ≡ core.journal → IsPast asked.past lines → n ≡ past_lines asked.past
    → IsPickupText asked.by asked.form asked.flight flights (pickups_of asked.flight flights core.grid core.journal n)
    (moved_behind core.grid core.journal n) text → IsPickupOver asked flights grid journal text
over_replay asked flights grid journal text core lines n is same past count picked_up = record {
  entries = core.journal;
  is_text = is.is_text;
  legal = is.legal;
  few = is.few;
  past = subst (λ (l : List Entry). IsPast asked.past l) same past;
  picked_up =
      subst (λ (k : ℕ). IsPickupText asked.by asked.form asked.flight flights (pickups_of asked.flight flights grid core.journal k) (moved_behind grid core.journal k) text) count
      (subst (λ (g : Ladders). IsPickupText asked.by asked.form asked.flight flights (pickups_of asked.flight flights g core.journal n) (moved_behind g core.journal n) text)
      is.grid_is picked_up);
}

pub unlawful : (past : Past) (grid : Ladders) (fault : DeskFault) (journal : List ℕ) → (fault ≢ Memory → IsUnlawful grid fault journal)
    → fault ≢ Memory → IsPickupRefused past grid fault journal
unlawful past grid fault journal is not = record { refused = inl (is not) }

pub parted : (past : Past) (grid : Ladders) (fault : DeskFault) (journal : List ℕ) (core : Inventory) (lines : List Entry)
    → IsReplayOf grid journal core → lines ≡ core.journal → IsNoPast past lines fault → IsPickupRefused past grid fault journal
parted past grid fault journal core lines is same none = record {
  refused = inr (record {
    entries = core.journal;
    is_text = is.is_text;
    legal = is.legal;
    parted = subst (λ (l : List Entry). IsNoPast past l fault) same none;
  });
}
