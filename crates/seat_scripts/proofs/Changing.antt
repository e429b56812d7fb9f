-- Rows of changes: the first fault of their text, and what the rows so far ask for.
use Rattle.seat_journal.specs.declared.entry.Control.{Control}
use Rattle.std.proofs.Common.{◌≡◌, ◌≢◌, ℕ, ◌+◌, ◌<◌, ◌≤◌, Bool, true, false, List, [], ◌∷◌, ◌++◌, length, take, drop, get_or, refl, sym, ap, ◌∙◌, subst, Option, Some, None, IfSome, Err, append_assoc, append-nil, take-append-drop}
use Rattle.std.specs.List.{list_any}
use Rattle.std.specs.Prelude.{is_some}
use Rattle.std.specs.Str.Lines.{lines}
use Rattle.std.proofs.lemmas.Bool.{true≢false}
use Rattle.std.proofs.lemmas.List.{take_more}
use Rattle.std.proofs.lemmas.List.Folds.{list_any_at}
use Rattle.flight_days.specs.Leaving.{AreDaysOf}
use Rattle.flight_days.specs.declared.day_flights.DayFlights.{DayFlights}
use Rattle.ssim_flights.specs.declared.flight.Flight.{Flight as Flown}
use Rattle.seat_limits.specs.ChangeRows.{IsChangeText, changes_in}
use Rattle.seat_limits.specs.declared.change_row.ChangeRow.{ChangeRow}
use Rattle.seat_limits.specs.declared.limit_fault.LimitFault.{LimitFault}
use Rattle.seat_limits.specs.declared.limit_fault.LimitKind.{LimitKind}
use Rattle.seat_limits.specs.declared.limit_fault.LimitKind.TheVariants as limit_kinds
use Rattle.seat_replies.specs.Changes.{AreServed, IsUnchanged, IsUnserved, all_served, and_those, change_refusal, change_refusal_of, changes_of, most_change_bytes}
use Rattle.seat_scripts.specs.RowDays.{IsIndexed, names_no_cities}
use Rattle.seat_scripts.proofs.Common.{Memory, option_map}

-- ---- the first fault

cases : (flights : List Flown) (bytes : List ℕ) (kind : LimitKind) (fault : LimitFault)
    → length bytes ≤ most_change_bytes
    → (kind ≢ limit_kinds.Memory → changes_in 1 (lines bytes) ≡ Err fault)
    → change_refusal_of kind fault ≢ Memory → IsUnchanged flights (change_refusal_of kind fault) bytes
cases flights bytes limit_kinds.Memory fault within first not = absurd (not refl)
cases flights bytes kind fault within first not = record { within = within; first = first (λ e. cc) }

pub refused_rows : (flights : List Flown) (bytes : List ℕ) (fault : LimitFault) → length bytes ≤ most_change_bytes
    → (fault.kind ≢ limit_kinds.Memory → changes_in 1 (lines bytes) ≡ Err fault)
    → change_refusal fault ≢ Memory → IsUnchanged flights (change_refusal fault) bytes
refused_rows flights bytes fault = cases flights bytes fault.kind fault

-- ---- row by row

and_assoc : (a b c : Option (List Control)) → and_those a (and_those b c) ≡ and_those (and_those a b) c
and_assoc None b c = refl
and_assoc (Some a) None c = refl
and_assoc (Some a) (Some b) None = refl
and_assoc (Some a) (Some b) (Some c) = ap Some (sym (append_assoc a b c))

and_nothing : (a : Option (List Control)) → and_those a (Some []) ≡ and_those (Some []) a
and_nothing None = refl
and_nothing (Some a) = ap Some (append-nil a)

served_push : (flights : List Flown) (rows : List ChangeRow) (row : ChangeRow)
    → all_served flights (rows ++ row ∷ []) ≡ and_those (all_served flights rows) (changes_of flights row)
served_push flights [] row = and_nothing (changes_of flights row)
served_push flights (r ∷ rows) row =
    ap (λ (o : Option (List Control)). and_those (changes_of flights r) o) (served_push flights rows row)
    ∙ and_assoc (changes_of flights r) (all_served flights rows) (changes_of flights row)

pub served_more : (flights : List Flown) (rows : List ChangeRow) (i : ℕ) (row : ChangeRow) (here old new : List Control)
    → AreServed flights (take i rows) old → i < length rows → row ≡ get_or rows i row
    → Some here ≡ changes_of flights row → new ≡ old ++ here
    → AreServed flights (take (i + 1) rows) new
served_more flights rows i row here old new so_far lt at is pushed =
    let longer : take (i + 1) rows ≡ take i rows ++ row ∷ [] = take_more rows i row lt ∙ ap (λ (r : ChangeRow). take i rows ++ r ∷ []) (sym at) in
    ap (all_served flights) longer ∙ (served_push flights (take i rows) row
    ∙ (ap (λ (o : Option (List Control)). and_those o (changes_of flights row)) so_far
    ∙ (ap (λ (o : Option (List Control)). and_those (Some old) o) (sym is) ∙ ap Some (sym pushed))))

pub here_is : {V : Type 0} (items : V → List Control) (o : Option V) (v : V) (asked : Option (List Control)) → o ≡ Some v
    → option_map items o ≡ asked → Some (items v) ≡ asked
here_is items o v asked is e = ap (option_map items) (sym is) ∙ e

pub none_is : {V : Type 0} (items : V → List Control) (o : Option V) (asked : Option (List Control)) → o ≡ None → option_map items o ≡ asked
    → None ≡ asked
none_is items o asked is e = ap (option_map items) (sym is) ∙ e

-- the rows before one, it, and those behind it
parted : (rows : List ChangeRow) (i : ℕ) (row : ChangeRow) → i < length rows → row ≡ get_or rows i row
    → rows ≡ take i rows ++ row ∷ drop (i + 1) rows
parted rows i row lt here =
    let longer : take (i + 1) rows ≡ take i rows ++ row ∷ [] = take_more rows i row lt ∙ ap (λ (r : ChangeRow). take i rows ++ r ∷ []) (sym here) in
    sym (take-append-drop (i + 1) rows) ∙ (ap (λ (l : List ChangeRow). l ++ drop (i + 1) rows) longer ∙ append_assoc (take i rows) (row ∷ []) (drop (i + 1) rows))

pub is_unserved : (flights : List Flown) (bytes : List ℕ) (rows : List ChangeRow) (i : ℕ) (row : ChangeRow)
    (changes : List Control) (line : ℕ)
    → length bytes ≤ most_change_bytes → IsChangeText bytes rows → AreServed flights (take i rows) changes
    → i < length rows → row ≡ get_or rows i row
    → None ≡ changes_of flights row → line ≡ row.line → IsUnserved flights line bytes
is_unserved flights bytes rows i row changes line within are so_far lt here none line_is =
    record {
      within = within;
      before = take i rows;
      row = row;
      behind = drop (i + 1) rows;
      are_rows = subst (IsChangeText bytes) (parted rows i row lt here) are;
      changes = changes;
      are_served = so_far;
      unserved = sym none;
      line_is = line_is;
    }

-- ---- the flights of each day

-- they are indexed where a row needs them
pub row_indexed : (flights : List Flown) (days : Option DayFlights) (rows : List ChangeRow) (i : ℕ) (row : ChangeRow)
    → IfSome days (λ (d : DayFlights). AreDaysOf d flights) → is_some days ≡ list_any names_no_cities rows
    → i < length rows → row ≡ get_or rows i row → IsIndexed flights days row
row_indexed flights (Some days) rows i row are made lt at = are
row_indexed flights None rows i row are made lt at = of (names_no_cities row) refl
  where
    of : (t : Bool) → names_no_cities row ≡ t → names_no_cities row ≡ false
    of true e = absurd (true≢false (sym (made ∙ list_any_at names_no_cities rows i row lt (ap names_no_cities (sym at) ∙ e))))
    of false e = e
