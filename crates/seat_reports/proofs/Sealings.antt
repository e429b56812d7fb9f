-- The seal of a journal that was read is that of the inputs.
use Rattle.std.proofs.Common.{◌≡◌, ◌≤◌, ℕ, true, false, List, length, Option, Some, None, IfSome, ap, subst, ◌∙◌}
use Rattle.ssim_flights.specs.declared.flight.Flight.{Flight as Flown}
use Rattle.seat_limits.specs.Authorised.{authorised_grid}
use Rattle.seat_limits.specs.declared.limit_row.LimitRow.{LimitRow}
use Rattle.seat_nesting.specs.Nesting.{Ladders}
use Rattle.seat_rules.specs.Inventory.{Inventory}
use Rattle.seat_seal.specs.Fronts.{front_of}
use Rattle.seat_seal.specs.Imprints.{imprint_of}
use Rattle.seat_seal.specs.Reading.{one_entry}
use Rattle.seat_seal.specs.Rules.{is_sealed}
use Rattle.seat_seal.specs.Text.{seal_text}
use Rattle.seat_seal.specs.declared.beside.Basis.{Basis}
use Rattle.seat_seal.specs.declared.beside.Beside.{Beside}
use Rattle.seat_seal.specs.declared.run.Run.{Run}
use Rattle.seat_seal.specs.declared.comparing.SealFault.TheVariants.{Journal}
use Rattle.seat_seal.specs.declared.era.Era.{Era}
use Rattle.seat_seal.specs.declared.imprint.Imprint.{Imprint}
use Rattle.seat_seal.specs.declared.seal.Sealed.{Sealed as Belonging}
use Rattle.seat_seal.specs.declared.seal.SealEntry.TheVariants.{Sealed}
use Rattle.seat_desk.specs.AuditDesk.{IsReplayOf, most_journal_bytes}
use Rattle.seat_desk.specs.Loading.{IsGround}
use Rattle.seat_desk.specs.Sealing.{basis_of}
use Rattle.seat_desk.specs.declared.fault.DeskFault.{DeskFault}
use Rattle.seat_desk.specs.declared.fault.DeskFault.TheVariants.{Seal}
use Rattle.seat_reports.specs.SealDesk.{AreKept, IsEntryOf, IsMisnumbered, IsOwnEntry, IsSealOf}

-- what follows from what is known of the set and the limits, of their digests, and of the journal
if_known : (P B : List ℕ → List ℕ → Type 0) (Q : List ℕ → Type 0) (R : List ℕ → List ℕ → List ℕ → Type 0)
    (set limits journal : Option (List ℕ))
    → ((xs ys zs : List ℕ) → P xs ys → B xs ys → Q zs → R xs ys zs)
    → IfSome set (λ xs. IfSome limits (λ ys. P xs ys)) → IfSome set (λ xs. IfSome limits (λ ys. B xs ys))
    → IfSome journal Q
    → IfSome set (λ xs. IfSome limits (λ ys. IfSome journal (λ zs. R xs ys zs)))
if_known P B Q R (Some xs) (Some ys) (Some zs) step p b q = step xs ys zs p b q
if_known P B Q R (Some xs) (Some ys) None step p b q = tt
if_known P B Q R (Some xs) None journal step p b q = tt
if_known P B Q R None limits journal step p b q = tt

module _ (first days : ℕ) (flights : List Flown) (rows : List LimitRow) (grid : Ladders) (core : Inventory) (runs : List Run) (era : Era) (entry : Belonging) (beside : Beside)
    (same : grid ≡ authorised_grid rows flights) where
  of_bytes : (bytes : List ℕ) (basis : Basis) (xs ys : List ℕ) → length bytes ≤ most_journal_bytes
      → IsReplayOf grid bytes core
      → AreKept beside basis bytes runs era
      → IsEntryOf basis era (imprint_of (front_of bytes)) (length core.journal) runs entry
      → IsGround xs ys first days flights rows → basis ≡ basis_of xs ys first days
      → IsOwnEntry beside xs ys first days bytes entry
  of_bytes bytes basis xs ys within replay kept is_entry ground based = record {
    flights = flights;
    rows = rows;
    is_ground = ground;
    within = within;
    core = core;
    is_replay = subst (λ (g : Ladders). IsReplayOf g bytes core) same replay;
    runs = runs;
    era = era;
    are_kept = subst (λ (b : Basis). AreKept beside b bytes runs era) based kept;
    is_entry = subst (λ (b : Basis). IsEntryOf b era (imprint_of (front_of bytes)) (length core.journal) runs entry) based is_entry;
  }

  pub own_entry : (set limits journal : Option (List ℕ)) (bytes slice other front : List ℕ) (imprint : Imprint) (lines : ℕ)
      (basis : Basis)
      → IfSome set (λ xs. IfSome limits (λ ys. IsGround xs ys first days flights rows))
      → IfSome set (λ xs. IfSome limits (λ ys. basis ≡ basis_of xs ys first days))
      → IfSome journal (λ zs. bytes ≡ zs) → length bytes ≤ most_journal_bytes → slice ≡ bytes
      → front ≡ front_of slice → imprint ≡ imprint_of front → lines ≡ length core.journal → IsReplayOf grid bytes core
      → AreKept beside basis other runs era → other ≡ bytes → IsEntryOf basis era imprint lines runs entry
      → IfSome set (λ xs. IfSome limits (λ ys. IfSome journal (λ zs. IsOwnEntry beside xs ys first days zs entry)))
  own_entry set limits journal bytes slice other front imprint lines basis ground based whole within is_slice is_front is_imprint are_lines replay kept is_other is_entry =
      let of_front : imprint ≡ imprint_of (front_of bytes) = is_imprint ∙ ap (λ (l : List ℕ). imprint_of l) (is_front ∙ ap (λ (l : List ℕ). front_of l) is_slice) in
      let counted : IsEntryOf basis era imprint (length core.journal) runs entry = subst (λ (n : ℕ). IsEntryOf basis era imprint n runs entry) are_lines is_entry in
      let own : IsEntryOf basis era (imprint_of (front_of bytes)) (length core.journal) runs entry = subst (λ (i : Imprint). IsEntryOf basis era i (length core.journal) runs entry) of_front counted in
      if_known (λ xs ys. IsGround xs ys first days flights rows) (λ xs ys. basis ≡ basis_of xs ys first days) (λ zs. bytes ≡ zs) (λ xs ys zs. IsOwnEntry beside xs ys first days zs entry) set limits journal
      (λ xs ys zs g b e. subst (λ (l : List ℕ). IsOwnEntry beside xs ys first days l entry) e (of_bytes bytes basis xs ys within replay (subst (λ (l : List ℕ). AreKept beside basis l runs era) is_other kept) own g b)) ground based whole

-- what is known of all three follows from what else is
of_known : (P Q : List ℕ → List ℕ → List ℕ → Type 0) (set limits journal : Option (List ℕ))
    → ((xs ys zs : List ℕ) → P xs ys zs → Q xs ys zs)
    → IfSome set (λ xs. IfSome limits (λ ys. IfSome journal (λ zs. P xs ys zs)))
    → IfSome set (λ xs. IfSome limits (λ ys. IfSome journal (λ zs. Q xs ys zs)))
of_known P Q (Some xs) (Some ys) (Some zs) step p = step xs ys zs p
of_known P Q (Some xs) (Some ys) None step p = tt
of_known P Q (Some xs) None journal step p = tt
of_known P Q None limits journal step p = tt

module _ (first days : ℕ) (entry : Belonging) (beside : Beside) (set limits journal : Option (List ℕ))
    (own : IfSome set (λ xs. IfSome limits (λ ys. IfSome journal (λ zs. IsOwnEntry beside xs ys first days zs entry)))) where
  pub sealed_of : (text : List ℕ) → text ≡ seal_text (one_entry (Sealed entry)) → is_sealed entry ≡ true
      → IfSome set (λ xs. IfSome limits (λ ys. IfSome journal (λ zs. IsSealOf beside xs ys first days zs text)))
  sealed_of text is rules =
      of_known (λ xs ys zs. IsOwnEntry beside xs ys first days zs entry) (λ xs ys zs. IsSealOf beside xs ys first days zs text) set limits journal
      (λ xs ys zs o. record { entry = entry; is_own = o; rules = rules; is_text = is }) own

  pub misnumbered_of : (fault : DeskFault) → fault ≡ Seal Journal → is_sealed entry ≡ false
      → IfSome set (λ xs. IfSome limits (λ ys. IfSome journal (λ zs. IsMisnumbered beside xs ys first days zs fault)))
  misnumbered_of fault is broken =
      of_known (λ xs ys zs. IsOwnEntry beside xs ys first days zs entry) (λ xs ys zs. IsMisnumbered beside xs ys first days zs fault) set limits journal
      (λ xs ys zs o. record { entry = entry; is_own = o; broken = broken; fault_is = is }) own
