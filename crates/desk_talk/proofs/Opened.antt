-- A host that opens over the journal that a file has.
use Rattle.std.proofs.Common.{◌≡◌, inr, ℕ, List, subst, sym, ap, ◌∙◌, length, drop}
use Rattle.std.specs.Prelude.{All, false, IsTrue, Option}
use Rattle.logbook.specs.Pages.{Book}
use Rattle.seat_journal.specs.declared.entry.Entry.{Entry}
use Rattle.seat_seal.specs.declared.beside.Basis.{Basis}
use Rattle.seat_seal.specs.declared.beside.Beside.{Beside}
use Rattle.seat_seal.specs.declared.era.Era.{Era}
use Rattle.seat_seal.specs.declared.run.Run.{Run}
use Rattle.seat_seal.specs.declared.seal.Sealed.{Sealed as Belonging}
use Rattle.seat_seal.specs.declared.seal.JournalState.TheVariants.{Open}
use Rattle.seat_desk.specs.AuditDesk.{most_lines}
use Rattle.seat_restoring.specs.Dating.{AreOfEra, IsEraOver, Stands}
use Rattle.seat_restoring.specs.Found.{KeepsSealed}
use Rattle.seat_restoring.specs.Sealing.{AreRunsOver, HasNoSeal, IsSealedIn}
use Rattle.seat_restoring.specs.Serving.{KeepsBoth, NamesAll}
use Rattle.seat_restoring.proofs.Serving.{as_before as unchanged_both}
use Rattle.desk_lines.specs.declared.desk.Desk.{Desk}
use Rattle.desk_lines.specs.declared.desk.Standing.TheVariants.{Between}
use Rattle.ssim_flights.specs.declared.flight.Flight.{Flight as Flown}
use Rattle.seat_nesting.specs.Nesting.{Ladders}
use Rattle.seat_recovery.specs.OpenText.{open_text}
use Rattle.seat_recovery.specs.Recovering.{IsRecovered}
use Rattle.seat_recovery.specs.declared.rest.Rest.{Rest}
use Rattle.seat_serving.specs.GoingOn.{GoesAside, StoodBehind}
use Rattle.seat_serving.specs.Served.{IsOnDisk, Served}
use Rattle.seat_display.specs.Faces.{Viewed, opened as seen_nothing}
use Rattle.desk_answers.specs.Hosts.{AreViewers, Attended, IsReady}
use Rattle.desk_talk.specs.Opening.{IsCutTo, IsOpened, IsTooLong}

-- it answers, and all its lines are on the disk
pub ready_host : {D : Type 0} (seen : D → Option (List ℕ)) (leaves : D → List ℕ → Type 0) (unsynced : D → ℕ) (host s : Served D)
    → host ≡ s → IsTrue s.is_open → s.kept ≡ s.journal → IsOnDisk s.journal (seen s.tape) (leaves s.tape)
    → unsynced s.tape ≡ 0 → IsReady seen leaves unsynced host
ready_host {D} seen leaves unsynced host s same answers kept disk synced =
    subst (λ (x : Served D). IsReady seen leaves unsynced x) (sym same)
    (record { is_open = answers; kept_is = kept; disk = disk; synced = synced })

-- its parts
pub opened : {D : Type 0} (flights : List Flown) (grid : Ladders) (cap today : ℕ) (host : Attended D) (desk : Desk) (s : Served D)
    → host.flights ≡ flights → host.session ≡ 1 → host.desk ≡ desk → desk.today ≡ today → desk.standing ≡ Between
    → desk.lines ≡ 0 → desk.is_stranger ≡ false → host.serving ≡ s → s.grid ≡ grid → s.cap ≡ cap → IsOpened flights grid cap today host
opened {D} flights grid cap today host desk s flown session is day standing lines client serving over most = record {
  flights_are = flown;
  session_is = session;
  today_is = ap (λ (d : Desk). d.today) is ∙ day;
  standing_is = ap (λ (d : Desk). d.standing) is ∙ standing;
  lines_are = ap (λ (d : Desk). d.lines) is ∙ lines;
  client_is = ap (λ (d : Desk). d.is_stranger) is ∙ client;
  grid_is = ap (λ (x : Served D). x.grid) serving ∙ over;
  cap_is = ap (λ (x : Served D). x.cap) serving ∙ most;
}

-- of the epoch of its seal
pub epoch_to : {D : Type 0} (host : Attended D) (desk : Desk) (entry : Belonging) → host.desk ≡ desk → desk.epoch ≡ entry.era.epoch
    → host.desk.epoch ≡ entry.era.epoch
epoch_to {D} host desk entry is of = ap (λ (d : Desk). d.epoch) is ∙ of

-- the viewers of what it shows
pub are_viewers : (grid found : Ladders) (book : Book) (viewers : List Viewed) → found ≡ grid
    → All (λ v. v ≡ seen_nothing book found) viewers → AreViewers grid viewers
are_viewers grid found book viewers is each =
    subst (λ (g : Ladders). AreViewers g viewers) is (record { book = book; each = each })

module _ {D : Type 0} where
  -- what stood behind the lines that it has
  pub cut_to : {B : Type 0} (seen : B → Option (List ℕ)) (leaves : B → List ℕ → Type 0) (unsynced : B → ℕ) (grid : Ladders) (cap : ℕ)
      (file : List ℕ) (host s : Served D) (lines : List Entry) (rest : Rest) (old new : B) → host ≡ s → s.journal ≡ lines
      → StoodBehind grid cap file false lines rest → GoesAside seen leaves unsynced old new rest (drop (length (open_text lines)) file)
      → IsCutTo seen leaves unsynced grid cap file host.journal old new
  cut_to {B} seen leaves unsynced grid cap file host s lines rest old new same is behind aside =
      subst (λ (l : List Entry). IsCutTo seen leaves unsynced grid cap file l old new) (sym (ap (λ (x : Served D). x.journal) same ∙ is))
      (record { rest = rest; behind = behind; aside = aside })

  -- and these lines are the longest journal
  pub recovered_to : (grid : Ladders) (cap : ℕ) (file : List ℕ) (host s : Served D) (lines : List Entry) → host ≡ s → s.journal ≡ lines
      → IsRecovered grid cap file lines → IsRecovered grid cap file host.journal
  recovered_to grid cap file host s lines same is recovered =
      subst (IsRecovered grid cap file) (sym (ap (λ (x : Served D). x.journal) same ∙ is)) recovered

  -- which begins with what was sealed
  pub keeps_to : (beside : Beside) (file : List ℕ) (host s : Served D) (lines : List Entry) → host ≡ s → s.journal ≡ lines
      → KeepsSealed beside file lines → KeepsSealed beside file host.journal
  keeps_to beside file host s lines same is keeps =
      subst (KeepsSealed beside file) (sym (ap (λ (x : Served D). x.journal) same ∙ is)) keeps

  -- and is sealed
  pub sealed_to : (beside : Beside) (basis : Basis) (file : List ℕ) (host s : Served D) (lines : List Entry) (old new : Option (List ℕ))
      (leaves : List ℕ → Type 0) → host ≡ s → s.journal ≡ lines
      → IsSealedIn Open beside basis file lines old new leaves → IsSealedIn Open beside basis file host.journal old new leaves
  sealed_to beside basis file host s lines old new leaves same is sealed =
      subst (λ (l : List Entry). IsSealedIn Open beside basis file l old new leaves) (sym (ap (λ (x : Served D). x.journal) same ∙ is)) sealed

  pub named_to : (host s : Served D) (lines : List Entry) (seals : List ℕ → Type 0) → host ≡ s → s.journal ≡ lines → s.kept ≡ s.journal
      → NamesAll lines seals → NamesAll host.kept seals
  named_to host s lines seals same is kept names =
      subst (λ (l : List Entry). NamesAll l seals) (sym (ap (λ (x : Served D). x.kept) same ∙ (kept ∙ is))) names

  -- by the seal of this entry
  pub stands_to : (entry : Belonging) (host s : Served D) (lines : List Entry) (seals : List ℕ → Type 0) → host ≡ s → s.journal ≡ lines
      → s.kept ≡ s.journal → Stands entry lines seals → Stands entry host.kept seals
  stands_to entry host s lines seals same is kept stands =
      subst (λ (l : List Entry). Stands entry l seals) (sym (ap (λ (x : Served D). x.kept) same ∙ (kept ∙ is))) stands

  -- with the runs that are known
  pub runs_to : (beside : Beside) (file : List ℕ) (host s : Served D) (lines : List Entry) (runs : List Run) → host ≡ s → s.journal ≡ lines
      → AreRunsOver beside file (length lines) runs → AreRunsOver beside file (length host.journal) runs
  runs_to beside file host s lines runs same is are =
      subst (λ (l : List Entry). AreRunsOver beside file (length l) runs) (sym (ap (λ (x : Served D). x.journal) same ∙ is)) are

  -- of what a crash leaves nothing is lost or denied
  pub kept_to : (grid core : Ladders) (cap most : ℕ) (file : List ℕ) (journals_old seals_old seals_new : List ℕ → Type 0)
      (leaves : D → List ℕ → Type 0) (host s : Served D) → host ≡ s → core ≡ grid → cap ≡ most
      → KeepsBoth core cap file journals_old seals_old (leaves s.tape) seals_new
      → KeepsBoth grid most file journals_old seals_old (leaves host.tape) seals_new
  kept_to grid core cap most file jo so sn leaves host s same over is keeps =
      subst (λ (x : Ladders × ℕ × Served D). KeepsBoth x.0 x.1 file jo so (leaves x.2.tape) sn) (λ i. (over i, is i, sym same i)) keeps

-- whose era is that on this day
pub era_to : (beside : Beside) (file : List ℕ) (day : ℕ) (era : Era) (entry : Belonging) → entry.era ≡ era → IsEraOver beside file day era
    → IsEraOver beside file day entry.era
era_to beside file day era entry is over = subst (IsEraOver beside file day) (sym is) over

pub dated_to : (era : Era) (entry : Belonging) (seals : List ℕ → Type 0) → entry.era ≡ era → AreOfEra era seals → AreOfEra entry.era seals
dated_to era entry seals is are = subst (λ (e : Era). AreOfEra e seals) (sym is) are

-- over the limits that were given
pub lost_to : (grid core : Ladders) (cap most : ℕ) (file : List ℕ) (journals_old seals_old journals_new seals_new : List ℕ → Type 0)
    → core ≡ grid → cap ≡ most → KeepsBoth core cap file journals_old seals_old journals_new seals_new
    → KeepsBoth grid most file journals_old seals_old journals_new seals_new
lost_to grid core cap most file jo so jn sn over is keeps =
    subst (λ (x : Ladders × ℕ). KeepsBoth x.0 x.1 file jo so jn sn) (λ i. (over i, is i)) keeps

pub no_entry : (grid : Ladders) (beside : Beside) (basis : Basis) (file : List ℕ) (journal : List Entry)
    → IsRecovered grid most_lines file journal → HasNoSeal Open beside basis file journal → IsTooLong grid beside basis file
no_entry grid beside basis file journal recovered none = inr (record { journal = journal; recovered = recovered; no_seal = none })

-- nothing was changed
pub as_before : (grid : Ladders) (cap : ℕ) (file : List ℕ) (journals seals : List ℕ → Type 0) → KeepsBoth grid cap file journals seals journals seals
as_before grid cap file journals seals = unchanged_both grid cap file journals seals
