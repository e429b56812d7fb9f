-- The day of a host, and the era of a seal that is put in place.
use Rattle.std.proofs.Common.{◌≡◌, ◌⊎◌, inl, inr, ℕ, List, true, length, ap, subst, sym, ◌∙◌}
use Rattle.std.specs.Prelude.{Option, Some, Result, Ok, Err, IfErr, IfOk, OnOk}
use Rattle.seat_disk.specs.Leaving.{OldOr, Only}
use Rattle.seat_journal.specs.declared.entry.Entry.{Entry}
use Rattle.seat_recovery.specs.OpenText.{open_text}
use Rattle.seat_seal.specs.Imprints.{imprint_of}
use Rattle.seat_seal.specs.Rules.{is_sealed}
use Rattle.seat_seal.specs.Eras.{day_of_era}
use Rattle.seat_seal.specs.Known.{IsEraOf, runs_known}
use Rattle.seat_seal.specs.declared.beside.Basis.{Basis}
use Rattle.seat_seal.specs.declared.beside.Beside.{Beside}
use Rattle.seat_seal.specs.declared.era.Era.{Era}
use Rattle.seat_seal.specs.declared.run.Run.{Run}
use Rattle.seat_seal.specs.declared.seal.JournalState.TheVariants.{Open}
use Rattle.seat_seal.specs.declared.seal.SealedJournal.{SealedJournal}
use Rattle.seat_seal.specs.declared.seal.Sealed.{Sealed as Belonging}
use Rattle.seat_sealing.specs.Pairs.{NamesEach}
use Rattle.seat_sealing.specs.Steps.{alone_text}
use Rattle.seat_desk.specs.declared.fault.DeskFault.{DeskFault}
use Rattle.seat_desk.specs.declared.fault.DeskFault.TheVariants.{TooLarge}
use Rattle.seat_restoring.specs.Comparing.{Differs}
use Rattle.seat_restoring.specs.Dating.{AreOfEra, IsDayFor, IsNotEarlier, IsOfDay, IsOfEra, IsSince, NamesStill, Stands, TakesPlace, day_for}
use Rattle.seat_restoring.specs.Sealing.{AreRunsOver}
use Rattle.seat_restoring.specs.Serving.{IsEndedEntry, IsNoEnd, NamesAll}
use Rattle.seat_restoring.specs.declared.dating.NoDay.{NoDay}
use Rattle.seat_restoring.specs.declared.dating.NoDay.TheVariants.{Missing, Earlier, Refused}

-- ---- the day

-- a seal that is refused says nothing of the day
pub refused_no_day : (beside : Beside) (file : List ℕ) (said : Option ℕ) (answer : Result ℕ NoDay) (fault : DeskFault)
    → IsOfDay (Refused fault) → IsDayFor beside file said answer
refused_no_day beside file said answer fault none = absurd none

pub refused_differs : (beside : Beside) (basis : Basis) (file : List ℕ) (fault other : DeskFault) → Differs beside basis file fault
    → Refused fault ≡ Refused other → Differs beside basis file other
refused_differs beside basis file fault other differs same =
    let is : fault ≡ other = cc same in
    subst (λ (f : DeskFault). Differs beside basis file f) is differs

of_day_not : (beside : Beside) (basis : Basis) (file : List ℕ) (f : NoDay) (fault : DeskFault) → IsOfDay f → f ≡ Refused fault
    → Differs beside basis file fault
of_day_not beside basis file Missing fault of is = absurd (cc is)
of_day_not beside basis file (Earlier known) fault of is = absurd (cc is)
of_day_not beside basis file (Refused other) fault of is = absurd of

pub day_unrefused : (beside : Beside) (basis : Basis) (file : List ℕ) (answer : Result ℕ NoDay) → IfErr answer IsOfDay
    → IfErr answer (λ f. (fault : DeskFault) → f ≡ Refused fault → Differs beside basis file fault)
day_unrefused beside basis file (Ok day) of = tt
day_unrefused beside basis file (Err f) of = λ fault is. of_day_not beside basis file f fault of is

-- the day is that by the era that is known
day_is : (beside : Beside) (file : List ℕ) (said : Option ℕ) (era : Era) (known : Option ℕ) (answer : Result ℕ NoDay)
    → IsEraOf beside file era → known ≡ day_of_era era → answer ≡ day_for known said → IsDayFor beside file said answer
day_is beside file said era known answer is_era is_known is = record {
  era = era;
  is_era = is_era;
  answer_is = is ∙ ap (λ (k : Option ℕ). day_for k said) is_known;
}

pub day_found : (beside : Beside) (file : List ℕ) (said : Option ℕ) (era : Era) (known : Option ℕ) (answer : Result ℕ NoDay)
    → IsEraOf beside file era → known ≡ day_of_era era → answer ≡ day_for known said → OnOk answer (IsDayFor beside file said answer)
day_found beside file said era known (Ok day) is_era is_known is = day_is beside file said era known (Ok day) is_era is_known is
day_found beside file said era known (Err f) is_era is_known is = tt

pub day_wanting : (beside : Beside) (file : List ℕ) (said : Option ℕ) (era : Era) (known : Option ℕ) (answer : Result ℕ NoDay)
    → IsEraOf beside file era → known ≡ day_of_era era → answer ≡ day_for known said
    → IfErr answer (λ f. IsOfDay f → IsDayFor beside file said answer)
day_wanting beside file said era known (Ok day) is_era is_known is = tt
day_wanting beside file said era known (Err f) is_era is_known is = λ of. day_is beside file said era known (Err f) is_era is_known is

pub day_since : (beside : Beside) (file : List ℕ) (era : Era) (known : Option ℕ) (answer : Result ℕ NoDay)
    → IsEraOf beside file era → known ≡ day_of_era era → IfOk answer (IsSince known) → IfOk answer (IsNotEarlier beside file)
day_since beside file era known (Ok day) is_era is_known since = record {
  era = era;
  is_era = is_era;
  since = subst (λ (k : Option ℕ). IsSince k day) is_known since;
}
day_since beside file era known (Err f) is_era is_known since = tt

-- ---- the era

-- where it is there, and nothing else
pub dated : (entry : Belonging) (era : Era) (seals : List ℕ → Type 0) → entry.era ≡ era → Only (alone_text entry) seals → AreOfEra era seals
dated entry era seals is only = record {
  each = λ seal stands. record { entry = entry; is_text = only seal stands; era_is = is };
}

-- where it may be there, or what stood there
pub stays : (entry : Belonging) (era : Era) (old new : List ℕ → Type 0) → entry.era ≡ era → OldOr (alone_text entry) old new
    → AreOfEra era old → AreOfEra era new
stays entry era old new is left before = record { each = λ seal stands. pick seal (left seal stands) }
  where
    pick : (seal : List ℕ) → old seal ⊎ (seal ≡ alone_text entry) → IsOfEra era seal
    pick seal (inl stood) = before.each seal stood
    pick seal (inr it) = record { entry = entry; is_text = it; era_is = is }

-- where nothing is written
pub as_before : (era : Era) (seals : List ℕ → Type 0) → AreOfEra era seals → AreOfEra era seals
as_before era seals before = before

-- ---- the seal that a host holds

pub entry_of_runs : (begun : Belonging) (runs : List Run) (basis : Basis) (lines : List Entry) (answer : Result Belonging DeskFault)
    → runs ≡ runs_known (Some begun) → IfOk answer (IsEndedEntry basis runs lines) → IfOk answer (IsEndedEntry basis begun.runs lines)
entry_of_runs begun runs basis lines answer is ended =
    subst (λ (r : List Run). IfOk answer (IsEndedEntry basis r lines)) is ended

pub no_entry_of_runs : (begun : Belonging) (runs : List Run) (basis : Basis) (lines : List Entry) (answer : Result Belonging DeskFault)
    → runs ≡ runs_known (Some begun) → IfErr answer (λ f. f ≡ TooLarge → IsNoEnd basis runs lines)
    → IfErr answer (λ f. f ≡ TooLarge → IsNoEnd basis begun.runs lines)
no_entry_of_runs begun runs basis lines answer is none =
    subst (λ (r : List Run). IfErr answer (λ f. f ≡ TooLarge → IsNoEnd basis r lines)) is none

pub runs_of_entry : (beside : Beside) (file : List ℕ) (lines : List Entry) (count : ℕ) (runs : List Run) (entry : Belonging)
    → count ≡ length lines → AreRunsOver beside file count runs → entry.runs ≡ runs → AreRunsOver beside file (length lines) entry.runs
runs_of_entry beside file lines count runs entry many are is =
    subst (λ (r : List Run). AreRunsOver beside file (length lines) r) (sym is)
    (subst (λ (n : ℕ). AreRunsOver beside file n runs) many are)

pub stands : (entry : Belonging) (lines : List Entry) (seals : List ℕ → Type 0) → is_sealed entry ≡ true → entry.journal.state ≡ Open
    → entry.journal.imprint ≡ imprint_of (open_text lines) → Only (alone_text entry) seals → Stands entry lines seals
stands entry lines seals rules state same only = record { rules = rules; state_is = state; imprint_is = same; only = only }

-- another took its place, of the same journal
pub takes_place : (old new : Belonging) (seals_old seals_new : List ℕ → Type 0) → new.journal ≡ old.journal → is_sealed new ≡ true
    → Only (alone_text new) seals_new → TakesPlace old new seals_old seals_new
takes_place old new so sn same rules only = record {
  each = λ lines was. record {
    rules = rules;
    state_is = subst (λ (j : SealedJournal). j.state ≡ Open) (sym same) was.state_is;
    imprint_is = subst (λ (j : SealedJournal). j.imprint ≡ imprint_of (open_text lines)) (sym same) was.imprint_is;
    only = only;
  };
}

-- that one or the other stands there
pub names_still : (old new : Belonging) (seals_old seals_new : List ℕ → Type 0) → new.journal ≡ old.journal
    → ((begun : List ℕ) → new.journal.state ≡ Open → new.journal.imprint ≡ imprint_of begun → NamesEach (alone_text new) begun)
    → OldOr (alone_text new) seals_old seals_new → NamesStill old seals_old seals_new
names_still old new so sn same names left = record { each = λ lines was named. record { each = λ s stood. pick lines was named s (left s stood) } }
  where
    pick : (lines : List Entry) → Stands old lines so → NamesAll lines so → (s : List ℕ) → so s ⊎ (s ≡ alone_text new) → NamesEach s (open_text lines)
    pick lines was named s (inl before) = named.each s before
    pick lines was named s (inr is) = subst (λ (x : List ℕ). NamesEach x (open_text lines)) (sym is)
        (names (open_text lines) (subst (λ (j : SealedJournal). j.state ≡ Open) (sym same) was.state_is)
        (subst (λ (j : SealedJournal). j.imprint ≡ imprint_of (open_text lines)) (sym same) was.imprint_is))

pub names_same : (old : Belonging) (seals : List ℕ → Type 0) → NamesStill old seals seals
names_same old seals = record { each = λ lines was named. named }
