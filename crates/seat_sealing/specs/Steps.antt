-- The three steps in which a journal and the seal beside it are replaced, by what a crash may leave in each.
use Rattle.std.specs.Prelude.{◌≡◌, ◌⊎◌, ℕ, List, Option}
use Rattle.seat_seal.specs.declared.seal.Sealed.{Sealed as Belonging}
use Rattle.seat_seal.specs.declared.seal.SealEntry.{SealEntry}
use Rattle.seat_seal.specs.declared.seal.SealEntry.TheVariants.{Sealed}
use Rattle.seat_seal.specs.Reading.{one_entry, two_entries}
use Rattle.seat_seal.specs.Text.{seal_text}
use Rattle.airline_base.specs.Noting.{noted}
use Rattle.seat_disk.specs.Leaving.{Within, Only, OldOr, replaced_by}

-- the seal that names both journals, the older one first
abbrev pub both_text : SealEntry → Belonging → List ℕ
both_text older newer = seal_text (two_entries older (Sealed newer))

-- the seal of the newer journal alone
abbrev pub alone_text : Belonging → List ℕ
alone_text newer = seal_text (one_entry (Sealed newer))

-- a crash leaves one of two texts, whole
abbrev pub OneOf : List ℕ → List ℕ → (List ℕ → Type 0) → Type 0
OneOf one other outcomes = (c : List ℕ) → outcomes c → (c ≡ one) ⊎ (c ≡ other)

-- the seal is about to name both journals: of the journal a crash leaves no more than before
pub record IsSealing (both : List ℕ) (journals_old seals_old journals_new seals_new : List ℕ → Type 0) : Type 0 where
  pub journal : Within journals_new journals_old
  pub seal : OldOr both seals_old seals_new

-- a crash leaves the seal of both and nothing else: only then it may leave the new journal
pub record IsReplacing (both text : List ℕ) (journals_old journals_new seals_new : List ℕ → Type 0) : Type 0 where
  pub journal : OldOr text journals_old journals_new
  pub seal : Only both seals_new

-- a crash leaves the new journal and nothing else: only then it may leave the seal of that one alone
pub record IsClosing (both text alone : List ℕ) (journals_new seals_new : List ℕ → Type 0) : Type 0 where
  pub journal : Only text journals_new
  pub seal : OneOf both alone seals_new

-- one of the three
pub record InOrder (both text alone : List ℕ) (journals_old seals_old journals_new seals_new : List ℕ → Type 0) : Type 0
  where
    pub step : IsSealing both journals_old seals_old journals_new seals_new
        ⊎ (IsReplacing both text journals_old journals_new seals_new ⊎ IsClosing both text alone journals_new seals_new)

-- ---- where one of the steps failed: what a read gives of both, and whose failure was counted

abbrev pub Counted : {D : Type 0} → (D → ℕ) → D → D → Type 0
Counted failures old new = failures new ≡ noted (failures old)

-- the seal of both failed: the journal was not touched
pub record FirstFailed {J K : Type 0} (failures : K → ℕ) (named : K → Option (List ℕ)) (both : List ℕ)
    (journal_old journal_new : J) (seal_old seal_new : K) : Type 0 where
  pub counted : Counted failures seal_old seal_new
  pub journal : journal_new ≡ journal_old
  pub seal : (named seal_new ≡ named seal_old) ⊎ (named seal_new ≡ replaced_by (named seal_old) both)

-- the journal failed: the seal names both
pub record SecondFailed {J K : Type 0} (failures : J → ℕ) (named : J → Option (List ℕ)) (seal_failures : K → ℕ)
    (seal_named : K → Option (List ℕ)) (both text : List ℕ)
    (journal_old journal_new : J) (seal_old seal_new : K) : Type 0 where
  pub counted : Counted failures journal_old journal_new
  pub journal : (named journal_new ≡ named journal_old) ⊎ (named journal_new ≡ replaced_by (named journal_old) text)
  pub same : seal_failures seal_new ≡ seal_failures seal_old
  pub seal : seal_named seal_new ≡ replaced_by (seal_named seal_old) both

-- the seal of the newer journal failed: that journal has its name, and the seal names both, or it alone
pub record ThirdFailed {J K : Type 0} (failures : J → ℕ) (named : J → Option (List ℕ)) (seal_failures : K → ℕ)
    (seal_named : K → Option (List ℕ)) (both text alone : List ℕ)
    (journal_old journal_new : J) (seal_old seal_new : K) : Type 0 where
  pub counted : Counted seal_failures seal_old seal_new
  pub same : failures journal_new ≡ failures journal_old
  pub journal : named journal_new ≡ replaced_by (named journal_old) text
  pub seal : (seal_named seal_new ≡ replaced_by (seal_named seal_old) both)
      ⊎ (seal_named seal_new ≡ replaced_by (seal_named seal_old) alone)

-- one of the three
pub record OneFailed {J K : Type 0} (failures : J → ℕ) (named : J → Option (List ℕ)) (seal_failures : K → ℕ)
    (seal_named : K → Option (List ℕ)) (both text alone : List ℕ)
    (journal_old journal_new : J) (seal_old seal_new : K) : Type 0 where
  pub step : FirstFailed seal_failures seal_named both journal_old journal_new seal_old seal_new
      ⊎ (SecondFailed failures named seal_failures seal_named both text journal_old journal_new seal_old seal_new
      ⊎ ThirdFailed failures named seal_failures seal_named both text alone journal_old journal_new seal_old seal_new)
