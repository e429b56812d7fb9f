-- Several older journals whose bookings are carried to one newer journal: each is marked, in order, and only behind the last mark the newer one is put.
use Rattle.std.specs.Prelude.{◌≡◌, ◌⊎◌, ℕ, List, [], ◌∷◌, Option}
use Rattle.std.specs.List.{AllByRecursion}
use Rattle.seat_disk.specs.Keeping.{KeepsNoMore}
use Rattle.seat_disk.specs.Syncs.{AllSynced, NoneUnsynced}
use Rattle.seat_disk.specs.declared.synced.Synced.{Synced}
use Rattle.seat_seal.specs.declared.imprint.Imprint.{Imprint}
use Rattle.seat_handing.specs.Handing.{put_back}
use Rattle.seat_handing.specs.Marking.{NeverBoth, SaysCarried}
use Rattle.hand_steps.specs.Steps.{HasFailed, IsReplaced}
use Rattle.hand_steps.specs.Stopping.{HasFailedBack, HasNoneBack, IsPutBack}
use Rattle.seat_handing.specs.declared.several.OlderMark.{OlderMark}

-- each says that the bookings were carried to the journal of this mark
pub record SayCarried (mark : Imprint) (marks : List OlderMark) : Type 0 where
  pub each : AllByRecursion (λ m. SaysCarried mark m.mark) marks

-- of none of the seals does a crash leave both one without the mark and more of the newer journal than it did before
pub record NeverAny {S : Type 0} (mark : Imprint) (journals_old journals_new : List ℕ → Type 0) (leaves : S → List ℕ → Type 0) (seals : List S)
    : Type 0 where
  pub each : AllByRecursion (λ seal. NeverBoth mark journals_old journals_new (leaves seal)) seals

-- ---- the marks

-- each seal has its mark, and a crash leaves nothing else
abbrev pub MarkedOn : {S : Type 0} → (S → ℕ) → (S → Option (List ℕ)) → (S → List ℕ → Type 0) → List OlderMark → List S → List S → Type 0
MarkedOn failures named leaves [] olds news = news ≡ olds
MarkedOn failures named leaves (m ∷ marks) (old ∷ olds) (new ∷ news) =
    IsReplaced failures named leaves m.mark old new × MarkedOn failures named leaves marks olds news
MarkedOn failures named leaves _ _ _ = ⊥

pub record AreMarked {S : Type 0} (failures : S → ℕ) (named : S → Option (List ℕ)) (leaves : S → List ℕ → Type 0) (marks : List OlderMark)
    (olds news : List S) : Type 0 where
  pub each : MarkedOn failures named leaves marks olds news

-- the mark of one failed, and those behind it were not touched
pub record FailsHere {S : Type 0} (failures : S → ℕ) (named : S → Option (List ℕ)) (mark : List ℕ) (old mid : S) (olds news : List S) : Type 0 where
  pub failed : HasFailed failures named mark old mid
  pub later : news ≡ olds

-- one failed, and each that was marked has again what it had
abbrev pub UnmarkedOn : {S : Type 0} → (S → ℕ) → (S → Option (List ℕ)) → (S → List ℕ → Type 0) → List OlderMark → List S → List S → Type 0
UnmarkedOn failures named leaves (m ∷ marks) (old ∷ olds) (new ∷ news) =
    (mid : _) × IsPutBack failures named leaves (put_back m.hand m.before) mid new
    × (FailsHere failures named m.mark old mid olds news
    ⊎ (IsReplaced failures named leaves m.mark old mid × UnmarkedOn failures named leaves marks olds news))
UnmarkedOn failures named leaves _ _ _ = ⊥

pub record AreUnmarked {S : Type 0} (failures : S → ℕ) (named : S → Option (List ℕ)) (leaves : S → List ℕ → Type 0) (marks : List OlderMark)
    (olds news : List S) : Type 0 where
  pub each : UnmarkedOn failures named leaves marks olds news

-- one had another mark, or can't be put back: it stays, and so do those ahead of it; each behind it that was marked has again what it had
abbrev pub StoppedOn : {S : Type 0} → (S → ℕ) → (S → Option (List ℕ)) → (S → List ℕ → Type 0) → List OlderMark → List S → List S → Type 0
StoppedOn failures named leaves (m ∷ marks) (old ∷ olds) (new ∷ news) =
    ((mid : _) × (HasNoneBack (put_back m.hand m.before) mid new ⊎ HasFailedBack failures named (put_back m.hand m.before) mid new)
    × (FailsHere failures named m.mark old mid olds news
    ⊎ (IsReplaced failures named leaves m.mark old mid × UnmarkedOn failures named leaves marks olds news)))
    ⊎ (IsReplaced failures named leaves m.mark old new × StoppedOn failures named leaves marks olds news)
StoppedOn failures named leaves _ _ _ = ⊥

pub record AreStopped {S : Type 0} (failures : S → ℕ) (named : S → Option (List ℕ)) (leaves : S → List ℕ → Type 0) (marks : List OlderMark)
    (olds news : List S) : Type 0 where
  pub each : StoppedOn failures named leaves marks olds news

-- ---- and taken back

-- each has again what it had
abbrev pub BackOn : {S : Type 0} → (S → ℕ) → (S → Option (List ℕ)) → (S → List ℕ → Type 0) → List OlderMark → List S → List S → Type 0
BackOn failures named leaves [] olds news = news ≡ olds
BackOn failures named leaves (m ∷ marks) (old ∷ olds) (new ∷ news) =
    IsPutBack failures named leaves (put_back m.hand m.before) old new × BackOn failures named leaves marks olds news
BackOn failures named leaves _ _ _ = ⊥

pub record AreBack {S : Type 0} (failures : S → ℕ) (named : S → Option (List ℕ)) (leaves : S → List ℕ → Type 0) (marks : List OlderMark)
    (olds news : List S) : Type 0 where
  pub each : BackOn failures named leaves marks olds news

-- those behind one have; it had another mark, or can't be put back, and those ahead of it were not touched
abbrev pub StayOn : {S : Type 0} → (S → ℕ) → (S → Option (List ℕ)) → (S → List ℕ → Type 0) → List OlderMark → List S → List S → Type 0
StayOn failures named leaves (m ∷ marks) (old ∷ olds) (new ∷ news) =
    ((new ≡ old) × StayOn failures named leaves marks olds news)
    ⊎ ((HasNoneBack (put_back m.hand m.before) old new ⊎ HasFailedBack failures named (put_back m.hand m.before) old new)
    × BackOn failures named leaves marks olds news)
StayOn failures named leaves _ _ _ = ⊥

pub record AreStaying {S : Type 0} (failures : S → ℕ) (named : S → Option (List ℕ)) (leaves : S → List ℕ → Type 0) (marks : List OlderMark)
    (olds news : List S) : Type 0 where
  pub each : StayOn failures named leaves marks olds news

-- ---- all of it

-- all of them have their marks, and of the last one this holds
pub record AreAllHanded {S : Type 0} (failures : S → ℕ) (named : S → Option (List ℕ)) (leaves : S → List ℕ → Type 0) (marks : List OlderMark)
    (olds news : List S) (handed : Type 0) : Type 0 where
  pub are_marked : AreMarked failures named leaves marks olds news
  pub last : handed

-- the newer journal, its seal and the last older one's have what they had
pub record AreUntouched {S J K : Type 0} (seal_old seal_new : S) (journal_old journal_new : J) (new_old new_new : K) : Type 0 where
  pub seal : seal_new ≡ seal_old
  pub journal : journal_new ≡ journal_old
  pub new_seal : new_new ≡ new_old

-- a mark failed, and those ahead of it were taken back; or behind all of them the last one was taken back, and so were they
pub record AreTakenBack {S : Type 0} (failures : S → ℕ) (named : S → Option (List ℕ)) (leaves : S → List ℕ → Type 0) (marks : List OlderMark)
    (olds news : List S) (untouched taken : Type 0) : Type 0 where
  pub step : (AreUnmarked failures named leaves marks olds news × untouched)
      ⊎ ((mids : List S) × AreMarked failures named leaves marks olds mids × AreBack failures named leaves marks mids news × taken)

-- so it is, but that some stay; or all have their marks, and the last one is unfinished
pub record AreUnfinished {S : Type 0} (failures : S → ℕ) (named : S → Option (List ℕ)) (leaves : S → List ℕ → Type 0) (marks : List OlderMark)
    (olds news : List S) (untouched taken unfinished : Type 0) : Type 0 where
  pub step : (AreStopped failures named leaves marks olds news × untouched)
      ⊎ (((mids : List S) × AreMarked failures named leaves marks olds mids × AreStaying failures named leaves marks mids news × taken)
      ⊎ (AreMarked failures named leaves marks olds news × unfinished))

-- ---- over files of which no bytes are known too

-- the names, and the files that have them, are on the disk
pub record EachSynced {S : Type 0} (synced : S → Synced) (seals : List S) : Type 0 where
  pub each : AllByRecursion (λ seal. AllSynced (synced seal)) seals

-- no file got a name ahead of a sync of it
abbrev pub UnsyncedOn : {S : Type 0} → (S → Synced) → List S → List S → Type 0
UnsyncedOn synced [] [] = Unit {0}
UnsyncedOn synced (old ∷ olds) (new ∷ news) = NoneUnsynced (synced old) (synced new) × UnsyncedOn synced olds news
UnsyncedOn synced _ _ = ⊥

pub record EachUnsynced {S : Type 0} (synced : S → Synced) (olds news : List S) : Type 0 where
  pub each : UnsyncedOn synced olds news

-- a crash leaves no other kept files than it did
abbrev pub KeptOn : {S : Type 0} → (S → List (List ℕ) → Type 0) → List S → List S → Type 0
KeptOn kept [] [] = Unit {0}
KeptOn kept (old ∷ olds) (new ∷ news) = KeepsNoMore (kept old) (kept new) × KeptOn kept olds news
KeptOn kept _ _ = ⊥

pub record EachKept {S : Type 0} (kept : S → List (List ℕ) → Type 0) (olds news : List S) : Type 0 where
  pub each : KeptOn kept olds news
