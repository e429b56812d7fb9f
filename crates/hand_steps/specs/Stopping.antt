-- Where a file failed as a journal is handed over: which one, how far all was, and what then became of the mark. The files are that of the older journal's
-- seal, S, of the newer journal, J, and of its seal, K.
use Rattle.std.specs.Prelude.{◌≡◌, ◌⊎◌, ℕ, List, Option, None, Some}
use Rattle.airline_base.specs.Noting.{TookFront}
use Rattle.seat_sealing.specs.Steps.{Counted}
use Rattle.hand_steps.specs.Steps.{HasFailed, HasFailedAhead, IsReplaced}

-- the mark failed, and the other files were not touched
pub record MarkFailed {S J K : Type 0} (s_failures : S → ℕ) (s_named : S → Option (List ℕ)) (mark : List ℕ)
    (seal_old seal_new : S) (journal_old journal_new : J) (new_old new_new : K) : Type 0 where
  pub failed : HasFailed s_failures s_named mark seal_old seal_new
  pub journal : journal_new ≡ journal_old
  pub new_seal : new_new ≡ new_old

-- behind the mark the seal failed that names both what stood under the newer journal's name and that journal, which was not touched
pub record BothFailed {S J K : Type 0} (s_failures : S → ℕ) (s_named : S → Option (List ℕ)) (s_leaves : S → List ℕ → Type 0)
    (k_failures : K → ℕ) (k_named : K → Option (List ℕ)) (mark both : List ℕ)
    (seal_old seal_new : S) (journal_old journal_new : J) (new_old new_new : K) : Type 0 where
  pub is_marked : IsReplaced s_failures s_named s_leaves mark seal_old seal_new
  pub failed : HasFailed k_failures k_named both new_old new_new
  pub journal : journal_new ≡ journal_old

-- behind that seal the newer journal failed ahead of its name
pub record TextFailed {S J K : Type 0} (s_failures : S → ℕ) (s_named : S → Option (List ℕ)) (s_leaves : S → List ℕ → Type 0)
    (j_failures : J → ℕ) (j_named : J → Option (List ℕ)) (j_leaves : J → List ℕ → Type 0)
    (k_failures : K → ℕ) (k_named : K → Option (List ℕ)) (k_leaves : K → List ℕ → Type 0) (mark both : List ℕ)
    (seal_old seal_new : S) (journal_old journal_new : J) (new_old new_new : K) : Type 0 where
  pub is_marked : IsReplaced s_failures s_named s_leaves mark seal_old seal_new
  pub is_sealed : IsReplaced k_failures k_named k_leaves both new_old new_new
  pub failed : HasFailedAhead j_failures j_named j_leaves journal_old journal_new

-- one of these three: the newer journal's name has certainly what it had
pub record FailedAhead {S J K : Type 0} (s_failures : S → ℕ) (s_named : S → Option (List ℕ)) (s_leaves : S → List ℕ → Type 0)
    (j_failures : J → ℕ) (j_named : J → Option (List ℕ)) (j_leaves : J → List ℕ → Type 0)
    (k_failures : K → ℕ) (k_named : K → Option (List ℕ)) (k_leaves : K → List ℕ → Type 0) (mark both : List ℕ)
    (seal_old seal_new : S) (journal_old journal_new : J) (new_old new_new : K) : Type 0 where
  pub step : MarkFailed s_failures s_named mark seal_old seal_new journal_old journal_new new_old new_new
      ⊎ (BothFailed s_failures s_named s_leaves k_failures k_named mark both seal_old seal_new journal_old journal_new new_old new_new
      ⊎ TextFailed s_failures s_named s_leaves j_failures j_named j_leaves k_failures k_named k_leaves mark both seal_old seal_new
      journal_old journal_new new_old new_new)

-- behind the mark and that seal the newer journal failed as it took its name, and may have it
pub record NameFailed {S J K : Type 0} (s_failures : S → ℕ) (s_named : S → Option (List ℕ)) (s_leaves : S → List ℕ → Type 0)
    (j_failures : J → ℕ) (j_named : J → Option (List ℕ))
    (k_failures : K → ℕ) (k_named : K → Option (List ℕ)) (k_leaves : K → List ℕ → Type 0) (mark both text : List ℕ)
    (seal_old seal_new : S) (journal_old journal_new : J) (new_old new_new : K) : Type 0 where
  pub is_marked : IsReplaced s_failures s_named s_leaves mark seal_old seal_new
  pub is_sealed : IsReplaced k_failures k_named k_leaves both new_old new_new
  pub failed : HasFailed j_failures j_named text journal_old journal_new

-- behind the mark and the newer journal the seal of that one alone failed
pub record AloneFailed {S J K : Type 0} (s_failures : S → ℕ) (s_named : S → Option (List ℕ)) (s_leaves : S → List ℕ → Type 0)
    (j_failures : J → ℕ) (j_named : J → Option (List ℕ)) (j_leaves : J → List ℕ → Type 0)
    (k_failures : K → ℕ) (k_named : K → Option (List ℕ)) (k_leaves : K → List ℕ → Type 0) (mark both text alone : List ℕ)
    (seal_old seal_new : S) (journal_old journal_new : J) (new_old new_new : K) : Type 0 where
  pub is_marked : IsReplaced s_failures s_named s_leaves mark seal_old seal_new
  pub is_put : IsReplaced j_failures j_named j_leaves text journal_old journal_new
  pub mid : K
  pub is_sealed : IsReplaced k_failures k_named k_leaves both new_old mid
  pub failed : HasFailed k_failures k_named alone mid new_new

-- ---- what then became of the mark

-- the bytes to be put back stand in the older journal's seal again
pub record IsPutBack {S : Type 0} (failures : S → ℕ) (named : S → Option (List ℕ)) (leaves : S → List ℕ → Type 0) (back : Option (List ℕ))
    (old new : S) : Type 0 where
  pub bytes : List ℕ
  pub is : back ≡ Some bytes
  pub is_put : IsReplaced failures named leaves bytes old new

-- nothing is to be put back, and nothing was done
pub record HasNoneBack {S : Type 0} (back : Option (List ℕ)) (old new : S) : Type 0 where
  pub none : back ≡ None
  pub same : new ≡ old

-- or that failed too
pub record HasFailedBack {S : Type 0} (failures : S → ℕ) (named : S → Option (List ℕ)) (back : Option (List ℕ)) (old new : S) : Type 0 where
  pub bytes : List ℕ
  pub is : back ≡ Some bytes
  pub failed : HasFailed failures named bytes old new

-- ---- the faults

-- a file failed ahead of the newer journal's name, and the mark was taken back
pub record IsTakenBack {S J K : Type 0} (s_failures : S → ℕ) (s_named : S → Option (List ℕ)) (s_leaves : S → List ℕ → Type 0)
    (j_failures : J → ℕ) (j_named : J → Option (List ℕ)) (j_leaves : J → List ℕ → Type 0)
    (k_failures : K → ℕ) (k_named : K → Option (List ℕ)) (k_leaves : K → List ℕ → Type 0) (mark : List ℕ) (back : Option (List ℕ)) (both : List ℕ)
    (seal_old seal_new : S) (journal_old journal_new : J) (new_old new_new : K) : Type 0 where
  pub mid : S
  pub ahead : FailedAhead s_failures s_named s_leaves j_failures j_named j_leaves k_failures k_named k_leaves mark both seal_old mid journal_old
      journal_new new_old new_new
  pub put_back : IsPutBack s_failures s_named s_leaves back mid seal_new

-- a file failed ahead of the newer journal's name, and the mark stands, or may
pub record IsLeft {S J K : Type 0} (s_failures : S → ℕ) (s_named : S → Option (List ℕ)) (s_leaves : S → List ℕ → Type 0)
    (j_failures : J → ℕ) (j_named : J → Option (List ℕ)) (j_leaves : J → List ℕ → Type 0)
    (k_failures : K → ℕ) (k_named : K → Option (List ℕ)) (k_leaves : K → List ℕ → Type 0) (mark : List ℕ) (back : Option (List ℕ)) (both : List ℕ)
    (seal_old seal_new : S) (journal_old journal_new : J) (new_old new_new : K) : Type 0 where
  pub mid : S
  pub ahead : FailedAhead s_failures s_named s_leaves j_failures j_named j_leaves k_failures k_named k_leaves mark both seal_old mid journal_old
      journal_new new_old new_new
  pub left : HasNoneBack back mid seal_new ⊎ HasFailedBack s_failures s_named back mid seal_new

-- so it is, or a file failed behind that: the mark stands
pub record IsUnfinished {S J K : Type 0} (s_failures : S → ℕ) (s_named : S → Option (List ℕ)) (s_leaves : S → List ℕ → Type 0)
    (j_failures : J → ℕ) (j_named : J → Option (List ℕ)) (j_leaves : J → List ℕ → Type 0)
    (k_failures : K → ℕ) (k_named : K → Option (List ℕ)) (k_leaves : K → List ℕ → Type 0) (mark : List ℕ) (back : Option (List ℕ))
    (both text alone : List ℕ) (seal_old seal_new : S) (journal_old journal_new : J) (new_old new_new : K) : Type 0 where
  pub step : IsLeft s_failures s_named s_leaves j_failures j_named j_leaves k_failures k_named k_leaves mark back both seal_old seal_new
      journal_old journal_new new_old new_new
      ⊎ (NameFailed s_failures s_named s_leaves j_failures j_named k_failures k_named k_leaves mark both text seal_old seal_new
      journal_old journal_new new_old new_new
      ⊎ AloneFailed s_failures s_named s_leaves j_failures j_named j_leaves k_failures k_named k_leaves mark both text alone seal_old seal_new
      journal_old journal_new new_old new_new)

-- all is in its place, and what is said of it failed
pub record IsUnsaid {W : Type 0} (handed : Type 0) (failures : W → ℕ) (contents : W → Option (List ℕ)) (report : List ℕ) (out_old out_new : W)
    : Type 0 where
  pub are_handed : handed
  pub counted : Counted failures out_old out_new
  pub begun : TookFront (contents out_old) (contents out_new) report
