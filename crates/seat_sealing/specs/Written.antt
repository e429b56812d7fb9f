-- A journal, its seal and the replies of a run, written one after the other.
use Rattle.std.specs.Prelude.{◌≡◌, ℕ, List, Option}
use Rattle.std.specs.Io.KnownBytes.{Appends}
use Rattle.airline_base.specs.Noting.{TookFront}
use Rattle.seat_disk.specs.Leaving.{Only, replaced_by}
use Rattle.seat_sealing.specs.Steps.{Counted, OneFailed}

-- the journal and the seal of it alone have their names, and a crash leaves nothing else of them
pub record AreInPlace (journal alone : List ℕ) (journal_old journal_new seal_old seal_new : Option (List ℕ))
    (journals seals : List ℕ → Type 0) : Type 0 where
  pub first : journal_new ≡ replaced_by journal_old journal
  pub kept : Only journal journals
  pub second : seal_new ≡ replaced_by seal_old alone
  pub seal_kept : Only alone seals

-- the journal or its seal failed, in one of the three steps, and no reply was written
pub record SealingFailed {J K W : Type 0} (failures : J → ℕ) (named : J → Option (List ℕ)) (seal_failures : K → ℕ)
    (seal_named : K → Option (List ℕ)) (both text alone : List ℕ)
    (journal_old journal_new : J) (seal_old seal_new : K) (out_old out_new : W) : Type 0 where
  pub step : OneFailed failures named seal_failures seal_named both text alone journal_old journal_new seal_old seal_new
  pub no_reply : out_new ≡ out_old

-- the journal and its seal are in place, the output of the replies failed, and these are begun
pub record RepliesFailed {W : Type 0} (placed : Type 0) (failures : W → ℕ) (contents : W → Option (List ℕ))
    (replies : List ℕ) (out_old out_new : W) : Type 0 where
  pub in_place : placed
  pub counted : Counted failures out_old out_new
  pub begun : TookFront (contents out_old) (contents out_new) replies

-- nothing failed: the journal and its seal are in place, and the replies stand behind what the output had
pub record AreWritten (placed : Type 0) (replies : List ℕ) (out_old out_new : Option (List ℕ)) : Type 0 where
  pub in_place : placed
  pub replied : Appends out_old out_new replies
