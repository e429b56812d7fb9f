-- The order in which a journal is marked and the newer one is put in its place, by what a crash may leave of the older one's seal, of the newer journal
-- and of its seal.
use Rattle.std.specs.Prelude.{◌≡◌, ◌⊎◌, ℕ, Bool, true, false, List, Option, None, Some}
use Rattle.std.specs.Io.KnownBytes.{Appends}
use Rattle.seat_disk.specs.Leaving.{OldOr, Only, Within}
use Rattle.seat_sealing.specs.Steps.{InOrder}
use Rattle.seat_sealing.specs.Written.{AreInPlace}
use Rattle.hand_steps.specs.Steps.{IsReplaced}

-- what is put back into the older journal's seal where the newer one fails: what it had, where the mark is to be taken back
abbrev pub back_where : Bool → List ℕ → Option (List ℕ)
back_where true before = Some before
back_where false before = None

-- a crash leaves what it did, or what is put back, where something is
abbrev pub OldOrBack : Option (List ℕ) → (List ℕ → Type 0) → (List ℕ → Type 0) → Type 0
OldOrBack back old new = (c : List ℕ) → new c → old c ⊎ (back ≡ Some c)

-- of the newer journal a crash leaves no more than before, and of the older one's seal what it might have left, the mark, or what is put back
pub record IsMarking (mark : List ℕ) (back : Option (List ℕ)) (both : List ℕ) (marks_old journals_old seals_old marks_new journals_new
    seals_new : List ℕ → Type 0) : Type 0 where
  pub older : (c : List ℕ) → marks_new c → marks_old c ⊎ ((c ≡ mark) ⊎ (back ≡ Some c))
  pub newer : Within journals_new journals_old
  pub seal : OldOr both seals_old seals_new

-- a crash leaves the mark and nothing else: only then it may leave the newer journal, and its seal follows
pub record IsPutting (mark both text alone : List ℕ) (journals_old seals_old marks_new journals_new seals_new : List ℕ → Type 0) : Type 0
  where
    pub older : Only mark marks_new
    pub newer : InOrder both text alone journals_old seals_old journals_new seals_new

-- one of the two
pub record InHandOrder (mark : List ℕ) (back : Option (List ℕ)) (both text alone : List ℕ) (marks_old journals_old seals_old marks_new
    journals_new seals_new : List ℕ → Type 0) : Type 0 where
  pub step : IsMarking mark back both marks_old journals_old seals_old marks_new journals_new seals_new
      ⊎ IsPutting mark both text alone journals_old seals_old marks_new journals_new seals_new

-- the older journal is marked, and the newer one and its seal are in their places
pub record AreHanded {S : Type 0} (failures : S → ℕ) (named : S → Option (List ℕ)) (leaves : S → List ℕ → Type 0) (mark text alone : List ℕ)
    (seal_old seal_new : S) (journal_old journal_new new_old new_new : Option (List ℕ)) (journals seals : List ℕ → Type 0) : Type 0 where
  pub is_marked : IsReplaced failures named leaves mark seal_old seal_new
  pub in_place : AreInPlace text alone journal_old journal_new new_old new_new journals seals

-- and it is said
pub record AreHandedOver (handed : Type 0) (report : List ℕ) (out_old out_new : Option (List ℕ)) : Type 0 where
  pub are_handed : handed
  pub is_said : Appends out_old out_new report
