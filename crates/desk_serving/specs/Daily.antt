-- The day of a host of desks, in the seal of its journal while it serves.
use Rattle.std.specs.Prelude.{◌≡◌, ℕ, List, Option, Some, None, codes, true}
use Rattle.seat_disk.specs.Keeping.{KeepsNoMore}
use Rattle.seat_disk.specs.Leaving.{Only, replaced_by}
use Rattle.seat_journal.specs.declared.entry.Entry.{Entry}
use Rattle.seat_restoring.specs.Dating.{AreOfEra, IsDated, NamesStill, TakesPlace}
use Rattle.seat_restoring.specs.Serving.{IsNoEnd, NamesAll}
use Rattle.seat_seal.specs.declared.beside.Basis.{Basis}
use Rattle.seat_seal.specs.declared.run.Run.{Run}
use Rattle.desk_talk.specs.Closing.{IsEndedUnsealed}
use Rattle.seat_seal.specs.Rules.{is_sealed}
use Rattle.seat_seal.specs.declared.era.Era.{Era}
use Rattle.seat_seal.specs.declared.seal.Sealed.{Sealed as Belonging}
use Rattle.seat_sealing.specs.Steps.{alone_text}
use Rattle.seat_serving.specs.Served.{Served}
use Rattle.airline_base.specs.Noting.{noted}
use Rattle.desk_answers.specs.Hosts.{IsReady}
use Rattle.seat_desk.specs.Desk.{HasFailed}
use Rattle.seat_desk.specs.declared.fault.DeskFault.{DeskFault}
use Rattle.seat_desk.specs.declared.fault.DeskFault.TheVariants.{Device as NoFile, TooLarge}
use Rattle.seat_disk.specs.Growing.{KeepsFront}
use Rattle.seat_recovery.specs.OpenText.{open_text}
use Rattle.seat_rules.specs.Prefixes.{Begins}
use Rattle.seat_serving.specs.declared.serving.ServeFault.TheVariants.{Device, Memory as NoMemory}
use Rattle.desk_serving.specs.declared.day.GroupFault.{GroupFault}
use Rattle.desk_serving.specs.declared.day.GroupFault.TheVariants.{Serve, Seal}
use Rattle.desk_serving.specs.declared.serving.HostedFault.{HostedFault}
use Rattle.desk_serving.specs.declared.serving.HostedFault.TheVariants.{Day, Dating}

-- whatever a crash leaves of the seal is that of this entry, which has this day
pub record IsOnDay (today : ℕ) (entry : Belonging) (seals : List ℕ → Type 0) : Type 0 where
  pub dated : IsDated today entry.era
  pub rules : is_sealed entry ≡ true
  pub only : Only (alone_text entry) seals

-- one or the other seal stands there, and no older one is kept
pub record StaysNamed {K : Type 0} (leaves : K → List ℕ → Type 0) (kept : K → List (List ℕ) → Type 0) (old : Belonging)
    (before after : K) : Type 0 where
  pub named : NamesStill old (leaves before) (leaves after)
  pub only : KeepsNoMore (kept before) (kept after)

-- the seal has this day, and is of the same journal, with the same epoch and runs, and no call of its file failed
pub record IsSealedOn {K : Type 0} (named : K → Option (List ℕ)) (leaves : K → List ℕ → Type 0) (kept : K → List (List ℕ) → Type 0)
    (failures : K → ℕ) (day : ℕ) (old new : Belonging) (before after : K) : Type 0 where
  pub on_day : IsOnDay day new (leaves after)
  pub place : TakesPlace old new (leaves before) (leaves after)
  pub epoch_is : new.era.epoch ≡ old.era.epoch
  pub runs_are : new.runs ≡ old.runs
  pub replaced : (text : List ℕ) → replaced_by (named after) text ≡ replaced_by (named before) text
  pub counted : failures after ≡ failures before
  pub stays : StaysNamed leaves kept old before after

-- on some day
pub record IsSealedStill {K : Type 0} (named : K → Option (List ℕ)) (leaves : K → List ℕ → Type 0) (kept : K → List (List ℕ) → Type 0)
    (failures : K → ℕ) (old new : Belonging) (before after : K) : Type 0 where
  pub day : ℕ
  pub sealed : IsSealedOn named leaves kept failures day old new before after

-- a seal is of that epoch, and has a day
pub record IsOfEpoch (epoch : ℕ) (seals : List ℕ → Type 0) : Type 0 where
  pub era : Era
  pub epoch_is : era.epoch ≡ epoch
  pub day : ℕ
  pub dated : IsDated day era
  pub are : AreOfEra era seals

-- whatever a crash leaves of the seal is that of one entry, which each journal has that begins with these lines, as an open one is
pub record NamesStillAll (kept : List Entry) (seals : List ℕ → Type 0) : Type 0 where
  pub entry : Belonging
  pub only : Only (alone_text entry) seals
  pub names : NamesAll kept seals

-- the journal is ended, and its closed seal is not there: where it is too large no seal may have that journal's entry, and but where its file failed an open
-- one stands there still
pub record IsUnsealed (kept : List Entry) (basis : Basis) (runs : List Run) (fault : DeskFault) (seen : Option (List ℕ)) (leaves : List ℕ → Type 0)
    (unsynced : ℕ) (seals : List ℕ → Type 0) : Type 0 where
  pub over : IsEndedUnsealed kept seen leaves unsynced
  pub large : fault ≡ TooLarge → IsNoEnd basis runs over.journal
  pub still : (fault ≡ NoFile → ⊥) → NamesStillAll kept seals

-- the host does not go on, by the inventory or by the seal: what was kept is still there. Where memory was wanting its lines are on the disk, and where
-- the journal's file failed a call of it was counted
pub record FailsBy {D : Type 0} (seen : D → Option (List ℕ)) (leaves : D → List ℕ → Type 0) (unsynced failures : D → ℕ)
    (old new : Served D) (fault : GroupFault) : Type 0 where
  pub grows : Begins old.kept new.kept
  pub told : KeepsFront (open_text old.kept) (leaves new.tape)
  pub memory : fault ≡ Serve NoMemory → IsReady seen leaves unsynced new
  pub device : fault ≡ Serve Device → failures new.tape ≡ noted (failures old.tape)

-- where the file of the seal failed a call of it was counted
pub record CountsSeal {K : Type 0} (failures : K → ℕ) (before after : K) (fault : GroupFault) : Type 0 where
  pub counted : fault ≡ Seal NoFile → HasFailed failures before after

-- the file of the journal or of the seal failed
abbrev pub no_file_line : List ℕ
no_file_line = codes "FAULT - DEVICE\n"

-- each desk and the manager are told so; where memory was wanting nobody is
abbrev pub IsSaidLast : GroupFault → Option (List ℕ) → Type 0
IsSaidLast (Serve NoMemory) said = said ≡ None
IsSaidLast (Serve Device) said = said ≡ Some no_file_line
IsSaidLast (Seal fault) said = said ≡ Some no_file_line

-- what the host of the desks failed by
abbrev pub hosted_by : GroupFault → HostedFault
hosted_by (Serve fault) = Day fault
hosted_by (Seal fault) = Dating fault
