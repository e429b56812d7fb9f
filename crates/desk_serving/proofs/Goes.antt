-- A host that goes on, and then goes on or fails.
use Rattle.std.proofs.Common.{◌≡◌, ℕ, List, ◌++◌, refl, ap, sym, ◌∙◌, subst, arith, append_assoc, append-nil}
use Rattle.std.specs.Prelude.{Option, [], false, IfErr, Result, Ok, Err}
use Rattle.airline_base.specs.Noting.{noted}
use Rattle.desk_answers.specs.Hosts.{IsReady}
use Rattle.desk_hall.specs.Booking.{IsBehindSome}
use Rattle.desk_hall.specs.Halls.{Hallful, IsSameHall}
use Rattle.desk_serving.specs.Going.{Fails, GoesOn}
use Rattle.seat_disk.specs.Growing.{HasFront, KeepsFront}
use Rattle.seat_journal.specs.declared.entry.Entry.{Entry}
use Rattle.seat_recovery.specs.OpenText.{open_text}
use Rattle.seat_rules.specs.Prefixes.{Begins}
use Rattle.seat_serving.specs.Served.{Served}
use Rattle.seat_serving.specs.declared.serving.ServeFault.{ServeFault}
use Rattle.seat_serving.specs.declared.serving.ServeFault.TheVariants.{Device, Memory as NoMemory}
use Rattle.seat_serving.proofs.Holding.{seen_kept}

begins_same : (xs ys : List Entry) → ys ≡ xs → Begins xs ys
begins_same xs ys is = record { rest = []; is = is ∙ sym (append-nil xs) }

pub begins_on : (xs ys zs : List Entry) → Begins xs ys → Begins ys zs → Begins xs zs
begins_on xs ys zs a b = record {
  rest = a.rest ++ b.rest;
  is = b.is ∙ ap (λ (l : List Entry). l ++ b.rest) a.is ∙ append_assoc xs a.rest b.rest;
}

no_device : NoMemory ≡ Device → ⊥
no_device is = absurd cc

module _ {D : Type 0} (seen : D → Option (List ℕ)) (leaves : D → List ℕ → Type 0) (unsynced failures : D → ℕ) where
  -- nothing happened
  pub goes_same : (old new : Served D) → IsReady seen leaves unsynced old → new ≡ old
      → GoesOn seen leaves unsynced failures old new
  goes_same old new ready is =
      subst (λ (s : Served D). GoesOn seen leaves unsynced failures old s) (sym is)
      (record { is_ready = ready; grows = begins_same old.kept old.kept refl; counted = refl; grid_is = refl; cap_is = refl })

  pub goes_further : (old mid new : Served D) → GoesOn seen leaves unsynced failures old mid
      → GoesOn seen leaves unsynced failures mid new → GoesOn seen leaves unsynced failures old new
  goes_further old mid new a b = record {
    is_ready = b.is_ready;
    grows = begins_on old.kept mid.kept new.kept a.grows b.grows;
    counted = b.counted ∙ a.counted;
    grid_is = b.grid_is ∙ a.grid_is;
    cap_is = b.cap_is ∙ a.cap_is;
  }

  pub fails_behind : (old mid new : Served D) (fault : ServeFault) → GoesOn seen leaves unsynced failures old mid
      → Fails seen leaves unsynced failures mid new fault → Fails seen leaves unsynced failures old new fault
  fails_behind old mid new fault a b = record {
    grows = begins_on old.kept mid.kept new.kept a.grows b.grows;
    told = seen_kept old.kept mid.kept (leaves new.tape) a.grows b.told;
    memory = b.memory;
    device = λ is. b.device is ∙ ap noted a.counted;
  }

  pub fails_behind_if : {A : Type 0} (old mid new : Served D) (r : Result A ServeFault) → GoesOn seen leaves unsynced failures old mid
      → IfErr r (Fails seen leaves unsynced failures mid new) → IfErr r (Fails seen leaves unsynced failures old new)
  fails_behind_if old mid new (Ok x) a b = tt
  fails_behind_if old mid new (Err fault) a b = fails_behind old mid new fault a b

  -- what was kept is still there
  pub told_ready : (old new : Served D) → GoesOn seen leaves unsynced failures old new
      → KeepsFront (open_text old.kept) (leaves new.tape)
  told_ready old new a =
      seen_kept old.kept new.kept (leaves new.tape) a.grows
      (λ c may. subst (λ (l : List Entry). HasFront (open_text l) c) (sym a.is_ready.kept_is)
      (subst (λ (x : List ℕ). HasFront (open_text new.journal) x) (sym (a.is_ready.disk.only c may))
      (record { no_shorter = omega arith; each = λ i lt. refl })))

  -- memory is wanting, and the file is as it should be
  pub fails_ready : (old new : Served D) → GoesOn seen leaves unsynced failures old new
      → Fails seen leaves unsynced failures old new NoMemory
  fails_ready old new a = record {
    grows = a.grows;
    told = told_ready old new a;
    memory = λ is. a.is_ready;
    device = λ is. absurd (no_device is);
  }

  pub fails_same : (old new : Served D) → IsReady seen leaves unsynced old → new ≡ old
      → Fails seen leaves unsynced failures old new NoMemory
  fails_same old new ready is = fails_ready old new (goes_same old new ready is)

  pub fails_wanting : (old mid new : Served D) → GoesOn seen leaves unsynced failures old mid → new ≡ mid
      → Fails seen leaves unsynced failures old new NoMemory
  fails_wanting old mid new a is =
      fails_ready old new (subst (GoesOn seen leaves unsynced failures old) (sym is) a)

  -- the same where it stands under another name
  pub ready_as : (old new : Served D) → IsReady seen leaves unsynced old → new ≡ old → IsReady seen leaves unsynced new
  ready_as old new ready is = subst (IsReady seen leaves unsynced) (sym is) ready

  pub ready_same : (old new : Hallful D) → IsReady seen leaves unsynced old.serving → new ≡ old → IsReady seen leaves unsynced new.serving
  ready_same old new ready is = subst (λ (h : Hallful D). IsReady seen leaves unsynced h.serving) (sym is) ready

  -- where memory was wanting all its lines are on the disk
  pub ready_wanting : (old new : Served D) (fault : ServeFault) → Fails seen leaves unsynced failures old new fault → fault ≡ NoMemory
      → IsReady seen leaves unsynced new
  ready_wanting old new fault a is = a.memory is

  pub goes_as : (old mid new : Served D) → GoesOn seen leaves unsynced failures old mid → new ≡ mid
      → GoesOn seen leaves unsynced failures old new
  goes_as old mid new a is = subst (GoesOn seen leaves unsynced failures old) (sym is) a

  pub fails_as : (old mid new : Served D) (fault : ServeFault) → Fails seen leaves unsynced failures old mid fault → new ≡ mid
      → Fails seen leaves unsynced failures old new fault
  fails_as old mid new fault a is = subst (λ (s : Served D). Fails seen leaves unsynced failures old s fault) (sym is) a

  pub goes_from : (old mid new : Served D) → GoesOn seen leaves unsynced failures mid new → mid ≡ old
      → GoesOn seen leaves unsynced failures old new
  goes_from old mid new a is = subst (λ (s : Served D). GoesOn seen leaves unsynced failures s new) is a

  pub fails_from : (old mid new : Served D) (fault : ServeFault) → Fails seen leaves unsynced failures mid new fault → mid ≡ old
      → Fails seen leaves unsynced failures old new fault
  fails_from old mid new fault a is = subst (λ (s : Served D). Fails seen leaves unsynced failures s new fault) is a

  -- what a host has answered
  pub goes_answered : (old new : Hallful D) → IsReady seen leaves unsynced new.serving → Begins old.serving.kept new.serving.kept
      → failures new.serving.tape ≡ failures old.serving.tape → IsSameHall old new
      → GoesOn seen leaves unsynced failures old.serving new.serving
  goes_answered old new ready grows counted same = record {
    is_ready = ready;
    grows = grows;
    counted = counted;
    grid_is = same.grid_is;
    cap_is = same.cap_is;
  }

  pub fails_answered : (old new : Hallful D) (fault : ServeFault) → Begins old.serving.kept new.serving.kept
      → KeepsFront (open_text old.serving.kept) (leaves new.serving.tape)
      → (fault ≡ NoMemory → IsReady seen leaves unsynced new.serving
      × IsBehindSome old.serving.grid old.serving.journal old.asked new.serving.journal)
      → (fault ≡ Device → (new.serving.is_open ≡ false)
      × (failures new.serving.tape ≡ noted (failures old.serving.tape)))
      → Fails seen leaves unsynced failures old.serving new.serving fault
  fails_answered old new fault grows told memory device = record {
    grows = grows;
    told = told;
    memory = λ is. (memory is).0;
    device = λ is. (device is).1;
  }
