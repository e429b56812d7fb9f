-- A feed that is broken off.
use Rattle.std.proofs.Common.{◌≡◌, ℕ, List, refl, ap, sym, ◌∙◌, subst}
use Rattle.std.specs.Prelude.{Option, false}
use Rattle.airline_base.specs.Noting.{noted}
use Rattle.desk_answers.specs.Hosts.{IsReady}
use Rattle.desk_hall.specs.Booking.{IsBehindSome}
use Rattle.desk_serving.specs.Going.{Fails, GoesOn}
use Rattle.desk_serving.proofs.Goes.{begins_on, goes_as, goes_same, told_ready}
use Rattle.desk_stream.specs.Feeds.{Feeding}
use Rattle.desk_stream.specs.declared.hearing.FeedFault.{FeedFault}
use Rattle.desk_stream.specs.declared.hearing.FeedFault.TheVariants as hearings
use Rattle.desk_serving.specs.Streaming.{broken_by, stopped_by, Breaks, IsOfAnswer, IsOfFile, IsOfTelling}
use Rattle.desk_serving.specs.declared.fault.StreamFault.{StreamFault}
use Rattle.desk_serving.specs.declared.fault.StreamFault.TheVariants.{Input, Output, Memory, Strange, Journal, Dating}
use Rattle.desk_talk.specs.Talks.{IsWritten}
use Rattle.seat_desk.specs.Desk.{HasFailed}
use Rattle.seat_desk.specs.declared.fault.DeskFault.{DeskFault}
use Rattle.seat_desk.specs.declared.fault.DeskFault.TheVariants.{Device as NoSeal}
use Rattle.seat_disk.specs.Growing.{KeepsFront}
use Rattle.seat_recovery.specs.OpenText.{open_text}
use Rattle.seat_rules.specs.Prefixes.{Begins}
use Rattle.seat_serving.proofs.Holding.{seen_kept}
use Rattle.seat_serving.specs.Served.{Served}
use Rattle.seat_serving.specs.declared.serving.ServeFault.{ServeFault}
use Rattle.seat_serving.specs.declared.serving.ServeFault.TheVariants as serves

-- ---- kinds of faults

pub of_booking : (fault : ServeFault) (b : StreamFault) → b ≡ broken_by fault → IsOfAnswer b
of_booking serves.Memory b is = subst IsOfAnswer (sym is) tt
of_booking serves.Device b is = subst IsOfAnswer (sym is) tt

pub of_telling : (b : StreamFault) → IsOfTelling b → IsOfAnswer b
of_telling Input is = absurd is
of_telling Output is = tt
of_telling Memory is = tt
of_telling (Strange line number) is = absurd is
of_telling Journal is = tt
of_telling (Dating fault) is = tt

-- ---- what is said of a file that failed

module _ {W : Type 0} (failures : W → ℕ) (contents : W → Option (List ℕ)) (line : List ℕ) (old new : W) where
  -- what can't be told is no file's fault
  pub said_told : (b : StreamFault) → IsOfTelling b → IsOfFile b → IsWritten failures contents line old new
  said_told Input of file = absurd of
  said_told Output of file = absurd file
  said_told Memory of file = absurd file
  said_told (Strange line number) of file = absurd of
  said_told Journal of file = absurd of
  said_told (Dating fault) of file = absurd of

  -- want of memory for what is booked is none
  pub said_booked : (fault : ServeFault) (b : StreamFault) → b ≡ broken_by fault
      → (fault ≡ serves.Device → IsWritten failures contents line old new) → IsOfFile b → IsWritten failures contents line old new
  said_booked serves.Memory b is said file = absurd (subst IsOfFile is file)
  said_booked serves.Device b is said file = said refl

pub no_output : (fault : ServeFault) (b : StreamFault) (m n : ℕ) → b ≡ broken_by fault → b ≡ Output → m ≡ n
no_output serves.Memory b m n is other = absurd (cc (sym is ∙ other))
no_output serves.Device b m n is other = absurd (cc (sym is ∙ other))

-- ---- the file of the seal, the reader and the writer

pub dating_failed : {K : Type 0} (failures : K → ℕ) (before after : K) (fault : DeskFault) → (fault ≡ NoSeal → HasFailed failures before after)
    → Dating fault ≡ Dating NoSeal → HasFailed failures before after
dating_failed failures before after fault failed is = failed (cc is)

pub no_dating : {K : Type 0} (failures : K → ℕ) (before after : K) (fault : ServeFault) (b : StreamFault) → b ≡ broken_by fault → b ≡ Dating NoSeal
    → HasFailed failures before after
no_dating failures before after serves.Memory b is other = absurd (cc (sym is ∙ other))
no_dating failures before after serves.Device b is other = absurd (cc (sym is ∙ other))

pub told_undated : {K : Type 0} (failures : K → ℕ) (before after : K) (b : StreamFault) → IsOfTelling b → b ≡ Dating NoSeal
    → HasFailed failures before after
told_undated failures before after b of is = absurd (subst IsOfTelling is of)

pub no_input_of : (b : StreamFault) → IsOfAnswer b → b ≡ Input → ⊥
no_input_of b of is = subst IsOfAnswer is of

pub never_input : (b : StreamFault) (m n : ℕ) → (b ≡ Input → ⊥) → b ≡ Input → m ≡ n
never_input b m n never is = absurd (never is)

pub no_input_stopped : {D : Type 0} (feed : Feeding D) (fault : FeedFault) (b : StreamFault) → b ≡ stopped_by feed fault → b ≡ Input → ⊥
no_input_stopped feed hearings.Memory b is other = absurd (cc (sym is ∙ other))
no_input_stopped feed hearings.Strange b is other = absurd (cc (sym is ∙ other))

pub no_output_stopped : {D : Type 0} (feed : Feeding D) (fault : FeedFault) (b : StreamFault) (m n : ℕ) → b ≡ stopped_by feed fault → b ≡ Output
    → m ≡ n
no_output_stopped feed hearings.Memory b m n is other = absurd (cc (sym is ∙ other))
no_output_stopped feed hearings.Strange b m n is other = absurd (cc (sym is ∙ other))

pub no_dating_stopped : {D K : Type 0} (failures : K → ℕ) (before after : K) (feed : Feeding D) (fault : FeedFault) (b : StreamFault)
    → b ≡ stopped_by feed fault → b ≡ Dating NoSeal → HasFailed failures before after
no_dating_stopped failures before after feed hearings.Memory b is other = absurd (cc (sym is ∙ other))
no_dating_stopped failures before after feed hearings.Strange b is other = absurd (cc (sym is ∙ other))

telling_is_none : (b : StreamFault) → IsOfTelling b → b ≡ Journal → ⊥
telling_is_none Input is same = absurd is
telling_is_none Output is same = absurd (cc same)
telling_is_none Memory is same = absurd (cc same)
telling_is_none (Strange line number) is same = absurd is
telling_is_none Journal is same = absurd is
telling_is_none (Dating fault) is same = absurd is

hearing_is_none : {D : Type 0} (feed : Feeding D) (fault : FeedFault) (b : StreamFault) → b ≡ stopped_by feed fault → b ≡ Journal → ⊥
hearing_is_none feed hearings.Memory b is same = absurd (cc (sym is ∙ same))
hearing_is_none feed hearings.Strange b is same = absurd (cc (sym is ∙ same))

module _ {D : Type 0} (seen : D → Option (List ℕ)) (leaves : D → List ℕ → Type 0) (unsynced failures : D → ℕ) where
  -- all lines are on the disk
  breaks_ready : (old new : Served D) (b : StreamFault) → GoesOn seen leaves unsynced failures old new → (b ≡ Journal → ⊥)
      → Breaks seen leaves unsynced failures old new b
  breaks_ready old new b goes other = record {
    grows = goes.grows;
    told = told_ready seen leaves unsynced failures old new goes;
    still = λ h. goes.is_ready;
    device = λ is. absurd (other is);
  }

  pub breaks_sealed : (s : Served D) (fault : DeskFault) → IsReady seen leaves unsynced s
      → Breaks seen leaves unsynced failures s s (Dating fault)
  breaks_sealed s fault ready =
      breaks_ready s s (Dating fault) (goes_same seen leaves unsynced failures s s ready refl) (λ is. absurd (cc is))

  pub breaks_input : (s : Served D) → IsReady seen leaves unsynced s → Breaks seen leaves unsynced failures s s Input
  breaks_input s ready = breaks_ready s s Input (goes_same seen leaves unsynced failures s s ready refl) (λ is. absurd (cc is))

  pub breaks_told : (old mid new : Served D) (b : StreamFault) → GoesOn seen leaves unsynced failures old mid → new ≡ mid → IsOfTelling b
      → Breaks seen leaves unsynced failures old new b
  breaks_told old mid new b goes same is =
      breaks_ready old new b (goes_as seen leaves unsynced failures old mid new goes same) (telling_is_none b is)

  pub breaks_heard : (old new : Served D) (feed : Feeding D) (fault : FeedFault) (b : StreamFault) → GoesOn seen leaves unsynced failures old new
      → b ≡ stopped_by feed fault → Breaks seen leaves unsynced failures old new b
  breaks_heard old new feed fault b goes is = breaks_ready old new b goes (hearing_is_none feed fault b is)

  pub breaks_booked : (old new : Served D) (fault : ServeFault) (b : StreamFault) → Fails seen leaves unsynced failures old new fault
      → b ≡ broken_by fault → Breaks seen leaves unsynced failures old new b
  breaks_booked old new serves.Memory b fails is = record {
    grows = fails.grows;
    told = fails.told;
    still = λ h. fails.memory refl;
    device = λ same. absurd (cc (sym is ∙ same));
  }
  breaks_booked old new serves.Device b fails is = record {
    grows = fails.grows;
    told = fails.told;
    still = λ h. absurd (h is);
    device = λ same. fails.device refl;
  }

  pub breaks_behind : (old mid new : Served D) (b : StreamFault) → GoesOn seen leaves unsynced failures old mid
      → Breaks seen leaves unsynced failures mid new b → Breaks seen leaves unsynced failures old new b
  breaks_behind old mid new b goes breaks = record {
    grows = begins_on old.kept mid.kept new.kept goes.grows breaks.grows;
    told = seen_kept old.kept mid.kept (leaves new.tape) goes.grows breaks.told;
    still = breaks.still;
    device = λ is. breaks.device is ∙ ap noted goes.counted;
  }

  -- why nothing more is booked
  pub fails_booked : (old new : Feeding D) (fault : ServeFault) → Begins old.serving.kept new.serving.kept
      → KeepsFront (open_text old.serving.kept) (leaves new.serving.tape)
      → (fault ≡ serves.Memory → IsReady seen leaves unsynced new.serving
      × IsBehindSome old.serving.grid old.serving.journal old.pending.asked.items new.serving.journal)
      → (fault ≡ serves.Device → (new.serving.is_open ≡ false) × (failures new.serving.tape ≡ noted (failures old.serving.tape)))
      → Fails seen leaves unsynced failures old.serving new.serving fault
  fails_booked old new fault grows told memory device = record {
    grows = grows;
    told = told;
    memory = λ is. (memory is).0;
    device = λ is. (device is).1;
  }
