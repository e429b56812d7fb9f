-- The day of a host in the seal of its journal.
use Rattle.std.proofs.Common.{◌≡◌, ℕ, List, refl, subst, sym, ap, ◌∙◌}
use Rattle.std.specs.Prelude.{true, Option, None, Some, Result, Ok, Err, IfErr}
use Rattle.airline_base.specs.Noting.{noted}
use Rattle.seat_disk.specs.Keeping.{KeepsNoMore}
use Rattle.seat_disk.specs.Leaving.{Only, replaced_by}
use Rattle.seat_disk.proofs.Keeping.{no_more, no_more_on}
use Rattle.seat_journal.specs.declared.entry.Entry.{Entry}
use Rattle.seat_desk.specs.Desk.{HasFailed}
use Rattle.seat_restoring.specs.Dating.{AreOfEra, IsDated, NamesStill, Stands, TakesPlace}
use Rattle.seat_restoring.specs.Serving.{IsEndedEntry, IsNoEnd, IsSealedEnd, NamesAll}
use Rattle.seat_nesting.specs.Nesting.{Ladders}
use Rattle.seat_rules.specs.Prefixes.{Begins}
use Rattle.seat_serving.specs.declared.serving.ending.Ended.{Ended}
use Rattle.desk_talk.specs.Ending.{IsEnded}
use Rattle.seat_restoring.proofs.Dated.{dated as are_of}
use Rattle.seat_seal.specs.declared.beside.Basis.{Basis}
use Rattle.seat_seal.specs.declared.run.Run.{Run}
use Rattle.seat_seal.specs.Eras.{IsEraOn}
use Rattle.seat_seal.specs.Rules.{is_sealed}
use Rattle.seat_seal.specs.declared.seal.Sealed.{Sealed as Belonging}
use Rattle.seat_sealing.specs.Steps.{alone_text}
use Rattle.seat_serving.specs.Served.{Served}
use Rattle.desk_serving.specs.Daily.{CountsSeal, FailsBy, IsOfEpoch, IsOnDay, IsSealedOn, IsSealedStill, IsUnsealed, StaysNamed, hosted_by}
use Rattle.desk_serving.specs.declared.serving.HostedFault.{HostedFault}
use Rattle.desk_serving.specs.Going.{Fails, GoesOn}
use Rattle.desk_serving.specs.declared.day.GroupFault.{GroupFault}
use Rattle.desk_serving.specs.declared.day.GroupFault.TheVariants.{Serve, Seal}
use Rattle.desk_serving.specs.declared.serving.HostedFault.TheVariants.{Dating, Day, Seal as Unended}
use Rattle.seat_disk.specs.Growing.{KeepsFront}
use Rattle.seat_recovery.specs.OpenText.{open_text}
use Rattle.desk_hall.specs.Halls.{Hallful, IsPassed, IsSameHall, IsUnheard, IsUnordered}
use Rattle.desk_serving.proofs.Goes.{begins_on, told_ready}
use Rattle.seat_desk.specs.declared.fault.DeskFault.{DeskFault}
use Rattle.seat_desk.specs.declared.fault.DeskFault.TheVariants.{Device as NoFile, TooLarge}
use Rattle.seat_serving.proofs.Holding.{seen_kept}
use Rattle.seat_serving.specs.declared.serving.ServeFault.{ServeFault}

pub on_day : (day : ℕ) (entry : Belonging) (lines : List Entry) (seals : List ℕ → Type 0) → IsDated day entry.era → Stands entry lines seals
    → IsOnDay day entry seals
on_day day entry lines seals dated stands = record { dated = dated; rules = stands.rules; only = stands.only }

dated_on : (old new : Belonging) (day : ℕ) → IsEraOn old.era day new.era → IsDated day new.era
dated_on old new day is = record { date = is.date; is_date = is.is_date; today_is = is.today_is }

-- the same by another name of the day
pub day_as : (day other : ℕ) (entry : Belonging) (seals : List ℕ → Type 0) → IsOnDay day entry seals → other ≡ day → IsOnDay other entry seals
day_as day other entry seals is same = subst (λ (d : ℕ). IsOnDay d entry seals) (sym same) is

-- a line for which memory is wanting gives no day
pub unordered_day : {D : Type 0} (old new : Hallful D) → IsUnordered old new → new.today ≡ old.today
unordered_day old new is = is.same_host.today_is

pub passed_day : {D : Type 0} (old new : Hallful D) (session more : ℕ) → IsPassed old new session more → new.today ≡ old.today
passed_day old new session more is = is.same_host.today_is

pub unheard_day : {D : Type 0} (old new : Hallful D) (session : ℕ) (line : List ℕ) → IsUnheard old new session line → new.today ≡ old.today
unheard_day old new session line is = is.same_host.today_is

pub answered_day : {D : Type 0} (old new : Hallful D) → IsSameHall old new → new.today ≡ old.today
answered_day old new is = is.today_is

pub hosted_day : (fault : GroupFault) (e : ServeFault) → hosted_by fault ≡ Day e → fault ≡ Serve e
hosted_day (Serve f) e is = ap Serve (cc is)
hosted_day (Seal f) e is = absurd (cc is)

replaced_twice : (named : Option (List ℕ)) (mid text : List ℕ) → replaced_by (replaced_by named mid) text ≡ replaced_by named text
replaced_twice None mid text = refl
replaced_twice (Some xs) mid text = refl

module _ {K : Type 0} (named : K → Option (List ℕ)) (leaves : K → List ℕ → Type 0) (kept : K → List (List ℕ) → Type 0) (failures : K → ℕ) where
  pub stays_same : (entry : Belonging) (seals : K) → StaysNamed leaves kept entry seals seals
  stays_same entry seals = record { named = record { each = λ lines was names. names }; only = no_more (kept seals) }

  -- nothing is written where the day is the seal's
  pub sealed_same : (before day : ℕ) (entry : Belonging) (seals : K) → before ≡ day → IsOnDay before entry (leaves seals)
      → IsSealedOn named leaves kept failures day entry entry seals seals
  sealed_same before day entry seals is was = record {
    on_day = subst (λ (d : ℕ). IsOnDay d entry (leaves seals)) is was;
    place = record { each = λ lines stands. stands };
    epoch_is = refl;
    runs_are = refl;
    replaced = λ text. refl;
    counted = refl;
    stays = stays_same entry seals;
  }

  pub stays_with : (entry : Belonging) (before after : K) → NamesStill entry (leaves before) (leaves after) → KeepsNoMore (kept before) (kept after)
      → StaysNamed leaves kept entry before after
  stays_with entry before after still only = record { named = still; only = only }

  -- another took its place
  pub sealed_on : (day : ℕ) (old new : Belonging) (before after : K) → IsEraOn old.era day new.era
      → TakesPlace old new (leaves before) (leaves after) → NamesStill old (leaves before) (leaves after) → new.runs ≡ old.runs
      → named after ≡ replaced_by (named before) (alone_text new) → is_sealed new ≡ true → Only (alone_text new) (leaves after)
      → KeepsNoMore (kept before) (kept after) → failures after ≡ failures before → IsSealedOn named leaves kept failures day old new before after
  sealed_on day old new before after era place still runs again rules alone only counted = record {
    on_day = record { dated = dated_on old new day era; rules = rules; only = alone };
    place = place;
    epoch_is = era.epoch_is;
    runs_are = runs;
    replaced = λ text. ap (λ (n : Option (List ℕ)). replaced_by n text) again ∙ replaced_twice (named before) (alone_text new) text;
    counted = counted;
    stays = record { named = still; only = only };
  }

  pub stays_behind : (day : ℕ) (old mid : Belonging) (before between after : K) → IsSealedOn named leaves kept failures day old mid before between
      → StaysNamed leaves kept mid between after → StaysNamed leaves kept old before after
  stays_behind day old mid before between after a b = record {
    named = record { each = λ lines was names. b.named.each lines (a.place.each lines was) (a.stays.named.each lines was names) };
    only = no_more_on (kept before) (kept between) (kept after) a.stays.only b.only;
  }

  pub sealed_further : (day last : ℕ) (old mid new : Belonging) (before between after : K) → IsSealedOn named leaves kept failures day old mid before between
      → IsSealedOn named leaves kept failures last mid new between after → IsSealedOn named leaves kept failures last old new before after
  sealed_further day last old mid new before between after a b = record {
    on_day = b.on_day;
    place = record { each = λ lines was. b.place.each lines (a.place.each lines was) };
    epoch_is = b.epoch_is ∙ a.epoch_is;
    runs_are = b.runs_are ∙ a.runs_are;
    replaced = λ text. b.replaced text ∙ a.replaced text;
    counted = b.counted ∙ a.counted;
    stays = stays_behind day old mid before between after a b.stays;
  }

  pub stays_on : (day : ℕ) (old new : Belonging) (before after : K) → IsSealedOn named leaves kept failures day old new before after
      → StaysNamed leaves kept old before after
  stays_on day old new before after is = is.stays

  pub on_day_of : (day : ℕ) (old new : Belonging) (before after : K) → IsSealedOn named leaves kept failures day old new before after
      → IsOnDay day new (leaves after)
  on_day_of day old new before after is = is.on_day

  pub some_day : (day : ℕ) (old new : Belonging) (before after : K) → IsSealedOn named leaves kept failures day old new before after
      → IsSealedStill named leaves kept failures old new before after
  some_day day old new before after is = record { day = day; sealed = is }

  pub stays_still : (old new : Belonging) (before after : K) → IsSealedStill named leaves kept failures old new before after
      → StaysNamed leaves kept old before after
  stays_still old new before after is = is.sealed.stays

  -- the lines that were kept are named by it, whatever a crash leaves
  pub names_on : (old : Belonging) (lines : List Entry) (before after : K) → Stands old lines (leaves before) → NamesAll lines (leaves before)
      → StaysNamed leaves kept old before after → NamesAll lines (leaves after)
  names_on old lines before after stands names stays = stays.named.each lines stands names

  -- the closed seal behind it is that of the runs that were
  pub sealed_end : (basis : Basis) (lines : List Entry) (old mid : Belonging) (before between after : K)
      → IsSealedStill named leaves kept failures old mid before between
      → IsSealedEnd basis mid.runs lines (named between) (named after) (leaves after)
      → IsSealedEnd basis old.runs lines (named before) (named after) (leaves after)
  sealed_end basis lines old mid before between after still ended = record {
    entry = ended.entry;
    is_entry = subst (λ (r : List Run). IsEndedEntry basis r lines ended.entry) still.sealed.runs_are ended.is_entry;
    named = ended.named ∙ still.sealed.replaced (alone_text ended.entry);
    kept = ended.kept;
  }

  -- of the same epoch, and with a day
  pub of_epoch : (old mid : Belonging) (before between after : K) → IsSealedStill named leaves kept failures old mid before between
      → (AreOfEra mid.era (leaves between) → AreOfEra mid.era (leaves after)) → IsOfEpoch old.era.epoch (leaves after)
  of_epoch old mid before between after still stays = record {
    era = mid.era;
    epoch_is = still.sealed.epoch_is;
    day = still.day;
    dated = still.sealed.on_day.dated;
    are = stays (are_of mid mid.era (leaves between) refl still.sealed.on_day.only);
  }

  pub no_more_behind : (old mid : Belonging) (before between after : K) → IsSealedStill named leaves kept failures old mid before between
      → KeepsNoMore (kept between) (kept after) → KeepsNoMore (kept before) (kept after)
  no_more_behind old mid before between after still only = no_more_on (kept before) (kept between) (kept after) still.sealed.stays.only only

  pub failed_behind : (old mid : Belonging) (before between after : K) → IsSealedStill named leaves kept failures old mid before between
      → HasFailed failures between after → HasFailed failures before after
  failed_behind old mid before between after still failed = failed ∙ ap noted still.sealed.counted

  -- the journal is ended, and the closed seal is not there
  pub unsealed_by : (basis : Basis) (lines : List Entry) (grid : Ladders) (cap : ℕ) (ended : Ended) (seen : Option (List ℕ)) (journals : List ℕ → Type 0)
      (unsynced : ℕ) (old mid : Belonging) (before between after : K) (fault : DeskFault)
      → IsSealedStill named leaves kept failures old mid before between → Begins lines ended.journal → IsEnded grid cap ended seen journals unsynced
      → NamesAll lines (leaves between) → (fault ≡ TooLarge → IsNoEnd basis mid.runs ended.journal) → ((fault ≡ NoFile → ⊥) → after ≡ between)
      → (e : DeskFault) → Unended fault ≡ Unended e → IsUnsealed lines basis old.runs e seen journals unsynced (leaves after)
  unsealed_by basis lines grid cap ended seen journals unsynced old mid before between after fault still front is named_all large stays e same =
      subst (λ (x : DeskFault). IsUnsealed lines basis old.runs x seen journals unsynced (leaves after)) (cc same)
      (record {
        over = record { journal = ended.journal; front = front; text = is.text; disk = is.disk; synced = is.synced };
        large = λ it. subst (λ (r : List Run). IsNoEnd basis r ended.journal) still.sealed.runs_are (large it);
        still = λ other. record {
          entry = mid;
          only = subst (λ (k : K). Only (alone_text mid) (leaves k)) (sym (stays other)) still.sealed.on_day.only;
          names = subst (λ (k : K). NamesAll lines (leaves k)) (sym (stays other)) named_all;
        };
      })

  -- a failure of its file is counted behind what was sealed
  pub counts_behind : (day : ℕ) (old mid : Belonging) (before between after : K) (fault : GroupFault)
      → IsSealedOn named leaves kept failures day old mid before between → CountsSeal failures between after fault → CountsSeal failures before after fault
  counts_behind day old mid before between after fault is counts = record { counted = λ e. counts.counted e ∙ ap noted is.counted }

  -- by the day that the hall has
  pub sealed_as : (day other : ℕ) (old new : Belonging) (before after : K) → other ≡ day → IsSealedOn named leaves kept failures day old new before after
      → IsSealedOn named leaves kept failures other old new before after
  sealed_as day other old new before after is on = subst (λ (d : ℕ). IsSealedOn named leaves kept failures d old new before after) (sym is) on

-- by the inventory no file of the seal failed
pub counts_none : {K : Type 0} (failures : K → ℕ) (before after : K) (fault : ServeFault) → CountsSeal failures before after (Serve fault)
counts_none {K} failures before after fault = record { counted = λ e. absurd (cc e) }

pub counts_seal : {K : Type 0} (failures : K → ℕ) (before after : K) (fault : DeskFault) → (fault ≡ NoFile → HasFailed failures before after)
    → CountsSeal failures before after (Seal fault)
counts_seal {K} failures before after fault failed = record { counted = λ e. failed (cc e) }

-- and where the host of the desks says so, it did
pub dating_failed : {K : Type 0} (failures : K → ℕ) (before after : K) (fault : GroupFault) → CountsSeal failures before after fault
    → hosted_by fault ≡ Dating NoFile → HasFailed failures before after
dating_failed {K} failures before after (Serve f) counts is = absurd (cc is)
dating_failed {K} failures before after (Seal f) counts is = counts.counted (ap Seal (cc is))

-- a host that does not go on has no closed seal that failed
pub no_closed_seal : (lines : List Entry) (basis : Basis) (runs : List Run) (seen : Option (List ℕ)) (journals : List ℕ → Type 0) (unsynced : ℕ)
    (seals : List ℕ → Type 0) (fault : GroupFault) (f : HostedFault) → f ≡ hosted_by fault → (e : DeskFault) → f ≡ Unended e
    → IsUnsealed lines basis runs e seen journals unsynced seals
no_closed_seal lines basis runs seen journals unsynced seals (Serve fault) f is e same = absurd (cc (sym is ∙ same))
no_closed_seal lines basis runs seen journals unsynced seals (Seal fault) f is e same = absurd (cc (sym is ∙ same))

module _ {D : Type 0} (seen : D → Option (List ℕ)) (leaves : D → List ℕ → Type 0) (unsynced failures : D → ℕ) where
  -- by the inventory
  pub by_inventory : (old new : Served D) (fault : ServeFault) → Fails seen leaves unsynced failures old new fault
      → FailsBy seen leaves unsynced failures old new (Serve fault)
  by_inventory old new fault is = record {
    grows = is.grows;
    told = is.told;
    memory = λ same. is.memory (cc same);
    device = λ same. is.device (cc same);
  }

  -- by the seal, and the inventory is as it should be
  pub by_seal : (old new : Served D) (fault : DeskFault) → GoesOn seen leaves unsynced failures old new
      → FailsBy seen leaves unsynced failures old new (Seal fault)
  by_seal old new fault goes = record {
    grows = goes.grows;
    told = told_ready seen leaves unsynced failures old new goes;
    memory = λ same. absurd (cc same);
    device = λ same. absurd (cc same);
  }

  pub fails_by_behind : (old mid new : Served D) (fault : GroupFault) → GoesOn seen leaves unsynced failures old mid
      → FailsBy seen leaves unsynced failures mid new fault → FailsBy seen leaves unsynced failures old new fault
  fails_by_behind old mid new fault a b = record {
    grows = begins_on old.kept mid.kept new.kept a.grows b.grows;
    told = seen_kept old.kept mid.kept (leaves new.tape) a.grows b.told;
    memory = b.memory;
    device = λ is. b.device is ∙ ap noted a.counted;
  }

  pub fails_by_behind_if : {A : Type 0} (old mid new : Served D) (r : Result A GroupFault) → GoesOn seen leaves unsynced failures old mid
      → IfErr r (FailsBy seen leaves unsynced failures mid new) → IfErr r (FailsBy seen leaves unsynced failures old new)
  fails_by_behind_if old mid new (Ok x) a b = tt
  fails_by_behind_if old mid new (Err fault) a b = fails_by_behind old mid new fault a b

  pub told_by : (old mid new s : Served D) (fault : GroupFault) (tape : D) → FailsBy seen leaves unsynced failures mid new fault → mid ≡ old
      → s ≡ new → tape ≡ s.tape → KeepsFront (open_text old.kept) (leaves tape)
  told_by old mid new s fault tape fails from same is =
      subst (λ (t : D). KeepsFront (open_text old.kept) (leaves t)) (sym (is ∙ ap (λ (x : Served D). x.tape) same))
      (subst (λ (x : Served D). KeepsFront (open_text x.kept) (leaves new.tape)) from fails.told)

  pub fails_by_from : (old mid new : Served D) (fault : GroupFault) → FailsBy seen leaves unsynced failures mid new fault → mid ≡ old
      → FailsBy seen leaves unsynced failures old new fault
  fails_by_from old mid new fault a is = subst (λ (s : Served D). FailsBy seen leaves unsynced failures s new fault) is a
