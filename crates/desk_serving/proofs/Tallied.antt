-- What is counted of a host that goes on.
use Rattle.std.proofs.Common.{◌≡◌, ◌≤◌, ℕ, List, length, ap, sym, subst, ◌∙◌, arith}
use Rattle.std.specs.Prelude.{Option}
use Rattle.desk_answers.specs.Hosts.{IsReady}
use Rattle.desk_serving.specs.Going.{GoesOn}
use Rattle.desk_status.specs.Tallies.{added, groups_behind, Counts, CountsFront, IsCountable}
use Rattle.desk_status.specs.declared.tally.Tally.{Tally}
use Rattle.desk_status.proofs.Counted.{legal_countable}
use Rattle.seat_journal.specs.declared.entry.Entry.{Entry}
use Rattle.seat_rules.specs.Journal.{IsLegal}
use Rattle.seat_rules.specs.Prefixes.{Begins}
use Rattle.seat_serving.specs.Served.{Served}

-- what was counted is a front of what it has then
pub counts_front : {D : Type 0} (seen : D → Option (List ℕ)) (leaves : D → List ℕ → Type 0) (unsynced failures : D → ℕ)
    (old new : Served D) (tally : Tally) → IsReady seen leaves unsynced old → GoesOn seen leaves unsynced failures old new
    → Counts tally old.journal → CountsFront tally new.journal
counts_front seen leaves unsynced failures old new tally ready goes counts = record {
  past = old.journal;
  counts = counts;
  begins = subst (Begins old.journal) goes.is_ready.kept_is
      (subst (λ (l : List Entry). Begins l new.kept) ready.kept_is goes.grows);
}

-- the journal of a host is legal, and within its limits
pub countable : {D : Type 0} (s : Served D) (journal : List Entry) → journal ≡ s.journal → IsLegal s.grid s.journal
    → length s.journal ≤ s.cap → s.cap ≤ 999999 → IsCountable journal
countable s journal is legal capped small =
    subst IsCountable (sym is) (legal_countable s.grid s.journal legal (omega (arith, capped, small)))

-- the same under other names
pub front_as : {D : Type 0} (s host : Served D) (tally : Tally) (journal : List Entry) → journal ≡ s.journal → s ≡ host
    → CountsFront tally host.journal → CountsFront tally journal
front_as {D} s host tally journal is same front =
    subst (CountsFront tally) (sym (is ∙ ap (λ (x : Served D). x.journal) same)) front

pub counts_as : {D : Type 0} (s host : Served D) (tally : Tally) (journal : List Entry) → journal ≡ s.journal → s ≡ host
    → Counts tally journal → Counts tally host.journal
counts_as {D} s host tally journal is same counts =
    subst (Counts tally) (is ∙ ap (λ (x : Served D). x.journal) same) counts

pub groups_as : {D : Type 0} (s host : Served D) (old : Tally) (more : ℕ) (journal : List Entry) → journal ≡ s.journal → s ≡ host
    → more ≡ groups_behind old.groups (added old journal) → more ≡ groups_behind old.groups (added old host.journal)
groups_as {D} s host old more journal is same grown =
    grown ∙ ap (λ (l : List Entry). groups_behind old.groups (added old l)) (is ∙ ap (λ (x : Served D). x.journal) same)
