use Rattle.std.proofs.Common.{List, ap, length, subst, ◌∙◌, ℕ}
use Rattle.seat_seal.specs.Fronts.{front_of}
use Rattle.seat_seal.specs.Imprints.{imprint_of}
use Rattle.seat_seal.specs.declared.imprint.Imprint.{Imprint}
use Rattle.seat_reports.specs.SealDesk.{AreKept, IsEntryOf}
use Rattle.seat_reports.proofs.seal.entry_over.Goals as goal

pub returns-clause-ok : goal.returns-clause-ok
returns-clause-ok g c =
    let basis = c.args.basis.now in
    let runs = c.kept_of-runs.result.0 in
    let era = c.kept_of-runs.result.1 in
    let entry = c.entry_of.result in
    let lines = length c.in-Ok.core.journal in
    record {
      core = c.in-Ok.core;
      is_replay = c.in-Ok.ensures.ok;
      runs = runs;
      era = era;
      are_kept = subst (λ (l : List ℕ). AreKept c.args.beside.now basis l runs era) c.deref-2.ensures.value c.kept_of-runs.ensures;
      is_entry =
          subst (λ (i : Imprint). IsEntryOf basis era i lines runs entry) (c.imprint_of-imprint.ensures ∙ ap (λ (l : List ℕ). imprint_of l) (c.front_of.ensures ∙ ap (λ (l : List ℕ). front_of l) c.deref.ensures.value))
          (subst (λ (n : ℕ). IsEntryOf basis era c.imprint_of-imprint.result n runs entry) (ap length c.journal.ensures.value) c.entry_of.ensures);
    }
