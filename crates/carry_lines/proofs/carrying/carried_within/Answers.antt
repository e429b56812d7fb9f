use Rattle.std.proofs.Common.{◌≡◌, ◌+◌, Err, List, length, arith, ap, ◌∙◌}
use Rattle.std.proofs.lemmas.List.{length-map}
use Rattle.std.proofs.lemmas.Result.{err_from_is_err_and}
use Rattle.seat_journal.specs.declared.entry.Change.{Change}
use Rattle.seat_journal.specs.declared.entry.Entry.{Entry}
use Rattle.seat_journal.specs.declared.entry.Work.TheVariants.{Limit}
use Rattle.seat_rules.specs.declared.fault.CoreFault.TheVariants.{JournalFull}
use Rattle.seat_carrying.specs.Owned.{owned_in_turn}
use Rattle.carry_lines.specs.Setting.{changes_of, closing, closings_of}
use Rattle.carry_lines.specs.declared.mark.Mark.{Mark}
use Rattle.carry_lines.proofs.Counting.{asked_short, length_after, length_set, length_turn, set_short, want_of_memory}
use Rattle.carry_lines.proofs.carrying.carried_within.Goals as goal

-- src/carrying.rt:76:5
pub returns-in_err-changed-clause-memory : goal.returns-in_err-changed-clause-memory
returns-in_err-changed-clause-memory c =
    let p = err_from_is_err_and c.from_residual.result c.from_residual.ensures.1 in
    let rows : List Change = c.args.rows.now in
    let none = ap (λ (l : List Entry). length l) c.in-Ok.ensures.journal_is in
    let not_full : c.in_err-changed.field-0.0 ≡ JournalFull → ⊥ =
    λ e. omega (
      arith,
      none,
      c.requires.enough,
      c.in-Ok.ensures.cap_is,
      c.in_err-changed.ensures.full (ap Err e),
      length-map rows (λ (row : Change). Limit row),
      set_short c.in-Ok.core.grid c.in-Ok.core.journal c.changed.new.core.journal (changes_of rows) c.in_err-changed.ensures.wanting,
    ) in
    rw (p.1, p.2) (want_of_memory c.in_err-changed.field-0.0 not_full)

-- src/carrying.rt:77:5
pub returns-in_err-carry-clause-memory : goal.returns-in_err-carry-clause-memory
returns-in_err-carry-clause-memory c =
    let p = err_from_is_err_and c.from_residual-in_err-carry.result c.from_residual-in_err-carry.ensures.1 in
    let rows : List Change = c.args.rows.now in
    let none = ap (λ (l : List Entry). length l) c.in-Ok.ensures.journal_is in
    let long = ap (λ (l : List Entry). length l) c.in_ok-changed.ensures.lines in
    let not_full : c.in_err-carry.field-0.0 ≡ JournalFull → ⊥ =
    λ e. omega (
      arith,
      none,
      long,
      c.requires.enough,
      c.in-Ok.ensures.cap_is,
      c.in_ok-changed.ensures.cap,
      c.in_err-carry.ensures.full (ap Err e),
      length-map rows (λ (row : Change). Limit row),
      length_set c.in-Ok.core.grid c.in-Ok.core.journal (changes_of rows),
      asked_short c.changed.new.core.grid c.changed.new.core.journal c.carry.new.core.journal c.args.live.now c.in_err-carry.ensures.wanting,
    ) in
    rw (p.1, p.2) (want_of_memory c.in_err-carry.field-0.0 not_full)

-- src/carrying.rt:78:5
pub returns-in_err-closed_again-clause-memory : goal.returns-in_err-closed_again-clause-memory
returns-in_err-closed_again-clause-memory c =
    let p = err_from_is_err_and c.from_residual-in_err-closed_again.result c.from_residual-in_err-closed_again.ensures.1 in
    let rows : List Change = c.args.rows.now in
    let marks : List Mark = c.args.marks.now in
    let none = ap (λ (l : List Entry). length l) c.in-Ok.ensures.journal_is in
    let long = ap (λ (l : List Entry). length l) c.in_ok-changed.ensures.lines in
    let longer = ap (λ (l : List Entry). length l) c.in_ok-carry.ensures.lines in
    let not_full : c.in_err-closed_again.field-0.0 ≡ JournalFull → ⊥ =
    λ e. omega (
      arith,
      none,
      long,
      longer,
      c.requires.enough,
      c.in-Ok.ensures.cap_is,
      c.in_ok-changed.ensures.cap,
      c.in_ok-carry.ensures.cap,
      c.in_err-closed_again.ensures.full (ap Err e),
      length-map rows (λ (row : Change). Limit row),
      length-map marks closing,
      length_set c.in-Ok.core.grid c.in-Ok.core.journal (changes_of rows),
      length_after c.changed.new.core.grid c.changed.new.core.journal (owned_in_turn c.args.live.now),
      length_turn c.args.live.now,
      set_short c.carry.new.core.grid c.carry.new.core.journal c.closed_again.new.core.journal (closings_of marks) c.in_err-closed_again.ensures.wanting,
    ) in
    rw (p.1, p.2) (want_of_memory c.in_err-closed_again.field-0.0 not_full)
