use Rattle.std.proofs.Common.{map, ◌∙◌}
use Rattle.std.proofs.lemmas.Result.{err_from_is_err_and}
use Rattle.seat_desk.specs.Desk.{HasFailed}
use Rattle.seat_desk.specs.Loading.{HasFirstLoadFailed}
use Rattle.seat_scripts.specs.Beside.{FailsSealedRun}
use Rattle.seat_scripts.proofs.Seals.{behind_seal, call_once}
use Rattle.seat_replies.specs.Requests.{HasFailedAmong}
use Rattle.seat_scripts.proofs.Written.{run_unbooked}
use Rattle.seat_disk.proofs.Keeping.{keeps_none}
use Rattle.seat_run.specs.SealedDesk.{AreTexts, IsSealedRunOf}
use Rattle.seat_run.proofs.SealedTexts.{all_sealed, all_stopped, all_unsealable, few_imprints, never_of_input, on_ok, same_front, same_texts, sealed_run}
use Rattle.seat_run.proofs.run.desk_run.Goals as goal

pub returns-clause-ok : goal.returns-clause-ok
returns-clause-ok g c =
    all_sealed (AreTexts c.in_ok-settled.field-0.basis c.as_slice.result.now c.in_ok-settled.field-0.changes c.in_ok-settled.field-0.behind c.args.today c.in_ok-settled.field-0.earlier c.journal.result.now c.deref-2.result.now)
    (IsSealedRunOf c.args.beside.now g.I.Read.remaining g.I.Read.remaining c.args.inputs.now c.args.today (g.I.Read.remaining c.args.after.now) (map g.I.Read.remaining c.args.scripts.now) (g.I.Read.remaining c.args.changes.now))
    (λ journal entry said t. sealed_run (g.I.Read.remaining c.args.inputs.now.set) (g.I.Read.remaining c.args.inputs.now.limits) (g.I.Read.remaining c.args.after.now) c.args.inputs.now.first c.args.inputs.now.days c.args.today
    (map g.I.Read.remaining c.args.scripts.now) (g.I.Read.remaining c.args.changes.now) c.in_ok-asked.asked.flights c.in_ok-asked.asked.past.grid c.in_ok-asked.asked.past.journal c.in_ok-asked.asked.scripts c.in_ok-asked.asked.changes.items
    c.in_ok-settled.field-0.settled.journal c.in_ok-settled.field-0.settled.receipts c.in_ok-settled.field-0.replies.items
    (record { is_history = c.in_ok-settled.ensures.ok; are_entries = c.in_ok-settled.ensures.entries; is_replied = c.in_ok-settled.ensures.replies })
    c.in_ok-asked.asked.basis c.in_ok-asked.ensures.basis c.in_ok-asked.asked.imprints c.in_ok-asked.ensures.imprints c.in_ok-asked.asked.changes_imprint c.in_ok-asked.ensures.changed c.in_ok-asked.asked.behind c.in_ok-asked.asked.earlier c.args.beside.now c.in_ok-asked.ensures.ok c.in_ok-asked.ensures.behind c.in_ok-asked.ensures.earlier journal entry said (same_texts c.in_ok-settled.field-0.basis c.in_ok-asked.asked.basis c.as_slice.result.now c.in_ok-asked.asked.imprints c.in_ok-settled.field-0.changes c.in_ok-asked.asked.changes_imprint c.in_ok-settled.field-0.behind c.in_ok-asked.asked.behind c.args.today
    c.in_ok-settled.field-0.earlier c.in_ok-asked.asked.earlier c.journal.result.now c.in_ok-settled.field-0.settled.journal c.deref-2.result.now c.in_ok-settled.field-0.replies.items
    c.in_ok-settled.ensures.basis (c.as_slice.ensures ∙ c.in_ok-settled.ensures.imprints) c.in_ok-settled.ensures.changes c.in_ok-settled.ensures.behind c.in_ok-settled.ensures.earlier c.journal.ensures c.deref-2.ensures.value journal entry said t))
    (g.J.Replaced.named c.args.journal.now) (g.J.Replaced.named c.put_sealed.new.journal) (g.K.Replaced.named c.args.seal.now) (g.K.Replaced.named c.put_sealed.new.seal)
    (g.J.Replaced.may_leave c.put_sealed.new.journal) (g.K.Replaced.may_leave c.put_sealed.new.seal) (g.W.Write.contents c.args.out.now) (g.W.Write.contents c.put_sealed.new.out)
    c.put_sealed.result c.put_sealed.ensures.ok

pub returns-clause-large : goal.returns-clause-large
returns-clause-large g c =
    all_unsealable (AreTexts c.in_ok-settled.field-0.basis c.as_slice.result.now c.in_ok-settled.field-0.changes c.in_ok-settled.field-0.behind c.args.today c.in_ok-settled.field-0.earlier c.journal.result.now c.deref-2.result.now)
    (IsSealedRunOf c.args.beside.now g.I.Read.remaining g.I.Read.remaining c.args.inputs.now c.args.today (g.I.Read.remaining c.args.after.now) (map g.I.Read.remaining c.args.scripts.now) (g.I.Read.remaining c.args.changes.now))
    (λ journal entry said t. sealed_run (g.I.Read.remaining c.args.inputs.now.set) (g.I.Read.remaining c.args.inputs.now.limits) (g.I.Read.remaining c.args.after.now) c.args.inputs.now.first c.args.inputs.now.days c.args.today
    (map g.I.Read.remaining c.args.scripts.now) (g.I.Read.remaining c.args.changes.now) c.in_ok-asked.asked.flights c.in_ok-asked.asked.past.grid c.in_ok-asked.asked.past.journal c.in_ok-asked.asked.scripts c.in_ok-asked.asked.changes.items
    c.in_ok-settled.field-0.settled.journal c.in_ok-settled.field-0.settled.receipts c.in_ok-settled.field-0.replies.items
    (record { is_history = c.in_ok-settled.ensures.ok; are_entries = c.in_ok-settled.ensures.entries; is_replied = c.in_ok-settled.ensures.replies })
    c.in_ok-asked.asked.basis c.in_ok-asked.ensures.basis c.in_ok-asked.asked.imprints c.in_ok-asked.ensures.imprints c.in_ok-asked.asked.changes_imprint c.in_ok-asked.ensures.changed c.in_ok-asked.asked.behind c.in_ok-asked.asked.earlier c.args.beside.now c.in_ok-asked.ensures.ok c.in_ok-asked.ensures.behind c.in_ok-asked.ensures.earlier journal entry said (same_texts c.in_ok-settled.field-0.basis c.in_ok-asked.asked.basis c.as_slice.result.now c.in_ok-asked.asked.imprints c.in_ok-settled.field-0.changes c.in_ok-asked.asked.changes_imprint c.in_ok-settled.field-0.behind c.in_ok-asked.asked.behind c.args.today
    c.in_ok-settled.field-0.earlier c.in_ok-asked.asked.earlier c.journal.result.now c.in_ok-settled.field-0.settled.journal c.deref-2.result.now c.in_ok-settled.field-0.replies.items
    c.in_ok-settled.ensures.basis (c.as_slice.ensures ∙ c.in_ok-settled.ensures.imprints) c.in_ok-settled.ensures.changes c.in_ok-settled.ensures.behind c.in_ok-settled.ensures.earlier c.journal.ensures c.deref-2.ensures.value journal entry said t))
    _ c.put_sealed.result c.put_sealed.ensures.large

pub returns-clause-device : goal.returns-clause-device
returns-clause-device g c =
    all_stopped (AreTexts c.in_ok-settled.field-0.basis c.as_slice.result.now c.in_ok-settled.field-0.changes c.in_ok-settled.field-0.behind c.args.today c.in_ok-settled.field-0.earlier c.journal.result.now c.deref-2.result.now)
    (IsSealedRunOf c.args.beside.now g.I.Read.remaining g.I.Read.remaining c.args.inputs.now c.args.today (g.I.Read.remaining c.args.after.now) (map g.I.Read.remaining c.args.scripts.now) (g.I.Read.remaining c.args.changes.now))
    (λ journal entry said t. sealed_run (g.I.Read.remaining c.args.inputs.now.set) (g.I.Read.remaining c.args.inputs.now.limits) (g.I.Read.remaining c.args.after.now) c.args.inputs.now.first c.args.inputs.now.days c.args.today
    (map g.I.Read.remaining c.args.scripts.now) (g.I.Read.remaining c.args.changes.now) c.in_ok-asked.asked.flights c.in_ok-asked.asked.past.grid c.in_ok-asked.asked.past.journal c.in_ok-asked.asked.scripts c.in_ok-asked.asked.changes.items
    c.in_ok-settled.field-0.settled.journal c.in_ok-settled.field-0.settled.receipts c.in_ok-settled.field-0.replies.items
    (record { is_history = c.in_ok-settled.ensures.ok; are_entries = c.in_ok-settled.ensures.entries; is_replied = c.in_ok-settled.ensures.replies })
    c.in_ok-asked.asked.basis c.in_ok-asked.ensures.basis c.in_ok-asked.asked.imprints c.in_ok-asked.ensures.imprints c.in_ok-asked.asked.changes_imprint c.in_ok-asked.ensures.changed c.in_ok-asked.asked.behind c.in_ok-asked.asked.earlier c.args.beside.now c.in_ok-asked.ensures.ok c.in_ok-asked.ensures.behind c.in_ok-asked.ensures.earlier journal entry said (same_texts c.in_ok-settled.field-0.basis c.in_ok-asked.asked.basis c.as_slice.result.now c.in_ok-asked.asked.imprints c.in_ok-settled.field-0.changes c.in_ok-asked.asked.changes_imprint c.in_ok-settled.field-0.behind c.in_ok-asked.asked.behind c.args.today
    c.in_ok-settled.field-0.earlier c.in_ok-asked.asked.earlier c.journal.result.now c.in_ok-settled.field-0.settled.journal c.deref-2.result.now c.in_ok-settled.field-0.replies.items
    c.in_ok-settled.ensures.basis (c.as_slice.ensures ∙ c.in_ok-settled.ensures.imprints) c.in_ok-settled.ensures.changes c.in_ok-settled.ensures.behind c.in_ok-settled.ensures.earlier c.journal.ensures c.deref-2.ensures.value journal entry said t))
    (FailsSealedRun c.args.beside.now g.I.Read.remaining g.I.Read.remaining c.args.inputs.now c.args.today (g.I.Read.remaining c.args.after.now) (map g.I.Read.remaining c.args.scripts.now)
    (HasFirstLoadFailed g.I.Read.remaining g.I.Failures.failure_count g.I.Failures.failure_count c.args.inputs.now c.read_asked.new.inputs) (HasFailed g.I.Failures.failure_count c.args.after.now c.read_asked.new.after)
    (HasFailedAmong c.args.today (map g.I.Read.remaining c.args.scripts.now) g.I.Failures.failure_count c.args.scripts.now c.read_asked.new.scripts)
    (HasFailed g.I.Failures.failure_count c.args.changes.now c.read_asked.new.changes))
    g.J.Failures.failure_count g.J.Replaced.named g.J.Replaced.may_leave g.K.Failures.failure_count g.K.Replaced.named g.K.Replaced.may_leave g.W.Failures.failure_count g.W.Write.contents c.args.older
    c.args.journal.now c.put_sealed.new.journal c.args.seal.now c.put_sealed.new.seal c.args.out.now c.put_sealed.new.out
    c.put_sealed.result c.put_sealed.ensures.stopped

pub returns-in_err-settled-clause-fault : goal.returns-in_err-settled-clause-fault
returns-in_err-settled-clause-fault g c =
    let p = err_from_is_err_and c.from_residual-in_err-settled.result c.from_residual-in_err-settled.ensures.1 in
    rw (p.1, p.2) (λ input. behind_seal (g.I.Read.remaining c.args.inputs.now.set) (g.I.Read.remaining c.args.inputs.now.limits) (g.I.Read.remaining c.args.after.now) c.args.inputs.now.first c.args.inputs.now.days c.args.today
    (map g.I.Read.remaining c.args.scripts.now) (g.I.Read.remaining c.args.changes.now) c.args.beside.now c.args.again c.in_err-settled.field-0.0 c.in_ok-asked.ensures.sealed
    (run_unbooked (g.I.Read.remaining c.args.inputs.now.set) (g.I.Read.remaining c.args.inputs.now.limits) (g.I.Read.remaining c.args.after.now) c.args.inputs.now.first c.args.inputs.now.days c.args.today
    (map g.I.Read.remaining c.args.scripts.now) (g.I.Read.remaining c.args.changes.now)
    c.in_ok-asked.asked.flights c.in_ok-asked.asked.past.grid c.in_ok-asked.asked.past.journal c.in_ok-asked.asked.scripts c.in_ok-asked.asked.changes.items c.in_err-settled.field-0.0
    c.in_ok-asked.ensures.ok c.in_err-settled.ensures.fault input)
    (call_once c.args.again c.args.beside.now (g.I.Read.remaining c.args.after.now) (map g.I.Read.remaining c.args.scripts.now) (g.I.Read.remaining c.args.changes.now)
    c.in_err-settled.field-0.0 c.in_ok-asked.ensures.once))

pub returns-in_err-asked-clause-only : goal.returns-in_err-asked-clause-only
returns-in_err-asked-clause-only g c = keeps_none c.args.keeps _ _

pub returns-in_err-asked-clause-only_seal : goal.returns-in_err-asked-clause-only_seal
returns-in_err-asked-clause-only_seal g c = keeps_none c.args.keeps _ _

pub returns-in_err-settled-clause-only : goal.returns-in_err-settled-clause-only
returns-in_err-settled-clause-only g c = keeps_none c.args.keeps _ _

pub returns-in_err-settled-clause-only_seal : goal.returns-in_err-settled-clause-only_seal
returns-in_err-settled-clause-only_seal g c = keeps_none c.args.keeps _ _

pub put_sealed-requires-clause-scripts : goal.put_sealed-requires-clause-scripts
put_sealed-requires-clause-scripts g c =
    few_imprints g.I.Read.remaining c.args.scripts.now c.in_ok-asked.asked.imprints c.as_slice.result.now
    c.in_ok-asked.ensures.imprints (c.as_slice.ensures ∙ c.in_ok-settled.ensures.imprints) c.requires.scripts.1

pub put_sealed-requires-clause-imprint : goal.put_sealed-requires-clause-imprint
put_sealed-requires-clause-imprint g c =
    same_front c.in_ok-settled.field-0.imprint c.in_ok-settled.field-0.text.items c.deref.result.now c.in_ok-settled.ensures.imprint c.deref.ensures.value

pub returns-clause-once : goal.returns-clause-once
returns-clause-once g c = on_ok c.put_sealed.result _ c.in_ok-asked.ensures.once

pub returns-clause-sealed : goal.returns-clause-sealed
returns-clause-sealed g c = on_ok c.put_sealed.result _ c.in_ok-asked.ensures.sealed

pub returns-clause-fault : goal.returns-clause-fault
returns-clause-fault g c = never_of_input _ c.put_sealed.result c.put_sealed.ensures.kind

pub returns-clause-named : goal.returns-clause-named
returns-clause-named g c = c.put_sealed.ensures.sealed

pub returns-clause-crash : goal.returns-clause-crash
returns-clause-crash g c = c.put_sealed.ensures.crash

pub returns-clause-denied : goal.returns-clause-denied
returns-clause-denied g c = c.put_sealed.ensures.denied

pub returns-clause-lost : goal.returns-clause-lost
returns-clause-lost g c = c.put_sealed.ensures.lost

pub returns-clause-lost_seal : goal.returns-clause-lost_seal
returns-clause-lost_seal g c = c.put_sealed.ensures.lost_seal

pub returns-clause-along : goal.returns-clause-along
returns-clause-along g c = c.put_sealed.ensures.along

pub returns-clause-only : goal.returns-clause-only
returns-clause-only g c = c.put_sealed.ensures.only

pub returns-clause-only_seal : goal.returns-clause-only_seal
returns-clause-only_seal g c = c.put_sealed.ensures.only_seal

pub returns-clause-synced : goal.returns-clause-synced
returns-clause-synced g c = c.put_sealed.ensures.synced

pub returns-clause-ahead : goal.returns-clause-ahead
returns-clause-ahead g c = c.put_sealed.ensures.ahead

pub returns-clause-told : goal.returns-clause-told
returns-clause-told g c = c.put_sealed.ensures.told

pub returns-clause-untouched : goal.returns-clause-untouched
returns-clause-untouched g c = c.put_sealed.ensures.untouched
