use Rattle.std.proofs.Common.{◌≡◌, length, refl, subst}
use Rattle.std.specs.Prelude.{IsTrue}
use Rattle.std.proofs.lemmas.Option.{slice_get_read}
use Rattle.seat_journal.specs.declared.entry.Work.{Work}
use Rattle.seat_scripts.proofs.Made.{made_there}
use Rattle.seat_scripts.proofs.making.is_made.Goals as goal

pub returns-in-Some : goal.returns-in-Some
returns-in-Some c =
    let found = c.in-Some.ensures.lookup in
    made_there c.args.changes.now c.args.place c.in-Some.change.now c.args.work c.is_same.result
    (slice_get_read c.args.changes.now (length c.args.changes.now) c.args.place c.in-Some.change.now refl found.3.0 found.1)
    (subst (λ (w : Work). (IsTrue c.is_same.result → w ≡ c.args.work) × (w ≡ c.args.work → IsTrue c.is_same.result)) c.work.ensures
    c.is_same.ensures)
