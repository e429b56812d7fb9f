use Rattle.std.proofs.Common.{Result, subst, sym, ◌∙◌}
use Rattle.std.proofs.lemmas.Result.{on_ok_weaker}
use Rattle.std.specs.Prelude.{Ok, Err, OnOk}
use Rattle.seat_handing.proofs.Marks.{denied_by_none}
use Rattle.seat_handing.proofs.Ordered.{never_both}
use Rattle.seat_handing.specs.Handing.{put_back}
use Rattle.seat_handing.specs.Marking.{SaysCarried, mark_of}
use Rattle.seat_handing.proofs.handing.hand_over.Goals as goal

both_ok : {A E : Type 0} (r : Result A E) (P Q : Type 0) → OnOk r P → OnOk r Q → OnOk r (P × Q)
both_ok (Ok x) P Q p q = (p, q)
both_ok (Err e) P Q p q = tt

pub returns-clause-ok : goal.returns-clause-ok
returns-clause-ok g c =
    rw (← c.as_slice.ensures.value ∙ c.text_of_mark-mark.ensures.text)
    (rw (← c.as_slice-3.ensures.value ∙ c.seal_texts-texts.ensures.alone) c.hand_in_order.ensures.ok)

pub returns-clause-order : goal.returns-clause-order
returns-clause-order g c =
    rw (← c.as_slice.ensures.value ∙ c.text_of_mark-mark.ensures.text)
    (rw (← c.as_slice-2.ensures.value ∙ c.seal_texts-texts.ensures.both) (rw (← c.as_slice-3.ensures.value ∙ c.seal_texts-texts.ensures.alone)
    (rw c.is_taken_back.ensures at c.hand_in_order.ensures.order)))

pub returns-clause-names : goal.returns-clause-names
returns-clause-names g c = c.text_of_mark-mark.ensures.names

pub returns-clause-each : goal.returns-clause-each
returns-clause-each g c = c.text_of_mark-mark.ensures.each

pub returns-clause-taken : goal.returns-clause-taken
returns-clause-taken g c =
    rw (← c.as_slice.ensures.value ∙ c.text_of_mark-mark.ensures.text)
    (rw (← c.as_slice-2.ensures.value ∙ c.seal_texts-texts.ensures.both) (rw c.is_taken_back.ensures at c.hand_in_order.ensures.taken))

pub returns-clause-unfinished : goal.returns-clause-unfinished
returns-clause-unfinished g c =
    rw (← c.as_slice.ensures.value ∙ c.text_of_mark-mark.ensures.text)
    (rw (← c.as_slice-2.ensures.value ∙ c.seal_texts-texts.ensures.both) (rw (← c.as_slice-3.ensures.value ∙ c.seal_texts-texts.ensures.alone)
    (rw c.is_taken_back.ensures at c.hand_in_order.ensures.unfinished)))

pub returns-clause-unsaid : goal.returns-clause-unsaid
returns-clause-unsaid g c =
    rw (← c.as_slice.ensures.value ∙ c.text_of_mark-mark.ensures.text)
    (rw (← c.as_slice-3.ensures.value ∙ c.seal_texts-texts.ensures.alone) c.hand_in_order.ensures.unsaid)

pub returns-clause-silent : goal.returns-clause-silent
returns-clause-silent g c = c.hand_in_order.ensures.silent

pub returns-clause-only : goal.returns-clause-only
returns-clause-only g c = c.hand_in_order.ensures.only

pub returns-clause-only_new : goal.returns-clause-only_new
returns-clause-only_new g c = (c.hand_in_order.ensures.only_journal, c.hand_in_order.ensures.only_seal)

pub returns-clause-synced : goal.returns-clause-synced
returns-clause-synced g c = both_ok c.hand_in_order.result _ _ c.hand_in_order.ensures.synced c.hand_in_order.ensures.synced_both

pub returns-clause-ahead : goal.returns-clause-ahead
returns-clause-ahead g c = (c.hand_in_order.ensures.unsynced, c.hand_in_order.ensures.unsynced_both)

pub returns-clause-first : goal.returns-clause-first
returns-clause-first g c = c.hand_in_order.ensures.first

pub returns-clause-same : goal.returns-clause-same
returns-clause-same g c = c.hand_in_order.ensures.same

pub returns-clause-told : goal.returns-clause-told
returns-clause-told g c = c.hand_in_order.ensures.told

pub returns-clause-never : goal.returns-clause-never
returns-clause-never g c =
    never_both c.as_slice.result.now (put_back c.args.hand c.args.before.now) c.as_slice-2.result.now c.args.text.now c.as_slice-3.result.now
    (g.S.Replaced.may_leave c.args.seal.now) (g.J.Replaced.may_leave c.args.journal.now) (g.K.Replaced.may_leave c.args.new_seal.now)
    (g.S.Replaced.may_leave c.hand_in_order.new.seal) (g.J.Replaced.may_leave c.hand_in_order.new.journal) (g.K.Replaced.may_leave c.hand_in_order.new.new_seal)
    (mark_of c.args.name.now c.args.whole.now)
    (subst (SaysCarried (mark_of c.args.name.now c.args.whole.now)) (sym (c.as_slice.ensures.value ∙ c.text_of_mark-mark.ensures.text))
    c.text_of_mark-mark.ensures.says)
    (rw c.is_taken_back.ensures at c.hand_in_order.ensures.order)

pub returns-clause-sealed : goal.returns-clause-sealed
returns-clause-sealed g c =
    on_ok_weaker c.hand_in_order.result
    (λ done. denied_by_none c.args.newer c.args.text.now c.as_slice-3.result.now (g.J.Replaced.may_leave c.hand_in_order.new.journal) (g.K.Replaced.may_leave
    c.hand_in_order.new.new_seal)
    (c.as_slice-3.ensures.value ∙ c.seal_texts-texts.ensures.alone) c.seal_texts-texts.ensures.last c.requires.imprint done.are_handed.in_place.kept
    done.are_handed.in_place.seal_kept)
    c.hand_in_order.ensures.ok
