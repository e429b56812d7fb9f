use Rattle.std.proofs.Common.{inl, refl}
use Rattle.std.proofs.lemmas.List.{nil_from_length}
use Rattle.seat_disk.proofs.Keeping.{no_more}
use Rattle.hand_steps.proofs.Faults.{back_not_unfinished, back_not_unsaid, unfinished_not_back, unfinished_not_unsaid}
use Rattle.seat_handing.proofs.Olders.{back_more, back_none, kept_more, kept_same, not_fewer, staying_here, staying_later, unsynced_more, unsynced_same}
use Rattle.seat_handing.proofs.several.+take_back_all.Goals as goal

-- ---- none is left

pub returns-in_default-clause-taken : goal.returns-in_default-clause-taken
returns-in_default-clause-taken g t c = λ _. back_none _ _ _ _ _ (nil_from_length c.args.marks.now c.in_default.ensures.cases)

pub returns-in_default-clause-left : goal.returns-in_default-clause-left
returns-in_default-clause-left g t c = λ e. absurd (back_not_unfinished e)

pub returns-in_default-clause-kind : goal.returns-in_default-clause-kind
returns-in_default-clause-kind g t c = λ e. back_not_unsaid e

pub returns-in_default-clause-only : goal.returns-in_default-clause-only
returns-in_default-clause-only g t c = kept_same _ _

pub returns-in_default-clause-ahead : goal.returns-in_default-clause-ahead
returns-in_default-clause-ahead g t c = unsynced_same _ _

pub unreachable-requires : goal.unreachable-requires
unreachable-requires g t c =
    not_fewer c.args.marks.now c.in-Some.first.now c.in-Some.later.now c.args.seals.now c.requires.as_many c.in-Some.ensures.cases.0
    (nil_from_length c.args.seals.now c.in_default-split_first_mut.ensures.cases)

-- ---- those behind it were taken back

pub returns-in-TakenBack-clause-taken : goal.returns-in-TakenBack-clause-taken
returns-in-TakenBack-clause-taken g t c = λ e.
    back_more _ _ _ _ _ _ c.in-Some.ensures.cases.0 _ _ _ c.in-Some-split_first_mut.ensures.cases.0 _ _ _ c.as_slice.ensures
    (c.take_back_all.ensures.taken c.in-TakenBack.is) (c.take_back.ensures.taken e)

pub returns-in-TakenBack-clause-left : goal.returns-in-TakenBack-clause-left
returns-in-TakenBack-clause-left g t c = λ e.
    staying_here _ _ _ _ _ _ c.in-Some.ensures.cases.0 _ _ _ c.in-Some-split_first_mut.ensures.cases.0 _ _ _ c.as_slice.ensures
    (c.take_back_all.ensures.taken c.in-TakenBack.is) (c.take_back.ensures.left e)

pub returns-in-TakenBack-clause-kind : goal.returns-in-TakenBack-clause-kind
returns-in-TakenBack-clause-kind g t c = c.take_back.ensures.kind

pub returns-in-TakenBack-clause-only : goal.returns-in-TakenBack-clause-only
returns-in-TakenBack-clause-only g t c = kept_more _ _ _ _ _ _ c.in-Some-split_first_mut.ensures.cases.0 c.take_back.ensures.only c.take_back_all.ensures.only

pub returns-in-TakenBack-clause-ahead : goal.returns-in-TakenBack-clause-ahead
returns-in-TakenBack-clause-ahead g t c =
    unsynced_more _ _ _ _ _ _ c.in-Some-split_first_mut.ensures.cases.0 c.take_back.ensures.unsynced c.take_back_all.ensures.ahead

-- ---- or some stay

pub returns-in-Unfinished-clause-taken : goal.returns-in-Unfinished-clause-taken
returns-in-Unfinished-clause-taken g t c = λ e. absurd (unfinished_not_back e)

pub returns-in-Unfinished-clause-left : goal.returns-in-Unfinished-clause-left
returns-in-Unfinished-clause-left g t c = λ _.
    staying_later _ _ _ _ _ _ c.in-Some.ensures.cases.0 _ _ _ c.in-Some-split_first_mut.ensures.cases.0 _ (c.take_back_all.ensures.left c.in-Unfinished.is)

pub returns-in-Unfinished-clause-kind : goal.returns-in-Unfinished-clause-kind
returns-in-Unfinished-clause-kind g t c = λ e. unfinished_not_unsaid e

pub returns-in-Unfinished-clause-only : goal.returns-in-Unfinished-clause-only
returns-in-Unfinished-clause-only g t c = kept_more _ _ _ _ _ _ c.in-Some-split_first_mut.ensures.cases.0 (no_more _) c.take_back_all.ensures.only

pub returns-in-Unfinished-clause-ahead : goal.returns-in-Unfinished-clause-ahead
returns-in-Unfinished-clause-ahead g t c = unsynced_more _ _ _ _ _ _ c.in-Some-split_first_mut.ensures.cases.0 (inl refl) c.take_back_all.ensures.ahead
