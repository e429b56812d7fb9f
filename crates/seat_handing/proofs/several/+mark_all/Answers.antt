use Rattle.std.proofs.Common.{sym, ◌∙◌}
use Rattle.std.proofs.lemmas.List.{nil_from_length}
use Rattle.hand_steps.proofs.Faults.{unfinished_not_back, unfinished_not_unsaid, when_err, when_ok}
use Rattle.seat_handing.proofs.Olders.{kept_back, kept_here, kept_more, kept_same, marked_more, marked_none, not_fewer, stopped_back, stopped_here, stopped_later, synced_more, synced_none, unmarked_here, unmarked_later, unsynced_back, unsynced_here, unsynced_more, unsynced_same}
use Rattle.seat_handing.proofs.several.+mark_all.Goals as goal

-- ---- none is left

pub returns-in_default-clause-ok : goal.returns-in_default-clause-ok
returns-in_default-clause-ok g t c = marked_none _ _ _ _ _ (nil_from_length c.args.marks.now c.in_default.ensures.cases)

pub returns-in_default-clause-only : goal.returns-in_default-clause-only
returns-in_default-clause-only g t c = kept_same _ _

pub returns-in_default-clause-synced : goal.returns-in_default-clause-synced
returns-in_default-clause-synced g t c = synced_none _ _ _ c.requires.as_many (nil_from_length c.args.marks.now c.in_default.ensures.cases)

pub returns-in_default-clause-ahead : goal.returns-in_default-clause-ahead
returns-in_default-clause-ahead g t c = unsynced_same _ _

pub unreachable-requires : goal.unreachable-requires
unreachable-requires g t c =
    not_fewer c.args.marks.now c.in-Some.first.now c.in-Some.later.now c.args.seals.now c.requires.as_many c.in-Some.ensures.cases.0
    (nil_from_length c.args.seals.now c.in_default-split_first_mut.ensures.cases)

-- ---- the first one fails

pub returns-then-is_err-clause-taken : goal.returns-then-is_err-clause-taken
returns-then-is_err-clause-taken g t c = λ e.
    unmarked_here _ _ _ _ _ _ c.in-Some.ensures.cases.0 _ _ _ c.in-Some-split_first_mut.ensures.cases.0 _ _ _ _ c.as_slice.ensures
    c.as_slice-then-is_err.ensures (when_err c.put.result _ (sym c.is_err.ensures.value ∙ c.if-is_err.true) c.put.ensures.failed)
    (c.take_back.ensures.taken e)

pub returns-then-is_err-clause-left : goal.returns-then-is_err-clause-left
returns-then-is_err-clause-left g t c = λ e.
    stopped_here _ _ _ _ _ _ c.in-Some.ensures.cases.0 _ _ _ c.in-Some-split_first_mut.ensures.cases.0 _ _ _ _ c.as_slice.ensures
    c.as_slice-then-is_err.ensures (when_err c.put.result _ (sym c.is_err.ensures.value ∙ c.if-is_err.true) c.put.ensures.failed) (c.take_back.ensures.left e)

pub returns-then-is_err-clause-kind : goal.returns-then-is_err-clause-kind
returns-then-is_err-clause-kind g t c = c.take_back.ensures.kind

pub returns-then-is_err-clause-only : goal.returns-then-is_err-clause-only
returns-then-is_err-clause-only g t c = kept_here _ _ _ _ _ _ c.in-Some-split_first_mut.ensures.cases.0 c.put.ensures.only c.take_back.ensures.only

pub returns-then-is_err-clause-ahead : goal.returns-then-is_err-clause-ahead
returns-then-is_err-clause-ahead g t c = unsynced_here _ _ _ _ _ _ c.in-Some-split_first_mut.ensures.cases.0 c.put.ensures.ahead c.take_back.ensures.unsynced

-- ---- all have their marks

pub returns-in-Ok-clause-ok : goal.returns-in-Ok-clause-ok
returns-in-Ok-clause-ok g t c =
    marked_more _ _ _ _ _ _ c.in-Some.ensures.cases.0 _ _ _ c.in-Some-split_first_mut.ensures.cases.0 _ _ _ c.as_slice.ensures
    (when_ok c.put.result _ (sym c.is_err.ensures.value ∙ c.if-is_err.false) c.put.ensures.ok) c.in-Ok.ensures.ok

pub returns-in-Ok-clause-only : goal.returns-in-Ok-clause-only
returns-in-Ok-clause-only g t c = kept_more _ _ _ _ _ _ c.in-Some-split_first_mut.ensures.cases.0 c.put.ensures.only c.in-Ok.ensures.only

pub returns-in-Ok-clause-synced : goal.returns-in-Ok-clause-synced
returns-in-Ok-clause-synced g t c =
    synced_more _ _ _ (when_ok c.put.result _ (sym c.is_err.ensures.value ∙ c.if-is_err.false) c.put.ensures.synced) c.in-Ok.ensures.synced

pub returns-in-Ok-clause-ahead : goal.returns-in-Ok-clause-ahead
returns-in-Ok-clause-ahead g t c = unsynced_more _ _ _ _ _ _ c.in-Some-split_first_mut.ensures.cases.0 c.put.ensures.ahead c.in-Ok.ensures.ahead

-- ---- one behind it fails

pub returns-in-TakenBack-clause-taken : goal.returns-in-TakenBack-clause-taken
returns-in-TakenBack-clause-taken g t c = λ e.
    unmarked_later _ _ _ _ _ _ c.in-Some.ensures.cases.0 _ _ _ c.in-Some-split_first_mut.ensures.cases.0 _ _ _ _ _ c.as_slice.ensures
    c.as_slice-in-TakenBack.ensures (when_ok c.put.result _ (sym c.is_err.ensures.value ∙ c.if-is_err.false) c.put.ensures.ok)
    (c.in-Err.ensures.taken c.in-TakenBack.is) (c.take_back-in-TakenBack.ensures.taken e)

pub returns-in-TakenBack-clause-left : goal.returns-in-TakenBack-clause-left
returns-in-TakenBack-clause-left g t c = λ e.
    stopped_back _ _ _ _ _ _ c.in-Some.ensures.cases.0 _ _ _ c.in-Some-split_first_mut.ensures.cases.0 _ _ _ _ _ c.as_slice.ensures
    c.as_slice-in-TakenBack.ensures (when_ok c.put.result _ (sym c.is_err.ensures.value ∙ c.if-is_err.false) c.put.ensures.ok)
    (c.in-Err.ensures.taken c.in-TakenBack.is) (c.take_back-in-TakenBack.ensures.left e)

pub returns-in-TakenBack-clause-kind : goal.returns-in-TakenBack-clause-kind
returns-in-TakenBack-clause-kind g t c = c.take_back-in-TakenBack.ensures.kind

pub returns-in-TakenBack-clause-only : goal.returns-in-TakenBack-clause-only
returns-in-TakenBack-clause-only g t c =
    kept_back _ _ _ _ _ _ _ c.in-Some-split_first_mut.ensures.cases.0 c.put.ensures.only c.in-Err.ensures.only c.take_back-in-TakenBack.ensures.only

pub returns-in-TakenBack-clause-ahead : goal.returns-in-TakenBack-clause-ahead
returns-in-TakenBack-clause-ahead g t c =
    unsynced_back _ _ _ _ _ _ _ c.in-Some-split_first_mut.ensures.cases.0 c.put.ensures.ahead c.in-Err.ensures.ahead c.take_back-in-TakenBack.ensures.unsynced

pub returns-in-Unfinished-clause-taken : goal.returns-in-Unfinished-clause-taken
returns-in-Unfinished-clause-taken g t c = λ e. absurd (unfinished_not_back e)

pub returns-in-Unfinished-clause-left : goal.returns-in-Unfinished-clause-left
returns-in-Unfinished-clause-left g t c = λ _.
    stopped_later _ _ _ _ _ _ c.in-Some.ensures.cases.0 _ _ _ c.in-Some-split_first_mut.ensures.cases.0 _ _ _ c.as_slice.ensures
    (when_ok c.put.result _ (sym c.is_err.ensures.value ∙ c.if-is_err.false) c.put.ensures.ok) (c.in-Err.ensures.left c.in-Unfinished.is)

pub returns-in-Unfinished-clause-kind : goal.returns-in-Unfinished-clause-kind
returns-in-Unfinished-clause-kind g t c = λ e. unfinished_not_unsaid e

pub returns-in-Unfinished-clause-only : goal.returns-in-Unfinished-clause-only
returns-in-Unfinished-clause-only g t c = kept_more _ _ _ _ _ _ c.in-Some-split_first_mut.ensures.cases.0 c.put.ensures.only c.in-Err.ensures.only

pub returns-in-Unfinished-clause-ahead : goal.returns-in-Unfinished-clause-ahead
returns-in-Unfinished-clause-ahead g t c = unsynced_more _ _ _ _ _ _ c.in-Some-split_first_mut.ensures.cases.0 c.put.ensures.ahead c.in-Err.ensures.ahead

pub returns-in-Unsaid-clause-taken : goal.returns-in-Unsaid-clause-taken
returns-in-Unsaid-clause-taken g t c = λ _. absurd (c.in-Err.ensures.kind c.in-Unsaid.is)

pub returns-in-Unsaid-clause-left : goal.returns-in-Unsaid-clause-left
returns-in-Unsaid-clause-left g t c = λ _. absurd (c.in-Err.ensures.kind c.in-Unsaid.is)

pub returns-in-Unsaid-clause-kind : goal.returns-in-Unsaid-clause-kind
returns-in-Unsaid-clause-kind g t c = λ _. c.in-Err.ensures.kind c.in-Unsaid.is

pub returns-in-Unsaid-clause-only : goal.returns-in-Unsaid-clause-only
returns-in-Unsaid-clause-only g t c = kept_more _ _ _ _ _ _ c.in-Some-split_first_mut.ensures.cases.0 c.put.ensures.only c.in-Err.ensures.only

pub returns-in-Unsaid-clause-ahead : goal.returns-in-Unsaid-clause-ahead
returns-in-Unsaid-clause-ahead g t c = unsynced_more _ _ _ _ _ _ c.in-Some-split_first_mut.ensures.cases.0 c.put.ensures.ahead c.in-Err.ensures.ahead
