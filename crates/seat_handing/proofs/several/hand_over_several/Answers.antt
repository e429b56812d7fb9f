use Rattle.std.proofs.Common.{inl, inr, refl, sym, ◌∙◌}
use Rattle.seat_disk.proofs.Keeping.{no_more}
use Rattle.hand_steps.proofs.Faults.{back_not_unsaid, unfinished_not_back, unfinished_not_unsaid, unsaid_not_back, unsaid_not_unfinished}
use Rattle.seat_handing.proofs.Olders.{all_handed, any_marked, kept_through, never_any_back, never_any_same, never_same, same_names, taken_all, taken_marks, taken_within, unfinished_back, unfinished_last, unfinished_marks, unsynced_through}
use Rattle.seat_handing.proofs.several.hand_over_several.Goals as goal

-- ---- a mark failed

pub returns-in-Err-clause-never : goal.returns-in-Err-clause-never
returns-in-Err-clause-never g c = never_same _ _ _

pub returns-in-Err-clause-never_any : goal.returns-in-Err-clause-never_any
returns-in-Err-clause-never_any g c = never_any_same _ _ _ _

pub returns-in-Err-clause-taken : goal.returns-in-Err-clause-taken
returns-in-Err-clause-taken g c = λ e. taken_marks _ _ _ _ _ _ _ _ _ _ (c.in-Err.ensures.taken e)

pub returns-in-Err-clause-unfinished : goal.returns-in-Err-clause-unfinished
returns-in-Err-clause-unfinished g c = λ e. unfinished_marks _ _ _ _ _ _ _ _ _ _ _ (c.in-Err.ensures.left e)

pub returns-in-Err-clause-unsaid : goal.returns-in-Err-clause-unsaid
returns-in-Err-clause-unsaid g c = λ e. absurd (c.in-Err.ensures.kind e)

pub returns-in-Err-clause-silent : goal.returns-in-Err-clause-silent
returns-in-Err-clause-silent g c = λ _. refl

pub returns-in-Err-clause-within : goal.returns-in-Err-clause-within
returns-in-Err-clause-within g c = λ _ _ left. left

pub returns-in-Err-clause-only : goal.returns-in-Err-clause-only
returns-in-Err-clause-only g c = c.in-Err.ensures.only

pub returns-in-Err-clause-only_last : goal.returns-in-Err-clause-only_last
returns-in-Err-clause-only_last g c = no_more _

pub returns-in-Err-clause-only_new : goal.returns-in-Err-clause-only_new
returns-in-Err-clause-only_new g c = (no_more _, no_more _)

pub returns-in-Err-clause-synced_unsaid : goal.returns-in-Err-clause-synced_unsaid
returns-in-Err-clause-synced_unsaid g c = λ e. absurd (c.in-Err.ensures.kind e)

pub returns-in-Err-clause-ahead : goal.returns-in-Err-clause-ahead
returns-in-Err-clause-ahead g c = c.in-Err.ensures.ahead

pub returns-in-Err-clause-ahead_last : goal.returns-in-Err-clause-ahead_last
returns-in-Err-clause-ahead_last g c = (inl refl, (inl refl, inl refl))

pub returns-in-Err-clause-first : goal.returns-in-Err-clause-first
returns-in-Err-clause-first g c = inl (same_names _)

pub returns-in-Err-clause-first_last : goal.returns-in-Err-clause-first_last
returns-in-Err-clause-first_last g c = inl (same_names _)

-- ---- the last one, and the newer journal

pub hand_over-outcome-requires-clause-known : goal.hand_over-outcome-requires-clause-known
hand_over-outcome-requires-clause-known g c = c.requires.known

pub hand_over-outcome-requires-clause-rules : goal.hand_over-outcome-requires-clause-rules
hand_over-outcome-requires-clause-rules g c = c.requires.rules

pub hand_over-outcome-requires-clause-fits : goal.hand_over-outcome-requires-clause-fits
hand_over-outcome-requires-clause-fits g c = c.requires.fits

pub hand_over-outcome-requires-clause-imprint : goal.hand_over-outcome-requires-clause-imprint
hand_over-outcome-requires-clause-imprint g c = c.requires.imprint

-- ---- all are handed over

pub returns-in-Ok-outcome-clause-ok : goal.returns-in-Ok-outcome-clause-ok
returns-in-Ok-outcome-clause-ok g c = all_handed _ _ _ _ _ _ _ c.in-Ok.ensures.ok c.in-Ok-outcome.ensures.ok

pub returns-in-Ok-outcome-clause-never : goal.returns-in-Ok-outcome-clause-never
returns-in-Ok-outcome-clause-never g c = c.in-Ok-outcome.ensures.never

pub returns-in-Ok-outcome-clause-never_any : goal.returns-in-Ok-outcome-clause-never_any
returns-in-Ok-outcome-clause-never_any g c = any_marked _ _ _ _ _ _ _ _ _ c.requires.as_many c.requires.say c.in-Ok.ensures.ok

pub returns-in-Ok-outcome-clause-sealed : goal.returns-in-Ok-outcome-clause-sealed
returns-in-Ok-outcome-clause-sealed g c = c.in-Ok-outcome.ensures.sealed

pub returns-in-Ok-outcome-clause-only : goal.returns-in-Ok-outcome-clause-only
returns-in-Ok-outcome-clause-only g c = c.in-Ok.ensures.only

pub returns-in-Ok-outcome-clause-only_last : goal.returns-in-Ok-outcome-clause-only_last
returns-in-Ok-outcome-clause-only_last g c = c.in-Ok-outcome.ensures.only

pub returns-in-Ok-outcome-clause-only_new : goal.returns-in-Ok-outcome-clause-only_new
returns-in-Ok-outcome-clause-only_new g c = c.in-Ok-outcome.ensures.only_new

pub returns-in-Ok-outcome-clause-synced : goal.returns-in-Ok-outcome-clause-synced
returns-in-Ok-outcome-clause-synced g c = c.in-Ok.ensures.synced

pub returns-in-Ok-outcome-clause-synced_last : goal.returns-in-Ok-outcome-clause-synced_last
returns-in-Ok-outcome-clause-synced_last g c = c.in-Ok-outcome.ensures.synced

pub returns-in-Ok-outcome-clause-ahead : goal.returns-in-Ok-outcome-clause-ahead
returns-in-Ok-outcome-clause-ahead g c = c.in-Ok.ensures.ahead

pub returns-in-Ok-outcome-clause-ahead_last : goal.returns-in-Ok-outcome-clause-ahead_last
returns-in-Ok-outcome-clause-ahead_last g c = c.in-Ok-outcome.ensures.ahead

pub returns-in-Ok-outcome-clause-first : goal.returns-in-Ok-outcome-clause-first
returns-in-Ok-outcome-clause-first g c = inr c.in-Ok.ensures.synced

pub returns-in-Ok-outcome-clause-first_last : goal.returns-in-Ok-outcome-clause-first_last
returns-in-Ok-outcome-clause-first_last g c = c.in-Ok-outcome.ensures.first

-- ---- the last one was taken back, and so are those ahead of it

pub returns-in-TakenBack-clause-never : goal.returns-in-TakenBack-clause-never
returns-in-TakenBack-clause-never g c = c.in-Err-outcome.ensures.never

pub returns-in-TakenBack-clause-never_any : goal.returns-in-TakenBack-clause-never_any
returns-in-TakenBack-clause-never_any g c =
    never_any_back _ _ _ _ _ g.J.Replaced.may_leave _ _ _ _ _ _ _ _ _ _ _ _ _ _ (c.in-Err-outcome.ensures.taken c.in-TakenBack.is)

pub returns-in-TakenBack-clause-taken : goal.returns-in-TakenBack-clause-taken
returns-in-TakenBack-clause-taken g c = λ e.
    taken_all _ _ _ _ _ _ _ _ _ c.in-Ok.ensures.ok (c.take_back_all.ensures.taken e) (c.in-Err-outcome.ensures.taken c.in-TakenBack.is)

pub returns-in-TakenBack-clause-unfinished : goal.returns-in-TakenBack-clause-unfinished
returns-in-TakenBack-clause-unfinished g c = λ e.
    unfinished_back _ _ _ _ _ _ _ _ _ _ c.in-Ok.ensures.ok (c.take_back_all.ensures.left e) (c.in-Err-outcome.ensures.taken c.in-TakenBack.is)

pub returns-in-TakenBack-clause-unsaid : goal.returns-in-TakenBack-clause-unsaid
returns-in-TakenBack-clause-unsaid g c = λ e. absurd (c.take_back_all.ensures.kind e)

pub returns-in-TakenBack-clause-silent : goal.returns-in-TakenBack-clause-silent
returns-in-TakenBack-clause-silent g c = λ _. c.in-Err-outcome.ensures.silent (λ e. back_not_unsaid (sym c.in-TakenBack.is ∙ e))

pub returns-in-TakenBack-clause-within : goal.returns-in-TakenBack-clause-within
returns-in-TakenBack-clause-within g c = λ e.
    taken_within _ _ _ _ _ g.J.Replaced.may_leave _ _ _ _ _ _ _ _ _ _ _ _ (c.in-Err-outcome.ensures.taken c.in-TakenBack.is)

pub returns-in-TakenBack-clause-only : goal.returns-in-TakenBack-clause-only
returns-in-TakenBack-clause-only g c = kept_through _ _ _ _ c.in-Ok.ensures.only c.take_back_all.ensures.only

pub returns-in-TakenBack-clause-only_last : goal.returns-in-TakenBack-clause-only_last
returns-in-TakenBack-clause-only_last g c = c.in-Err-outcome.ensures.only

pub returns-in-TakenBack-clause-only_new : goal.returns-in-TakenBack-clause-only_new
returns-in-TakenBack-clause-only_new g c = c.in-Err-outcome.ensures.only_new

pub returns-in-TakenBack-clause-synced_unsaid : goal.returns-in-TakenBack-clause-synced_unsaid
returns-in-TakenBack-clause-synced_unsaid g c = λ e. absurd (c.take_back_all.ensures.kind e)

pub returns-in-TakenBack-clause-ahead : goal.returns-in-TakenBack-clause-ahead
returns-in-TakenBack-clause-ahead g c = unsynced_through _ _ _ _ c.in-Ok.ensures.ahead c.take_back_all.ensures.ahead

pub returns-in-TakenBack-clause-ahead_last : goal.returns-in-TakenBack-clause-ahead_last
returns-in-TakenBack-clause-ahead_last g c = c.in-Err-outcome.ensures.ahead

pub returns-in-TakenBack-clause-first : goal.returns-in-TakenBack-clause-first
returns-in-TakenBack-clause-first g c = inl (c.in-Err-outcome.ensures.same c.in-TakenBack.is)

pub returns-in-TakenBack-clause-first_last : goal.returns-in-TakenBack-clause-first_last
returns-in-TakenBack-clause-first_last g c = c.in-Err-outcome.ensures.first

-- ---- the last one is unfinished

pub returns-in-Unfinished-clause-never : goal.returns-in-Unfinished-clause-never
returns-in-Unfinished-clause-never g c = c.in-Err-outcome.ensures.never

pub returns-in-Unfinished-clause-never_any : goal.returns-in-Unfinished-clause-never_any
returns-in-Unfinished-clause-never_any g c = any_marked _ _ _ _ _ _ _ _ _ c.requires.as_many c.requires.say c.in-Ok.ensures.ok

pub returns-in-Unfinished-clause-taken : goal.returns-in-Unfinished-clause-taken
returns-in-Unfinished-clause-taken g c = λ e. absurd (unfinished_not_back e)

pub returns-in-Unfinished-clause-unfinished : goal.returns-in-Unfinished-clause-unfinished
returns-in-Unfinished-clause-unfinished g c = λ e.
    unfinished_last _ _ _ _ _ _ _ _ _ c.in-Ok.ensures.ok (c.in-Err-outcome.ensures.unfinished c.in-Unfinished.is)

pub returns-in-Unfinished-clause-unsaid : goal.returns-in-Unfinished-clause-unsaid
returns-in-Unfinished-clause-unsaid g c = λ e. absurd (unfinished_not_unsaid e)

pub returns-in-Unfinished-clause-silent : goal.returns-in-Unfinished-clause-silent
returns-in-Unfinished-clause-silent g c = λ _. c.in-Err-outcome.ensures.silent (λ e. unfinished_not_unsaid (sym c.in-Unfinished.is ∙ e))

pub returns-in-Unfinished-clause-within : goal.returns-in-Unfinished-clause-within
returns-in-Unfinished-clause-within g c = λ e. absurd (unfinished_not_back e)

pub returns-in-Unfinished-clause-only : goal.returns-in-Unfinished-clause-only
returns-in-Unfinished-clause-only g c = c.in-Ok.ensures.only

pub returns-in-Unfinished-clause-only_last : goal.returns-in-Unfinished-clause-only_last
returns-in-Unfinished-clause-only_last g c = c.in-Err-outcome.ensures.only

pub returns-in-Unfinished-clause-only_new : goal.returns-in-Unfinished-clause-only_new
returns-in-Unfinished-clause-only_new g c = c.in-Err-outcome.ensures.only_new

pub returns-in-Unfinished-clause-synced_unsaid : goal.returns-in-Unfinished-clause-synced_unsaid
returns-in-Unfinished-clause-synced_unsaid g c = λ e. absurd (unfinished_not_unsaid e)

pub returns-in-Unfinished-clause-ahead : goal.returns-in-Unfinished-clause-ahead
returns-in-Unfinished-clause-ahead g c = c.in-Ok.ensures.ahead

pub returns-in-Unfinished-clause-ahead_last : goal.returns-in-Unfinished-clause-ahead_last
returns-in-Unfinished-clause-ahead_last g c = c.in-Err-outcome.ensures.ahead

pub returns-in-Unfinished-clause-first : goal.returns-in-Unfinished-clause-first
returns-in-Unfinished-clause-first g c = inr c.in-Ok.ensures.synced

pub returns-in-Unfinished-clause-first_last : goal.returns-in-Unfinished-clause-first_last
returns-in-Unfinished-clause-first_last g c = c.in-Err-outcome.ensures.first

-- ---- all are handed over, and it is not said

pub returns-in-Unsaid-clause-never : goal.returns-in-Unsaid-clause-never
returns-in-Unsaid-clause-never g c = c.in-Err-outcome.ensures.never

pub returns-in-Unsaid-clause-never_any : goal.returns-in-Unsaid-clause-never_any
returns-in-Unsaid-clause-never_any g c = any_marked _ _ _ _ _ _ _ _ _ c.requires.as_many c.requires.say c.in-Ok.ensures.ok

pub returns-in-Unsaid-clause-taken : goal.returns-in-Unsaid-clause-taken
returns-in-Unsaid-clause-taken g c = λ e. absurd (unsaid_not_back e)

pub returns-in-Unsaid-clause-unfinished : goal.returns-in-Unsaid-clause-unfinished
returns-in-Unsaid-clause-unfinished g c = λ e. absurd (unsaid_not_unfinished e)

pub returns-in-Unsaid-clause-unsaid : goal.returns-in-Unsaid-clause-unsaid
returns-in-Unsaid-clause-unsaid g c = λ _. all_handed _ _ _ _ _ _ _ c.in-Ok.ensures.ok (c.in-Err-outcome.ensures.unsaid c.in-Unsaid.is)

pub returns-in-Unsaid-clause-silent : goal.returns-in-Unsaid-clause-silent
returns-in-Unsaid-clause-silent g c = λ other. absurd (other refl)

pub returns-in-Unsaid-clause-within : goal.returns-in-Unsaid-clause-within
returns-in-Unsaid-clause-within g c = λ e. absurd (unsaid_not_back e)

pub returns-in-Unsaid-clause-only : goal.returns-in-Unsaid-clause-only
returns-in-Unsaid-clause-only g c = c.in-Ok.ensures.only

pub returns-in-Unsaid-clause-only_last : goal.returns-in-Unsaid-clause-only_last
returns-in-Unsaid-clause-only_last g c = c.in-Err-outcome.ensures.only

pub returns-in-Unsaid-clause-only_new : goal.returns-in-Unsaid-clause-only_new
returns-in-Unsaid-clause-only_new g c = c.in-Err-outcome.ensures.only_new

pub returns-in-Unsaid-clause-synced_unsaid : goal.returns-in-Unsaid-clause-synced_unsaid
returns-in-Unsaid-clause-synced_unsaid g c = λ _. c.in-Ok.ensures.synced

pub returns-in-Unsaid-clause-ahead : goal.returns-in-Unsaid-clause-ahead
returns-in-Unsaid-clause-ahead g c = c.in-Ok.ensures.ahead

pub returns-in-Unsaid-clause-ahead_last : goal.returns-in-Unsaid-clause-ahead_last
returns-in-Unsaid-clause-ahead_last g c = c.in-Err-outcome.ensures.ahead

pub returns-in-Unsaid-clause-first : goal.returns-in-Unsaid-clause-first
returns-in-Unsaid-clause-first g c = inr c.in-Ok.ensures.synced

pub returns-in-Unsaid-clause-first_last : goal.returns-in-Unsaid-clause-first_last
returns-in-Unsaid-clause-first_last g c = c.in-Err-outcome.ensures.first
