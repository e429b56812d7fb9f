-- Whether a call failed, and which fault it is.
use Rattle.std.proofs.Common.{◌≡◌, true, false}
use Rattle.std.specs.Prelude.{Result, Ok, Err, OnErr, OnOk}
use Rattle.std.specs.Result.{is_err}
use Rattle.hand_steps.specs.declared.steps.HandFault.TheVariants.{TakenBack, Unfinished, Unsaid}

pub when_ok : {A E : Type 0} (r : Result A E) (P : Type 0) → is_err r ≡ false → OnOk r P → P
when_ok (Ok x) P e held = held
when_ok (Err x) P e held = absurd (cc e)

pub when_err : {A E : Type 0} (r : Result A E) (P : Type 0) → is_err r ≡ true → OnErr r P → P
when_err (Ok x) P e held = absurd (cc e)
when_err (Err x) P e held = held

-- ---- one is no other

pub back_not_unfinished : TakenBack ≡ Unfinished → ⊥
back_not_unfinished is = absurd (cc is)

pub back_not_unsaid : TakenBack ≡ Unsaid → ⊥
back_not_unsaid is = absurd (cc is)

pub unfinished_not_back : Unfinished ≡ TakenBack → ⊥
unfinished_not_back is = absurd (cc is)

pub unfinished_not_unsaid : Unfinished ≡ Unsaid → ⊥
unfinished_not_unsaid is = absurd (cc is)

pub unsaid_not_back : Unsaid ≡ TakenBack → ⊥
unsaid_not_back is = absurd (cc is)

pub unsaid_not_unfinished : Unsaid ≡ Unfinished → ⊥
unsaid_not_unfinished is = absurd (cc is)
