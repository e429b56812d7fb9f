-- The lines of an era, and that the first has none.
use Rattle.std.proofs.Common.{◌≡◌, ℕ, Bool, true, false, ◌&&◌, nat_eq, List, [], ◌++◌, Option, Some, None, refl, sym, subst, ap, ◌∙◌, arith, append-nil}
use Rattle.std.specs.Prelude.{IfSome}
use Rattle.std.specs.Option.{is_none}
use Rattle.std.proofs.lemmas.Bool.Decides.{nat_tests}
use Rattle.airline_base.proofs.Tests.{both_true}
use Rattle.seat_seal.specs.declared.date.Date.{Date}
use Rattle.seat_seal.specs.declared.era.Era.{Era}
use Rattle.seat_seal.specs.declared.imprint.Imprint.{Imprint}
use Rattle.seat_seal.specs.Eras.{first_era, is_first}
use Rattle.seat_seal.specs.Rules.{IsCarriedTo}
use Rattle.seat_seal.specs.Text.{era_lines, era_lines_but, era_text}

pub no_lines : (text : List ℕ) (e : Era) (b : Bool) → b ≡ is_first e → b ≡ true → text ≡ text ++ era_text e
unfolding era_text
no_lines text e b is first = rw (sym is ∙ first) (sym (append-nil text))

pub all_lines : (old new : List ℕ) (e : Era) (b : Bool) → b ≡ is_first e → b ≡ false → new ≡ old ++ era_lines e → new ≡ old ++ era_text e
unfolding era_text
all_lines old new e b is other lines = rw (sym is ∙ other) lines

epoch_one : (n : ℕ) → nat_eq n 1 ≡ true → n ≡ 1
epoch_one n h = grind (arith, nat_tests, h)

no_day : (o : Option Date) → is_none o ≡ true → o ≡ None
no_day None h = refl
no_day (Some d) h = absurd (cc h)

no_journal : (o : Option Imprint) → is_none o ≡ true → o ≡ None
no_journal None h = refl
no_journal (Some i) h = absurd (cc h)

all_three : (n : ℕ) (o : Option Date) (c : Option Imprint) → n ≡ 1 → o ≡ None → c ≡ None
    → ◌≡◌ {A = Era} (record { epoch = n; today = o; carried = c }) first_era
all_three n o c one none not_one = subst (λ (m : ℕ). ◌≡◌ {A = Era} (record { epoch = m; today = o; carried = c }) first_era) (sym one)
    (subst (λ (d : Option Date). ◌≡◌ {A = Era} (record { epoch = 1; today = d; carried = c }) first_era) (sym none)
    (subst (λ (d : Option Imprint). ◌≡◌ {A = Era} (record { epoch = 1; today = None; carried = d }) first_era) (sym not_one) refl))

-- there is one first era
pub first_is : (e : Era) → is_first e ≡ true → e ≡ first_era
first_is e h =
    let u = both_true (nat_eq e.epoch 1 && is_none e.today) (is_none e.carried) h in
    let t = both_true (nat_eq e.epoch 1) (is_none e.today) u.0 in
    all_three e.epoch e.today e.carried (epoch_one e.epoch t.0) (no_day e.today t.1) (no_journal e.carried u.1)

none_is : (o : Option Imprint) → is_none o ≡ true → IfSome o IsCarriedTo
none_is None h = record {}
none_is (Some i) h = absurd (cc h)

-- the first era is of a journal whose bookings were not carried
pub none_carried : (e : Era) (b : Bool) → b ≡ is_first e → b ≡ true → IfSome e.carried IsCarriedTo
none_carried e b is first =
    none_is e.carried (both_true (nat_eq e.epoch 1 && is_none e.today) (is_none e.carried) (sym is ∙ first)).1
