-- What is wanted and what is lifted have the ranks of the file, with their marks.
use Rattle.std.proofs.Common.{◌≡◌, ◌==◌, ℕ, Bool, true, false, not, if◌then◌else◌, List, [], ◌∷◌, Option, Some, None, refl, ap, sym, subst, ◌∙◌}
use Rattle.std.proofs.lemmas.Bool.{eqb-true, eq-eqb, or_left, or_right}
use Rattle.airline_base.specs.declared.place.Place.{Place}
use Rattle.seat_nesting.specs.declared.ladder.Step.{Step}
use Rattle.seat_nesting.specs.Nesting.{ByClass, Steps, has_class, held_from, is_open_on, ladder_at}
use Rattle.seat_nesting.specs.Changing.{step_of}
use Rattle.seat_rules.specs.Inventory.{Inventory, state_now}
use Rattle.seat_carrying.specs.Lifting.{changed_step, lifted, step_wanted, top_of, wanted, wanted_under, with_change}
use Rattle.limit_changes.specs.Laws.{SameRanks}
use Rattle.limit_changes.proofs.Held.{alike_of}
use Rattle.limit_changes.proofs.Ranks.{held_alike}
use Rattle.carry_limits.specs.ByFlight.{Lists}
use Rattle.carry_limits.specs.Lifting.{held_on, lifted_on, waits_on}
use Rattle.carry_limits.specs.Wanting.{old_leg, wanted_after, wanted_by, wanted_on}
use Rattle.carry_limits.specs.declared.wanting.Seasons.{Seasons}

same_self : (steps : Steps) → SameRanks steps steps
same_self [] = tt
same_self (s ∷ lower) = (refl, refl, refl, same_self lower)

same_more : (a b c : Steps) → SameRanks a b → SameRanks b c → SameRanks a c
same_more [] [] c p q = q
same_more [] (y ∷ b) c p q = absurd p
same_more (x ∷ a) [] c p q = absurd p
same_more (x ∷ a) (y ∷ b) [] p q = absurd q
same_more (x ∷ a) (y ∷ b) (z ∷ c) p q = (q.0 ∙ p.0, q.1 ∙ p.1, q.2 ∙ p.2, same_more a b c p.3 q.3)

pub same_none : (steps : Steps) → SameRanks [] steps → steps ≡ []
same_none [] same = refl
same_none (s ∷ lower) same = absurd same

-- ---- what is wanted

change_class : (o : Option Step) (s : Step) → (with_change o s).class ≡ s.class
change_class None s = refl
change_class (Some t) s = refl

change_listed : (o : Option Step) (s : Step) → (with_change o s).listed ≡ s.listed
change_listed None s = refl
change_listed (Some t) s = refl

change_closed : (o : Option Step) (s : Step) → (with_change o s).closed ≡ s.closed
change_closed None s = refl
change_closed (Some t) s = refl

same_wanted : (most : ℕ) (begun now file : Steps) → SameRanks file (wanted_under most begun now file)
same_wanted most begun now [] = tt
same_wanted most begun now (s ∷ lower) =
    let o : Option Step = changed_step (step_of begun s.class) (step_of now s.class) in
    (change_class o s, change_listed o s, change_closed o s, same_wanted (step_wanted most begun now s).limit begun now lower)

same_after : (before : Inventory) (file : Steps) (old : Option Place) → SameRanks file (wanted_after before file old)
same_after before file None = same_self file
same_after before file (Some p) =
    same_wanted (top_of file) (ladder_at before.grid p.flight p.from) (ladder_at (state_now before).grid p.flight p.from) file

same_by : (fresh : Bool) (s : Seasons) (flight leg : ℕ) → SameRanks (ladder_at s.file.now flight leg) (wanted_by fresh s flight leg)
same_by true s flight leg = same_self (ladder_at s.file.now flight leg)
same_by false s flight leg =
    same_after s.before.now (ladder_at s.file.now flight leg) (old_leg s.old.now s.flights.now flight leg)

pub wanted_ranks : (s : Seasons) (flight leg : ℕ) → SameRanks (ladder_at s.file.now flight leg) (wanted_on s flight leg)
wanted_ranks s flight leg = same_by s.fresh s flight leg

-- ---- what is lifted

same_lifted : (top : ℕ) (seats waits : ByClass) (steps : Steps) → SameRanks steps (lifted top seats waits steps)
same_lifted top seats waits [] = tt
same_lifted top seats waits (s ∷ lower) = (refl, refl, refl, same_lifted top seats waits lower)

pub lifted_ranks : (s : Seasons) (lists : Lists) (flight leg : ℕ) → SameRanks (ladder_at s.file.now flight leg) (lifted_on s lists flight leg)
lifted_ranks s lists flight leg =
    same_more (ladder_at s.file.now flight leg) (wanted_on s flight leg) (lifted_on s lists flight leg) (wanted_ranks s flight leg)
    (same_lifted (top_of (ladder_at s.file.now flight leg)) (held_on lists flight leg) (waits_on lists flight leg) (wanted_on s flight leg))

-- ---- what the same ranks have

pub same_held : (seats : ByClass) (steps new : Steps) → SameRanks steps new → held_from seats new ≡ held_from seats steps
same_held seats steps new same = held_alike seats steps new (alike_of steps new same)

pub same_open : (steps new : Steps) (class : ℕ) → SameRanks steps new → is_open_on new class ≡ is_open_on steps class
same_open [] [] class same = refl
same_open [] (w ∷ ws) class same = absurd same
same_open (s ∷ lower) [] class same = absurd same
same_open (s ∷ lower) (w ∷ ws) class same =
    ap (λ (k : ℕ). if k == class then not w.closed else is_open_on ws class) same.0
    ∙ ap (λ (b : Bool). if s.class == class then not b else is_open_on ws class) same.2
    ∙ ap (λ (b : Bool). if s.class == class then not s.closed else b) (same_open lower ws class same.3)

pub open_has : (steps : Steps) (class : ℕ) → is_open_on steps class ≡ true → has_class steps class ≡ true
open_has [] class is = absurd cc
open_has (s ∷ lower) class is = by (s.class == class) refl is (open_has lower class) where
  by : (b : Bool) → (s.class == class) ≡ b → (if b then not s.closed else is_open_on lower class) ≡ true
      → (is_open_on lower class ≡ true → has_class lower class ≡ true) → has_class (s ∷ lower) class ≡ true
  by true e h rest = or_left (class == s.class) (has_class lower class) (eq-eqb class s.class (sym (eqb-true s.class class e)))
  by false e h rest = or_right (class == s.class) (has_class lower class) (rest h)
