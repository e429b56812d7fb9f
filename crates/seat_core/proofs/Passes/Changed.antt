-- A limit that is changed, and set back.
use Rattle.std.proofs.Common.{◌≡◌, ◌==◌, ℕ, Bool, true, false, [], ◌∷◌, Some, None, if◌then◌else◌, refl, ap, sym, subst, ◌∙◌}
use Rattle.seat_nesting.specs.declared.ladder.Step.{Step}
use Rattle.seat_nesting.specs.Nesting.{Ladders, Steps, ByClass, Table, IsLegLadder, IsWithin, ladder_at}
use Rattle.seat_nesting.specs.Counting.{Counted, IsWithinLimits, limits_of, table_of}
use Rattle.seat_nesting.specs.Changing.{Sets, can_set, may_have_below, step_of}
use Rattle.seat_nesting.proofs.LimitChanges.{can_parts, can_set_back, limits_back, ladder_seen}
use Rattle.seat_journal.specs.declared.entry.Change.{Change}
use Rattle.seat_rules.specs.Sequential.{changed_by}
use Rattle.seat_rules.proofs.Counters.Changes.{held_as_before}
use Rattle.seat_rules.proofs.Step.Apart.{true_false}

missing_below : (above : ℕ) (steps : Steps) (seats : ByClass) (class limit : ℕ) → step_of steps class ≡ None
    → may_have_below above steps seats class limit ≡ false
missing_below above [] seats class limit e = refl
missing_below above (s ∷ lower) seats class limit e = cases (s.class == class) refl e (missing_below s.limit lower seats class limit) where
  cases : (t : Bool) → (s.class == class) ≡ t → (if t then Some s else step_of lower class) ≡ None
      → (step_of lower class ≡ None → may_have_below s.limit lower seats class limit ≡ false)
      → may_have_below above (s ∷ lower) seats class limit ≡ false
  cases true is none rest = absurd cc
  cases false is none rest = rw is (rest none)

-- a class whose limit may be set is there
pub step_there : (grid : Ladders) (seats : Table) (c : Change)
    → can_set grid seats c.flight c.leg c.class c.limit c.wait ≡ true
    → None ≡ step_of (ladder_at grid c.flight c.leg) c.class → ⊥
step_there grid seats c may none =
    true_false (may_have_below 999 (ladder_at grid c.flight c.leg) (seats c.flight c.leg) c.class c.limit) (can_parts grid seats c.flight c.leg c.class c.limit c.wait may).1
    (missing_below 999 (ladder_at grid c.flight c.leg) (seats c.flight c.leg) c.class c.limit (sym none))

-- below, `mid` has the change, `after` is as `mid`, and `new` has the old limit again
pub may_go_back : (old mid after : Counted) (c : Change) (before : Step) → IsWithinLimits old
    → Some before ≡ step_of (ladder_at (limits_of old) c.flight c.leg) c.class
    → Sets old mid c.flight c.leg c.class c.limit c.wait → limits_of after ≡ limits_of mid
    → table_of after ≡ table_of mid
    → can_set (limits_of after) (table_of after) c.flight c.leg c.class before.limit before.wait ≡ true
may_go_back old mid after c before within there set limits seats =
    let kept = within.leg_kept c.flight c.leg in
    let is = ladder_seen old c.flight c.leg in
    let ladder : IsLegLadder (ladder_at (limits_of old) c.flight c.leg) = subst IsLegLadder (sym is) kept.ladder in
    let P : Steps → Type 0 = λ s. IsWithin s (table_of old c.flight c.leg) in
    let may = can_set_back (limits_of old) (table_of old) c.flight c.leg c.class c.limit c.wait before ladder (subst P (sym is) kept.within) (sym there) in
    ap (λ (g : Ladders). can_set g (table_of after) c.flight c.leg c.class before.limit before.wait) (limits ∙ set.limits)
    ∙ (ap (λ (t : Table). can_set (changed_by (limits_of old) c) t c.flight c.leg c.class before.limit before.wait) (seats ∙ held_as_before old mid c.flight c.leg c.class c.limit c.wait set) ∙ may)

pub limits_again : (old mid after new : Counted) (c : Change) (before : Step)
    → Some before ≡ step_of (ladder_at (limits_of old) c.flight c.leg) c.class
    → Sets old mid c.flight c.leg c.class c.limit c.wait → limits_of after ≡ limits_of mid
    → Sets after new c.flight c.leg c.class before.limit before.wait → limits_of new ≡ limits_of old
limits_again old mid after new c before there set limits back =
    back.limits
    ∙ (ap (λ (g : Ladders). changed_by g (record c { limit = before.limit; wait = before.wait })) (limits ∙ set.limits)
    ∙ limits_back (limits_of old) c.flight c.leg c.class c.limit c.wait before (sym there))

pub seats_again : (old mid after new : Counted) (c : Change) (before : Step)
    → Sets old mid c.flight c.leg c.class c.limit c.wait → table_of after ≡ table_of mid
    → Sets after new c.flight c.leg c.class before.limit before.wait → table_of new ≡ table_of old
seats_again old mid after new c before set seats back =
    held_as_before after new c.flight c.leg c.class before.limit before.wait back ∙ (seats ∙ held_as_before old mid c.flight c.leg c.class c.limit c.wait set)
