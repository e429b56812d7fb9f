-- When something may be set on a leg: a limit by its test, and whether a class is closed wherever there are steps.
use Rattle.std.proofs.Common.{◌≡◌, ℕ, zero, suc, ◌+◌, ◌-◌, ◌<◌, ◌≤◌, Bool, true, false, Option, List, [], ◌∷◌, length, refl, ap, sym, subst, ◌∙◌, arith}
use Rattle.std.specs.List.{AllByRecursion}
use Rattle.seat_nesting.specs.declared.ladder.Step.{Step}
use Rattle.seat_nesting.specs.declared.setting.Setting.{Setting}
use Rattle.seat_nesting.specs.declared.setting.Setting.TheVariants.{ToLimit, ToSale, ToMarks}
use Rattle.seat_nesting.specs.Nesting.{Steps, IsLadder, IsLegLadder, ladder_at}
use Rattle.seat_nesting.specs.Counting.{LegSeats, Counted, leg_of, count_at, held_on, leg_at, limits_of, table_of, IsWithinLimits, KeepsLimits}
use Rattle.seat_nesting.specs.Changing.{with_limit, with_marks, with_sale, with_setting, may_have, can_set, has_named, has_sale, LegSets, MaySet}
use Rattle.seat_nesting.proofs.Rooms.{within_same}
use Rattle.seat_nesting.proofs.LimitChanges.{can_parts, count_with, ladder_of_leg, ladder_seen, leg_ladder_with, length_with, within_with}
use Rattle.seat_nesting.proofs.MarkChanges.{count_marks, leg_ladder_marks, length_marks, length_sale, sale_marks, some_named, within_marks}

pub length_setting : (steps : Steps) (setting : Setting) → length (with_setting steps setting) ≡ length steps
length_setting steps (ToLimit class limit wait) = length_with steps class limit wait
length_setting steps (ToSale which closed) = length_sale steps which closed
length_setting steps (ToMarks marks) = length_marks steps marks

pub ladder_set : (leg : LegSeats) (setting : Setting) → MaySet leg setting → IsLadder (with_setting leg.steps setting)
ladder_set leg setting may =
    let is = may.sets.kept.ladder in
    record {
      some = omega (arith, may.some, length_setting leg.steps setting);
      most = is.most;
      distinct = is.distinct;
      not_rising = is.not_rising;
      bounded = is.bounded;
    }

-- ---- a limit

limit_leg : (leg : LegSeats) (class limit wait : ℕ) → KeepsLimits leg
    → may_have leg.steps (held_on leg) class limit ≡ true → wait ≤ 999 → MaySet leg (ToLimit class limit wait)
limit_leg leg class limit wait kept may most = record {
  some = (ladder_of_leg leg.steps (held_on leg) class limit kept.ladder may).some;
  sets = record {
    steps = refl;
    seats = λ k. count_with leg.steps leg.held class limit wait k;
    kept = record {
      ladder = leg_ladder_with leg.steps (held_on leg) class limit wait kept.ladder may most;
      counted = omega (arith, kept.counted, length_with leg.steps class limit wait);
      within = within_same (with_limit leg.steps class limit wait) (count_at (with_limit leg.steps class limit wait) leg.held) (held_on leg) (λ k. count_with leg.steps leg.held class limit wait k)
          (within_with leg.steps (held_on leg) class limit wait may kept.within);
    };
  };
}

pub limit_may : (now : Counted) (flight leg class limit wait : ℕ) → IsWithinLimits now
    → can_set (limits_of now) (table_of now) flight leg class limit wait ≡ true
    → MaySet (leg_at now flight leg) (ToLimit class limit wait)
limit_may now flight leg class limit wait within h =
    let kept = within.leg_kept flight leg in
    let p = can_parts (limits_of now) (table_of now) flight leg class limit wait h in
    let may : may_have (leg_at now flight leg).steps (table_of now flight leg) class limit ≡ true =
    subst (λ (s : Steps). may_have s (table_of now flight leg) class limit ≡ true) (ladder_seen now flight leg) p.1 in
    limit_leg (leg_at now flight leg) class limit wait kept may p.0

-- ---- whether classes are closed

marks_leg : (leg : LegSeats) (marks : Steps) → KeepsLimits leg
    → LegSets leg (leg_of (with_marks leg.steps marks) leg.held) (ToMarks marks)
marks_leg leg marks kept = record {
  steps = refl;
  seats = λ k. count_marks leg.steps marks leg.held k;
  kept = record {
    ladder = leg_ladder_marks leg.steps marks kept.ladder;
    counted = omega (arith, kept.counted, length_marks leg.steps marks);
    within = within_same (with_marks leg.steps marks) (count_at (with_marks leg.steps marks) leg.held) (held_on leg) (λ k. count_marks leg.steps marks leg.held k)
        (within_marks leg.steps marks (held_on leg) kept.within);
  };
}

sale_leg : (leg : LegSeats) (which : Option ℕ) (closed : Bool) → KeepsLimits leg
    → LegSets leg (leg_of (with_sale leg.steps which closed) leg.held) (ToSale which closed)
sale_leg leg which closed kept =
    let same = sale_marks leg.steps which closed in
    let marks = marks_leg leg (with_sale leg.steps which closed) kept in
    record {
      steps = refl;
      seats = λ k. ap (λ (s : Steps). count_at s leg.held k) same ∙ marks.seats k;
      kept = subst (λ (s : Steps). KeepsLimits (leg_of s leg.held)) (sym same) marks.kept;
    }

pub sale_may : (now : Counted) (flight leg : ℕ) (which : Option ℕ) (closed : Bool) → IsWithinLimits now
    → has_sale (limits_of now) flight leg which ≡ true → MaySet (leg_at now flight leg) (ToSale which closed)
sale_may now flight leg which closed within h =
    let kept = within.leg_kept flight leg in
    let here : has_named (leg_at now flight leg).steps which ≡ true = subst (λ (s : Steps). has_named s which ≡ true) (ladder_seen now flight leg) h in
    record { some = some_named (leg_at now flight leg).steps which here; sets = sale_leg (leg_at now flight leg) which closed kept }

pub marks_may : (now : Counted) (flight leg : ℕ) (marks : Steps) → IsWithinLimits now
    → 0 < length (ladder_at (limits_of now) flight leg) → MaySet (leg_at now flight leg) (ToMarks marks)
marks_may now flight leg marks within h =
    let kept = within.leg_kept flight leg in
    record {
      some = subst (λ (s : Steps). 0 < length s) (ladder_seen now flight leg) h;
      sets = marks_leg (leg_at now flight leg) marks kept;
    }
