-- No row so far has a place with two of a locator.
use Rattle.std.proofs.Common.{◌≡◌, drop}
use Rattle.carry_plans.specs.Plans.{first_twice}
use Rattle.carry_plans.proofs.protecting.first_twice.Given as goal

abbrev pub invariant-loop-course : goal.invariant-loop-course
invariant-loop-course l = first_twice l.by l.courses ≡ first_twice l.by (drop l.course-index l.courses)
