-- Reads of the same bytes that are cut otherwise.
use Rattle.std.proofs.Common.{◌≡◌, ℕ, ◌+◌, min, refl, List, ◌++◌, ap, cond, arith}
use Rattle.std.proofs.lemmas.List.Sums.{sum_by-append}
use Rattle.airline_base.specs.Lines.{is_line_feed}
use Rattle.progress_meter.specs.Reading.{CutsMakeNoDifference, ends_in, feeds, gone_on, most_ends}
use Rattle.progress_meter.specs.declared.course.Course.{Course}
use Rattle.progress_meter.specs.declared.course.Lines.{Lines}
use Rattle.progress_meter.specs.declared.course.Lines.TheVariants.{Uncounted, Ended, Open}

feeds_both : (xs ys : List ℕ) → feeds (xs ++ ys) ≡ feeds xs + feeds ys
feeds_both xs ys = sum_by-append (λ (b : ℕ). cond (is_line_feed b) 1 0) xs ys

ends_both : (lines : Lines) (xs ys : List ℕ) → ends_in lines (xs ++ ys) ≡ ends_in lines xs + ends_in lines ys
ends_both Uncounted xs ys = refl
ends_both Ended xs ys = feeds_both xs ys
ends_both Open xs ys = feeds_both xs ys

capped : (most a x y z : ℕ) → z ≡ x + y → min (min (a + x) most + y) most ≡ min (a + z) most
capped most a x y z e = omega (arith, e)

abbrev with_ends : Course → ℕ → Course
with_ends c n = record { lines = c.lines; ends = n; is_over = c.is_over }

pub cuts_make_no_difference : CutsMakeNoDifference
cuts_make_no_difference c xs ys =
    ap (with_ends c) (capped most_ends c.ends (ends_in c.lines xs) (ends_in c.lines ys) (ends_in c.lines (xs ++ ys)) (ends_both c.lines xs ys))
