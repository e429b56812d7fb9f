-- How far the rows of a text are read.
use Rattle.std.proofs.Common.{◌≡◌, ◌≢◌, ◌==◌, Bool, true, false, ℕ, ◌+◌, ◌<◌, List, [], ◌∷◌, ◌++◌, length, Option, Some, None, Result, Ok, Err, if◌then◌else◌, refl, sym, ap, subst, ◌∙◌, arith}
use Rattle.std.specs.Str.Lines.{lines}
use Rattle.std.proofs.lemmas.Bool.Decides.{nat_tests}
use Rattle.std.proofs.lemmas.List.{nil_from_length}
use Rattle.airline_base.specs.declared.place.Place.{Place}
use Rattle.ssim_flights.specs.declared.flight.Flight.{Flight as Flown}
use Rattle.carry_protections.specs.Courses.{IsOwn, behind_line, course_at, course_with, courses_from, courses_in, is_blank, one_more, places_by, with_classes, with_heading, with_line}
use Rattle.carry_protections.specs.Rows.{IsClassesFault, classes_from, heading_at}
use Rattle.carry_protections.specs.declared.course.Course.{Course}
use Rattle.carry_protections.specs.declared.course.CourseFault.{CourseFault}
use Rattle.carry_protections.specs.declared.course.CourseKind.{CourseKind}
use Rattle.carry_protections.specs.declared.course.CourseKind.TheVariants as kinds
use Rattle.carry_protections.specs.declared.row.ClassPair.{ClassPair}
use Rattle.carry_protections.specs.declared.row.Heading.{Heading}

-- what is left comes to what the text comes to
pub record GoesOn (olds news : List Flown) (bytes : List ℕ) (line : ℕ) (rest : List ℕ) (all : List Course) : Type 0 where
  pub whole : courses_in olds news bytes ≡ courses_from olds news all (line + 1) (lines rest)

pub goes_first : (olds news : List Flown) (bytes : List ℕ) → GoesOn olds news bytes 0 bytes []
goes_first olds news bytes = record { whole = refl }

pub goes_next : (olds news : List Flown) (bytes : List ℕ) (line : ℕ) (rest text after : List ℕ) (all more : List Course)
    → GoesOn olds news bytes line rest all → lines rest ≡ text ∷ lines after → with_line olds news (line + 1) text all ≡ Ok more
    → GoesOn olds news bytes (line + 1) after more
goes_next olds news bytes line rest text after all more goes cut takes = record {
  whole = goes.whole ∙ ap (courses_from olds news all (line + 1)) cut
      ∙ ap (behind_line (line + 1) (λ (l : List Course). courses_from olds news l (line + 1 + 1) (lines after))) takes;
}

pub goes_end : (olds news : List Flown) (bytes : List ℕ) (line : ℕ) (rest : List ℕ) (all : List Course) → GoesOn olds news bytes line rest all
    → length rest ≡ 0 → courses_in olds news bytes ≡ Ok all
goes_end olds news bytes line rest all goes none =
    let e : rest ≡ [] = nil_from_length rest none in
    goes.whole ∙ ap (λ (x : List ℕ). courses_from olds news all (line + 1) (lines x)) e

pub goes_stop : (olds news : List Flown) (bytes : List ℕ) (line : ℕ) (rest text after : List ℕ) (all : List Course) (kind : CourseKind)
    → GoesOn olds news bytes line rest all → lines rest ≡ text ∷ lines after → with_line olds news (line + 1) text all ≡ Err kind
    → courses_in olds news bytes ≡ Err (record { line = line + 1; kind = kind })
goes_stop olds news bytes line rest text after all kind goes cut wrong =
    goes.whole ∙ ap (courses_from olds news all (line + 1)) cut
    ∙ ap (behind_line (line + 1) (λ (l : List Course). courses_from olds news l (line + 1 + 1) (lines after))) wrong

pub not_done : (b : Bool) (rest : List ℕ) → b ≡ (length rest == 0) → b ≡ false → 0 < length rest
not_done b rest e off = grind (arith, nat_tests)

pub done_is : (b : Bool) (rest : List ℕ) → b ≡ (length rest == 0) → b ≡ true → length rest ≡ 0
done_is b rest e on = grind (arith, nat_tests)

-- ---- one line

module _ (olds news : List Flown) (line : ℕ) (text : List ℕ) where
  pub blank_line : (b : Bool) (old new : List Course) → b ≡ is_blank text → b ≡ true → new ≡ old → with_line olds news line text old ≡ Ok new
  blank_line b old new e on same = rw (sym e ∙ on) (ap (λ (l : List Course). Ok l) (sym same))

  pub right_line : (b : Bool) (old new : List Course) (course : Course) → b ≡ is_blank text → b ≡ false
      → course_at olds news old line text ≡ Ok course → new ≡ old ++ course ∷ [] → with_line olds news line text old ≡ Ok new
  right_line b old new course e off found added =
      rw (sym e ∙ off) (ap (one_more old) found ∙ ap (λ (l : List Course). Ok l) (sym added))

  pub wrong_line : (b : Bool) (old : List Course) (kind : CourseKind) → b ≡ is_blank text → b ≡ false
      → course_at olds news old line text ≡ Err kind → with_line olds news line text old ≡ Err kind
  wrong_line b old kind e off wrong = rw (sym e ∙ off) (ap (one_more old) wrong)

  -- ---- one row

  module _ (ahead : List Course) where
    pub no_heading : None ≡ heading_at text → course_at olds news ahead line text ≡ Err kinds.Form
    no_heading none = ap (with_heading olds news ahead line) (sym none)

    pub no_classes : (h : Heading) (rest : List ℕ) (kind : CourseKind) → Some (h, rest) ≡ heading_at text → IsClassesFault rest kind
        → kind ≢ kinds.Memory → course_at olds news ahead line text ≡ Err kind
    no_classes h rest kinds.Form found wrong other =
        ap (with_heading olds news ahead line) (sym found) ∙ ap (with_classes line (places_by olds news ahead h)) wrong
    no_classes h rest kinds.Memory found wrong other = absurd (other refl)
    no_classes h rest kinds.Source found wrong other = absurd wrong
    no_classes h rest kinds.Again found wrong other = absurd wrong
    no_classes h rest kinds.Target found wrong other = absurd wrong
    no_classes h rest kinds.Unsold found wrong other = absurd wrong
    no_classes h rest kinds.Twice found wrong other = absurd wrong

    pub own_classes : (rest : List ℕ) (kind : CourseKind) → IsClassesFault rest kind → IsOwn kind
    own_classes rest kinds.Form wrong = tt
    own_classes rest kinds.Memory wrong = tt
    own_classes rest kinds.Source wrong = absurd wrong
    own_classes rest kinds.Again wrong = absurd wrong
    own_classes rest kinds.Target wrong = absurd wrong
    own_classes rest kinds.Unsold wrong = absurd wrong
    own_classes rest kinds.Twice wrong = absurd wrong

    pub no_places : (h : Heading) (rest : List ℕ) (classes : List ClassPair) (kind : CourseKind) → Some (h, rest) ≡ heading_at text
        → classes_from [] rest ≡ Some classes → Err kind ≡ places_by olds news ahead h → course_at olds news ahead line text ≡ Err kind
    no_places h rest classes kind found named wrong =
        ap (with_heading olds news ahead line) (sym found) ∙ ap (with_classes line (places_by olds news ahead h)) named
        ∙ ap (course_with line classes) (sym wrong)

    pub a_course : (h : Heading) (rest : List ℕ) (classes : List ClassPair) (from to : Place) → Some (h, rest) ≡ heading_at text
        → classes_from [] rest ≡ Some classes → Ok (from, to) ≡ places_by olds news ahead h
        → course_at olds news ahead line text ≡ Ok (record { line = line; from = from; to = to; classes = classes })
    a_course h rest classes from to found named there =
        ap (with_heading olds news ahead line) (sym found) ∙ ap (with_classes line (places_by olds news ahead h)) named
        ∙ ap (course_with line classes) (sym there)
