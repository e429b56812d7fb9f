-- Why a row that says where bookings go is refused.
use Rattle.std.proofs.Common.{◌≡◌, ◌≢◌, ℕ, List, Some, None, Ok, Err, refl, sym, ap, subst, ◌∙◌}
use Rattle.ssim_flights.specs.declared.flight.Flight.{Flight as Flown}
use Rattle.seat_journal.specs.declared.entry.Entry.{Entry}
use Rattle.seat_nesting.specs.Nesting.{Ladders}
use Rattle.seat_rules.specs.Inventory.{Inventory}
use Rattle.seat_rules.specs.declared.booking.Booking.{Booking}
use Rattle.seat_carrying.specs.declared.owned.Owned.{Owned}
use Rattle.carry_limits.specs.ByFlight.{Lists}
use Rattle.carry_protections.specs.Courses.{IsOwn, courses_in}
use Rattle.carry_protections.specs.Refusing.{lacking}
use Rattle.carry_protections.specs.declared.course.Course.{Course}
use Rattle.carry_protections.specs.declared.course.CourseFault.{CourseFault}
use Rattle.carry_protections.specs.declared.course.CourseKind.{CourseKind}
use Rattle.carry_protections.specs.declared.course.CourseKind.TheVariants as kinds
use Rattle.carry_plans.specs.Plans.{AreCourses, AreFollowed, AreParts, IsRowBy, IsSold, IsUnplanned, first_twice, row_fault, row_fault_by}
use Rattle.carry_plans.specs.declared.asked.CarryAsked.{CarryAsked}
use Rattle.carry_plans.specs.declared.fault.CarryFault.{CarryFault}
use Rattle.carry_plans.specs.declared.fault.CarryFault.TheVariants.{Row}

module _ (asked : CarryAsked) (olds : List Flown) (before : Inventory) (news : List Flown) (file : Ladders) where
  -- a row's own fault
  by_kind : (f : CourseFault) (kind : CourseKind) → f.kind ≡ kind → IsOwn kind
      → (f.kind ≢ kinds.Memory → courses_in olds news asked.protections.now ≡ Err f) → IsUnplanned asked olds before news file (row_fault_by kind f)
  by_kind f kinds.Memory same own wrong = tt
  by_kind f kinds.Form same own wrong =
      subst (λ (k : CourseKind). IsRowBy k asked olds before news file f) (sym same) (wrong (λ (e : f.kind ≡ kinds.Memory). cc))
  by_kind f kinds.Source same own wrong =
      subst (λ (k : CourseKind). IsRowBy k asked olds before news file f) (sym same) (wrong (λ (e : f.kind ≡ kinds.Memory). cc))
  by_kind f kinds.Again same own wrong =
      subst (λ (k : CourseKind). IsRowBy k asked olds before news file f) (sym same) (wrong (λ (e : f.kind ≡ kinds.Memory). cc))
  by_kind f kinds.Target same own wrong =
      subst (λ (k : CourseKind). IsRowBy k asked olds before news file f) (sym same) (wrong (λ (e : f.kind ≡ kinds.Memory). cc))
  by_kind f kinds.Unsold same own wrong = absurd own
  by_kind f kinds.Twice same own wrong = absurd own

  pub wrong_rows : (f : CourseFault) (g : CarryFault) (old new : List Flown) → old ≡ olds → new ≡ news → IsOwn f.kind
      → (f.kind ≢ kinds.Memory → courses_in old new asked.protections.now ≡ Err f) → g ≡ row_fault f → IsUnplanned asked olds before news file g
  wrong_rows f g old new o n own wrong same =
      let there : f.kind ≢ kinds.Memory → courses_in olds news asked.protections.now ≡ Err f =
      λ other. ap (λ (l : List Flown). courses_in l news asked.protections.now) (sym o)
      ∙ ap (λ (l : List Flown). courses_in old l asked.protections.now) (sym n) ∙ wrong other in
      subst (IsUnplanned asked olds before news file) (sym same) (by_kind f f.kind refl own there)

  pub right_rows : (all : List Course) (old new : List Flown) → old ≡ olds → new ≡ news → courses_in old new asked.protections.now ≡ Ok all
      → AreCourses asked olds news all
  right_rows all old new o n right =
      ap (λ (l : List Flown). courses_in l news asked.protections.now) (sym o)
      ∙ ap (λ (l : List Flown). courses_in old l asked.protections.now) (sym n) ∙ right

  pub unsold_of : (f : CarryFault) (courses : List Course) (live slice : List Booking) (kept : List Owned) (lists : Lists) (journal : List Entry)
      (new : List Flown) (line : ℕ) → AreParts asked courses olds before news file live kept lists → AreCourses asked olds news courses → new ≡ news
      → slice ≡ live → journal ≡ before.journal → Some line ≡ lacking courses journal olds new asked.today file slice
      → f ≡ Row (record { line = line; kind = kinds.Unsold }) → IsUnplanned asked olds before news file f
  unsold_of f courses live slice kept lists journal new line parts are is_new is_slice is_journal lacks same =
      subst (IsUnplanned asked olds before news file) (sym same)
      (record {
        courses = courses;
        live = live;
        are_courses = are;
        every = parts.chosen.every;
        lacks =
            subst (λ (n : List Flown). lacking courses before.journal olds n asked.today file live ≡ Some line) is_new
            (subst (λ (j : List Entry). lacking courses j olds new asked.today file live ≡ Some line) is_journal
            (subst (λ (l : List Booking). lacking courses journal olds new asked.today file l ≡ Some line) is_slice (sym lacks)));
      })

  pub sold_of : (courses : List Course) (live slice : List Booking) (journal : List Entry) (new : List Flown) → new ≡ news → slice ≡ live
      → journal ≡ before.journal → None ≡ lacking courses journal olds new asked.today file slice → IsSold courses before olds news asked file live
  sold_of courses live slice journal new is_new is_slice is_journal none =
      subst (λ (n : List Flown). lacking courses before.journal olds n asked.today file live ≡ None) is_new
      (subst (λ (j : List Entry). lacking courses j olds new asked.today file live ≡ None) is_journal
      (subst (λ (l : List Booking). lacking courses journal olds new asked.today file l ≡ None) is_slice (sym none)))

  pub twice_of : (f : CarryFault) (courses slice : List Course) (live : List Booking) (kept : List Owned) (lists : Lists) (line : ℕ)
      → AreParts asked courses olds before news file live kept lists → AreCourses asked olds news courses → slice ≡ courses
      → Some line ≡ first_twice lists slice → f ≡ Row (record { line = line; kind = kinds.Twice }) → IsUnplanned asked olds before news file f
  twice_of f courses slice live kept lists line parts are is_slice first same =
      subst (IsUnplanned asked olds before news file) (sym same)
      (record {
        courses = courses;
        live = live;
        kept = kept;
        lists = lists;
        are_courses = are;
        parts = parts;
        first = subst (λ (l : List Course). first_twice lists l ≡ Some line) is_slice (sym first);
      })

  pub once_of : (courses slice : List Course) (lists : Lists) → slice ≡ courses → None ≡ first_twice lists slice → first_twice lists courses ≡ None
  once_of courses slice lists is_slice none = subst (λ (l : List Course). first_twice lists l ≡ None) is_slice (sym none)

  pub followed_of : (courses : List Course) (live : List Booking) (lists : Lists) → AreCourses asked olds news courses
      → IsSold courses before olds news asked file live → first_twice lists courses ≡ None
      → AreFollowed asked courses olds before news file live lists
  followed_of courses live lists are sold once = record { are_courses = are; sold = sold; once = once }
