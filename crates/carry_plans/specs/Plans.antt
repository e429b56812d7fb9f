-- What a carry makes of two seasons and an inventory over the old one.
use Rattle.std.specs.Prelude.{◌≡◌, ◌≢◌, ◌<◌, ◌+◌, ℕ, Bool, true, false, if◌then◌else◌, List, [], ◌∷◌, filter, length, Option, None, Some, Ok, Err}
use Rattle.ssim_flights.specs.declared.flight.Flight.{Flight as Flown}
use Rattle.seat_nesting.specs.Nesting.{Ladders}
use Rattle.seat_rules.specs.Inventory.{Inventory, IsReplayed, state_now}
use Rattle.seat_rules.specs.declared.booking.Booking.{Booking}
use Rattle.seat_tables.specs.declared.sheet.Form.{Form}
use Rattle.seat_carrying.specs.Owned.{bookings_of}
use Rattle.seat_carrying.specs.declared.owned.Owned.{Owned}
use Rattle.seat_desk.specs.AuditDesk.{most_lines}
use Rattle.seat_desk.specs.FlightsDesk.{IsText}
use Rattle.seat_lists.specs.Picking.{picked}
use Rattle.seat_lists.specs.declared.picking.Wanted.{Wanted as Asking}
use Rattle.carry_limits.specs.ByFlight.{IsByFlight, Lists, list_at}
use Rattle.carry_limits.specs.Changes.{changes_for}
use Rattle.carry_limits.specs.Overs.{IsOverLine, overs}
use Rattle.carry_limits.specs.declared.wanting.Seasons.{Seasons}
use Rattle.carry_lines.specs.Carriable.{is_carriable}
use Rattle.carry_lines.specs.Carried.{carried_lines}
use Rattle.carry_lines.specs.declared.mark.Mark.{Mark}
use Rattle.carry_marks.specs.Marks.{marks}
use Rattle.carry_order.specs.Numbering.{AreNumbered}
use Rattle.carry_order.specs.Ordering.{first_under}
use Rattle.carry_order.specs.declared.numbering.Numbered.{Numbered}
use Rattle.carry_protections.specs.Courses.{courses_in}
use Rattle.carry_protections.specs.Going.{moved_under}
use Rattle.carry_protections.specs.Refusing.{has_twice, lacking}
use Rattle.carry_protections.specs.declared.course.Course.{Course}
use Rattle.carry_protections.specs.declared.course.CourseFault.{CourseFault}
use Rattle.carry_protections.specs.declared.course.CourseKind.{CourseKind}
use Rattle.carry_protections.specs.declared.course.CourseKind.TheVariants as kinds
use Rattle.carry_reports.specs.Fates.{fates}
use Rattle.carry_reports.specs.declared.fating.Carried.{Carried}
use Rattle.carry_tables.specs.FateRows.{IsReportAs}
use Rattle.carry_plans.specs.declared.asked.CarryAsked.{CarryAsked}
use Rattle.carry_plans.specs.declared.fault.CarryFault.{CarryFault}
use Rattle.carry_plans.specs.declared.fault.CarryFault.TheVariants.{Season, Unsealed, Row, Over, Full, Memory}

-- ---- which bookings

-- the question names no locator, no flight and no day
pub record AsksForAll (asking : Asking) : Type 0 where
  pub locators : asking.locators.now ≡ []
  pub flight : asking.flight ≡ None
  pub day : asking.day ≡ None

-- all live bookings, in order of number
pub record IsEvery (before : Inventory) (olds : List Flown) (live : List Booking) : Type 0 where
  pub asking : Asking
  pub asks : AsksForAll asking
  pub live_are : live ≡ picked olds asking false (state_now before).bookings

-- and those of them that go to a place of the new flights, by a row or by the name of their own, whose legs sell the class: those that hold under the locators that come first, and then all
-- others by their numbers
pub record AreChosen (asked : CarryAsked) (courses : List Course) (before : Inventory) (olds news : List Flown) (file : Ladders)
    (live : List Booking) (kept : List Owned) : Type 0 where
  pub every : IsEvery before olds live
  pub kept_are : kept
      ≡ first_under asked.order.now (filter (is_carriable file) (moved_under courses before.journal olds news asked.today live))

-- ---- which limits, which lines

-- two seasons, as the limits are asked for
pub record AreSeasons (asked : CarryAsked) (olds : List Flown) (before : Inventory) (news : List Flown) (file : Ladders) (seasons : Seasons)
    : Type 0 where
  pub old_is : seasons.old.now ≡ olds
  pub before_is : seasons.before.now ≡ before
  pub flights_are : seasons.flights.now ≡ news
  pub new_is : seasons.new.now ≡ news
  pub file_is : seasons.file.now ≡ file
  pub fresh_is : seasons.fresh ≡ asked.fresh_limits

-- what is closed in the end is closed again, unless the limits are those of the file
abbrev pub marks_for : Bool → List Flown → Inventory → List Flown → Ladders → List Mark
marks_for true olds before news file = []
marks_for false olds before news file = marks olds (state_now before).grid news file

-- the parts of a carry: live bookings, those that are asked for by flight, and the seasons
pub record AreParts (asked : CarryAsked) (courses : List Course) (olds : List Flown) (before : Inventory) (news : List Flown) (file : Ladders)
    (live : List Booking) (kept : List Owned) (lists : Lists) : Type 0 where
  pub chosen : AreChosen asked courses before olds news file live kept
  pub by_flight : IsByFlight lists (length news) (bookings_of kept)

-- the rows that say where bookings go, on places
abbrev pub AreCourses : CarryAsked → List Flown → List Flown → List Course → Type 0
AreCourses asked olds news courses = courses_in olds news asked.protections.now ≡ Ok courses

-- the line of the first row whose place has two of a locator in one class
abbrev pub first_twice : Lists → List Course → Option ℕ
first_twice lists [] = None
first_twice lists (c ∷ courses) = (if has_twice c.to (list_at lists c.to.flight) then Some c.line else first_twice lists courses)

-- each live booking that goes by a row goes where its class is sold
abbrev pub IsSold : List Course → Inventory → List Flown → List Flown → CarryAsked → Ladders → List Booking → Type 0
IsSold courses before olds news asked file live = lacking courses before.journal olds news asked.today file live ≡ None

-- each row can be followed: what goes by it goes where its class is sold, and where its locator has no other in that class
pub record AreFollowed (asked : CarryAsked) (courses : List Course) (olds : List Flown) (before : Inventory) (news : List Flown) (file : Ladders)
    (live : List Booking) (lists : Lists) : Type 0 where
  pub are_courses : AreCourses asked olds news courses
  pub sold : IsSold courses before olds news asked file live
  pub once : first_twice lists courses ≡ None

-- no leg has fewer seats than are held there, unless who loses is asked to
pub record HasRoomIf (displaces : Bool) (news : List Flown) (file : Ladders) (lists : Lists) : Type 0 where
  pub room : displaces ≡ false → overs file lists news ≡ []

-- ---- what is made

-- who goes to the report
pub record IsCarriedTo (today : ℕ) (olds news : List Flown) (numbered : List Numbered) (after : Inventory) (carried : Carried) : Type 0 where
  pub olds_are : carried.olds.now ≡ olds
  pub news_are : carried.news.now ≡ news
  pub new_is : carried.new.now ≡ news
  pub today_is : carried.today ≡ today
  pub asked_are : carried.asked.now ≡ numbered
  pub after_is : carried.after.now ≡ after

-- what became of each live booking, in the form that is asked for, with its number in its own journal
pub record IsReportOf (form : Option Form) (counts : List ℕ) (today : ℕ) (olds news : List Flown) (live : List Booking) (numbered : List Numbered) (after : Inventory)
    (report : List ℕ) : Type 0 where
  pub carried : Carried
  pub is_carried : IsCarriedTo today olds news numbered after carried
  pub is_report : IsReportAs form counts olds news (fates carried live) report

-- where each that was asked for has its line, behind so many others
pub record IsReportIn (form : Option Form) (counts : List ℕ) (today : ℕ) (olds news : List Flown) (live : List Booking) (kept : List Owned) (ahead : ℕ) (after : Inventory)
    (report : List ℕ) : Type 0 where
  pub numbered : List Numbered
  pub are_numbered : AreNumbered ahead kept numbered
  pub reported : IsReportOf form counts today olds news live numbered after report

-- the new inventory has the changes of limits, the live bookings and the closed classes as its lines, over the file's limits; no leg has fewer seats
-- than are held there, unless who loses is asked to; and the report says what became of each
pub record IsPlanned (asked : CarryAsked) (olds : List Flown) (before : Inventory) (news : List Flown) (file : Ladders) (after : Inventory)
    (report : List ℕ) : Type 0 where
  pub courses : List Course
  pub live : List Booking
  pub kept : List Owned
  pub lists : Lists
  pub followed : AreFollowed asked courses olds before news file live lists
  pub parts : AreParts asked courses olds before news file live kept lists
  pub seasons : Seasons
  pub are_seasons : AreSeasons asked olds before news file seasons
  pub room : HasRoomIf asked.displaces news file lists
  pub lines : IsReplayed after file most_lines
      (carried_lines file (changes_for seasons lists) kept (marks_for asked.fresh_limits olds before news file))
  pub reported : IsReportIn asked.form asked.counts.now asked.today olds news live kept (length (changes_for seasons lists)) after report

-- ---- why nothing is made

-- legs have fewer seats than are held there, and nobody is asked to lose: a line for each
pub record IsOverOn (displaces : Bool) (news : List Flown) (file : Ladders) (lists : Lists) (text : List ℕ) : Type 0 where
  pub nobody : displaces ≡ false
  pub some : overs file lists news ≢ []
  pub lines : IsText (λ n. IsOverLine) 0 (overs file lists news) text

pub record IsOverPlan (asked : CarryAsked) (olds : List Flown) (before : Inventory) (news : List Flown) (file : Ladders) (text : List ℕ)
    : Type 0 where
  pub courses : List Course
  pub live : List Booking
  pub kept : List Owned
  pub lists : Lists
  pub followed : AreFollowed asked courses olds before news file live lists
  pub parts : AreParts asked courses olds before news file live kept lists
  pub over : IsOverOn asked.displaces news file lists text

-- there are more lines than a journal may have
pub record IsFullPlan (asked : CarryAsked) (olds : List Flown) (before : Inventory) (news : List Flown) (file : Ladders) : Type 0 where
  pub courses : List Course
  pub live : List Booking
  pub kept : List Owned
  pub lists : Lists
  pub followed : AreFollowed asked courses olds before news file live lists
  pub parts : AreParts asked courses olds before news file live kept lists
  pub seasons : Seasons
  pub are_seasons : AreSeasons asked olds before news file seasons
  pub many : most_lines
      < length (changes_for seasons lists) + length kept + length (marks_for asked.fresh_limits olds before news file)

-- by a row a live booking goes where its class is not sold
pub record IsUnsoldRow (asked : CarryAsked) (olds : List Flown) (before : Inventory) (news : List Flown) (file : Ladders) (line : ℕ)
    : Type 0 where
  pub courses : List Course
  pub live : List Booking
  pub are_courses : AreCourses asked olds news courses
  pub every : IsEvery before olds live
  pub lacks : lacking courses before.journal olds news asked.today file live ≡ Some line

-- or where its locator has another one in that class
pub record IsTwiceRow (asked : CarryAsked) (olds : List Flown) (before : Inventory) (news : List Flown) (file : Ladders) (line : ℕ)
    : Type 0 where
  pub courses : List Course
  pub live : List Booking
  pub kept : List Owned
  pub lists : Lists
  pub are_courses : AreCourses asked olds news courses
  pub parts : AreParts asked courses olds before news file live kept lists
  pub first : first_twice lists courses ≡ Some line

-- the first wrong row, or the first that can't be followed
abbrev pub IsRowBy : CourseKind → CarryAsked → List Flown → Inventory → List Flown → Ladders → CourseFault → Type 0
IsRowBy kinds.Form asked olds before news file f = courses_in olds news asked.protections.now ≡ Err f
IsRowBy kinds.Source asked olds before news file f = courses_in olds news asked.protections.now ≡ Err f
IsRowBy kinds.Again asked olds before news file f = courses_in olds news asked.protections.now ≡ Err f
IsRowBy kinds.Target asked olds before news file f = courses_in olds news asked.protections.now ≡ Err f
IsRowBy kinds.Unsold asked olds before news file f = IsUnsoldRow asked olds before news file f.line
IsRowBy kinds.Twice asked olds before news file f = IsTwiceRow asked olds before news file f.line
IsRowBy kinds.Memory asked olds before news file f = ⊥

-- want of memory says nothing of a row
abbrev pub row_fault_by : CourseKind → CourseFault → CarryFault
row_fault_by kinds.Memory f = Memory
row_fault_by kinds.Form f = Row f
row_fault_by kinds.Source f = Row f
row_fault_by kinds.Again f = Row f
row_fault_by kinds.Target f = Row f
row_fault_by kinds.Unsold f = Row f
row_fault_by kinds.Twice f = Row f

abbrev pub row_fault : CourseFault → CarryFault
row_fault f = row_fault_by f.kind f

-- a carry is refused for its legs alone
abbrev pub IsOver : Bool → List Flown → Ladders → Lists → CarryFault → Type 0
IsOver displaces news file lists (Over text) = IsOverOn displaces news file lists text
IsOver displaces news file lists Memory = Unit {0}
IsOver displaces news file lists Full = ⊥
IsOver displaces news file lists Unsealed = ⊥
IsOver displaces news file lists (Row f) = ⊥
IsOver displaces news file lists (Season fault) = ⊥

-- or for its many lines
abbrev pub IsTooLong : ℕ → CarryFault → Type 0
IsTooLong lines Full = most_lines < lines
IsTooLong lines Memory = Unit {0}
IsTooLong lines (Over text) = ⊥
IsTooLong lines Unsealed = ⊥
IsTooLong lines (Row f) = ⊥
IsTooLong lines (Season fault) = ⊥

abbrev pub IsUnplanned : CarryAsked → List Flown → Inventory → List Flown → Ladders → CarryFault → Type 0
IsUnplanned asked olds before news file (Over text) = IsOverPlan asked olds before news file text
IsUnplanned asked olds before news file Full = IsFullPlan asked olds before news file
IsUnplanned asked olds before news file Memory = Unit {0}
IsUnplanned asked olds before news file Unsealed = ⊥
IsUnplanned asked olds before news file (Row f) = IsRowBy f.kind asked olds before news file f
IsUnplanned asked olds before news file (Season fault) = ⊥
