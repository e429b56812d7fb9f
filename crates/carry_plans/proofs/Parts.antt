-- What a carry makes of its parts, and why it makes nothing.
use Rattle.std.proofs.Common.{◌≡◌, ◌<◌, ◌+◌, ◌==◌, ℕ, Bool, true, false, List, Option, [], ◌∷◌, length, refl, arith, sym, subst, ◌∙◌}
use Rattle.std.proofs.lemmas.Bool.Decides.{nat_tests}
use Rattle.ssim_flights.specs.declared.flight.Flight.{Flight as Flown}
use Rattle.seat_journal.specs.declared.entry.Change.{Change}
use Rattle.seat_nesting.specs.Nesting.{Ladders}
use Rattle.seat_rules.specs.Inventory.{Inventory}
use Rattle.seat_rules.specs.declared.booking.Booking.{Booking}
use Rattle.seat_tables.specs.declared.sheet.Form.{Form}
use Rattle.seat_carrying.specs.Owned.{bookings_of}
use Rattle.seat_carrying.specs.declared.owned.Owned.{Owned}
use Rattle.seat_desk.specs.AuditDesk.{most_lines}
use Rattle.carry_limits.specs.ByFlight.{IsByFlight, Lists}
use Rattle.carry_limits.specs.Changes.{changes_for}
use Rattle.carry_limits.specs.Overs.{overs}
use Rattle.carry_limits.specs.declared.counting.Over.{Over as OverLeg}
use Rattle.carry_limits.specs.declared.wanting.Seasons.{Seasons}
use Rattle.carry_lines.specs.declared.mark.Mark.{Mark}
use Rattle.carry_order.specs.Numbering.{AreNumbered}
use Rattle.carry_order.specs.declared.numbering.Numbered.{Numbered}
use Rattle.carry_protections.specs.declared.course.Course.{Course}
use Rattle.carry_reports.specs.Fates.{fates}
use Rattle.carry_reports.specs.declared.fating.Carried.{Carried}
use Rattle.carry_reports.specs.declared.fating.Fated.{Fated}
use Rattle.carry_tables.specs.FateRows.{IsReportAs}
use Rattle.carry_plans.specs.Plans.{AreChosen, AreFollowed, AreParts, AreSeasons, HasRoomIf, IsOver, IsReportIn, IsReportOf, IsTooLong, IsUnplanned, marks_for}
use Rattle.carry_plans.specs.declared.asked.CarryAsked.{CarryAsked}
use Rattle.carry_plans.specs.declared.fault.CarryFault.{CarryFault}
use Rattle.carry_plans.specs.declared.fault.CarryFault.TheVariants.{Season, Unsealed, Row, Over, Full, Memory}

-- want of memory is an answer
pub of_memory : (asked : CarryAsked) (olds : List Flown) (before : Inventory) (news : List Flown) (file : Ladders) (f : CarryFault) → f ≡ Memory
    → IsUnplanned asked olds before news file f
of_memory asked olds before news file f e = subst (IsUnplanned asked olds before news file) (sym e) tt

pub room_if : (displaces : Bool) (news : List Flown) (file : Ladders) (lists : Lists) (all : List OverLeg) (n : ℕ)
    → all ≡ overs file lists news → (length all == 0) ≡ true → HasRoomIf displaces news file lists
room_if displaces news file lists all n is none = record { room = λ (e : displaces ≡ false). sym is ∙ empty all none }
  where
    empty : (xs : List OverLeg) → (length xs == 0) ≡ true → xs ≡ []
    empty [] h = refl
    empty (x ∷ xs) h = absurd (grind (arith, nat_tests, h))

pub parts_of : (asked : CarryAsked) (courses : List Course) (olds : List Flown) (before : Inventory) (news : List Flown) (file : Ladders) (live : List Booking) (kept slice : List Owned)
    (lists : Lists) (n : ℕ) → AreChosen asked courses before olds news file live kept → slice ≡ kept → n ≡ length news → IsByFlight lists n (bookings_of slice)
    → AreParts asked courses olds before news file live kept lists
parts_of asked courses olds before news file live kept slice lists n chosen is counted by = record {
  chosen = chosen;
  by_flight =
      subst (λ (l : List Owned). IsByFlight lists (length news) (bookings_of l)) is
      (subst (λ (k : ℕ). IsByFlight lists k (bookings_of slice)) counted by);
}

module _ (asked : CarryAsked) (olds : List Flown) (before : Inventory) (news : List Flown) (file : Ladders) (live : List Booking) (kept : List Owned)
    (lists : Lists) (courses : List Course) (followed : AreFollowed asked courses olds before news file live lists)
    (parts : AreParts asked courses olds before news file live kept lists) where
  pub over_of : (f : CarryFault) → IsOver asked.displaces news file lists f → IsUnplanned asked olds before news file f
  over_of (Over text) over =
      record { courses = courses; live = live; kept = kept; lists = lists; followed = followed; parts = parts; over = over }
  over_of Memory over = tt
  over_of Full over = absurd over
  over_of Unsealed over = absurd over
  over_of (Row f) over = absurd over
  over_of (Season fault) over = absurd over

  pub full_of : (f : CarryFault) (seasons : Seasons) (rows : List Change) (marks : List Mark) (n : ℕ)
      → AreSeasons asked olds before news file seasons → rows ≡ changes_for seasons lists
      → marks ≡ marks_for asked.fresh_limits olds before news file → n ≡ length rows + length kept + length marks → IsTooLong n f
      → IsUnplanned asked olds before news file f
  full_of Full seasons rows marks n are r m count long = record {
    courses = courses;
    live = live;
    kept = kept;
    lists = lists;
    followed = followed;
    parts = parts;
    seasons = seasons;
    are_seasons = are;
    many =
        subst (λ (x : List Mark). most_lines < length (changes_for seasons lists) + length kept + length x) m
        (subst (λ (x : List Change). most_lines < length x + length kept + length marks) r (subst (λ (k : ℕ). most_lines < k) count long));
  }
  full_of Memory seasons rows marks n are r m count long = tt
  full_of (Over text) seasons rows marks n are r m count long = absurd long
  full_of Unsealed seasons rows marks n are r m count long = absurd long
  full_of (Row f) seasons rows marks n are r m count long = absurd long
  full_of (Season fault) seasons rows marks n are r m count long = absurd long

-- ---- the report

pub report_of : (form : Option Form) (counts : List ℕ) (today : ℕ) (olds news : List Flown) (live : List Booking) (numbered : List Numbered) (after : Inventory) (carried : Carried)
    (all all_slice : List Fated) (text : List ℕ) → carried.olds.now ≡ olds → carried.news.now ≡ news → carried.new.now ≡ news
    → carried.today ≡ today → carried.asked.now ≡ numbered → carried.after.now ≡ after
    → all ≡ fates carried live → all_slice ≡ all → IsReportAs form counts olds news all_slice text → IsReportOf form counts today olds news live numbered after text
report_of form counts today olds news live numbered after carried all all_slice text a b c d e f fated is_all is = record {
  carried = carried;
  is_carried = record { olds_are = a; news_are = b; new_is = c; today_is = d; asked_are = e; after_is = f };
  is_report = subst (λ (x : List Fated). IsReportAs form counts olds news x text) (is_all ∙ fated) is;
}

pub report_in : (form : Option Form) (counts : List ℕ) (today : ℕ) (olds news : List Flown) (live live_slice : List Booking) (kept kept_slice : List Owned) (ahead : ℕ) (after : Inventory)
    (numbered numbered_slice : List Numbered) (text : List ℕ) → kept_slice ≡ kept → AreNumbered ahead kept_slice numbered → numbered_slice ≡ numbered
    → live_slice ≡ live → IsReportOf form counts today olds news live_slice numbered_slice after text → IsReportIn form counts today olds news live kept ahead after text
report_in form counts today olds news live live_slice kept kept_slice ahead after numbered numbered_slice text is_kept are is_numbered is_live is = record {
  numbered = numbered;
  are_numbered = subst (λ (l : List Owned). AreNumbered ahead l numbered) is_kept are;
  reported =
      subst (λ (l : List Booking). IsReportOf form counts today olds news l numbered after text) is_live
      (subst (λ (l : List Numbered). IsReportOf form counts today olds news live_slice l after text) is_numbered is);
}
