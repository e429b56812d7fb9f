-- A host's part of a carry.
use Rattle.std.proofs.Common.{◌≡◌, ◌≤◌, ◌<◌, ◌+◌, ℕ, Bool, true, false, List, [], ◌∷◌, filter, length, Option, Some, None, refl, arith, sym, subst, ap, ◌∙◌}
use Rattle.std.proofs.lemmas.List.Elements.{All-filter}
use Rattle.std.specs.List.{All}
use Rattle.ssim_flights.specs.declared.flight.Flight.{Flight as Flown}
use Rattle.seat_journal.specs.declared.entry.Change.{Change}
use Rattle.seat_nesting.specs.Nesting.{Ladders}
use Rattle.seat_rules.specs.Bookings.{IsApart}
use Rattle.seat_rules.specs.Inventory.{Inventory, IsReplayed}
use Rattle.seat_rules.specs.Journal.{FitsChange}
use Rattle.seat_rules.specs.declared.booking.Booking.{Booking}
use Rattle.seat_rules.proofs.Filters.{apart_pass, few_pass}
use Rattle.seat_carrying.specs.Owned.{IsOwned, bookings_of}
use Rattle.seat_carrying.specs.declared.owned.Owned.{Owned}
use Rattle.seat_desk.specs.AuditDesk.{most_lines}
use Rattle.carry_limits.specs.ByFlight.{Lists}
use Rattle.carry_limits.specs.Changes.{changes_for}
use Rattle.carry_limits.specs.Legs.{HasLegsOf}
use Rattle.carry_limits.specs.declared.wanting.Seasons.{Seasons}
use Rattle.carry_lines.specs.Carried.{carried_lines}
use Rattle.carry_lines.specs.Setting.{FitsMark}
use Rattle.carry_lines.specs.declared.mark.Mark.{Mark}
use Rattle.carry_lines.proofs.Promises.{are_shut}
use Rattle.carry_order.specs.Numbering.{AreNumbered}
use Rattle.carry_order.specs.declared.numbering.Numbered.{Numbered}
use Rattle.carry_parts.specs.Parts.{has_flight, own_changes, own_marks, own_owned}
use Rattle.carry_parts.specs.Told.{told}
use Rattle.carry_parts.specs.declared.part.Part.{Part}
use Rattle.carry_protections.specs.declared.course.Course.{Course}
use Rattle.carry_plans.specs.Parting.{AreOwn, IsOwnPart, IsPlanFor, IsToldPart, IsWhole}
use Rattle.carry_plans.specs.Plans.{AreFollowed, AreParts, AreSeasons, IsReportIn, IsTooLong, IsUnplanned, marks_for}
use Rattle.carry_plans.specs.Promises.{AreAllThere, IsPromised}
use Rattle.carry_plans.specs.declared.asked.CarryAsked.{CarryAsked}
use Rattle.carry_plans.specs.declared.fault.CarryFault.{CarryFault}
use Rattle.carry_plans.specs.declared.fault.CarryFault.TheVariants.{Season, Unsealed, Row, Over, Full, Memory}
use Rattle.carry_plans.proofs.Promising.{are_there, each_by_room}

-- ---- what is the host's own

pub all_changes : (part : Part) (news : List Flown) (file : Ladders) (rows : List Change) → All (FitsChange file) rows
    → All (FitsChange file) (own_changes part news rows)
all_changes part news file rows all = All-filter (λ row. has_flight part news row.flight) (FitsChange file) rows all

pub all_owned : (part : Part) (news : List Flown) (file : Ladders) (kept : List Owned) → All (IsOwned file) kept
    → All (IsOwned file) (own_owned part news kept)
all_owned part news file kept all = All-filter (λ o. has_flight part news o.booking.place.flight) (IsOwned file) kept all

pub all_marks : (part : Part) (news : List Flown) (file : Ladders) (marks : List Mark) → All (FitsMark file) marks
    → All (FitsMark file) (own_marks part news marks)
all_marks part news file marks all = All-filter (λ m. has_flight part news m.flight) (FitsMark file) marks all

-- where all of them are apart
bookings_pass : (t : ℕ → Bool) (os : List Owned)
    → bookings_of (filter (λ o. t o.booking.place.flight) os) ≡ filter (λ b. t b.place.flight) (bookings_of os)
bookings_pass t [] = refl
bookings_pass t (o ∷ os) = cases (t o.booking.place.flight) refl (bookings_pass t os) where
  cases : (b : Bool) → t o.booking.place.flight ≡ b
      → bookings_of (filter (λ o. t o.booking.place.flight) os) ≡ filter (λ b. t b.place.flight) (bookings_of os)
      → bookings_of (filter (λ o. t o.booking.place.flight) (o ∷ os)) ≡ filter (λ b. t b.place.flight) (bookings_of (o ∷ os))
  cases true e rest = rw e (ap (λ (l : List Booking). o.booking ∷ l) rest)
  cases false e rest = rw e rest

own_apart : (part : Part) (news : List Flown) (kept : List Owned) → IsApart (bookings_of kept) → IsApart (bookings_of (own_owned part news kept))
own_apart part news kept apart =
    subst IsApart (sym (bookings_pass (has_flight part news) kept)) (apart_pass (λ b. has_flight part news b.place.flight) (bookings_of kept) apart)

pub are_own : (part : Part) (asked : CarryAsked) (olds : List Flown) (before : Inventory) (news : List Flown) (file : Ladders) (kept kept_slice : List Owned)
    (lists : Lists) (seasons : Seasons) (rows rows_slice : List Change) (marks marks_slice : List Mark) (own_rows : List Change) (own_kept : List Owned)
    (own : List Mark) → AreSeasons asked olds before news file seasons → rows ≡ changes_for seasons lists
    → marks ≡ marks_for asked.fresh_limits olds before news file → rows_slice ≡ rows → kept_slice ≡ kept → marks_slice ≡ marks
    → own_rows ≡ own_changes part news rows_slice → own_kept ≡ own_owned part news kept_slice → own ≡ own_marks part news marks_slice
    → AreOwn part asked olds before news file kept lists own_rows own_kept own
are_own part asked olds before news file kept kept_slice lists seasons rows rows_slice marks marks_slice own_rows own_kept own are r m rs ks ms ro ko mo = record {
  seasons = seasons;
  are_seasons = are;
  rows_are = ro ∙ ap (own_changes part news) (rs ∙ r);
  kept_are = ko ∙ ap (own_owned part news) ks;
  marks_are = mo ∙ ap (own_marks part news) (ms ∙ m);
}

-- ---- the report

pub told_part_of : (part : Part) (asked : CarryAsked) (olds news : List Flown) (live live_slice : List Booking) (kept kept_slice : List Owned) (ahead : ℕ)
    (own_kept : List Owned) (after : Inventory) (numbered numbered_slice : List Numbered) (all : List Booking) (text : List ℕ) → kept_slice ≡ kept
    → AreNumbered 0 kept_slice numbered → numbered_slice ≡ numbered → live_slice ≡ live → all ≡ told part olds news live_slice numbered_slice
    → IsReportIn asked.form asked.counts.now asked.today olds news all own_kept ahead after text
    → IsToldPart part asked olds news live kept ahead own_kept after text
told_part_of part asked olds news live live_slice kept kept_slice ahead own_kept after numbered numbered_slice all text ks are ns ls is report = record {
  numbered = numbered;
  are_numbered = subst (λ (l : List Owned). AreNumbered 0 l numbered) ks are;
  reported =
      subst (λ (l : List Booking). IsReportIn asked.form asked.counts.now asked.today olds news l own_kept ahead after text)
      (is ∙ ap (λ (l : List Booking). told part olds news l numbered_slice) ls ∙ ap (λ (l : List Numbered). told part olds news live l) ns) report;
}

-- ---- all of it

-- what all hosts ask together
pub whole_of : (asked : CarryAsked) (olds : List Flown) (before : Inventory) (news : List Flown) (file : Ladders) (kept : List Owned) (lists : Lists)
    (whole : Inventory) (seasons : Seasons) (rows : List Change) (marks : List Mark) → AreSeasons asked olds before news file seasons
    → rows ≡ changes_for seasons lists → marks ≡ marks_for asked.fresh_limits olds before news file
    → IsReplayed whole file most_lines (carried_lines file rows kept marks) → IsWhole asked olds before news file kept lists whole
whole_of asked olds before news file kept lists whole seasons rows marks are r m lines = record {
  seasons = seasons;
  are_seasons = are;
  lines =
      subst (λ (x : List Mark). IsReplayed whole file most_lines (carried_lines file (changes_for seasons lists) kept x)) m
      (subst (λ (x : List Change). IsReplayed whole file most_lines (carried_lines file x kept marks)) r lines);
}

module _ (part : Part) (asked : CarryAsked) (olds : List Flown) (before : Inventory) (news : List Flown) (file : Ladders) (live : List Booking)
    (kept : List Owned) (lists : Lists) (courses : List Course) (followed : AreFollowed asked courses olds before news file live lists)
    (parts : AreParts asked courses olds before news file live kept lists) (rows : List Change) (own_kept : List Owned) (marks : List Mark)
    (own : AreOwn part asked olds before news file kept lists rows own_kept marks) where
  pub own_part_of : (rows_slice : List Change) (kept_slice : List Owned) (marks_slice : List Mark) (after : Inventory) (ahead : ℕ) (report : List ℕ)
      → HasLegsOf file news → rows_slice ≡ rows → kept_slice ≡ own_kept → marks_slice ≡ marks
      → IsReplayed after file most_lines (carried_lines file rows_slice kept_slice marks_slice) → ahead ≡ length rows
      → IsToldPart part asked olds news live kept ahead own_kept after report
      → IsOwnPart part asked olds before news file live kept lists after report
  own_part_of rows_slice kept_slice marks_slice after ahead report has rs ks ms replayed counted said = record {
    own_rows = rows;
    own_kept = own_kept;
    marks = marks;
    own = own;
    lines = lines;
    by_room = each_by_room file rows own_kept marks after lines apart;
    closes = are_shut file most_lines rows own_kept marks after lines;
    told = subst (λ (n : ℕ). IsToldPart part asked olds news live kept n own_kept after report) counted said;
  }
    where
      lines : IsReplayed after file most_lines (carried_lines file rows own_kept marks)
      lines =
          subst (λ (x : List Mark). IsReplayed after file most_lines (carried_lines file rows own_kept x)) ms
          (subst (λ (x : List Owned). IsReplayed after file most_lines (carried_lines file rows x marks_slice)) ks
          (subst (λ (x : List Change). IsReplayed after file most_lines (carried_lines file x kept_slice marks_slice)) rs replayed))

      there : AreAllThere file kept
      there = are_there asked courses before olds news file live kept lists has parts followed.once

      apart : IsApart (bookings_of own_kept)
      apart = subst (λ (l : List Owned). IsApart (bookings_of l)) (sym own.kept_are) (own_apart part news kept there.apart)

  -- the host's own lines are no more than those of all
  pub full_part_of : (f : CarryFault) (rows_slice : List Change) (kept_slice : List Owned) (marks_slice : List Mark) → rows_slice ≡ rows
      → kept_slice ≡ own_kept → marks_slice ≡ marks → IsTooLong (length rows_slice + length kept_slice + length marks_slice) f
      → IsUnplanned asked olds before news file f
  full_part_of Full rows_slice kept_slice marks_slice rs ks ms long = record {
    courses = courses;
    live = live;
    kept = kept;
    lists = lists;
    followed = followed;
    parts = parts;
    seasons = own.seasons;
    are_seasons = own.are_seasons;
    many = more;
  }
    where
      all_rows : List Change
      all_rows = changes_for own.seasons lists

      all_marks_of : List Mark
      all_marks_of = marks_for asked.fresh_limits olds before news file

      few_rows : length rows_slice ≤ length all_rows
      few_rows =
          subst (λ (l : List Change). length l ≤ length all_rows) (sym (rs ∙ own.rows_are))
          (few_pass (λ row. has_flight part news row.flight) all_rows)

      few_kept : length kept_slice ≤ length kept
      few_kept =
          subst (λ (l : List Owned). length l ≤ length kept) (sym (ks ∙ own.kept_are))
          (few_pass (λ o. has_flight part news o.booking.place.flight) kept)

      few_marks : length marks_slice ≤ length all_marks_of
      few_marks =
          subst (λ (l : List Mark). length l ≤ length all_marks_of) (sym (ms ∙ own.marks_are))
          (few_pass (λ m. has_flight part news m.flight) all_marks_of)

      more : most_lines < length all_rows + length kept + length all_marks_of
      more = omega (arith, long, few_rows, few_kept, few_marks)
  full_part_of Memory rows_slice kept_slice marks_slice rs ks ms long = tt
  full_part_of (Over text) rows_slice kept_slice marks_slice rs ks ms long = absurd long
  full_part_of Unsealed rows_slice kept_slice marks_slice rs ks ms long = absurd long
  full_part_of (Row f) rows_slice kept_slice marks_slice rs ks ms long = absurd long
  full_part_of (Season fault) rows_slice kept_slice marks_slice rs ks ms long = absurd long

module _ (asked : CarryAsked) (olds : List Flown) (before : Inventory) (news : List Flown) (file : Ladders) (after : Inventory) (report : List ℕ) where
  pub plan_for_all : asked.part ≡ None → IsPromised asked olds before news file after report
      → IsPlanFor asked.part asked olds before news file after report None
  plan_for_all e promised = subst (λ (p : Option Part). IsPlanFor p asked olds before news file after report None) (sym e) promised

  pub plan_for_part : (part : Part) (whole : Inventory) (whole_report : List ℕ) (courses : List Course) (live : List Booking) (kept : List Owned)
      (lists : Lists) → asked.part ≡ Some part → IsPromised asked olds before news file whole whole_report
      → AreParts asked courses olds before news file live kept lists → IsWhole asked olds before news file kept lists whole
      → IsOwnPart part asked olds before news file live kept lists after report
      → IsPlanFor asked.part asked olds before news file after report (Some whole)
  plan_for_part part whole whole_report courses live kept lists e promised parts is own =
      subst (λ (p : Option Part). IsPlanFor p asked olds before news file after report (Some whole)) (sym e)
      (record {
        whole_report = whole_report;
        promised = promised;
        live = live;
        kept = kept;
        lists = lists;
        chosen = record { courses = courses; parts = parts };
        is_whole = is;
        is_own = own;
      })
