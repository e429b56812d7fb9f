-- The part of a carry that one of several hosts has: what is asked on its own flights, of all that the carry asks.
use Rattle.std.specs.Prelude.{◌≡◌, ℕ, List, length, Option, None, Some}
use Rattle.ssim_flights.specs.declared.flight.Flight.{Flight as Flown}
use Rattle.seat_journal.specs.declared.entry.Change.{Change}
use Rattle.seat_nesting.specs.Nesting.{Ladders}
use Rattle.seat_rules.specs.Inventory.{Inventory, IsReplayed}
use Rattle.seat_rules.specs.declared.booking.Booking.{Booking}
use Rattle.seat_carrying.specs.declared.owned.Owned.{Owned}
use Rattle.seat_desk.specs.AuditDesk.{most_lines}
use Rattle.carry_limits.specs.ByFlight.{Lists}
use Rattle.carry_limits.specs.Changes.{changes_for}
use Rattle.carry_limits.specs.declared.wanting.Seasons.{Seasons}
use Rattle.carry_lines.specs.Carried.{AreShut, carried_lines}
use Rattle.carry_lines.specs.declared.mark.Mark.{Mark}
use Rattle.carry_order.specs.Numbering.{AreNumbered}
use Rattle.carry_order.specs.declared.numbering.Numbered.{Numbered}
use Rattle.carry_parts.specs.Parts.{own_changes, own_marks, own_owned}
use Rattle.carry_parts.specs.Told.{told}
use Rattle.carry_parts.specs.declared.part.Part.{Part}
use Rattle.carry_protections.specs.declared.course.Course.{Course}
use Rattle.carry_plans.specs.Plans.{AreParts, AreSeasons, IsReportIn, marks_for}
use Rattle.carry_plans.specs.Promises.{EachByRoom, IsPromised}
use Rattle.carry_plans.specs.declared.asked.CarryAsked.{CarryAsked}

-- the carry of all hosts has the changes of limits, these live bookings and the closed classes as its lines
pub record IsWhole (asked : CarryAsked) (olds : List Flown) (before : Inventory) (news : List Flown) (file : Ladders) (kept : List Owned)
    (lists : Lists) (whole : Inventory) : Type 0 where
  pub seasons : Seasons
  pub are_seasons : AreSeasons asked olds before news file seasons
  pub lines : IsReplayed whole file most_lines
      (carried_lines file (changes_for seasons lists) kept (marks_for asked.fresh_limits olds before news file))

-- and these are the host's own among them
pub record AreOwn (part : Part) (asked : CarryAsked) (olds : List Flown) (before : Inventory) (news : List Flown) (file : Ladders)
    (kept : List Owned) (lists : Lists) (own_rows : List Change) (own_kept : List Owned) (marks : List Mark) : Type 0 where
  pub seasons : Seasons
  pub are_seasons : AreSeasons asked olds before news file seasons
  pub rows_are : own_rows ≡ own_changes part news (changes_for seasons lists)
  pub kept_are : own_kept ≡ own_owned part news kept
  pub marks_are : marks ≡ own_marks part news (marks_for asked.fresh_limits olds before news file)

-- what became of those of whom the host tells, with their numbers in its own journal
pub record IsToldPart (part : Part) (asked : CarryAsked) (olds news : List Flown) (live : List Booking) (kept : List Owned)
    (ahead : ℕ) (own_kept : List Owned) (after : Inventory) (report : List ℕ) : Type 0 where
  pub numbered : List Numbered
  pub are_numbered : AreNumbered 0 kept numbered
  pub reported : IsReportIn asked.form asked.counts.now asked.today olds news (told part olds news live numbered) own_kept ahead after report

-- the host's inventory has these as its lines, over the file's limits: each booking is answered by the room that those asked ahead of it left, each class
-- is closed by the last line that closes or opens it, and the report says what became of those of whom this host tells
pub record IsOwnPart (part : Part) (asked : CarryAsked) (olds : List Flown) (before : Inventory) (news : List Flown) (file : Ladders)
    (live : List Booking) (kept : List Owned) (lists : Lists) (after : Inventory) (report : List ℕ) : Type 0 where
  pub own_rows : List Change
  pub own_kept : List Owned
  pub marks : List Mark
  pub own : AreOwn part asked olds before news file kept lists own_rows own_kept marks
  pub lines : IsReplayed after file most_lines (carried_lines file own_rows own_kept marks)
  pub by_room : EachByRoom file own_rows own_kept after
  pub closes : AreShut marks after.journal
  pub told : IsToldPart part asked olds news live kept (length own_rows) own_kept after report

-- the live bookings, and those of them that are asked for by flight
pub record IsSplit (asked : CarryAsked) (olds : List Flown) (before : Inventory) (news : List Flown) (file : Ladders) (live : List Booking)
    (kept : List Owned) (lists : Lists) : Type 0 where
  pub courses : List Course
  pub parts : AreParts asked courses olds before news file live kept lists

-- the carry of all hosts keeps what it promises, and this is the host's part of that very carry
pub record IsPromisedPart (part : Part) (asked : CarryAsked) (olds : List Flown) (before : Inventory) (news : List Flown) (file : Ladders)
    (after : Inventory) (report : List ℕ) (whole : Inventory) : Type 0 where
  pub whole_report : List ℕ
  pub promised : IsPromised asked olds before news file whole whole_report
  pub live : List Booking
  pub kept : List Owned
  pub lists : Lists
  pub chosen : IsSplit asked olds before news file live kept lists
  pub is_whole : IsWhole asked olds before news file kept lists whole
  pub is_own : IsOwnPart part asked olds before news file live kept lists after report

-- all of it where no host is named, and else the host's part of a whole one
abbrev pub IsPlanFor : Option Part → CarryAsked → List Flown → Inventory → List Flown → Ladders → Inventory → List ℕ → Option Inventory → Type 0
IsPlanFor None asked olds before news file after report None = IsPromised asked olds before news file after report
IsPlanFor None asked olds before news file after report (Some whole) = ⊥
IsPlanFor (Some part) asked olds before news file after report None = ⊥
IsPlanFor (Some part) asked olds before news file after report (Some whole) = IsPromisedPart part asked olds before news file after report whole
