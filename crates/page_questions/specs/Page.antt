-- What `loads --html` writes: a page of the legs that are kept.
use Rattle.std.specs.Prelude.{◌≡◌, ℕ, nat_le, if◌then◌else◌, List, [], ◌++◌, length, Option, Some, None}
use Rattle.ssim_flights.specs.declared.flight.Flight.{Flight as Flown}
use Rattle.seat_rules.specs.Sequential.{State}
use Rattle.seat_loads.specs.declared.loads.LoadsOf.{LoadsOf}
use Rattle.table_questions.specs.SumRows.{day_count, days_from}
use Rattle.load_pages.specs.Pages.{closing_text, most_page_bytes, opening_text}
use Rattle.load_pages.specs.Sections.{AreHeads, section_text}
use Rattle.page_questions.specs.Each.{of_each}
use Rattle.page_questions.specs.Shown.{shown_legs}

-- the days across: the one that is asked for, or from the earliest on which a leg departs to the latest
abbrev pub first_of : Option ℕ → List Flown → ℕ
first_of None flights = days_from flights
first_of (Some day) flights = day

abbrev pub columns_of : Option ℕ → List Flown → ℕ
columns_of None flights = day_count flights
columns_of (Some day) flights = 1

-- the section of a class, under columns with these heads
abbrev pub class_section : LoadsOf → State → List Flown → ℕ → List ℕ → ℕ → List ℕ
class_section asked s flights first heads class = section_text heads class first (shown_legs asked s flights class)

-- from A to Z
unfoldable pub page_text : LoadsOf → State → List Flown → ℕ → List ℕ → List ℕ
page_text asked s flights first heads =
    opening_text ++ of_each (class_section asked s flights first heads) 26 65 ++ closing_text

-- a page, or nothing in place of one that is too long
abbrev pub fitting : List ℕ → List ℕ
fitting page = (if nat_le (length page) most_page_bytes then page else [])

pub record IsPage (asked : LoadsOf) (s : State) (flights : List Flown) (text : List ℕ) : Type 0 where
  pub heads : List ℕ
  pub are_heads : AreHeads (columns_of asked.day flights) (first_of asked.day flights) heads
  pub written : text ≡ fitting (page_text asked s flights (first_of asked.day flights) heads)
