-- Sections behind sections, and the page of what a replay leaves.
use Rattle.std.proofs.Common.{Bool, true, false, ◌≡◌, ℕ, ◌+◌, ◌-◌, ◌<◌, ◌≤◌, List, [], ◌++◌, length, Option, Some, None, sym, ap, subst, ◌∙◌, arith, append_assoc, if◌then◌else◌}
use Rattle.std.specs.Prelude.{nat_le}
use Rattle.std.specs.Char.{is_ascii_uppercase}
use Rattle.std.proofs.lemmas.Bool.Decides.{nat_tests}
use Rattle.std.proofs.lemmas.List.{append-nil, length-append}
use Rattle.airline_base.specs.Days.{IsDay}
use Rattle.ssim_flights.specs.declared.flight.Flight.{Flight as Flown}
use Rattle.seat_rules.specs.Sequential.{State}
use Rattle.seat_loads.specs.declared.loads.LoadsOf.{LoadsOf}
use Rattle.load_pages.specs.Pages.{closing_text, most_page_bytes, opening_text}
use Rattle.load_pages.specs.Sections.{AreHeads, section_text}
use Rattle.load_pages.specs.declared.load.LegLoad.{LegLoad}
use Rattle.page_questions.specs.Each.{of_each}
use Rattle.page_questions.specs.Page.{IsPage, class_section, columns_of, first_of, fitting, page_text}
use Rattle.page_questions.specs.Shown.{shown_legs}
use Rattle.page_questions.proofs.Eaching.{each_next, each_none}

pub page_is : (asked : LoadsOf) (s : State) (flights : List Flown) (first count : ℕ) (heads text : List ℕ)
    → first ≡ first_of asked.day flights → count ≡ columns_of asked.day flights → AreHeads count first heads
    → text ≡ fitting (page_text asked s flights first heads) → IsPage asked s flights text
page_is asked s flights first count heads text is_first is_count are is = record {
  heads = heads;
  are_heads = subst (λ (d : ℕ). AreHeads (columns_of asked.day flights) d heads) is_first
      (subst (λ (n : ℕ). AreHeads n first heads) is_count are);
  written = is ∙ ap (λ (d : ℕ). fitting (page_text asked s flights d heads)) is_first;
}

-- ---- the days across

pub days_within : (asked : Option ℕ) (flights : List Flown) (first count : ℕ) → first ≡ first_of asked flights
    → first_of asked flights + count ≤ 84006 → first + count ≤ 84006
days_within asked flights first count is within = omega (arith, is, within)

pub one_day : (day : ℕ) → IsDay day → day + 1 ≤ 84006
one_day day is = omega (arith, is.1)

pub all_days : (first last : ℕ) → IsDay first → last ≤ 84005 → first + (last + 1 - first) ≤ 84006
all_days first last is within = omega (arith, is.1, within)

-- ---- sections

-- each of these letters is that of a class
pub is_letter : (letter : ℕ) → 65 ≤ letter → letter ≤ 90 → is_ascii_uppercase letter ≡ true
is_letter letter from to = grind (arith, nat_tests, from, to)

same_class : (letter class : ℕ) (b : Bool) → b ≡ true → Some class ≡ (if b then Some letter else None) → class ≡ letter
same_class letter class true e is = cc
same_class letter class false e is = absurd cc

pub letter_put : (section : ℕ → List ℕ) (letter class : ℕ) (old new : List ℕ) → 65 ≤ letter → letter ≤ 90
    → Some class ≡ (if is_ascii_uppercase letter then Some letter else None) → new ≡ old ++ section class → new ≡ old ++ section letter
letter_put section letter class old new from to is put =
    put ∙ ap (λ (n : ℕ). old ++ section n) (same_class letter class (is_ascii_uppercase letter) (is_letter letter from to) is)

pub section_put : (asked : LoadsOf) (s : State) (flights : List Flown) (first : ℕ) (heads : List ℕ) (class : ℕ) (loads : List LegLoad)
    (old new : List ℕ) → loads ≡ shown_legs asked s flights class → new ≡ old ++ section_text heads class first loads
    → new ≡ old ++ class_section asked s flights first heads class
section_put asked s flights first heads class loads old new is put =
    put ∙ ap (λ (l : List LegLoad). old ++ section_text heads class first l) is

-- ---- the page

-- the sections that are left make the text the page
pub record IsPageSoFar (asked : LoadsOf) (s : State) (flights : List Flown) (first : ℕ) (heads : List ℕ) (i : ℕ) (text : List ℕ) : Type 0 where
  pub left : text ++ of_each (class_section asked s flights first heads) (26 - i) (65 + i) ++ closing_text
      ≡ page_text asked s flights first heads

pub opened : (asked : LoadsOf) (s : State) (flights : List Flown) (first : ℕ) (heads none text : List ℕ) → none ≡ []
    → text ≡ none ++ opening_text → IsPageSoFar asked s flights first heads 0 text
unfolding page_text
opened asked s flights first heads none text empty put = record {
  left =
      ap (λ (l : List ℕ). l ++ of_each (class_section asked s flights first heads) 26 65 ++ closing_text)
      (put ∙ ap (λ (l : List ℕ). l ++ opening_text) empty);
}

pub section_more : (asked : LoadsOf) (s : State) (flights : List Flown) (first : ℕ) (heads : List ℕ) (i letter : ℕ) (mid new : List ℕ)
    → IsPageSoFar asked s flights first heads i mid → i < 26 → letter ≡ 65 + i
    → new ≡ mid ++ class_section asked s flights first heads letter → IsPageSoFar asked s flights first heads (i + 1) new
section_more asked s flights first heads i letter mid new so_far inside is put =
    let section : ℕ → List ℕ = class_section asked s flights first heads in
    let rest : List ℕ = of_each section (26 - (i + 1)) (65 + (i + 1)) in
    let next : 65 + (i + 1) ≡ 65 + i + 1 = omega arith in
    let step : of_each section (26 - i) (65 + i) ≡ section (65 + i) ++ rest = each_next section 26 i (65 + i) (65 + (i + 1)) inside next in
    let here : new ≡ mid ++ section (65 + i) = put ∙ ap (λ (n : ℕ). mid ++ section n) is in
    record {
      left =
          ap (λ (l : List ℕ). l ++ rest ++ closing_text) here
          ∙ ap (λ (l : List ℕ). l ++ closing_text) (append_assoc mid (section (65 + i)) rest)
          ∙ ap (λ (l : List ℕ). mid ++ l ++ closing_text) (sym step)
          ∙ so_far.left;
    }

over_most : (page : List ℕ) → most_page_bytes < length page → nat_le (length page) most_page_bytes ≡ false
over_most page over = grind (arith, nat_tests, over)

within_most : (page : List ℕ) → length page ≤ most_page_bytes → nat_le (length page) most_page_bytes ≡ true
within_most page within = grind (arith, nat_tests, within)

-- a beginning that is too long is that of a page that is
too_long : (text rest page none : List ℕ) → text ++ rest ≡ page → most_page_bytes < length text → none ≡ [] → none ≡ fitting page
too_long text rest page none is over empty =
    let sum : length (text ++ rest) ≡ length text + length rest = length-append text rest in
    let whole : length (text ++ rest) ≡ length page = ap (λ (l : List ℕ). length l) is in
    let more : most_page_bytes < length page = omega (arith, sum, whole, over) in
    empty ∙ sym (ap (λ (b : Bool). if b then page else []) (over_most page more))

pub is_too_long : (asked : LoadsOf) (s : State) (flights : List Flown) (first : ℕ) (heads : List ℕ) (i : ℕ) (text none : List ℕ)
    → IsPageSoFar asked s flights first heads i text → most_page_bytes < length text → none ≡ []
    → none ≡ fitting (page_text asked s flights first heads)
is_too_long asked s flights first heads i text none so_far over empty =
    let left : List ℕ = of_each (class_section asked s flights first heads) (26 - i) (65 + i) in
    too_long text (left ++ closing_text) (page_text asked s flights first heads) none
    (sym (append_assoc text left closing_text) ∙ so_far.left) over empty

all_put : (asked : LoadsOf) (s : State) (flights : List Flown) (first : ℕ) (heads : List ℕ) (i : ℕ) (mid text : List ℕ)
    → IsPageSoFar asked s flights first heads i mid → 26 ≤ i → text ≡ mid ++ closing_text → text ≡ page_text asked s flights first heads
all_put asked s flights first heads i mid text so_far over put =
    put ∙ ap (λ (l : List ℕ). l ++ closing_text) (sym (append-nil mid))
    ∙ ap (λ (l : List ℕ). mid ++ l ++ closing_text) (sym (each_none (class_section asked s flights first heads) 26 i (65 + i) over))
    ∙ so_far.left

pub closed_too_long : (asked : LoadsOf) (s : State) (flights : List Flown) (first : ℕ) (heads : List ℕ) (i : ℕ) (mid text none : List ℕ)
    → IsPageSoFar asked s flights first heads i mid → 26 ≤ i → text ≡ mid ++ closing_text → most_page_bytes < length text → none ≡ []
    → none ≡ fitting (page_text asked s flights first heads)
closed_too_long asked s flights first heads i mid text none so_far over put long empty =
    too_long text [] (page_text asked s flights first heads) none
    (append-nil text ∙ all_put asked s flights first heads i mid text so_far over put) long empty

pub closed : (asked : LoadsOf) (s : State) (flights : List Flown) (first : ℕ) (heads : List ℕ) (i : ℕ) (mid text : List ℕ)
    → IsPageSoFar asked s flights first heads i mid → 26 ≤ i → text ≡ mid ++ closing_text → length text ≤ most_page_bytes
    → text ≡ fitting (page_text asked s flights first heads)
closed asked s flights first heads i mid text so_far over put within =
    let whole : text ≡ page_text asked s flights first heads = all_put asked s flights first heads i mid text so_far over put in
    sym (ap (λ (b : Bool). if b then text else []) (within_most text within)) ∙ ap fitting whole
