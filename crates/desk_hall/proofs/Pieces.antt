-- What is told piece by piece.
use Rattle.std.proofs.Common.{◌≡◌, ◌≤◌, ℕ, zero, suc, ◌+◌, ◌-◌, List, [], ◌∷◌, ◌++◌, take, drop, length, set, Option, Some, None, refl, sym, ap, ap₂, subst, ◌∙◌, arith, length-drop, drop-drop, take-add}
use Rattle.std.specs.List.{AllByRecursion}
use Rattle.std.proofs.lemmas.Bool.Decides.{nat_tests}
use Rattle.std.specs.Prelude.{false, min, nat_lt, slice_get}
use Rattle.std.proofs.lemmas.Grind.{flat_map-append}
use Rattle.std.proofs.lemmas.List.{take_all, take-append-le, drop-append-le}
use Rattle.desk_hall.specs.Pieces.{backlog_of, lines_between, piece_end, told_between}
use Rattle.desk_telling.proofs.Owning.{told_stays}
use Rattle.desk_telling.proofs.Tellings.{told_both}
use Rattle.desk_telling.specs.Telling.{AreTold, Telling, told_behind, told_of, told_of_each}
use Rattle.seat_journal.specs.declared.entry.Advice.{Advice}
use Rattle.seat_journal.specs.declared.entry.Entry.{Entry}
use Rattle.ssim_flights.specs.declared.flight.Flight.{Flight as Flown}

-- ---- laws

parted : (journal : List Entry) (from mid upto : ℕ) → from ≤ mid → mid ≤ upto
    → lines_between journal from upto ≡ lines_between journal from mid ++ lines_between journal mid upto
parted journal from mid upto below above =
    let whole : upto - from ≡ (mid - from) + (upto - mid) = omega (arith, below, above) in
    let there : from + (mid - from) ≡ mid = omega (arith, below) in
    let second : drop (mid - from) (drop from journal) ≡ drop mid journal = drop-drop (mid - from) from journal ∙ ap (λ (n : ℕ). drop n journal) there in
    ap (λ (n : ℕ). take n (drop from journal)) whole ∙ take-add (mid - from) (upto - mid) (drop from journal)
    ∙ ap (λ (l : List Entry). take (mid - from) (drop from journal) ++ take (upto - mid) l) second

pub pieces_are_the_whole : (flights : List Flown) (journal : List Entry) (session from mid upto : ℕ) (front rest : List ℕ) → from ≤ mid → mid ≤ upto
    → AreTold flights session (told_between journal session from mid) front
    → AreTold flights session (told_between journal session mid upto) rest
    → AreTold flights session (told_between journal session from upto) (front ++ rest)
pieces_are_the_whole flights journal session from mid upto front rest below above p q =
    let same : told_between journal session from mid ++ told_between journal session mid upto ≡ told_between journal session from upto =
    sym (flat_map-append (told_of journal session) (lines_between journal from mid) (lines_between journal mid upto))
    ∙ ap (told_of_each journal session) (sym (parted journal from mid upto below above)) in
    subst (λ (ts : List Telling). AreTold flights session ts (front ++ rest)) same
    (told_both flights session (told_between journal session from mid) (told_between journal session mid upto) front rest p q)

pub all_is_told_behind : (journal : List Entry) (session from : ℕ)
    → told_between journal session from (length journal) ≡ told_behind journal session from
all_is_told_behind journal session from =
    ap (told_of_each journal session) (take_all (length journal - from) (drop from journal) (omega (arith, length-drop from journal)))

same_each : (journal more : List Entry) (session : ℕ) (lines : List Entry)
    → AllByRecursion (λ (e : Entry). AllByRecursion (λ (a : Advice). a.number ≤ length journal) e.advices) lines
    → told_of_each (journal ++ more) session lines ≡ told_of_each journal session lines
same_each journal more session [] all = refl
same_each journal more session (e ∷ lines) all =
    ap₂ (λ (x y : List Telling). x ++ y) (told_stays journal more session e all.0) (same_each journal more session lines all.1)

front_lines : (journal more : List Entry) (from upto : ℕ) → from ≤ upto → upto ≤ length journal
    → lines_between (journal ++ more) from upto ≡ lines_between journal from upto
front_lines journal more from upto below within =
    ap (take (upto - from)) (drop-append-le from journal more (omega (arith, below, within)))
    ∙ take-append-le (upto - from) (drop from journal) more (omega (arith, length-drop from journal, below, within))

pub pieces_stay : (journal more : List Entry) (session from upto : ℕ) → from ≤ upto → upto ≤ length journal
    → AllByRecursion (λ (e : Entry). AllByRecursion (λ (a : Advice). a.number ≤ length journal) e.advices) (lines_between journal from upto)
    → told_between (journal ++ more) session from upto ≡ told_between journal session from upto
pieces_stay journal more session from upto below within all =
    ap (told_of_each (journal ++ more) session) (front_lines journal more from upto below within)
    ∙ same_each journal more session (lines_between journal from upto) all

-- ---- who is told

-- a piece of as many lines as there are goes to the last
pub whole_end : (from lines : ℕ) → nat_lt (piece_end from lines lines) lines ≡ false
whole_end from lines =
    let far : lines ≤ from + min lines (lines - from) = omega arith in
    grind (arith, nat_tests)

-- whoever was told to the end is not behind any more
pub no_backlog : (backlogs : List (Option ℕ)) (session : ℕ) → backlog_of (set backlogs session None) session ≡ None
no_backlog [] zero = refl
no_backlog [] (suc session) = refl
no_backlog (b ∷ backlogs) zero = refl
no_backlog (b ∷ backlogs) (suc session) = no_backlog backlogs session
