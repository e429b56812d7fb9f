-- How many lines there are.
use Rattle.std.proofs.Common.{◌≡◌, ℕ, ◌+◌, ◌<◌, ◌≤◌, ◌∷◌, ◌++◌, [], List, length, filter, not, arith, refl, ap, ◌∙◌, length-append}
use Rattle.std.proofs.lemmas.List.{length-map, length_push}
use Rattle.std.proofs.lemmas.List.Filters.{length-filter_both}
use Rattle.seat_journal.specs.declared.entry.Change.{Change}
use Rattle.seat_journal.specs.declared.entry.Entry.{Entry}
use Rattle.seat_journal.specs.declared.entry.Work.{Work}
use Rattle.seat_journal.specs.declared.entry.Work.TheVariants.{Limit}
use Rattle.seat_nesting.specs.Nesting.{Ladders}
use Rattle.seat_rules.specs.declared.booking.Status.{Status}
use Rattle.seat_rules.specs.declared.booking.Status.TheVariants.{Held, Waiting}
use Rattle.seat_rules.specs.Bookings.{is_held, is_waiting}
use Rattle.seat_rules.specs.declared.fault.CoreFault.{CoreFault}
use Rattle.seat_rules.specs.declared.fault.CoreFault.TheVariants.{JournalFull, Memory}
use Rattle.seat_carrying.specs.Owned.{AsksForFirst, line_for, lines_after, owned_in_turn}
use Rattle.seat_carrying.specs.declared.owned.Owned.{Owned}
use Rattle.carry_lines.specs.Setting.{SetsFirst, changes_of, closings_of, lines_set, manager_line}
use Rattle.carry_lines.specs.Carried.{asked_lines, changed_lines}
use Rattle.carry_lines.specs.declared.mark.Mark.{Mark}

pub length_set : (grid : Ladders) (past : List Entry) (works : List Work) → length (lines_set grid past works) ≡ length past + length works
length_set grid past [] = omega arith
length_set grid past (w ∷ works) =
    omega (arith, length_set grid (past ++ manager_line grid past w ∷ []) works, length_push past (manager_line grid past w))

pub length_after : (grid : Ladders) (past : List Entry) (os : List Owned) → length (lines_after grid past os) ≡ length past + length os
length_after grid past [] = omega arith
length_after grid past (o ∷ os) =
    omega (arith, length_after grid (past ++ line_for grid past o ∷ []) os, length_push past (line_for grid past o))

waits_or_holds : (s : Status) → is_waiting s ≡ not (is_held s)
waits_or_holds Held = refl
waits_or_holds Waiting = refl

pub length_turn : (os : List Owned) → length (owned_in_turn os) ≡ length os
length_turn os =
    length-append (filter (λ (o : Owned). is_held o.booking.status) os) (filter (λ (o : Owned). is_waiting o.booking.status) os)
    ∙ length-filter_both (λ (o : Owned). is_held o.booking.status) (λ (o : Owned). is_waiting o.booking.status) (λ o. waits_or_holds o.booking.status) os

pub length_changed : (grid : Ladders) (rows : List Change) → length (changed_lines grid rows) ≡ length rows
length_changed grid rows = omega (arith, length_set grid [] (changes_of rows), length-map rows (λ (row : Change). Limit row))

pub length_asked : (grid : Ladders) (rows : List Change) (live : List Owned) → length (asked_lines grid rows live) ≡ length rows + length live
length_asked grid rows live =
    omega (arith, length_after grid (changed_lines grid rows) (owned_in_turn live), length_changed grid rows, length_turn live)

-- ---- where some are left, there is room for a line

pub set_short : (grid : Ladders) (old new : List Entry) (works : List Work) → SetsFirst grid old new works
    → length new < length old + length works
set_short grid old new works a =
    omega (
      arith,
      ap (λ (l : List Entry). length l) a.lines,
      length_set grid old a.asked,
      ap (λ (l : List Work). length l) a.parts,
      length-append a.asked a.left,
      a.some,
    )

pub asked_short : (grid : Ladders) (old new : List Entry) (live : List Owned) → AsksForFirst grid old new (owned_in_turn live)
    → length new < length old + length live
asked_short grid old new live a =
    omega (
      arith,
      ap (λ (l : List Entry). length l) a.lines,
      length_after grid old a.asked,
      ap (λ (l : List Owned). length l) a.parts,
      length-append a.asked a.left,
      a.some,
      length_turn live,
    )

-- a fault that is not for want of lines is for want of memory
pub want_of_memory : (fault : CoreFault) → (fault ≡ JournalFull → ⊥) → fault ≡ Memory
want_of_memory JournalFull not_full = absurd (not_full refl)
want_of_memory Memory not_full = refl
