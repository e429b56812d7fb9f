-- Lines come behind lines, and those that ask for seats are the live bookings'.
use Rattle.std.proofs.Common.{◌≡◌, ℕ, ◌+◌, Bool, true, false, List, [], ◌∷◌, ◌++◌, filter, length, map, arith, refl, ap, sym, ◌∙◌, append_assoc}
use Rattle.std.proofs.lemmas.List.{append-nil, length_push, map-append}
use Rattle.std.proofs.lemmas.List.Elements.{filter-append}
use Rattle.seat_journal.specs.declared.entry.Change.{Change}
use Rattle.seat_journal.specs.declared.entry.Entry.{Entry}
use Rattle.seat_journal.specs.declared.entry.Work.{Work}
use Rattle.seat_journal.specs.declared.entry.Work.TheVariants.{Limit, Seats}
use Rattle.seat_nesting.specs.Nesting.{Ladders}
use Rattle.seat_rules.specs.Prefixes.{Begins}
use Rattle.seat_rules.proofs.History.Prefixes.{begins_itself, begins_longer, begins_trans}
use Rattle.seat_carrying.specs.Carrying.{command_for}
use Rattle.seat_carrying.specs.Owned.{line_for, lines_after, owned_in_turn}
use Rattle.seat_carrying.specs.declared.owned.Owned.{Owned}
use Rattle.carry_lines.specs.Setting.{changes_of, closing, closings_of, lines_set, manager_line}
use Rattle.carry_lines.specs.Carried.{HasLineEach, asked_lines, asks_seats, carried_lines, changed_lines, numbers_from}
use Rattle.carry_lines.specs.declared.mark.Mark.{Mark}
use Rattle.carry_lines.proofs.Counting.{length_changed}

-- ---- behind one another

pub begins_set : (grid : Ladders) (past : List Entry) (works : List Work) → Begins past (lines_set grid past works)
begins_set grid past [] = begins_itself past
begins_set grid past (w ∷ works) =
    let more : List Entry = past ++ manager_line grid past w ∷ [] in
    begins_trans past more (lines_set grid more works) (begins_longer past (manager_line grid past w ∷ [])) (begins_set grid more works)

pub begins_after : (grid : Ladders) (past : List Entry) (os : List Owned) → Begins past (lines_after grid past os)
begins_after grid past [] = begins_itself past
begins_after grid past (o ∷ os) =
    let more : List Entry = past ++ line_for grid past o ∷ [] in
    begins_trans past more (lines_after grid more os) (begins_longer past (line_for grid past o ∷ [])) (begins_after grid more os)

-- ---- those that ask for seats

abbrev for_seats : List Entry → List Entry
for_seats journal = filter (λ e. asks_seats e.work) journal

for_seats_push : (past : List Entry) (e : Entry) → for_seats (past ++ e ∷ []) ≡ for_seats past ++ for_seats (e ∷ [])
for_seats_push past e = filter-append (λ (x : Entry). asks_seats x.work) past (e ∷ [])

changes_ask_none : (grid : Ladders) (past : List Entry) (rows : List Change) → for_seats (lines_set grid past (changes_of rows)) ≡ for_seats past
changes_ask_none grid past [] = refl
changes_ask_none grid past (row ∷ rows) =
    let line : Entry = manager_line grid past (Limit row) in
    changes_ask_none grid (past ++ line ∷ []) rows ∙ for_seats_push past line ∙ append-nil (for_seats past)

closings_ask_none : (grid : Ladders) (past : List Entry) (marks : List Mark) → for_seats (lines_set grid past (closings_of marks)) ≡ for_seats past
closings_ask_none grid past [] = refl
closings_ask_none grid past (m ∷ marks) =
    let line : Entry = manager_line grid past (closing m) in
    closings_ask_none grid (past ++ line ∷ []) marks ∙ for_seats_push past line ∙ append-nil (for_seats past)

-- what the lines of live bookings have of each, behind what others have
own_lines : {A : Type 0} (part : Entry → A) (own : ℕ → List Owned → List A) (grid : Ladders)
    → ((n : ℕ) → own n [] ≡ [])
    → ((past : List Entry) (o : Owned) (os : List Owned) → own (length past + 1) (o ∷ os) ≡ part (line_for grid past o) ∷ own (length past + 1 + 1) os)
    → (past : List Entry) (os : List Owned)
    → map part (for_seats (lines_after grid past os)) ≡ map part (for_seats past) ++ own (length past + 1) os
own_lines {A} part own grid none more past [] =
    sym (ap (λ (l : List A). map part (for_seats past) ++ l) (none (length past + 1)) ∙ append-nil (map part (for_seats past)))
own_lines {A} part own grid none more past (o ∷ os) =
    let line : Entry = line_for grid past o in
    let long : length (past ++ line ∷ []) ≡ length past + 1 = length_push past line in
    own_lines part own grid none more (past ++ line ∷ []) os
    ∙ ap (λ (l : List Entry). map part l ++ own (length (past ++ line ∷ []) + 1) os) (for_seats_push past line)
    ∙ ap (λ (n : ℕ). map part (for_seats past ++ line ∷ []) ++ own (n + 1) os) long
    ∙ ap (λ (l : List A). l ++ own (length past + 1 + 1) os) (map-append part (for_seats past) (line ∷ []))
    ∙ append_assoc (map part (for_seats past)) (part line ∷ []) (own (length past + 1 + 1) os)
    ∙ ap (λ (l : List A). map part (for_seats past) ++ l) (sym (more past o os))

asked_in : {A : Type 0} (part : Entry → A) (own : ℕ → List Owned → List A) (grid : Ladders) (rows : List Change) (live : List Owned) (marks : List Mark)
    → ((n : ℕ) → own n [] ≡ [])
    → ((past : List Entry) (o : Owned) (os : List Owned) → own (length past + 1) (o ∷ os) ≡ part (line_for grid past o) ∷ own (length past + 1 + 1) os)
    → map part (for_seats (carried_lines grid rows live marks)) ≡ own (length rows + 1) (owned_in_turn live)
asked_in {A} part own grid rows live marks none more =
    ap (map part) (closings_ask_none grid (asked_lines grid rows live) marks)
    ∙ own_lines part own grid none more (changed_lines grid rows) (owned_in_turn live)
    ∙ ap (λ (l : List Entry). map part l ++ own (length (changed_lines grid rows) + 1) (owned_in_turn live)) (changes_ask_none grid [] rows)
    ∙ ap (λ (n : ℕ). own (n + 1) (owned_in_turn live)) (length_changed grid rows)

pub line_each : (grid : Ladders) (rows : List Change) (live : List Owned) (marks : List Mark)
    → HasLineEach rows live (carried_lines grid rows live marks)
line_each grid rows live marks = record {
  works = asked_in (λ (e : Entry). e.work) (λ n os. map (λ (o : Owned). Seats (command_for o.booking)) os) grid rows live marks (λ n. refl) (λ past o os. refl);
  sessions = asked_in (λ (e : Entry). e.session) (λ n os. map (λ (o : Owned). o.session) os) grid rows live marks (λ n. refl) (λ past o os. refl);
  numbers = asked_in (λ (e : Entry). e.number) numbers_from grid rows live marks (λ n. refl) (λ past o os. refl);
}
