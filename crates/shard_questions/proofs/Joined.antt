-- Journals one behind the other: the mix of their lines in turn, and what one host makes of it.
use Rattle.std.proofs.Common.{◌≡◌, ◌==◌, ℕ, zero, suc, ◌+◌, ◌<◌, ◌≤◌, Bool, true, false, List, [], ◌∷◌, ◌++◌, length, map, arith, refl, ap, sym, subst, ◌∙◌, append_assoc}
use Rattle.std.proofs.lemmas.Bool.Decides.{nat_tests}
use Rattle.std.proofs.lemmas.List.{append-nil, map-append}
use Rattle.seat_nesting.specs.Nesting.{Ladders}
use Rattle.seat_journal.specs.declared.entry.Entry.{Entry}
use Rattle.seat_journal.specs.declared.entry.Work.{Work}
use Rattle.seat_rules.specs.Flights.{line_anew}
use Rattle.seat_rules.specs.Journal.{IsLegal}
use Rattle.seat_desk.specs.AuditDesk.{most_lines}
use Rattle.seat_shards.specs.Shards.{AreShards, IsMix, Tagged, journal_at, lines_of, merged, merged_after, place_in}
use Rattle.seat_shards.proofs.Merged.{merged_is_legal}
use Rattle.seat_shards.proofs.Sums.{lines_away, lines_here}
use Rattle.shard_questions.specs.Joined.{in_turn, in_turn_from, joined, tagged}
use Rattle.shard_questions.specs.Joining.{carried, once_more}
use Rattle.shard_questions.specs.Laws.{JoinedAreNotRefused, JoinedIsLegal}
use Rattle.shard_questions.proofs.Carrying.{carried_both, carried_legal}

-- ---- the mix

own_lines : (n s : ℕ) (j : List Entry) (rest : List Tagged) → (n == s) ≡ true → lines_of s (map (tagged n) j ++ rest) ≡ j ++ lines_of s rest
own_lines n s [] rest here = refl
own_lines n s (e ∷ j) rest here =
    lines_here s (tagged n e) (map (tagged n) j ++ rest) here ∙ ap (λ (l : List Entry). e ∷ l) (own_lines n s j rest here)

other_lines : (n s : ℕ) (j : List Entry) (rest : List Tagged) → (n == s) ≡ false → lines_of s (map (tagged n) j ++ rest) ≡ lines_of s rest
other_lines n s [] rest other = refl
other_lines n s (e ∷ j) rest other =
    lines_away s (tagged n e) (map (tagged n) j ++ rest) other ∙ other_lines n s j rest other

earlier : (n s : ℕ) (js : List (List Entry)) → s < n → lines_of s (in_turn_from n js) ≡ []
earlier n s [] lt = refl
earlier n s (j ∷ js) lt =
    let other : (n == s) ≡ false = grind (arith, nat_tests, lt) in
    other_lines n s j (in_turn_from (n + 1) js) other ∙ earlier (n + 1) s js (omega (arith, lt))

mix_at : (n s i : ℕ) (js : List (List Entry)) → s ≡ n + i → lines_of s (in_turn_from n js) ≡ journal_at js i
mix_at n s zero [] is = refl
mix_at n s (suc i) [] is = refl
mix_at n s zero (j ∷ js) is =
    let here : (n == s) ≡ true = grind (arith, nat_tests, is) in
    own_lines n s j (in_turn_from (n + 1) js) here
    ∙ (ap (λ (l : List Entry). j ++ l) (earlier (n + 1) s js (omega (arith, is))) ∙ append-nil j)
mix_at n s (suc i) (j ∷ js) is =
    let other : (n == s) ≡ false = grind (arith, nat_tests, is) in
    other_lines n s j (in_turn_from (n + 1) js) other ∙ mix_at (n + 1) s i js (omega (arith, is))

pub is_mix : (js : List (List Entry)) → IsMix js (in_turn js)
is_mix js = record { each = λ s. mix_at 0 s s js (omega arith) }

pub joined_is_legal : JoinedIsLegal
joined_is_legal grid cap journals shards =
    let both = merged_is_legal grid cap journals (in_turn journals) shards (is_mix journals) in
    (is_mix journals, both.0, both.1)

pub joined_are_not_refused : JoinedAreNotRefused
joined_are_not_refused grid texts lines journal fault are few is refused =
    let legal : IsLegal grid lines = subst (IsLegal grid) (sym are.is) (joined_is_legal grid most_lines are.journals are.shards).1 in
    refused.none lines is legal few

-- ---- what one host makes of it

-- who asks, and what for
abbrev asks : Entry → ℕ × Work
asks e = (e.session, e.work)

carried_alike : (grid : Ladders) (done xs ys : List Entry) → map asks xs ≡ map asks ys → carried grid done xs ≡ carried grid done ys
carried_alike grid done [] [] same = refl
carried_alike grid done [] (y ∷ ys) same = absurd (cc same)
carried_alike grid done (x ∷ xs) [] same = absurd (cc same)
carried_alike grid done (x ∷ xs) (y ∷ ys) same =
    let first : asks x ≡ asks y = cc same in
    let rest : map asks xs ≡ map asks ys = cc same in
    let line : once_more grid done x ≡ once_more grid done y =
    ap (λ (a : ℕ × Work). once_more grid done (record x { session = a.0; work = a.1 })) first
    in
    ap (λ (l : Entry). carried grid (done ++ l ∷ []) xs) line ∙ carried_alike grid (done ++ once_more grid done y ∷ []) xs ys rest

merged_asks : (anew : ℕ → ℕ → ℕ) (done : List Entry) (mix : List Tagged)
    → map asks (merged_after anew done mix) ≡ map asks done ++ map (λ (t : Tagged). asks t.line) mix
merged_asks anew done [] = sym (append-nil (map asks done))
merged_asks anew done (t ∷ mix) =
    merged_asks anew (done ++ line_anew (anew t.shard) done t.line ∷ []) mix
    ∙ (ap (λ (l : List (ℕ × Work)). l ++ map (λ (t : Tagged). asks t.line) mix) (map-append asks done (line_anew (anew t.shard) done t.line ∷ []))
    ∙ append_assoc (map asks done) (asks t.line ∷ []) (map (λ (t : Tagged). asks t.line) mix))

-- all lines, in turn
abbrev pub all_of : List (List Entry) → List Entry
all_of [] = []
all_of (j ∷ js) = j ++ all_of js

tagged_asks : (n : ℕ) (j : List Entry) → map (λ (t : Tagged). asks t.line) (map (tagged n) j) ≡ map asks j
tagged_asks n [] = refl
tagged_asks n (e ∷ j) = ap (λ (l : List (ℕ × Work)). asks e ∷ l) (tagged_asks n j)

turn_asks : (n : ℕ) (js : List (List Entry)) → map (λ (t : Tagged). asks t.line) (in_turn_from n js) ≡ map asks (all_of js)
turn_asks n [] = refl
turn_asks n (j ∷ js) =
    map-append (λ (t : Tagged). asks t.line) (map (tagged n) j) (in_turn_from (n + 1) js)
    ∙ (ap (λ (l : List (ℕ × Work)). l ++ map (λ (t : Tagged). asks t.line) (in_turn_from (n + 1) js)) (tagged_asks n j)
    ∙ (ap (λ (l : List (ℕ × Work)). map asks j ++ l) (turn_asks (n + 1) js) ∙ sym (map-append asks j (all_of js))))

pub carried_joined : (grid : Ladders) (cap : ℕ) (journals : List (List Entry)) → AreShards grid cap journals
    → carried grid [] (all_of journals) ≡ joined journals
carried_joined grid cap journals shards =
    let legal : IsLegal grid (joined journals) = (joined_is_legal grid cap journals shards).1 in
    let same : map asks (all_of journals) ≡ map asks (joined journals) =
    sym (turn_asks 0 journals) ∙ sym (merged_asks (place_in (in_turn journals)) [] (in_turn journals))
    in
    carried_alike grid [] (all_of journals) (joined journals) same ∙ carried_legal grid (joined journals) legal
