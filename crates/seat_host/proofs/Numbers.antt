-- Receipts as the numbers of their lines.
use Rattle.std.proofs.Common.{◌≡◌, ℕ, zero, suc, ◌-◌, ◌<◌, ◌≤◌, ◌==◌, Bool, true, false, cond, Option, None, Some, List, [], ◌∷◌, ◌++◌, length, get_or, take, drop, refl, ap, sym, subst, ◌∙◌, arith}
use Rattle.std.specs.Prelude.{is_some, map, slice_get, IsSome}
use Rattle.std.specs.List.{AllByRecursion}
use Rattle.std.proofs.lemmas.List.{length-map}
use Rattle.std.proofs.lemmas.Option.{same_Some}
use Rattle.seat_journal.specs.declared.entry.Entry.{Entry}
use Rattle.seat_rules.specs.Agreement.{nth}
use Rattle.seat_rules.specs.Histories.{by_session, of_session}
use Rattle.seat_host.specs.Outcome.{lines_at, with_found, AreLines}
use Rattle.seat_host.specs.Sessions.{numbers_of}

-- ---- the lines of one list of numbers

-- there are as many
pub lines_length : (journal : List Entry) (numbers : List ℕ) (n : ℕ) → AreLines journal numbers → n ≡ length numbers
    → n ≡ length (lines_at journal numbers)
lines_length journal numbers n there is = is ∙ many numbers there
  where
    found : (o : Option Entry) (lines : List Entry) → IsSome o → suc (length lines) ≡ length (with_found o lines)
    found None lines some = absurd (cc some)
    found (Some line) lines some = refl

    many : (numbers : List ℕ) → AreLines journal numbers → length numbers ≡ length (lines_at journal numbers)
    many [] there = refl
    many (number ∷ numbers) there = ap suc (many numbers there.1) ∙ found (nth journal number) (lines_at journal numbers) there.0

-- a place among the lines is one among the numbers
pub line_inside : (journal : List Entry) (numbers : List ℕ) (place : ℕ) → AreLines journal numbers
    → place < length (lines_at journal numbers) → place < length numbers
line_inside journal numbers place there low = omega (arith, low, lines_length journal numbers (length numbers) there refl)

-- and the number there is that of a line
pub line_there : (journal : List Entry) (numbers : List ℕ) (place number : ℕ) → AreLines journal numbers
    → place < length numbers → number ≡ get_or numbers place number → IsSome (nth journal number)
line_there journal [] place number there low is = absurd (omega (arith, low))
line_there journal (n ∷ numbers) zero number there low is = subst (λ (k : ℕ). IsSome (nth journal k)) (sym is) there.0
line_there journal (n ∷ numbers) (suc place) number there low is = line_there journal numbers place number there.1 (omega (arith, low)) is

-- a line has a number from 1, and at most as high as there are lines
pub line_number : (journal : List Entry) (number : ℕ) → IsSome (nth journal number)
    → (1 ≤ number) × (number - 1 < length journal)
line_number journal zero some = absurd (cc some)
line_number journal (suc n) some = (omega arith, below journal n some)
  where
    below : (journal : List Entry) (n : ℕ) → IsSome (slice_get journal n) → suc n - 1 < length journal
    below [] n some = absurd (cc some)
    below (line ∷ journal) zero some = omega arith
    below (line ∷ journal) (suc n) some = omega (arith, below journal n some)

-- the line of a number is found at its place
pub line_found : (journal : List Entry) (numbers : List ℕ) (place number : ℕ) (line : Entry) → AreLines journal numbers
    → place < length numbers → number ≡ get_or numbers place number → line ≡ get_or journal (number - 1) line
    → line ≡ get_or (lines_at journal numbers) place line
line_found journal [] place number line there low is at = absurd (omega (arith, low))
line_found journal (n ∷ numbers) zero number line there low is at =
    first (nth journal n) refl there.0
  where
    at_index : (journal : List Entry) (i : ℕ) (line e : Entry) → slice_get journal i ≡ Some e
        → line ≡ get_or journal i line → line ≡ e
    at_index [] i line e none at = absurd (cc none)
    at_index (x ∷ journal) zero line e is at = at ∙ same_Some x e is
    at_index (x ∷ journal) (suc i) line e is at = at_index journal i line e is at

    held : (journal : List Entry) (n : ℕ) (line e : Entry) → nth journal n ≡ Some e
        → line ≡ get_or journal (n - 1) line → line ≡ e
    held journal zero line e none at = absurd (cc none)
    held journal (suc n) line e is at =
        let back : suc n - 1 ≡ n = omega arith in
        at_index journal n line e is (at ∙ ap (λ (k : ℕ). get_or journal k line) back)

    first : (o : Option Entry) → nth journal n ≡ o → IsSome o → line ≡ get_or (with_found o (lines_at journal numbers)) 0 line
    first None same some = absurd (cc some)
    first (Some e) same some = held journal n line e same (at ∙ ap (λ (k : ℕ). get_or journal (k - 1) line) is)
line_found journal (n ∷ numbers) (suc place) number line there low is at =
    behind (nth journal n) there.0 (line_found journal numbers place number line there.1 (omega (arith, low)) is at)
  where
    behind : (o : Option Entry) → IsSome o → line ≡ get_or (lines_at journal numbers) place line
        → line ≡ get_or (with_found o (lines_at journal numbers)) (suc place) line
    behind None some rest = absurd (cc some)
    behind (Some e) some rest = rest

-- those behind the first ones
pub lines_behind : (journal : List Entry) (numbers : List ℕ) (count : ℕ) → AreLines journal numbers
    → lines_at journal (drop count numbers) ≡ drop count (lines_at journal numbers)
lines_behind journal numbers zero there = refl
lines_behind journal [] (suc count) there = refl
lines_behind journal (n ∷ numbers) (suc count) there =
    lines_behind journal numbers count there.1 ∙ skipped (nth journal n) there.0
  where
    skipped : (o : Option Entry) → IsSome o → drop count (lines_at journal numbers) ≡ drop (suc count) (with_found o (lines_at journal numbers))
    skipped None some = absurd (cc some)
    skipped (Some e) some = refl

pub all_behind : (journal : List Entry) (numbers : List ℕ) (count : ℕ) → AreLines journal numbers
    → AreLines journal (drop count numbers)
all_behind journal numbers zero there = there
all_behind journal [] (suc count) there = tt
all_behind journal (n ∷ numbers) (suc count) there = all_behind journal numbers count there.1

-- ---- those of all sessions

pub sessions_count : (journal : List Entry) (numbers : List (List ℕ)) (n : ℕ) → n ≡ length numbers
    → n ≡ length (map (lines_at journal) numbers)
sessions_count journal numbers n is = is ∙ sym (length-map numbers (lines_at journal))

pub session_inside : (journal : List Entry) (numbers : List (List ℕ)) (session : ℕ)
    → session < length (map (lines_at journal) numbers) → session < length numbers
session_inside journal numbers session low = omega (arith, low, length-map numbers (lines_at journal))

pub session_count : (journal : List Entry) (numbers : List (List ℕ)) (count : ℕ)
    → count ≤ length (map (lines_at journal) numbers) → count ≤ length numbers
session_count journal numbers count low = omega (arith, low, length-map numbers (lines_at journal))

pub session_there : (journal : List Entry) (numbers : List (List ℕ)) (session : ℕ) (own : List ℕ)
    → AllByRecursion (AreLines journal) numbers → session < length numbers → own ≡ get_or numbers session own
    → AreLines journal own
session_there journal [] session own there low is = absurd (omega (arith, low))
session_there journal (n ∷ numbers) zero own there low is = subst (AreLines journal) (sym is) there.0
session_there journal (n ∷ numbers) (suc session) own there low is = session_there journal numbers session own there.1 (omega (arith, low)) is

pub session_lines : (journal : List Entry) (numbers : List (List ℕ)) (session : ℕ) (own : List ℕ)
    → session < length numbers → own ≡ get_or numbers session own
    → lines_at journal own ≡ get_or (map (lines_at journal) numbers) session (lines_at journal own)
session_lines journal [] session own low is = absurd (omega (arith, low))
session_lines journal (n ∷ numbers) zero own low is = ap (lines_at journal) is
session_lines journal (n ∷ numbers) (suc session) own low is = session_lines journal numbers session own (omega (arith, low)) is

pub first_sessions : (journal : List Entry) (numbers : List (List ℕ)) (count : ℕ)
    → map (lines_at journal) (take count numbers) ≡ take count (map (lines_at journal) numbers)
first_sessions journal numbers zero = refl
first_sessions journal [] (suc count) = refl
first_sessions journal (n ∷ numbers) (suc count) = ap (λ (l : List (List Entry)). lines_at journal n ∷ l) (first_sessions journal numbers count)

pub first_there : (journal : List Entry) (numbers : List (List ℕ)) (count : ℕ)
    → AllByRecursion (AreLines journal) numbers → AllByRecursion (AreLines journal) (take count numbers)
first_there journal numbers zero there = tt
first_there journal [] (suc count) there = tt
first_there journal (n ∷ numbers) (suc count) there = (there.0, first_there journal numbers count there.1)

-- ---- the numbers of lines give them again

-- each of these is the line of its number
abbrev pub AreNumbered : List Entry → List Entry → Type 0
AreNumbered journal lines = AllByRecursion (λ (line : Entry). nth journal line.number ≡ Some line) lines

lines_again : (journal lines : List Entry) → AreNumbered journal lines → lines_at journal (numbers_of lines) ≡ lines
lines_again journal [] numbered = refl
lines_again journal (line ∷ lines) numbered =
    ap (λ (o : Option Entry). with_found o (lines_at journal (numbers_of lines))) numbered.0
    ∙ ap (λ (l : List Entry). line ∷ l) (lines_again journal lines numbered.1)

are_lines : (journal lines : List Entry) → AreNumbered journal lines → AreLines journal (numbers_of lines)
are_lines journal [] numbered = tt
are_lines journal (line ∷ lines) numbered = (ap (λ (o : Option Entry). is_some o) numbered.0, are_lines journal lines numbered.1)

pub all_again : (journal : List Entry) (lists : List (List Entry)) → AllByRecursion (AreNumbered journal) lists
    → map (lines_at journal) (map numbers_of lists) ≡ lists
all_again journal [] numbered = refl
all_again journal (lines ∷ lists) numbered = λ i. lines_again journal lines numbered.0 i ∷ all_again journal lists numbered.1 i

pub all_lines : (journal : List Entry) (lists : List (List Entry)) → AllByRecursion (AreNumbered journal) lists
    → AllByRecursion (AreLines journal) (map numbers_of lists)
all_lines journal [] numbered = tt
all_lines journal (lines ∷ lists) numbered = (are_lines journal lines numbered.0, all_lines journal lists numbered.1)

-- ---- the lines of each session are numbered, where all are

own_numbered : (journal : List Entry) (s : ℕ) (lines : List Entry) → AreNumbered journal lines
    → AreNumbered journal (of_session s lines)
own_numbered journal s [] numbered = tt
own_numbered journal s (line ∷ lines) numbered = by (line.session == s) (own_numbered journal s lines numbered.1)
  where
    by : (b : Bool) → AreNumbered journal (of_session s lines)
        → AreNumbered journal (cond b (line ∷ of_session s lines) (of_session s lines))
    by true own = (numbered.0, own)
    by false own = own

and_one : (journal : List Entry) (lists : List (List Entry)) (lines : List Entry)
    → AllByRecursion (AreNumbered journal) lists → AreNumbered journal lines
    → AllByRecursion (AreNumbered journal) (lists ++ lines ∷ [])
and_one journal [] lines all one = (one, tt)
and_one journal (l ∷ lists) lines all one = (all.0, and_one journal lists lines all.1 one)

pub each_numbered : (n : ℕ) (journal : List Entry) → AreNumbered journal journal
    → AllByRecursion (AreNumbered journal) (by_session n journal)
each_numbered zero journal numbered = (own_numbered journal 0 journal numbered, tt)
each_numbered (suc n) journal numbered = and_one journal (by_session n journal) (of_session (suc n) journal) (each_numbered n journal numbered) (own_numbered journal (suc n) journal numbered)
