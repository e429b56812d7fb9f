-- What is put into a list has the form of a list.
use Rattle.std.proofs.Common.{◌≡◌, ℕ, zero, suc, ◌+◌, ◌-◌, ◌^◌, ◌<◌, ◌≤◌, Bool, true, false, not, cond, ◌&&◌, ◌==◌, nat_lt, List, [], ◌∷◌, ◌++◌, length, take, get_or, Option, Some, None, Result, Ok, Err, codes, decimal, refl, sym, ap, subst, ◌∙◌, arith, rules, append_assoc}
use Rattle.std.specs.Char.{is_ascii_digit}
use Rattle.std.specs.List.{list_all, onto_first}
use Rattle.std.specs.Str.Lines.{lines, strip_carriage_return}
use Rattle.std.specs.Str.Parse.{digits_value}
use Rattle.std.proofs.lemmas.Bool.Decides.{nat_tests}
use Rattle.std.proofs.lemmas.Fmt.{decimal_digit, decimal_nonempty, digits_decimal}
use Rattle.std.proofs.lemmas.List.{length-append, take-append-le}
use Rattle.std.proofs.lemmas.Str.Parse.{IsNumeralModel, numerals_by_value}
use Rattle.airline_base.specs.Lines.{is_line_feed, line_at}
use Rattle.airline_base.proofs.LineCuts.{lines_are}
use Rattle.airline_base.proofs.Tests.{both_are, both_true}
use Rattle.airimp_lines.specs.FaultText.{kind_text}
use Rattle.airimp_lines.specs.Messages.{heading_at, is_passed_over}
use Rattle.airimp_lines.specs.Reading.{undated_at}
use Rattle.airimp_lines.specs.Steps.{Message, after_heading, after_segment, step}
use Rattle.airimp_lines.specs.declared.fault.LineFault.{LineFault}
use Rattle.airimp_lines.specs.declared.fault.LineFault.TheVariants as faults
use Rattle.airimp_lines.specs.declared.fault.ScriptFault.{ScriptFault}
use Rattle.airimp_lines.specs.declared.fault.ScriptKind.{ScriptKind}
use Rattle.airimp_lines.specs.declared.fault.ScriptKind.TheVariants as kinds
use Rattle.airimp_lines.specs.declared.segment.Undated.{Undated}
use Rattle.script_refusals.specs.Asking.{RowsAreAList}
use Rattle.script_refusals.specs.Cleaning.{at_start, own_refusal, passage_behind, refused_for, refusals_from, refusals_of, text_of, whole_lines}
use Rattle.script_refusals.specs.Listing.{is_list, is_number, is_place, is_row, rows_text}
use Rattle.script_refusals.specs.declared.cleaning.Passage.{Passage}
use Rattle.script_refusals.specs.declared.cleaning.Passage.TheVariants.{Right, Refused}
use Rattle.script_refusals.proofs.Lines.{line_ahead, place_of}

-- ---- numbers

own : IsNumeralModel (λ ds. list_all is_ascii_digit ds ≡ true) (digits_value 10)
own = numerals_by_value _ (search rules)

are_digits : (n : ℕ) → n < 2 ^ 64 → list_all is_ascii_digit (decimal n) ≡ true
are_digits n h = digits_decimal own n h

number_is : (digits : List ℕ) → 0 < length digits → list_all is_ascii_digit digits ≡ true → is_number digits ≡ true
number_is [] some h = absurd (omega (arith, some))
number_is (d ∷ digits) some h = h

digit_is : (n : ℕ) → n < 10 → is_ascii_digit (48 + n) ≡ true
digit_is n h = grind (arith, nat_tests, h)

place_is : (session line : ℕ) → session < 10 → line < 2 ^ 64 → is_place (decimal session ++ (32 ∷ decimal line)) ≡ true
place_is session line few small =
    let one : decimal session ≡ (48 + session) ∷ [] = decimal_digit session few in
    let digit : is_ascii_digit (48 + session) ≡ true = digit_is session few in
    let number : is_number (decimal line) ≡ true = number_is (decimal line) (decimal_nonempty line small) (are_digits line small) in
    subst (λ (ds : List ℕ). is_place (ds ++ (32 ∷ decimal line)) ≡ true) (sym one) (rw (digit, number) refl)

-- ---- a row, without its end

abbrev words_of : ℕ → ScriptFault → List ℕ
words_of session fault = kind_text fault.kind ++ codes " " ++ decimal session ++ codes " " ++ decimal fault.line

-- its code, and behind a blank its place
abbrev parts_of : ℕ → ScriptFault → List ℕ
parts_of session fault = kind_text fault.kind ++ (32 ∷ (decimal session ++ (32 ∷ decimal fault.line)))

joined : (code session line : List ℕ) → code ++ codes " " ++ session ++ codes " " ++ line ≡ code ++ (32 ∷ (session ++ (32 ∷ line)))
joined code session line =
    append_assoc (code ++ (32 ∷ []) ++ session) (32 ∷ []) line
    ∙ append_assoc (code ++ (32 ∷ [])) session (32 ∷ line)
    ∙ append_assoc code (32 ∷ []) (session ++ (32 ∷ line))

words_are : (session : ℕ) (fault : ScriptFault) → words_of session fault ≡ parts_of session fault
words_are session fault = joined (kind_text fault.kind) (decimal session) (decimal fault.line)

-- each kind but want of memory has a row
abbrev HasRow : ScriptKind → Type 0
HasRow kinds.Locator = Unit {0}
HasRow (kinds.Line fault) = Unit {0}
HasRow kinds.Memory = ⊥

row_by : (kind : ScriptKind) (place : List ℕ) → HasRow kind → is_place place ≡ true → is_row (kind_text kind ++ (32 ∷ place)) ≡ true
row_by kinds.Locator place h e = rw e refl
row_by (kinds.Line faults.Length) place h e = rw e refl
row_by (kinds.Line faults.Airline) place h e = rw e refl
row_by (kinds.Line faults.Number) place h e = rw e refl
row_by (kinds.Line faults.Class) place h e = rw e refl
row_by (kinds.Line faults.Day) place h e = rw e refl
row_by (kinds.Line faults.Pair) place h e = rw e refl
row_by (kinds.Line faults.Code) place h e = rw e refl
row_by (kinds.Line faults.Seats) place h e = rw e refl
row_by (kinds.Line faults.Tail) place h e = rw e refl
row_by kinds.Memory place h e = absurd h

-- ---- no byte of it ends a line

abbrev is_within : ℕ → Bool
is_within c = not (c == 10) && not (c == 13)

digit_within : (c : ℕ) → is_ascii_digit c ≡ true → is_within c ≡ true
digit_within c h = grind (arith, nat_tests, h)

digits_within : (digits : List ℕ) → list_all is_ascii_digit digits ≡ true → list_all is_within digits ≡ true
digits_within [] h = refl
digits_within (d ∷ digits) h =
    let b = both_true (is_ascii_digit d) (list_all is_ascii_digit digits) h in
    both_are (is_within d) (list_all is_within digits) (digit_within d b.0) (digits_within digits b.1)

kind_within : (kind : ScriptKind) → list_all is_within (kind_text kind) ≡ true
kind_within kinds.Locator = refl
kind_within (kinds.Line faults.Length) = refl
kind_within (kinds.Line faults.Airline) = refl
kind_within (kinds.Line faults.Number) = refl
kind_within (kinds.Line faults.Class) = refl
kind_within (kinds.Line faults.Day) = refl
kind_within (kinds.Line faults.Pair) = refl
kind_within (kinds.Line faults.Code) = refl
kind_within (kinds.Line faults.Seats) = refl
kind_within (kinds.Line faults.Tail) = refl
kind_within kinds.Memory = refl

both_within : (xs ys : List ℕ) → list_all is_within xs ≡ true → list_all is_within ys ≡ true → list_all is_within (xs ++ ys) ≡ true
both_within [] ys h k = k
both_within (x ∷ xs) ys h k =
    let b = both_true (is_within x) (list_all is_within xs) h in
    both_are (is_within x) (list_all is_within (xs ++ ys)) b.0 (both_within xs ys b.1 k)

words_within : (session : ℕ) (fault : ScriptFault) → session < 2 ^ 64 → fault.line < 2 ^ 64 → list_all is_within (words_of session fault) ≡ true
words_within session fault few small =
    let parts : list_all is_within (parts_of session fault) ≡ true = both_within (kind_text fault.kind) (32 ∷ (decimal session ++ (32 ∷ decimal fault.line))) (kind_within fault.kind) (both_within (decimal session) (32 ∷ decimal fault.line) (digits_within (decimal session) (are_digits session few)) (digits_within (decimal fault.line) (are_digits fault.line small))) in
    ap (list_all is_within) (words_are session fault) ∙ parts

-- ---- so it is a line

place_behind : (words : List ℕ) → list_all is_within words ≡ true → place_of (words ++ 10 ∷ []) ≡ length words
place_behind [] h = refl
place_behind (c ∷ words) h =
    let b = both_true (is_within c) (list_all is_within words) h in
    let no : is_line_feed c ≡ false = none c b.0 in
    let more : place_of (words ++ 10 ∷ []) ≡ length words = place_behind words b.1 in
    rw no (omega (arith, more))
  where
    none : (c : ℕ) → is_within c ≡ true → is_line_feed c ≡ false
    none c e = grind (arith, nat_tests, e)

within_at : (words : List ℕ) (i : ℕ) → list_all is_within words ≡ true → i < length words → is_within (get_or words i 0) ≡ true
within_at [] i h lt = absurd (omega (arith, lt))
within_at (c ∷ words) zero h lt = (both_true (is_within c) (list_all is_within words) h).0
within_at (c ∷ words) (suc i) h lt = within_at words i (both_true (is_within c) (list_all is_within words) h).1 (omega (arith, lt))

stays_whole : (words : List ℕ) → list_all is_within words ≡ true → strip_carriage_return words ≡ words
stays_whole [] h = refl
stays_whole (c ∷ words) h =
    let at : is_within (get_or (c ∷ words) (length (c ∷ words) - 1) 0) ≡ true = within_at (c ∷ words) (length (c ∷ words) - 1) h (omega arith) in
    let no : (get_or (c ∷ words) (length (c ∷ words) - 1) 0 == 13) ≡ false = none (get_or (c ∷ words) (length (c ∷ words) - 1) 0) at in
    rw no refl
  where
    none : (c : ℕ) → is_within c ≡ true → (c == 13) ≡ false
    none c e = grind (arith, nat_tests, e)

words_are_text : (words : List ℕ) → list_all is_within words ≡ true → text_of (words ++ 10 ∷ []) ≡ words
unfolding line_at
words_are_text words h =
    let p : place_of (words ++ 10 ∷ []) ≡ length words = place_behind words h in
    let l : length (words ++ 10 ∷ []) ≡ length words + 1 = length-append words (10 ∷ []) in
    let within : nat_lt (length words) (length (words ++ 10 ∷ [])) ≡ true = grind (arith, nat_tests, l) in
    let front : take (length words) (words ++ 10 ∷ []) ≡ words = take-append-le (length words) words (10 ∷ []) (omega arith) ∙ all words in
    rw (p, within, front) (stays_whole words h)
  where
    all : (xs : List ℕ) → take (length xs) xs ≡ xs
    all [] = refl
    all (x ∷ xs) = ap (λ (ys : List ℕ). x ∷ ys) (all xs)

first_row : (words rest : List ℕ) → list_all is_within words ≡ true → lines ((words ++ 10 ∷ []) ++ rest) ≡ words ∷ lines rest
first_row words rest h =
    let l : length (words ++ 10 ∷ []) ≡ length words + 1 = length-append words (10 ∷ []) in
    let p : place_of (words ++ 10 ∷ []) + 1 ≡ length (words ++ 10 ∷ []) = omega (arith, l, place_behind words h) in
    let some : 0 < length ((words ++ 10 ∷ []) ++ rest) = omega (arith, l, length-append (words ++ 10 ∷ []) rest) in
    lines_are ((words ++ 10 ∷ []) ++ rest) some
    ∙ ap (λ (q : List ℕ × List ℕ). q.0 ∷ lines q.1) (line_ahead (words ++ 10 ∷ []) rest p)
    ∙ ap (λ (text : List ℕ). text ∷ lines rest) (words_are_text words h)

-- ---- all rows

abbrev AreRows : List ScriptFault → Type 0
AreRows [] = Unit {0}
AreRows (fault ∷ refusals) = HasRow fault.kind × (fault.line < 2 ^ 64) × AreRows refusals

rows_are : (session : ℕ) (refusals : List ScriptFault) → session < 10 → AreRows refusals → is_list (rows_text session refusals) ≡ true
rows_are session [] few h = refl
rows_are session (fault ∷ refusals) few (kind, small, more) =
    let wide : session < 2 ^ 64 = omega (arith, few) in
    let first : lines (rows_text session (fault ∷ refusals)) ≡ words_of session fault ∷ lines (rows_text session refusals) =
    first_row (words_of session fault) (rows_text session refusals) (words_within session fault wide small) in
    let row : is_row (words_of session fault) ≡ true = ap is_row (words_are session fault) ∙ row_by fault.kind (decimal session ++ (32 ∷ decimal fault.line)) kind (place_is session fault.line few small) in
    ap (list_all is_row) first ∙ both_are (is_row (words_of session fault)) (is_list (rows_text session refusals)) row (rows_are session refusals few more)

-- ---- what is refused has a row

err_is : {a b : ScriptKind} → ◌≡◌ {A = Result Message ScriptKind} (Err a) (Err b) → a ≡ b
err_is e = cc

heading_row : (o : Option (List ℕ)) (kind : ScriptKind) → after_heading o ≡ Err kind → HasRow kind
heading_row None kind e = subst HasRow (err_is e) tt
heading_row (Some locator) kind e = absurd cc

segment_row : (locator : List ℕ) (r : Result Undated LineFault) (kind : ScriptKind) → after_segment locator r ≡ Err kind → HasRow kind
segment_row locator (Err fault) kind e = subst HasRow (err_is e) tt
segment_row locator (Ok segment) kind e = absurd cc

within_row : (b : Bool) (locator : List ℕ) (r : Result Undated LineFault) (kind : ScriptKind)
    → cond b (Ok (Some locator)) (after_segment locator r) ≡ Err kind → HasRow kind
within_row true locator r kind e = absurd cc
within_row false locator r kind e = segment_row locator r kind e

step_row : (message : Message) (text : List ℕ) (kind : ScriptKind) → step message text ≡ Err kind → HasRow kind
step_row None [] kind e = absurd cc
step_row (Some locator) [] kind e = absurd cc
step_row None (c ∷ text) kind e = heading_row (heading_at (c ∷ text)) kind e
step_row (Some locator) (c ∷ text) kind e = within_row (is_passed_over (c ∷ text)) locator (undated_at (c ∷ text)) kind e

own_rows : (message : Message) (text : List ℕ) (number : ℕ) (others : List ScriptFault) (r : Result Message ScriptKind) → step message text ≡ r
    → number < 2 ^ 64 → AreRows others → AreRows (own_refusal number (refused_for r) ++ others)
own_rows message text number others (Ok next) e small more = more
own_rows message text number others (Err kind) e small more = (step_row message text kind e, small, more)

refused_rows : (passage : Passage) (number : ℕ) (whole : List (List ℕ)) → number + length whole < 2 ^ 64 → AreRows (refusals_from passage number whole)
refused_rows passage number [] h = tt
refused_rows (Right message) number (line ∷ whole) h =
    own_rows message (text_of line) number (refusals_from (passage_behind (Right message) (text_of line)) (number + 1) whole) (step message (text_of line)) refl (omega (arith, h)) (refused_rows (passage_behind (Right message) (text_of line)) (number + 1) whole (omega (arith, h)))
refused_rows Refused number (line ∷ whole) h = refused_rows (passage_behind Refused (text_of line)) (number + 1) whole (omega (arith, h))

onto_count : (c : ℕ) (parts : List (List ℕ)) → length (onto_first c parts) ≤ length parts + 1
onto_count c [] = omega arith
onto_count c (part ∷ parts) = omega arith

by_count : (c : ℕ) (rest : List ℕ) (b : Bool) → length (whole_lines rest) ≤ length rest
    → length (cond b ((c ∷ []) ∷ whole_lines rest) (onto_first c (whole_lines rest))) ≤ length (c ∷ rest)
by_count c rest true h = omega (arith, h)
by_count c rest false h = omega (arith, h, onto_count c (whole_lines rest))

whole_count : (bytes : List ℕ) → length (whole_lines bytes) ≤ length bytes
whole_count [] = omega arith
whole_count (c ∷ rest) = by_count c rest (is_line_feed c) (whole_count rest)

pub rows_are_a_list : RowsAreAList
rows_are_a_list session bytes few small =
    rows_are session (refusals_of bytes) few (refused_rows at_start 1 (whole_lines bytes) (omega (arith, small, whole_count bytes)))
