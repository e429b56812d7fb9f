-- The lines of a text: how many end in it, and where the last one begins.
use Rattle.std.proofs.Common.{◌≡◌, ℕ, zero, suc, ◌+◌, ◌-◌, ◌^◌, ◌<◌, Bool, true, false, not, cond, List, [], ◌∷◌, ◌++◌, length, take, drop, get_or, codes, decimal, None, refl, sym, ap, subst, ◌∙◌, arith, rules, append_assoc, append-nil, length-append}
use Rattle.std.specs.Char.{is_ascii_digit}
use Rattle.std.specs.List.{flat_map, list_all, AllByRecursion}
use Rattle.std.specs.Str.Parse.{digits_value}
use Rattle.std.proofs.Math.Seq.{take-append_seam, get_or-append_seam}
use Rattle.std.proofs.lemmas.Bool.Decides.{nat_tests}
use Rattle.std.proofs.lemmas.Fmt.{digits_decimal}
use Rattle.std.proofs.lemmas.List.{drop_at, get_or_append_left, get_or-append-add}
use Rattle.std.proofs.lemmas.Str.Parse.{IsNumeralModel, numerals_by_value}
use Rattle.airline_base.specs.Fields.{word_at}
use Rattle.airline_base.specs.Lines.{is_line_feed}
use Rattle.airline_base.proofs.Tests.{both_true}
use Rattle.seat_journal.specs.declared.entry.Entry.{Entry}
use Rattle.seat_journal.specs.Text.{end_text, entry_text, head_text, newline, IsEntry}
use Rattle.seat_seal.specs.Fronts.{behind_last, ahead_of_last}
use Rattle.seat_recovery.specs.OpenText.{open_text}
use Rattle.seat_recovery.specs.Rests.{whole_lines}
use Rattle.seat_recovery.proofs.Ends.{line_ends, line_of, line_unended, lines_cons, lines_join, not_end}
use Rattle.seat_open.specs.Ending.{ends_a_line, last_line}

-- ---- bytes in which no line ends

-- whether a line ends with this byte
abbrev ends : ℕ → ℕ
ends c = cond (is_line_feed c) 1 0

by_first : (c : ℕ) (bytes : List ℕ) (b : Bool) → is_line_feed c ≡ b → whole_lines (c ∷ bytes) ≡ 0 → is_line_feed c ≡ false
by_first c bytes true e none =
    let one : ends c ≡ 1 = ap (λ (x : Bool). cond {A = ℕ} x 1 0) e in
    absurd (omega (arith, none, lines_cons c bytes, one))
by_first c bytes false e none = e

-- none of them is an LF
pub no_feed : (bytes : List ℕ) (i : ℕ) → whole_lines bytes ≡ 0 → i < length bytes → is_line_feed (get_or bytes i 0) ≡ false
no_feed [] i none lt = absurd (omega arith)
no_feed (c ∷ bytes) zero none lt = by_first c bytes (is_line_feed c) refl none
no_feed (c ∷ bytes) (suc i) none lt = no_feed bytes i (omega (arith, none, lines_cons c bytes)) (omega arith)

-- and where none is, no line ends
pub none_ends : (bytes : List ℕ) → ((i : ℕ) → i < length bytes → is_line_feed (get_or bytes i 0) ≡ false) → whole_lines bytes ≡ 0
none_ends [] none = refl
none_ends (c ∷ bytes) none =
    let here : ends c ≡ 0 = ap (λ (x : Bool). cond {A = ℕ} x 1 0) (none 0 (omega arith)) in
    let more : whole_lines bytes ≡ 0 = none_ends bytes (λ i lt. none (suc i) (omega (arith, lt))) in
    omega (arith, lines_cons c bytes, here, more)

all_end_none : (p : ℕ → Bool) → ((c : ℕ) → p c ≡ true → is_line_feed c ≡ false) → (bytes : List ℕ) → list_all p bytes ≡ true
    → whole_lines bytes ≡ 0
all_end_none p other [] all = refl
all_end_none p other (c ∷ bytes) all =
    let both = both_true (p c) (list_all p bytes) all in
    let here : ends c ≡ 0 = ap (λ (x : Bool). cond {A = ℕ} x 1 0) (other c both.0) in
    omega (arith, lines_cons c bytes, here, all_end_none p other bytes both.1)

-- ---- where the last line begins

-- behind as many bytes more among which there is no LF
same_line : (text : List ℕ) (at more : ℕ) → ((i : ℕ) → i < more → is_line_feed (get_or text (at + i) 0) ≡ false)
    → behind_last text (at + more) ≡ behind_last text at
same_line text at zero none = ap (behind_last text) (omega arith)
same_line text at (suc more) none =
    let next : at + suc more ≡ suc (at + more) = omega arith in
    let ahead : behind_last text (at + more) ≡ behind_last text at = same_line text at more (λ i lt. none i (omega (arith, lt))) in
    ap (behind_last text) next ∙ rw (none more (omega arith)) ahead

-- behind an LF
begins : (front rest : List ℕ) → behind_last ((front ++ newline ∷ []) ++ rest) (length front + 1) ≡ length front + 1
begins front rest =
    let text : List ℕ = (front ++ newline ∷ []) ++ rest in
    let next : length front + 1 ≡ suc (length front) = omega arith in
    let here : get_or text (length front) 0 ≡ newline =
    ap (λ (xs : List ℕ). get_or xs (length front) 0) (append_assoc front (newline ∷ []) rest) ∙ get_or-append_seam front newline rest 0 in
    ap (behind_last text) next ∙ rw here (sym next)

-- a text whose last byte is an LF
abbrev pub EndsLine : List ℕ → Type 0
EndsLine text = (front : List ℕ) × (text ≡ front ++ newline ∷ [])

-- behind whole lines stands a last one, with no LF ahead of its last byte
pub front_is : (whole last : List ℕ) → EndsLine whole → 0 < length last
    → ((i : ℕ) → i < length last - 1 → is_line_feed (get_or last i 0) ≡ false) → ahead_of_last (whole ++ last) ≡ whole
front_is whole last ends some none =
    let text : List ℕ = whole ++ last in
    let long : length whole ≡ length ends.0 + 1 = ap length ends.1 ∙ length-append ends.0 (newline ∷ []) in
    let all : length text - 1 ≡ length whole + (length last - 1) = omega (arith, length-append whole last, some) in
    let between : (i : ℕ) → i < length last - 1 → is_line_feed (get_or text (length whole + i) 0) ≡ false =
    λ i lt. ap is_line_feed (get_or-append-add whole last i 0) ∙ none i lt in
    let first : behind_last text (length whole) ≡ length whole =
    ap (λ (n : ℕ). behind_last text n) long ∙ ap (λ (xs : List ℕ). behind_last (xs ++ last) (length ends.0 + 1)) ends.1 ∙ begins ends.0 last ∙ sym long in
    let start : behind_last text (length text - 1) ≡ length whole =
    ap (behind_last text) all ∙ same_line text (length whole) (length last - 1) between ∙ first in
    ap (λ (n : ℕ). take n text) start ∙ take-append_seam whole last

pub last_is : (whole last : List ℕ) → ahead_of_last (whole ++ last) ≡ whole → last_line (whole ++ last) ≡ last
last_is whole last front = ap (λ (xs : List ℕ). drop (length xs) (whole ++ last)) front ∙ drop_at whole last (length whole) refl

-- a line with its LF
abbrev IsLine : List ℕ → Type 0
IsLine line = (text : List ℕ) × ((line ≡ text ++ newline ∷ []) × (whole_lines text ≡ 0))

one_line : (line : List ℕ) → IsLine line → whole_lines line ≡ 1
one_line line is =
    let last : whole_lines (newline ∷ []) ≡ 1 = refl in
    omega (arith, ap whole_lines is.1.0, lines_join is.0 (newline ∷ []), is.1.1, last)

front_of_line : (whole line : List ℕ) → EndsLine whole → IsLine line → ahead_of_last (whole ++ line) ≡ whole
front_of_line whole line ends is =
    let long : length line ≡ length is.0 + 1 = ap length is.1.0 ∙ length-append is.0 (newline ∷ []) in
    front_is whole line ends (omega (arith, long))
    (λ i lt. ap (λ (xs : List ℕ). is_line_feed (get_or xs i 0)) is.1.0 ∙ ap is_line_feed (get_or_append_left is.0 (newline ∷ []) 0 i (omega (arith, lt, long))) ∙ no_feed is.0 i is.1.1 (omega (arith, lt, long)))

-- ---- whether the last line ends

pub whole_ends : (text : List ℕ) → EndsLine text → ends_a_line text ≡ true
whole_ends text ends =
    let at : length text - 1 ≡ length ends.0 = omega (arith, ap length ends.1, length-append ends.0 (newline ∷ [])) in
    let byte : get_or text (length text - 1) 0 ≡ newline =
    ap (get_or text (length text - 1)) refl ∙ ap (λ (n : ℕ). get_or text n 0) at ∙ ap (λ (xs : List ℕ). get_or xs (length ends.0) 0) ends.1 ∙ get_or-append_seam ends.0 newline [] 0 in
    ap is_line_feed byte

pub torn_ends : (whole rest : List ℕ) → 0 < length rest → whole_lines rest ≡ 0 → ends_a_line (whole ++ rest) ≡ false
torn_ends whole rest some none =
    let at : length (whole ++ rest) - 1 ≡ length whole + (length rest - 1) = omega (arith, length-append whole rest, some) in
    ap (λ (n : ℕ). is_line_feed (get_or (whole ++ rest) n 0)) at ∙ ap is_line_feed (get_or-append-add whole rest (length rest - 1) 0)
    ∙ no_feed rest (length rest - 1) none (omega (arith, some))

-- ---- the lines of a journal

own : IsNumeralModel (λ ds. list_all is_ascii_digit ds ≡ true) (digits_value 10)
own = numerals_by_value _ (search rules)

digit_is_none : (c : ℕ) → is_ascii_digit c ≡ true → is_line_feed c ≡ false
digit_is_none c is = grind (arith, nat_tests, is)

-- the END line, and it begins as one does
pub end_is_line : (n : ℕ) → n < 2 ^ 64 → IsLine (end_text n)
unfolding end_text
end_is_line n small =
    let word : whole_lines (codes "END ") ≡ 0 = refl in
    let digits : whole_lines (decimal n) ≡ 0 = all_end_none is_ascii_digit digit_is_none (decimal n) (digits_decimal own n small) in
    (codes "END " ++ decimal n, (sym (append_assoc (codes "END ") (decimal n) (newline ∷ [])), omega (arith, lines_join (codes "END ") (decimal n), word, digits)))

pub end_is_one : (n : ℕ) → n < 2 ^ 64 → whole_lines (end_text n) ≡ 1
end_is_one n small = one_line (end_text n) (end_is_line n small)

not_feed : (c : ℕ) (b : Bool) → is_line_feed c ≡ b → not b ≡ true → is_line_feed c ≡ false
not_feed c true e goes = absurd cc
not_feed c false e goes = e

entry_is_line : (e : Entry) → IsEntry e → IsLine (entry_text e)
entry_is_line e is =
    (line_of e, (line_ends e, all_end_none (λ c. not (is_line_feed c)) (λ c goes. not_feed c (is_line_feed c) refl goes) (line_of e) (line_unended e is).all))

entries_are : (es : List Entry) → AllByRecursion IsEntry es → whole_lines (flat_map entry_text es) ≡ length es
entries_are [] each = refl
entries_are (e ∷ es) each =
    omega (arith, lines_join (entry_text e) (flat_map entry_text es), one_line (entry_text e) (entry_is_line e each.0), entries_are es each.1)

pub open_is_lines : (es : List Entry) → AllByRecursion IsEntry es → whole_lines (open_text es) ≡ length es + 1
unfolding open_text
open_is_lines es each =
    let head : whole_lines head_text ≡ 1 = refl in
    omega (arith, lines_join head_text (flat_map entry_text es), head, entries_are es each)

-- whole lines of which the last is no END line
pub record IsOpened (text : List ℕ) : Type 0 where
  pub ends : EndsLine text
  pub no_end : word_at (codes "END ") (last_line text) ≡ None

opened_more : (text : List ℕ) (e : Entry) → IsEntry e → IsOpened text → IsOpened (text ++ entry_text e)
opened_more text e is opened =
    let front = front_of_line text (entry_text e) opened.ends (entry_is_line e is) in
    let last : last_line (text ++ entry_text e) ≡ entry_text e ++ [] = last_is text (entry_text e) front ∙ sym (append-nil (entry_text e)) in
    record {
      ends = (text ++ line_of e, ap (λ (x : List ℕ). text ++ x) (line_ends e) ∙ sym (append_assoc text (line_of e) (newline ∷ [])));
      no_end = ap (word_at (codes "END ")) last ∙ not_end e [] is;
    }

opened_all : (text : List ℕ) (es : List Entry) → AllByRecursion IsEntry es → IsOpened text → IsOpened (text ++ flat_map entry_text es)
opened_all text [] each opened = subst IsOpened (sym (append-nil text)) opened
opened_all text (e ∷ es) each opened =
    subst IsOpened (append_assoc text (entry_text e) (flat_map entry_text es))
    (opened_all (text ++ entry_text e) es each.1 (opened_more text e each.0 opened))

head_is_opened : IsOpened head_text
head_is_opened = record { ends = (codes "SEATJOURNAL 2", refl); no_end = refl }

pub open_is_opened : (es : List Entry) → AllByRecursion IsEntry es → IsOpened (open_text es)
unfolding open_text
open_is_opened es each = opened_all head_text es each head_is_opened

-- behind an open journal stands its END line
pub front_of_end : (es : List Entry) (n : ℕ) → AllByRecursion IsEntry es → n < 2 ^ 64 → ahead_of_last (open_text es ++ end_text n) ≡ open_text es
front_of_end es n each small = front_of_line (open_text es) (end_text n) (open_is_opened es each).ends (end_is_line n small)
