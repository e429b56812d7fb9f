-- What a file with no damage behind its lines is where it is ended: the text of their journal.
use Rattle.std.proofs.Common.{◌≡◌, ℕ, ◌-◌, ◌^◌, ◌<◌, ◌≤◌, Bool, true, false, cond, ◌||◌, List, [], ◌∷◌, ◌++◌, length, nat_lt, codes, decimal, Option, Some, None, refl, sym, ap, ◌∙◌, arith, append_assoc, append-nil, length-append}
use Rattle.std.specs.List.{flat_map, AllByRecursion}
use Rattle.std.specs.Option.{is_some}
use Rattle.std.proofs.lemmas.Bool.Decides.{nat_tests}
use Rattle.std.proofs.lemmas.Fmt.{decimal_digit, length-decimal-le}
use Rattle.airline_base.specs.Fields.{word_at}
use Rattle.airline_base.proofs.LeadingFields.{word_again, word_takes}
use Rattle.airline_base.proofs.Tests.{second_of}
use Rattle.seat_journal.specs.declared.entry.Entry.{Entry}
use Rattle.seat_journal.specs.Text.{end_text, entry_text, head_text, journal_text, newline, IsEntry}
use Rattle.seat_nesting.specs.Nesting.{Ladders}
use Rattle.seat_recovery.specs.declared.rest.Rest.{Rest}
use Rattle.seat_recovery.specs.declared.rest.Rest.TheVariants.{NoHead, Whole, Closed, Torn, Damaged}
use Rattle.seat_recovery.specs.OpenText.{open_text}
use Rattle.seat_recovery.specs.Recovering.{HasTornHead, IsJournalOver}
use Rattle.seat_recovery.specs.Rests.{whole_lines, Stands}
use Rattle.seat_recovery.proofs.Keeping.{open_is}
use Rattle.seat_desk.specs.AuditDesk.{most_journal_bytes, most_lines}
use Rattle.seat_open.specs.Ending.{ended_lines, ended_text, ends_a_line, is_ended, is_too_long, last_line, no_lines_text, whole_part, with_end}
use Rattle.seat_open.specs.Laws.{EndedIsJournal}
use Rattle.seat_open.specs.OpenAudits.{is_damaged, most_open_bytes}
use Rattle.seat_seal.specs.Fronts.{ahead_of_last}
use Rattle.seat_open.proofs.LastLines.{end_is_line, front_is, front_of_end, last_is, no_feed, open_is_lines, open_is_opened, torn_ends, whole_ends}

-- ---- heads

pub with_head : (file w : List ℕ) → word_at head_text file ≡ Some w → ended_text file ≡ Some (ended_lines file)
with_head file w e = rw e refl

pub without_head : (file w : List ℕ) → word_at head_text file ≡ None → word_at file head_text ≡ Some w
    → ended_text file ≡ Some no_lines_text
without_head file w none e = rw (none, e) refl

has_head : (es : List Entry) (behind : List ℕ) → word_at head_text (open_text es ++ behind) ≡ Some (flat_map entry_text es ++ behind)
unfolding open_text
has_head es behind =
    ap (word_at head_text) (append_assoc head_text (flat_map entry_text es) behind) ∙ word_again head_text (flat_map entry_text es ++ behind)

no_whole_head : (file : List ℕ) (o : Option (List ℕ)) → length file < length head_text → word_at head_text file ≡ o → o ≡ None
no_whole_head file None shorter e = refl
no_whole_head file (Some w) shorter e =
    absurd (omega (arith, shorter, ap length (word_takes head_text file w e), length-append head_text w))

pub no_lines_is : journal_text [] ≡ no_lines_text
unfolding journal_text end_text
no_lines_is = ap (λ (x : List ℕ). head_text ++ ([] ++ (codes "END " ++ (x ++ newline ∷ [])))) (decimal_digit 0 (omega arith))

of_torn_head : (file : List ℕ) → HasTornHead file → ended_text file ≡ Some (journal_text [])
of_torn_head file torn =
    let none = no_whole_head file (word_at head_text file) torn.shorter refl in
    let some : word_at file head_text ≡ Some torn.begins.rest =
    ap (word_at file) torn.begins.is ∙ word_again file torn.begins.rest in
    without_head file torn.begins.rest none some ∙ ap (λ (x : List ℕ). Some x) (sym no_lines_is)

-- ---- lines

-- the text of a journal of so many lines has no more than eleven bytes more
end_is_short : (n : ℕ) → n ≤ most_lines → length (end_text n) ≤ 11
unfolding end_text
end_is_short n few =
    let digits : length (decimal n) ≤ 6 = length-decimal-le 6 n (omega arith) (omega (arith, few)) (omega (arith, few)) in
    omega (arith, digits, length-append (codes "END ") (decimal n ++ newline ∷ []), length-append (decimal n) (newline ∷ []))

not_above : (m n : ℕ) → n ≤ m → nat_lt m n ≡ false
not_above m n le = grind (arith, nat_tests, le)

neither : (a b : Bool) → a ≡ false → b ≡ false → (a || b) ≡ false
neither a b e f = rw (e, f) refl

with_end_is : (es : List Entry) → AllByRecursion IsEntry es → with_end (open_text es) ≡ journal_text es
with_end_is es each =
    let count : whole_lines (open_text es) - 1 ≡ length es = omega (arith, open_is_lines es each) in
    ap (λ (n : ℕ). open_text es ++ end_text n) count ∙ sym (open_is es)

-- a file whose whole lines are those of an open journal
of_open : (file : List ℕ) (es : List Entry) → AllByRecursion IsEntry es → length es ≤ most_lines
    → length (open_text es) ≤ most_open_bytes → whole_part file ≡ open_text es → ended_lines file ≡ journal_text es
of_open file es each few short whole =
    let not_ended : is_ended file ≡ false =
    ap (λ (x : List ℕ). is_some (word_at (codes "END ") (last_line x))) whole ∙ ap (λ (o : Option (List ℕ)). is_some o) (open_is_opened es each).no_end in
    let ended : with_end (whole_part file) ≡ journal_text es = ap with_end whole ∙ with_end_is es each in
    let long : length (journal_text es) ≤ most_journal_bytes =
    omega (arith, ap length (open_is es), length-append (open_text es) (end_text (length es)), end_is_short (length es) few, short) in
    let fits : is_too_long file ≡ false =
    ap (λ (x : List ℕ). nat_lt most_journal_bytes (length x)) ended ∙ not_above most_journal_bytes (length (journal_text es)) long in
    second_of (is_ended file || is_too_long file) file (with_end (whole_part file)) (neither (is_ended file) (is_too_long file) not_ended fits) ∙ ended

first_of : {A : Type 0} (b : Bool) (x y : A) → b ≡ true → cond b x y ≡ x
first_of true x y h = refl
first_of false x y h = absurd cc

either : (a b : Bool) → a ≡ true → (a || b) ≡ true
either a b e = rw e refl

whole_is : (file : List ℕ) → ends_a_line file ≡ true → whole_part file ≡ file
whole_is file ends = rw ends refl

end_begins : (n : ℕ) → is_some (word_at (codes "END ") (end_text n)) ≡ true
unfolding end_text
end_begins n = refl

-- a file that a clean stop ended
of_closed : (file : List ℕ) (es : List Entry) → AllByRecursion IsEntry es → length es ≤ most_lines
    → file ≡ open_text es ++ end_text (length es) → ended_lines file ≡ journal_text es
of_closed file es each few text =
    let small : length es < 2 ^ 64 = omega (arith, few) in
    let line = end_is_line (length es) small in
    let ends : ends_a_line file ≡ true =
    whole_ends file (open_text es ++ line.0, text ∙ ap (λ (x : List ℕ). open_text es ++ x) line.1.0 ∙ sym (append_assoc (open_text es) line.0 (newline ∷ []))) in
    let last : last_line (whole_part file) ≡ end_text (length es) =
    ap last_line (whole_is file ends ∙ text) ∙ last_is (open_text es) (end_text (length es)) (front_of_end es (length es) each small) in
    let ended : is_ended file ≡ true = ap (λ (x : List ℕ). is_some (word_at (codes "END ") x)) last ∙ end_begins (length es) in
    first_of (is_ended file || is_too_long file) file (with_end (whole_part file)) (either (is_ended file) (is_too_long file) ended)
    ∙ text ∙ sym (open_is es)

of_whole : (file : List ℕ) (es : List Entry) → AllByRecursion IsEntry es → length es ≤ most_lines
    → length file ≤ most_open_bytes → file ≡ open_text es → ended_lines file ≡ journal_text es
of_whole file es each few short text =
    let ends : ends_a_line file ≡ true = ap ends_a_line text ∙ whole_ends (open_text es) (open_is_opened es each).ends in
    of_open file es each few (omega (arith, short, ap length text)) (whole_is file ends ∙ text)

of_torn : (file : List ℕ) (es : List Entry) (rest : List ℕ) → AllByRecursion IsEntry es → length es ≤ most_lines
    → length file ≤ most_open_bytes → file ≡ open_text es ++ rest → 0 < length rest → whole_lines rest ≡ 0
    → ended_lines file ≡ journal_text es
of_torn file es rest each few short text some none =
    let ends : ends_a_line file ≡ false = ap ends_a_line text ∙ torn_ends (open_text es) rest some none in
    let whole : whole_part file ≡ open_text es = rw ends (ap ahead_of_last text ∙ front_is (open_text es) rest (open_is_opened es each).ends some (λ i lt. no_feed rest i none (omega (arith, lt)))) in
    of_open file es each few (omega (arith, short, ap length text, length-append (open_text es) rest)) whole

-- ---- by what stands behind the lines

goes_on : (file : List ℕ) (es : List Entry) (behind : List ℕ) → file ≡ open_text es ++ behind
    → ended_lines file ≡ journal_text es → ended_text file ≡ Some (journal_text es)
goes_on file es behind text ended =
    with_head file (flat_map entry_text es ++ behind) (ap (word_at head_text) text ∙ has_head es behind) ∙ ap (λ (x : List ℕ). Some x) ended

by_rest : (grid : Ladders) (cap : ℕ) (file : List ℕ) (es : List Entry) (len : ℕ) (rest : Rest) → cap ≤ most_lines
    → length file ≤ most_open_bytes → IsJournalOver grid cap es → Stands grid cap file es len rest → is_damaged rest ≡ false
    → ended_text file ≡ Some (journal_text es)
by_rest grid cap file es len NoHead most short j h not =
    of_torn_head file h.2 ∙ ap (λ (l : List Entry). Some (journal_text l)) (sym h.0)
by_rest grid cap file es len Whole most short j h not =
    let text : file ≡ open_text es = h.text ∙ ap (λ (x : List ℕ). open_text es ++ x) h.is ∙ append-nil (open_text es) in
    goes_on file es h.behind h.text (of_whole file es j.each (omega (arith, most, j.few)) short text)
by_rest grid cap file es len Closed most short j h not =
    goes_on file es h.behind h.text (of_closed file es j.each (omega (arith, most, j.few)) (h.text ∙ ap (λ (x : List ℕ). open_text es ++ x) h.is))
by_rest grid cap file es len Torn most short j h not =
    goes_on file es h.behind h.text (of_torn file es h.behind j.each (omega (arith, most, j.few)) short h.text h.is.some h.is.unended)
by_rest grid cap file es len (Damaged d) most short j h not = absurd (cc not)

pub ended_is_journal : EndedIsJournal
ended_is_journal grid cap file lines most short u =
    by_rest grid cap file lines u.len u.rest most short u.recovered.journal u.stands u.undamaged
