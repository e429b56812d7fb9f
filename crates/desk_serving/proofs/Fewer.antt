-- The lines that a look at a journal's text finds are no fewer than its entries.
use Rattle.std.proofs.Common.{◌≡◌, ℕ, suc, ◌+◌, ◌^◌, ◌<◌, ◌≤◌, ◌==◌, Bool, true, false, List, [], ◌∷◌, ◌++◌, length, decimal, refl, ap, sym, ◌∙◌, subst, arith, rules, append_assoc}
use Rattle.std.specs.Prelude.{nat_lt, if◌then◌else◌, IsTrue}
use Rattle.std.specs.Char.{is_ascii_digit}
use Rattle.std.specs.List.{flat_map, list_all, AllByRecursion}
use Rattle.std.specs.Str.Parse.{digits_value}
use Rattle.std.proofs.lemmas.Bool.Decides.{nat_tests}
use Rattle.std.proofs.lemmas.Fmt.{decimal_nonempty, digits_decimal}
use Rattle.std.proofs.lemmas.Str.Parse.{IsNumeralModel, numerals_by_value}
use Rattle.airline_base.proofs.Tests.{both_true}
use Rattle.desk_serving.specs.Opening.{entries_in, is_entry, one_if}
use Rattle.seat_journal.specs.declared.entry.Entry.{Entry}
use Rattle.seat_journal.specs.Text.{advice_text, entry_text, head_text, stem_text, IsEntry}
use Rattle.seat_recovery.specs.OpenText.{lines_text, open_text}
use Rattle.seat_rules.specs.Prefixes.{Begins}

own : IsNumeralModel (λ ds. list_all is_ascii_digit ds ≡ true) (digits_value 10)
own = numerals_by_value _ (search rules)

one_more : (opens : Bool) (m n : ℕ) → m ≤ n → m ≤ one_if opens n
one_more true m n le = omega (arith, le)
one_more false m n le = le

either : (b : Bool) (n x y : ℕ) → n ≤ x → n ≤ y → n ≤ (if b then x else y)
either true n x y one two = one
either false n x y one two = two

-- behind an LF there are no more than ahead of it
no_more : (begins opens : Bool) (body rest : List ℕ) → entries_in true false rest ≤ entries_in begins opens (body ++ 10 ∷ rest)
no_more begins opens [] rest = one_more (is_entry begins opens 10) (entries_in true false rest) (entries_in true false rest) (omega arith)
no_more begins opens (c ∷ body) rest =
    either (c == 10) (entries_in true false rest) (one_if (is_entry begins opens c) (entries_in true false (body ++ 10 ∷ rest)))
    (entries_in false (is_entry begins opens c) (body ++ 10 ∷ rest))
    (one_more (is_entry begins opens c) (entries_in true false rest) (entries_in true false (body ++ 10 ∷ rest)) (no_more true false body rest))
    (no_more false (is_entry begins opens c) body rest)

-- in an entry's line there is one more
within : (body rest : List ℕ) → suc (entries_in true false rest) ≤ entries_in false true (body ++ 10 ∷ rest)
within [] rest = omega arith
within (c ∷ body) rest =
    either (c == 10) (suc (entries_in true false rest)) (suc (entries_in true false (body ++ 10 ∷ rest))) (entries_in false true (body ++ 10 ∷ rest))
    (omega (arith, no_more true false body rest)) (within body rest)

no_end : (d : ℕ) → is_ascii_digit d ≡ true → (d == 10) ≡ false
no_end d digit = by (d == 10) refl
  where
    by : (b : Bool) → (d == 10) ≡ b → b ≡ false
    by true e =
        let same : d ≡ 10 = grind (arith, nat_tests, e) in
        let wrong : false ≡ true = subst (λ (n : ℕ). is_ascii_digit n ≡ true) same digit in
        absurd (cc wrong)
    by false e = refl

at_digit : (d : ℕ) (body rest : List ℕ) → is_ascii_digit d ≡ true → suc (entries_in true false rest) ≤ entries_in true false (d ∷ (body ++ 10 ∷ rest))
at_digit d body rest digit =
    subst (λ (b : Bool). suc (entries_in true false rest)
    ≤ (if b then one_if (is_ascii_digit d) (entries_in true false (body ++ 10 ∷ rest)) else entries_in false (is_ascii_digit d) (body ++ 10 ∷ rest)))
    (sym (no_end d digit))
    (subst (λ (o : Bool). suc (entries_in true false rest) ≤ entries_in false o (body ++ 10 ∷ rest)) (sym digit) (within body rest))

by_number : (run more rest : List ℕ) → list_all is_ascii_digit run ≡ true → 0 < length run
    → suc (entries_in true false rest) ≤ entries_in true false (run ++ (more ++ 10 ∷ rest))
by_number [] more rest all some = absurd (omega (arith, some))
by_number (d ∷ run) more rest all some =
    subst (λ (l : List ℕ). suc (entries_in true false rest) ≤ entries_in true false (d ∷ l)) (append_assoc run more (10 ∷ rest))
    (at_digit d (run ++ more) rest (both_true (is_ascii_digit d) (list_all is_ascii_digit run) all).0)

from_number : (a b c rest : List ℕ) → ((a ++ b) ++ (c ++ 10 ∷ [])) ++ rest ≡ a ++ ((b ++ c) ++ 10 ∷ rest)
from_number a b c rest = simp append_assoc

shaped : (a b c line rest : List ℕ) → line ≡ (a ++ b) ++ (c ++ 10 ∷ []) → list_all is_ascii_digit a ≡ true → 0 < length a
    → suc (entries_in true false rest) ≤ entries_in true false (line ++ rest)
shaped a b c line rest is all some =
    subst (λ (l : List ℕ). suc (entries_in true false rest) ≤ entries_in true false l)
    (sym (ap (λ (l : List ℕ). l ++ rest) is ∙ from_number a b c rest)) (by_number a (b ++ c) rest all some)

entry_more : (e : Entry) (rest : List ℕ) → IsEntry e → suc (entries_in true false rest) ≤ entries_in true false (entry_text e ++ rest)
unfolding entry_text stem_text
entry_more e rest is =
    let small : e.number < 2 ^ 64 = omega (arith, is.stem.number) in
    shaped (decimal e.number) _ (flat_map advice_text e.advices) (entry_text e) rest refl (digits_decimal own e.number small)
    (decimal_nonempty e.number small)

lines_more : (entries : List Entry) (rest : List ℕ) → AllByRecursion IsEntry entries → length entries ≤ entries_in true false (lines_text entries ++ rest)
lines_more [] rest are = omega arith
lines_more (e ∷ entries) rest are =
    subst (λ (l : List ℕ). suc (length entries) ≤ entries_in true false l) (sym (append_assoc (entry_text e) (lines_text entries) rest))
    (omega (arith, lines_more entries rest are.1, entry_more e (lines_text entries ++ rest) are.0))

-- a journal that a text begins with has no more entries
pub few_entries : (text : List ℕ) (lines : ℕ) (b : Bool) → b ≡ nat_lt (entries_in false false text) lines → IsTrue b → (entries : List Entry)
    → AllByRecursion IsEntry entries → Begins (open_text entries) text → length entries < lines
unfolding open_text
few_entries text lines true is fewer entries are begins =
    let under : entries_in false false text < lines = grind (arith, nat_tests, sym is) in
    let whole : text ≡ head_text ++ (lines_text entries ++ begins.rest) = begins.is ∙ append_assoc head_text (lines_text entries) begins.rest in
    let found : length entries ≤ entries_in false false (head_text ++ (lines_text entries ++ begins.rest)) = lines_more entries begins.rest are in
    let fewest : length entries ≤ entries_in false false text =
    subst (λ (l : List ℕ). length entries ≤ entries_in false false l) (sym whole) found in
    omega (arith, under, fewest)
few_entries text lines false is fewer entries are begins = absurd (cc fewer)
