-- A field that is read is spelled so, and what is spelled so is read.
use Rattle.std.proofs.Common.{◌≡◌, ℕ, ◌<◌, ◌≤◌, Bool, true, false, leb, eqb, ◌&&◌, List, [], ◌∷◌, ◌++◌, take, drop, Option, Some, None, refl, sym, ap, subst, ◌∙◌, IsTrue, arith, cond, ◌||◌, pos}
use Rattle.std.specs.Prelude.{IfSome}
use Rattle.std.specs.Char.{is_ascii_digit, is_ascii_uppercase}
use Rattle.std.specs.List.{prefix_len, list_all}
use Rattle.std.proofs.lemmas.Bool.{eqb-true, leb-true}
use Rattle.std.proofs.lemmas.Bool.Decides.{nat_tests}
use Rattle.std.proofs.lemmas.List.{take-append-drop}
use Rattle.jiff_core.specs.Calendar.{days_in_month, is_leap_year}
use Rattle.airline_base.specs.Days.{two_digits, month_name, day_month}
use Rattle.airline_base.specs.Fields.{suffix_text, two_are, two_value, month_of}
use Rattle.airline_base.proofs.Tests.{passed, guarded, both_true, some_is}
use Rattle.airline_base.proofs.DateLaws.{month_takes, reads_month, month_again, two_takes, two_again}
use Rattle.airimp_lines.specs.Fields.{letters_in, letters_at, in_month, day_in, day_at, is_tail}
use Rattle.airline_base.proofs.LeadingRuns.{Stops, run_all, prefix_run}
use Rattle.airimp_lines.specs.Grammar.{letters_text}

-- ---- a suffix and a class

abbrev no_letter : Option ℕ
no_letter = None

letters_in_takes : (run after : List ℕ) (suffix : Option ℕ) (class : ℕ) (rest : List ℕ)
    → list_all is_ascii_uppercase run ≡ true → letters_in run after ≡ Some ((suffix, class), rest)
    → (run ≡ suffix_text suffix ++ class ∷ []) × (after ≡ rest) × IfSome suffix (λ c. IsTrue (is_ascii_uppercase c))
    × IsTrue (is_ascii_uppercase class)
letters_in_takes [] after suffix class rest all e = absurd cc
letters_in_takes (a ∷ []) after None class rest all e =
    let k = some_is ((no_letter, a), after) ((no_letter, class), rest) e in
    let same : a ≡ class = ap (λ (x : (Option ℕ × ℕ) × List ℕ). x.0.1) k in
    let p = both_true (is_ascii_uppercase a) true all in
    (ap (λ (x : ℕ). x ∷ []) same, ap (λ (x : (Option ℕ × ℕ) × List ℕ). x.1) k, tt, rw (← same) p.0)
letters_in_takes (a ∷ []) after (Some s) class rest all e =
    let no : no_letter ≡ Some s = ap (λ (x : (Option ℕ × ℕ) × List ℕ). x.0.0) (some_is ((no_letter, a), after) ((Some s, class), rest) e) in
    absurd cc
letters_in_takes (a ∷ b ∷ []) after None class rest all e =
    let no : Some a ≡ no_letter = ap (λ (x : (Option ℕ × ℕ) × List ℕ). x.0.0) (some_is ((Some a, b), after) ((no_letter, class), rest) e) in
    absurd cc
letters_in_takes (a ∷ b ∷ []) after (Some s) class rest all e =
    let k = some_is ((Some a, b), after) ((Some s, class), rest) e in
    let outer : Some a ≡ Some s = ap (λ (x : (Option ℕ × ℕ) × List ℕ). x.0.0) k in
    let first : a ≡ s = cc in
    let second : b ≡ class = ap (λ (x : (Option ℕ × ℕ) × List ℕ). x.0.1) k in
    let third : after ≡ rest = ap (λ (x : (Option ℕ × ℕ) × List ℕ). x.1) k in
    let p = both_true (is_ascii_uppercase a) (is_ascii_uppercase b && true) all in
    let q = both_true (is_ascii_uppercase b) true p.1 in
    (rw (first, second) refl, third, rw (← first) p.0, rw (← second) q.0)
letters_in_takes (a ∷ b ∷ c ∷ run) after suffix class rest all e = absurd cc

pub letters_takes : (bytes : List ℕ) (suffix : Option ℕ) (class : ℕ) (rest : List ℕ)
    → letters_at bytes ≡ Some ((suffix, class), rest)
    → (bytes ≡ (suffix_text suffix ++ class ∷ []) ++ rest) × IfSome suffix (λ c. IsTrue (is_ascii_uppercase c))
    × IsTrue (is_ascii_uppercase class)
unfolding letters_at
letters_takes bytes suffix class rest e =
    let n = prefix_len is_ascii_uppercase bytes in
    let t = letters_in_takes (take n bytes) (drop n bytes) suffix class rest (run_all is_ascii_uppercase bytes) e in
    (rw (← t.0, ← t.1) (sym (take-append-drop n bytes)), t.2, t.3)

pub letters_again : (suffix : Option ℕ) (class : ℕ) (rest : List ℕ) → IfSome suffix (λ c. IsTrue (is_ascii_uppercase c))
    → IsTrue (is_ascii_uppercase class) → Stops is_ascii_uppercase rest
    → letters_at ((suffix_text suffix ++ class ∷ []) ++ rest) ≡ Some ((suffix, class), rest)
unfolding letters_at
letters_again None class rest s c h =
    let run : list_all is_ascii_uppercase (class ∷ []) ≡ true = rw c refl in
    rw (prefix_run is_ascii_uppercase (class ∷ []) rest run h) refl
letters_again (Some suffix) class rest s c h =
    let run : list_all is_ascii_uppercase (suffix ∷ class ∷ []) ≡ true = rw (s, c) refl in
    rw (prefix_run is_ascii_uppercase (suffix ∷ class ∷ []) rest run h) refl

-- ---- a day and a month

pub record IsDayText (text : List ℕ) (day month : ℕ) : Type 0 where
  pub written : text ≡ two_digits day ++ month_name month
  pub low : 1 ≤ month
  pub high : month ≤ 12
  pub in_month : in_month day month ≡ true

in_31 : (leap : Bool) (m d : ℕ)
    → d ≤ cond (eqb m 2) (cond leap 29 28) (cond (eqb m 4 || eqb m 6 || eqb m 9 || eqb m 11) 30 31) → d ≤ 31
in_31 leap m d h = grind (arith, nat_tests, h)

-- no month has more days than 31
month_31 : (day month : ℕ) → in_month day month ≡ true → day ≤ 31
unfolding in_month
month_31 day month h = in_31 (is_leap_year (pos 2104)) month day (leb-true day (days_in_month (pos 2104) month) (both_true (leb 1 day) (leb day (days_in_month (pos 2104) month)) h).1)

day_in_takes : (n : ℕ) (after : List ℕ) (o : Option ℕ) (day month : ℕ) (rest : List ℕ)
    → day_in n after o ≡ Some ((day, month), rest)
    → (o ≡ Some month) × (n ≡ day) × (after ≡ rest) × (in_month day month ≡ true)
day_in_takes n after None day month rest e = absurd cc
day_in_takes n after (Some m) day month rest e =
    let p = passed (in_month n m) ((n, m), after) ((day, month), rest) e in
    let d : n ≡ day = ap (λ (x : (ℕ × ℕ) × List ℕ). x.0.0) p.1 in
    let k : m ≡ month = ap (λ (x : (ℕ × ℕ) × List ℕ). x.0.1) p.1 in
    (ap (λ (x : ℕ). Some x) k, d, ap (λ (x : (ℕ × ℕ) × List ℕ). x.1) p.1, subst (λ (x : ℕ). in_month day x ≡ true) k (subst (λ (x : ℕ). in_month x m ≡ true) d p.0))

pub day_takes : (bytes : List ℕ) (day month : ℕ) (rest : List ℕ) → day_at bytes ≡ Some ((day, month), rest)
    → (text : List ℕ) × (bytes ≡ text ++ rest) × IsDayText text day month
unfolding day_at
day_takes [] day month rest e = absurd cc
day_takes (t ∷ []) day month rest e = absurd cc
day_takes (t ∷ u ∷ []) day month rest e = absurd cc
day_takes (t ∷ u ∷ a ∷ []) day month rest e = absurd cc
day_takes (t ∷ u ∷ a ∷ b ∷ []) day month rest e = absurd cc
day_takes (t ∷ u ∷ a ∷ b ∷ c ∷ after) day month rest e =
    let g = guarded (two_are t u) (day_in (two_value t u) after (month_of a b c)) ((day, month), rest) e in
    let k = day_in_takes (two_value t u) after (month_of a b c) day month rest g.1 in
    let m = month_takes a b c month k.0 in
    let front : t ∷ u ∷ [] ≡ two_digits day = sym (two_takes t u g.0) ∙ ap two_digits k.1 in
    let text : t ∷ u ∷ a ∷ b ∷ c ∷ [] ≡ two_digits day ++ month_name month = ap (λ (x : List ℕ). t ∷ u ∷ x) m.name ∙ ap (λ (x : List ℕ). x ++ month_name month) front in
    (t ∷ u ∷ a ∷ b ∷ c ∷ [], ap (λ (x : List ℕ). t ∷ u ∷ a ∷ b ∷ c ∷ x) k.2, record { written = text; low = m.low; high = m.high; in_month = k.3 })

read_again : (day month : ℕ) (name rest : List ℕ) → reads_month month name → in_month day month ≡ true
    → day_at (two_digits day ++ (name ++ rest)) ≡ Some ((day, month), rest)
unfolding day_at
read_again day month [] rest h is = absurd h
read_again day month (a ∷ []) rest h is = absurd h
read_again day month (a ∷ b ∷ []) rest h is = absurd h
read_again day month (a ∷ b ∷ c ∷ d ∷ name) rest h is = absurd h
read_again day month (a ∷ b ∷ c ∷ []) rest h is =
    let small : day < 100 = omega (arith, month_31 day month is) in
    let two = two_again day small in
    rw (two.0, two.1, h, is) refl

pub day_again : (day month : ℕ) (rest : List ℕ) → 1 ≤ month → month ≤ 12 → in_month day month ≡ true
    → day_at (two_digits day ++ (month_name month ++ rest)) ≡ Some ((day, month), rest)
day_again day month rest low high is = read_again day month (month_name month) rest (month_again month low high) is

no_digit : (c : ℕ) → is_ascii_uppercase c ≡ true → is_ascii_digit c ≡ false
no_digit c h = grind (arith, nat_tests, h)

pub letters_stop : (suffix : Option ℕ) (class : ℕ) (rest : List ℕ) → IfSome suffix (λ c. IsTrue (is_ascii_uppercase c))
    → is_ascii_uppercase class ≡ true → Stops is_ascii_digit (letters_text suffix class ++ rest)
letters_stop None class rest s c = no_digit class c
letters_stop (Some suffix) class rest s c = no_digit suffix s

pub day_stops : (day month : ℕ) (rest : List ℕ) → in_month day month ≡ true
    → Stops is_ascii_uppercase (day_month day month ++ rest)
day_stops day month rest h =
    let d : day ≤ 31 = month_31 day month h in
    grind (arith, nat_tests)

pub tail_stops : (tail : List ℕ) → is_tail tail ≡ true → Stops is_ascii_digit tail
unfolding is_tail
tail_stops [] h = tt
tail_stops (c ∷ tail) h =
    let stroke : c ≡ 47 = eqb-true c 47 (both_true (eqb c 47) _ h).0 in
    rw stroke refl
