-- A date that is read is written so, and what is written so is read.
use Rattle.std.proofs.Common.{◌≡◌, ◌∙◌, ap, sym, refl, ℕ, ◌+◌, ◌-◌, ◌/◌, ◌%◌, ◌<◌, ◌&&◌, true, Bool, eqb, List, [], ◌∷◌, ◌++◌, Some, arith, codes}
use Rattle.std.proofs.lemmas.Bool.{eqb-true}
use Rattle.airline_base.specs.Fields.{two_are, two_value}
use Rattle.airline_base.specs.Days.{civil_in, two_digits}
use Rattle.airline_base.proofs.DateLaws.{civil_again, civil_takes, two_again, two_small, two_takes, short_month}
use Rattle.airline_base.proofs.Tests.{both_are, both_true, guarded, kept}
use Rattle.seat_words.specs.DayWords.{IsDateWord, date_text, date_word_in}

-- ---- dates

-- the marks of a date of this century, and its digits
abbrev has_marks : ℕ → ℕ → ℕ → ℕ → Bool
has_marks c e g h = eqb c 50 && eqb e 48 && eqb g 45 && eqb h 45

marks_are : (c e g h : ℕ) → has_marks c e g h ≡ true → (c ≡ 50) × (e ≡ 48) × (g ≡ 45) × (h ≡ 45)
marks_are c e g h marks =
    let third = both_true (eqb c 50 && eqb e 48 && eqb g 45) (eqb h 45) marks in
    let second = both_true (eqb c 50 && eqb e 48) (eqb g 45) third.0 in
    let first = both_true (eqb c 50) (eqb e 48) second.0 in
    (eqb-true c 50 first.0, eqb-true e 48 first.1, eqb-true g 45 second.1, eqb-true h 45 third.1)

marked : (c d g h y z m o t u : ℕ) → c ≡ 50 → d ≡ 48 → g ≡ 45 → h ≡ 45
    → 50 ∷ 48 ∷ y ∷ z ∷ 45 ∷ m ∷ o ∷ 45 ∷ t ∷ u ∷ [] ≡ c ∷ d ∷ y ∷ z ∷ g ∷ m ∷ o ∷ h ∷ t ∷ u ∷ []
marked c d g h y z m o t u p q r s = rw (p, q, r, s) refl

century_of : (y : ℕ) → y < 100 → two_digits ((2000 + y) / 100) ++ two_digits ((2000 + y) % 100) ≡ 50 ∷ 48 ∷ two_digits y
century_of y small =
    let tens : (2000 + y) / 100 ≡ 20 = omega arith in
    let units : (2000 + y) % 100 ≡ y = omega arith in
    rw (tens, units) refl

pub date_takes : (word : List ℕ) (n : ℕ) → date_word_in word ≡ Some n → IsDateWord word n
unfolding date_word_in
date_takes [] n e = absurd cc
date_takes (c ∷ []) n e = absurd cc
date_takes (c ∷ d ∷ []) n e = absurd cc
date_takes (c ∷ d ∷ y ∷ []) n e = absurd cc
date_takes (c ∷ d ∷ y ∷ z ∷ []) n e = absurd cc
date_takes (c ∷ d ∷ y ∷ z ∷ g ∷ []) n e = absurd cc
date_takes (c ∷ d ∷ y ∷ z ∷ g ∷ m ∷ []) n e = absurd cc
date_takes (c ∷ d ∷ y ∷ z ∷ g ∷ m ∷ o ∷ []) n e = absurd cc
date_takes (c ∷ d ∷ y ∷ z ∷ g ∷ m ∷ o ∷ h ∷ []) n e = absurd cc
date_takes (c ∷ d ∷ y ∷ z ∷ g ∷ m ∷ o ∷ h ∷ t ∷ []) n e = absurd cc
date_takes (c ∷ d ∷ y ∷ z ∷ g ∷ m ∷ o ∷ h ∷ t ∷ u ∷ []) n e =
    let p = guarded (has_marks c d g h && (two_are y z && (two_are m o && two_are t u))) (civil_in (2000 + two_value y z) (two_value m o) (two_value t u)) n e in
    let q = both_true (has_marks c d g h) (two_are y z && (two_are m o && two_are t u)) p.0 in
    let r = both_true (two_are y z) (two_are m o && two_are t u) q.1 in
    let s = both_true (two_are m o) (two_are t u) r.1 in
    let marks = marks_are c d g h q.0 in
    let small = two_small y z r.0 in
    let year = 2000 + two_value y z in
    let text : date_text year (two_value m o) (two_value t u) ≡ c ∷ d ∷ y ∷ z ∷ g ∷ m ∷ o ∷ h ∷ t ∷ u ∷ [] =
    ap (λ (x : List ℕ). x ++ codes "-" ++ two_digits (two_value m o) ++ codes "-" ++ two_digits (two_value t u)) (century_of (two_value y z) small)
    ∙ ap (λ (x : List ℕ). (50 ∷ 48 ∷ x) ++ codes "-" ++ two_digits (two_value m o) ++ codes "-" ++ two_digits (two_value t u)) (two_takes y z r.0)
    ∙ ap (λ (x : List ℕ). (50 ∷ 48 ∷ y ∷ z ∷ []) ++ codes "-" ++ x ++ codes "-" ++ two_digits (two_value t u)) (two_takes m o s.0)
    ∙ ap (λ (x : List ℕ). 50 ∷ 48 ∷ y ∷ z ∷ 45 ∷ m ∷ o ∷ 45 ∷ x) (two_takes t u s.1)
    ∙ marked c d g h y z m o t u marks.0 marks.1 marks.2 marks.3 in
    record {
      year = year;
      month = two_value m o;
      day = two_value t u;
      date = civil_takes (two_value y z) (two_value m o) (two_value t u) n small p.1;
      first = omega arith;
      last = omega arith;
      written = sym text;
    }
date_takes (c ∷ d ∷ y ∷ z ∷ g ∷ m ∷ o ∷ h ∷ t ∷ u ∷ k ∷ word) n e = absurd cc

date_of : (y m d : ℕ) → y < 100 → m < 100 → d < 100
    → date_word_in (50 ∷ 48 ∷ two_digits y ++ 45 ∷ two_digits m ++ 45 ∷ two_digits d) ≡ civil_in (2000 + y) m d
unfolding date_word_in
date_of y m d a b c =
    let p = two_again y a in
    let q = two_again m b in
    let r = two_again d c in
    kept (two_are (48 + y / 10) (48 + y % 10) && (two_are (48 + m / 10) (48 + m % 10) && two_are (48 + d / 10) (48 + d % 10)))
    (civil_in (2000 + two_value (48 + y / 10) (48 + y % 10)) (two_value (48 + m / 10) (48 + m % 10)) (two_value (48 + d / 10) (48 + d % 10)))
    (both_are _ _ p.0 (both_are _ _ q.0 r.0))
    ∙ ap (λ (i : ℕ). civil_in (2000 + i) (two_value (48 + m / 10) (48 + m % 10)) (two_value (48 + d / 10) (48 + d % 10))) p.1
    ∙ ap (λ (i : ℕ). civil_in (2000 + y) i (two_value (48 + d / 10) (48 + d % 10))) q.1
    ∙ ap (λ (i : ℕ). civil_in (2000 + y) m i) r.1

pub date_again : (word : List ℕ) (n : ℕ) → IsDateWord word n → date_word_in word ≡ Some n
date_again word n h =
    let civil = h.date.0 in
    let low = h.first in
    let high = h.last in
    let y = h.year - 2000 in
    let small : y < 100 = omega arith in
    let year : h.year ≡ 2000 + y = omega arith in
    let day : h.day < 100 = short_month _ h.month h.day civil.2.1 in
    let month : h.month < 100 = omega (arith, civil.1.1) in
    let text : date_text h.year h.month h.day ≡ 50 ∷ 48 ∷ two_digits y ++ 45 ∷ two_digits h.month ++ 45 ∷ two_digits h.day =
    ap (λ (x : ℕ). date_text x h.month h.day) year ∙ ap (λ (x : List ℕ). x ++ codes "-" ++ two_digits h.month ++ codes "-" ++ two_digits h.day) (century_of y small) in
    ap date_word_in (h.written ∙ text) ∙ date_of y h.month h.day small month day
    ∙ ap (λ (x : ℕ). civil_in x h.month h.day) (sym year) ∙ civil_again h.year h.month h.day n h.date
