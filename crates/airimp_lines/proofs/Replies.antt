-- The text of a reply is a segment line.
use Rattle.std.proofs.Common.{◌≡◌, ℕ, ◌+◌, ◌%◌, ◌^◌, ◌<◌, ◌≤◌, true, List, [], ◌∷◌, ◌++◌, length, take, Option, Some, None, refl, sym, ap, ◌∙◌, arith, decimal, append_assoc}
use Rattle.std.specs.Char.{is_ascii_digit}
use Rattle.std.specs.List.{list_all}
use Rattle.std.proofs.lemmas.Bool.Decides.{nat_tests}
use Rattle.std.proofs.lemmas.Fmt.{length-decimal-le, decimal_by_steps, decimal_is_IsNumeral, decimal_nonempty}
use Rattle.std.proofs.lemmas.List.{append-nil, take_at, length-append}
use Rattle.std.proofs.lemmas.List.Folds.{list_all-append}
use Rattle.airline_base.specs.Names.{is_code}
use Rattle.airline_base.specs.Days.{day_month, two_digits, month_name}
use Rattle.airline_base.proofs.Years.{same_parts}
use Rattle.airimp_lines.specs.Fields.{is_tail}
use Rattle.airimp_lines.specs.declared.segment.Segment.{Segment}
use Rattle.airline_base.specs.Fields.{IsNumberText}
use Rattle.airimp_lines.specs.Grammar.{letters_text, SpellsSegment, plain_line, IsPlainLine, reply_of}
use Rattle.airimp_lines.proofs.RightLines.{right_segment}
use Rattle.airline_base.proofs.DateLaws.{length_name}
use Rattle.airline_base.proofs.LeadingFields.{length_airline, length_station, length_code}

one : (n : ℕ) → n < 10 → list_all is_ascii_digit ((48 + n) ∷ []) ≡ true
one n lt =
    let digit : is_ascii_digit (48 + n) ≡ true = grind (arith, nat_tests) in
    rw digit refl

decimal_digits : (n : ℕ) → n < 2 ^ 64 → list_all is_ascii_digit (decimal n) ≡ true
decimal_digits n = decimal_by_steps (λ n ds. list_all is_ascii_digit ds ≡ true)
    (λ n lt. one n lt)
    (λ n ds ge h. list_all-append is_ascii_digit ds ((48 + n % 10) ∷ []) ∙ rw (h, one (n % 10) (omega arith)) refl) n

pub decimal_numeral : (most n : ℕ) → 0 < most → 0 < n → n < 10 ^ most → n < 2 ^ 64 → IsNumberText most (decimal n) n
decimal_numeral most n some positive small fits = record { few = length-decimal-le most n some small fits; each = decimal_digits n fits; value = sym (decimal_is_IsNumeral n fits).1; positive = positive }

length_day : (day month : ℕ) → 1 ≤ month → month ≤ 12 → length (day_month day month) ≡ 5
length_day day month low high = omega (arith, length-append (two_digits day) (month_name month), length_name month low high)

-- the front of a date
pub day_front : (day month year : ℕ) (text : List ℕ) → 1 ≤ month → month ≤ 12
    → text ≡ day_month day month ++ two_digits year → take 5 text ≡ day_month day month
day_front day month year text low high e = ap (take 5) e ∙ take_at (day_month day month) (two_digits year) 5 (length_day day month low high)

-- what is put behind one another, piece by piece
pub joined : (t0 t1 t2 t3 t4 t5 t6 t7 t8 t9 t10 t11 a n s d b o e m a1 d1 b1 o1 e1 : List ℕ) (c c1 : ℕ) → t0 ≡ []
    → t1 ≡ t0 ++ a1 → a1 ≡ a → t2 ≡ t1 ++ n → t3 ≡ t2 ++ s → t4 ≡ t3 ++ c1 ∷ [] → c1 ≡ c → t5 ≡ t4 ++ d1 → d1 ≡ d
    → t6 ≡ t5 ++ 32 ∷ [] → t7 ≡ t6 ++ b1 → b1 ≡ b → t8 ≡ t7 ++ o1 → o1 ≡ o → t9 ≡ t8 ++ 32 ∷ [] → t10 ≡ t9 ++ e1
    → e1 ≡ e → t11 ≡ t10 ++ m
    → t11 ≡ a ++ (n ++ ((s ++ c ∷ []) ++ (d ++ (32 ∷ (b ++ (o ++ (32 ∷ (e ++ m))))))))
joined t0 t1 t2 t3 t4 t5 t6 t7 t8 t9 t10 t11 a n s d b o e m a1 d1 b1 o1 e1 c c1 h0 h1 k1 h2 h3 h4 k4 h5 k5 h6 h7 k7 h8 k8 h9 h10 k10 h11 = rw (h11, h10, k10, h9, h8, k8, h7, k7, h6, h5, k5, h4, k4, h3, h2, h1, k1, h0) (simp append_assoc)

no_tail : (a n l d b o e m : List ℕ)
    → a ++ (n ++ (l ++ (d ++ (32 ∷ (b ++ (o ++ (32 ∷ (e ++ m)))))))) ≡ a
    ++ (n ++ (l ++ (d ++ (32 ∷ (b ++ (o ++ (32 ∷ (e ++ (m ++ [])))))))))
no_tail a n l d b o e m = rw append-nil refl

length_all : (a n l d b o e m : List ℕ)
    → length (a ++ (n ++ (l ++ (d ++ (32 ∷ (b ++ (o ++ (32 ∷ (e ++ m))))))))) ≡ length a
    + (length n + (length l + (length d + (1 + (length b + (length o + (1 + (length e + length m))))))))
length_all a n l d b o e m = simp length-append (omega arith)

length_letters : (suffix : Option ℕ) (class : ℕ)
    → (1 ≤ length (letters_text suffix class)) × (length (letters_text suffix class) ≤ 2)
length_letters None class = (omega arith, omega arith)
length_letters (Some s) class = (omega arith, omega arith)

length_bounds : (t a n l d b o e m : ℕ) → t ≡ a + (n + (l + (d + (1 + (b + (o + (1 + (e + m)))))))) → a ≡ 2 → 0 < n
    → n ≤ 4 → (1 ≤ l) × (l ≤ 2) → d ≡ 5 → b ≡ 3 → o ≡ 3 → e ≡ 2 → 0 < m → m ≤ 3 → (20 ≤ t) × (t ≤ 69)
length_bounds t a n l d b o e m h p q r u v w x y z k = (omega arith, omega arith)

tail_none : is_tail [] ≡ true
unfolding is_tail
tail_none = refl

-- a segment that some line spells is spelled by its reply, with that code and number
pub reply_spelled : (today : ℕ) (line : List ℕ) (s : Segment) (code : List ℕ) (seats : ℕ) (text : List ℕ)
    → is_code code ≡ true → 0 < seats → seats < 10 ^ 3 → IsPlainLine (reply_of s code seats) text
    → SpellsSegment today line s → SpellsSegment today text (reply_of s code seats)
reply_spelled today line s code seats text is positive small p h =
    let fits = (right_segment today line s h).writable in
    let same = same_parts p.year p.month p.day h.date.year h.month h.day s.day p.date h.date.date in
    let number = decimal_numeral 4 s.number (omega arith) fits.number.0 fits.number.1 (omega (arith, fits.number.1)) in
    let count = decimal_numeral 3 seats (omega arith) positive small (omega arith) in
    let written : text ≡ plain_line h.day h.month (reply_of s code seats) = p.written ∙ ap (λ (k : ℕ). plain_line k p.month (reply_of s code seats)) same.2 ∙ ap (λ (k : ℕ). plain_line h.day k (reply_of s code seats)) same.1 in
    let len = ap length written ∙ length_all s.airline (decimal s.number) (letters_text s.suffix s.class) (day_month h.day h.month) s.board s.off code (decimal seats) in
    let month = h.date.date.0.1 in
    let bounds : (20 ≤ length text) × (length text ≤ 69) = length_bounds (length text) (length s.airline) (length (decimal s.number)) (length (letters_text s.suffix s.class)) (length (day_month h.day h.month)) (length s.board) (length s.off) (length code) (length (decimal seats)) len (length_airline s.airline h.spelled.is_airline) (decimal_nonempty s.number (omega (arith, fits.number.1))) number.few (length_letters s.suffix s.class) (length_day h.day h.month month.0 month.1) (length_station s.board h.spelled.is_board) (length_station s.off h.spelled.is_off) (length_code code is) (decimal_nonempty seats (omega arith)) count.few in
    record {
      day = h.day;
      month = h.month;
      date = h.date;
      spelled = record {
        number = decimal s.number;
        seats = decimal seats;
        tail = [];
        text = written ∙ no_tail s.airline (decimal s.number) (letters_text s.suffix s.class) (day_month h.day h.month) s.board s.off code (decimal seats);
        long = bounds.0;
        short = bounds.1;
        is_airline = h.spelled.is_airline;
        is_number = number;
        is_suffix = h.spelled.is_suffix;
        is_class = h.spelled.is_class;
        is_board = h.spelled.is_board;
        is_off = h.spelled.is_off;
        is_code = is;
        is_seats = count;
        is_tail = tail_none;
      };
    }
