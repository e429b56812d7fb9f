-- A field of a limit row or a change row that is read is spelled so, and what is spelled so is read.
use Rattle.std.proofs.Common.{◌≡◌, ℕ, ◌<◌, Bool, true, false, cond, List, [], ◌∷◌, ◌++◌, length, take, drop, Option, Some, None, option_map, refl, sym, ap, ◌∙◌, IsTrue, arith}
use Rattle.std.specs.Prelude.{IfSome}
use Rattle.std.specs.Char.{is_ascii_digit, is_ascii_uppercase}
use Rattle.std.proofs.lemmas.Bool.Decides.{nat_tests}
use Rattle.std.proofs.lemmas.List.{take_at, drop_at, take-append-drop, length-append}
use Rattle.airline_base.specs.Fields.{suffix_text}
use Rattle.airline_base.specs.Days.{IsDayField, date_in, two_digits, month_name}
use Rattle.airline_base.proofs.Tests.{some_is}
use Rattle.airline_base.proofs.DateLaws.{date_takes, date_again, length_name}
use Rattle.airline_base.proofs.LeadingRuns.{Stops}
use Rattle.seat_limits.specs.RowFields.{suffix_at, with_rest, date_at}

-- ---- the suffix

pub record SuffixRead (bytes : List ℕ) (suffix : Option ℕ) (rest : List ℕ) : Type 0 where
  pub written : bytes ≡ suffix_text suffix ++ rest
  pub letter : IfSome suffix (λ c. IsTrue (is_ascii_uppercase c))

pub suffix_takes : (bytes : List ℕ) → SuffixRead bytes (suffix_at bytes).0 (suffix_at bytes).1
suffix_takes [] = record { written = refl; letter = tt }
suffix_takes (c ∷ rest) = of (is_ascii_uppercase c) refl
  where
    of : (b : Bool) → is_ascii_uppercase c ≡ b
        → SuffixRead (c ∷ rest) (cond {A = Option ℕ × List ℕ} b (Some c, rest) (None, c ∷ rest)).0
        (cond {A = Option ℕ × List ℕ} b (Some c, rest) (None, c ∷ rest)).1
    of true e = record { written = refl; letter = e }
    of false e = record { written = refl; letter = tt }

abbrev suffix_and : Option ℕ → List ℕ → Option ℕ × List ℕ
suffix_and suffix rest = (suffix, rest)

pub suffix_again : (suffix : Option ℕ) (rest : List ℕ) → IfSome suffix (λ c. IsTrue (is_ascii_uppercase c))
    → suffix_at (suffix_text suffix ++ 32 ∷ rest) ≡ suffix_and suffix (32 ∷ rest)
suffix_again None rest h = refl
suffix_again (Some c) rest h = rw h refl

-- a letter or a blank is no digit
pub suffix_stops : (suffix : Option ℕ) (rest : List ℕ) → IfSome suffix (λ c. IsTrue (is_ascii_uppercase c))
    → Stops is_ascii_digit (suffix_text suffix ++ 32 ∷ rest)
suffix_stops None rest h = refl
suffix_stops (Some c) rest h = grind (arith, nat_tests, h)

-- ---- dates

-- fewer than seven bytes are no date
pub short_date : (bytes : List ℕ) → length bytes < 7 → date_at bytes ≡ None
unfolding date_at date_in
short_date [] h = refl
short_date (a ∷ []) h = refl
short_date (a ∷ b ∷ []) h = refl
short_date (a ∷ b ∷ c ∷ []) h = refl
short_date (a ∷ b ∷ c ∷ d ∷ []) h = refl
short_date (a ∷ b ∷ c ∷ d ∷ e ∷ []) h = refl
short_date (a ∷ b ∷ c ∷ d ∷ e ∷ f ∷ []) h = refl
short_date (a ∷ b ∷ c ∷ d ∷ e ∷ f ∷ g ∷ bytes) h = absurd (omega arith)

date_of : (after : List ℕ) (o : Option ℕ) (n : ℕ) (rest : List ℕ) → option_map (with_rest after) o ≡ Some (n, rest)
    → (o ≡ Some n) × (after ≡ rest)
date_of after None n rest e = absurd cc
date_of after (Some m) n rest e =
    let same : with_rest after m ≡ with_rest rest n = some_is (with_rest after m) (with_rest rest n) e in
    (ap (λ (x : ℕ × List ℕ). Some x.0) same, ap (λ (x : ℕ × List ℕ). x.1) same)

pub record DateRead (bytes : List ℕ) (n : ℕ) (rest : List ℕ) : Type 0 where
  pub text : List ℕ
  pub written : bytes ≡ text ++ rest
  pub is_day : IsDayField text n

pub date_takes_front : (bytes : List ℕ) (n : ℕ) (rest : List ℕ) → date_at bytes ≡ Some (n, rest) → DateRead bytes n rest
unfolding date_at
date_takes_front bytes n rest e =
    let d = date_of (drop 7 bytes) (date_in (take 7 bytes)) n rest e in
    record {
      text = take 7 bytes;
      written = rw (← d.1) (sym (take-append-drop 7 bytes));
      is_day = date_takes (take 7 bytes) n d.0;
    }

day_field_length : (text : List ℕ) (n : ℕ) → IsDayField text n → length text ≡ 7
day_field_length text n h = ap length h.written ∙ of (month_name h.month) (length_name h.month h.date.0.1.0 h.date.0.1.1)
  where
    of : (name : List ℕ) → length name ≡ 3 → length ((two_digits h.day ++ name) ++ two_digits h.year) ≡ 7
    of name e = rw (length-append (two_digits h.day ++ name) (two_digits h.year), length-append (two_digits h.day) name) (omega (arith, e))

pub date_again_front : (text : List ℕ) (n : ℕ) (rest : List ℕ) → IsDayField text n
    → date_at (text ++ rest) ≡ Some (n, rest)
unfolding date_at
date_again_front text n rest h =
    let len = day_field_length text n h in
    rw (take_at text rest 7 len, drop_at text rest 7 len, date_again text n h) refl
