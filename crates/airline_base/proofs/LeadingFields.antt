-- A field at the front that is read is spelled so, and what is spelled so is read.
use Rattle.std.proofs.Common.{◌≡◌, ℕ, ◌<◌, ◌≤◌, Bool, true, ltb, leb, eqb, ◌&&◌, List, [], ◌∷◌, ◌++◌, length, take, drop, Option, Some, None, refl, sym, ap, ◌∙◌, arith}
use Rattle.std.specs.Char.{is_ascii_digit}
use Rattle.std.specs.Cmp.Lexicographic.{pointwise}
use Rattle.std.specs.List.{prefix_len}
use Rattle.std.specs.Str.Parse.{digits_value}
use Rattle.std.proofs.lemmas.Bool.{eqb-true}
use Rattle.std.proofs.lemmas.Bool.Decides.{nat_tests}
use Rattle.std.proofs.lemmas.List.{take_at, drop_at, take-append-drop}
use Rattle.std.proofs.lemmas.Slice.Eq.{bytes_eq-Decides}
use Rattle.airline_base.specs.Names.{is_airline, is_station, is_code, is_locator}
use Rattle.airline_base.specs.Fields.{◌>>=◌, byte_at, word_at, fixed_at, numeral_at, IsNumberText}
use Rattle.airline_base.proofs.Tests.{passed, both_true}
use Rattle.airline_base.proofs.LeadingRuns.{Stops, run_all, prefix_run}

-- a field that was read, and what follows it
pub with_some : {A B C : Type 0} (o : Option A) (f : A → Option B) (y : B) → (o >>= f) ≡ Some y
    → ((x : A) → o ≡ Some x → f x ≡ Some y → C) → C
with_some None f y e k = absurd cc
with_some (Some x) f y e k = k x refl e

-- ---- bytes and words

pub byte_takes : (b : ℕ) (bytes rest : List ℕ) → byte_at b bytes ≡ Some rest → bytes ≡ b ∷ rest
byte_takes b [] rest e = absurd cc
byte_takes b (c ∷ bytes) rest e =
    let p = passed (eqb c b) bytes rest e in
    let same : c ≡ b = eqb-true c b p.0 in
    rw (same, p.1) refl

pub word_takes : (word bytes rest : List ℕ) → word_at word bytes ≡ Some rest → bytes ≡ word ++ rest
word_takes word bytes rest e =
    let p = passed (pointwise eqb (take (length word) bytes) word) (drop (length word) bytes) rest e in
    let same : take (length word) bytes ≡ word = (bytes_eq-Decides (take (length word) bytes) word).0 p.0 in
    sym (take-append-drop (length word) bytes) ∙ ap (λ (x : List ℕ). x ++ drop (length word) bytes) same ∙ ap (λ (x : List ℕ). word ++ x) p.1

pub word_again : (word rest : List ℕ) → word_at word (word ++ rest) ≡ Some rest
word_again word rest =
    let same : pointwise eqb word word ≡ true = (bytes_eq-Decides word word).1 refl in
    rw (take_at word rest (length word) refl, drop_at word rest (length word) refl, same) refl

-- ---- fields of a fixed length

pub fixed_takes : (n : ℕ) (test : List ℕ → Bool) (bytes text rest : List ℕ) → fixed_at n test bytes ≡ Some (text, rest)
    → (bytes ≡ text ++ rest) × (test text ≡ true)
unfolding fixed_at
fixed_takes n test bytes text rest e =
    let p = passed (test (take n bytes)) (take n bytes, drop n bytes) (text, rest) e in
    let t : take n bytes ≡ text = ap (λ (x : List ℕ × List ℕ). x.0) p.1 in
    let r : drop n bytes ≡ rest = ap (λ (x : List ℕ × List ℕ). x.1) p.1 in
    (rw (← t, ← r) (sym (take-append-drop n bytes)), rw (← t) p.0)

pub fixed_again : (n : ℕ) (test : List ℕ → Bool) (text rest : List ℕ) → length text ≡ n → test text ≡ true
    → fixed_at n test (text ++ rest) ≡ Some (text, rest)
unfolding fixed_at
fixed_again n test text rest len is = rw (take_at text rest n len, drop_at text rest n len, is) refl

pub length_airline : (xs : List ℕ) → is_airline xs ≡ true → length xs ≡ 2
length_airline [] h = absurd cc
length_airline (a ∷ []) h = absurd cc
length_airline (a ∷ b ∷ []) h = refl
length_airline (a ∷ b ∷ c ∷ xs) h = absurd cc

pub length_station : (xs : List ℕ) → is_station xs ≡ true → length xs ≡ 3
length_station [] h = absurd cc
length_station (a ∷ []) h = absurd cc
length_station (a ∷ b ∷ []) h = absurd cc
length_station (a ∷ b ∷ c ∷ []) h = refl
length_station (a ∷ b ∷ c ∷ d ∷ xs) h = absurd cc

pub length_code : (xs : List ℕ) → is_code xs ≡ true → length xs ≡ 2
length_code [] h = absurd cc
length_code (a ∷ []) h = absurd cc
length_code (a ∷ b ∷ []) h = refl
length_code (a ∷ b ∷ c ∷ xs) h = absurd cc

pub length_locator : (xs : List ℕ) → is_locator xs ≡ true → length xs ≡ 6
length_locator [] h = absurd cc
length_locator (a ∷ []) h = absurd cc
length_locator (a ∷ b ∷ []) h = absurd cc
length_locator (a ∷ b ∷ c ∷ []) h = absurd cc
length_locator (a ∷ b ∷ c ∷ d ∷ []) h = absurd cc
length_locator (a ∷ b ∷ c ∷ d ∷ e ∷ []) h = absurd cc
length_locator (a ∷ b ∷ c ∷ d ∷ e ∷ f ∷ []) h = refl
length_locator (a ∷ b ∷ c ∷ d ∷ e ∷ f ∷ g ∷ xs) h = absurd cc

-- ---- numbers

pub numeral_takes : (most : ℕ) (bytes : List ℕ) (n : ℕ) (rest : List ℕ) → numeral_at most bytes ≡ Some (n, rest)
    → (digits : List ℕ) × (bytes ≡ digits ++ rest) × IsNumberText most digits n
unfolding numeral_at
numeral_takes most bytes n rest e =
    let run = take (prefix_len is_ascii_digit bytes) bytes in
    let after = drop (prefix_len is_ascii_digit bytes) bytes in
    let p = passed (leb (length run) most && ltb 0 (digits_value 10 run)) (digits_value 10 run, after) (n, rest) e in
    let t = both_true (leb (length run) most) (ltb 0 (digits_value 10 run)) p.0 in
    let v : digits_value 10 run ≡ n = ap (λ (x : ℕ × List ℕ). x.0) p.1 in
    let r : after ≡ rest = ap (λ (x : ℕ × List ℕ). x.1) p.1 in
    let few : length run ≤ most = grind (arith, nat_tests, t.0) in
    let positive : 0 < digits_value 10 run = grind (arith, nat_tests, t.1) in
    (run, rw (← r) (sym (take-append-drop (prefix_len is_ascii_digit bytes) bytes)), record { few = few; each = run_all is_ascii_digit bytes; value = sym v; positive = rw (← v) positive })

pub numeral_again : (most : ℕ) (digits : List ℕ) (n : ℕ) (rest : List ℕ) → IsNumberText most digits n
    → Stops is_ascii_digit rest → numeral_at most (digits ++ rest) ≡ Some (n, rest)
unfolding numeral_at
numeral_again most digits n rest is h =
    let len = prefix_run is_ascii_digit digits rest is.each h in
    let few : leb (length digits) most ≡ true = grind (arith, nat_tests, is.few) in
    let positive : ltb 0 (digits_value 10 digits) ≡ true = grind (arith, nat_tests, is.positive, is.value) in
    rw (len, take_at digits rest (length digits) refl, drop_at digits rest (length digits) refl, few, positive, ← is.value) refl
