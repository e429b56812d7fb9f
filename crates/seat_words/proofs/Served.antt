-- What words of scripts that are right come to: at most eight sessions, and each word's file is that of one of them.
use Rattle.std.proofs.Common.{◌≡◌, ◌∙◌, ap, sym, subst, refl, ℕ, zero, suc, ◌≤◌, ◌&&◌, ◌==◌, Bool, false, true, not, nat_le, if◌then◌else◌, List, [], ◌∷◌, find, length, max, slice_get, drop, Option, Some, None, option_map, option_and_then, arith, IfSome}
use Rattle.std.specs.List.{AllByRecursion, list_all, list_any}
use Rattle.std.specs.Option.{option_map_or}
use Rattle.std.proofs.lemmas.Bool.Decides.{nat_tests}
use Rattle.std.specs.Borrow.{Bor}
use Rattle.clap.specs.Walk.{texts}
use Rattle.clap.specs.Words.{Text}
use Rattle.airline_base.proofs.Tests.{both_true}
use Rattle.seat_words.specs.SessionWords.{IsServed, are_apart, file_behind, file_of, have_numbers, highest_after, is_of, is_of_a_session, is_repeated, numbered, numbered_file, sessions_in, sessions_of_run}
use Rattle.seat_words.proofs.Found.{cases}

abbrev number_in : Option (ℕ × Text) → ℕ
number_in named = option_map_or (λ it. it.0) named 0

abbrev is_right : Option (ℕ × Text) → Bool
is_right named = option_map_or (λ it. nat_le 1 it.0 && nat_le it.0 8 && nat_le 1 (length it.1)) named false

right_number : (named : Option (ℕ × Text)) → is_right named ≡ true → (1 ≤ number_in named) × (number_in named ≤ 8)
right_number None e = absurd cc
right_number (Some it) e =
    let front = both_true (nat_le 1 it.0 && nat_le it.0 8) (nat_le 1 (length it.1)) e in
    let both = both_true (nat_le 1 it.0) (nat_le it.0 8) front.0 in
    (grind (arith, nat_tests), grind (arith, nat_tests))

some_is : (a b : ℕ) → Some a ≡ Some b → a ≡ b
some_is a b e = cc

-- ---- at most eight

few_numbers : (most : ℕ) (words : List Text) → most ≤ 8 → list_all is_of_a_session words ≡ true → highest_after most words ≤ 8
few_numbers most [] small e = small
few_numbers most (word ∷ words) small e =
    let both = both_true (is_of_a_session word) (list_all is_of_a_session words) e in
    let one = right_number (numbered word) both.0 in
    few_numbers (max most (number_in (numbered word))) words (omega (arith, one.1)) both.1

few_or_none : (is_short has_numbers is_right : Bool) (many most n : ℕ) → (is_short ≡ true → many ≤ 8)
    → (is_right ≡ true → most ≤ 8)
    → (if not is_short then None else if not has_numbers then Some many else if is_right then Some most else None) ≡ Some n
    → n ≤ 8
few_or_none true true true many most n plain right e = subst (λ (m : ℕ). m ≤ 8) (some_is most n e) (right refl)
few_or_none true true false many most n plain right e = absurd cc
few_or_none true false is_right many most n plain right e = subst (λ (m : ℕ). m ≤ 8) (some_is many n e) (plain refl)
few_or_none false has_numbers is_right many most n plain right e = absurd cc

pub few_sessions : (words : List Text) (found : Option ℕ) → found ≡ sessions_in words → IfSome found (λ n. n ≤ 8)
few_sessions words None e = tt
few_sessions words (Some n) e = few_or_none (nat_le (length words) 8) (have_numbers words) (list_all is_of_a_session words && are_apart words)
    (length words) (highest_after 0 words) n
    (λ short. grind (arith, nat_tests))
    (λ right. few_numbers 0 words (omega arith) (both_true (list_all is_of_a_session words) (are_apart words) right).0)
    (sym e)

-- ---- words without numbers

at_drop : (xs : List Text) (i : ℕ) (x : Text) (ys : List Text) → drop i xs ≡ x ∷ ys
    → (slice_get xs i ≡ Some x) × (drop (suc i) xs ≡ ys) × (suc i ≤ length xs)
at_drop [] zero x ys e = absurd cc
at_drop [] (suc i) x ys e = absurd cc
at_drop (z ∷ zs) zero x ys e = (first z x zs ys e, second z x zs ys e, omega arith)
  where
    first : (z x : Text) (zs ys : List Text) → z ∷ zs ≡ x ∷ ys → Some z ≡ Some x
    first z x zs ys e = cc

    second : (z x : Text) (zs ys : List Text) → z ∷ zs ≡ x ∷ ys → zs ≡ ys
    second z x zs ys e = cc
at_drop (z ∷ zs) (suc i) x ys e =
    let below = at_drop zs i x ys e in (below.0, below.1, omega (arith, below.2))

placed : (all : List Text) (place : ℕ) (rest : List Text) → have_numbers all ≡ false → drop place all ≡ rest
    → AllByRecursion (IsServed all (length all)) rest
placed all place [] plain e = tt
placed all place (word ∷ rest) plain e =
    let at = at_drop all place word rest e in (
      record {
        session = suc place;
        first = omega arith;
        last = at.2;
        file = rw plain at.0;
      },
      placed all (suc place) rest plain at.1,
    )

-- ---- words with numbers

rises : (most : ℕ) (words : List Text) → most ≤ highest_after most words
rises most [] = omega arith
rises most (word ∷ words) =
    let above = rises (max most (number_in (numbered word))) words in omega (arith, above)

-- the session's word is found behind words that are not its own
own_word : (named : Option (ℕ × Text)) (k : ℕ) (more : List Text) → option_map_or (λ it. it.0 == k) named false ≡ true
    → not (option_map_or (λ it. list_any (is_of it.0) more) named false) ≡ true → list_any (is_of k) more ≡ true → ⊥
own_word None k more own apart there = cc
own_word (Some it) k more own apart there =
    let same : it.0 ≡ k = grind (arith, nat_tests) in
    let bad : not true ≡ true = subst (λ (b : Bool). not b ≡ true) (ap (λ (j : ℕ). list_any (is_of j) more) same ∙ there) apart in cc

passed : (all : List Text) (word : Text) (more : List Text) → not (is_repeated word more) ≡ true
    → ((k : ℕ) → list_any (is_of k) (word ∷ more) ≡ true → find (is_of k) all ≡ find (is_of k) (word ∷ more))
    → (k : ℕ) → list_any (is_of k) more ≡ true → find (is_of k) all ≡ find (is_of k) more
passed all word more apart known k there =
    cases (is_of k word) (is_of k word) refl
    (λ own. absurd (own_word (numbered word) k more own apart there))
    (λ other. known k (rw other there) ∙ rw other refl)

file_by_number : (all : List Text) (k : ℕ) → 1 ≤ k → have_numbers all ≡ true → file_of all k ≡ numbered_file k all
file_by_number all zero first numbers = absurd (omega (arith, first))
file_by_number all (suc place) first numbers = rw numbers refl

own_file : (all : List Text) (n : ℕ) (word : Text) (more : List Text) (named : Option (ℕ × Text)) → numbered word ≡ named
    → have_numbers all ≡ true → is_right named ≡ true → number_in named ≤ n
    → ((k : ℕ) → list_any (is_of k) (word ∷ more) ≡ true → find (is_of k) all ≡ find (is_of k) (word ∷ more))
    → IsServed all n word
own_file all n word more None e numbers right low known = absurd cc
own_file all n word more (Some it) e numbers right low known =
    let number = right_number (Some it) right in
    let own : is_of it.0 word ≡ true = ap (λ (named : Option (ℕ × Text)). option_map_or (λ a. a.0 == it.0) named false) e ∙ grind (arith, nat_tests) in
    let there : list_any (is_of it.0) (word ∷ more) ≡ true = rw own refl in
    let found : find (is_of it.0) all ≡ Some word = known it.0 there ∙ rw own refl in
    record {
      session = it.0;
      first = number.0;
      last = low;
      file = file_by_number all it.0 number.0 numbers
          ∙ ap (option_and_then (λ (w : Text). option_map (λ (a : ℕ × Text). a.1) (numbered w))) found
          ∙ behind numbers;
    }
  where
    behind : have_numbers all ≡ true → option_map (λ (a : ℕ × Text). a.1) (numbered word) ≡ file_behind all word
    behind numbers = rw numbers refl

by_number : (all : List Text) (n most : ℕ) (rest : List Text) → have_numbers all ≡ true
    → list_all is_of_a_session rest ≡ true → are_apart rest ≡ true → highest_after most rest ≡ n
    → ((k : ℕ) → list_any (is_of k) rest ≡ true → find (is_of k) all ≡ find (is_of k) rest)
    → AllByRecursion (IsServed all n) rest
by_number all n most [] numbers right apart top known = tt
by_number all n most (word ∷ more) numbers right apart top known =
    let rights = both_true (is_of_a_session word) (list_all is_of_a_session more) right in
    let aparts = both_true (not (is_repeated word more)) (are_apart more) apart in
    let above = rises (max most (number_in (numbered word))) more in (
      own_file all n word more (numbered word) refl numbers rights.0 (omega (arith, above, top)) known,
      by_number all n (max most (number_in (numbered word))) more numbers rights.1 aparts.1 top (passed all word more aparts.0 known),
    )

-- ---- and so of all words that are right

served_or_none : (words : List Text) (is_short has_numbers is_right : Bool) (many most n : ℕ)
    → (has_numbers ≡ false → AllByRecursion (IsServed words many) words)
    → (has_numbers ≡ true → is_right ≡ true → AllByRecursion (IsServed words most) words)
    → (if not is_short then None else if not has_numbers then Some many else if is_right then Some most else None) ≡ Some n
    → AllByRecursion (IsServed words n) words
served_or_none words true true true many most n plain right e =
    subst (λ (m : ℕ). AllByRecursion (IsServed words m) words) (some_is most n e) (right refl refl)
served_or_none words true true false many most n plain right e = absurd cc
served_or_none words true false is_right many most n plain right e =
    subst (λ (m : ℕ). AllByRecursion (IsServed words m) words) (some_is many n e) (plain refl)
served_or_none words false has_numbers is_right many most n plain right e = absurd cc

pub all_served : (words : List Text) (found : Option ℕ) → found ≡ sessions_in words
    → IfSome found (λ n. AllByRecursion (IsServed words n) words)
all_served words None e = tt
all_served words (Some n) e = served_or_none words (nat_le (length words) 8) (have_numbers words)
    (list_all is_of_a_session words && are_apart words) (length words) (highest_after 0 words) n
    (λ plain. placed words 0 words plain refl)
    (λ numbers right. let both = both_true (list_all is_of_a_session words) (are_apart words) right in
    by_number words (highest_after 0 words) 0 words numbers both.0 both.1 refl (λ k there. refl))
    (sym e)

-- words that are there ask for one session at least
pub some_session : (words : List Text) (found : Option ℕ) → 1 ≤ length words → IfSome found (λ n. n ≤ 8)
    → IfSome found (λ n. AllByRecursion (IsServed words n) words) → IfSome found (λ n. (1 ≤ n) × (n ≤ 8))
some_session words None there few served = tt
some_session [] (Some n) there few served = absurd (omega (arith, there))
some_session (word ∷ words) (Some n) there few served = (omega (arith, served.0.first, served.0.last), few)

-- so a run's sessions are those of its words
pub own_words : (words : List Text) (has_changes : Bool) → 1 ≤ length words → sessions_of_run words has_changes ≡ sessions_in words
own_words [] has_changes there = absurd (omega (arith, there))
own_words (word ∷ words) has_changes there = refl

pub no_words : (words : List Text) (has_changes : Bool) → length words ≡ 0
    → sessions_of_run words has_changes ≡ (if has_changes then Some 1 else None)
no_words [] has_changes none = refl
no_words (word ∷ words) has_changes none = absurd (omega (arith, none))

pub as_many : (words : List (Bor Text)) → length (texts words) ≡ length words
as_many [] = refl
as_many (word ∷ words) = ap suc (as_many words)
