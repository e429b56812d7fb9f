-- A field that is spelled is read.
use Rattle.std.proofs.Common.{◌≡◌, ℕ, ◌^◌, ◌<◌, ◌≤◌, true, leb, List, ◌∷◌, ◌++◌, length, take, Some, None, refl, ◌∙◌, arith, rules, decimal, append_assoc}
use Rattle.std.specs.Prelude.{codes, Ok}
use Rattle.std.specs.Char.{is_ascii_digit}
use Rattle.std.specs.List.{list_all}
use Rattle.std.specs.Str.Parse.{digits_value}
use Rattle.std.proofs.lemmas.Bool.Decides.{nat_tests}
use Rattle.std.proofs.lemmas.Fmt.{digits_decimal, digits_value-decimal, length-decimal-le}
use Rattle.std.proofs.lemmas.List.{take_at, drop_at, take_all}
use Rattle.std.proofs.lemmas.Str.Parse.{IsNumeralModel, numerals_by_value}
use Rattle.hex.specs.Hex.{encode_lower, lower_digits, decode_sized}
use Rattle.hex.proofs.HexLemmas.{length-encode_with, decode_sized-twice, decode_of-encode_lower}
use Rattle.airline_base.specs.Fields.{Field}
use Rattle.airline_base.proofs.LeadingFields.{word_again}
use Rattle.airline_base.proofs.LeadingRuns.{Stops, prefix_run}
use Rattle.airline_base.proofs.Tests.{both_true}
use Rattle.seat_seal.specs.declared.imprint.Imprint.{Imprint}
use Rattle.seat_seal.specs.declared.scripts.Script.{Script}
use Rattle.seat_seal.specs.declared.seal.JournalState.{JournalState}
use Rattle.seat_seal.specs.declared.seal.JournalState.TheVariants.{Open, Closed}
use Rattle.seat_seal.specs.declared.seal.SealedJournal.{SealedJournal}
use Rattle.seat_seal.specs.Digests.{IsDigest, digest_in}
use Rattle.seat_seal.specs.Rules.{is_imprint, is_journal}
use Rattle.seat_seal.specs.Text.{blank, newline, line, imprint_text, state_text, journal_text, script_text}
use Rattle.seat_seal.specs.Reading.{digest_at, number_at, imprint_at, state_at, journal_at, script_at, line_at}

-- ---- digests

pub digest_again : (d rest : List ℕ) → IsDigest d → digest_at (encode_lower d ++ rest) ≡ Some (d, rest)
unfolding digest_at digest_in
digest_again d rest is =
    let len : length (encode_lower d) ≡ 64 = omega (arith, length-encode_with lower_digits d, is.count) in
    let value : decode_sized (encode_lower d) 32 ≡ Ok d = decode_sized-twice (encode_lower d) 32 len ∙ decode_of-encode_lower d is.each in
    rw (take_at (encode_lower d) rest 64 len, drop_at (encode_lower d) rest 64 len, value) refl

-- fewer than 64 bytes are no digest
pub no_digest : (bytes : List ℕ) → length bytes < 64 → digest_at bytes ≡ None
unfolding digest_at digest_in
no_digest bytes short =
    let all : take 64 bytes ≡ bytes = take_all 64 bytes (omega arith) in
    rw all (grind (arith, nat_tests))

-- ---- numbers

own : IsNumeralModel (λ ds. list_all is_ascii_digit ds ≡ true) (digits_value 10)
own = numerals_by_value _ (search rules)

pub number_again : (most n : ℕ) (rest : List ℕ) → most < 10 ^ 10 → n ≤ most → Stops is_ascii_digit rest
    → number_at most (decimal n ++ rest) ≡ Some (n, rest)
unfolding number_at
number_again most n rest low le h =
    let small : n < 2 ^ 64 = omega arith in
    let all : list_all is_ascii_digit (decimal n) ≡ true = digits_decimal own n small in
    let len = prefix_run is_ascii_digit (decimal n) rest all h in
    let value : digits_value 10 (decimal n) ≡ n = digits_value-decimal own n small in
    let short : length (decimal n) ≤ 10 = length-decimal-le 10 n (omega arith) (omega arith) small in
    let few : leb (length (decimal n)) 10 ≡ true = grind (arith, nat_tests, short) in
    let bound : leb n most ≡ true = grind (arith, nat_tests, le) in
    rw (len, take_at (decimal n) rest (length (decimal n)) refl, drop_at (decimal n) rest (length (decimal n)) refl, few, value, bound) refl

-- ---- imprints, journals and scripts

le_is : (a b : ℕ) → leb a b ≡ true → a ≤ b
le_is a b h = grind (arith, nat_tests, h)

imprint_apart : (d n rest : List ℕ) → (d ++ codes " bytes " ++ n) ++ rest ≡ d ++ (codes " bytes " ++ (n ++ rest))
imprint_apart d n rest = simp append_assoc

pub imprint_again : (i : Imprint) (rest : List ℕ) → IsDigest i.digest → is_imprint i ≡ true → Stops is_ascii_digit rest
    → imprint_at (imprint_text i ++ rest) ≡ Some (i, rest)
unfolding imprint_at imprint_text
imprint_again i rest is small h =
    let digest = digest_again i.digest (codes " bytes " ++ (decimal i.bytes ++ rest)) is in
    let count = number_again 9_999_999_999 i.bytes rest (omega arith) (le_is i.bytes 9_999_999_999 small) h in
    rw (imprint_apart (encode_lower i.digest) (decimal i.bytes) rest, digest, count) refl

state_again : (s : JournalState) (rest : List ℕ) → state_at (state_text s ++ rest) ≡ Some (s, rest)
unfolding state_at
state_again Open rest = refl
state_again Closed rest = refl

state_stops : (s : JournalState) (rest : List ℕ) → Stops is_ascii_digit (state_text s ++ rest)
state_stops Open rest = refl
state_stops Closed rest = refl

journal_apart : (d l n s rest : List ℕ)
    → (d ++ codes " lines " ++ l ++ codes " bytes " ++ n ++ s) ++ rest ≡ d
    ++ (codes " lines " ++ (l ++ (codes " bytes " ++ (n ++ (s ++ rest)))))
journal_apart d l n s rest = simp append_assoc

pub journal_again : (j : SealedJournal) (rest : List ℕ) → IsDigest j.imprint.digest → is_journal j ≡ true
    → journal_at (journal_text j ++ rest) ≡ Some (j, rest)
unfolding journal_at journal_text
journal_again j rest is kept =
    let b = both_true (is_imprint j.imprint) (leb j.lines 999_999) kept in
    let r4 = state_text j.state ++ rest in
    let r3 = decimal j.imprint.bytes ++ r4 in
    let r2 = codes " bytes " ++ r3 in
    let r1 = decimal j.lines ++ r2 in
    let digest = digest_again j.imprint.digest (codes " lines " ++ r1) is in
    let lines = number_again 999_999 j.lines r2 (omega arith) (le_is j.lines 999_999 b.1) refl in
    let count = number_again 9_999_999_999 j.imprint.bytes r4 (omega arith) (le_is j.imprint.bytes 9_999_999_999 b.0) (state_stops j.state rest) in
    rw (journal_apart (encode_lower j.imprint.digest) (decimal j.lines) (decimal j.imprint.bytes) (state_text j.state) rest, digest, lines, count, state_again j.state rest) refl

script_apart : (k d rest : List ℕ) → (k ++ blank ∷ d) ++ rest ≡ k ++ (blank ∷ (d ++ rest))
script_apart k d rest = simp append_assoc

pub script_again : (s : Script) (rest : List ℕ) → IsDigest s.imprint.digest → s.session ≤ 8
    → is_imprint s.imprint ≡ true → Stops is_ascii_digit rest → script_at (script_text s ++ rest) ≡ Some (s, rest)
unfolding script_at script_text
script_again s rest is low small h =
    let session = number_again 8 s.session (blank ∷ (imprint_text s.imprint ++ rest)) (omega arith) low refl in
    rw (script_apart (decimal s.session) (imprint_text s.imprint) rest, session, imprint_again s.imprint rest is small h) refl

-- ---- lines

line_apart : (word value rest : List ℕ) → line word value ++ rest ≡ word ++ (value ++ newline ∷ rest)
line_apart word value rest = simp append_assoc

pub line_again : {A : Type 0} (word value rest : List ℕ) (field : List ℕ → Field A) (x : A)
    → field (value ++ newline ∷ rest) ≡ Some (x, newline ∷ rest) → line_at word field (line word value ++ rest) ≡ Some (x, rest)
unfolding line_at
line_again word value rest field x e = rw (line_apart word value rest, word_again word (value ++ newline ∷ rest), e) refl
