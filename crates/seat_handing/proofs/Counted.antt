-- What a mark counts, and the tally that it is taken by.
use Rattle.std.proofs.Common.{◌≡◌, ◌+◌, ◌-◌, ◌<◌, ◌≤◌, ◌^◌, ℕ, suc, false, true, ltb, List, [], ◌∷◌, ◌++◌, length, refl, sym, ap, subst, ◌∙◌, arith}
use Rattle.std.proofs.lemmas.Bool.Decides.{nat_tests}
use Rattle.std.proofs.lemmas.List.{append_assoc, length-append}
use Rattle.std.specs.Prelude.{nat_le}
use Rattle.seat_seal.specs.Imprints.{HasTaken, imprint_of}
use Rattle.seat_seal.specs.Rules.{is_imprint}
use Rattle.seat_seal.specs.Text.{newline}
use Rattle.seat_seal.specs.declared.imprint.Imprint.{Imprint}
use Rattle.seat_seal.specs.declared.imprint.Tally.{Tally}
use Rattle.seat_handing.specs.Marking.{mark_of}

-- ---- how many bytes it counts

bytes_are : (name text : List ℕ) → length (name ++ newline ∷ text) ≡ length name + suc (length text)
bytes_are name text = length-append name (newline ∷ text)

beyond : (n t : ℕ) → 9_999_999_999 ≤ n → false ≡ nat_le (n + suc t) 9_999_999_999
beyond n t le = grind (arith, nat_tests, le)

within : (n t : ℕ) → n < 9_999_999_999 → ltb t (9_999_999_999 - n) ≡ nat_le (n + suc t) 9_999_999_999
within n t lt = grind (arith, nat_tests, lt)

bound : (n t : ℕ) → nat_le (n + suc t) 9_999_999_999 ≡ true → n + suc t ≤ 9_999_999_999
bound n t is = grind (arith, nat_tests, is)

pub long_name : (name text : List ℕ) → 9_999_999_999 ≤ length name → false ≡ is_imprint (mark_of name text)
long_name name text le =
    beyond (length name) (length text) le ∙ ap (λ (n : ℕ). nat_le n 9_999_999_999) (sym (bytes_are name text))

pub counts : (name text : List ℕ) → length name < 9_999_999_999
    → ltb (length text) (9_999_999_999 - length name) ≡ is_imprint (mark_of name text)
counts name text lt =
    within (length name) (length text) lt ∙ ap (λ (n : ℕ). nat_le n 9_999_999_999) (sym (bytes_are name text))

sum_is : (name text : List ℕ) → is_imprint (mark_of name text) ≡ true → length name + suc (length text) ≤ 9_999_999_999
sum_is name text is =
    bound (length name) (length text) (ap (λ (n : ℕ). nat_le n 9_999_999_999) (sym (bytes_are name text)) ∙ is)

-- ---- what a tally has taken

none_ahead : (n : ℕ) → n < 2 ^ 64 → 0 + n < 2 ^ 64
none_ahead n lt = omega (arith, lt)

pub may_take_first : (tally : Tally) (piece : List ℕ) → HasTaken tally [] → length piece < 2 ^ 64
    → (taken : List ℕ) × HasTaken tally taken × (length taken + length piece < 2 ^ 64)
may_take_first tally piece has fits = ([], has, none_ahead (length piece) fits)

pub takes_first : (old new : Tally) (piece : List ℕ) → ((taken : List ℕ) → HasTaken old taken → HasTaken new (taken ++ piece)) → HasTaken old []
    → HasTaken new piece
takes_first old new piece more has = more [] has

line_fits : (n t : ℕ) → n + suc t ≤ 9_999_999_999 → n + 1 < 2 ^ 64
line_fits n t le = omega (arith, le)

text_fits : (n t : ℕ) → n + suc t ≤ 9_999_999_999 → n + 1 + t < 2 ^ 64
text_fits n t le = omega (arith, le)

pub may_take_line : (tally : Tally) (name text : List ℕ) → HasTaken tally name → is_imprint (mark_of name text) ≡ true
    → (taken : List ℕ) × HasTaken tally taken × (length taken + length (newline ∷ []) < 2 ^ 64)
may_take_line tally name text has is = (name, has, line_fits (length name) (length text) (sum_is name text is))

pub takes : (old new : Tally) (ahead piece : List ℕ) → ((taken : List ℕ) → HasTaken old taken → HasTaken new (taken ++ piece))
    → HasTaken old ahead → HasTaken new (ahead ++ piece)
takes old new ahead piece more has = more ahead has

pub may_take_text : (tally : Tally) (name text : List ℕ) → HasTaken tally (name ++ newline ∷ []) → is_imprint (mark_of name text) ≡ true
    → (taken : List ℕ) × HasTaken tally taken × (length taken + length text < 2 ^ 64)
may_take_text tally name text has is = (
  name ++ newline ∷ [],
  has,
  subst (λ (n : ℕ). n + length text < 2 ^ 64) (sym (length-append name (newline ∷ [])))
      (text_fits (length name) (length text) (sum_is name text is)),
)

pub mark_is : (old new : Tally) (name text : List ℕ) (imprint : Imprint)
    → ((taken : List ℕ) → HasTaken old taken → HasTaken new (taken ++ text)) → HasTaken old (name ++ newline ∷ [])
    → ((taken : List ℕ) → HasTaken new taken → imprint ≡ imprint_of taken) → imprint ≡ mark_of name text
mark_is old new name text imprint more has is =
    is (name ++ newline ∷ text)
    (subst (HasTaken new) (append_assoc name (newline ∷ []) text) (more (name ++ newline ∷ []) has))
