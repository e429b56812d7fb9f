-- Reading the entries of a ladder's text one by one.
use Rattle.std.proofs.Common.{◌≡◌, ℕ, suc, ◌+◌, ◌<◌, ◌≤◌, Bool, true, false, if◌then◌else◌, ◌==◌, cond, List, [], ◌∷◌, ◌++◌, length, Option, Some, None, is_some, option_map, append_assoc, refl, sym, ap, ◌∙◌, arith}
use Rattle.seat_nesting.specs.Nesting.{Steps}
use Rattle.airline_base.specs.Fields.{byte_at}
use Rattle.seat_limits.specs.LadderText.{entry_in, mark_at, entry_at, with_entry, steps_in}
use Rattle.seat_nesting.specs.declared.ladder.Step.{Step}

-- what follows an entry: the end, or a blank and more entries
abbrev pub steps_after : List ℕ → Option Steps
steps_after [] = Some []
steps_after (i ∷ rest) = if i == 32 then steps_in rest else None

abbrev pub steps_from : Option (Step × List ℕ) → Option Steps
steps_from None = None
steps_from (Some p) = with_entry (Some p.0) (steps_after p.1)

from_entry : (e : Option Step) (rest : List ℕ)
    → with_entry e (steps_after rest) ≡ steps_from (option_map (λ s. (s, rest)) e)
from_entry None rest = refl
from_entry (Some s) rest = refl

none_after : (e : Option Step) → with_entry e None ≡ None
none_after None = refl
none_after (Some s) = refl

abbrev marked : (Bool → Option Step) → List ℕ → Option (Step × List ℕ)
marked entry rest = option_map (λ (s : Step). (s, (mark_at rest).1)) (entry (mark_at rest).0)

-- what a test says of the mark
abbrev pub mark_by : Bool → ℕ → List ℕ → Bool × List ℕ
mark_by b c rest = if b then (true, rest) else (false, c ∷ rest)

-- one byte behind an entry: the mark, or none that may follow an entry
one_byte : (entry : Bool → Option Step) (i : ℕ)
    → with_entry (entry true) (if i == 78 then Some [] else None) ≡ steps_from (marked entry (i ∷ []))
unfolding steps_in
one_byte entry i = of (i == 78)
  where
    no_more : with_entry (entry false) (steps_after (i ∷ [])) ≡ None
    no_more = blank (i == 32) where
      blank : (b : Bool) → with_entry (entry false) (cond b (steps_in []) None) ≡ None
      blank true = none_after (entry false)
      blank false = none_after (entry false)

    of : (b : Bool)
        → with_entry (entry true) (cond b (Some []) None)
        ≡ steps_from (option_map (λ (s : Step). (s, (mark_by b i []).1)) (entry (mark_by b i []).0))
    of true = from_entry (entry true) []
    of false = none_after (entry true) ∙ sym no_more ∙ from_entry (entry false) (i ∷ [])

-- more bytes behind an entry
more_bytes : (entry : Bool → Option Step) (i : ℕ) (rest : List ℕ)
    → cond (i == 78) (with_entry (entry true) (steps_after rest)) (with_entry (entry false) (steps_after (i ∷ rest)))
    ≡ steps_from (marked entry (i ∷ rest))
more_bytes entry i rest = of (i == 78)
  where
    of : (b : Bool)
        → cond b (with_entry (entry true) (steps_after rest)) (with_entry (entry false) (steps_after (i ∷ rest)))
        ≡ steps_from (option_map (λ (s : Step). (s, (mark_by b i rest).1)) (entry (mark_by b i rest).0))
    of true = from_entry (entry true) rest
    of false = from_entry (entry false) (i ∷ rest)

-- the steps of a text are those of its first entry and of what follows it
pub steps_split : (text : List ℕ) → steps_in text ≡ steps_from (entry_at text)
unfolding steps_in
steps_split [] = refl
steps_split (a ∷ []) = refl
steps_split (a ∷ b ∷ []) = refl
steps_split (a ∷ b ∷ c ∷ []) = refl
steps_split (a ∷ b ∷ c ∷ d ∷ []) = refl
steps_split (a ∷ b ∷ c ∷ d ∷ e ∷ []) = refl
steps_split (a ∷ b ∷ c ∷ d ∷ e ∷ f ∷ []) = refl
steps_split (a ∷ b ∷ c ∷ d ∷ e ∷ f ∷ g ∷ []) = refl
steps_split (a ∷ b ∷ c ∷ d ∷ e ∷ f ∷ g ∷ h ∷ []) = from_entry (entry_in a b c d e f g h false) []
steps_split (a ∷ b ∷ c ∷ d ∷ e ∷ f ∷ g ∷ h ∷ i ∷ []) = one_byte (entry_in a b c d e f g h) i
steps_split (a ∷ b ∷ c ∷ d ∷ e ∷ f ∷ g ∷ h ∷ i ∷ j ∷ rest) = more_bytes (entry_in a b c d e f g h) i (j ∷ rest)

pub no_entry : (text : List ℕ) → entry_at text ≡ None → steps_in text ≡ None
no_entry text h = steps_split text ∙ ap steps_from h

pub last_entry : (text : List ℕ) (s : Step) (after : List ℕ) → entry_at text ≡ Some (s, after) → length after ≡ 0
    → steps_in text ≡ Some (s ∷ [])
last_entry text s [] h none = steps_split text ∙ ap steps_from h
last_entry text s (i ∷ after) h none = absurd (omega arith)

pub bad_entry : (text : List ℕ) (s : Step) (after : List ℕ) → entry_at text ≡ Some (s, after) → 0 < length after
    → byte_at 32 after ≡ None → steps_in text ≡ None
bad_entry text s [] h some e = absurd (omega arith)
bad_entry text s (i ∷ rest) h some e = steps_split text ∙ ap steps_from h ∙ ap (with_entry (Some s)) (stopped (i == 32) (steps_in rest) e)
  where
    stopped : (b : Bool) (o : Option Steps) → cond b (Some rest) None ≡ None → cond b o None ≡ None
    stopped true o e = absurd cc
    stopped false o e = refl

pub one_entry : (text : List ℕ) (s : Step) (after next : List ℕ) → entry_at text ≡ Some (s, after)
    → byte_at 32 after ≡ Some next → steps_in text ≡ with_entry (Some s) (steps_in next)
one_entry text s [] next h e = absurd cc
one_entry text s (i ∷ rest) next h e = steps_split text ∙ ap steps_from h ∙ ap (with_entry (Some s)) (passed (i == 32) e)
  where
    passed : (b : Bool) → cond b (Some rest) None ≡ Some next → cond b (steps_in rest) None ≡ steps_in next
    passed true e = let same : rest ≡ next = cc in ap steps_in same
    passed false e = absurd cc

abbrev behind : List ℕ → Step → Step × List ℕ
behind rest s = (s, rest)

front_length : (e : Option Step) (rest after : List ℕ) (s : Step) → option_map (behind rest) e ≡ Some (s, after)
    → rest ≡ after
front_length None rest after s h = absurd cc
front_length (Some t) rest after s h =
    let same : behind rest t ≡ behind after s = cc in
    ap (λ (p : Step × List ℕ). p.1) same

mark_length : (rest : List ℕ) → length (mark_at rest).1 ≤ length rest
mark_length [] = omega arith
mark_length (c ∷ rest) = of (c == 78)
  where
    of : (b : Bool) → length (mark_by b c rest).1 ≤ suc (length rest)
    of true = omega arith
    of false = omega arith

-- an entry is eight bytes long, or nine
pub entry_length : (text : List ℕ) (s : Step) (after : List ℕ) → entry_at text ≡ Some (s, after)
    → 8 + length after ≤ length text
entry_length (a ∷ b ∷ c ∷ d ∷ e ∷ f ∷ g ∷ h ∷ rest) s after is =
    let same = front_length (entry_in a b c d e f g h (mark_at rest).0) (mark_at rest).1 after s is in
    let short = mark_length rest in
    omega (arith, short, ap length same)
entry_length _ s after is = absurd cc

pub blank_length : (text next : List ℕ) → byte_at 32 text ≡ Some next → length text ≡ 1 + length next
blank_length [] next h = absurd cc
blank_length (c ∷ rest) next h = of (c == 32) h
  where
    of : (b : Bool) → cond b (Some rest) None ≡ Some next → suc (length rest) ≡ 1 + length next
    of true e = let same : rest ≡ next = cc in rw same (omega arith)
    of false e = absurd cc

-- ---- entries read so far

abbrev pub behind_steps : Steps → Option Steps → Option Steps
behind_steps steps lower = option_map (λ (rest : Steps). steps ++ rest) lower

entry_more : (steps : Steps) (s : Step) (o : Option Steps)
    → behind_steps steps (with_entry (Some s) o) ≡ behind_steps (steps ++ s ∷ []) o
entry_more steps s None = refl
entry_more steps s (Some lower) = ap (λ (x : Steps). Some x) (sym (append_assoc steps (s ∷ []) lower))

pub read_more : (text rest : List ℕ) (steps : Steps) (s : Step) (after next : List ℕ)
    → steps_in text ≡ behind_steps steps (steps_in rest) → entry_at rest ≡ Some (s, after)
    → byte_at 32 after ≡ Some next
    → steps_in text ≡ behind_steps (steps ++ s ∷ []) (steps_in next)
read_more text rest steps s after next h e b = h ∙ ap (behind_steps steps) (one_entry rest s after next e b) ∙ entry_more steps s (steps_in next)

pub read_all : (text rest : List ℕ) (steps : Steps) (s : Step) (after : List ℕ)
    → steps_in text ≡ behind_steps steps (steps_in rest) → entry_at rest ≡ Some (s, after) → length after ≡ 0
    → steps_in text ≡ Some (steps ++ s ∷ [])
read_all text rest steps s after h e none = h ∙ ap (behind_steps steps) (last_entry rest s after e none)

pub read_none : (text rest : List ℕ) (steps : Steps) → steps_in text ≡ behind_steps steps (steps_in rest)
    → steps_in rest ≡ None → steps_in text ≡ None
read_none text rest steps h none = h ∙ ap (behind_steps steps) none

some_more : (s : Step) (o : Option Steps) → is_some (with_entry (Some s) o) ≡ is_some o
some_more s None = refl
some_more s (Some lower) = refl

pub is_more : (rest : List ℕ) (s : Step) (after next : List ℕ) → entry_at rest ≡ Some (s, after)
    → byte_at 32 after ≡ Some next → is_some (steps_in rest) ≡ is_some (steps_in next)
is_more rest s after next e b = ap is_some (one_entry rest s after next e b) ∙ some_more s (steps_in next)
