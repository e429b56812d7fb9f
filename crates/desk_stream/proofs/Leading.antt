-- Lines that are led by whom they are for.
use Rattle.std.proofs.Common.{◌≡◌, ℕ, zero, suc, ◌+◌, ◌<◌, ◌≤◌, ◌==◌, Bool, true, false, List, [], ◌∷◌, ◌++◌, length, drop, get_or, add-one, refl, ap, sym, ◌∙◌, arith, append-nil, append_assoc}
use Rattle.desk_stream.specs.Telling.{lead_if, led, led_from}

-- the bytes so far are led, and what is led of the rest stands behind them
pub record IsLedSoFar (session : ℕ) (begins : Bool) (i : ℕ) (lines text : List ℕ) : Type 0 where
  pub whole : text ++ led_from session begins (drop i lines) ≡ led session lines

pub led_none : (session : ℕ) (lines text : List ℕ) (begins : Bool) → begins ≡ true → text ≡ []
    → IsLedSoFar session begins 0 lines text
led_none session lines text begins first none = record {
  whole = ap (λ (l : List ℕ). l ++ led_from session begins lines) none ∙ ap (λ (b : Bool). led_from session b lines) first;
}

drop_get : (i : ℕ) (lines : List ℕ) (byte : ℕ) → i < length lines → byte ≡ get_or lines i byte
    → drop i lines ≡ byte ∷ drop (suc i) lines
drop_get i [] byte lt is = absurd (omega (arith, lt))
drop_get zero (b ∷ lines) byte lt is = ap (λ (c : ℕ). c ∷ lines) (sym is)
drop_get (suc i) (b ∷ lines) byte lt is = drop_get i lines byte (omega (arith, lt)) is

pub led_more : (session i : ℕ) (lines old new : List ℕ) (begins : Bool) (byte : ℕ) → IsLedSoFar session begins i lines old
    → i < length lines → byte ≡ get_or lines i byte → new ≡ old ++ led_from session begins (byte ∷ [])
    → IsLedSoFar session (byte == 10) (i + 1) lines new
led_more session i lines old new begins byte is lt at more =
    let rest : List ℕ = led_from session (byte == 10) (drop (suc i) lines) in
    let here : led_from session begins (drop i lines) ≡ lead_if begins session ++ byte ∷ rest =
    ap (led_from session begins) (drop_get i lines byte lt at) in
    record {
      whole = ap (λ (n : ℕ). new ++ led_from session (byte == 10) (drop n lines)) (add-one i)
          ∙ ap (λ (l : List ℕ). l ++ rest) more
          ∙ append_assoc old (lead_if begins session ++ byte ∷ []) rest
          ∙ ap (λ (l : List ℕ). old ++ l) (append_assoc (lead_if begins session) (byte ∷ []) rest)
          ∙ ap (λ (l : List ℕ). old ++ l) (sym here) ∙ is.whole;
    }

drop_all : (i : ℕ) (xs : List ℕ) → length xs ≤ i → drop i xs ≡ []
drop_all zero [] le = refl
drop_all (suc i) [] le = refl
drop_all zero (x ∷ xs) le = absurd (omega (arith, le))
drop_all (suc i) (x ∷ xs) le = drop_all i xs (omega (arith, le))

pub led_whole : (session i : ℕ) (lines text : List ℕ) (begins : Bool) → IsLedSoFar session begins i lines text
    → length lines ≤ i → text ≡ led session lines
led_whole session i lines text begins is over =
    sym (append-nil text) ∙ ap (λ (l : List ℕ). text ++ led_from session begins l) (sym (drop_all i lines over)) ∙ is.whole

-- a byte behind its lead
pub led_byte : (session byte : ℕ) (old mid new : List ℕ) (begins : Bool) → begins ≡ true → mid ≡ old ++ (48 + session) ∷ 32 ∷ []
    → new ≡ mid ++ byte ∷ [] → new ≡ old ++ led_from session begins (byte ∷ [])
led_byte session byte old mid new begins is lead more =
    more ∙ ap (λ (l : List ℕ). l ++ byte ∷ []) lead ∙ append_assoc old ((48 + session) ∷ 32 ∷ []) (byte ∷ [])
    ∙ ap (λ (b : Bool). old ++ led_from session b (byte ∷ [])) (sym is)

pub plain_byte : (session byte : ℕ) (old new : List ℕ) (begins : Bool) → begins ≡ false → new ≡ old ++ byte ∷ []
    → new ≡ old ++ led_from session begins (byte ∷ [])
plain_byte session byte old new begins is more = more ∙ ap (λ (b : Bool). old ++ led_from session b (byte ∷ [])) (sym is)
