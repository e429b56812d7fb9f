-- Texts of parts, one for each of a list.
use Rattle.std.proofs.Common.{◌≡◌, ℕ, suc, ◌+◌, ◌<◌, ◌≤◌, List, [], ◌∷◌, ◌++◌, length, take, refl, sym, ap, ◌∙◌, subst, arith, append_assoc, get_or, zero-add, ⊎_elim}
use Rattle.std.specs.List.{flat_map}
use Rattle.std.proofs.lemmas.List.{append-nil, flat_map_more, length-take-le, take_all, take_more}
use Rattle.seat_desk.specs.FlightsDesk.{IsText, IsPut}
use Rattle.ssim_flights.specs.declared.flight.Flight.{Flight}
use Rattle.std.specs.Prelude.{slice_get, Some, None}
use Rattle.std.proofs.lemmas.Option.{get_or_from_slice_get, slice_get_cases}

module _ {A : Type 0} where
  text_push : (IsPart : ℕ → A → List ℕ → Type 0) (n : ℕ) (xs : List A) (x : A) (text part : List ℕ)
      → IsText IsPart n xs text → IsPart (n + length xs) x part → IsText IsPart n (xs ++ x ∷ []) (text ++ part)
  text_push IsPart n [] x text part is last =
      let e : n + 0 ≡ n = omega arith in
      (part, [], subst (λ (k : ℕ). IsPart k x part) e last, ap (λ l. l ++ part) is ∙ sym (append-nil part), refl)
  text_push IsPart n (y ∷ ys) x text part is last =
      let e : n + suc (length ys) ≡ n + 1 + length ys = omega arith in (
        is.0,
        is.1 ++ part,
        is.2,
        ap (λ l. l ++ part) is.3 ∙ append_assoc is.0 is.1 part,
        text_push IsPart (n + 1) ys x is.1 part is.4 (subst (λ (k : ℕ). IsPart k x part) e last),
      )

  pub put_none : (IsPart : ℕ → A → List ℕ → Type 0) (n : ℕ) (text : List ℕ) → IsPut IsPart n [] text text
  put_none IsPart n text = record { part = []; is_text = refl; written = sym (append-nil text) }

  pub put_more : (IsPart : ℕ → A → List ℕ → Type 0) (n i : ℕ) (xs : List A) (x : A) (old mid new part : List ℕ)
      → IsPut IsPart n (take i xs) old mid → i < length xs → x ≡ get_or xs i x → IsPart (n + i) x part
      → new ≡ mid ++ part → IsPut IsPart n (take (i + 1) xs) old new
  put_more IsPart n i xs x old mid new part put in_range here is added =
      let count : length (take i xs) ≡ i = length-take-le i xs (omega arith) in
      let pushed = text_push IsPart n (take i xs) x put.part part put.is_text (subst (λ (k : ℕ). IsPart (n + k) x part) (sym count) is) in
      let more : take (i + 1) xs ≡ take i xs ++ x ∷ [] = take_more xs i x in_range ∙ ap (λ y. take i xs ++ y ∷ []) (sym here) in
      record {
        part = put.part ++ part;
        is_text = subst (λ (l : List A). IsText IsPart n l (put.part ++ part)) (sym more) pushed;
        written = added ∙ ap (λ l. l ++ part) put.written ∙ append_assoc old put.part part;
      }

  -- the text is whole where the parts are those of all
  pub put_whole : (IsPart : ℕ → A → List ℕ → Type 0) (n i : ℕ) (xs : List A) (old new : List ℕ)
      → IsPut IsPart n (take i xs) old new → length xs ≤ i → IsPut IsPart n xs old new
  put_whole IsPart n i xs old new put over = subst (λ (l : List A). IsPut IsPart n l old new) (take_all i xs over) put

  pub text_whole : (IsPart : ℕ → A → List ℕ → Type 0) (n i count : ℕ) (xs : List A) (new : List ℕ)
      → IsPut IsPart n (take i xs) [] new → count ≡ length xs → count ≤ i → IsText IsPart n xs new
  text_whole IsPart n i count xs new put counted over =
      let whole = put_whole IsPart n i xs [] new put (subst (λ (k : ℕ). k ≤ i) counted over) in
      subst (λ (l : List ℕ). IsText IsPart n xs l) (sym whole.written) whole.is_text

  -- one part more, where a function gives the parts
  pub each_more : (part : A → List ℕ) (i : ℕ) (xs : List A) (x : A) (old mid new : List ℕ)
      → mid ≡ old ++ flat_map part (take i xs) → i < length xs → x ≡ get_or xs i x → new ≡ mid ++ part x
      → new ≡ old ++ flat_map part (take (i + 1) xs)
  each_more part i xs x old mid new so_far in_range here added =
      let more : take (i + 1) xs ≡ take i xs ++ x ∷ [] = take_more xs i x in_range ∙ ap (λ y. take i xs ++ y ∷ []) (sym here) in
      added ∙ ap (λ (l : List ℕ). l ++ part x) so_far ∙ flat_map_more part old (take i xs) x ∙ ap (λ (l : List A). old ++ flat_map part l) (sym more)

  pub each_whole : (part : A → List ℕ) (i : ℕ) (xs : List A) (old new : List ℕ) → new ≡ old ++ flat_map part (take i xs)
      → length xs ≤ i → new ≡ old ++ flat_map part xs
  each_whole part i xs old new so_far over = so_far ∙ ap (λ (l : List A). old ++ flat_map part l) (take_all i xs over)

pub assoc_four : (a b c d : List ℕ) → ((a ++ b) ++ c) ++ d ≡ a ++ ((b ++ c) ++ d)
assoc_four a b c d = simp append_assoc

pub missing : (flight : Flight) → Some flight ≡ None → ⊥
missing flight e = cc
