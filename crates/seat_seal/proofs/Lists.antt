-- A list item after item.
use Rattle.std.proofs.Common.{◌≡◌, ℕ, ◌+◌, ◌<◌, Bool, true, false, ◌||◌, List, [], ◌∷◌, ◌++◌, length, map, take, get_or, refl, sym, ap, subst, ◌∙◌, append-nil, append_assoc}
use Rattle.std.specs.List.{flat_map, list_any, AllByRecursion}
use Rattle.std.proofs.lemmas.List.{map-append, take_more}
use Rattle.std.proofs.lemmas.List.Concat.{flat_map-append}
use Rattle.std.proofs.lemmas.List.Folds.{list_any-append}

either : (b : Bool) → (b || false) ≡ b
either true = refl
either false = refl

module _ {X : Type 0} where
  front_more : (xs : List X) (i : ℕ) (x : X) → i < length xs → x ≡ get_or xs i x → take (i + 1) xs ≡ take i xs ++ x ∷ []
  front_more xs i x lt is = take_more xs i x lt ∙ ap (λ (y : X). take i xs ++ y ∷ []) (sym is)

  pub each_push : (P : X → Type 0) (xs : List X) (x : X) → AllByRecursion P xs → P x → AllByRecursion P (xs ++ x ∷ [])
  each_push P [] x each is = (is, tt)
  each_push P (y ∷ xs) x each is = (each.0, each_push P xs x each.1 is)

  pub each_more : (P : X → Type 0) (xs : List X) (i : ℕ) (x : X) → i < length xs → x ≡ get_or xs i x
      → AllByRecursion P (take i xs) → P x → AllByRecursion P (take (i + 1) xs)
  each_more P xs i x lt is each here = subst (AllByRecursion P) (sym (front_more xs i x lt is)) (each_push P (take i xs) x each here)

  text_of : {Y : Type 0} (f : X → List Y) (xs : List X) (i : ℕ) (x : X) → i < length xs → x ≡ get_or xs i x
      → flat_map f (take i xs) ++ f x ≡ flat_map f (take (i + 1) xs)
  text_of {Y} f xs i x lt is = sym (ap (flat_map f) (front_more xs i x lt is) ∙ flat_map-append f (take i xs) (x ∷ []) ∙ ap (λ (t : List Y). flat_map f (take i xs) ++ t) (append-nil (f x)))

  pub text_more : {Y : Type 0} (f : X → List Y) (xs : List X) (i : ℕ) (x : X) (text new old : List Y) → i < length xs
      → x ≡ get_or xs i x → text ≡ old ++ flat_map f (take i xs) → new ≡ text ++ f x
      → new ≡ old ++ flat_map f (take (i + 1) xs)
  text_more {Y} f xs i x text new old lt is held put =
      put ∙ ap (λ (t : List Y). t ++ f x) held ∙ append_assoc old (flat_map f (take i xs)) (f x) ∙ ap (λ (t : List Y). old ++ t) (text_of f xs i x lt is)

  -- one more was looked at
  pub any_more : (p : X → Bool) (xs : List X) (i : ℕ) (x : X) (so_far : Bool) → i < length xs → x ≡ get_or xs i x
      → so_far ≡ list_any p (take i xs) → (so_far || p x) ≡ list_any p (take (i + 1) xs)
  any_more p xs i x so_far lt is held =
      ap (λ (b : Bool). b || p x) held
      ∙ (sym (list_any-append p (take i xs) (x ∷ []) ∙ ap (λ (b : Bool). list_any p (take i xs) || b) (either (p x)))
      ∙ ap (list_any p) (sym (front_more xs i x lt is)))

  -- one more was added
  pub map_more : {Y : Type 0} (f : X → Y) (xs : List X) (i : ℕ) (x : X) (mid new old : List Y) → i < length xs
      → x ≡ get_or xs i x → mid ≡ old ++ map f (take i xs) → new ≡ mid ++ f x ∷ []
      → new ≡ old ++ map f (take (i + 1) xs)
  map_more {Y} f xs i x mid new old lt is held put =
      put ∙ (ap (λ (l : List Y). l ++ f x ∷ []) held
      ∙ (append_assoc old (map f (take i xs)) (f x ∷ [])
      ∙ ap (λ (l : List Y). old ++ l) (sym (ap (map f) (front_more xs i x lt is) ∙ map-append f (take i xs) (x ∷ [])))))
