-- The locators of words, one word after the other.
use Rattle.std.proofs.Common.{◌≡◌, ◌&&◌, ℕ, ◌+◌, ◌<◌, ◌≤◌, Bool, true, false, List, [], ◌∷◌, ◌++◌, length, map, take, get_or, Some, None, refl, sym, ap, subst, ◌∙◌, if◌then◌else◌}
use Rattle.std.specs.List.{list_all}
use Rattle.std.proofs.lemmas.List.{length-map, map-append, take-map, take_all, take_more}
use Rattle.std.proofs.lemmas.List.Folds.{list_all-map, list_all_at, list_all_more}
use Rattle.airline_base.specs.Names.{is_locator}
use Rattle.seat_words.specs.declared.fault.WordFault.TheVariants.{BadLocator}
use Rattle.command_inputs.specs.Asked.{AreLocators, IsAdded, IsLocatorFault, IsLocatorsFault}
use Rattle.command_inputs.specs.declared.locators.LocatorsFault.{LocatorsFault}
use Rattle.command_inputs.specs.declared.locators.LocatorsFault.TheVariants.{Word, Memory}

-- ---- one word

passes : (word locator : List ℕ) (b : Bool) → Some locator ≡ (if b then Some word else None) → b ≡ true
passes word locator true e = refl
passes word locator false e = absurd cc

same_word : (word locator : List ℕ) (b : Bool) → Some locator ≡ (if b then Some word else None) → locator ≡ word
same_word word locator true e = cc
same_word word locator false e = absurd cc

fails : (word : List ℕ) (b : Bool) → None ≡ (if b then Some word else None) → b ≡ false
fails word true e = absurd cc
fails word false e = refl

pub added : (word locator : List ℕ) (old new : List (List ℕ)) → Some locator ≡ (if is_locator word then Some word else None)
    → new ≡ old ++ locator ∷ [] → IsAdded word old new
added word locator old new found put = record {
  locator = passes word locator (is_locator word) found;
  put = put ∙ ap (λ (l : List ℕ). old ++ l ∷ []) (same_word word locator (is_locator word) found);
}

pub no_locator : (word : List ℕ) → None ≡ (if is_locator word then Some word else None) → IsLocatorFault word (Word BadLocator)
no_locator word none = record { told = refl; none = fails word (is_locator word) none }

pub not_added : (word locator : List ℕ) → Some locator ≡ (if is_locator word then Some word else None) → IsLocatorFault word Memory
not_added word locator found = passes word locator (is_locator word) found

-- ---- one word after the other

module _ {A : Type 0} (now : A → List ℕ) (xs : List A) where
  pub none_yet : AreLocators (map now (take 0 xs)) []
  none_yet = record { are = refl; each = refl }

  pub one_more : (i : ℕ) (x : A) (old new : List (List ℕ)) → AreLocators (map now (take i xs)) old → i < length xs → x ≡ get_or xs i x
      → IsAdded (now x) old new → AreLocators (map now (take (i + 1) xs)) new
  one_more i x old new so_far lt here one = record {
    are =
        one.put
        ∙ ap (λ (l : List (List ℕ)). l ++ now x ∷ []) so_far.are
        ∙ ap (λ (y : A). map now (take i xs) ++ now y ∷ []) here
        ∙ sym (map-append now (take i xs) (get_or xs i x ∷ []))
        ∙ sym (ap (λ (l : List A). map now l) (take_more xs i x lt));
    each =
        list_all-map is_locator now (take (i + 1) xs)
        ∙ list_all_more (λ (y : A). is_locator (now y)) xs i x lt
        ∙ ap (λ (b : Bool). b && is_locator (now (get_or xs i x))) (sym (list_all-map is_locator now (take i xs)) ∙ so_far.each)
        ∙ ap (λ (y : A). is_locator (now y)) (sym here)
        ∙ one.locator;
  }

  pub are_all : (i : ℕ) (locators : List (List ℕ)) → AreLocators (map now (take i xs)) locators → length xs ≤ i
      → AreLocators (map now xs) locators
  are_all i locators so_far over = subst (λ (l : List A). AreLocators (map now l) locators) (take_all i xs over) so_far

  -- the words before are locators, so that one more is another
  begun : (i : ℕ) (d : A) (so_far : List (List ℕ)) → AreLocators (map now (take i xs)) so_far → i < length xs
      → is_locator (now (get_or xs i d)) ≡ true → list_all is_locator (map now (take (i + 1) xs)) ≡ true
  begun i d so_far are lt one =
      list_all-map is_locator now (take (i + 1) xs)
      ∙ list_all_more (λ (y : A). is_locator (now y)) xs i d lt
      ∙ ap (λ (b : Bool). b && is_locator (now (get_or xs i d))) (sym (list_all-map is_locator now (take i xs)) ∙ are.each)
      ∙ one

  pub spreads : (i : ℕ) (d : A) (so_far : List (List ℕ)) (fault : LocatorsFault) → AreLocators (map now (take i xs)) so_far → i < length xs
      → IsLocatorFault (now (get_or xs i d)) fault → IsLocatorsFault (map now xs) fault
  spreads i d so_far (Word fault) are lt one =
      record { told = one.told; some = list_all-map is_locator now xs ∙ list_all_at (λ (y : A). is_locator (now y)) xs i d lt one.none }
  spreads i d so_far Memory are lt one = record {
    number = i;
    within = subst (λ (n : ℕ). i < n) (sym (length-map xs now)) lt;
    locators = ap (λ (l : List (List ℕ)). list_all is_locator l) (take-map now (i + 1) xs) ∙ begun i d so_far are lt one;
  }
