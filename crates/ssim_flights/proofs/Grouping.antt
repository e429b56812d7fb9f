-- How legs are gathered into itineraries, one leg more.
use Rattle.std.proofs.Common.{◌≡◌, ℕ, suc, ◌+◌, ◌<◌, ◌≤◌, Bool, true, false, cond, not, ◌||◌, List, [], ◌∷◌, ◌++◌, length, get_or, set, map, take, refl, sym, ap, subst, ◌∙◌, arith, append-nil}
use Rattle.ssim_flights.proofs.Common.{list_any, IsDistinct, Leg}
use Rattle.std.specs.List.{AllByRecursion, position_or_len}
use Rattle.std.specs.Cmp.{IsEquivalence}
use Rattle.std.specs.Cmp.Lexicographic.{options_equiv}
use Rattle.std.proofs.lemmas.Bool.{true≢false, false≢true, not-true, not-false}
use Rattle.std.proofs.lemmas.Cmp.{nat_eq_equiv, on_equiv, and_equiv}
use Rattle.std.proofs.lemmas.List.{map-append, take_all, length-map}
use Rattle.std.proofs.lemmas.List.Elements.{filter-append}
use Rattle.std.proofs.lemmas.List.Folds.{list_any-append}
use Rattle.std.proofs.lemmas.Map.Keys.{IsDistinct-head, IsDistinct-tail}
use Rattle.std.proofs.lemmas.Map.Steps.{list_any_congr}
use Rattle.ssim_flights.specs.declared.itinerary.Name.{Name}
use Rattle.ssim_flights.specs.Itineraries.{name_of, same_name, with_name, names_after, legs_of, itineraries}
use Rattle.ssim_flights.proofs.Departing.{or_parts}

-- names are equal in all their parts
pub names_equiv : IsEquivalence same_name
names_equiv =
    and_equiv (on_equiv (λ (n : Name). n.number) nat_eq_equiv)
    (and_equiv (on_equiv (λ (n : Name). n.suffix) (options_equiv nat_eq_equiv))
    (and_equiv (on_equiv (λ (n : Name). n.variation) nat_eq_equiv) (on_equiv (λ (n : Name). n.overflow) nat_eq_equiv)))

-- the names of one leg more
pub names_push : (names : List Name) (legs : List Leg) (leg : Leg)
    → names_after names (legs ++ leg ∷ []) ≡ with_name (names_after names legs) (name_of leg)
names_push names [] leg = refl
names_push names (other ∷ legs) leg = names_push (with_name names (name_of other)) legs leg

-- the legs of a name, one leg more
legs_push : (legs : List Leg) (leg : Leg) (name : Name)
    → legs_of (legs ++ leg ∷ []) name ≡ legs_of legs name ++ cond (same_name name (name_of leg)) (leg ∷ []) []
legs_push legs leg name = filter-append (λ l. same_name name (name_of l)) legs (leg ∷ [])

legs_push_same : (legs : List Leg) (leg : Leg) (name : Name) → same_name name (name_of leg) ≡ true
    → legs_of (legs ++ leg ∷ []) name ≡ legs_of legs name ++ leg ∷ []
legs_push_same legs leg name same = legs_push legs leg name ∙ ap (λ b. legs_of legs name ++ cond b (leg ∷ []) []) same

legs_push_other : (legs : List Leg) (leg : Leg) (name : Name) → same_name name (name_of leg) ≡ false
    → legs_of (legs ++ leg ∷ []) name ≡ legs_of legs name
legs_push_other legs leg name other = legs_push legs leg name ∙ ap (λ b. legs_of legs name ++ cond b (leg ∷ []) []) other ∙ append-nil (legs_of legs name)

-- a name that is not among the names has no legs
no_legs : (k : Name) (names : List Name) (legs : List Leg) → list_any (same_name k) (names_after names legs) ≡ false
    → (list_any (same_name k) names ≡ false) × (legs_of legs k ≡ [])
no_legs k names [] none = (none, refl)
no_legs k names (leg ∷ legs) none = by (no_legs k (with_name names (name_of leg)) legs none)
  where
    apart : (t : Bool) → list_any (same_name (name_of leg)) names ≡ t
        → list_any (same_name k) (cond t names (names ++ name_of leg ∷ [])) ≡ false
        → (list_any (same_name k) names ≡ false) × (same_name k (name_of leg) ≡ false)
    apart false e none = let parts = or_parts _ _ (sym (list_any-append (same_name k) names (name_of leg ∷ [])) ∙ none) in (parts.0, (or_parts _ _ parts.1).0)
    apart true e none = (none, other (same_name k (name_of leg)) refl)
      where
        other : (s : Bool) → same_name k (name_of leg) ≡ s → same_name k (name_of leg) ≡ false
        other false same = same
        other true same = absurd (true≢false (sym e ∙ sym (list_any_congr names_equiv k (name_of leg) names same) ∙ none))

    by : (list_any (same_name k) (with_name names (name_of leg)) ≡ false) × (legs_of legs k ≡ [])
        → (list_any (same_name k) names ≡ false) × (legs_of (leg ∷ legs) k ≡ [])
    by h = let parts = apart (list_any (same_name (name_of leg)) names) refl h.0 in (parts.0, ap (λ b. cond b (leg ∷ legs_of legs k) (legs_of legs k)) parts.1 ∙ h.1)

-- names that differ from the leg's keep their legs
others_stay : (legs : List Leg) (leg : Leg) (names : List Name)
    → AllByRecursion (λ name. same_name name (name_of leg) ≡ false) names
    → map (legs_of legs) names ≡ map (legs_of (legs ++ leg ∷ [])) names
others_stay legs leg [] all = refl
others_stay legs leg (name ∷ names) all =
    ap (λ l. l ∷ map (legs_of legs) names) (sym (legs_push_other legs leg name all.0)) ∙ ap (λ l. legs_of (legs ++ leg ∷ []) name ∷ l) (others_stay legs leg names all.1)

others_differ : (k : Name) (names : List Name) → list_any (same_name k) names ≡ false
    → AllByRecursion (λ name. same_name name k ≡ false) names
others_differ k [] none = tt
others_differ k (name ∷ names) none = let parts = or_parts _ _ none in (names_equiv.symm name k ∙ parts.0, others_differ k names parts.1)

-- a leg of a new name begins an itinerary
pub begins : (legs : List Leg) (leg : Leg) (names : List Name) → names ≡ names_after [] legs
    → list_any (same_name (name_of leg)) names ≡ false
    → map (legs_of legs) names ++ (leg ∷ []) ∷ [] ≡ map (legs_of (legs ++ leg ∷ [])) (names ++ name_of leg ∷ [])
begins legs leg names e none =
    let own : legs_of (legs ++ leg ∷ []) (name_of leg) ≡ leg ∷ [] =
    legs_push_same legs leg (name_of leg) (names_equiv.refl (name_of leg))
    ∙ ap (λ l. l ++ leg ∷ []) ((no_legs (name_of leg) [] legs (ap (list_any (same_name (name_of leg))) (sym e) ∙ none)).1) in
    ap (λ l. l ++ (leg ∷ []) ∷ []) (others_stay legs leg names (others_differ (name_of leg) names none))
    ∙ ap (λ l. map (legs_of (legs ++ leg ∷ [])) names ++ l ∷ []) (sym own)
    ∙ sym (map-append (legs_of (legs ++ leg ∷ [])) names (name_of leg ∷ []))

distinct_differ : (k n : Name) (names : List Name) → same_name k n ≡ true
    → AllByRecursion (λ name. same_name n name ≡ false) names → AllByRecursion (λ name. same_name name k ≡ false) names
distinct_differ k n [] same all = tt
distinct_differ k n (name ∷ names) same all =
    (names_equiv.symm name k ∙ names_equiv.congr k n name same ∙ all.0, distinct_differ k n names same all.1)

-- a leg of a name that is there goes to the end of its itinerary
pub extends : (legs : List Leg) (leg : Leg) (names : List Name) → IsDistinct same_name names
    → list_any (same_name (name_of leg)) names ≡ true
    → set (map (legs_of legs) names) (position_or_len (same_name (name_of leg)) names)
    (get_or (map (legs_of legs) names) (position_or_len (same_name (name_of leg)) names) [] ++ leg ∷ [])
    ≡ map (legs_of (legs ++ leg ∷ [])) names
extends legs leg [] distinct there = absurd (false≢true there)
extends legs leg (name ∷ names) distinct there = at (same_name (name_of leg) name) refl (λ rest. extends legs leg names (IsDistinct-tail same_name name names distinct) rest)
  where
    moved : (q p : ℕ) → q ≡ suc p
        → set (map (legs_of legs) names) p (get_or (map (legs_of legs) names) p [] ++ leg ∷ [])
        ≡ map (legs_of (legs ++ leg ∷ [])) names → same_name name (name_of leg) ≡ false
        → set (legs_of legs name ∷ map (legs_of legs) names) q
        (get_or (legs_of legs name ∷ map (legs_of legs) names) q [] ++ leg ∷ []) ≡ legs_of (legs ++ leg ∷ []) name
        ∷ map (legs_of (legs ++ leg ∷ [])) names
    moved q p e rest other =
        subst (λ (i : ℕ). set (legs_of legs name ∷ map (legs_of legs) names) i (get_or (legs_of legs name ∷ map (legs_of legs) names) i [] ++ leg ∷ []) ≡ legs_of (legs ++ leg ∷ []) name ∷ map (legs_of (legs ++ leg ∷ [])) names) (sym e)
        (ap (λ l. legs_of legs name ∷ l) rest ∙ ap (λ l. l ∷ map (legs_of (legs ++ leg ∷ [])) names) (sym (legs_push_other legs leg name other)))

    at : (b : Bool) → same_name (name_of leg) name ≡ b
        → (list_any (same_name (name_of leg)) names ≡ true
        → set (map (legs_of legs) names) (position_or_len (same_name (name_of leg)) names)
        (get_or (map (legs_of legs) names) (position_or_len (same_name (name_of leg)) names) [] ++ leg ∷ [])
        ≡ map (legs_of (legs ++ leg ∷ [])) names)
        → set (map (legs_of legs) (name ∷ names)) (position_or_len (same_name (name_of leg)) (name ∷ names))
        (get_or (map (legs_of legs) (name ∷ names)) (position_or_len (same_name (name_of leg)) (name ∷ names)) [] ++ leg
        ∷ []) ≡ map (legs_of (legs ++ leg ∷ [])) (name ∷ names)
    at true same outer =
        let first : position_or_len (same_name (name_of leg)) (name ∷ names) ≡ 0 = ap (λ b. cond (not b) (1 + position_or_len (same_name (name_of leg)) names) 0) same in
        subst (λ (i : ℕ). set (map (legs_of legs) (name ∷ names)) i (get_or (map (legs_of legs) (name ∷ names)) i [] ++ leg ∷ []) ≡ map (legs_of (legs ++ leg ∷ [])) (name ∷ names)) (sym first)
        (ap (λ l. l ∷ map (legs_of legs) names) (sym (legs_push_same legs leg name (names_equiv.symm name (name_of leg) ∙ same)))
        ∙ ap (λ l. legs_of (legs ++ leg ∷ []) name ∷ l) (others_stay legs leg names (distinct_differ (name_of leg) name names same (IsDistinct-head same_name name names distinct))))
    at false other outer =
        let next : position_or_len (same_name (name_of leg)) (name ∷ names) ≡ suc (position_or_len (same_name (name_of leg)) names) =
        ap (λ b. cond (not b) (1 + position_or_len (same_name (name_of leg)) names) 0) other ∙ omega arith in
        let rest : list_any (same_name (name_of leg)) names ≡ true = ap (λ b. b || list_any (same_name (name_of leg)) names) (sym other) ∙ there in
        moved (position_or_len (same_name (name_of leg)) (name ∷ names)) (position_or_len (same_name (name_of leg)) names) next (outer rest) (names_equiv.symm name (name_of leg) ∙ other)

-- ---- a walk along the legs

-- the names and the itineraries of the legs so far
pub record IsGathered (legs : List Leg) (names : List Name) (all : List (List Leg)) : Type 0 where
  pub keys : names ≡ names_after [] legs
  pub groups : all ≡ map (legs_of legs) names
  pub distinct : IsDistinct same_name names

with_new : (names : List Name) (k : Name) → list_any (same_name k) names ≡ false → with_name names k ≡ names ++ k ∷ []
with_new names k none = ap (λ b. cond b names (names ++ k ∷ [])) none

with_old : (names : List Name) (k : Name) → list_any (same_name k) names ≡ true → with_name names k ≡ names
with_old names k there = ap (λ b. cond b names (names ++ k ∷ [])) there

pub gathered_new : (legs : List Leg) (leg : Leg) (names names2 : List Name) (all all2 : List (List Leg))
    → IsGathered legs names all → list_any (same_name (name_of leg)) names ≡ false
    → names2 ≡ with_name names (name_of leg) → IsDistinct same_name names2 → all2 ≡ all ++ (leg ∷ []) ∷ []
    → IsGathered (legs ++ leg ∷ []) names2 all2
gathered_new legs leg names names2 all all2 is none keys distinct groups = record {
  keys = keys ∙ ap (λ ns. with_name ns (name_of leg)) is.keys ∙ sym (names_push [] legs leg);
  groups = groups ∙ ap (λ a. a ++ (leg ∷ []) ∷ []) is.groups ∙ begins legs leg names is.keys none ∙ ap (map (legs_of (legs ++ leg ∷ []))) (sym (keys ∙ with_new names (name_of leg) none));
  distinct = distinct;
}

pub gathered_old : (legs : List Leg) (leg : Leg) (names names2 : List Name) (all all2 : List (List Leg)) (p : ℕ)
    → IsGathered legs names all → list_any (same_name (name_of leg)) names ≡ true
    → names2 ≡ with_name names (name_of leg) → IsDistinct same_name names2
    → p ≡ position_or_len (same_name (name_of leg)) names → all2 ≡ set all p (get_or all p [] ++ leg ∷ [])
    → IsGathered (legs ++ leg ∷ []) names2 all2
gathered_old legs leg names names2 all all2 p is there keys distinct at groups = record {
  keys = keys ∙ ap (λ ns. with_name ns (name_of leg)) is.keys ∙ sym (names_push [] legs leg);
  groups = groups ∙ ap (λ a. set a p (get_or a p [] ++ leg ∷ [])) is.groups
      ∙ ap (λ i. set (map (legs_of legs) names) i (get_or (map (legs_of legs) names) i [] ++ leg ∷ [])) at
      ∙ extends legs leg names is.distinct there
      ∙ ap (map (legs_of (legs ++ leg ∷ []))) (sym (keys ∙ with_old names (name_of leg) there));
  distinct = distinct;
}

-- a leg that was placed, alone where its name is new and else behind those of its name
pub gathered_placed : (legs : List Leg) (leg : Leg) (names names2 : List Name) (all all2 : List (List Leg)) (p : ℕ)
    (is_new : Bool)
    → IsGathered legs names all → is_new ≡ not (list_any (same_name (name_of leg)) names)
    → names2 ≡ with_name names (name_of leg) → IsDistinct same_name names2
    → p ≡ position_or_len (same_name (name_of leg)) names → (is_new ≡ true → all2 ≡ all ++ (leg ∷ []) ∷ [])
    → (is_new ≡ false → all2 ≡ set all p (get_or all p [] ++ leg ∷ []))
    → IsGathered (legs ++ leg ∷ []) names2 all2
gathered_placed legs leg names names2 all all2 p true is new keys distinct at begun extended = gathered_new legs leg names names2 all all2 is (not-true _ (sym new)) keys distinct (begun refl)
gathered_placed legs leg names names2 all all2 p false is new keys distinct at begun extended = gathered_old legs leg names names2 all all2 p is (not-false _ (sym new)) keys distinct at (extended refl)

-- where a name is not new, its itinerary stands there
pub placed_below : (legs : List Leg) (names : List Name) (all : List (List Leg)) (n p : ℕ) (is_new : Bool)
    → IsGathered legs names all → n ≡ length names + cond is_new 1 0 → p < n → is_new ≡ false → p < length all
placed_below legs names all n p true is len below old = absurd (true≢false old)
placed_below legs names all n p false is len below old = omega (arith, len, below, ap length is.groups, length-map names (legs_of legs))

-- all legs gathered
pub gathered_all : (legs : List Leg) (n : ℕ) (names : List Name) (all : List (List Leg)) → length legs ≤ n
    → IsGathered (take n legs) names all → all ≡ itineraries legs
unfolding itineraries
gathered_all legs n names all past is =
    let whole : take n legs ≡ legs = take_all n legs past in
    is.groups ∙ ap (map (legs_of (take n legs))) is.keys ∙ ap (λ l. map (legs_of l) (names_after [] l)) whole
