-- What is wanted of a leg's limits, step by step, and that it is a ladder.
use Rattle.std.proofs.Common.{◌≡◌, ℕ, suc, ◌+◌, ◌≤◌, ◌<◌, ◌==◌, ◌&&◌, min, Bool, true, false, [], ◌∷◌, ◌++◌, length, drop, get_or, Option, Some, None, arith, refl, ap, sym, subst, ◌∙◌, append_assoc}
use Rattle.std.proofs.lemmas.List.{drop_more, length_push}
use Rattle.std.specs.List.{AllByRecursion}
use Rattle.seat_nesting.specs.declared.ladder.Step.{Step}
use Rattle.seat_nesting.specs.Nesting.{IsDistinct, IsLadder, IsNotRising, LacksClass, Steps}
use Rattle.seat_nesting.specs.Changing.{step_of}
use Rattle.seat_carrying.specs.Lifting.{changed_step, step_wanted, top_of, wanted, wanted_under, with_change}

-- these are the first i of the wanted steps, and the others come under a limit
pub record AreWantedTo (file begun now : Steps) (i most : ℕ) (all : Steps) : Type 0 where
  pub steps_are : all ++ wanted_under most begun now (drop i file) ≡ wanted file begun now
  pub count : length all ≡ i

pub one_wanted : (file begun now : Steps) (i most : ℕ) (all new : Steps) (s w : Step) → AreWantedTo file begun now i most all
    → i < length file → s ≡ get_or file i s → w ≡ step_wanted most begun now s → new ≡ all ++ w ∷ []
    → AreWantedTo file begun now (i + 1) w.limit new
one_wanted file begun now i most all new s w so_far inside here is pushed =
    let front : drop i file ≡ s ∷ drop (i + 1) file = drop_more file i s inside ∙ ap (λ (x : Step). x ∷ drop (i + 1) file) (sym here) in
    let whole : all ++ (step_wanted most begun now s ∷ wanted_under (step_wanted most begun now s).limit begun now (drop (i + 1) file)) ≡ wanted file begun now =
    ap (λ (l : Steps). all ++ wanted_under most begun now l) (sym front) ∙ so_far.steps_are in
    let mine : all ++ (w ∷ wanted_under w.limit begun now (drop (i + 1) file)) ≡ wanted file begun now =
    ap (λ (x : Step). all ++ (x ∷ wanted_under x.limit begun now (drop (i + 1) file))) is ∙ whole in
    record {
      steps_are = ap (λ (l : Steps). l ++ wanted_under w.limit begun now (drop (i + 1) file)) pushed
          ∙ append_assoc all (w ∷ []) (wanted_under w.limit begun now (drop (i + 1) file)) ∙ mine;
      count = ap (λ (l : Steps). length l) pushed ∙ length_push all w ∙ ap (λ (n : ℕ). n + 1) so_far.count;
    }

-- ---- a ladder

same_class : (o : Option Step) (s : Step) → (with_change o s).class ≡ s.class
same_class None s = refl
same_class (Some t) s = refl

length_wanted : (most : ℕ) (begun now file : Steps) → length (wanted_under most begun now file) ≡ length file
length_wanted most begun now [] = refl
length_wanted most begun now (s ∷ lower) = ap (λ (n : ℕ). suc n) (length_wanted (step_wanted most begun now s).limit begun now lower)

lacks_wanted : (most : ℕ) (begun now : Steps) (class : ℕ) (file : Steps) → LacksClass class file
    → LacksClass class (wanted_under most begun now file)
lacks_wanted most begun now class [] lacks = tt
lacks_wanted most begun now class (s ∷ lower) lacks =
    (λ e. lacks.0 (e ∙ same_class (changed_step (step_of begun s.class) (step_of now s.class)) s), lacks_wanted (step_wanted most begun now s).limit begun now class lower lacks.1)

distinct_wanted : (most : ℕ) (begun now file : Steps) → IsDistinct file → IsDistinct (wanted_under most begun now file)
distinct_wanted most begun now [] d = tt
distinct_wanted most begun now (s ∷ lower) d =
    let P : ℕ → Type 0 = λ k. LacksClass k lower in
    let lacks : LacksClass (step_wanted most begun now s).class lower = subst P (sym (same_class (changed_step (step_of begun s.class) (step_of now s.class)) s)) d.0 in
    (lacks_wanted (step_wanted most begun now s).limit begun now (step_wanted most begun now s).class lower lacks, distinct_wanted (step_wanted most begun now s).limit begun now lower d.1)

under_wanted : (most bound : ℕ) (begun now file : Steps) → most ≤ bound
    → AllByRecursion (λ (t : Step). t.limit ≤ bound) (wanted_under most begun now file)
under_wanted most bound begun now [] le = tt
under_wanted most bound begun now (s ∷ lower) le =
    let set : Step = with_change (changed_step (step_of begun s.class) (step_of now s.class)) s in
    let here : min set.limit most ≤ bound = omega (arith, le) in
    (here, under_wanted (step_wanted most begun now s).limit bound begun now lower here)

falls_wanted : (most : ℕ) (begun now file : Steps) → IsNotRising (wanted_under most begun now file)
falls_wanted most begun now [] = tt
falls_wanted most begun now (s ∷ lower) =
    (under_wanted (step_wanted most begun now s).limit (step_wanted most begun now s).limit begun now lower (omega arith), falls_wanted (step_wanted most begun now s).limit begun now lower)

-- ---- waits

found_wait : (steps : Steps) (class : ℕ) (t : Step) → AllByRecursion (λ (s : Step). s.wait ≤ 999) steps → step_of steps class ≡ Some t
    → t.wait ≤ 999
found_wait [] class t all e = absurd cc
found_wait (s ∷ lower) class t all e = cases (s.class == class) refl (found_wait lower class t all.1) where
  cases : (b : Bool) → (s.class == class) ≡ b → (step_of lower class ≡ Some t → t.wait ≤ 999) → t.wait ≤ 999
  cases true g rest = let is : Some s ≡ Some t = rw g at e in let same : s ≡ t = cc in subst (λ (x : Step). x.wait ≤ 999) same all.0
  cases false g rest = rest (rw g at e)

change_waits : (b : Option Step) (now : Steps) (s : Step) → AllByRecursion (λ (t : Step). t.wait ≤ 999) now → s.wait ≤ 999
    → (with_change (changed_step b (step_of now s.class)) s).wait ≤ 999
change_waits None now s all few = few
change_waits (Some b) now s all few = found (step_of now s.class) refl where
  found : (o : Option Step) → step_of now s.class ≡ o → (with_change (changed_step (Some b) o) s).wait ≤ 999
  found None e = few
  found (Some t) e = cases ((b.limit == t.limit) && (b.wait == t.wait)) refl where
    cases : (c : Bool) → ((b.limit == t.limit) && (b.wait == t.wait)) ≡ c → (with_change (changed_step (Some b) (Some t)) s).wait ≤ 999
    cases true g = rw g few
    cases false g = rw g (found_wait now s.class t all e)

bounded_wanted : (most : ℕ) (begun now file : Steps) → most ≤ 999 → AllByRecursion (λ (t : Step). t.wait ≤ 999) now
    → AllByRecursion (λ (s : Step). (s.limit ≤ 999) × (s.wait ≤ 999)) file
    → AllByRecursion (λ (s : Step). (s.limit ≤ 999) × (s.wait ≤ 999)) (wanted_under most begun now file)
bounded_wanted most begun now [] few waits all = tt
bounded_wanted most begun now (s ∷ lower) few waits all =
    let set : Step = with_change (changed_step (step_of begun s.class) (step_of now s.class)) s in
    let here : min set.limit most ≤ 999 = omega (arith, few) in
    ((here, change_waits (step_of begun s.class) now s waits all.0.1), bounded_wanted (step_wanted most begun now s).limit begun now lower here waits all.1)

top_few : (file : Steps) → IsLadder file → top_of file ≤ 999
top_few [] is = omega arith
top_few (s ∷ lower) is = is.bounded.0.0

pub wanted_is_ladder : (file begun now : Steps) → IsLadder file → AllByRecursion (λ (t : Step). t.wait ≤ 999) now
    → IsLadder (wanted file begun now)
wanted_is_ladder file begun now is waits = record {
  some = omega (arith, is.some, length_wanted (top_of file) begun now file);
  most = omega (arith, is.most, length_wanted (top_of file) begun now file);
  distinct = distinct_wanted (top_of file) begun now file is.distinct;
  not_rising = falls_wanted (top_of file) begun now file;
  bounded = bounded_wanted (top_of file) begun now file (top_few file is) waits is.bounded;
}

-- ---- the step of a class

pub step_hit : (steps : Steps) (i class : ℕ) (s : Step) → i < length steps → s ≡ get_or steps i s → (s.class == class) ≡ true
    → step_of (drop i steps) class ≡ Some s
step_hit steps i class s inside here e =
    let front : drop i steps ≡ s ∷ drop (i + 1) steps = drop_more steps i s inside ∙ ap (λ (x : Step). x ∷ drop (i + 1) steps) (sym here) in
    rw (front, e) refl

pub step_passed : (steps : Steps) (i class : ℕ) (s : Step) → i < length steps → s ≡ get_or steps i s → (s.class == class) ≡ false
    → step_of (drop (i + 1) steps) class ≡ step_of (drop i steps) class
step_passed steps i class s inside here e =
    let front : drop i steps ≡ s ∷ drop (i + 1) steps = drop_more steps i s inside ∙ ap (λ (x : Step). x ∷ drop (i + 1) steps) (sym here) in
    rw (front, e) refl
