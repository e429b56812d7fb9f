-- What is wanted of a leg of the same season is what it has, and that is not lifted.
use Rattle.std.proofs.Common.{◌≡◌, ◌≢◌, ◌==◌, ◌&&◌, ℕ, ◌≤◌, min, max, Bool, true, false, if◌then◌else◌, List, [], ◌∷◌, Option, Some, None, arith, refl, ap, sym, subst, ◌∙◌}
use Rattle.std.specs.List.{AllByRecursion}
use Rattle.std.proofs.lemmas.Bool.{and_parts, eqb-true}
use Rattle.std.proofs.lemmas.Bool.Decides.{nat_tests}
use Rattle.seat_nesting.specs.declared.ladder.Step.{Step}
use Rattle.seat_nesting.specs.Nesting.{ByClass, IsDistinct, IsNotRising, IsWithin, LacksClass, Steps, held_from}
use Rattle.seat_nesting.specs.Changing.{step_of, with_marks}
use Rattle.seat_carrying.specs.Carrying.{wait_of}
use Rattle.seat_carrying.specs.Lifting.{changed_step, lifted, step_wanted, top_of, wanted, wanted_under, with_change}
use Rattle.carry_limits.proofs.Names.{SameNames}

-- ---- the step of a class

-- each of these is the step of its class
abbrev pub Hits : Steps → Steps → Type 0
Hits all steps = AllByRecursion (λ t. step_of all t.class ≡ Some t) steps

hits_more : (s : Step) (all steps : Steps) → LacksClass s.class steps → Hits all steps → Hits (s ∷ all) steps
hits_more s all [] lacks is = tt
hits_more s all (t ∷ more) lacks is =
    let other : (s.class == t.class) ≡ false = differ s.class t.class lacks.0 in (rw other is.0, hits_more s all more lacks.1 is.1)
  where
    differ : (a b : ℕ) → a ≢ b → (a == b) ≡ false
    differ a b ne = grind (arith, nat_tests)

pub hits_all : (steps : Steps) → IsDistinct steps → Hits steps steps
hits_all [] distinct = tt
hits_all (s ∷ lower) distinct =
    let here : (s.class == s.class) ≡ true = grind (arith, nat_tests) in
    (rw here refl, hits_more s lower lower distinct.0 (hits_all lower distinct.1))

-- ---- what is wanted

-- a step with a limit and a wait
abbrev set_to : Step → Step → Step
set_to s t = record s { limit = t.limit; wait = t.wait }

set_is : (s t : Step) → with_change (changed_step (Some s) (Some t)) s ≡ set_to s t
set_is s t = by ((s.limit == t.limit) && (s.wait == t.wait)) refl where
  by : (b : Bool) → ((s.limit == t.limit) && (s.wait == t.wait)) ≡ b → with_change (changed_step (Some s) (Some t)) s ≡ set_to s t
  by true e =
      let parts = and_parts (s.limit == t.limit) (s.wait == t.wait) e in
      let limit : s.limit ≡ t.limit = eqb-true s.limit t.limit parts.0 in
      let wait : s.wait ≡ t.wait = eqb-true s.wait t.wait parts.1 in
      rw e (ap (λ (n : ℕ). record s { limit = n }) limit ∙ ap (λ (n : ℕ). record s { limit = t.limit; wait = n }) wait)
  by false e = rw e refl

least_is : (n most : ℕ) → n ≤ most → min n most ≡ n
least_is n most le = omega (arith, le)

one_step : (most : ℕ) (begun all : Steps) (s t : Step) → step_of begun s.class ≡ Some s → step_of all t.class ≡ Some t → t.class ≡ s.class
    → t.listed ≡ s.listed → t.limit ≤ most → step_wanted most begun all s ≡ record t { closed = s.closed }
one_step most begun all s t first now class listed le =
    ap (λ (o : Option Step). with_limit_of (with_change (changed_step o (step_of all s.class)) s)) first
    ∙ ap (λ (k : ℕ). with_limit_of (with_change (changed_step (Some s) (step_of all k)) s)) (sym class)
    ∙ ap (λ (o : Option Step). with_limit_of (with_change (changed_step (Some s) o) s)) now
    ∙ ap with_limit_of (set_is s t)
    ∙ ap (λ (n : ℕ). record s { limit = n; wait = t.wait }) (least_is t.limit most le)
    ∙ ap (λ (k : ℕ). record s { class = k; limit = t.limit; wait = t.wait }) (sym class)
    ∙ ap (λ (b : Bool). record s { class = t.class; limit = t.limit; wait = t.wait; listed = b }) (sym listed)
  where
    with_limit_of : Step → Step
    with_limit_of x = record x { limit = min x.limit most }

under_is : (most : ℕ) (begun all file now : Steps) → Hits begun file → Hits all now → SameNames file now
    → AllByRecursion (λ (t : Step). t.limit ≤ most) now → IsNotRising now → wanted_under most begun all file ≡ with_marks now file
under_is most begun all [] [] first hits same few falls = refl
under_is most begun all [] (t ∷ now) first hits same few falls = absurd same
under_is most begun all (s ∷ file) [] first hits same few falls = absurd same
under_is most begun all (s ∷ file) (t ∷ now) first hits same few falls =
    let here : step_wanted most begun all s ≡ record t { closed = s.closed } = one_step most begun all s t first.0 hits.0 same.0 same.1 few.0 in
    ap (λ (x : Step). x ∷ wanted_under x.limit begun all file) here
    ∙ ap (λ (l : Steps). record t { closed = s.closed } ∷ l) (under_is t.limit begun all file now first.1 hits.1 same.2 falls.0 falls.1)

under_more : (low high : ℕ) (steps : Steps) → low ≤ high → AllByRecursion (λ (t : Step). t.limit ≤ low) steps
    → AllByRecursion (λ (t : Step). t.limit ≤ high) steps
under_more low high [] le all = tt
under_more low high (t ∷ more) le all = (omega (arith, le, all.0), under_more low high more le all.1)

-- limits that nest are under the highest
pub under_top : (steps : Steps) (most : ℕ) → IsNotRising steps → top_of steps ≤ most → AllByRecursion (λ (t : Step). t.limit ≤ most) steps
under_top [] most falls le = tt
under_top (t ∷ more) most falls le = (le, under_more t.limit most more le falls.0)

-- what is wanted of a leg whose limits changed is what it has now, with the marks of the file
pub wanted_is : (file now : Steps) → IsDistinct file → IsDistinct now → SameNames file now → IsNotRising now → top_of now ≤ top_of file
    → wanted file file now ≡ with_marks now file
wanted_is file now distinct alone same falls le =
    under_is (top_of file) file now file now (hits_all file distinct) (hits_all now alone) same (under_top now (top_of file) falls le) falls

-- ---- what is lifted

pub lifted_is : (top : ℕ) (seats waits : ByClass) (steps : Steps) → IsWithin steps seats → AllByRecursion (λ (s : Step). s.limit ≤ top) steps
    → AllByRecursion (λ (s : Step). waits s.class ≤ s.wait) steps → AllByRecursion (λ (s : Step). s.wait ≤ 999) steps
    → lifted top seats waits steps ≡ steps
lifted_is top seats waits [] within few listed bounded = refl
lifted_is top seats waits (s ∷ lower) within few listed bounded =
    let limit : min top (max s.limit (held_from seats (s ∷ lower))) ≡ s.limit = omega (arith, within.0, few.0) in
    let wait : min 999 (max s.wait (waits s.class)) ≡ s.wait = omega (arith, listed.0, bounded.0) in
    ap (λ (n : ℕ). record s { limit = n; wait = min 999 (max s.wait (waits s.class)) } ∷ lifted top seats waits lower) limit
    ∙ ap (λ (n : ℕ). record s { limit = s.limit; wait = n } ∷ lifted top seats waits lower) wait
    ∙ ap (λ (l : Steps). s ∷ l) (lifted_is top seats waits lower within.1 few.1 listed.1 bounded.1)

-- ---- the wait of a class

abbrev Waits : Steps → Steps → Type 0
Waits all steps = AllByRecursion (λ t. wait_of all t.class ≡ t.wait) steps

waits_more : (s : Step) (all steps : Steps) → LacksClass s.class steps → Waits all steps → Waits (s ∷ all) steps
waits_more s all [] lacks is = tt
waits_more s all (t ∷ more) lacks is =
    let other : (s.class == t.class) ≡ false = differ s.class t.class lacks.0 in (rw other is.0, waits_more s all more lacks.1 is.1)
  where
    differ : (a b : ℕ) → a ≢ b → (a == b) ≡ false
    differ a b ne = grind (arith, nat_tests)

waits_all : (steps : Steps) → IsDistinct steps → Waits steps steps
waits_all [] distinct = tt
waits_all (s ∷ lower) distinct =
    let here : (s.class == s.class) ≡ true = grind (arith, nat_tests) in
    (rw here refl, waits_more s lower lower distinct.0 (waits_all lower distinct.1))

listed_in : (waits : ByClass) (all steps : Steps) → ((class : ℕ) → waits class ≤ wait_of all class) → Waits all steps
    → AllByRecursion (λ (s : Step). waits s.class ≤ s.wait) steps
listed_in waits all [] few is = tt
listed_in waits all (s ∷ lower) few is = (omega (arith, few s.class, is.0), listed_in waits all lower few is.1)

pub all_listed : (waits : ByClass) (steps : Steps) → IsDistinct steps → ((class : ℕ) → waits class ≤ wait_of steps class)
    → AllByRecursion (λ (s : Step). waits s.class ≤ s.wait) steps
all_listed waits steps distinct few = listed_in waits steps steps few (waits_all steps distinct)

-- no wait is above 999, nor that of a class that is not there
pub wait_most : (steps : Steps) (class : ℕ) → AllByRecursion (λ (s : Step). s.wait ≤ 999) steps → wait_of steps class ≤ 999
wait_most [] class all = omega arith
wait_most (s ∷ lower) class all = by (s.class == class) refl (wait_most lower class all.1) where
  by : (b : Bool) → (s.class == class) ≡ b → wait_of lower class ≤ 999 → wait_of (s ∷ lower) class ≤ 999
  by true e rest = rw e all.0
  by false e rest = rw e rest
