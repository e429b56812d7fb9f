-- Classes that fall short, and limits that are there already.
use Rattle.std.proofs.Common.{◌≡◌, ◌≢◌, ◌==◌, ◌&&◌, ℕ, ◌<◌, ◌≤◌, max, min, Bool, true, false, if◌then◌else◌, nat_le, nat_lt, List, [], ◌∷◌, ◌++◌, map, Option, Some, None, arith, refl, sym, ap, subst, ◌∙◌}
use Rattle.std.specs.List.{AllByRecursion, flat_map}
use Rattle.std.proofs.Math.Nat.{min-eq_left}
use Rattle.std.proofs.lemmas.Bool.{eqb-true, eqb-false, eq-eqb, le-leb, ltb-false, ltb-true, ne_eqb}
use Rattle.seat_nesting.specs.Nesting.{ByClass, IsDistinct, IsNotRising, LacksClass, Steps, held_from}
use Rattle.seat_nesting.specs.Changing.{step_of, top_of}
use Rattle.seat_nesting.specs.declared.ladder.Step.{Step}
use Rattle.seat_rules.specs.Sequential.{State}
use Rattle.limit_changes.specs.Laws.{AreLadders, HasWanted, NoneShortIsWanted, NothingIsLeft}
use Rattle.limit_changes.specs.Reaching.{change_of, changes_down, changes_up, cut_steps, cut_to, raise_steps, raise_to}
use Rattle.limit_changes.specs.Rows.{cut_on, cuts_of, raises_of, reached_on, row_of, rows, seats_now, steps_now, wanted_on}
use Rattle.limit_changes.specs.Shorts.{short_of, shorts_from}
use Rattle.limit_changes.specs.declared.legs.NamedLeg.{NamedLeg}
use Rattle.limit_changes.specs.declared.rows.Row.{Row}
use Rattle.limit_changes.specs.declared.shorts.Short.{Short}
use Rattle.limit_changes.proofs.Ranks.{SameMarks, cut_class, lowest_of, raise_class, same_step}

-- ---- where no class falls short

none_of_both : (xs ys : List Short) → xs ++ ys ≡ [] → (xs ≡ []) × (ys ≡ [])
none_of_both [] ys e = (refl, e)
none_of_both (x ∷ xs) ys e = absurd cc

-- it has its wanted wait in any case
pub reach_wait : (w : Step) (lowest highest : ℕ) (s : Step) → (raise_to (Some w) highest (cut_to (Some w) lowest s)).wait ≡ w.wait
reach_wait w lowest highest s = cases (nat_lt w.limit s.limit) refl where
  cut : Step
  cut = record s { limit = max w.limit lowest; wait = w.wait }

  raised : (x : Step) (b : Bool) → (b ≡ false → x.wait ≡ w.wait)
      → (if b then record x { limit = min w.limit highest; wait = w.wait } else x).wait ≡ w.wait
  raised x true same = refl
  raised x false same = same refl

  low : nat_lt w.limit s.limit ≡ false → nat_le s.limit w.limit ≡ true
  low e = le-leb s.limit w.limit (ltb-false w.limit s.limit e)

  untrue : true ≡ false → ⊥
  untrue h = cc

  cases : (b : Bool) → nat_lt w.limit s.limit ≡ b → (raise_to (Some w) highest (if b then cut else s)).wait ≡ w.wait
  cases true e = raised cut (nat_le cut.limit w.limit) (λ _. refl)
  cases false e = raised s (nat_le s.limit w.limit) (λ (h : nat_le s.limit w.limit ≡ false). absurd (untrue (sym (low e) ∙ h)))

-- and where it doesn't fall short its wanted limit
reach_limit : (leg : NamedLeg) (o : Option Step) (w : Step) (seats : ℕ) (t : Step) → o ≡ Some w → short_of leg o seats t ≡ [] → t.limit ≡ w.limit
reach_limit leg o w seats t is none = cases (t.limit == w.limit) refl (ap (λ (x : Option Step). short_of leg x seats t) (sym is) ∙ none) where
  cases : (b : Bool) → (t.limit == w.limit) ≡ b
      → ◌≡◌ {A = List Short} (if b then [] else record { leg = leg; class = t.class; wanted = w.limit; held = seats; limit = t.limit } ∷ []) []
      → t.limit ≡ w.limit
  cases true e h = eqb-true t.limit w.limit e
  cases false e h = absurd cc

some_same : (s now : Step) → Some s ≡ Some now → s ≡ now
some_same s now e = cc

none_short : (leg : NamedLeg) (wanted : Steps) (seats : ByClass) (steps : Steps) (highest class : ℕ) (now w : Step)
    → shorts_from leg wanted seats steps (raise_steps wanted highest (cut_steps wanted seats steps)) ≡ []
    → step_of steps class ≡ Some now → step_of wanted class ≡ Some w
    → step_of (raise_steps wanted highest (cut_steps wanted seats steps)) class ≡ Some (record now { limit = w.limit; wait = w.wait })
none_short leg wanted seats [] highest class now w none found is = absurd cc
none_short leg wanted seats (s ∷ lower) highest class now w none found is =
    cases (s.class == class) refl found
    (λ (f : step_of lower class ≡ Some now). none_short leg wanted seats lower new.limit class now w parts.1 f is)
  where
    cut : Step
    cut = cut_to (step_of wanted s.class) (lowest_of wanted seats s lower) s

    new : Step
    new = raise_to (step_of wanted cut.class) highest cut

    kind : (cut.class ≡ s.class) × SameMarks s cut
    kind = cut_class (step_of wanted s.class) (lowest_of wanted seats s lower) s

    kind_new : (new.class ≡ cut.class) × SameMarks cut new
    kind_new = raise_class (step_of wanted cut.class) highest cut

    parts : (short_of leg (step_of wanted s.class) (held_from seats (s ∷ lower)) new ≡ [])
        × (shorts_from leg wanted seats lower (raise_steps wanted new.limit (cut_steps wanted seats lower)) ≡ [])
    parts =
        none_of_both (short_of leg (step_of wanted s.class) (held_from seats (s ∷ lower)) new)
        (shorts_from leg wanted seats lower (raise_steps wanted new.limit (cut_steps wanted seats lower))) none

    cases : (b : Bool) → (s.class == class) ≡ b → (if b then Some s else step_of lower class) ≡ Some now
        → (step_of lower class ≡ Some now
        → step_of (raise_steps wanted new.limit (cut_steps wanted seats lower)) class ≡ Some (record now { limit = w.limit; wait = w.wait }))
        → step_of (new ∷ raise_steps wanted new.limit (cut_steps wanted seats lower)) class ≡ Some (record now { limit = w.limit; wait = w.wait })
    cases true e found below =
        let same : s ≡ now = some_same s now found in
        let one : s.class ≡ class = eqb-true s.class class e in
        let o : step_of wanted s.class ≡ Some w = ap (step_of wanted) one ∙ is in
        let o_cut : step_of wanted cut.class ≡ Some w = ap (step_of wanted) (kind.0 ∙ one) ∙ is in
        let limit : new.limit ≡ w.limit = reach_limit leg (step_of wanted s.class) w (held_from seats (s ∷ lower)) new o parts.0 in
        let shape : new ≡ raise_to (Some w) highest (cut_to (Some w) (lowest_of wanted seats s lower) s) =
        ap (λ (x : Option Step). raise_to x highest cut) o_cut
        ∙ ap (λ (x : Option Step). raise_to (Some w) highest (cut_to x (lowest_of wanted seats s lower) s)) o in
        let wait : new.wait ≡ w.wait = ap (λ (x : Step). x.wait) shape ∙ reach_wait w (lowest_of wanted seats s lower) highest s in
        let whole : record s { limit = w.limit; wait = w.wait } ≡ new =
        same_step (record s { limit = w.limit; wait = w.wait }) new (kind_new.0 ∙ kind.0) (record { listed = kind_new.1.listed ∙ kind.1.listed; closed = kind_new.1.closed ∙ kind.1.closed }) (sym limit) (sym wait) in
        let here : (new.class == class) ≡ true = eq-eqb new.class class (kind_new.0 ∙ kind.0 ∙ one) in
        ap (λ (b : Bool). if b then Some new else step_of (raise_steps wanted new.limit (cut_steps wanted seats lower)) class) here
        ∙ ap (λ (x : Step). Some x) (sym whole ∙ ap (λ (x : Step). record x { limit = w.limit; wait = w.wait }) same)
    cases false e found below =
        let other : (new.class == class) ≡ false = ne_eqb new.class class (λ (h : new.class ≡ class). eqb-false s.class class e (sym (kind_new.0 ∙ kind.0) ∙ h)) in
        ap (λ (b : Bool). if b then Some new else step_of (raise_steps wanted new.limit (cut_steps wanted seats lower)) class) other
        ∙ below found

pub none_short_is_wanted : NoneShortIsWanted
none_short_is_wanted wanted s leg class now w none found is =
    none_short leg (wanted_on wanted leg) (seats_now s leg) (steps_now s leg) 999 class now w none found is

-- ---- limits that are there already

abbrev IsWanted : Steps → Step → Type 0
IsWanted wanted s = (w : Step) → step_of wanted s.class ≡ Some w → (s.limit ≡ w.limit) × (s.wait ≡ w.wait)

abbrev Has : Steps → Steps → Type 0
Has steps wanted = (class : ℕ) (now w : Step) → step_of steps class ≡ Some now → step_of wanted class ≡ Some w
    → (now.limit ≡ w.limit) × (now.wait ≡ w.wait)

-- a class that stands below is none that stands nowhere there
not_lacked : (k : ℕ) (steps : Steps) (class : ℕ) (now : Step) → LacksClass k steps → step_of steps class ≡ Some now → k ≢ class
not_lacked k [] class now lacks found = absurd cc
not_lacked k (t ∷ lower) class now lacks found =
    cases (t.class == class) refl found (λ (f : step_of lower class ≡ Some now). not_lacked k lower class now lacks.1 f)
  where
    cases : (b : Bool) → (t.class == class) ≡ b → (if b then Some t else step_of lower class) ≡ Some now → (step_of lower class ≡ Some now → k ≢ class)
        → k ≢ class
    cases true e found below = λ (h : k ≡ class). lacks.0 (h ∙ sym (eqb-true t.class class e))
    cases false e found below = below found

wanted_each : (wanted steps : Steps) → IsDistinct steps → Has steps wanted → AllByRecursion (IsWanted wanted) steps
wanted_each wanted [] distinct has = tt
wanted_each wanted (s ∷ lower) distinct has = (here, wanted_each wanted lower distinct.1 below) where
  here : IsWanted wanted s
  here w e = has s.class s w (ap (λ (b : Bool). if b then Some s else step_of lower s.class) (eq-eqb s.class s.class refl)) e

  below : Has lower wanted
  below class now w found e =
      let other : (s.class == class) ≡ false = ne_eqb s.class class (not_lacked s.class lower class now distinct.0 found) in
      has class now w (ap (λ (b : Bool). if b then Some s else step_of lower class) other ∙ found) e

cut_stays : (o : Option Step) (lowest : ℕ) (s : Step) → ((w : Step) → o ≡ Some w → (s.limit ≡ w.limit) × (s.wait ≡ w.wait)) → cut_to o lowest s ≡ s
cut_stays None lowest s is = refl
cut_stays (Some w) lowest s is = cases (nat_lt w.limit s.limit) refl where
  cases : (b : Bool) → nat_lt w.limit s.limit ≡ b → (if b then record s { limit = max w.limit lowest; wait = w.wait } else s) ≡ s
  cases true e =
      let lt : w.limit < s.limit = ltb-true w.limit s.limit e in
      absurd (omega (arith, lt, (is w refl).0))
  cases false e = refl

cut_same : (wanted : Steps) (seats : ByClass) (steps : Steps) → AllByRecursion (IsWanted wanted) steps → cut_steps wanted seats steps ≡ steps
cut_same wanted seats [] all = refl
cut_same wanted seats (s ∷ lower) all =
    ap (λ (x : Step). x ∷ cut_steps wanted seats lower) (cut_stays (step_of wanted s.class) (lowest_of wanted seats s lower) s all.0)
    ∙ ap (λ (l : Steps). s ∷ l) (cut_same wanted seats lower all.1)

-- no limit is above this one, nor above the one ahead of it
abbrev Falls : ℕ → Steps → Type 0
Falls above [] = Unit {0}
Falls above (s ∷ lower) = (s.limit ≤ above) × Falls s.limit lower

falls_of : (above : ℕ) (steps : Steps) → AllByRecursion (λ s. s.limit ≤ above) steps → IsNotRising steps → Falls above steps
falls_of above [] all order = tt
falls_of above (s ∷ lower) all order = (all.0, falls_of s.limit lower order.0 order.1)

raise_stays : (o : Option Step) (highest : ℕ) (s : Step) → s.limit ≤ highest
    → ((w : Step) → o ≡ Some w → (s.limit ≡ w.limit) × (s.wait ≡ w.wait)) → raise_to o highest s ≡ s
raise_stays None highest s le is = refl
raise_stays (Some w) highest s le is = cases (nat_le s.limit w.limit) where
  cases : (b : Bool) → (if b then record s { limit = min w.limit highest; wait = w.wait } else s) ≡ s
  cases true =
      let p = is w refl in
      let below : w.limit ≤ highest = omega (arith, le, p.0) in
      ap (λ (n : ℕ). record s { limit = n; wait = w.wait }) (min-eq_left below ∙ sym p.0) ∙ ap (λ (n : ℕ). record s { wait = n }) (sym p.1)
  cases false = refl

raise_same : (wanted : Steps) (highest : ℕ) (steps : Steps) → Falls highest steps → AllByRecursion (IsWanted wanted) steps
    → raise_steps wanted highest steps ≡ steps
raise_same wanted highest [] falls all = refl
raise_same wanted highest (s ∷ lower) falls all =
    ap (λ (x : Step). x ∷ raise_steps wanted x.limit lower) (raise_stays (step_of wanted s.class) highest s falls.0 all.0)
    ∙ ap (λ (l : Steps). s ∷ l) (raise_same wanted s.limit lower falls.1 all.1)

one_same : (s : Step) → change_of s s ≡ []
one_same s = ap (λ (b : Bool). if b then [] else s ∷ []) both where
  both : ((s.limit == s.limit) && (s.wait == s.wait)) ≡ true
  both = rw (eq-eqb s.limit s.limit refl, eq-eqb s.wait s.wait refl) refl

up_same : (steps : Steps) → changes_up steps steps ≡ []
up_same [] = refl
up_same (s ∷ lower) = ap (λ (l : Steps). l ++ change_of s s) (up_same lower) ∙ one_same s

down_same : (steps : Steps) → changes_down steps steps ≡ []
down_same [] = refl
down_same (s ∷ lower) = ap (λ (l : Steps). l ++ changes_down lower lower) (one_same s) ∙ down_same lower

limits_bounded : (steps : Steps) → AllByRecursion (λ s. (s.limit ≤ 999) × (s.wait ≤ 999)) steps → AllByRecursion (λ s. s.limit ≤ 999) steps
limits_bounded [] all = tt
limits_bounded (s ∷ lower) all = (all.0.0, limits_bounded lower all.1)

pub nothing_is_left : NothingIsLeft
nothing_is_left wanted s legs ladders all =
    ap (λ (l : List Row). l ++ flat_map (raises_of wanted s) legs) (none (cuts_of wanted s) legs (each legs all).0) ∙ none (raises_of wanted s) legs (each legs all).1
  where
    none : (part : NamedLeg → List Row) (ks : List NamedLeg) → AllByRecursion (λ k. part k ≡ []) ks → flat_map part ks ≡ []
    none part [] is = refl
    none part (k ∷ ks) is = ap (λ (l : List Row). l ++ flat_map part ks) is.0 ∙ none part ks is.1

    leg_none : (k : NamedLeg) → HasWanted (steps_now s k) (wanted_on wanted k) → (cuts_of wanted s k ≡ []) × (raises_of wanted s k ≡ [])
    leg_none k has =
        let l = ladders k.flight k.leg in
        let is = wanted_each (wanted_on wanted k) (steps_now s k) l.distinct has.each in
        let cut : cut_on wanted s k ≡ steps_now s k = cut_same (wanted_on wanted k) (seats_now s k) (steps_now s k) is in
        let up : reached_on wanted s k ≡ steps_now s k =
        ap (λ (x : Steps). raise_steps (wanted_on wanted k) 999 x) cut
        ∙ raise_same (wanted_on wanted k) 999 (steps_now s k) (falls_of 999 (steps_now s k) (limits_bounded (steps_now s k) l.bounded) l.not_rising) is in (
          ap (λ (x : Steps). map (row_of k) (changes_up (steps_now s k) x)) cut ∙ ap (λ (x : Steps). map (row_of k) x) (up_same (steps_now s k)),
          ap (λ (x : Steps). map (row_of k) (changes_down x (reached_on wanted s k))) cut
              ∙ ap (λ (x : Steps). map (row_of k) (changes_down (steps_now s k) x)) up ∙ ap (λ (x : Steps). map (row_of k) x) (down_same (steps_now s k)),
        )

    each : (ks : List NamedLeg) → AllByRecursion (λ k. HasWanted (steps_now s k) (wanted_on wanted k)) ks
        → AllByRecursion (λ k. cuts_of wanted s k ≡ []) ks × AllByRecursion (λ k. raises_of wanted s k ≡ []) ks
    each [] is = (tt, tt)
    each (k ∷ ks) is =
        let one = leg_none k is.0 in
        let rest = each ks is.1 in
        ((one.0, rest.0), (one.1, rest.1))
