-- Where the wanted limits name the classes of a leg in their order, those fall short of which more is held than is wanted.
use Rattle.std.proofs.Common.{◌≡◌, ◌≢◌, ◌==◌, ◌&&◌, ℕ, ◌+◌, ◌<◌, ◌≤◌, max, min, Bool, true, false, if◌then◌else◌, nat_le, nat_lt, List, [], ◌∷◌, ◌++◌, Option, Some, None, arith, refl, sym, ap, subst, ◌∙◌}
use Rattle.std.specs.List.{AllByRecursion}
use Rattle.std.proofs.Math.Nat.{le-max_left, le-max_right, max-eq_left, max-eq_right, max-le, min-eq_left}
use Rattle.std.proofs.lemmas.Bool.{eqb-true, eq-eqb, le-leb, leb-false, leb-true, ltb-false, ltb-true, ne_eqb}
use Rattle.seat_nesting.specs.Nesting.{ByClass, IsDistinct, IsNotRising, IsWithin, LacksClass, Steps, held_from}
use Rattle.seat_nesting.specs.Changing.{step_of, top_of}
use Rattle.seat_nesting.specs.declared.ladder.Step.{Step}
use Rattle.seat_nesting.proofs.Rooms.{held_cons}
use Rattle.seat_rules.specs.Sequential.{State}
use Rattle.limit_changes.specs.Laws.{RoomIsReached, SameClasses, SameRanks, ShortIsHeld, all_held_over, held_over}
use Rattle.limit_changes.specs.Reaching.{cut_steps, cut_to, raise_steps, raise_to}
use Rattle.limit_changes.specs.Rows.{seats_now, steps_now, wanted_on}
use Rattle.limit_changes.specs.Shorts.{short_of, shorts_from}
use Rattle.limit_changes.specs.declared.legs.NamedLeg.{NamedLeg}
use Rattle.limit_changes.specs.declared.shorts.Short.{Short}
use Rattle.limit_changes.proofs.Falling.{reach_wait}
use Rattle.limit_changes.proofs.Ranks.{Alike, SameMarks, cut_class, held_alike, lowest_of, raise_class, same_step}

-- ---- each rank beside what is wanted of it

-- the steps beside their wanted ones, in which each class is looked up
abbrev Paired : Steps → Steps → Steps → Type 0
Paired wanted [] ws = Unit {0}
Paired wanted (s ∷ lower) [] = ⊥
Paired wanted (s ∷ lower) (w ∷ ws) = (step_of wanted s.class ≡ Some w) × Paired wanted lower ws

lifted : (w : Step) (rest vs : Steps) → LacksClass w.class vs → AllByRecursion (λ v. step_of rest v.class ≡ Some v) vs
    → AllByRecursion (λ v. step_of (w ∷ rest) v.class ≡ Some v) vs
lifted w rest [] lacks all = tt
lifted w rest (v ∷ vs) lacks all =
    let other : (w.class == v.class) ≡ false = ne_eqb w.class v.class lacks.0 in
    (ap (λ (b : Bool). if b then Some w else step_of rest v.class) other ∙ all.0, lifted w rest vs lacks.1 all.1)

each_found : (steps : Steps) → IsDistinct steps → AllByRecursion (λ v. step_of steps v.class ≡ Some v) steps
each_found [] distinct = tt
each_found (w ∷ rest) distinct =
    (ap (λ (b : Bool). if b then Some w else step_of rest w.class) (eq-eqb w.class w.class refl), lifted w rest rest distinct.0 (each_found rest distinct.1))

paired : (wanted steps ws : Steps) → SameClasses steps ws → AllByRecursion (λ v. step_of wanted v.class ≡ Some v) ws → Paired wanted steps ws
paired wanted [] ws same all = tt
paired wanted (s ∷ lower) [] same all = absurd same
paired wanted (s ∷ lower) (w ∷ ws) same all = (ap (step_of wanted) (sym same.0) ∙ all.0, paired wanted lower ws same.1 all.1)

-- ---- to what a rank comes

top_under : (w : Step) (ws : Steps) → AllByRecursion (λ t. t.limit ≤ w.limit) ws → top_of ws ≤ w.limit
top_under w [] all = omega arith
top_under w (t ∷ ws) all = all.0

-- a limit that is cut, given what stands below it
cut_is : (w : Step) (h top : ℕ) → top ≤ max w.limit h → max w.limit (max h top) ≡ max w.limit h
cut_is w h top le =
    let one : w.limit ≤ max w.limit h = le-max_left w.limit h in
    let two : h ≤ max w.limit h = le-max_right w.limit h in
    let three : max h top ≤ max w.limit h = max-le two le in
    let up : max w.limit (max h top) ≤ max w.limit h = max-le one three in
    let first : w.limit ≤ max w.limit (max h top) = le-max_left w.limit (max h top) in
    let deep : max h top ≤ max w.limit (max h top) = le-max_right w.limit (max h top) in
    let second : h ≤ max h top = le-max_left h top in
    let down : max w.limit h ≤ max w.limit (max h top) = max-le first (omega (arith, second, deep)) in
    omega (arith, up, down)

-- what stands below a rank is bounded by what bounds the rank
under : (wanted : Steps) (seats : ByClass) (s : Step) (lower : Steps) (w : Step) (ws : Steps) → Paired wanted lower ws → IsNotRising (w ∷ ws)
    → top_of (cut_steps wanted seats lower) ≤ max (top_of ws) (held_from seats lower)
    → top_of (cut_steps wanted seats lower) ≤ max w.limit (held_from seats (s ∷ lower))
under wanted seats s lower w ws pairs order le =
    let top : top_of ws ≤ w.limit = top_under w ws order.0 in
    let one : w.limit ≤ max w.limit (held_from seats (s ∷ lower)) = le-max_left w.limit (held_from seats (s ∷ lower)) in
    let two : held_from seats (s ∷ lower) ≤ max w.limit (held_from seats (s ∷ lower)) = le-max_right w.limit (held_from seats (s ∷ lower)) in
    let most : max (top_of ws) (held_from seats lower) ≤ max w.limit (held_from seats (s ∷ lower)) =
    max-le (omega (arith, top, one)) (omega (arith, two, held_cons seats s lower)) in
    omega (arith, le, most)

cut_top : (wanted : Steps) (seats : ByClass) (steps ws : Steps) → Paired wanted steps ws → IsNotRising ws
    → top_of (cut_steps wanted seats steps) ≤ max (top_of ws) (held_from seats steps)
cut_top wanted seats [] ws pairs order = omega arith
cut_top wanted seats (s ∷ lower) [] pairs order = absurd pairs
cut_top wanted seats (s ∷ lower) (w ∷ ws) pairs order =
    subst (λ (o : Option Step). (cut_to o (lowest_of wanted seats s lower) s).limit ≤ max w.limit (held_from seats (s ∷ lower))) (sym pairs.0)
    (cases (nat_lt w.limit s.limit) refl (under wanted seats s lower w ws pairs.1 order (cut_top wanted seats lower ws pairs.1 order.1)))
  where
    h : ℕ
    h = held_from seats (s ∷ lower)

    cases : (b : Bool) → nat_lt w.limit s.limit ≡ b → top_of (cut_steps wanted seats lower) ≤ max w.limit (held_from seats (s ∷ lower))
        → (if b then record s { limit = max w.limit (lowest_of wanted seats s lower); wait = w.wait } else s).limit ≤ max w.limit (held_from seats (s ∷ lower))
    cases true e below = max-le (le-max_left w.limit h) (max-le (le-max_right w.limit h) below)
    cases false e below =
        let le : s.limit ≤ w.limit = ltb-false w.limit s.limit e in
        let more : w.limit ≤ max w.limit h = le-max_left w.limit h in
        omega (arith, le, more)

untrue : true ≡ false → ⊥
untrue z = cc

-- what is wanted, or what is held where that is more
reach_is : (w : Step) (h top highest : ℕ) (s : Step) → top ≤ max w.limit h → h ≤ s.limit → w.limit ≤ highest
    → (raise_to (Some w) highest (cut_to (Some w) (max h top) s)).limit ≡ max w.limit h
reach_is w h top highest s below held high = cases (nat_lt w.limit s.limit) refl where
  cut : Step
  cut = record s { limit = max w.limit (max h top); wait = w.wait }

  whole : min w.limit highest ≡ w.limit
  whole = min-eq_left high

  enough : h ≤ w.limit → w.limit ≡ max w.limit h
  enough le = sym (max-eq_left le)

  raised : (b : Bool) → nat_le cut.limit w.limit ≡ b → (if b then record cut { limit = min w.limit highest; wait = w.wait } else cut).limit ≡ max w.limit h
  raised true e =
      let le : max w.limit (max h top) ≤ w.limit = leb-true (max w.limit (max h top)) w.limit e in
      let up : max w.limit h ≤ w.limit = omega (arith, le, cut_is w h top below) in
      let more : h ≤ max w.limit h = le-max_right w.limit h in
      whole ∙ enough (omega (arith, more, up))
  raised false e = cut_is w h top below

  kept : s.limit ≤ w.limit → (b : Bool) → nat_le s.limit w.limit ≡ b
      → (if b then record s { limit = min w.limit highest; wait = w.wait } else s).limit ≡ max w.limit h
  kept le true e = whole ∙ enough (omega (arith, held, le))
  kept le false e = absurd (untrue (sym (le-leb s.limit w.limit le) ∙ e))

  cases : (b : Bool) → nat_lt w.limit s.limit ≡ b → (raise_to (Some w) highest (if b then cut else s)).limit ≡ max w.limit h
  cases true e = raised (nat_le cut.limit w.limit) refl
  cases false e = kept (ltb-false w.limit s.limit e) (nat_le s.limit w.limit) refl

-- ---- the classes that fall short

one_short : (leg : NamedLeg) (w s t : Step) (h : ℕ) → t.limit ≡ max w.limit h → t.class ≡ s.class
    → short_of leg (Some w) h t ≡ held_over leg (Some w) h s
one_short leg w s t h limit class = cases (nat_lt w.limit h) refl where
  told : Step → ℕ → Short
  told x n = record { leg = leg; class = x.class; wanted = w.limit; held = h; limit = n }

  cases : (b : Bool) → nat_lt w.limit h ≡ b → short_of leg (Some w) h t ≡ (if b then told s h ∷ [] else [])
  cases true e =
      let lt : w.limit < h = ltb-true w.limit h e in
      let is : t.limit ≡ h = limit ∙ max-eq_right (omega (arith, lt)) in
      let other : (t.limit == w.limit) ≡ false = ne_eqb t.limit w.limit (λ (z : t.limit ≡ w.limit). omega (arith, lt, is, z)) in
      ap (λ (b : Bool). if b then [] else told t t.limit ∷ []) other
      ∙ ap (λ (n : ℕ). told t n ∷ []) is
      ∙ ap (λ (k : ℕ). (record { leg = leg; class = k; wanted = w.limit; held = h; limit = h }) ∷ []) class
  cases false e =
      let le : h ≤ w.limit = ltb-false w.limit h e in
      let same : (t.limit == w.limit) ≡ true = eq-eqb t.limit w.limit (limit ∙ max-eq_left le) in
      ap (λ (b : Bool). if b then [] else told t t.limit ∷ []) same

all_short : (leg : NamedLeg) (wanted : Steps) (seats : ByClass) (steps ws : Steps) (highest : ℕ) → Paired wanted steps ws → IsNotRising ws
    → IsWithin steps seats → top_of ws ≤ highest
    → shorts_from leg wanted seats steps (raise_steps wanted highest (cut_steps wanted seats steps)) ≡ all_held_over leg wanted seats steps
all_short leg wanted seats [] ws highest pairs order within top = refl
all_short leg wanted seats (s ∷ lower) [] highest pairs order within top = absurd pairs
all_short leg wanted seats (s ∷ lower) (w ∷ ws) highest pairs order within top =
    ap (λ (l : List Short). l ++ shorts_from leg wanted seats lower (raise_steps wanted new.limit (cut_steps wanted seats lower))) first
    ∙ ap (λ (l : List Short). held_over leg (step_of wanted s.class) h s ++ l)
    (all_short leg wanted seats lower ws new.limit pairs.1 order.1 within.1 (omega (arith, top_under w ws order.0, limit, le-max_left w.limit h)))
  where
    h : ℕ
    h = held_from seats (s ∷ lower)

    cut : Step
    cut = cut_to (step_of wanted s.class) (lowest_of wanted seats s lower) s

    new : Step
    new = raise_to (step_of wanted cut.class) highest cut

    kind : cut.class ≡ s.class
    kind = (cut_class (step_of wanted s.class) (lowest_of wanted seats s lower) s).0

    below : top_of (cut_steps wanted seats lower) ≤ max w.limit h
    below = under wanted seats s lower w ws pairs.1 order (cut_top wanted seats lower ws pairs.1 order.1)

    shape : new ≡ raise_to (Some w) highest (cut_to (Some w) (lowest_of wanted seats s lower) s)
    shape =
        ap (λ (x : Option Step). raise_to x highest cut) (ap (step_of wanted) kind ∙ pairs.0)
        ∙ ap (λ (x : Option Step). raise_to (Some w) highest (cut_to x (lowest_of wanted seats s lower) s)) pairs.0

    limit : new.limit ≡ max w.limit h
    limit = ap (λ (x : Step). x.limit) shape ∙ reach_is w h (top_of (cut_steps wanted seats lower)) highest s below within.0 top

    first : short_of leg (step_of wanted s.class) h new ≡ held_over leg (step_of wanted s.class) h s
    first =
        ap (λ (x : Option Step). short_of leg x h new) pairs.0
        ∙ one_short leg w s new h limit ((raise_class (step_of wanted cut.class) highest cut).0 ∙ kind)
        ∙ ap (λ (x : Option Step). held_over leg x h s) (sym pairs.0)

top_of_all : (steps : Steps) → AllByRecursion (λ t. (t.limit ≤ 999) × (t.wait ≤ 999)) steps → top_of steps ≤ 999
top_of_all [] all = omega arith
top_of_all (t ∷ lower) all = all.0.0

pub short_is_held : ShortIsHeld
short_is_held wanted s leg now right within same =
    all_short leg (wanted_on wanted leg) (seats_now s leg) (steps_now s leg) (wanted_on wanted leg) 999
    (paired (wanted_on wanted leg) (steps_now s leg) (wanted_on wanted leg) same (each_found (wanted_on wanted leg) right.distinct))
    right.not_rising within (top_of_all (wanted_on wanted leg) right.bounded)

-- ---- limits that have room for what is held

pub alike_of : (steps ws : Steps) → SameRanks steps ws → Alike steps ws
alike_of [] [] same = tt
alike_of [] (w ∷ ws) same = absurd same
alike_of (s ∷ lower) [] same = absurd same
alike_of (s ∷ lower) (w ∷ ws) same = (same.0, record { listed = same.1; closed = same.2 }, alike_of lower ws same.3)

classes_of : (steps ws : Steps) → SameRanks steps ws → SameClasses steps ws
classes_of [] [] same = tt
classes_of [] (w ∷ ws) same = absurd same
classes_of (s ∷ lower) [] same = absurd same
classes_of (s ∷ lower) (w ∷ ws) same = (same.0, classes_of lower ws same.3)

all_wanted : (wanted : Steps) (seats : ByClass) (steps ws : Steps) (highest : ℕ) → Paired wanted steps ws → SameRanks steps ws → IsNotRising ws
    → IsWithin steps seats → IsWithin ws seats → top_of ws ≤ highest
    → raise_steps wanted highest (cut_steps wanted seats steps) ≡ ws
all_wanted wanted seats [] [] highest pairs same order within room top = refl
all_wanted wanted seats [] (w ∷ ws) highest pairs same order within room top = absurd same
all_wanted wanted seats (s ∷ lower) [] highest pairs same order within room top = absurd same
all_wanted wanted seats (s ∷ lower) (w ∷ ws) highest pairs same order within room top =
    ap (λ (x : Step). x ∷ raise_steps wanted x.limit (cut_steps wanted seats lower)) whole
    ∙ ap (λ (l : Steps). w ∷ l) (all_wanted wanted seats lower ws w.limit pairs.1 same.3 order.1 within.1 room.1 (top_under w ws order.0))
  where
    h : ℕ
    h = held_from seats (s ∷ lower)

    cut : Step
    cut = cut_to (step_of wanted s.class) (lowest_of wanted seats s lower) s

    new : Step
    new = raise_to (step_of wanted cut.class) highest cut

    kind : (cut.class ≡ s.class) × SameMarks s cut
    kind = cut_class (step_of wanted s.class) (lowest_of wanted seats s lower) s

    kind_new : (new.class ≡ cut.class) × SameMarks cut new
    kind_new = raise_class (step_of wanted cut.class) highest cut

    shape : new ≡ raise_to (Some w) highest (cut_to (Some w) (lowest_of wanted seats s lower) s)
    shape =
        ap (λ (x : Option Step). raise_to x highest cut) (ap (step_of wanted) kind.0 ∙ pairs.0)
        ∙ ap (λ (x : Option Step). raise_to (Some w) highest (cut_to x (lowest_of wanted seats s lower) s)) pairs.0

    below : top_of (cut_steps wanted seats lower) ≤ max w.limit h
    below = under wanted seats s lower w ws pairs.1 order (cut_top wanted seats lower ws pairs.1 order.1)

    enough : h ≤ w.limit
    enough = omega (arith, held_alike seats (s ∷ lower) (w ∷ ws) (alike_of (s ∷ lower) (w ∷ ws) same), room.0)

    limit : new.limit ≡ w.limit
    limit =
        ap (λ (x : Step). x.limit) shape ∙ reach_is w h (top_of (cut_steps wanted seats lower)) highest s below within.0 top
        ∙ max-eq_left enough

    wait : new.wait ≡ w.wait
    wait = ap (λ (x : Step). x.wait) shape ∙ reach_wait w (lowest_of wanted seats s lower) highest s

    whole : new ≡ w
    whole =
        same_step new w (same.0 ∙ sym (kind_new.0 ∙ kind.0))
        (record { listed = same.1 ∙ sym (kind_new.1.listed ∙ kind.1.listed); closed = same.2 ∙ sym (kind_new.1.closed ∙ kind.1.closed) })
        limit wait

pub room_is_reached : RoomIsReached
room_is_reached wanted s leg now right within room same =
    all_wanted (wanted_on wanted leg) (seats_now s leg) (steps_now s leg) (wanted_on wanted leg) 999
    (paired (wanted_on wanted leg) (steps_now s leg) (wanted_on wanted leg) (classes_of (steps_now s leg) (wanted_on wanted leg) same) (each_found (wanted_on wanted leg) right.distinct))
    same right.not_rising within room (top_of_all (wanted_on wanted leg) right.bounded)
