-- The ranks of one leg: what is cut and raised, and that each change is accepted.
use Rattle.std.proofs.Common.{◌≡◌, ◌≢◌, ◌==◌, ◌&&◌, ℕ, ◌+◌, ◌<◌, ◌≤◌, max, min, Bool, true, false, cond, if◌then◌else◌, nat_le, nat_lt, List, [], ◌∷◌, ◌++◌, length, Option, Some, None, IfSome, arith, refl, sym, ap, subst, ◌∙◌}
use Rattle.std.specs.List.{AllByRecursion}
use Rattle.std.proofs.Math.Nat.{le-max_left, le-max_right, le-min, max-le, min-le_left, min-le_right}
use Rattle.std.proofs.lemmas.Bool.{eqb-true, eqb-false, eq-eqb, ne_eqb, le-leb, leb-true, ltb-true, and_parts}
use Rattle.seat_nesting.specs.Nesting.{ByClass, IsDistinct, IsLegLadder, IsNotRising, IsWithin, LacksClass, Steps, held_from}
use Rattle.seat_nesting.specs.Changing.{may_have_below, step_of, top_of, with_limit}
use Rattle.seat_nesting.specs.declared.ladder.Step.{Step}
use Rattle.seat_nesting.proofs.Rooms.{held_cons}
use Rattle.limit_changes.specs.Reaching.{change_of, changes_down, changes_up, cut_steps, cut_to, raise_steps, raise_to}

-- ---- limits in order, and no seat held beyond them

-- below this limit
abbrev pub Sound : ℕ → ByClass → Steps → Type 0
Sound above seats [] = Unit {0}
Sound above seats (s ∷ lower) = (s.limit ≤ above) × (held_from seats (s ∷ lower) ≤ s.limit) × Sound s.limit seats lower

sound_more : (low high : ℕ) (seats : ByClass) (steps : Steps) → low ≤ high → Sound low seats steps → Sound high seats steps
sound_more low high seats [] le is = tt
sound_more low high seats (s ∷ lower) le is = (omega (arith, is.0, le), is.1, is.2)

-- it holds below each limit that is no lower than the first
sound_top : (above limit : ℕ) (seats : ByClass) (steps : Steps) → Sound above seats steps → top_of steps ≤ limit
    → Sound limit seats steps
sound_top above limit seats [] is top = tt
sound_top above limit seats (s ∷ lower) is top = (top, is.1, is.2)

top_sound : (above : ℕ) (seats : ByClass) (steps : Steps) → Sound above seats steps → top_of steps ≤ above
top_sound above seats [] is = omega arith
top_sound above seats (s ∷ lower) is = is.0

pub sound_of : (above : ℕ) (seats : ByClass) (steps : Steps) → AllByRecursion (λ s. s.limit ≤ above) steps
    → IsNotRising steps → IsWithin steps seats → Sound above seats steps
sound_of above seats [] all order within = tt
sound_of above seats (s ∷ lower) all order within = (all.0, within.0, sound_of s.limit seats lower order.0 order.1 within.1)

-- the same marks
pub record SameMarks (s t : Step) : Type 0 where
  pub listed : t.listed ≡ s.listed
  pub closed : t.closed ≡ s.closed

-- the same classes with the same marks
abbrev pub Alike : Steps → Steps → Type 0
Alike [] [] = Unit {0}
Alike [] (t ∷ new) = ⊥
Alike (s ∷ lower) [] = ⊥
Alike (s ∷ lower) (t ∷ new) = (t.class ≡ s.class) × SameMarks s t × Alike lower new

pub same_step : (s t : Step) → t.class ≡ s.class → SameMarks s t → s.limit ≡ t.limit → s.wait ≡ t.wait → s ≡ t
same_step s t class marks limit wait =
    ap (λ (n : ℕ). record s { limit = n }) limit
    ∙ ap (λ (n : ℕ). record s { limit = t.limit; wait = n }) wait
    ∙ ap (λ (n : ℕ). record s { limit = t.limit; wait = t.wait; class = n }) (sym class)
    ∙ ap (λ (b : Bool). record t { listed = b; closed = s.closed }) (sym marks.listed)
    ∙ ap (λ (b : Bool). record t { closed = b }) (sym marks.closed)

pub held_alike : (seats : ByClass) (steps new : Steps) → Alike steps new → held_from seats new ≡ held_from seats steps
held_alike seats [] [] is = refl
held_alike seats [] (t ∷ new) is = absurd is
held_alike seats (s ∷ lower) [] is = absurd is
held_alike seats (s ∷ lower) (t ∷ new) is =
    held_cons seats t new ∙ ap (λ (k : ℕ). seats k + held_from seats new) is.0
    ∙ ap (λ (n : ℕ). seats s.class + n) (held_alike seats lower new is.2) ∙ sym (held_cons seats s lower)

lacks_alike : (k : ℕ) (steps new : Steps) → Alike steps new → LacksClass k steps → LacksClass k new
lacks_alike k [] [] is lacks = tt
lacks_alike k [] (t ∷ new) is lacks = absurd is
lacks_alike k (s ∷ lower) [] is lacks = tt
lacks_alike k (s ∷ lower) (t ∷ new) is lacks = (λ (e : k ≡ t.class). lacks.0 (e ∙ is.0), lacks_alike k lower new is.2 lacks.1)

pub distinct_alike : (steps new : Steps) → Alike steps new → IsDistinct steps → IsDistinct new
distinct_alike [] [] is distinct = tt
distinct_alike [] (t ∷ new) is distinct = absurd is
distinct_alike (s ∷ lower) [] is distinct = tt
distinct_alike (s ∷ lower) (t ∷ new) is distinct =
    (subst (λ (k : ℕ). LacksClass k new) (sym is.0) (lacks_alike s.class lower new is.2 distinct.0), distinct_alike lower new is.2 distinct.1)

-- ---- changes in order

abbrev pub made : Steps → Step → Steps
made steps t = with_limit steps t.class t.limit t.wait

abbrev pub all_made : Steps → Steps → Steps
all_made steps [] = steps
all_made steps (t ∷ ts) = all_made (made steps t) ts

-- each may be made where those ahead of it are, below this limit, and so stand the old limit and the new one
abbrev pub AllMay : (ℕ → ℕ → Type 0) → ℕ → ByClass → Steps → Steps → Type 0
AllMay R above seats steps [] = Unit {0}
AllMay R above seats steps (t ∷ ts) =
    (may_have_below above steps seats t.class t.limit ≡ true) × IfSome (step_of steps t.class) (λ s. R s.limit t.limit)
    × AllMay R above seats (made steps t) ts

made_more : (steps xs ys : Steps) → all_made steps (xs ++ ys) ≡ all_made (all_made steps xs) ys
made_more steps [] ys = refl
made_more steps (x ∷ xs) ys = made_more (made steps x) xs ys

may_more : (R : ℕ → ℕ → Type 0) (above : ℕ) (seats : ByClass) (steps xs ys : Steps) → AllMay R above seats steps xs
    → AllMay R above seats (all_made steps xs) ys → AllMay R above seats steps (xs ++ ys)
may_more R above seats steps [] ys a b = b
may_more R above seats steps (x ∷ xs) ys a b = (a.0, a.1, may_more R above seats (made steps x) xs ys a.2 b)

-- a rank that no change is of stays ahead of those that they are of
made_under : (s : Step) (lower ts : Steps) → LacksClass s.class ts → all_made (s ∷ lower) ts ≡ s ∷ all_made lower ts
made_under s lower [] lacks = refl
made_under s lower (t ∷ ts) lacks =
    let other : (s.class == t.class) ≡ false = ne_eqb s.class t.class lacks.0 in
    ap (λ (b : Bool). all_made (if b then record s { limit = t.limit; wait = t.wait } ∷ lower else s ∷ made lower t) ts) other
    ∙ made_under s (made lower t) ts lacks.1

may_under : (R : ℕ → ℕ → Type 0) (above : ℕ) (seats : ByClass) (s : Step) (lower ts : Steps) → LacksClass s.class ts
    → AllMay R s.limit seats lower ts → AllMay R above seats (s ∷ lower) ts
may_under R above seats s lower [] lacks may = tt
may_under R above seats s lower (t ∷ ts) lacks may =
    let other : (s.class == t.class) ≡ false = ne_eqb s.class t.class lacks.0 in (
      ap (λ (b : Bool). cond b (nat_le t.limit above && nat_le (top_of lower) t.limit && nat_le (held_from seats (s ∷ lower)) t.limit)
          (may_have_below s.limit lower seats t.class t.limit)) other ∙ may.0,
      subst (λ (o : Option Step). IfSome o (λ x. R x.limit t.limit))
          (sym (ap (λ (b : Bool). if b then Some s else step_of lower t.class) other)) may.1,
      subst (λ (l : Steps). AllMay R above seats l ts)
          (sym (ap (λ (b : Bool). if b then record s { limit = t.limit; wait = t.wait } ∷ lower else s ∷ made lower t) other))
          (may_under R above seats s (made lower t) ts lacks.1 may.2),
    )

-- a rank is set where nothing is in the way
may_here : (above : ℕ) (seats : ByClass) (s t : Step) (lower : Steps) → t.class ≡ s.class → t.limit ≤ above
    → top_of lower ≤ t.limit → held_from seats (s ∷ lower) ≤ t.limit
    → may_have_below above (s ∷ lower) seats t.class t.limit ≡ true
may_here above seats s t lower class high low held =
    let same : (s.class == t.class) ≡ true = eq-eqb s.class t.class (sym class) in
    ap (λ (b : Bool). cond b (nat_le t.limit above && nat_le (top_of lower) t.limit && nat_le (held_from seats (s ∷ lower)) t.limit)
    (may_have_below s.limit lower seats t.class t.limit)) same
    ∙ rw (le-leb t.limit above high, le-leb (top_of lower) t.limit low, le-leb (held_from seats (s ∷ lower)) t.limit held) refl

made_here : (s t : Step) (lower : Steps) → t.class ≡ s.class → SameMarks s t → made (s ∷ lower) t ≡ t ∷ lower
made_here s t lower class marks =
    let same : (s.class == t.class) ≡ true = eq-eqb s.class t.class (sym class) in
    ap (λ (b : Bool). if b then record s { limit = t.limit; wait = t.wait } ∷ lower else s ∷ made lower t) same
    ∙ ap (λ (x : Step). x ∷ lower) (same_step (record s { limit = t.limit; wait = t.wait }) t class (record { listed = marks.listed; closed = marks.closed }) refl refl)

-- the change of a step, where there is one
abbrev IsHere : ℕ → ByClass → Step → Step → Steps → Type 0
IsHere above seats s t lower = (t.limit ≤ above) × (top_of lower ≤ t.limit) × (held_from seats (s ∷ lower) ≤ t.limit)

one_may : (R : ℕ → ℕ → Type 0) (above : ℕ) (seats : ByClass) (s t : Step) (lower : Steps) → t.class ≡ s.class
    → IsHere above seats s t lower → R s.limit t.limit → AllMay R above seats (s ∷ lower) (change_of s t)
one_may R above seats s t lower class here so = cases ((s.limit == t.limit) && (s.wait == t.wait)) where
  same : (s.class == t.class) ≡ true
  same = eq-eqb s.class t.class (sym class)

  found : IfSome (step_of (s ∷ lower) t.class) (λ x. R x.limit t.limit)
  found =
      subst (λ (o : Option Step). IfSome o (λ x. R x.limit t.limit))
      (sym (ap (λ (b : Bool). if b then Some s else step_of lower t.class) same)) so

  cases : (b : Bool) → AllMay R above seats (s ∷ lower) (if b then [] else t ∷ [])
  cases true = tt
  cases false = (may_here above seats s t lower class here.0 here.1 here.2, found, tt)

one_made : (s t : Step) (lower : Steps) → t.class ≡ s.class → SameMarks s t
    → all_made (s ∷ lower) (change_of s t) ≡ t ∷ lower
one_made s t lower class marks = cases ((s.limit == t.limit) && (s.wait == t.wait)) refl where
  cases : (b : Bool) → ((s.limit == t.limit) && (s.wait == t.wait)) ≡ b
      → all_made (s ∷ lower) (if b then [] else t ∷ []) ≡ t ∷ lower
  cases true e =
      let p = and_parts (s.limit == t.limit) (s.wait == t.wait) e in
      ap (λ (x : Step). x ∷ lower) (same_step s t class marks (eqb-true s.limit t.limit p.0) (eqb-true s.wait t.wait p.1))
  cases false e = made_here s t lower class marks

one_lacks : (k : ℕ) (s t : Step) → k ≢ s.class → t.class ≡ s.class → LacksClass k (change_of s t)
one_lacks k s t other class = cases ((s.limit == t.limit) && (s.wait == t.wait)) where
  cases : (b : Bool) → LacksClass k (if b then [] else t ∷ [])
  cases true = tt
  cases false = (λ (e : k ≡ t.class). other (e ∙ class), tt)

lacks_more : (k : ℕ) (xs ys : Steps) → LacksClass k xs → LacksClass k ys → LacksClass k (xs ++ ys)
lacks_more k [] ys a b = b
lacks_more k (x ∷ xs) ys a b = (a.0, lacks_more k xs ys a.1 b)

up_lacks : (k : ℕ) (steps new : Steps) → Alike steps new → LacksClass k steps → LacksClass k (changes_up steps new)
up_lacks k [] new is lacks = tt
up_lacks k (s ∷ lower) [] is lacks = tt
up_lacks k (s ∷ lower) (t ∷ new) is lacks =
    lacks_more k (changes_up lower new) (change_of s t) (up_lacks k lower new is.2 lacks.1) (one_lacks k s t lacks.0 is.0)

down_lacks : (k : ℕ) (steps new : Steps) → Alike steps new → LacksClass k steps → LacksClass k (changes_down steps new)
down_lacks k [] new is lacks = tt
down_lacks k (s ∷ lower) [] is lacks = tt
down_lacks k (s ∷ lower) (t ∷ new) is lacks =
    lacks_more k (change_of s t) (changes_down lower new) (one_lacks k s t lacks.0 is.0) (down_lacks k lower new is.2 lacks.1)

-- ---- cuts

pub cut_class : (o : Option Step) (lowest : ℕ) (s : Step) → ((cut_to o lowest s).class ≡ s.class) × SameMarks s (cut_to o lowest s)
cut_class None lowest s = (refl, record { listed = refl; closed = refl })
cut_class (Some w) lowest s = cases (nat_lt w.limit s.limit) where
  cases : (b : Bool) → ((if b then record s { limit = max w.limit lowest; wait = w.wait } else s).class ≡ s.class)
      × SameMarks s (if b then record s { limit = max w.limit lowest; wait = w.wait } else s)
  cases true = (refl, record { listed = refl; closed = refl })
  cases false = (refl, record { listed = refl; closed = refl })

pub cut_between : (o : Option Step) (lowest : ℕ) (s : Step) → lowest ≤ s.limit
    → (lowest ≤ (cut_to o lowest s).limit) × ((cut_to o lowest s).limit ≤ s.limit)
cut_between None lowest s le = (le, omega arith)
cut_between (Some w) lowest s le = cases (nat_lt w.limit s.limit) refl where
  cut : Step
  cut = record s { limit = max w.limit lowest; wait = w.wait }

  cases : (b : Bool) → nat_lt w.limit s.limit ≡ b
      → (lowest ≤ (if b then cut else s).limit) × ((if b then cut else s).limit ≤ s.limit)
  cases true e =
      let below : w.limit < s.limit = ltb-true w.limit s.limit e in
      (le-max_right w.limit lowest, max-le (omega (arith, below)) le)
  cases false e = (le, omega arith)

pub cut_alike : (wanted : Steps) (seats : ByClass) (steps : Steps) → Alike steps (cut_steps wanted seats steps)
cut_alike wanted seats [] = tt
cut_alike wanted seats (s ∷ lower) =
    let is = cut_class (step_of wanted s.class) (max (held_from seats (s ∷ lower)) (top_of (cut_steps wanted seats lower))) s in
    (is.0, is.1, cut_alike wanted seats lower)

-- a rank that is cut is neither below what is held nor below the next lower one, and no higher than it was
abbrev pub lowest_of : Steps → ByClass → Step → Steps → ℕ
lowest_of wanted seats s lower = max (held_from seats (s ∷ lower)) (top_of (cut_steps wanted seats lower))

pub cut_sound : (wanted : Steps) (above : ℕ) (seats : ByClass) (steps : Steps) → Sound above seats steps
    → Sound above seats (cut_steps wanted seats steps)
cut_sound wanted above seats [] is = tt
cut_sound wanted above seats (s ∷ lower) is =
    let below = cut_sound wanted s.limit seats lower is.2 in
    let new : Step = cut_to (step_of wanted s.class) (lowest_of wanted seats s lower) s in
    let le : lowest_of wanted seats s lower ≤ s.limit = max-le is.1 (top_sound s.limit seats (cut_steps wanted seats lower) below) in
    let p = cut_between (step_of wanted s.class) (lowest_of wanted seats s lower) s le in
    let held : held_from seats (new ∷ cut_steps wanted seats lower) ≡ held_from seats (s ∷ lower) =
    held_alike seats (s ∷ lower) (cut_steps wanted seats (s ∷ lower)) (cut_alike wanted seats (s ∷ lower)) in
    let one : held_from seats (s ∷ lower) ≤ lowest_of wanted seats s lower = le-max_left (held_from seats (s ∷ lower)) (top_of (cut_steps wanted seats lower)) in
    let two : top_of (cut_steps wanted seats lower) ≤ lowest_of wanted seats s lower = le-max_right (held_from seats (s ∷ lower)) (top_of (cut_steps wanted seats lower)) in
    let high : new.limit ≤ above = omega (arith, p.1, is.0) in
    let over : held_from seats (new ∷ cut_steps wanted seats lower) ≤ new.limit = omega (arith, held, one, p.0) in
    let top : top_of (cut_steps wanted seats lower) ≤ new.limit = omega (arith, two, p.0) in
    (high, over, sound_top s.limit new.limit seats (cut_steps wanted seats lower) below top)

-- what is made of a rank that is cut
record CutHere (wanted : Steps) (above : ℕ) (seats : ByClass) (s : Step) (lower : Steps) (new : Step) : Type 0 where
  class : new.class ≡ s.class
  marks : SameMarks s new
  here : IsHere above seats s new (cut_steps wanted seats lower)
  less : new.limit ≤ s.limit

cut_here : (wanted : Steps) (above : ℕ) (seats : ByClass) (s : Step) (lower : Steps) → Sound above seats (s ∷ lower)
    → CutHere wanted above seats s lower (cut_to (step_of wanted s.class) (lowest_of wanted seats s lower) s)
cut_here wanted above seats s lower is =
    let below = cut_sound wanted s.limit seats lower is.2 in
    let new : Step = cut_to (step_of wanted s.class) (lowest_of wanted seats s lower) s in
    let le : lowest_of wanted seats s lower ≤ s.limit = max-le is.1 (top_sound s.limit seats (cut_steps wanted seats lower) below) in
    let p = cut_between (step_of wanted s.class) (lowest_of wanted seats s lower) s le in
    let kind = cut_class (step_of wanted s.class) (lowest_of wanted seats s lower) s in
    let one : held_from seats (s ∷ lower) ≤ lowest_of wanted seats s lower = le-max_left (held_from seats (s ∷ lower)) (top_of (cut_steps wanted seats lower)) in
    let two : top_of (cut_steps wanted seats lower) ≤ lowest_of wanted seats s lower = le-max_right (held_from seats (s ∷ lower)) (top_of (cut_steps wanted seats lower)) in
    let held : held_from seats (s ∷ cut_steps wanted seats lower) ≡ held_from seats (s ∷ lower) =
    held_alike seats (s ∷ lower) (s ∷ cut_steps wanted seats lower) (refl, record { listed = refl; closed = refl }, cut_alike wanted seats lower) in
    let high : new.limit ≤ above = omega (arith, p.1, is.0) in
    let top : top_of (cut_steps wanted seats lower) ≤ new.limit = omega (arith, two, p.0) in
    let over : held_from seats (s ∷ cut_steps wanted seats lower) ≤ new.limit = omega (arith, held, one, p.0) in
    record { class = kind.0; marks = kind.1; here = (high, top, over); less = p.1 }

abbrev pub Cuts : ℕ → ℕ → Type 0
Cuts old new = new ≤ old

-- each cut may be made, and behind them all limits are cut
pub cuts_may : (wanted : Steps) (above : ℕ) (seats : ByClass) (steps : Steps) → Sound above seats steps → IsDistinct steps
    → AllMay Cuts above seats steps (changes_up steps (cut_steps wanted seats steps))
    × (all_made steps (changes_up steps (cut_steps wanted seats steps)) ≡ cut_steps wanted seats steps)
cuts_may wanted above seats [] is distinct = (tt, refl)
cuts_may wanted above seats (s ∷ lower) is distinct =
    let below : Steps = cut_steps wanted seats lower in
    let new : Step = cut_to (step_of wanted s.class) (lowest_of wanted seats s lower) s in
    let h = cut_here wanted above seats s lower is in
    let ups : Steps = changes_up lower below in
    let deep = cuts_may wanted s.limit seats lower is.2 distinct.1 in
    let lacks : LacksClass s.class ups = up_lacks s.class lower below (cut_alike wanted seats lower) distinct.0 in
    let mid : all_made (s ∷ lower) ups ≡ s ∷ below = made_under s lower ups lacks ∙ ap (λ (l : Steps). s ∷ l) deep.1 in (
      may_more Cuts above seats (s ∷ lower) ups (change_of s new) (may_under Cuts above seats s lower ups lacks deep.0)
          (subst (λ (l : Steps). AllMay Cuts above seats l (change_of s new)) (sym mid) (one_may Cuts above seats s new below h.class h.here h.less)),
      made_more (s ∷ lower) ups (change_of s new) ∙ ap (λ (l : Steps). all_made l (change_of s new)) mid ∙ one_made s new below h.class h.marks,
    )

-- ---- raises

pub raise_class : (o : Option Step) (highest : ℕ) (s : Step)
    → ((raise_to o highest s).class ≡ s.class) × SameMarks s (raise_to o highest s)
raise_class None highest s = (refl, record { listed = refl; closed = refl })
raise_class (Some w) highest s = cases (nat_le s.limit w.limit) where
  cases : (b : Bool) → ((if b then record s { limit = min w.limit highest; wait = w.wait } else s).class ≡ s.class)
      × SameMarks s (if b then record s { limit = min w.limit highest; wait = w.wait } else s)
  cases true = (refl, record { listed = refl; closed = refl })
  cases false = (refl, record { listed = refl; closed = refl })

raise_between : (o : Option Step) (highest : ℕ) (s : Step) → s.limit ≤ highest
    → (s.limit ≤ (raise_to o highest s).limit) × ((raise_to o highest s).limit ≤ highest)
raise_between None highest s le = (omega arith, le)
raise_between (Some w) highest s le = cases (nat_le s.limit w.limit) refl where
  new : Step
  new = record s { limit = min w.limit highest; wait = w.wait }

  cases : (b : Bool) → nat_le s.limit w.limit ≡ b
      → (s.limit ≤ (if b then new else s).limit) × ((if b then new else s).limit ≤ highest)
  cases true e = (le-min (leb-true s.limit w.limit e) le, min-le_right w.limit highest)
  cases false e = (omega arith, le)

pub raise_alike : (wanted : Steps) (highest : ℕ) (steps : Steps) → Alike steps (raise_steps wanted highest steps)
raise_alike wanted highest [] = tt
raise_alike wanted highest (s ∷ lower) =
    let is = raise_class (step_of wanted s.class) highest s in
    (is.0, is.1, raise_alike wanted (raise_to (step_of wanted s.class) highest s).limit lower)

abbrev pub Raises : ℕ → ℕ → Type 0
Raises old new = old ≤ new

-- each raise may be made, and behind them all limits are raised
pub raises_may : (wanted : Steps) (above : ℕ) (seats : ByClass) (steps : Steps) → Sound above seats steps → IsDistinct steps
    → AllMay Raises above seats steps (changes_down steps (raise_steps wanted above steps))
    × (all_made steps (changes_down steps (raise_steps wanted above steps)) ≡ raise_steps wanted above steps)
raises_may wanted above seats [] is distinct = (tt, refl)
raises_may wanted above seats (s ∷ lower) is distinct =
    let new : Step = raise_to (step_of wanted s.class) above s in
    let kind = raise_class (step_of wanted s.class) above s in
    let p = raise_between (step_of wanted s.class) above s is.0 in
    let rest : Steps = raise_steps wanted new.limit lower in
    let downs : Steps = changes_down lower rest in
    let top : top_of lower ≤ new.limit = omega (arith, top_sound s.limit seats lower is.2, p.0) in
    let over : held_from seats (s ∷ lower) ≤ new.limit = omega (arith, is.1, p.0) in
    let deep = raises_may wanted new.limit seats lower (sound_more s.limit new.limit seats lower p.0 is.2) distinct.1 in
    let lacks : LacksClass new.class downs =
    down_lacks new.class lower rest (raise_alike wanted new.limit lower) (subst (λ (k : ℕ). LacksClass k lower) (sym kind.0) distinct.0) in
    let mid : all_made (s ∷ lower) (change_of s new) ≡ new ∷ lower = one_made s new lower kind.0 kind.1 in (
      may_more Raises above seats (s ∷ lower) (change_of s new) downs (one_may Raises above seats s new lower kind.0 (p.1, top, over) p.0)
          (subst (λ (l : Steps). AllMay Raises above seats l downs) (sym mid) (may_under Raises above seats new lower downs lacks deep.0)),
      made_more (s ∷ lower) (change_of s new) downs ∙ ap (λ (l : Steps). all_made l downs) mid ∙ made_under new lower downs lacks
          ∙ ap (λ (l : Steps). new ∷ l) deep.1,
    )
