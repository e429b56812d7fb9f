-- Ladders that have room as they are, and legs whose limits stay.
use Rattle.std.proofs.Common.{◌≡◌, ◌≤◌, ◌<◌, ◌+◌, ◌++◌, ◌∷◌, [], ℕ, List, length, drop, get_or, min, max, Option, Some, arith, refl, ap, sym, subst, ◌∙◌, append_assoc}
use Rattle.std.specs.List.{AllByRecursion, flat_map}
use Rattle.std.proofs.Math.Nat.{min-eq_left, min-eq_right}
use Rattle.std.proofs.lemmas.List.{append-nil}
use Rattle.std.proofs.lemmas.List.Concat.{flat_map-append}
use Rattle.seat_nesting.specs.Nesting.{ByClass, IsLadder, IsNotRising, Ladders, Steps, held_from, ladder_at}
use Rattle.seat_nesting.specs.Changing.{step_of}
use Rattle.seat_nesting.specs.declared.ladder.Step.{Step}
use Rattle.seat_nesting.proofs.Rooms.{held_cons}
use Rattle.seat_rules.specs.Sequential.{State, state_of}
use Rattle.seat_carrying.specs.Lifting.{lifted, top_of}
use Rattle.limit_changes.specs.Laws.{HasWanted}
use Rattle.limit_changes.specs.Legs.{each_from}
use Rattle.limit_changes.specs.Rows.{cuts_of, raises_of, rows, steps_now, wanted_on}
use Rattle.limit_changes.specs.declared.legs.NamedLeg.{NamedLeg}
use Rattle.limit_changes.specs.declared.rows.Row.{Row}
use Rattle.limit_changes.proofs.Falling.{nothing_is_left}
use Rattle.limit_changes.proofs.Keeping.{part_more, parts_whole}
use Rattle.carry_limits.specs.Filed.{HaveRoom, HaveRowsOf, HoldsRoomy, IsNested, IsRoomy}
use Rattle.carry_limits.specs.Legs.{HasLegsOf}
use Rattle.carry_limits.specs.Lifting.{FileNests}
use Rattle.carry_limits.specs.Overs.{most_counted}
use Rattle.carry_limits.specs.declared.wanting.Seasons.{Seasons}

-- ---- room

pub roomy_none : (steps : Steps) (seats waits : ByClass) → steps ≡ [] → HoldsRoomy steps seats waits 0
roomy_none steps seats waits none =
    subst (λ (l : Steps). HoldsRoomy l seats waits 0) (sym none) (record { held = refl; rooms = tt })

pub roomy_more : (steps : Steps) (s : Step) (lower : Steps) (seats waits : ByClass) (below held waiting count : ℕ) → steps ≡ s ∷ lower
    → HoldsRoomy lower seats waits below → held ≡ min most_counted (seats s.class) → waiting ≡ min most_counted (waits s.class)
    → count ≡ min (below + held) most_counted → count ≤ s.limit → s.limit ≤ 65535 → waiting ≤ s.wait → s.wait ≤ 65535
    → HoldsRoomy steps seats waits count
roomy_more steps s lower seats waits below held waiting count are so_far counted waited is fits few wait_fits wait_few =
    subst (λ (l : Steps). HoldsRoomy l seats waits count) (sym are) (record { held = here; rooms = (room, wait, so_far.rooms) })
  where
    here : count ≡ held_from seats (s ∷ lower)
    here = omega (arith, so_far.held, counted, is, fits, few, held_cons seats s lower)

    room : held_from seats (s ∷ lower) ≤ s.limit
    room = omega (arith, here, fits)

    wait : waits s.class ≤ s.wait
    wait = omega (arith, waited, wait_fits, wait_few)

pub roomy_of : (steps : Steps) (seats waits : ByClass) (count : ℕ) → HoldsRoomy steps seats waits count → IsRoomy steps seats waits
roomy_of steps seats waits count roomy = record { rooms = roomy.rooms }

-- what has room is lifted to itself
none_lifted : (top : ℕ) (seats waits : ByClass) (steps : Steps) → AllByRecursion (λ s. s.limit ≤ top) steps
    → AllByRecursion (λ s. (s.limit ≤ 999) × (s.wait ≤ 999)) steps → HaveRoom seats waits steps → lifted top seats waits steps ≡ steps
none_lifted top seats waits [] under few rooms = refl
none_lifted top seats waits (s ∷ lower) under few rooms =
    ap (λ (n : ℕ). record s { limit = n; wait = min 999 (max s.wait (waits s.class)) } ∷ lifted top seats waits lower) limit
    ∙ ap (λ (n : ℕ). record s { wait = n } ∷ lifted top seats waits lower) wait
    ∙ ap (λ (l : Steps). s ∷ l) (none_lifted top seats waits lower under.1 few.1 rooms.2)
  where
    limit : min top (max s.limit (held_from seats (s ∷ lower))) ≡ s.limit
    limit = omega (arith, under.0, rooms.0)

    wait : min 999 (max s.wait (waits s.class)) ≡ s.wait
    wait = omega (arith, few.0.1, rooms.1)

file_lifted : (seats waits : ByClass) (file : Steps) → IsLadder file → HaveRoom seats waits file → lifted (top_of file) seats waits file ≡ file
file_lifted seats waits [] ladder rooms = refl
file_lifted seats waits (s ∷ lower) ladder rooms =
    let le : s.limit ≤ s.limit = omega arith in
    none_lifted s.limit seats waits (s ∷ lower) (le, ladder.not_rising.0) ladder.bounded rooms

pub roomy_file : (ladder file steps : Steps) (seats waits : ByClass) → IsLadder file → steps ≡ file → IsRoomy steps seats waits
    → ladder ≡ file → ladder ≡ lifted (top_of file) seats waits file
roomy_file ladder file steps seats waits is same roomy mine =
    mine ∙ sym (file_lifted seats waits file is (subst (λ (l : Steps). HaveRoom seats waits l) same roomy.rooms))

-- ---- rows

pub nested_of : (s : Seasons) → FileNests s → HasLegsOf s.file.now s.flights.now → IsNested s.file.now
nested_of s file has = record { ladders = file.nests has }

none_of_both : (xs ys : List Row) → xs ++ ys ≡ [] → (xs ≡ []) × (ys ≡ [])
none_of_both [] ys e = (refl, e)
none_of_both (x ∷ xs) ys e = absurd cc

pub leg_same : (wanted file : Ladders) (leg : NamedLeg) (all : List NamedLeg) (steps others : Steps) → IsNested file
    → steps ≡ ladder_at file leg.flight leg.leg → others ≡ ladder_at wanted leg.flight leg.leg → steps ≡ others
    → HaveRowsOf wanted (state_of file []) all (all ++ leg ∷ [])
leg_same wanted file leg all steps others nested its theirs same =
    record { cuts = stays (cuts_of wanted (state_of file [])) none.0; raises = stays (raises_of wanted (state_of file [])) none.1 }
  where
    alike : steps_now (state_of file []) leg ≡ wanted_on wanted leg
    alike = sym its ∙ same ∙ theirs

    has : HasWanted (steps_now (state_of file []) leg) (wanted_on wanted leg)
    has = record { each = λ class now w here there. both class now w here there } where
      both : (class : ℕ) (now w : Step) → step_of (steps_now (state_of file []) leg) class ≡ Some now → step_of (wanted_on wanted leg) class ≡ Some w
          → (now.limit ≡ w.limit) × (now.wait ≡ w.wait)
      both class now w here there =
          let one : Some now ≡ Some w = sym here ∙ ap (λ (l : Steps). step_of l class) alike ∙ there in
          let is : now ≡ w = cc in
          (ap (λ (t : Step). t.limit) is, ap (λ (t : Step). t.wait) is)

    none : (flat_map (cuts_of wanted (state_of file [])) (leg ∷ []) ≡ []) × (flat_map (raises_of wanted (state_of file [])) (leg ∷ []) ≡ [])
    none =
        none_of_both (flat_map (cuts_of wanted (state_of file [])) (leg ∷ [])) (flat_map (raises_of wanted (state_of file [])) (leg ∷ []))
        (nothing_is_left wanted (state_of file []) (leg ∷ []) nested.ladders (has, tt))

    stays : (part : NamedLeg → List Row) → flat_map part (leg ∷ []) ≡ [] → flat_map part all ≡ flat_map part (all ++ leg ∷ [])
    stays part is =
        sym (flat_map-append part all (leg ∷ []) ∙ ap (λ (l : List Row). flat_map part all ++ l) is ∙ append-nil (flat_map part all))

pub leg_other : (wanted : Ladders) (s : State) (old new : List NamedLeg) (leg : NamedLeg) → new ≡ old ++ leg ∷ []
    → HaveRowsOf wanted s new (old ++ leg ∷ [])
leg_other wanted s old new leg is = record { cuts = ap (flat_map (cuts_of wanted s)) is; raises = ap (flat_map (raises_of wanted s)) is }

module _ (wanted : Ladders) (s : State) where
  pub rows_self : (legs all : List NamedLeg) → legs ≡ all → HaveRowsOf wanted s legs all
  rows_self legs all is = record { cuts = ap (flat_map (cuts_of wanted s)) is; raises = ap (flat_map (raises_of wanted s)) is }

  through : (legs mid all : List NamedLeg) → HaveRowsOf wanted s legs mid → HaveRowsOf wanted s mid all → HaveRowsOf wanted s legs all
  through legs mid all a b = record { cuts = a.cuts ∙ b.cuts; raises = a.raises ∙ b.raises }

  ahead : (legs all more : List NamedLeg) → HaveRowsOf wanted s legs all → HaveRowsOf wanted s (legs ++ more) (all ++ more)
  ahead legs all more a = record { cuts = by (cuts_of wanted s) a.cuts; raises = by (raises_of wanted s) a.raises } where
    by : (part : NamedLeg → List Row) → flat_map part legs ≡ flat_map part all → flat_map part (legs ++ more) ≡ flat_map part (all ++ more)
    by part e =
        flat_map-append part legs more ∙ ap (λ (l : List Row). l ++ flat_map part more) e ∙ sym (flat_map-append part all more)

  -- those of one item more
  pub rows_more : {A : Type 0} (part : ℕ → A → List NamedLeg) (k next i : ℕ) (xs : List A) (x : A) (mid new whole : List NamedLeg)
      → HaveRowsOf wanted s (mid ++ each_from part k (drop i xs)) whole → i < length xs → x ≡ get_or xs i x
      → HaveRowsOf wanted s new (mid ++ part k x) → next ≡ k + 1
      → HaveRowsOf wanted s (new ++ each_from part next (drop (i + 1) xs)) whole
  rows_more part k next i xs x mid new whole so_far inside here added is_next =
      through (new ++ each_from part next (drop (i + 1) xs)) ((mid ++ part k x) ++ each_from part next (drop (i + 1) xs)) whole
      (ahead new (mid ++ part k x) (each_from part next (drop (i + 1) xs)) added)
      (subst (λ (l : List NamedLeg). HaveRowsOf wanted s l whole)
      (sym (part_more part k next i xs x mid (mid ++ part k x) (mid ++ each_from part k (drop i xs)) refl inside here refl is_next)) so_far)

  pub rows_whole : {A : Type 0} (part : ℕ → A → List NamedLeg) (k i count : ℕ) (xs : List A) (all whole : List NamedLeg)
      → HaveRowsOf wanted s (all ++ each_from part k (drop i xs)) whole → count ≡ length xs → count ≤ i → HaveRowsOf wanted s all whole
  rows_whole part k i count xs all whole so_far counted over =
      subst (λ (l : List NamedLeg). HaveRowsOf wanted s l whole)
      (sym (parts_whole part k i count xs all (all ++ each_from part k (drop i xs)) refl counted over)) so_far

pub rows_of_all : (wanted : Ladders) (s : State) (legs all : List NamedLeg) (found : List Row) → HaveRowsOf wanted s legs all
    → found ≡ rows wanted s legs → found ≡ rows wanted s all
rows_of_all wanted s legs all found same are =
    are ∙ ap (λ (l : List Row). l ++ flat_map (raises_of wanted s) legs) same.cuts
    ∙ ap (λ (l : List Row). flat_map (cuts_of wanted s) all ++ l) same.raises

pub rows_of_none : (wanted : Ladders) (s : State) (legs : List NamedLeg) → legs ≡ [] → [] ≡ rows wanted s legs
rows_of_none wanted s legs none = ap (rows wanted s) (sym none)
