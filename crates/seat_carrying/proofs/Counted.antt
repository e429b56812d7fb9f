-- Seats counted up to 1,000 lift limits as all of them do.
use Rattle.std.proofs.Common.{◌≡◌, ℕ, zero, suc, ◌+◌, ◌≤◌, ◌<◌, min, max, [], ◌∷◌, ◌++◌, length, take, drop, get_or, slice_set, arith, refl, ap, sym, ◌∙◌}
use Rattle.seat_nesting.specs.declared.ladder.Step.{Step}
use Rattle.std.specs.List.{AllByRecursion}
use Rattle.seat_nesting.specs.Nesting.{ByClass, IsDistinct, IsLadder, LacksClass, Steps, held_from}
use Rattle.seat_nesting.proofs.Rooms.{drop_first, held_cons}
use Rattle.seat_carrying.proofs.Lifted.{lifted_falls}
use Rattle.seat_carrying.specs.Lifting.{lifted, lifted_step}

-- from this rank on the steps are lifted, and those above it are as they were; so much is held from it on
pub record AreLiftedFrom (steps : Steps) (top : ℕ) (seats waits : ByClass) (rank count : ℕ) (new : Steps) : Type 0 where
  pub in_range : rank ≤ length steps
  pub counted : count ≡ min 1000 (held_from seats (drop rank steps))
  pub steps_are : new ≡ take rank steps ++ lifted top seats waits (drop rank steps)

set_last : (xs : Steps) (r : ℕ) (v : Step) (more : Steps) → r < length xs
    → slice_set (take (suc r) xs ++ more) r v ≡ take r xs ++ v ∷ more
set_last [] r v more h = absurd (omega (arith, h))
set_last (x ∷ xs) zero v more h = refl
set_last (x ∷ xs) (suc r) v more h = ap (λ (l : Steps). x ∷ l) (set_last xs r v more (omega (arith, h)))

-- one rank more
pub lifted_next : (steps : Steps) (top : ℕ) (seats waits : ByClass) (rank below : ℕ) (count more waiting now : ℕ) (old : Steps) (step new : Step)
    → top ≤ 999 → below ≡ rank + 1 → rank < length steps → step ≡ get_or steps rank step
    → AreLiftedFrom steps top seats waits below count old
    → more ≡ min 1000 (seats step.class) → waiting ≡ min 1000 (waits step.class) → now ≡ min (count + more) 1000
    → new ≡ record step { limit = min top (max step.limit now); wait = min 999 (max step.wait waiting) }
    → AreLiftedFrom steps top seats waits rank now (slice_set old rank new)
lifted_next steps top seats waits rank below count more waiting now old step new few next inside here so_far is_more is_waiting is_now is_new =
    let front : drop rank steps ≡ step ∷ drop below steps = drop_first steps rank below step next inside here in
    let all : held_from seats (drop rank steps) ≡ seats step.class + held_from seats (drop below steps) =
    ap (held_from seats) front ∙ held_cons seats step (drop below steps) in
    let counted : now ≡ min 1000 (held_from seats (drop rank steps)) = omega (arith, all, so_far.counted, is_more, is_now) in
    let limit : min top (max step.limit now) ≡ min top (max step.limit (held_from seats (step ∷ drop below steps))) =
    omega (arith, counted, all, few, held_cons seats step (drop below steps)) in
    let wait : min 999 (max step.wait waiting) ≡ min 999 (max step.wait (waits step.class)) = omega (arith, is_waiting) in
    let lifted_here : new ≡ lifted_step top seats waits (drop below steps) step =
    is_new ∙ ap (λ (l : ℕ). record step { limit = l; wait = min 999 (max step.wait waiting) }) limit
    ∙ ap (λ (w : ℕ). record step { limit = min top (max step.limit (held_from seats (step ∷ drop below steps))); wait = w }) wait in
    let one : below ≡ suc rank = omega (arith, next) in
    let steps_then : slice_set old rank new ≡ take rank steps ++ new ∷ lifted top seats waits (drop below steps) =
    ap (λ (l : Steps). slice_set l rank new) (so_far.steps_are ∙ ap (λ (k : ℕ). take k steps ++ lifted top seats waits (drop below steps)) one)
    ∙ set_last steps rank new (lifted top seats waits (drop below steps)) inside in
    record {
      in_range = omega (arith, inside);
      counted = counted;
      steps_are = steps_then
          ∙ ap (λ (s : Step). take rank steps ++ s ∷ lifted top seats waits (drop below steps)) lifted_here
          ∙ ap (λ (l : Steps). take rank steps ++ lifted top seats waits l) (sym front);
    }

-- ---- what is lifted is a ladder

length_lifted : (top : ℕ) (seats waits : ByClass) (steps : Steps) → length (lifted top seats waits steps) ≡ length steps
length_lifted top seats waits [] = refl
length_lifted top seats waits (s ∷ lower) = ap (λ (n : ℕ). suc n) (length_lifted top seats waits lower)

lacks_lifted : (top : ℕ) (seats waits : ByClass) (class : ℕ) (steps : Steps) → LacksClass class steps
    → LacksClass class (lifted top seats waits steps)
lacks_lifted top seats waits class [] lacks = tt
lacks_lifted top seats waits class (s ∷ lower) lacks = (lacks.0, lacks_lifted top seats waits class lower lacks.1)

distinct_lifted : (top : ℕ) (seats waits : ByClass) (steps : Steps) → IsDistinct steps → IsDistinct (lifted top seats waits steps)
distinct_lifted top seats waits [] d = tt
distinct_lifted top seats waits (s ∷ lower) d = (lacks_lifted top seats waits s.class lower d.0, distinct_lifted top seats waits lower d.1)

bounded_lifted : (top : ℕ) (seats waits : ByClass) (steps : Steps) → top ≤ 999
    → AllByRecursion (λ (s : Step). (s.limit ≤ 999) × (s.wait ≤ 999)) (lifted top seats waits steps)
bounded_lifted top seats waits [] few = tt
bounded_lifted top seats waits (s ∷ lower) few = ((omega (arith, few), omega arith), bounded_lifted top seats waits lower few)

pub lifted_is_ladder : (top : ℕ) (steps : Steps) (seats waits : ByClass) → top ≤ 999 → IsLadder steps
    → IsLadder (lifted top seats waits steps)
lifted_is_ladder top steps seats waits few is = record {
  some = omega (arith, is.some, length_lifted top seats waits steps);
  most = omega (arith, is.most, length_lifted top seats waits steps);
  distinct = distinct_lifted top seats waits steps is.distinct;
  not_rising = lifted_falls top seats waits steps is.not_rising;
  bounded = bounded_lifted top seats waits steps few;
}
