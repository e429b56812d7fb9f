-- The sums of rows by group, one row after the other.
use Rattle.std.proofs.Common.{◌≡◌, ◌==◌, ℕ, ◌+◌, ◌<◌, ◌≤◌, List, length, take, replicate, get_or, ap, subst, ◌∙◌, arith, if◌then◌else◌}
use Rattle.std.proofs.lemmas.List.{get_or-replicate, get_or_default, length-replicate, take_all}
use Rattle.std.proofs.lemmas.List.Sums.{sum_by_more}
use Rattle.seat_pickup.specs.Counting.{AddsAt}
use Rattle.seat_pickup.specs.declared.classes.Pickup.{Pickup}
use Rattle.pickup_questions.specs.Groups.{AreMoved, AreSums, counts_in, group_of, move_of, sum_in, sums_in}
use Rattle.pickup_questions.specs.declared.groups.Move.{Move}
use Rattle.pickup_questions.specs.declared.moved.Moved.{Moved}
use Rattle.seat_pickup.specs.declared.moved.MoveSums.{MoveSums}

pub moved_none : (group : Pickup → ℕ) (count : ℕ) (of : Move) (all : List Pickup) (row : List ℕ) → row ≡ replicate count 0
    → AreMoved group count of (take 0 all) row
moved_none group count of all row is = record {
  counted = ap (λ (l : List ℕ). length l) is ∙ length-replicate count 0;
  each = λ k inside. ap (λ (l : List ℕ). get_or l k 0) is ∙ get_or-replicate count k 0 0 inside;
}

pub moved_more : (group : Pickup → ℕ) (count : ℕ) (of : Move) (all : List Pickup) (i : ℕ) (p : Pickup) (place seats : ℕ) (old new : List ℕ)
    → AreMoved group count of (take i all) old → i < length all → p ≡ get_or all i p → place ≡ group p → seats ≡ move_of of p
    → AddsAt place seats old new → AreMoved group count of (take (i + 1) all) new
moved_more group count of all i p place seats old new so_far lt is at much adds = record {
  counted = adds.counted ∙ so_far.counted;
  each = λ k inside.
      let here : k < length old = omega (arith, inside, so_far.counted) in
      let a : get_or old k 0 ≡ sum_in group k of (take i all) = so_far.each k inside in
      let b : get_or new k 0 ≡ get_or old k 0 + (if k == place then seats else 0) = adds.each k here in
      let one : (if k == place then seats else 0) ≡ counts_in group k of p =
      ap (λ (n : ℕ). if k == n then seats else 0) at ∙ ap (λ (n : ℕ). if k == group p then n else 0) much in
      let same : counts_in group k of p ≡ counts_in group k of (get_or all i p) = ap (λ (x : Pickup). counts_in group k of x) is in
      let grown : sum_in group k of (take (i + 1) all) ≡ sum_in group k of (take i all) + counts_in group k of (get_or all i p) =
      sum_by_more (counts_in group k of) all i p lt in
      omega (arith, a, b, one, same, grown);
}

pub moved_all : (group : Pickup → ℕ) (count : ℕ) (of : Move) (all : List Pickup) (i : ℕ) (row : List ℕ)
    → AreMoved group count of (take i all) row → length all ≤ i → AreMoved group count of all row
moved_all group count of all i row so_far over = subst (λ (l : List Pickup). AreMoved group count of l row) (take_all i all over) so_far

-- ---- the sums of a group

pub within : (group : Pickup → ℕ) (count : ℕ) (of : Move) (all : List Pickup) (row : List ℕ) (k : ℕ) → AreMoved group count of all row
    → k < count → k < length row
within group count of all row k are inside = omega (arith, are.counted, inside)

sums_are : (a b : MoveSums) → a.before ≡ b.before → a.sold ≡ b.sold → a.cancelled ≡ b.cancelled → a.confirmed ≡ b.confirmed
    → a.held ≡ b.held → a ≡ b
sums_are a b e f g h k = λ i. record { before = e i; sold = f i; cancelled = g i; confirmed = h i; held = k i }

one_sum : (group : Pickup → ℕ) (count : ℕ) (of : Move) (all : List Pickup) (row : List ℕ) (k n : ℕ) → AreMoved group count of all row
    → k < count → n ≡ get_or row k n → n ≡ sum_in group k of all
one_sum group count of all row k n are inside is =
    is ∙ get_or_default row k n 0 (within group count of all row k are inside) ∙ are.each k inside

pub are_sums : (moved : Moved) (k : ℕ) (sums : MoveSums) → AreSums moved → k < moved.count
    → sums.before ≡ get_or moved.before.items k sums.before → sums.sold ≡ get_or moved.sold.items k sums.sold
    → sums.cancelled ≡ get_or moved.cancelled.items k sums.cancelled → sums.confirmed ≡ get_or moved.confirmed.items k sums.confirmed
    → sums.held ≡ get_or moved.held.items k sums.held → sums ≡ sums_in (group_of moved.groups) k moved.all.now
are_sums moved k sums are inside before sold cancelled confirmed held =
    sums_are sums (sums_in (group_of moved.groups) k moved.all.now)
    (one_sum (group_of moved.groups) moved.count _ moved.all.now moved.before.items k sums.before are.before inside before)
    (one_sum (group_of moved.groups) moved.count _ moved.all.now moved.sold.items k sums.sold are.sold inside sold)
    (one_sum (group_of moved.groups) moved.count _ moved.all.now moved.cancelled.items k sums.cancelled are.cancelled inside cancelled)
    (one_sum (group_of moved.groups) moved.count _ moved.all.now moved.confirmed.items k sums.confirmed are.confirmed inside confirmed)
    (one_sum (group_of moved.groups) moved.count _ moved.all.now moved.held.items k sums.held are.held inside held)
