-- The indices at which a leg operates within the horizon are those from its operations ahead of it on.
use Rattle.std.proofs.Common.{◌≡◌, ℕ, ◌+◌, ◌-◌, ◌<◌, ◌≤◌, nat_le, true, false, List, [], ◌++◌, filter, map, length, max, min, ◌∷◌, sym, ap, ◌∙◌, arith, append-nil}
use Rattle.ssim_flights.proofs.Common.{range_with_len, Plan, Scheduled, AreBefore, day_at, is_in_horizon, rows, shortest}
use Rattle.std.proofs.lemmas.Bool.{and_from, and_left, and_right, le-leb, lt-leb}
use Rattle.std.proofs.lemmas.List.Elements.{All-weaker, filter-append}
use Rattle.ssim_flights.proofs.OperatingDays.{range_within}
use Rattle.ssim_flights.proofs.Repeating.{keep_all, keep_none, range_parts}

module _ (plan : Plan) (leg : Scheduled) (ahead within count : ℕ) (before : AreBefore (map (λ o. o.day) leg.operations) plan.first ahead) (until : AreBefore (map (λ o. o.day) leg.operations) (plan.last + 1) within) (short : count ≤ length (map (λ o. o.day) leg.operations)) where
  pub none_ahead : (n : ℕ) → n ≡ min ahead count
      → filter (λ i. is_in_horizon plan (day_at leg i)) (range_with_len 0 n) ≡ []
  none_ahead n e =
      keep_none (λ i. is_in_horizon plan (day_at leg i)) (range_with_len 0 n)
      (All-weaker (λ i. (0 ≤ i) × (i < 0 + n)) (λ i. is_in_horizon plan (day_at leg i) ≡ false)
      (λ i h. let early : day_at leg i < plan.first = before.before i (omega arith) in and_left (nat_le plan.first (day_at leg i)) (nat_le (day_at leg i) plan.last) (lt-leb plan.first (day_at leg i) early))
      (range_with_len 0 n) (range_within 0 n))

  pub each_within : (i : ℕ) → min ahead count ≤ i → i < min within count → is_in_horizon plan (day_at leg i) ≡ true
  each_within i low high =
      let begun : plan.first ≤ day_at leg i = before.behind i (omega arith) (omega arith) in
      let lasts : day_at leg i < plan.last + 1 = until.before i (omega arith) in
      and_from (nat_le plan.first (day_at leg i)) (nat_le (day_at leg i) plan.last) (le-leb plan.first (day_at leg i) begun) (le-leb (day_at leg i) plan.last (omega arith))

  pub none_behind : (i : ℕ) → min within count ≤ i → i ≤ count
      → filter (λ i. is_in_horizon plan (day_at leg i)) (range_with_len 0 count)
      ≡ filter (λ i. is_in_horizon plan (day_at leg i)) (range_with_len 0 i)
  none_behind i low high =
      let test = λ (k : ℕ). is_in_horizon plan (day_at leg k) in
      let rest = range_with_len i (count - i) in
      let none : filter test rest ≡ [] =
      keep_none test rest
      (All-weaker (λ k. (i ≤ k) × (k < i + (count - i))) (λ k. test k ≡ false)
      (λ k h. let late : plan.last + 1 ≤ day_at leg k = until.behind k (omega arith) (omega arith) in and_right (nat_le plan.first (day_at leg k)) (nat_le (day_at leg k) plan.last) (lt-leb (day_at leg k) plan.last (omega arith)))
      rest (range_within i (count - i))) in
      ap (filter test) (range_parts 0 i (count - i) count i (omega arith) (omega arith)) ∙ filter-append test (range_with_len 0 i) rest
      ∙ ap (λ xs. filter test (range_with_len 0 i) ++ xs) none ∙ append-nil (filter test (range_with_len 0 i))

  -- so the rows are the indices in between
  pub between : (begin end : ℕ) → begin ≡ min ahead count → end ≡ max (min within count) begin
      → filter (λ i. is_in_horizon plan (day_at leg i)) (range_with_len 0 count) ≡ range_with_len begin (end - begin)
  between begin end e f =
      let test = λ (k : ℕ). is_in_horizon plan (day_at leg k) in
      let middle = range_with_len begin (end - begin) in
      let all : filter test middle ≡ middle =
      keep_all test middle
      (All-weaker (λ k. (begin ≤ k) × (k < begin + (end - begin))) (λ k. test k ≡ true) (λ k h. each_within k (omega arith) (omega arith)) middle (range_within begin (end - begin))) in
      none_behind end (omega arith) (omega arith) ∙ ap (filter test) (range_parts 0 begin (end - begin) end begin (omega arith) (omega arith)) ∙ filter-append test (range_with_len 0 begin) middle
      ∙ ap (λ xs. xs ++ filter test middle) (none_ahead begin e) ∙ all

  pub rows_are : (first : Scheduled) (rest legs : List Scheduled) (begin end : ℕ) → first ≡ leg
      → legs ≡ first ∷ rest → count ≡ shortest (length first.operations) rest → begin ≡ min ahead count
      → end ≡ max (min within count) begin → range_with_len begin (end - begin) ≡ rows plan legs
  unfolding rows
  rows_are first rest legs begin end same parts n e f =
      sym (between begin end e f) ∙ ap (λ k. filter (λ i. is_in_horizon plan (day_at leg i)) (range_with_len 0 k)) n
      ∙ ap (λ (l : Scheduled). filter (λ i. is_in_horizon plan (day_at l i)) (range_with_len 0 (shortest (length first.operations) rest))) (sym same) ∙ ap (rows plan) (sym parts)
