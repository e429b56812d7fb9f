-- One order after another is answered.
use Rattle.std.proofs.Common.{◌≡◌, ℕ, ◌+◌, ◌<◌, ◌≤◌, List, [], ◌∷◌, ◌++◌, length, take, get_or, arith, refl, sym, ap, subst, ◌∙◌}
use Rattle.std.specs.List.{flat_map}
use Rattle.std.proofs.lemmas.List.{append-nil, flat_map_more, length-take-le, length_push, take_more}
use Rattle.seat_nesting.specs.Nesting.{Ladders}
use Rattle.seat_journal.specs.declared.entry.Entry.{Entry}
use Rattle.seat_journal.specs.declared.entry.Work.{Work}
use Rattle.seat_core.specs.declared.balance.Balance.{Balance}
use Rattle.seat_core.specs.Balances.{count_of, grid_of, Leave}
use Rattle.seat_reports.specs.LadderDesk.{entry_text, line_for, lines_after}

-- the lines of the first i orders leave the balance, and stand written behind what was there
pub record IsAnsweredTo (grid : Ladders) (orders : List Work) (i : ℕ) (before text : List ℕ) (balance : Balance)
    : Type 0 where
  pub grid_is : grid_of balance ≡ grid
  pub left : Leave (lines_after grid [] (take i orders)) balance
  pub written : text ≡ before ++ flat_map entry_text (lines_after grid [] (take i orders))

pub none_yet : (orders : List Work) (before : List ℕ) (balance : Balance) → Leave [] balance
    → IsAnsweredTo (grid_of balance) orders 0 before before balance
none_yet orders before balance left = record { grid_is = refl; left = left; written = sym (append-nil before) }

lines_push : (grid : Ladders) (past : List Entry) (ws : List Work) (w : Work)
    → lines_after grid past (ws ++ w ∷ [])
    ≡ lines_after grid past ws ++ line_for grid (lines_after grid past ws) w ∷ []
lines_push grid past [] w = refl
lines_push grid past (x ∷ ws) w = lines_push grid (past ++ line_for grid past x ∷ []) ws w

count_lines : (grid : Ladders) (past : List Entry) (ws : List Work)
    → length (lines_after grid past ws) ≡ length past + length ws
count_lines grid past [] = omega arith
count_lines grid past (w ∷ ws) =
    let rest : length (lines_after grid (past ++ line_for grid past w ∷ []) ws) ≡ length (past ++ line_for grid past w ∷ []) + length ws = count_lines grid (past ++ line_for grid past w ∷ []) ws in
    omega (arith, rest, length_push past (line_for grid past w))

-- so there is room for one line more
pub below : (grid : Ladders) (orders : List Work) (i : ℕ) (before text : List ℕ) (balance : Balance)
    → IsAnsweredTo grid orders i before text balance → i < length orders → length orders ≤ 999999
    → count_of balance < 999999
below grid orders i before text balance so_far in_range few =
    let count : count_of balance ≡ length (lines_after grid [] (take i orders)) = so_far.left.count in
    omega (arith, in_range, few, count, count_lines grid [] (take i orders), length-take-le i orders (omega arith))

pub one_more : (grid : Ladders) (orders : List Work) (i : ℕ) (order : Work) (before text text' : List ℕ)
    (old new : Balance) → IsAnsweredTo grid orders i before text old
    → i < length orders → order ≡ get_or orders i order
    → ((past : List Entry) → Leave past old → text' ≡ text ++ entry_text (line_for (grid_of old) past order))
    → ((past : List Entry) → Leave past old → Leave (past ++ line_for (grid_of old) past order ∷ []) new)
    → grid_of new ≡ grid_of old → IsAnsweredTo grid orders (i + 1) before text' new
one_more grid orders i order before text text' old new so_far in_range here adds leaves same = record {
  grid_is = same ∙ so_far.grid_is;
  left = subst (λ (l : List Entry). Leave l new) (sym lines) (subst (λ (g : Ladders). Leave (past ++ line_for g past order ∷ []) new) so_far.grid_is (leaves past so_far.left));
  written =
      adds past so_far.left
      ∙ (ap (λ (g : Ladders). text ++ entry_text (line_for g past order)) so_far.grid_is
      ∙ (ap (λ (t : List ℕ). t ++ entry_text (line_for grid past order)) so_far.written
      ∙ (flat_map_more entry_text before past (line_for grid past order) ∙ ap (λ (l : List Entry). before ++ flat_map entry_text l) (sym lines))));
} where
  past : List Entry
  past = lines_after grid [] (take i orders)

  lines : lines_after grid [] (take (i + 1) orders) ≡ past ++ line_for grid past order ∷ []
  lines =
      ap (lines_after grid []) (take_more orders i order in_range ∙ ap (λ (w : Work). take i orders ++ w ∷ []) (sym here))
      ∙ lines_push grid [] (take i orders) order
