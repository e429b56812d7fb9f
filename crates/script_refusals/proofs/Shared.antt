-- What a list and the rows of a session have in common.
use Rattle.std.proofs.Common.{◌≡◌, ℕ, ◌≤◌, true, false, ◌==◌, List, [], ◌∷◌, ◌++◌, length, drop, refl, sym, ap, ◌∙◌, append_assoc, arith}
use Rattle.std.specs.List.{count_by}
use Rattle.std.proofs.lemmas.Bool.Decides.{nat_tests}
use Rattle.std.proofs.lemmas.List.Sums.{count_by-le-length}
use Rattle.airline_base.specs.Lines.{is_line_feed}
use Rattle.script_refusals.specs.Listing.{IsBehind, behind_row, begin_alike, row_on, rows_behind}
use Rattle.script_refusals.proofs.Lines.{cases}

pub feeds_within : (bytes : List ℕ) → count_by is_line_feed bytes ≤ length bytes
feeds_within = count_by-le-length is_line_feed

-- both are the same ahead of the row, and from the row on the same up to here
pub record IsAlong (all_listed all_rows row listed rows : List ℕ) : Type 0 where
  pub front : List ℕ
  pub begun : List ℕ
  pub in_list : all_listed ≡ front ++ row
  pub in_row : row ≡ begun ++ listed
  pub in_rows : all_rows ≡ front ++ (begun ++ rows)

equal : (a b : ℕ) → (a == b) ≡ true → a ≡ b
equal a b e = grind (arith, nat_tests, e)

stopped : (all_listed all_rows row listed rows : List ℕ) → IsAlong all_listed all_rows row listed rows
    → IsBehind all_listed all_rows row
stopped all_listed all_rows row listed rows h = record {
  front = h.front;
  more = h.begun ++ rows;
  in_list = h.in_list;
  in_rows = h.in_rows;
}

pushed : (c : ℕ) (xs ys : List ℕ) → xs ++ (c ∷ ys) ≡ (xs ++ c ∷ []) ++ ys
pushed c xs ys = sym (append_assoc xs (c ∷ []) ys)

on : (all_listed all_rows row listed rows : List ℕ) (a b : ℕ) → a ≡ b
    → IsAlong all_listed all_rows row (a ∷ listed) (b ∷ rows) → IsAlong all_listed all_rows row listed rows
on all_listed all_rows row listed rows a b e h = record {
  front = h.front;
  begun = h.begun ++ a ∷ [];
  in_list = h.in_list;
  in_row = h.in_row ∙ pushed a h.begun listed;
  in_rows = h.in_rows ∙ ap (λ (xs : List ℕ). h.front ++ xs) (ap (λ (c : ℕ). h.begun ++ (c ∷ rows)) (sym e) ∙ pushed a h.begun rows);
}

ended : (all_listed all_rows row listed rows : List ℕ) → IsAlong all_listed all_rows row listed rows
    → IsAlong all_listed all_rows listed listed rows
ended all_listed all_rows row listed rows h = record {
  front = h.front ++ h.begun;
  begun = [];
  in_list = h.in_list ∙ ap (λ (xs : List ℕ). h.front ++ xs) h.in_row ∙ sym (append_assoc h.front h.begun listed);
  in_row = refl;
  in_rows = h.in_rows ∙ sym (append_assoc h.front h.begun rows);
}

along : (all_listed all_rows row listed rows : List ℕ) → IsAlong all_listed all_rows row listed rows
    → IsBehind all_listed all_rows (behind_row row listed rows)
along all_listed all_rows row [] rows h = stopped all_listed all_rows row [] rows h
along all_listed all_rows row (a ∷ listed) [] h = stopped all_listed all_rows row (a ∷ listed) [] h
along all_listed all_rows row (a ∷ listed) (b ∷ rows) h = cases (a == b) (a == b) refl
    (λ e. rw e (cases (is_line_feed a) (is_line_feed a) refl
    (λ f. rw f (along all_listed all_rows listed listed rows (ended all_listed all_rows row listed rows (on all_listed all_rows row listed rows a b (equal a b e) h))))
    (λ f. rw f (along all_listed all_rows row listed rows (on all_listed all_rows row listed rows a b (equal a b e) h)))))
    (λ e. rw e (stopped all_listed all_rows row (a ∷ listed) (b ∷ rows) h))

pub is_behind : (listed rows : List ℕ) → IsBehind listed rows (rows_behind listed rows)
is_behind listed rows = along listed rows listed listed rows (record {
  front = [];
  begun = [];
  in_list = refl;
  in_row = refl;
  in_rows = refl;
})

-- ---- a byte further

pub byte_further : (row rest others : List ℕ) → begin_alike rest others ≡ true
    → behind_row (row_on row rest) (drop 1 rest) (drop 1 others) ≡ behind_row row rest others
byte_further row [] others e = absurd cc
byte_further row (a ∷ rest) [] e = absurd cc
byte_further row (a ∷ rest) (b ∷ others) e = rw e refl

pub at_other : (row rest others : List ℕ) → begin_alike rest others ≡ false → behind_row row rest others ≡ row
at_other row [] others e = refl
at_other row (a ∷ rest) [] e = refl
at_other row (a ∷ rest) (b ∷ others) e = rw e refl
