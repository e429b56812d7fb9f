-- Limit rows by slots: the stretch that holds a leg's slot has the leg's row.
use Rattle.std.proofs.Common.{◌≡◌, ◌≢◌, nat_le, nat_lt, ℕ, zero, suc, ◌+◌, ◌*◌, ◌<◌, ◌≤◌, ◌⊎◌, Bool, true, false, ◌&&◌, cond, List, [], ◌∷◌, ◌++◌, length, take, get_or, fold, Option, Some, None, eqb, refl, sym, ap, subst, ◌∙◌, arith, inl, inr}
use Rattle.std.specs.Prelude.{unwrap_or, All, IfSome}
use Rattle.std.specs.List.{slice_get, dedup, Contains}
use Rattle.std.specs.List.Sorted.{IsNonDecreasing, IsPermutation, IsSorted}
use Rattle.std.specs.Ordering.{nat_cmp}
use Rattle.std.specs.Option.{option_map}
use Rattle.std.specs.HashMap.{get}
use Rattle.std.proofs.lemmas.Bool.{cases_lt, leb-true, leb-false, le-leb, lt-leb, ltb-true, ltb-false, lt-ltb, le-ltb}
use Rattle.std.proofs.lemmas.List.{take_all, get_or_default}
use Rattle.std.proofs.lemmas.List.Elements.{All-more, All-weaker, Contains-append_left, Contains-push}
use Rattle.std.proofs.lemmas.List.Sorted.{Contains-permutation}
use Rattle.std.proofs.lemmas.List.Kept.{Contains-dedup_nat}
use Rattle.std.proofs.lemmas.Map.Keys.{IsStrictlyIncreasing-dedup, non_decreasing_from_sorted, sorted_from_strictly_increasing}
use Rattle.std.proofs.lemmas.Option.{slice_get_within, get_or_from_slice_get, same_Some}
use Rattle.seat_nesting.specs.Nesting.{Steps}
use Rattle.seat_limits.specs.Authorised.{row_pair, same_pair, holds_day, is_for, after_row, authorised, row_steps, LastRows, is_of, last_below}
use Rattle.row_stretches.specs.Painting.{or_row, Paints}
use Rattle.seat_limits.specs.RowStretches.{slot, number_of, start_of, end_of, holds_slot, passes, last_where, AreEdges, IsAhead, IsBehind, IsFirst, IsRowIndex}
use Rattle.seat_limits.specs.declared.limit_row.LimitRow.{LimitRow}
use Rattle.seat_limits.specs.declared.row_index.Pair.{Pair}
use Rattle.seat_limits.proofs.RowIndexing.{pair_is, pair_same, none_within, so_far, so_far_more, nothing_of, last_row}

-- ---- the last row that passes a test

pub where_same : (f g : LimitRow → Bool) (rows : List LimitRow) (n : ℕ)
    → ((k : ℕ) (row : LimitRow) → slice_get rows k ≡ Some row → f row ≡ g row)
    → last_where f rows n ≡ last_where g rows n
where_same f g rows zero same = refl
where_same f g rows (suc n) same =
    ap (λ (b : Bool). cond b (Some n) (last_where f rows n)) (of (slice_get rows n) refl)
    ∙ ap (λ (o : Option ℕ). cond (passes g (slice_get rows n)) (Some n) o) (where_same f g rows n same)
  where
    of : (o : Option LimitRow) → slice_get rows n ≡ o → passes f o ≡ passes g o
    of None e = refl
    of (Some row) e = same n row e

pub where_none : (f : LimitRow → Bool) (rows : List LimitRow) (n : ℕ)
    → ((k : ℕ) (row : LimitRow) → slice_get rows k ≡ Some row → f row ≡ false) → last_where f rows n ≡ None
where_none f rows zero none = refl
where_none f rows (suc n) none = ap (λ (b : Bool). cond b (Some n) (last_where f rows n)) (of (slice_get rows n) refl) ∙ where_none f rows n none
  where
    of : (o : Option LimitRow) → slice_get rows n ≡ o → passes f o ≡ false
    of None e = refl
    of (Some row) e = none n row e

pub where_inside : (f : LimitRow → Bool) (rows : List LimitRow) (n i : ℕ) → last_where f rows n ≡ Some i → i < n
where_inside f rows zero i e = absurd cc
where_inside f rows (suc n) i e = of (passes f (slice_get rows n)) e (λ (h : last_where f rows n ≡ Some i). where_inside f rows n i h)
  where
    of : (b : Bool) → cond b (Some n) (last_where f rows n) ≡ Some i → (last_where f rows n ≡ Some i → i < n)
        → i < suc n
    of true h below = let same : n ≡ i = same_Some n i h in omega arith
    of false h below = omega (arith, below h)

-- the last row of the first n that is for the leg gives the ladder so far
where_steps : (p : Pair) (day : ℕ) (rows : List LimitRow) (n : ℕ) → n ≤ length rows
    → row_steps rows (last_where (is_for p day) rows n) ≡ so_far p day rows n
where_steps p day rows zero le = refl
where_steps p day rows (suc n) le = of (slice_get rows n) refl (where_steps p day rows n (omega (arith, le)))
  where
    Before : Type 0
    Before = row_steps rows (last_where (is_for p day) rows n) ≡ so_far p day rows n

    ladder_of : Option LimitRow → Steps
    ladder_of o = unwrap_or (option_map (λ (row : LimitRow). row.ladder) o) []

    by : (row : LimitRow) → slice_get rows n ≡ Some row → Before → (b : Bool)
        → row_steps rows (cond b (Some n) (last_where (is_for p day) rows n)) ≡ cond b row.ladder (so_far p day rows n)
    by row at before true = ap ladder_of at
    by row at before false = before

    of : (o : Option LimitRow) → slice_get rows n ≡ o → Before
        → row_steps rows (cond (passes (is_for p day) o) (Some n) (last_where (is_for p day) rows n))
        ≡ so_far p day rows (suc n)
    of None e before = absurd (none_within rows n (omega (arith, le)) e)
    of (Some row) e before = by row e before (is_for p day row) ∙ sym (so_far_more p day rows n row e)

all_so_far : (p : Pair) (day : ℕ) (rows : List LimitRow) → so_far p day rows (length rows) ≡ authorised rows p day
all_so_far p day rows = ap (fold (after_row p day) []) (take_all (length rows) rows (omega arith))

pub where_authorised : (p : Pair) (day : ℕ) (rows : List LimitRow)
    → row_steps rows (last_where (is_for p day) rows (length rows)) ≡ authorised rows p day
where_authorised p day rows = where_steps p day rows (length rows) (omega arith) ∙ all_so_far p day rows

-- a pair without rows
pub no_row : (p : Pair) (day : ℕ) (rows : List LimitRow) → last_below p rows (length rows) ≡ None
    → row_steps rows None ≡ authorised rows p day
no_row p day rows e = sym (nothing_of p day rows (length rows) (omega arith) e) ∙ all_so_far p day rows

-- ---- the pair of a slot

all_at : (P : LimitRow → Type 0) (rows : List LimitRow) (k : ℕ) (row : LimitRow) → All P rows
    → slice_get rows k ≡ Some row → P row
all_at P rows k row all at = subst P (get_or_from_slice_get rows k row row at) (all k row (slice_get_within rows k row at))

has_last : (p : Pair) (rows : List LimitRow) (n k : ℕ) (row : LimitRow) → n ≤ length rows → k < n
    → slice_get rows k ≡ Some row → same_pair (row_pair row) p ≡ true → last_below p rows n ≡ None → ⊥
has_last p rows zero k row le lt at same e = absurd (omega (arith, lt))
has_last p rows (suc n) k row le lt at same e = of (cases_lt k n) (is_of p (slice_get rows n)) refl e (λ (less : k < n) (h : last_below p rows n ≡ None). has_last p rows n k row (omega (arith, le)) less at same h)
  where
    of : (k < n) ⊎ (n ≤ k) → (b : Bool) → is_of p (slice_get rows n) ≡ b → cond b (Some n) (last_below p rows n) ≡ None
        → (k < n → last_below p rows n ≡ None → ⊥) → ⊥
    of j true is h below = cc
    of (inl less) false is h below = below less h
    of (inr more) false is h below =
        let this : k ≡ n = omega (arith, lt, more) in
        let here : is_of p (slice_get rows n) ≡ true = ap (λ (m : ℕ). is_of p (slice_get rows m)) (sym this) ∙ ap (is_of p) at ∙ same in
        let wrong : true ≡ false = sym here ∙ is in
        cc

-- the number of a row's pair is that of the pair's last row
pub record IsNumber (last : LastRows) (rows : List LimitRow) (p : Pair) (q : ℕ) : Type 0 where
  pub number : number_of last p ≡ q
  pub below : last_below p rows (length rows) ≡ Some q

number_is : (last : LastRows) (rows : List LimitRow) (p : Pair) (o : Option ℕ) → get same_pair last p ≡ o
    → get same_pair last p ≡ last_below p rows (length rows) → (last_below p rows (length rows) ≡ None → ⊥)
    → IsNumber last rows p (number_of last p)
number_is last rows p None e is none = absurd (none (sym is ∙ e))
number_is last rows p (Some q) e is none =
    let same : number_of last p ≡ q = ap (λ (o : Option ℕ). unwrap_or o 0) e in
    record { number = refl; below = sym is ∙ e ∙ ap (λ (n : ℕ). Some n) (sym same) }

one_pair : (rows : List LimitRow) (p r : Pair) (q : ℕ) → last_below p rows (length rows) ≡ Some q
    → last_below r rows (length rows) ≡ Some q → r ≡ p
one_pair rows p r q e f =
    let a = last_row p 0 rows (length rows) q (omega arith) e in
    let b = last_row r 0 rows (length rows) q (omega arith) f in
    let same : a.row ≡ b.row = same_Some a.row b.row (sym a.at ∙ b.at) in
    sym (pair_is (row_pair b.row) r b.of_pair) ∙ sym (ap (λ (x : LimitRow). row_pair x) same) ∙ pair_is (row_pair a.row) p a.of_pair

-- slots tell the days of the same pair apart, and the pairs
same_days : (q from to day : ℕ)
    → (nat_le (q * 131072 + from) (q * 131072 + day) && nat_lt (q * 131072 + day) (q * 131072 + to + 1))
    ≡ (nat_le from day && nat_le day to)
same_days q from to day =
    ap (λ (b : Bool). b && nat_lt (q * 131072 + day) (q * 131072 + to + 1)) (first (nat_le from day) refl)
    ∙ ap (λ (b : Bool). nat_le from day && b) (second (nat_le day to) refl)
  where
    first : (b : Bool) → nat_le from day ≡ b → nat_le (q * 131072 + from) (q * 131072 + day) ≡ nat_le from day
    first true e = le-leb (q * 131072 + from) (q * 131072 + day) (omega (arith, leb-true from day e)) ∙ sym e
    first false e = lt-leb (q * 131072 + from) (q * 131072 + day) (omega (arith, leb-false from day e)) ∙ sym e

    second : (b : Bool) → nat_le day to ≡ b → nat_lt (q * 131072 + day) (q * 131072 + to + 1) ≡ nat_le day to
    second true e = lt-ltb (q * 131072 + day) (q * 131072 + to + 1) (omega (arith, leb-true day to e)) ∙ sym e
    second false e = le-ltb (q * 131072 + day) (q * 131072 + to + 1) (omega (arith, leb-false day to e)) ∙ sym e

other_days : (n q from to day : ℕ) → n ≢ q → to < 131072 → day < 131072
    → (nat_le (n * 131072 + from) (q * 131072 + day) && nat_lt (q * 131072 + day) (n * 131072 + to + 1)) ≡ false
other_days n q from to day ne small few = of (cases_lt n q) (cases_lt q n)
  where
    past : (b : Bool) → (b && false) ≡ false
    past true = refl
    past false = refl

    of : (n < q) ⊎ (q ≤ n) → (q < n) ⊎ (n ≤ q)
        → (nat_le (n * 131072 + from) (q * 131072 + day) && nat_lt (q * 131072 + day) (n * 131072 + to + 1)) ≡ false
    of (inl less) k =
        ap (λ (b : Bool). nat_le (n * 131072 + from) (q * 131072 + day) && b) (le-ltb (q * 131072 + day) (n * 131072 + to + 1) (omega (arith, less, small)))
        ∙ past (nat_le (n * 131072 + from) (q * 131072 + day))
    of (inr more) (inl over) =
        ap (λ (b : Bool). b && nat_lt (q * 131072 + day) (n * 131072 + to + 1)) (lt-leb (n * 131072 + from) (q * 131072 + day) (omega (arith, over, few)))
    of (inr more) (inr under) = absurd (ne (omega (arith, more, under)))

holds_of : (last : LastRows) (rows : List LimitRow) (p : Pair) (q day k : ℕ) (row : LimitRow)
    → ((r : Pair) → get same_pair last r ≡ last_below r rows (length rows)) → get same_pair last p ≡ Some q
    → slice_get rows k ≡ Some row → row.to < 131072 → day < 131072
    → holds_slot last (slot q day) row ≡ is_for p day row
holds_of last rows p q day k row is here at small few = of (same_pair (row_pair row) p) refl
  where
    lt : k < length rows
    lt = slice_get_within rows k row at

    mine : IsNumber last rows (row_pair row) (number_of last (row_pair row))
    mine = number_is last rows (row_pair row) (get same_pair last (row_pair row)) refl (is (row_pair row)) (has_last (row_pair row) rows (length rows) k row (omega arith) lt at (pair_same (row_pair row)))

    number : number_of last p ≡ q
    number = ap (λ (o : Option ℕ). unwrap_or o 0) here

    test : ℕ → Bool
    test n = nat_le (n * 131072 + row.from) (q * 131072 + day) && nat_lt (q * 131072 + day) (n * 131072 + row.to + 1)

    of : (b : Bool) → same_pair (row_pair row) p ≡ b → test (number_of last (row_pair row)) ≡ is_for p day row
    of true e =
        let pair : row_pair row ≡ p = pair_is (row_pair row) p e in
        ap test (ap (number_of last) pair ∙ number) ∙ same_days q row.from row.to day ∙ ap (λ (b : Bool). b && holds_day row day) (sym e)
    of false e =
        let apart : number_of last (row_pair row) ≢ q = λ same.
        let pair : row_pair row ≡ p = one_pair rows p (row_pair row) q (sym (is p) ∙ here) (mine.below ∙ ap (λ (n : ℕ). Some n) same) in
        let wrong : true ≡ false = sym (pair_same (row_pair row)) ∙ ap (same_pair (row_pair row)) pair ∙ e in
        cc in
        other_days (number_of last (row_pair row)) q row.from row.to day apart small few ∙ ap (λ (b : Bool). b && holds_day row day) (sym e)

-- ---- the stretch of a slot

-- the edges up to a place are no higher than the slot, and those from it on are higher
below_same : (a b x : ℕ) → b ≤ a → (x ≤ a → x ≤ b) → nat_le x b ≡ nat_le x a
below_same a b x le same = of (nat_le x a) refl
  where
    of : (t : Bool) → nat_le x a ≡ t → nat_le x b ≡ nat_le x a
    of true e = le-leb x b (same (leb-true x a e)) ∙ sym e
    of false e = lt-leb x b (omega (arith, le, leb-false x a e)) ∙ sym e

above_same : (a b x : ℕ) → b ≤ a → (x ≤ a → x ≤ b) → nat_lt b x ≡ nat_lt a x
above_same a b x le same = of (nat_lt a x) refl
  where
    of : (t : Bool) → nat_lt a x ≡ t → nat_lt b x ≡ nat_lt a x
    of true e = lt-ltb b x (omega (arith, le, ltb-true a x e)) ∙ sym e
    of false e = le-ltb b x (same (ltb-false a x e)) ∙ sym e

-- a place is the first whose edge is not below a slot, where the edge ahead of it is below and the one at it is not
pub is_first : (edges : List ℕ) (at place : ℕ) → IsNonDecreasing edges → IsBehind edges at place → IsAhead edges at place
    → IsFirst edges at place
is_first edges at zero sorted behind ahead = record {
  inside = omega arith;
  below = λ c lt. absurd (omega (arith, lt));
  rest = λ c le lt. let up = sorted zero c 0 (omega arith) lt in omega (arith, up, ahead (omega (arith, lt)));
}
is_first edges at (suc k) sorted behind ahead =
    let last = behind k (omega arith) in
    record {
      inside = omega (arith, last.0);
      below = λ c lt. let up = sorted c k 0 (omega (arith, lt)) last.0 in omega (arith, up, last.1);
      rest = λ c le lt. let up = sorted (suc k) c 0 le lt in omega (arith, up, ahead (omega (arith, le, lt)));
    }

-- an edge that is no higher than the slot is no higher than the stretch's own
edge_below : (edges : List ℕ) (at place c x : ℕ) → IsNonDecreasing edges → IsFirst edges (at + 1) place → c + 1 ≡ place
    → Contains edges x → x ≤ at → x ≤ get_or edges c 0
edge_below edges at place c x sorted first is has le =
    let k : ℕ = has.0 in
    let lt : k < length edges = has.1 in
    let mine : get_or edges k 0 ≡ x = get_or_default edges k 0 x lt ∙ has.2 in
    of k lt mine (cases_lt k place)
  where
    of : (k : ℕ) → k < length edges → get_or edges k 0 ≡ x → (k < place) ⊎ (place ≤ k) → x ≤ get_or edges c 0
    of k lt mine (inl less) =
        let up : get_or edges k 0 ≤ get_or edges c 0 = sorted k c 0 (omega (arith, less, is)) (omega (arith, is, first.inside)) in
        omega (arith, mine, up)
    of k lt mine (inr more) = absurd (omega (arith, mine, first.rest k more lt, le))

-- the row of the stretch
pub stretch_row : (last : LastRows) (rows : List LimitRow) (edges : List ℕ) (found : List (Option ℕ)) (p : Pair)
    (q day place c : ℕ) → IsRowIndex last edges found rows → get same_pair last p ≡ Some q → day < 131072
    → IsFirst edges (slot q day + 1) place → c + 1 ≡ place
    → get_or found c None ≡ last_where (is_for p day) rows (length rows)
stretch_row last rows edges found p q day place c index here few first is =
    index.shown.each c lt
    ∙ where_same (holds_slot last (get_or edges c 0)) (is_for p day) rows (length rows) (λ k row at.
    same row (all_at (λ (r : LimitRow). Contains edges (start_of last r)) rows k row index.edged.starts at) (all_at (λ (r : LimitRow). Contains edges (end_of last r)) rows k row index.edged.ends at)
    ∙ holds_of last rows p q day k row index.last_is here at (all_at (λ (r : LimitRow). r.to < 131072) rows k row index.edged.days at) few)
  where
    lt : c < length edges
    lt = omega (arith, is, first.inside)

    below : get_or edges c 0 ≤ slot q day
    below = let under : get_or edges c 0 < slot q day + 1 = first.below c (omega (arith, is)) in omega (arith, under)

    same : (row : LimitRow) → Contains edges (start_of last row) → Contains edges (end_of last row)
        → holds_slot last (get_or edges c 0) row ≡ holds_slot last (slot q day) row
    same row start end =
        ap (λ (b : Bool). b && nat_lt (get_or edges c 0) (end_of last row)) (below_same (slot q day) (get_or edges c 0) (start_of last row) below (edge_below edges (slot q day) place c (start_of last row) index.edged.sorted first is start))
        ∙ ap (λ (b : Bool). nat_le (start_of last row) (slot q day) && b) (above_same (slot q day) (get_or edges c 0) (end_of last row) below (edge_below edges (slot q day) place c (end_of last row) index.edged.sorted first is end))

-- ahead of the first edge
pub ahead_of_rows : (last : LastRows) (rows : List LimitRow) (edges : List ℕ) (found : List (Option ℕ)) (p : Pair)
    (q day place : ℕ) → IsRowIndex last edges found rows → get same_pair last p ≡ Some q → day < 131072
    → IsFirst edges (slot q day + 1) place → place ≡ 0
    → None ≡ last_where (is_for p day) rows (length rows)
ahead_of_rows last rows edges found p q day place index here few first is =
    sym (where_none (is_for p day) rows (length rows) (λ k row at.
    sym (holds_of last rows p q day k row index.last_is here at (all_at (λ (r : LimitRow). r.to < 131072) rows k row index.edged.days at) few)
    ∙ none row (all_at (λ (r : LimitRow). Contains edges (start_of last r)) rows k row index.edged.starts at)))
  where
    none : (row : LimitRow) → Contains edges (start_of last row) → holds_slot last (slot q day) row ≡ false
    none row has =
        let k : ℕ = has.0 in
        let lt : k < length edges = has.1 in
        let mine : get_or edges k 0 ≡ start_of last row = get_or_default edges k 0 (start_of last row) lt ∙ has.2 in
        let up : slot q day + 1 ≤ get_or edges k 0 = first.rest k (omega (arith, is)) lt in
        let over : slot q day < start_of last row = omega (arith, mine, up) in
        ap (λ (b : Bool). b && nat_lt (slot q day) (end_of last row)) (lt-leb (start_of last row) (slot q day) over)

pub found_steps : (rows : List LimitRow) (p : Pair) (day : ℕ) (o : Option ℕ)
    → o ≡ last_where (is_for p day) rows (length rows) → row_steps rows o ≡ authorised rows p day
found_steps rows p day o e = ap (row_steps rows) e ∙ where_authorised p day rows

pub found_inside : (rows : List LimitRow) (p : Pair) (day : ℕ) (o : Option ℕ)
    → o ≡ last_where (is_for p day) rows (length rows) → IfSome o (λ i. i < length rows)
found_inside rows p day None e = tt
found_inside rows p day (Some i) e = where_inside (is_for p day) rows (length rows) i (sym e)

-- ---- the rows of the stretches, from the last row to the first

abbrev pub first_of : Option ℕ → Option ℕ → Option ℕ
first_of (Some j) o = Some j
first_of None o = o

-- the rows from the ith on are on the stretches
pub record ShowFrom (last : LastRows) (rows : List LimitRow) (edges : List ℕ) (found : List (Option ℕ)) (i : ℕ) : Type 0 where
  pub counted : length found ≡ length edges
  pub each : (c : ℕ) → c < length edges
      → last_where (holds_slot last (get_or edges c 0)) rows (length rows)
      ≡ first_of (get_or found c None) (last_where (holds_slot last (get_or edges c 0)) rows i)

or_first : (o rest : Option ℕ) (i : ℕ) → first_of o (Some i) ≡ first_of (or_row o i) rest
or_first None rest i = refl
or_first (Some j) rest i = refl

pub show_more : (last : LastRows) (rows : List LimitRow) (edges : List ℕ) (old new : List (Option ℕ)) (i from to : ℕ)
    (row : LimitRow) → ShowFrom last rows edges old (i + 1) → slice_get rows i ≡ Some row
    → IsFirst edges (start_of last row) from → IsFirst edges (end_of last row) to → Paints old new from to i
    → ShowFrom last rows edges new i
show_more last rows edges old new i from to row h at start end p = record {
  counted = p.counted ∙ h.counted;
  each = λ c lt. h.each c lt ∙ ap (first_of (get_or old c None)) (this c) ∙ of c lt (cases_lt c from) (cases_lt c to);
}
  where
    rest : ℕ → Option ℕ
    rest c = last_where (holds_slot last (get_or edges c 0)) rows i

    this : (c : ℕ)
        → last_where (holds_slot last (get_or edges c 0)) rows (i + 1)
        ≡ cond (holds_slot last (get_or edges c 0) row) (Some i) (rest c)
    this c =
        let one : i + 1 ≡ suc i = omega arith in
        ap (last_where (holds_slot last (get_or edges c 0)) rows) one
        ∙ ap (λ (o : Option LimitRow). cond (passes (holds_slot last (get_or edges c 0)) o) (Some i) (rest c)) at

    kept : (c : ℕ) → get_or new c None ≡ get_or old c None → holds_slot last (get_or edges c 0) row ≡ false
        → first_of (get_or old c None) (cond (holds_slot last (get_or edges c 0) row) (Some i) (rest c))
        ≡ first_of (get_or new c None) (rest c)
    kept c same wrong =
        ap (λ (b : Bool). first_of (get_or old c None) (cond b (Some i) (rest c))) wrong ∙ ap (λ (o : Option ℕ). first_of o (rest c)) (sym same)

    past : (b : Bool) → (b && false) ≡ false
    past true = refl
    past false = refl

    of : (c : ℕ) → c < length edges → (c < from) ⊎ (from ≤ c) → (c < to) ⊎ (to ≤ c)
        → first_of (get_or old c None) (cond (holds_slot last (get_or edges c 0) row) (Some i) (rest c))
        ≡ first_of (get_or new c None) (rest c)
    of c lt (inl ahead) k = kept c (p.before c ahead) (ap (λ (b : Bool). b && nat_lt (get_or edges c 0) (end_of last row)) (lt-leb (start_of last row) (get_or edges c 0) (start.below c ahead)))
    of c lt (inr more) (inl less) =
        let yes : holds_slot last (get_or edges c 0) row ≡ true =
        ap (λ (b : Bool). b && nat_lt (get_or edges c 0) (end_of last row)) (le-leb (start_of last row) (get_or edges c 0) (start.rest c more lt)) ∙ lt-ltb (get_or edges c 0) (end_of last row) (end.below c less) in
        ap (λ (b : Bool). first_of (get_or old c None) (cond b (Some i) (rest c))) yes
        ∙ or_first (get_or old c None) (rest c) i ∙ ap (λ (o : Option ℕ). first_of o (rest c)) (sym (p.here c more less))
    of c lt (inr more) (inr behind) = kept c (p.behind c behind)
        (ap (λ (b : Bool). nat_le (start_of last row) (get_or edges c 0) && b) (le-ltb (get_or edges c 0) (end_of last row) (end.rest c behind lt)) ∙ past (nat_le (start_of last row) (get_or edges c 0)))

-- ---- the edges

-- the edges of the first n rows
pub record EdgesUpTo (last : LastRows) (rows : List LimitRow) (edges : List ℕ) (n : ℕ) : Type 0 where
  pub starts : All (λ row. Contains edges (start_of last row)) (take n rows)
  pub ends : All (λ row. Contains edges (end_of last row)) (take n rows)
  pub days : All (λ row. row.to < 131072) (take n rows)

pub edges_more : (last : LastRows) (rows : List LimitRow) (edges : List ℕ) (start end i : ℕ) (row : LimitRow)
    → EdgesUpTo last rows edges i → i < length rows → row ≡ get_or rows i row → start ≡ start_of last row
    → end ≡ end_of last row → row.to < 131072
    → EdgesUpTo last rows ((edges ++ start ∷ []) ++ end ∷ []) (i + 1)
edges_more last rows edges start end i row h lt is first last_one day = record {
  starts = All-more (λ (r : LimitRow). Contains more (start_of last r)) rows i row lt (All-weaker (λ (r : LimitRow). Contains edges (start_of last r)) (λ (r : LimitRow). Contains more (start_of last r)) (λ r k. longer (start_of last r) k) (take i rows) h.starts) (subst (λ (r : LimitRow). Contains more (start_of last r)) is begun);
  ends = All-more (λ (r : LimitRow). Contains more (end_of last r)) rows i row lt (All-weaker (λ (r : LimitRow). Contains edges (end_of last r)) (λ (r : LimitRow). Contains more (end_of last r)) (λ r k. longer (end_of last r) k) (take i rows) h.ends) (subst (λ (r : LimitRow). Contains more (end_of last r)) is ended);
  days = All-more (λ (r : LimitRow). r.to < 131072) rows i row lt h.days (subst (λ (r : LimitRow). r.to < 131072) is day);
}
  where
    more : List ℕ
    more = (edges ++ start ∷ []) ++ end ∷ []

    longer : (x : ℕ) → Contains edges x → Contains more x
    longer x k = Contains-append_left (edges ++ start ∷ []) (end ∷ []) x (Contains-append_left edges (start ∷ []) x k)

    begun : Contains more (start_of last row)
    begun = subst (Contains more) first (Contains-append_left (edges ++ start ∷ []) (end ∷ []) start (Contains-push edges start))

    ended : Contains more (end_of last row)
    ended = subst (Contains more) last_one (Contains-push (edges ++ start ∷ []) end)

pub edges_sorted : (last : LastRows) (rows : List LimitRow) (edges order : List ℕ) (n : ℕ) → EdgesUpTo last rows edges n
    → length rows ≤ n → IsPermutation edges order → IsNonDecreasing order → AreEdges last rows order
edges_sorted last rows edges order n h le moved up = record {
  sorted = up;
  starts = All-weaker (λ (r : LimitRow). Contains edges (start_of last r)) (λ (r : LimitRow). Contains order (start_of last r)) (λ r k. Contains-permutation edges order (start_of last r) moved k) rows (subst (λ (l : List LimitRow). All (λ (r : LimitRow). Contains edges (start_of last r)) l) whole h.starts);
  ends = All-weaker (λ (r : LimitRow). Contains edges (end_of last r)) (λ (r : LimitRow). Contains order (end_of last r)) (λ r k. Contains-permutation edges order (end_of last r) moved k) rows (subst (λ (l : List LimitRow). All (λ (r : LimitRow). Contains edges (end_of last r)) l) whole h.ends);
  days = subst (λ (l : List LimitRow). All (λ (r : LimitRow). r.to < 131072) l) whole h.days;
}
  where
    whole : take n rows ≡ rows
    whole = take_all n rows le

-- each once
pub edges_once : (last : LastRows) (rows : List LimitRow) (edges kept : List ℕ) → AreEdges last rows edges
    → IsSorted nat_cmp edges → kept ≡ dedup eqb edges → AreEdges last rows kept
edges_once last rows edges kept h order is = subst (AreEdges last rows) (sym is) (record {
  sorted = non_decreasing_from_sorted (dedup eqb edges) (sorted_from_strictly_increasing (dedup eqb edges) (IsStrictlyIncreasing-dedup edges order));
  starts = All-weaker (λ (r : LimitRow). Contains edges (start_of last r)) (λ (r : LimitRow). Contains (dedup eqb edges) (start_of last r)) (λ r k. Contains-dedup_nat edges (start_of last r) k) rows h.starts;
  ends = All-weaker (λ (r : LimitRow). Contains edges (end_of last r)) (λ (r : LimitRow). Contains (dedup eqb edges) (end_of last r)) (λ r k. Contains-dedup_nat edges (end_of last r) k) rows h.ends;
  days = h.days;
})
