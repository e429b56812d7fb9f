-- Parts of a list, and how they follow one another.
use Rattle.std.proofs.Common.{◌≡◌, ◌≢◌, ◌==◌, ℕ, zero, suc, ◌+◌, ◌-◌, ◌<◌, ◌≤◌, Bool, true, false, cond, nat_lt, Option, List, [], ◌∷◌, ◌++◌, length, drop, map, take, get_or, set, unwrap_or, refl, ap, sym, subst, ◌∙◌, arith}
use Rattle.std.specs.List.{slice_get}
use Rattle.std.proofs.Math.Seq.{take-set-lt}
use Rattle.std.proofs.lemmas.Bool.Decides.{nat_tests}
use Rattle.std.proofs.lemmas.List.{drop-set-lt, drop-set-add, take-set-le, get_or-take, get_or-drop, get_or_past, length-take-le, length-drop, length-take, map-set, set-get_or, drop-map, take-map}
use Rattle.std.proofs.lemmas.Option.{unwrap_or-slice_get}
use Rattle.seat_nesting.specs.FlatCounts.{part, Follow}

-- ---- two readings of a list that agree

pub map_each : {X Y : Type 0} (f g : X → Y) (xs : List X) (d : X)
    → ((j : ℕ) → f (unwrap_or (slice_get xs j) d) ≡ g (unwrap_or (slice_get xs j) d)) → map f xs ≡ map g xs
map_each f g [] d e = refl
map_each f g (x ∷ xs) d e = ap (λ y. y ∷ map f xs) (e zero) ∙ ap (λ ys. g x ∷ ys) (map_each f g xs d (λ j. e (suc j)))

-- and that agree everywhere but where the list is written
pub set_but : {X Y : Type 0} (f g : X → Y) (xs : List X) (i : ℕ) (y : Y) (d : X)
    → ((j : ℕ) → j ≢ i → f (unwrap_or (slice_get xs j) d) ≡ g (unwrap_or (slice_get xs j) d))
    → set (map f xs) i y ≡ set (map g xs) i y
set_but f g [] i y d e = refl
set_but f g (x ∷ xs) zero y d e = ap (λ ys. y ∷ ys) (map_each f g xs d (λ j. e (suc j) (λ h. absurd cc)))
set_but f g (x ∷ xs) (suc i) y d e = ap (λ z. z ∷ set (map f xs) i y) (e zero (λ h. absurd cc)) ∙ ap (λ ys. g x ∷ ys) (set_but f g xs i y d (λ j ne. e (suc j) (λ h. ne (omega (arith, h)))))

-- and that agree everywhere but at one place
pub map_but : {X Y : Type 0} (f g : X → Y) (xs : List X) (i : ℕ) (d : X)
    → ((j : ℕ) → j ≢ i → f (unwrap_or (slice_get xs j) d) ≡ g (unwrap_or (slice_get xs j) d))
    → map f xs ≡ set (map g xs) i (f (unwrap_or (slice_get xs i) d))
map_but f g xs i d e = sym (ap (map f) written) ∙ same
  where
    written : set xs i (unwrap_or (slice_get xs i) d) ≡ xs
    written = ap (set xs i) (unwrap_or-slice_get xs i d) ∙ set-get_or xs i d

    same : map f (set xs i (unwrap_or (slice_get xs i) d)) ≡ set (map g xs) i (f (unwrap_or (slice_get xs i) d))
    same = map-set f xs i (unwrap_or (slice_get xs i) d) ∙ set_but f g xs i (f (unwrap_or (slice_get xs i) d)) d e

-- ---- parts

pub part_before : {X : Type 0} (xs : List X) (k from n : ℕ) (y : X) → k < from → part (set xs k y) from n ≡ part xs from n
part_before xs k from n y lt = ap (take n) (drop-set-lt from xs k y lt)

pub part_here : {X : Type 0} (xs : List X) (from n i : ℕ) (y : X) → i < n
    → part (set xs (from + i) y) from n ≡ set (part xs from n) i y
part_here xs from n i y lt = ap (take n) (drop-set-add from xs i y) ∙ take-set-lt n (drop from xs) i y lt

pub part_behind : {X : Type 0} (xs : List X) (k from n : ℕ) (y : X) → from + n ≤ k → part (set xs k y) from n ≡ part xs from n
part_behind xs k from n y le =
    let e : k ≡ from + (k - from) = omega (arith, le) in
    let past : n ≤ k - from = omega (arith, le) in
    ap (λ (j : ℕ). part (set xs j y) from n) e ∙ ap (take n) (drop-set-add from xs (k - from) y) ∙ take-set-le n (drop from xs) (k - from) y past

pub part_at : {X : Type 0} (xs : List X) (from n i : ℕ) (d : X) → i < n
    → unwrap_or (slice_get (part xs from n) i) d ≡ get_or xs (from + i) d
part_at xs from n i d lt = unwrap_or-slice_get (part xs from n) i d ∙ get_or-take n (drop from xs) i d lt ∙ get_or-drop from xs i d

pub part_past : {X : Type 0} (xs : List X) (from n i : ℕ) (d : X) → n ≤ i → unwrap_or (slice_get (part xs from n) i) d ≡ d
part_past xs from n i d le = unwrap_or-slice_get (part xs from n) i d ∙ get_or_past (part xs from n) i d (omega (arith, le, length-take n (drop from xs)))

pub part_length : {X : Type 0} (xs : List X) (from n : ℕ) → from + n ≤ length xs → length (part xs from n) ≡ n
part_length xs from n le = length-take-le n (drop from xs) (omega (arith, le, length-drop from xs))

pub part_map : {X Y : Type 0} (f : X → Y) (xs : List X) (from n : ℕ) → map f (part xs from n) ≡ part (map f xs) from n
part_map f xs from n = sym (ap (take n) (drop-map f from xs) ∙ take-map f n (drop from xs))

-- ---- one behind the other

pub follow_most : {X : Type 0} (start size : X → ℕ) (from : ℕ) (xs : List X) (end : ℕ) → Follow start size from xs end → from ≤ end
follow_most start size from [] end h = omega (arith, h)
follow_most start size from (x ∷ xs) end h = let below = follow_most start size (from + size x) xs end h.1 in omega (arith, below)

-- each lies between the ends
pub follow_at : {X : Type 0} (start size : X → ℕ) (from : ℕ) (xs : List X) (end i : ℕ) (d : X) → Follow start size from xs end
    → i < length xs → (from ≤ start (get_or xs i d)) × (start (get_or xs i d) + size (get_or xs i d) ≤ end)
follow_at start size from [] end i d h lt = absurd (omega (arith, lt))
follow_at start size from (x ∷ xs) end zero d h lt = let below = follow_most start size (from + size x) xs end h.1 in (omega (arith, h.0), omega (arith, h.0, below))
follow_at start size from (x ∷ xs) end (suc i) d h lt = let below = follow_at start size (from + size x) xs end i d h.1 (omega (arith, lt)) in (omega (arith, below.0), below.1)

-- and ends before the later ones begin
pub follow_apart : {X : Type 0} (start size : X → ℕ) (from : ℕ) (xs : List X) (end i j : ℕ) (d : X) → Follow start size from xs end
    → i < j → j < length xs → start (get_or xs i d) + size (get_or xs i d) ≤ start (get_or xs j d)
follow_apart start size from [] end i j d h lt inside = absurd (omega (arith, inside))
follow_apart start size from (x ∷ xs) end i zero d h lt inside = absurd (omega (arith, lt))
follow_apart start size from (x ∷ xs) end zero (suc j) d h lt inside = let below = follow_at start size (from + size x) xs end j d h.1 (omega (arith, inside)) in omega (arith, h.0, below.0)
follow_apart start size from (x ∷ xs) end (suc i) (suc j) d h lt inside = follow_apart start size (from + size x) xs end i j d h.1 (omega (arith, lt)) (omega (arith, inside))

-- one more behind them
pub follow_push : {X : Type 0} (start size : X → ℕ) (from : ℕ) (xs : List X) (end : ℕ) (y : X) → Follow start size from xs end
    → start y ≡ end → Follow start size from (xs ++ y ∷ []) (end + size y)
follow_push start size from [] end y h e = (e ∙ sym h, ap (λ (k : ℕ). k + size y) h)
follow_push start size from (x ∷ xs) end y h e = (h.0, follow_push start size (from + size x) xs end y h.1 e)

-- another in the same place
pub follow_set : {X : Type 0} (start size : X → ℕ) (from : ℕ) (xs : List X) (end i : ℕ) (y d : X) → Follow start size from xs end
    → start y ≡ start (get_or xs i d) → size y ≡ size (get_or xs i d) → Follow start size from (set xs i y) end
follow_set start size from [] end i y d h e f = h
follow_set start size from (x ∷ xs) end zero y d h e f = (e ∙ h.0, subst (λ (k : ℕ). Follow start size (from + k) xs end) (sym f) h.1)
follow_set start size from (x ∷ xs) end (suc i) y d h e f = (h.0, follow_set start size (from + size x) xs end i y d h.1 e f)
