-- Stretches that get rows, and what the stretches between skip.
use Rattle.std.proofs.Common.{◌≡◌, ◌≢◌, ℕ, ◌+◌, ◌<◌, ◌≤◌, ◌⊎◌, List, [], ◌∷◌, ◌++◌, length, set, replicate, get_or, Option, Some, None, refl, sym, ap, ◌∙◌, arith, inl, inr}
use Rattle.std.proofs.lemmas.Bool.{cases_lt}
use Rattle.std.proofs.lemmas.List.{length-set, length-append, length-replicate, get_or-replicate, get_or-set_same, get_or-set_other, get_or_append_left, get_or_push, get_or_past}
use Rattle.row_stretches.specs.Painting.{or_row, IsNext, Paints, Skips}

-- ---- no stretch has a row

-- each of the first i skips to itself
pub record SkipNone (skips : List ℕ) (i : ℕ) : Type 0 where
  pub counted : length skips ≡ i
  pub each : (s : ℕ) → s < i → get_or skips s 0 ≡ s

pub skip_none : SkipNone [] 0
skip_none = record { counted = refl; each = λ s lt. absurd (omega arith) }

pub skip_none_more : (skips : List ℕ) (i : ℕ) → SkipNone skips i → SkipNone (skips ++ i ∷ []) (i + 1)
skip_none_more skips i h = record {
  counted = length-append skips (i ∷ []) ∙ omega (arith, h.counted);
  each = λ s lt. of s (cases_lt s i) lt;
}
  where
    of : (s : ℕ) → (s < i) ⊎ (i ≤ s) → s < i + 1 → get_or (skips ++ i ∷ []) s 0 ≡ s
    of s (inl less) lt = get_or_append_left skips (i ∷ []) 0 s (omega (arith, h.counted, less)) ∙ h.each s less
    of s (inr more) lt = let same : i ≡ s = omega arith in get_or_push skips i 0 s (h.counted ∙ same) ∙ same

pub skips_at_first : (count : ℕ) (rows : List (Option ℕ)) (skips : List ℕ) → rows ≡ replicate count None
    → SkipNone skips (count + 1) → Skips rows skips
skips_at_first count rows skips e h =
    let many : length rows ≡ count = ap length e ∙ length-replicate count None in
    record {
      counted = h.counted ∙ omega (arith, many);
      onward = λ s le. omega (arith, many, h.each s (omega (arith, many, le)));
      inside = λ s. of s (cases_lt s (count + 1)) many;
      bare = λ s lt self. ap (λ (l : List (Option ℕ)). get_or l s None) e ∙ get_or-replicate count s None None (omega (arith, many, lt));
      closed = λ s c le lt. absurd (none s c (cases_lt s (count + 1)) le lt);
    }
  where
    past : (s : ℕ) → count + 1 ≤ s → get_or skips s 0 ≡ 0
    past s le = get_or_past skips s 0 (omega (arith, h.counted, le))

    of : (s : ℕ) → (s < count + 1) ⊎ (count + 1 ≤ s) → length rows ≡ count → get_or skips s 0 ≤ length rows
    of s (inl less) many = omega (arith, many, less, h.each s less)
    of s (inr more) many = omega (arith, past s more)

    none : (s c : ℕ) → (s < count + 1) ⊎ (count + 1 ≤ s) → s ≤ c → c < get_or skips s 0 → ⊥
    none s c (inl less) le lt = omega (arith, le, lt, h.each s less)
    none s c (inr more) le lt = omega (arith, le, lt, past s more)

-- ---- one stretch

same_or : (s t : ℕ) → (s ≡ t) ⊎ (s ≢ t)
same_or s t = of (cases_lt s t) (cases_lt t s)
  where
    of : (s < t) ⊎ (t ≤ s) → (t < s) ⊎ (s ≤ t) → (s ≡ t) ⊎ (s ≢ t)
    of (inl less) k = inr (λ e. omega (arith, less, e))
    of (inr more) (inl less) = inr (λ e. omega (arith, less, e))
    of (inr more) (inr most) = inl (omega (arith, more, most))

set_here : {X : Type 0} (xs : List X) (at s : ℕ) (x d : X) → at < length xs → s ≡ at → get_or (set xs at x) s d ≡ x
set_here xs at s x d lt e = ap (λ (k : ℕ). get_or (set xs at x) k d) e ∙ get_or-set_same xs at x d lt

-- a stretch skips further
pub skips_further : (rows : List (Option ℕ)) (skips : List ℕ) (at to : ℕ) → Skips rows skips → at ≤ length rows
    → at < to → to ≤ length rows → ((c : ℕ) → at ≤ c → c < to → get_or rows c None ≢ None)
    → Skips rows (set skips at to)
skips_further rows skips at to h inside further within closed = record {
  counted = length-set skips at to ∙ h.counted;
  onward = λ s le. on s (same_or s at) le;
  inside = λ s. no_more s (same_or s at);
  bare = λ s lt self. free s (same_or s at) lt self;
  closed = λ s c le lt. shut s c (same_or s at) le lt;
}
  where
    here : (s : ℕ) → s ≡ at → get_or (set skips at to) s 0 ≡ to
    here s e = set_here skips at s to 0 (omega (arith, h.counted, inside)) e

    other : (s : ℕ) → s ≢ at → get_or (set skips at to) s 0 ≡ get_or skips s 0
    other s ne = get_or-set_other skips at s to 0 ne

    on : (s : ℕ) → (s ≡ at) ⊎ (s ≢ at) → s ≤ length rows → s ≤ get_or (set skips at to) s 0
    on s (inl e) le = omega (arith, e, here s e, further)
    on s (inr ne) le = omega (arith, other s ne, h.onward s le)

    no_more : (s : ℕ) → (s ≡ at) ⊎ (s ≢ at) → get_or (set skips at to) s 0 ≤ length rows
    no_more s (inl e) = omega (arith, here s e, within)
    no_more s (inr ne) = omega (arith, other s ne, h.inside s)

    free : (s : ℕ) → (s ≡ at) ⊎ (s ≢ at) → s < length rows → get_or (set skips at to) s 0 ≡ s
        → get_or rows s None ≡ None
    free s (inl e) lt self = absurd (omega (arith, e, here s e, further, self))
    free s (inr ne) lt self = h.bare s lt (sym (other s ne) ∙ self)

    shut : (s c : ℕ) → (s ≡ at) ⊎ (s ≢ at) → s ≤ c → c < get_or (set skips at to) s 0 → get_or rows c None ≢ None
    shut s c (inl e) le lt = closed c (omega (arith, e, le)) (omega (arith, here s e, lt))
    shut s c (inr ne) le lt = h.closed s c le (omega (arith, other s ne, lt))

-- a stretch gets a row, and skips to the next one
pub skips_closed : (rows : List (Option ℕ)) (skips : List ℕ) (at row : ℕ) → Skips rows skips → at < length rows
    → Skips (set rows at (Some row)) (set skips at (at + 1))
skips_closed rows skips at row h inside =
    let many : length (set rows at (Some row)) ≡ length rows = length-set rows at (Some row) in
    record {
      counted = length-set skips at (at + 1) ∙ omega (arith, h.counted, many);
      onward = λ s le. on s (same_or s at) (omega (arith, le, many));
      inside = λ s. no_more s (same_or s at) many;
      bare = λ s lt self. free s (same_or s at) (omega (arith, lt, many)) self;
      closed = λ s c le lt e. shut s c (same_or s at) (same_or c at) le lt e;
    }
  where
    here : (s : ℕ) → s ≡ at → get_or (set skips at (at + 1)) s 0 ≡ at + 1
    here s e = set_here skips at s (at + 1) 0 (omega (arith, h.counted, inside)) e

    other : (s : ℕ) → s ≢ at → get_or (set skips at (at + 1)) s 0 ≡ get_or skips s 0
    other s ne = get_or-set_other skips at s (at + 1) 0 ne

    row_other : (c : ℕ) → c ≢ at → get_or (set rows at (Some row)) c None ≡ get_or rows c None
    row_other c ne = get_or-set_other rows at c (Some row) None ne

    never : (c : ℕ) → c ≡ at → get_or (set rows at (Some row)) c None ≡ None → ⊥
    never c e none = let wrong : Some row ≡ None = sym (set_here rows at c (Some row) None inside e) ∙ none in cc

    on : (s : ℕ) → (s ≡ at) ⊎ (s ≢ at) → s ≤ length rows → s ≤ get_or (set skips at (at + 1)) s 0
    on s (inl e) le = omega (arith, e, here s e)
    on s (inr ne) le = omega (arith, other s ne, h.onward s le)

    no_more : (s : ℕ) → (s ≡ at) ⊎ (s ≢ at) → length (set rows at (Some row)) ≡ length rows
        → get_or (set skips at (at + 1)) s 0 ≤ length (set rows at (Some row))
    no_more s (inl e) many = omega (arith, here s e, inside, many)
    no_more s (inr ne) many = omega (arith, other s ne, h.inside s, many)

    free : (s : ℕ) → (s ≡ at) ⊎ (s ≢ at) → s < length rows → get_or (set skips at (at + 1)) s 0 ≡ s
        → get_or (set rows at (Some row)) s None ≡ None
    free s (inl e) lt self = absurd (omega (arith, e, here s e, self))
    free s (inr ne) lt self = row_other s ne ∙ h.bare s lt (sym (other s ne) ∙ self)

    shut : (s c : ℕ) → (s ≡ at) ⊎ (s ≢ at) → (c ≡ at) ⊎ (c ≢ at) → s ≤ c → c < get_or (set skips at (at + 1)) s 0
        → get_or (set rows at (Some row)) c None ≡ None → ⊥
    shut s c k (inl f) le lt none = never c f none
    shut s c (inl e) (inr nf) le lt none = nf (omega (arith, e, le, lt, here s e))
    shut s c (inr ne) (inr nf) le lt none = h.closed s c le (omega (arith, lt, other s ne)) (sym (row_other c nf) ∙ none)

-- a stretch skips on to where the one skips that it skips to
pub skips_twice : (rows : List (Option ℕ)) (skips : List ℕ) (at next behind : ℕ) → Skips rows skips → at ≤ length rows
    → at < next → next ≡ get_or skips at 0 → behind ≡ get_or skips next 0 → Skips rows (set skips at behind)
skips_twice rows skips at next behind h inside further is goes =
    skips_further rows skips at behind h inside (omega (arith, further, goes, h.onward next (omega (arith, is, h.inside at)))) (omega (arith, goes, h.inside next)) (λ c le lt. of c (cases_lt c next) le lt)
  where
    of : (c : ℕ) → (c < next) ⊎ (next ≤ c) → at ≤ c → c < behind → get_or rows c None ≢ None
    of c (inl less) le lt = h.closed at c le (omega (arith, less, is))
    of c (inr more) le lt = h.closed next c more (omega (arith, lt, goes))

-- ---- a range of stretches

-- the range is painted up to here
pub record PaintsUpTo (old new : List (Option ℕ)) (skips : List ℕ) (from to at row : ℕ) : Type 0 where
  pub skips_are : Skips new skips
  pub counted : length new ≡ length old
  pub begun : from ≤ at
  pub inside : at ≤ length old
  pub bare : at < length old → get_or new at None ≡ None
  pub before : (c : ℕ) → c < from → get_or new c None ≡ get_or old c None
  pub here : (c : ℕ) → from ≤ c → c < at → c < to → get_or new c None ≡ or_row (get_or old c None) row
  pub rest : (c : ℕ) → at ≤ c → get_or new c None ≡ get_or old c None
  pub behind : (c : ℕ) → to ≤ c → get_or new c None ≡ get_or old c None

has_one : (o : Option ℕ) (row : ℕ) → o ≢ None → o ≡ or_row o row
has_one None row ne = absurd (ne refl)
has_one (Some j) row ne = refl

pub paint_start : (old new : List (Option ℕ)) (skips : List ℕ) (from to at row : ℕ) → Skips new skips → new ≡ old
    → IsNext old from at → PaintsUpTo old new skips from to at row
paint_start old new skips from to at row h e next =
    let same : (c : ℕ) → get_or new c None ≡ get_or old c None = λ c. ap (λ (l : List (Option ℕ)). get_or l c None) e in
    record {
      skips_are = h;
      counted = ap length e;
      begun = next.onward;
      inside = next.inside;
      bare = λ lt. same at ∙ next.bare lt;
      before = λ c lt. same c;
      here = λ c le lt less. same c ∙ has_one (get_or old c None) row (next.closed c le lt);
      rest = λ c le. same c;
      behind = λ c le. same c;
    }

pub paint_more : (old cur mid new : List (Option ℕ)) (was skips : List ℕ) (from to at next row : ℕ)
    → PaintsUpTo old cur was from to at row → at < to → to ≤ length old → mid ≡ set cur at (Some row)
    → Skips new skips → new ≡ mid → IsNext mid (at + 1) next → PaintsUpTo old new skips from to next row
paint_more old cur mid new was skips from to at next row h less within m k e n =
    let same : (c : ℕ) → get_or new c None ≡ get_or mid c None = λ c. ap (λ (l : List (Option ℕ)). get_or l c None) e in
    record {
      skips_are = k;
      counted = ap length e ∙ many;
      begun = omega (arith, h.begun, n.onward);
      inside = omega (arith, n.inside, many);
      bare = λ lt. same next ∙ n.bare (omega (arith, lt, many));
      before = λ c lt. same c ∙ other c (λ q. omega (arith, q, lt, h.begun)) ∙ h.before c lt;
      here = λ c le lt few. same c ∙ of c (cases_lt c at) (cases_lt at c) le lt few;
      rest = λ c le. same c ∙ other c (λ q. omega (arith, q, le, n.onward)) ∙ h.rest c (omega (arith, le, n.onward));
      behind = λ c le. same c ∙ other c (λ q. omega (arith, q, le, less)) ∙ h.behind c le;
    }
  where
    lower_end : at < length cur
    lower_end = omega (arith, less, within, h.counted)

    many : length mid ≡ length old
    many = ap length m ∙ length-set cur at (Some row) ∙ h.counted

    other : (c : ℕ) → c ≢ at → get_or mid c None ≡ get_or cur c None
    other c ne = ap (λ (l : List (Option ℕ)). get_or l c None) m ∙ get_or-set_other cur at c (Some row) None ne

    was_none : get_or old at None ≡ None
    was_none = sym (h.rest at (omega arith)) ∙ h.bare (omega (arith, less, within))

    of : (c : ℕ) → (c < at) ⊎ (at ≤ c) → (at < c) ⊎ (c ≤ at) → from ≤ c → c < next → c < to
        → get_or mid c None ≡ or_row (get_or old c None) row
    of c (inl lower) j le lt few = other c (λ q. omega (arith, q, lower)) ∙ h.here c le lower few
    of c (inr upper) (inl over) le lt few =
        let mine : get_or mid c None ≡ get_or old c None = other c (λ q. omega (arith, q, over)) ∙ h.rest c upper in
        mine ∙ has_one (get_or old c None) row (λ q. n.closed c (omega (arith, over)) lt (mine ∙ q))
    of c (inr upper) (inr under) le lt few =
        let this : c ≡ at = omega (arith, upper, under) in
        ap (λ (l : List (Option ℕ)). get_or l c None) m ∙ set_here cur at c (Some row) None lower_end this
        ∙ ap (λ (o : Option ℕ). or_row o row) (sym was_none ∙ ap (λ (i : ℕ). get_or old i None) (sym this))

pub paint_end : (old new : List (Option ℕ)) (skips : List ℕ) (from to at row : ℕ)
    → PaintsUpTo old new skips from to at row → to ≤ at → Paints old new from to row
paint_end old new skips from to at row h le = record {
  counted = h.counted;
  before = h.before;
  here = λ c more less. h.here c more (omega (arith, less, le)) less;
  behind = h.behind;
}
