-- The texts of what rows and legs miss of each other.
use Rattle.std.proofs.Common.{arith, Bool, true, false, ◌≡◌, ℕ, ◌+◌, ◌<◌, ◌≤◌, List, [], ◌∷◌, ◌++◌, length, take, refl, sym, ap, ◌∙◌, subst, append_assoc, get_or, ⊎_elim, codes}
use Rattle.seat_questions.proofs.Common.{DatedLeg, Flight, LimitRow, IsLegText, IsPut}
use Rattle.std.specs.Prelude.{cond, count_by, if◌then◌else◌, slice_get, Some, None}
use Rattle.std.specs.List.{sum_by}
use Rattle.std.proofs.lemmas.List.{append-nil}
use Rattle.std.proofs.lemmas.List.Sums.{sum_by_more}
use Rattle.std.proofs.lemmas.Option.{get_or_from_slice_get, slice_get_cases}
use Rattle.seat_desk.proofs.Texts.{assoc_four, missing}
use Rattle.seat_questions.specs.Cover.{IsBarePut, IsCoverText, IsFlightPart, IsLegPut, IsLegTextBy, IsRowPart, bare_head, covered_legs, covered_line, has_leg, leg_count, share_text, sums_text}

-- a flight that is found stands there
pub there : (flights : List Flight) (i : ℕ) (flight : Flight) → slice_get flights i ≡ Some flight → i < length flights
there flights i flight here = ⊎_elim
    (λ (s : (x : Flight) × (i < length flights) × (slice_get flights i ≡ Some x) × (get_or flights i x ≡ x)). s.1)
    (λ (n : (length flights ≤ i) × (slice_get flights i ≡ None)). absurd (missing flight (sym here ∙ n.1)))
    (slice_get_cases flights i).1

pub here : (flights : List Flight) (i : ℕ) (flight : Flight) → slice_get flights i ≡ Some flight
    → flight ≡ get_or flights i flight
here flights i flight found = sym (get_or_from_slice_get flights i flight flight found)

pub leg_line : (i j : ℕ) (flight : Flight) (leg : DatedLeg) (old head mid new : List ℕ)
    → head ≡ old ++ bare_head i flight j
    → (way : List ℕ) × IsLegText 0 leg way × (mid ≡ head ++ way) → new ≡ mid ++ (codes " NO ROW" ++ 10 ∷ [])
    → IsBarePut i flight j leg old new
leg_line i j flight leg old head mid new e way f = record {
  line = bare_head i flight j ++ way.0 ++ (codes " NO ROW" ++ 10 ∷ []);
  is_line = (way.0, way.1, sym (append_assoc (bare_head i flight j ++ way.0) (codes " NO ROW") (10 ∷ [])));
  written = f ∙ ap (λ l. l ++ (codes " NO ROW" ++ 10 ∷ [])) (way.2 ∙ ap (λ l. l ++ way.0) e) ∙ assoc_four old (bare_head i flight j) way.0 (codes " NO ROW" ++ 10 ∷ []);
}

by_row : (b : Bool) (i : ℕ) (flight : Flight) (j : ℕ) (leg : DatedLeg) → b ≡ true → IsLegTextBy b i flight j leg []
by_row b i flight j leg e = rw e refl

-- a leg that passes the test has no line
pub leg_covered : (test : Flight → DatedLeg → Bool) (i : ℕ) (flight : Flight) (j : ℕ) (leg : DatedLeg) (text : List ℕ)
    → test flight leg ≡ true → IsLegPut test i flight j leg text text
leg_covered test i flight j leg text e = record { part = []; is_part = by_row (test flight leg) i flight j leg e; written = sym (append-nil text) }

-- one that fails it has
pub leg_bare : (test : Flight → DatedLeg → Bool) (i : ℕ) (flight : Flight) (j : ℕ) (leg : DatedLeg) (old new : List ℕ)
    → test flight leg ≡ false
    → IsBarePut i flight j leg old new → IsLegPut test i flight j leg old new
leg_bare test i flight j leg old new e put =
    record { part = put.line; is_part = subst (λ (b : Bool). IsLegTextBy b i flight j leg put.line) (sym e) put.is_line; written = put.written }

pub cover_text : (rows : List LimitRow) (flights : List Flight) (start mid legs new : List ℕ) (a b c : ℕ) → start ≡ []
    → IsPut (IsRowPart rows flights) 1 rows start mid → IsPut (IsFlightPart rows) 0 flights mid legs
    → new ≡ legs ++ sums_text a b c (length rows)
    → a ≡ sum_by (covered_legs rows) flights → b ≡ sum_by leg_count flights → c ≡ count_by (has_leg flights) rows
    → IsCoverText rows flights new
cover_text rows flights start mid legs new a b c empty of_rows of_legs e a_is b_is c_is =
    let from : mid ≡ of_rows.part = of_rows.written ∙ ap (λ (l : List ℕ). l ++ of_rows.part) empty in
    let sums : sums_text a b c (length rows) ≡ covered_line rows flights =
    ap (λ (k : ℕ). sums_text k b c (length rows)) a_is
    ∙ ap (λ (k : ℕ). sums_text (sum_by (covered_legs rows) flights) k c (length rows)) b_is
    ∙ ap (λ (k : ℕ). sums_text (sum_by (covered_legs rows) flights) (sum_by leg_count flights) k (length rows)) c_is in
    record {
      of_rows = of_rows.part;
      of_legs = of_legs.part;
      are_rows = of_rows.is_text;
      are_legs = of_legs.is_text;
      written = e ∙ ap (λ (l : List ℕ). legs ++ l) sums ∙ ap (λ (l : List ℕ). l ++ covered_line rows flights) (of_legs.written ∙ ap (λ (l : List ℕ). l ++ of_legs.part) from);
    }

-- one more that is counted where it passes a test
pub one_more : {X : Type 0} (p : X → Bool) (xs : List X) (i : ℕ) (x : X) (count n : ℕ) → count ≡ count_by p (take i xs)
    → i < length xs → x ≡ get_or xs i x
    → n ≡ (if p x then 1 else 0) → count + n ≡ count_by p (take (i + 1) xs)
one_more {X} p xs i x count n so_far inside here is =
    let one : X → ℕ = λ (y : X). cond (p y) 1 0 in
    let more : sum_by one (take (i + 1) xs) ≡ sum_by one (take i xs) + one (get_or xs i x) = sum_by_more one xs i x inside in
    ap (λ (k : ℕ). k + n) so_far ∙ ap (λ (k : ℕ). sum_by one (take i xs) + k) (is ∙ ap one here) ∙ sym more

pub at_most_one : (b : Bool) (n : ℕ) → n ≡ (if b then 1 else 0) → n ≤ 1
at_most_one true n e = omega (arith, e)
at_most_one false n e = omega (arith, e)

-- a flight more in a sum
pub sum_flight : (f : Flight → ℕ) (flights : List Flight) (i : ℕ) (flight : Flight) (count n : ℕ)
    → count ≡ sum_by f (take i flights)
    → slice_get flights i ≡ Some flight → n ≡ f flight → count + n ≡ sum_by f (take (i + 1) flights)
sum_flight f flights i flight count n so_far found is =
    let more = sum_by_more f flights i flight (there flights i flight found) in
    let at : f (get_or flights i flight) ≡ f flight = ap f (get_or_from_slice_get flights i flight flight found) in
    ap (λ k. k + n) so_far ∙ ap (λ k. sum_by f (take i flights) + k) (is ∙ sym at) ∙ sym more

pub assoc_six : (o a b c d e : List ℕ) → ((((o ++ a) ++ b) ++ c) ++ d) ++ e ≡ o ++ ((((a ++ b) ++ c) ++ d) ++ e)
assoc_six o a b c d e = simp append_assoc

pub sums_put : (a b c d : ℕ) (old t u v w new : List ℕ) → t ≡ old ++ codes "COVERED legs " → u ≡ t ++ share_text a b
    → v ≡ u ++ codes " rows "
    → w ≡ v ++ share_text c d → new ≡ w ++ 10 ∷ [] → new ≡ old ++ sums_text a b c d
sums_put a b c d old t u v w new is_t is_u is_v is_w is_new =
    let end : List ℕ = 10 ∷ [] in
    is_new ∙ ap (λ (l : List ℕ). l ++ end) (is_w ∙ ap (λ (l : List ℕ). l ++ share_text c d) (is_v ∙ ap (λ (l : List ℕ). l ++ codes " rows ") (is_u ∙ ap (λ (l : List ℕ). l ++ share_text a b) is_t)))
    ∙ assoc_six old (codes "COVERED legs ") (share_text a b) (codes " rows ") (share_text c d) end
