-- The sums of those so far.
use Rattle.std.proofs.Common.{◌≡◌, ℕ, ◌+◌, ◌≤◌, ◌<◌, Bool, true, false, if◌then◌else◌, List, [], ◌∷◌, length, filter, map, take, get_or, cond, refl, sym, ap, subst, ◌∙◌, arith, Option, nat_eq}
use Rattle.std.specs.Cmp.Lexicographic.{pointwise}
use Rattle.std.specs.List.{All, sum_by}
use Rattle.std.specs.Option.{option_eq}
use Rattle.std.proofs.lemmas.List.Elements.{All-map}
use Rattle.std.proofs.lemmas.List.Filters.{length-filter_more}
use Rattle.std.proofs.lemmas.List.Sums.{sum_by_more}
use Rattle.carry_reports.specs.Codes.{code_of}
use Rattle.carry_reports.specs.Counting.{AreSums, IsAmong, counted_by, sum_of}
use Rattle.carry_reports.specs.Sums.{all_codes, has_code, seats_with}
use Rattle.carry_reports.specs.declared.counting.CodeSum.{CodeSum}
use Rattle.carry_reports.specs.declared.fating.Fated.{Fated}

abbrev sum : Option (List ℕ) → ℕ → ℕ → CodeSum
sum code n m = record { code = code; count = n; seats = m }

-- one more where it has the code
one_more : (code own : Option (List ℕ)) (seats n m n' m' : ℕ) (b : Bool) → option_eq (pointwise nat_eq) own code ≡ b → n' ≡ n + cond b 1 0
    → m' ≡ m + cond b seats 0 → counted_by own seats (sum code n m) ≡ sum code n' m'
one_more code own seats n m n' m' true same counts seated = rw (same, counts, seated) refl
one_more code own seats n m n' m' false other counts seated =
    let as_many : n' ≡ n = omega (arith, counts) in
    let as_full : m' ≡ m = omega (arith, seated) in
    rw (other, as_many, as_full) refl

-- the next booking is counted in the sum of its code
sum_more : (all : List Fated) (i : ℕ) (f : Fated) (code : Option (List ℕ)) → i < length all → f ≡ get_or all i f
    → counted_by (code_of f) f.booking.seats (sum_of (take i all) code) ≡ sum_of (take (i + 1) all) code
sum_more all i f code inside here =
    one_more code (code_of f) f.booking.seats (length (filter (has_code code) (take i all))) (sum_by (seats_with code) (take i all))
    (length (filter (has_code code) (take (i + 1) all))) (sum_by (seats_with code) (take (i + 1) all)) (has_code code f) refl
    (length-filter_more (has_code code) all i f inside
    ∙ ap (λ (x : Fated). length (filter (has_code code) (take i all)) + cond (has_code code x) 1 0) (sym here))
    (sum_by_more (seats_with code) all i f inside ∙ ap (λ (x : Fated). sum_by (seats_with code) (take i all) + seats_with code x) (sym here))

sums_more : (all : List Fated) (i : ℕ) (f : Fated) (codes : List (Option (List ℕ))) → i < length all → f ≡ get_or all i f
    → map (counted_by (code_of f) f.booking.seats) (map (sum_of (take i all)) codes) ≡ map (sum_of (take (i + 1) all)) codes
sums_more all i f [] inside here = refl
sums_more all i f (code ∷ codes) inside here =
    ap (λ (s : CodeSum). s ∷ map (counted_by (code_of f) f.booking.seats) (map (sum_of (take i all)) codes)) (sum_more all i f code inside here)
    ∙ ap (λ (l : List CodeSum). sum_of (take (i + 1) all) code ∷ l) (sums_more all i f codes inside here)

-- no sum grows by more than one booking and its seats
among_more : (own : Option (List ℕ)) (seats i : ℕ) (s : CodeSum) → seats ≤ 65535 → IsAmong i s → IsAmong (i + 1) (counted_by own seats s)
among_more own seats i s few among = by (option_eq (pointwise nat_eq) own s.code)
  where
    by : (b : Bool) → IsAmong (i + 1) (if b then record { code = s.code; count = s.count + 1; seats = s.seats + seats } else s)
    by true = record { count = omega (arith, among.count); seats = omega (arith, among.seats, few) }
    by false = record { count = omega (arith, among.count); seats = omega (arith, among.seats) }

pub counted_on : (all : List Fated) (i : ℕ) (f : Fated) (own : Option (List ℕ)) (seats : ℕ) (sums new : List CodeSum) → AreSums (take i all) i sums
    → i < length all → f ≡ get_or all i f → own ≡ code_of f → seats ≡ f.booking.seats → seats ≤ 65535 → new ≡ map (counted_by own seats) sums
    → AreSums (take (i + 1) all) (i + 1) new
counted_on all i f own seats sums new are inside here is full few counted =
    let same : new ≡ map (counted_by (code_of f) f.booking.seats) sums =
    counted ∙ ap (λ (c : Option (List ℕ)). map (counted_by c seats) sums) is ∙ ap (λ (n : ℕ). map (counted_by (code_of f) n) sums) full in
    let among : All (IsAmong (i + 1)) (map (counted_by own seats) sums) =
    All-map (IsAmong (i + 1)) (counted_by own seats) sums (λ k d h. among_more own seats i _ few (are.few k d h)) in
    record {
      each = same ∙ ap (map (counted_by (code_of f) f.booking.seats)) are.each ∙ sums_more all i f all_codes inside here;
      few = subst (λ (l : List CodeSum). All (IsAmong (i + 1)) l) (sym counted) among;
    }
