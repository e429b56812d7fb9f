-- What mixed lines weigh together is what the journals' lines do.
use Rattle.std.proofs.Common.{◌≡◌, ◌==◌, ℕ, zero, suc, ◌+◌, ◌<◌, ◌≤◌, Bool, true, false, nat_lt, List, [], ◌∷◌, ◌++◌, length, if◌then◌else◌, arith, refl, ap, sym, ◌∙◌}
use Rattle.std.specs.List.{sum_by}
use Rattle.std.proofs.lemmas.Bool.Decides.{nat_tests}
use Rattle.std.proofs.lemmas.List.Sums.{sum_by-cons, sum_by_push}
use Rattle.seat_journal.specs.declared.entry.Advice.{Advice}
use Rattle.seat_journal.specs.declared.entry.Entry.{Entry}
use Rattle.seat_rules.specs.Flights.{advices_anew, line_anew}
use Rattle.seat_rules.specs.Totals.{confirmed_by, released_by, is_confirmation, seats_asked, advised}
use Rattle.seat_shards.specs.Shards.{IsMix, Tagged, journal_at, lines_of, merged, merged_after, place_in}
use Rattle.seat_shards.specs.Laws.{MergedTotals}

pub lines_here : (s : ℕ) (t : Tagged) (mix : List Tagged) → (t.shard == s) ≡ true
    → lines_of s (t ∷ mix) ≡ t.line ∷ lines_of s mix
lines_here s t mix is = rw is refl

pub lines_away : (s : ℕ) (t : Tagged) (mix : List Tagged) → (t.shard == s) ≡ false → lines_of s (t ∷ mix) ≡ lines_of s mix
lines_away s t mix is = rw is refl

-- ---- sums over numbers

abbrev sum_to : ℕ → (ℕ → ℕ) → ℕ
sum_to zero g = 0
sum_to (suc n) g = sum_to n g + g n

sum_none : (n : ℕ) → 0 ≡ sum_to n (λ s. 0)
sum_none zero = refl
sum_none (suc n) = omega (arith, sum_none n)

sum_same : (n : ℕ) (g h : ℕ → ℕ) → ((s : ℕ) → s < n → g s ≡ h s) → sum_to n g ≡ sum_to n h
sum_same zero g h same = refl
sum_same (suc n) g h same = omega (arith, sum_same n g h (λ s lt. same s (omega (arith, lt))), same n (omega arith))

sum_first : (n : ℕ) (g : ℕ → ℕ) → sum_to (suc n) g ≡ g 0 + sum_to n (λ s. g (suc s))
sum_first zero g = omega arith
sum_first (suc n) g = omega (arith, sum_first n g)

-- one of them more
sum_more : (n k x : ℕ) (g h : ℕ → ℕ) → k < n → h k ≡ g k + x → ((s : ℕ) → (k == s) ≡ false → h s ≡ g s)
    → sum_to n h ≡ sum_to n g + x
sum_more zero k x g h lt here away = absurd (omega (arith, lt))
sum_more (suc n) k x g h lt here away = cases (k == n) refl (λ below. sum_more n k x g h below here away) where
  cases : (b : Bool) → (k == n) ≡ b → (k < n → sum_to n h ≡ sum_to n g + x) → sum_to (suc n) h ≡ sum_to (suc n) g + x
  cases true e more =
      let same : k ≡ n = grind (arith, nat_tests) in
      let last : h n ≡ g n + x = ap h (sym same) ∙ (here ∙ ap (λ (y : ℕ). g y + x) same) in
      let sum : sum_to n h ≡ sum_to n g = sum_same n h g (λ s below. away s (let other : (k == s) ≡ false = grind (arith, nat_tests, same, below) in other)) in
      omega (arith, last, sum)
  cases false e more =
      let below : k < n = grind (arith, nat_tests, lt) in
      let sum : sum_to n h ≡ sum_to n g + x = more below in
      let last : h n ≡ g n = away n e in
      omega (arith, sum, last)

-- ---- what lines weigh

module _ (f : Entry → ℕ) where
  abbrev of_tagged : Tagged → ℕ
  of_tagged t = f t.line

  mixed_by : (n : ℕ) (mix : List Tagged) → ((s : ℕ) → n ≤ s → lines_of s mix ≡ [])
      → sum_by of_tagged mix ≡ sum_to n (λ s. sum_by f (lines_of s mix))
  mixed_by n [] none = sum_none n
  mixed_by n (t ∷ mix) none =
      let rest : sum_by of_tagged mix ≡ sum_to n (λ s. sum_by f (lines_of s mix)) = mixed_by n mix (λ s le. tail s le (t.shard == s) refl) in
      sum_by-cons of_tagged t mix
      ∙ (ap (λ (x : ℕ). f t.line + x) rest
      ∙ omega (arith, sum_more n t.shard (f t.line) (λ s. sum_by f (lines_of s mix)) (λ s. sum_by f (lines_of s (t ∷ mix))) (there (nat_lt t.shard n) refl) here (λ s other. ap (sum_by f) (lines_away s t mix other))))
    where
      itself : (k : ℕ) → (k == k) ≡ true
      itself k = grind (arith, nat_tests)

      here : sum_by f (lines_of t.shard (t ∷ mix)) ≡ sum_by f (lines_of t.shard mix) + f t.line
      here = omega (arith, ap (sum_by f) (lines_here t.shard t mix (itself t.shard)), sum_by-cons f t.line (lines_of t.shard mix))

      there : (b : Bool) → nat_lt t.shard n ≡ b → t.shard < n
      there true e = grind (arith, nat_tests)
      there false e =
          let le : n ≤ t.shard = grind (arith, nat_tests) in
          let empty : t.line ∷ lines_of t.shard mix ≡ [] = sym (lines_here t.shard t mix (itself t.shard)) ∙ none t.shard le in
          absurd (cc empty)

      tail : (s : ℕ) → n ≤ s → (b : Bool) → (t.shard == s) ≡ b → lines_of s mix ≡ []
      tail s le true e = let empty : t.line ∷ lines_of s mix ≡ [] = sym (lines_here s t mix e) ∙ none s le in absurd (cc empty)
      tail s le false e = sym (lines_away s t mix e) ∙ none s le

  journals_by : (journals : List (List Entry))
      → sum_to (length journals) (λ s. sum_by f (journal_at journals s)) ≡ sum_by (λ (journal : List Entry). sum_by f journal) journals
  journals_by [] = refl
  journals_by (j ∷ journals) =
      sum_first (length journals) (λ s. sum_by f (journal_at (j ∷ journals) s))
      ∙ (ap (λ (x : ℕ). sum_by f j + x) (journals_by journals) ∙ sym (sum_by-cons (λ (journal : List Entry). sum_by f journal) j journals))

  beyond : (journals : List (List Entry)) (s : ℕ) → length journals ≤ s → journal_at journals s ≡ []
  beyond [] s le = refl
  beyond (j ∷ journals) zero le = absurd (omega (arith, le))
  beyond (j ∷ journals) (suc s) le = beyond journals s (omega (arith, le))

  merged_by : ((anew : ℕ → ℕ) (past : List Entry) (e : Entry) → f (line_anew anew past e) ≡ f e) → (anew : ℕ → ℕ → ℕ)
      (done : List Entry) (mix : List Tagged)
      → sum_by f (merged_after anew done mix) ≡ sum_by f done + sum_by of_tagged mix
  merged_by keeps anew done [] = omega arith
  merged_by keeps anew done (t ∷ mix) =
      let e : Entry = line_anew (anew t.shard) done t.line in
      let next : sum_by f (merged_after anew done (t ∷ mix)) ≡ sum_by f (merged_after anew (done ++ e ∷ []) mix) = refl in
      let its : of_tagged t ≡ f t.line = refl in
      omega (
        arith,
        next,
        its,
        merged_by keeps anew (done ++ e ∷ []) mix,
        sum_by_push f done e,
        keeps (anew t.shard) done t.line,
        sum_by-cons of_tagged t mix,
      )

  -- together what the journals' lines do
  pub merged_weighs : ((anew : ℕ → ℕ) (past : List Entry) (e : Entry) → f (line_anew anew past e) ≡ f e)
      → (journals : List (List Entry)) (mix : List Tagged) → IsMix journals mix
      → sum_by f (merged mix) ≡ sum_by (λ (journal : List Entry). sum_by f journal) journals
  merged_weighs keeps journals mix is =
      let all : sum_by of_tagged mix ≡ sum_to (length journals) (λ s. sum_by f (lines_of s mix)) =
      mixed_by (length journals) mix (λ s le. is.each s ∙ beyond journals s le) in
      let same : sum_to (length journals) (λ s. sum_by f (lines_of s mix)) ≡ sum_to (length journals) (λ s. sum_by f (journal_at journals s)) =
      sum_same (length journals) (λ s. sum_by f (lines_of s mix)) (λ s. sum_by f (journal_at journals s)) (λ s lt. ap (sum_by f) (is.each s)) in
      let one : sum_by f (merged mix) ≡ 0 + sum_by of_tagged mix = merged_by keeps (place_in mix) [] mix in
      omega (arith, one, all, same, journals_by journals)

-- ---- lines, and seats

abbrev one : Entry → ℕ
one e = 1

counted : (xs : List Entry) → sum_by one xs ≡ length xs
counted [] = refl
counted (e ∷ xs) =
    let its : sum_by one (e ∷ xs) ≡ 1 + sum_by one xs = sum_by-cons one e xs in
    omega (arith, its, counted xs)

each_counted : (journals : List (List Entry)) → sum_by (λ (journal : List Entry). sum_by one journal) journals
    ≡ sum_by (λ (journal : List Entry). length journal) journals
each_counted [] = refl
each_counted (j ∷ journals) =
    omega (
      arith,
      sum_by-cons (λ (journal : List Entry). sum_by one journal) j journals,
      sum_by-cons (λ (journal : List Entry). length journal) j journals,
      counted j,
      each_counted journals,
    )

pub merged_long : (journals : List (List Entry)) (mix : List Tagged) → IsMix journals mix
    → length (merged mix) ≡ sum_by (λ (journal : List Entry). length journal) journals
merged_long journals mix is =
    sym (counted (merged mix)) ∙ (merged_weighs one (λ anew past e. refl) journals mix is ∙ each_counted journals)

advised_anew : (anew : ℕ → ℕ) (advices : List Advice) → advised (advices_anew anew advices) ≡ advised advices
advised_anew anew [] = refl
advised_anew anew (a ∷ advices) =
    sum_by-cons (λ (a : Advice). a.seats) (record a { number = anew a.number }) (advices_anew anew advices)
    ∙ (ap (λ (x : ℕ). a.seats + x) (advised_anew anew advices) ∙ sym (sum_by-cons (λ (a : Advice). a.seats) a advices))

confirmed_anew : (anew : ℕ → ℕ) (past : List Entry) (e : Entry) → confirmed_by (line_anew anew past e) ≡ confirmed_by e
confirmed_anew anew past e =
    ap (λ (x : ℕ). (if is_confirmation e.reply then seats_asked e.work else 0) + x) (advised_anew anew e.advices)

pub merged_totals : MergedTotals
merged_totals journals mix is = λ i. record {
  lines = merged_long journals mix is i;
  confirmed = merged_weighs confirmed_by confirmed_anew journals mix is i;
  released = merged_weighs released_by (λ anew past e. refl) journals mix is i;
}
