-- Flights are listed by their days, one behind the other.
use Rattle.std.proofs.Common.{◌≡◌, ℕ, suc, ◌+◌, ◌<◌, ◌≤◌, ◌||◌, ◌==◌, Bool, true, false, List, [], ◌∷◌, ◌++◌, length, take, get_or, replicate, set, arith, refl, sym, ap, subst, ◌∙◌, append_assoc, append-nil, inl, inr}
use Rattle.std.specs.Prelude.{◌⊎◌}
use Rattle.std.proofs.lemmas.Bool.{true≢false, cases_lt, eqb-true, eq-eqb}
use Rattle.std.proofs.lemmas.List.{get_or_default, get_or_past, get_or-replicate, get_or-set_same, get_or-set_other, length-replicate, length-set, length-take-le, replicate-append-replicate, take_all, take_more}
use Rattle.ssim_flights.specs.declared.flight.DatedLeg.{DatedLeg}
use Rattle.ssim_flights.specs.declared.flight.Flight.{Flight}
use Rattle.flight_days.specs.declared.day_flights.DayFlights.{DayFlights}
use Rattle.flight_days.specs.Leaving.{flights_in, in_list, list_at, list_of, number_if, AreDaysOf, PutsLast}

-- ---- the legs of a flight

pub last_none : (a : DayFlights) (n : ℕ) (legs : List DatedLeg) → legs ≡ [] → PutsLast a a n (in_list legs)
last_none a n legs none = subst (λ (l : List DatedLeg). PutsLast a a n (in_list l)) (sym none) (record { lists = refl; at = λ k. sym (append-nil (list_at a k)) })

twice : (b c : Bool) → (b ≡ true → c ≡ true) → (b || c) ≡ c
twice true c h = sym (h refl)
twice false c h = refl

-- a later leg departs on a day of the same list
pub last_same : (a b : DayFlights) (n k : ℕ) (leg : DatedLeg) (rest legs : List DatedLeg) → legs ≡ leg ∷ rest
    → k ≡ list_of leg.day → true ≡ in_list rest k → PutsLast a b n (in_list rest) → PutsLast a b n (in_list legs)
last_same a b n k leg rest legs are list same others = subst (λ (l : List DatedLeg). PutsLast a b n (in_list l)) (sym are) (record {
  lists = others.lists;
  at = λ j. others.at j ∙ ap (λ (t : Bool). list_at a j ++ number_if t n) (sym (twice (list_of leg.day == j) (in_list rest j) (λ e.
      ap (in_list rest) (sym (list ∙ eqb-true (list_of leg.day) j e)) ∙ sym same)));
})

-- it is listed for the first leg, and then for the others
pub last_more : (a b c : DayFlights) (n k : ℕ) (leg : DatedLeg) (rest legs : List DatedLeg) → legs ≡ leg ∷ rest
    → k ≡ list_of leg.day → false ≡ in_list rest k → PutsLast a b n (λ j. k == j) → PutsLast b c n (in_list rest)
    → PutsLast a c n (in_list legs)
last_more a b c n k leg rest legs are list none one others = subst (λ (l : List DatedLeg). PutsLast a c n (in_list l)) (sym are) (record {
  lists = others.lists ∙ one.lists;
  at = λ j. others.at j ∙ ap (λ (l : List ℕ). l ++ number_if (in_list rest j) n) (one.at j)
      ∙ by j (k == j) (in_list rest j) refl refl
      ∙ ap (λ (i : ℕ). list_at a j ++ number_if ((i == j) || in_list rest j) n) list;
})
  where
    by : (j : ℕ) (t u : Bool) → (k == j) ≡ t → in_list rest j ≡ u
        → (list_at a j ++ number_if t n) ++ number_if u n ≡ list_at a j ++ number_if (t || u) n
    by j true true at_k later = absurd (true≢false (sym later ∙ ap (in_list rest) (sym (eqb-true k j at_k)) ∙ sym none))
    by j true false at_k later = append-nil (list_at a j ++ n ∷ [])
    by j false u at_k later = ap (λ (l : List ℕ). l ++ number_if u n) (append-nil (list_at a j))

pub still_long : (a b : DayFlights) (n : ℕ) (is : ℕ → Bool) → length a.lists.items ≡ 512 → PutsLast a b n is
    → length b.lists.items ≡ 512
still_long a b n is long puts = puts.lists ∙ long

-- ---- one list

pub last_one : (a b : DayFlights) (n k : ℕ) (before after : List ℕ) → k < length a.lists.items
    → before ≡ get_or a.lists.items k before → after ≡ before ++ n ∷ [] → b.lists.items ≡ set a.lists.items k after
    → PutsLast a b n (λ j. k == j)
last_one a b n k before after inside here pushed is = record {
  lists = ap length is ∙ length-set a.lists.items k after;
  at = λ j. by j (k == j) refl;
}
  where
    there : list_at a k ≡ before
    there = get_or_default a.lists.items k [] before inside ∙ sym here

    by : (j : ℕ) (t : Bool) → (k == j) ≡ t → list_at b j ≡ list_at a j ++ number_if t n
    by j true e =
        let at_k : k ≡ j = eqb-true k j e in
        subst (λ (i : ℕ). list_at b i ≡ list_at a i ++ n ∷ []) at_k
        (ap (λ (l : List (List ℕ)). get_or l k []) is ∙ get_or-set_same a.lists.items k after [] inside ∙ pushed ∙ ap (λ (l : List ℕ). l ++ n ∷ []) (sym there))
    by j false e =
        ap (λ (l : List (List ℕ)). get_or l j []) is
        ∙ get_or-set_other a.lists.items k j after [] (λ same. true≢false (sym (eq-eqb k j (sym same)) ∙ e))
        ∙ sym (append-nil (list_at a j))

-- ---- all flights

pub one_more : (lists pushed : List (List ℕ)) (i : ℕ) → lists ≡ replicate i [] → pushed ≡ lists ++ [] ∷ []
    → pushed ≡ replicate (i + 1) []
one_more lists pushed i so_far is =
    is ∙ ap (λ (l : List (List ℕ)). l ++ [] ∷ []) so_far ∙ replicate-append-replicate i 1 []

pub days_none : (a : DayFlights) → a.lists.items ≡ replicate 512 [] → AreDaysOf a []
days_none a is = record {
  lists = ap length is ∙ length-replicate {A = List ℕ} 512 [];
  at = λ k. ap (λ (l : List (List ℕ)). get_or l k []) is ∙ empty k (cases_lt k 512);
}
  where
    empty : (k : ℕ) → (k < 512) ⊎ (512 ≤ k) → get_or (replicate 512 []) k [] ≡ flights_in 0 [] k
    empty k (inl h) = get_or-replicate 512 k [] [] h
    empty k (inr h) = get_or_past (replicate 512 []) k [] (let long = length-replicate {A = List ℕ} 512 [] in omega arith)

flights_push : (n k : ℕ) (flights : List Flight) (flight : Flight)
    → flights_in n (flights ++ flight ∷ []) k ≡ flights_in n flights k ++ number_if (in_list flight.legs k) (n + length flights)
flights_push n k [] flight =
    let e : n + 0 ≡ n = omega arith in
    append-nil (number_if (in_list flight.legs k) n) ∙ ap (number_if (in_list flight.legs k)) (sym e)
flights_push n k (first ∷ flights) flight =
    let e : n + suc (length flights) ≡ n + 1 + length flights = omega arith in
    ap (λ (l : List ℕ). number_if (in_list first.legs k) n ++ l) (flights_push (n + 1) k flights flight)
    ∙ sym (append_assoc (number_if (in_list first.legs k) n) (flights_in (n + 1) flights k) (number_if (in_list flight.legs k) (n + 1 + length flights)))
    ∙ ap (λ (m : ℕ). flights_in n (first ∷ flights) k ++ number_if (in_list flight.legs k) m) (sym e)

pub days_more : (a b : DayFlights) (flights : List Flight) (i : ℕ) (flight : Flight) → i < length flights
    → flight ≡ get_or flights i flight → AreDaysOf a (take i flights) → PutsLast a b i (in_list flight.legs)
    → AreDaysOf b (take (i + 1) flights)
days_more a b flights i flight inside here are puts = record {
  lists = puts.lists ∙ are.lists;
  at = λ k. puts.at k ∙ ap (λ (l : List ℕ). l ++ number_if (in_list flight.legs k) i) (are.at k)
      ∙ ap (λ (m : ℕ). flights_in 0 (take i flights) k ++ number_if (in_list flight.legs k) m) (sym count)
      ∙ sym (flights_push 0 k (take i flights) flight)
      ∙ ap (λ (l : List Flight). flights_in 0 l k) (sym more);
}
  where
    count : 0 + length (take i flights) ≡ i
    count = let e = length-take-le i flights (omega arith) in omega arith

    more : take (i + 1) flights ≡ take i flights ++ flight ∷ []
    more = take_more flights i flight inside ∙ ap (λ (y : Flight). take i flights ++ y ∷ []) (sym here)

pub days_whole : (a : DayFlights) (flights : List Flight) (i count : ℕ) → AreDaysOf a (take i flights)
    → count ≡ length flights → count ≤ i → AreDaysOf a flights
days_whole a flights i count are counted over =
    subst (λ (l : List Flight). AreDaysOf a l) (take_all i flights (subst (λ (k : ℕ). k ≤ i) counted over)) are
