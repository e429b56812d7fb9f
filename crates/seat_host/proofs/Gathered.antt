-- Gathering, over plain lists.
use Rattle.std.proofs.Common.{◌≡◌, ◌≢◌, ℕ, zero, suc, ◌+◌, ◌<◌, ◌≤◌, ◌⊎◌, ◌==◌, ◌&&◌, ◌||◌, Bool, true, false, List, [], ◌∷◌, ◌++◌, length, refl, ap, sym, subst, ◌∙◌, arith, inl, inr, ⊎_elim, append_assoc}
use Rattle.std.specs.Prelude.{map, slice_set}
use Rattle.std.specs.List.{AllByRecursion, slice_index_or}
use Rattle.std.proofs.lemmas.List.{append-nil, map-append}
use Rattle.std.proofs.lemmas.Bool.Decides.{nat_tests}
use Rattle.seat_journal.specs.declared.entry.Entry.{Entry}
use Rattle.seat_rules.specs.Histories.{of_session, by_session}
use Rattle.seat_host.specs.Sessions.{Seat, numbers_of}
use Rattle.seat_host.specs.Settling.{has_id, has_up_to, has_all, IsConfirmed}
use Rattle.seat_host.proofs.Booking.{dec_nat}
use Rattle.airline_base.proofs.Tests.{both_true}

-- ---- the test

pub up_more : (i j : ℕ) (sessions : List Seat) (here all now : Bool) → j ≡ i + 1 → here ≡ has_id j sessions
    → all ≡ has_up_to i sessions → now ≡ (here && all) → now ≡ has_up_to j sessions
up_more i j sessions here all now e is was and =
    let up : j ≡ suc i = omega (arith, e) in
    and ∙ (λ k. is k && was k) ∙ (λ k. has_id (up k) sessions && has_up_to i sessions) ∙ sym (ap (λ (n : ℕ). has_up_to n sessions) up)

up_each : (n : ℕ) (sessions : List Seat) → has_up_to n sessions ≡ true → (s : ℕ) → 0 < s → s ≤ n
    → has_id s sessions ≡ true
up_each zero sessions e s some le = absurd (omega arith)
up_each (suc n) sessions e s some le =
    let h = both_true (has_id (suc n) sessions) (has_up_to n sessions) e in
    ⊎_elim (λ (is : s ≡ suc n). ap (λ (k : ℕ). has_id k sessions) is ∙ h.0) (λ (not : s ≢ suc n). up_each n sessions h.1 s some (less s n le not)) (dec_nat s (suc n))
  where
    less : (s n : ℕ) → s ≤ suc n → s ≢ suc n → s ≤ n
    less s n le not = omega (arith, le, not)

-- ---- the lists of numbers, filled session by session

-- the numbers of the lines of a session
abbrev pub own_numbers : ℕ → List Entry → List ℕ
own_numbers s journal = numbers_of (of_session s journal)

at_set_here : (xs : List (List ℕ)) (i : ℕ) (v : List ℕ) → i < length xs
    → slice_index_or (slice_set xs i v) i [] ≡ v
at_set_here [] i v h = absurd (omega arith)
at_set_here (x ∷ xs) zero v h = refl
at_set_here (x ∷ xs) (suc i) v h = at_set_here xs i v (omega arith)

at_set_else : (xs : List (List ℕ)) (i j : ℕ) (v : List ℕ) → j ≢ i
    → slice_index_or (slice_set xs i v) j [] ≡ slice_index_or xs j []
at_set_else [] i j v n = refl
at_set_else (x ∷ xs) zero zero v n = absurd (n refl)
at_set_else (x ∷ xs) zero (suc j) v n = refl
at_set_else (x ∷ xs) (suc i) zero v n = refl
at_set_else (x ∷ xs) (suc i) (suc j) v n = at_set_else xs i j v (λ e. n (ap suc e))

set_length : (xs : List (List ℕ)) (i : ℕ) (v : List ℕ) → length (slice_set xs i v) ≡ length xs
set_length [] i v = refl
set_length (x ∷ xs) zero v = refl
set_length (x ∷ xs) (suc i) v = ap suc (set_length xs i v)

-- of these sessions the first are left, and the others are confirmed, with their lines in the lists
pub record Gathering (all : List Seat) (n : ℕ) (journal : List Entry) (rest : List Seat) (slots : List (List ℕ)) : Type 0 where
  pub gone : List Seat
  pub is : all ≡ rest ++ gone
  pub confirmed : AllByRecursion (IsConfirmed n journal) gone
  pub wide : length slots ≡ n + 1
  pub each : (s : ℕ) → s ≤ n → (has_id s rest ≡ true) ⊎ (slice_index_or slots s [] ≡ own_numbers s journal)

-- none of them is gone yet, and the list of session 0 is filled
pub starts : (all : List Seat) (n : ℕ) (journal : List Entry) (manager : Seat) (slots now : List (List ℕ))
    → has_all n all ≡ true → length slots ≡ n + 1 → manager.id ≡ 0 → IsConfirmed n journal manager
    → now ≡ slice_set slots manager.id (numbers_of manager.receipts) → Gathering all n journal all now
starts all n journal manager slots now h wide zeroth c set = record {
  gone = [];
  is = sym (append-nil all);
  confirmed = tt;
  wide = ap length set ∙ set_length slots manager.id (numbers_of manager.receipts) ∙ wide;
  each = each;
}
  where
    first : slice_index_or now 0 [] ≡ own_numbers 0 journal
    first =
        ap (λ (l : List (List ℕ)). slice_index_or l 0 []) set ∙ ap (λ (k : ℕ). slice_index_or (slice_set slots k (numbers_of manager.receipts)) 0 []) zeroth
        ∙ at_set_here slots 0 (numbers_of manager.receipts) (omega (arith, wide)) ∙ ap numbers_of c.lines ∙ ap (λ (k : ℕ). own_numbers k journal) zeroth

    each : (s : ℕ) → s ≤ n → (has_id s all ≡ true) ⊎ (slice_index_or now s [] ≡ own_numbers s journal)
    each zero le = inr first
    each (suc s) le = inl (up_each n all (both_true (length all == n) (has_up_to n all) h).1 (suc s) (omega arith) le)

id_push : (s : ℕ) (rest : List Seat) (x : Seat) → has_id s (rest ++ x ∷ []) ≡ true → (has_id s rest ≡ true) ⊎ (x.id ≡ s)
id_push s [] x h = last (x.id == s) refl h
  where
    last : (b : Bool) → (x.id == s) ≡ b → (b || false) ≡ true → (has_id s [] ≡ true) ⊎ (x.id ≡ s)
    last true e h = inr (grind (arith, nat_tests, e))
    last false e h = absurd (cc h)
id_push s (y ∷ rest) x h = first (y.id == s) h (id_push s rest x)
  where
    first : (b : Bool) → (b || has_id s (rest ++ x ∷ [])) ≡ true
        → (has_id s (rest ++ x ∷ []) ≡ true → (has_id s rest ≡ true) ⊎ (x.id ≡ s))
        → ((b || has_id s rest) ≡ true) ⊎ (x.id ≡ s)
    first true h below = inl refl
    first false h below = below h

pub goes_on : (all : List Seat) (n : ℕ) (journal : List Entry) (was rest : List Seat) (x : Seat)
    (slots now : List (List ℕ)) → Gathering all n journal was slots → was ≡ rest ++ x ∷ [] → IsConfirmed n journal x
    → now ≡ slice_set slots x.id (numbers_of x.receipts) → Gathering all n journal rest now
goes_on all n journal was rest x slots now g split h set = record {
  gone = x ∷ g.gone;
  is = g.is ∙ ap (λ (l : List Seat). l ++ g.gone) split ∙ append_assoc rest (x ∷ []) g.gone;
  confirmed = (h, g.confirmed);
  wide = ap length set ∙ set_length slots x.id (numbers_of x.receipts) ∙ g.wide;
  each = λ s le. ⊎_elim
      (λ (is : s ≡ x.id).
      let inside : x.id < length slots = omega (arith, g.wide, h.number) in
      inr (ap (λ (l : List (List ℕ)). slice_index_or l s []) set ∙ ap (λ (k : ℕ). slice_index_or (slice_set slots x.id (numbers_of x.receipts)) k []) is
      ∙ at_set_here slots x.id (numbers_of x.receipts) inside ∙ ap numbers_of h.lines ∙ ap (λ (k : ℕ). own_numbers k journal) (sym is)))
      (λ (not : s ≢ x.id). ⊎_elim
      (λ (there : has_id s was ≡ true). ⊎_elim (λ left. inl left) (λ (is : x.id ≡ s). absurd (not (sym is))) (id_push s rest x (ap (has_id s) (sym split) ∙ there)))
      (λ (done : slice_index_or slots s [] ≡ own_numbers s journal).
      inr (ap (λ (l : List (List ℕ)). slice_index_or l s []) set ∙ at_set_else slots x.id s (numbers_of x.receipts) not ∙ done))
      (g.each s le))
      (dec_nat s x.id);
}

-- lists that are the numbers of each session are those by session
list_last : (xs : List (List ℕ)) (n : ℕ) → length xs ≡ suc n
    → (front : List (List ℕ)) ×
    ((length front ≡ n) × ((xs ≡ front ++ slice_index_or xs n [] ∷ [])
    × ((i : ℕ) → i < n → slice_index_or front i [] ≡ slice_index_or xs i [])))
list_last [] n e = absurd (omega (arith, e))
list_last (x ∷ []) zero e = ([], (refl, (refl, λ i h. absurd (omega arith))))
list_last (x ∷ y ∷ xs) zero e = absurd (omega (arith, e))
list_last (x ∷ xs) (suc n) e =
    let below = list_last xs n (omega (arith, e)) in
    (x ∷ below.0, (ap suc below.1.0, (ap (λ (l : List (List ℕ)). x ∷ l) below.1.1.0, λ i h. index below.0 below.1.1.1 i h)))
  where
    index : (front : List (List ℕ)) → ((i : ℕ) → i < n → slice_index_or front i [] ≡ slice_index_or xs i [])
        → (i : ℕ) → i < suc n → slice_index_or (x ∷ front) i [] ≡ slice_index_or (x ∷ xs) i []
    index front same zero h = refl
    index front same (suc i) h = same i (omega arith)

filled : (n : ℕ) (journal : List Entry) (slots : List (List ℕ)) → length slots ≡ suc n
    → ((i : ℕ) → i ≤ n → slice_index_or slots i [] ≡ own_numbers i journal) → slots ≡ map numbers_of (by_session n journal)
filled zero journal [] wide each = absurd (omega (arith, wide))
filled zero journal (x ∷ []) wide each = ap (λ (l : List ℕ). l ∷ []) (each 0 (omega arith))
filled zero journal (x ∷ y ∷ xs) wide each = absurd (omega (arith, wide))
filled (suc n) journal slots wide each =
    let l = list_last slots (suc n) wide in
    l.1.1.0 ∙ (λ k. filled n journal l.0 l.1.0 (λ i h. l.1.1.1 i (omega (arith, h)) ∙ each i (omega (arith, h))) k ++ each (suc n) (omega arith) k ∷ [])
    ∙ sym (map-append numbers_of (by_session n journal) (of_session (suc n) journal ∷ []))

pub ends : (all : List Seat) (n : ℕ) (journal : List Entry) (rest : List Seat) (slots : List (List ℕ))
    → Gathering all n journal rest slots → length rest ≡ 0
    → (slots ≡ map numbers_of (by_session n journal)) × AllByRecursion (IsConfirmed n journal) all
ends all n journal [] slots g none = (filled n journal slots (omega (arith, g.wide)) each, subst (AllByRecursion (IsConfirmed n journal)) (sym g.is) g.confirmed)
  where
    each : (i : ℕ) → i ≤ n → slice_index_or slots i [] ≡ own_numbers i journal
    each i h = ⊎_elim (λ (no : false ≡ true). absurd (cc no)) (λ e. e) (g.each i h)
ends all n journal (x ∷ rest) slots g none = absurd (omega (arith, none))
