-- The lines by session agree with the journal.
use Rattle.std.proofs.Common.{◌≡◌, ◌≢◌, ℕ, zero, suc, ◌+◌, ◌<◌, ◌≤◌, ◌==◌, Bool, true, false, cond, Some, List, [], ◌∷◌, ◌++◌, length, refl, ap, sym, subst, ◌∙◌, arith, ⊎_elim, append_assoc, length-append, eq-eqb, ne_eqb}
use Rattle.std.specs.Prelude.{map, slice_get}
use Rattle.std.specs.List.{sum_by, slice_index_or, AllByRecursion}
use Rattle.std.proofs.lemmas.List.Sums.{sum_by-cons, sum_by_push}
use Rattle.std.proofs.lemmas.Bool.{cases_lt}
use Rattle.std.proofs.lemmas.Bool.Decides.{nat_tests}
use Rattle.std.proofs.lemmas.Option.{same_Some}
use Rattle.seat_nesting.specs.Nesting.{Ladders}
use Rattle.seat_journal.specs.declared.entry.Entry.{Entry}
use Rattle.seat_rules.specs.declared.totals.Totals.{Totals}
use Rattle.seat_rules.specs.Totals.{confirmed_by, released_by, totals_of}
use Rattle.seat_rules.specs.Inventory.{HoldsWithinLimits}
use Rattle.seat_rules.specs.Journal.{IsNext, IsLegal}
use Rattle.seat_rules.specs.Histories.{of_session, by_session, OnlyFirst}
use Rattle.seat_rules.specs.Headline.{Headline}
use Rattle.seat_rules.specs.Agreement.{nth, receipts_of, receipt_of, receipts_in, totals_in, HasReceipt, HasLine, Agrees}
use Rattle.seat_host.specs.Outcome.{lines_at, AreLines}
use Rattle.seat_host.specs.Sessions.{numbers_of}
use Rattle.seat_host.proofs.Booking.{dec_nat}
use Rattle.seat_host.proofs.Numbers.{all_again, all_lines, each_numbered, AreNumbered}
use Rattle.seat_rules.proofs.Own.{own_append, own_one, calls_own}

-- ---- an entry and those round it

record Cut (journal : List Entry) (i : ℕ) (x : Entry) : Type 0 where
  front : List Entry
  rest : List Entry
  is : journal ≡ front ++ x ∷ rest
  len : length front ≡ i

cut : (journal : List Entry) (i : ℕ) (x : Entry) → slice_get journal i ≡ Some x → Cut journal i x
cut [] i x e = absurd (cc e)
cut (y ∷ ys) zero x e = record { front = []; rest = ys; is = ap (λ (h : Entry). h ∷ ys) (same_Some y x e); len = refl }
cut (y ∷ ys) (suc i) x e =
    let c = cut ys i x e in
    record { front = y ∷ c.front; rest = c.rest; is = ap (λ (l : List Entry). y ∷ l) c.is; len = ap suc c.len }

here : (front rest : List Entry) (x : Entry) → slice_get (front ++ x ∷ rest) (length front) ≡ Some x
here [] rest x = refl
here (y ∷ front) rest x = here front rest x

there : (journal : List Entry) (i : ℕ) → i < length journal → (x : Entry) × (slice_get journal i ≡ Some x)
there [] i h = absurd (omega arith)
there (y ∷ ys) zero h = (y, refl)
there (y ∷ ys) (suc i) h = there ys i (omega arith)

record OwnCut (s : ℕ) (journal : List Entry) (i : ℕ) (x : Entry) : Type 0 where
  front : List Entry
  rest : List Entry
  is : journal ≡ front ++ x ∷ rest
  mine : x.session ≡ s
  len : length (of_session s front) ≡ i

own_cut : (s : ℕ) (journal : List Entry) (i : ℕ) (x : Entry) → slice_get (of_session s journal) i ≡ Some x
    → OwnCut s journal i x
own_cut s [] i x e = absurd (cc e)
own_cut s (y ∷ ys) i x e = by (y.session == s) refl i e (own_cut s ys)
  where
    longer : (b : Bool) → (y.session == s) ≡ b → (i : ℕ) → (c : OwnCut s ys i x)
        → OwnCut s (y ∷ ys) (cond b (suc i) i) x
    longer b t i c = record {
      front = y ∷ c.front;
      rest = c.rest;
      is = ap (λ (l : List Entry). y ∷ l) c.is;
      mine = c.mine;
      len = ap (λ (a : Bool). length (cond a (y ∷ of_session s c.front) (of_session s c.front))) t ∙ counted b c.len;
    }
      where
        counted : (b : Bool) → length (of_session s c.front) ≡ i
            → length (cond b (y ∷ of_session s c.front) (of_session s c.front)) ≡ cond b (suc i) i
        counted true l = ap suc l
        counted false l = l

    by : (b : Bool) → (y.session == s) ≡ b → (i : ℕ)
        → slice_get (cond b (y ∷ of_session s ys) (of_session s ys)) i ≡ Some x
        → ((i : ℕ) (x : Entry) → slice_get (of_session s ys) i ≡ Some x → OwnCut s ys i x) → OwnCut s (y ∷ ys) i x
    by true t zero e below = record {
      front = [];
      rest = ys;
      is = ap (λ (h : Entry). h ∷ ys) (same_Some y x e);
      mine = sym (ap (λ (h : Entry). h.session) (same_Some y x e)) ∙ grind (arith, nat_tests, t);
      len = refl;
    }
    by true t (suc i) e below = longer true t i (below i x e)
    by false t i e below = longer false t i (below i x e)

-- ---- a legal history

legal_at : (grid : Ladders) (journal front rest : List Entry) (e : Entry) → IsLegal grid journal
    → journal ≡ front ++ e ∷ rest → IsNext grid front e
legal_at grid journal front rest e h is = h.each front e (record { rest = rest; is = is ∙ sym (append_assoc front (e ∷ []) rest) })

number_is : (grid : Ladders) (front : List Entry) (e : Entry) → IsNext grid front e → e.number ≡ suc (length front)
number_is grid front e next = ap (λ (x : Entry). x.number) next.line ∙ omega arith

call_own : (grid : Ladders) (front : List Entry) (e : Entry) → IsNext grid front e
    → e.call ≡ suc (length (of_session e.session front))
call_own grid front e next = omega (arith, next.call, calls_own front e.session)

own_here : (front rest : List Entry) (e : Entry)
    → slice_get (of_session e.session (front ++ e ∷ rest)) (length (of_session e.session front)) ≡ Some e
own_here front rest e =
    let s = e.session in
    let split : of_session s (front ++ e ∷ rest) ≡ of_session s front ++ e ∷ of_session s rest =
    own_append s front (e ∷ rest) ∙ ap (λ (l : List Entry). of_session s front ++ l) (own_append s (e ∷ []) rest ∙ ap (λ (l : List Entry). l ++ of_session s rest) (own_one s e refl)) in
    ap (λ (l : List Entry). slice_get l (length (of_session s front))) split ∙ here (of_session s front) (of_session s rest) e

-- ---- the lists by session

by_length : (n : ℕ) (journal : List Entry) → length (by_session n journal) ≡ suc n
by_length zero journal = refl
by_length (suc n) journal = omega (arith, length-append (by_session n journal) (of_session (suc n) journal ∷ []), by_length n journal)

index_left : (xs : List (List Entry)) (x : List Entry) (i : ℕ) → i < length xs
    → slice_index_or (xs ++ x ∷ []) i [] ≡ slice_index_or xs i []
index_left [] x i h = absurd (omega arith)
index_left (y ∷ ys) x zero h = refl
index_left (y ∷ ys) x (suc i) h = index_left ys x i (omega arith)

index_last : (xs : List (List Entry)) (x : List Entry) (i : ℕ) → i ≡ length xs → slice_index_or (xs ++ x ∷ []) i [] ≡ x
index_last [] x zero h = refl
index_last [] x (suc i) h = absurd (omega (arith, h))
index_last (y ∷ ys) x zero h = absurd (omega (arith, h))
index_last (y ∷ ys) x (suc i) h = index_last ys x i (omega (arith, h))

index_past : (xs : List (List Entry)) (i : ℕ) → length xs ≤ i → slice_index_or xs i [] ≡ []
index_past [] i h = refl
index_past (y ∷ ys) zero h = absurd (omega arith)
index_past (y ∷ ys) (suc i) h = index_past ys i (omega arith)

by_of : (n : ℕ) (journal : List Entry) (s : ℕ) → s ≤ n → receipts_of (by_session n journal) s ≡ of_session s journal
by_of zero journal zero le = refl
by_of zero journal (suc s) le = absurd (omega (arith, le))
by_of (suc n) journal s le = ⊎_elim
    (λ (is : s ≡ suc n). index_last (by_session n journal) (of_session (suc n) journal) s (omega (arith, is, by_length n journal)) ∙ ap (λ (k : ℕ). of_session k journal) (sym is))
    (λ (not : s ≢ suc n). index_left (by_session n journal) (of_session (suc n) journal) s (omega (arith, by_length n journal, less s n le not)) ∙ by_of n journal s (less s n le not))
    (dec_nat s (suc n))
  where
    less : (s n : ℕ) → s ≤ suc n → s ≢ suc n → s ≤ n
    less s n le not = omega (arith, le, not)

by_past : (n : ℕ) (journal : List Entry) (s : ℕ) → n < s → receipts_of (by_session n journal) s ≡ []
by_past n journal s more = index_past (by_session n journal) s (omega (arith, more, by_length n journal))

-- ---- each line a receipt, each receipt a line

few : (n : ℕ) (journal front rest : List Entry) (e : Entry) → OnlyFirst n journal → journal ≡ front ++ e ∷ rest
    → e.session ≤ n
few n journal front rest e only is = ⊎_elim
    (λ (more : n < e.session). absurd (cc (sym (own_here front rest e) ∙ ap (λ (l : List Entry). slice_get l (length (of_session e.session front))) (ap (of_session e.session) (sym is) ∙ only.none e.session more))))
    (λ (le : e.session ≤ n). le)
    (cases_lt n e.session)

agrees : (grid : Ladders) (n : ℕ) (journal : List Entry) → IsLegal grid journal → OnlyFirst n journal
    → Agrees (by_session n journal) journal
agrees grid n journal legal only = record {
  lines = line;
  receipts = receipt;
}
  where
    line : (number : ℕ) → 0 < number → number ≤ length journal → HasReceipt (by_session n journal) journal number
    line zero some le = absurd (omega arith)
    line (suc i) some le =
        let x = there journal i (omega arith) in
        let c = cut journal i x.0 x.1 in
        let next = legal_at grid journal c.front c.rest x.0 legal c.is in
        let own : receipts_of (by_session n journal) x.0.session ≡ of_session x.0.session journal = by_of n journal x.0.session (few n journal c.front c.rest x.0 only c.is) in
        record {
          line = x.0;
          is = x.1;
          numbered = number_is grid c.front x.0 next ∙ ap suc c.len;
          receipt = ap (λ (l : List Entry). nth l x.0.call) own ∙ ap (λ (l : List Entry). nth (of_session x.0.session l) x.0.call) c.is ∙ ap (nth (of_session x.0.session (c.front ++ x.0 ∷ c.rest))) (call_own grid c.front x.0 next) ∙ own_here c.front c.rest x.0;
        }

    found : (s i : ℕ) (e : Entry) → slice_get (of_session s journal) i ≡ Some e → HasLine journal s (suc i) e
    found s i e at =
        let c = own_cut s journal i e at in
        let next = legal_at grid journal c.front c.rest e legal c.is in
        record {
          session_is = c.mine;
          call_is = call_own grid c.front e next ∙ ap (λ (k : ℕ). suc (length (of_session k c.front))) c.mine ∙ ap suc c.len;
          line = ap (nth journal) (number_is grid c.front e next) ∙ ap (λ (l : List Entry). slice_get l (length c.front)) c.is ∙ here c.front c.rest e;
        }

    receipt : (session call : ℕ) (e : Entry) → receipt_of (by_session n journal) session call ≡ Some e
        → HasLine journal session call e
    receipt session zero e at = absurd (cc at)
    receipt s (suc i) e at = ⊎_elim
        (λ (more : n < s). absurd (cc (sym at ∙ ap (λ (l : List Entry). slice_get l i) (by_past n journal s more))))
        (λ (le : s ≤ n). found s i e (ap (λ (l : List Entry). slice_get l i) (sym (by_of n journal s le)) ∙ at))
        (cases_lt n s)

-- ---- sums over the lists by session

-- each entry is of a session up to n
abbrev AllOf : ℕ → List Entry → Type 0
AllOf n journal = AllByRecursion (λ (e : Entry). e.session ≤ n) journal

sessions_are : (n : ℕ) (journal front rest : List Entry) → OnlyFirst n journal → journal ≡ front ++ rest → AllOf n rest
sessions_are n journal front [] only is = tt
sessions_are n journal front (e ∷ rest) only is = (
  few n journal front rest e only is,
  sessions_are n journal (front ++ e ∷ []) rest only (is ∙ sym (append_assoc front (e ∷ []) rest)),
)

module _ (f : Entry → ℕ) (g : List Entry → ℕ) (none : g [] ≡ 0) (more : (e : Entry) (xs : List Entry) → g (e ∷ xs) ≡ f e + g xs) where
  own_in : (s : ℕ) (e : Entry) (xs : List Entry) → e.session ≡ s → g (of_session s (e ∷ xs)) ≡ f e + g (of_session s xs)
  own_in s e xs is = ap (λ (b : Bool). g (cond b (e ∷ of_session s xs) (of_session s xs))) (eq-eqb _ _ is) ∙ more e (of_session s xs)

  own_out : (s : ℕ) (e : Entry) (xs : List Entry) → e.session ≢ s → g (of_session s (e ∷ xs)) ≡ g (of_session s xs)
  own_out s e xs not = ap (λ (b : Bool). g (cond b (e ∷ of_session s xs) (of_session s xs))) (ne_eqb _ _ not)

  over_up : (n : ℕ) (xs : List Entry)
      → sum_by g (by_session (suc n) xs) ≡ sum_by g (by_session n xs) + g (of_session (suc n) xs)
  over_up n xs = sum_by_push g (by_session n xs) (of_session (suc n) xs)

  over_zero : (xs : List Entry) → sum_by g (by_session 0 xs) ≡ g (of_session 0 xs)
  over_zero xs =
      let pushed : sum_by g (by_session 0 xs) ≡ 0 + g (of_session 0 xs) = sum_by_push g [] (of_session 0 xs) in
      omega (arith, pushed)

  over_none : (n : ℕ) → sum_by g (by_session n []) ≡ 0
  over_none zero = over_zero [] ∙ none
  over_none (suc n) = omega (arith, over_up n [], over_none n, none)

  over_out : (n : ℕ) (e : Entry) (xs : List Entry) → n < e.session
      → sum_by g (by_session n (e ∷ xs)) ≡ sum_by g (by_session n xs)
  over_out zero e xs h = over_zero (e ∷ xs) ∙ own_out 0 e xs (λ q. absurd (omega (arith, q, h))) ∙ sym (over_zero xs)
  over_out (suc n) e xs h =
      omega (arith, over_up n (e ∷ xs), over_up n xs, over_out n e xs (omega (arith, h)), own_out (suc n) e xs (λ q. absurd (omega (arith, q, h))))

  over_in : (n : ℕ) (e : Entry) (xs : List Entry) → e.session ≤ n
      → sum_by g (by_session n (e ∷ xs)) ≡ f e + sum_by g (by_session n xs)
  over_in zero e xs le = omega (arith, over_zero (e ∷ xs), over_zero xs, own_in 0 e xs (omega (arith, le)))
  over_in (suc n) e xs le = ⊎_elim
      (λ (is : e.session ≡ suc n). omega (arith, over_up n (e ∷ xs), over_up n xs, over_out n e xs (omega (arith, is)), own_in (suc n) e xs is))
      (λ (not : e.session ≢ suc n). omega (arith, over_up n (e ∷ xs), over_up n xs, over_in n e xs (less e.session n le not), own_out (suc n) e xs not))
      (dec_nat e.session (suc n))
    where
      less : (s n : ℕ) → s ≤ suc n → s ≢ suc n → s ≤ n
      less s n le not = omega (arith, le, not)

  over_all : (n : ℕ) (xs : List Entry) → AllOf n xs → sum_by g (by_session n xs) ≡ g xs
  over_all n [] h = over_none n ∙ sym none
  over_all n (e ∷ xs) h = over_in n e xs h.0 ∙ ap (λ (k : ℕ). f e + k) (over_all n xs h.1) ∙ sym (more e xs)

sums : (n : ℕ) (journal : List Entry) → AllOf n journal → totals_of journal ≡ totals_in (by_session n journal)
sums n journal all = λ i. record {
  lines = sym (over_all (λ e. 1) (λ xs. length xs) refl (λ e xs. omega arith) n journal all) i;
  confirmed = sym (over_all confirmed_by (λ xs. sum_by confirmed_by xs) refl (sum_by-cons confirmed_by) n journal all) i;
  released = sym (over_all released_by (λ xs. sum_by released_by xs) refl (sum_by-cons released_by) n journal all) i;
}

-- ---- what gathering gives

pub lists_agree : (grid : Ladders) (n : ℕ) (journal : List Entry) (lists : List (List Entry)) → IsLegal grid journal
    → OnlyFirst n journal → lists ≡ by_session n journal → Agrees lists journal
lists_agree grid n journal lists legal only is = subst (λ (l : List (List Entry)). Agrees l journal) (sym is) (agrees grid n journal legal only)

pub lists_sum : (grid : Ladders) (n : ℕ) (journal : List Entry) (lists : List (List Entry)) (totals : Totals)
    → IsLegal grid journal → OnlyFirst n journal → lists ≡ by_session n journal → totals ≡ totals_of journal
    → totals ≡ totals_in lists
lists_sum grid n journal lists totals legal only is are =
    are ∙ sums n journal (sessions_are n journal [] journal only refl) ∙ ap totals_in (sym is)

pub lists_count : (grid : Ladders) (n : ℕ) (journal : List Entry) (lists : List (List Entry)) → IsLegal grid journal
    → OnlyFirst n journal → lists ≡ by_session n journal → receipts_in lists ≡ length journal
lists_count grid n journal lists legal only is =
    sym (ap (λ (t : Totals). t.lines) (lists_sum grid n journal lists (totals_of journal) legal only is refl))

-- what is gathered keeps the headline
pub headline_of : (grid : Ladders) (cap n : ℕ) (journal given : List Entry) (lists : List (List Entry))
    (totals : Totals) → IsLegal grid journal → length journal ≤ cap → HoldsWithinLimits grid journal
    → OnlyFirst n journal
    → lists ≡ by_session n journal → totals ≡ totals_of journal → given ≡ journal
    → Headline grid cap n given lists totals
headline_of grid cap n journal given lists totals legal capped within only is are same =
    subst (λ (j : List Entry). Headline grid cap n j lists totals) (sym same) (record {
      legal = legal;
      capped = capped;
      within = within;
      each = lists_agree grid n journal lists legal only is;
      lines = lists_count grid n journal lists legal only is;
      own = is;
      only = only;
      totals_are = are;
      sums = lists_sum grid n journal lists totals legal only is are;
    })

-- ---- each line has its number

numbered_from : (grid : Ladders) (journal front rest : List Entry) → IsLegal grid journal → journal ≡ front ++ rest
    → AreNumbered journal rest
numbered_from grid journal front [] legal is = tt
numbered_from grid journal front (e ∷ rest) legal is = (
  ap (nth journal) (number_is grid front e (legal_at grid journal front rest e legal is)) ∙ ap (λ (l : List Entry). slice_get l (length front)) is ∙ here front rest e,
  numbered_from grid journal (front ++ e ∷ []) rest legal (is ∙ sym (append_assoc front (e ∷ []) rest)),
)

-- the numbers of each session's lines are those of lines, and give them again
pub lists_there : (grid : Ladders) (n : ℕ) (journal : List Entry) (numbers : List (List ℕ)) → IsLegal grid journal
    → numbers ≡ map numbers_of (by_session n journal) → AllByRecursion (AreLines journal) numbers
lists_there grid n journal numbers legal is =
    subst (AllByRecursion (AreLines journal)) (sym is) (all_lines journal (by_session n journal) (each_numbered n journal (numbered_from grid journal [] journal legal refl)))

pub lists_again : (grid : Ladders) (n : ℕ) (journal : List Entry) (numbers : List (List ℕ)) → IsLegal grid journal
    → numbers ≡ map numbers_of (by_session n journal) → map (lines_at journal) numbers ≡ by_session n journal
lists_again grid n journal numbers legal is =
    ap (map (lines_at journal)) is ∙ all_again journal (by_session n journal) (each_numbered n journal (numbered_from grid journal [] journal legal refl))
