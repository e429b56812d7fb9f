-- The sessions that an older journal has, and the lines that stand behind it.
use Rattle.std.proofs.Common.{◌≡◌, ⊎_elim, ℕ, zero, suc, ◌+◌, ◌-◌, ◌<◌, ◌≤◌, ◌==◌, Bool, true, false, List, [], ◌∷◌, ◌++◌, length, take, drop, get_or, refl, sym, ap, ◌∙◌, subst, arith, length-append, append_assoc}
use Rattle.seat_replies.proofs.Common.{Ladders, Command, Entry, Work, Seats, IsLegal, by_session, of_session, behind, idle, lists_over}
use Rattle.std.specs.Prelude.{if◌then◌else◌, slice_index}
use Rattle.std.proofs.Math.Seq.{drop-append_seam}
use Rattle.std.proofs.lemmas.Bool.{cases_lt}
use Rattle.std.proofs.lemmas.List.{append-nil, take_all, take-append-le}
use Rattle.std.proofs.lemmas.Bool.Decides.{nat_tests}
use Rattle.seat_journal.specs.declared.entry.Work.TheVariants.{Limit, Sale}
use Rattle.seat_rules.specs.Journal.{IsLegalAfter, MayAsk, calls_of}
use Rattle.seat_rules.proofs.History.Legal.{legal_to_after}
use Rattle.seat_rules.specs.Histories.{OnlyFirst}
use Rattle.seat_rules.proofs.Own.{calls_own, own_append, own_other}
use Rattle.seat_replies.specs.Going.{calls_to, highest_to, past_of}
use Rattle.seat_replies.proofs.Rows.{place_below, row_at, row_count}

-- ---- the counts of lines

calls_count : (n : ℕ) (past : List Entry) → length (calls_to n past) ≡ suc n
calls_count n past = row_count (λ s. calls_of past s) (λ k. calls_to k past) refl (λ k. refl) n

calls_at : (n i d : ℕ) (past : List Entry) → i < suc n → get_or (calls_to n past) i d ≡ calls_of past i
calls_at n i d past low = row_at (λ s. calls_of past s) (λ k. calls_to k past) refl (λ k. refl) n i d low

-- the count of each session to 8
pub past_calls : (past : List Entry) (s : ℕ) → s ≤ 8 → slice_index (past_of past).calls s ≡ calls_of past s
past_calls past s low = calls_at 8 s 0 past (omega (arith, low))

pub past_counts : (past : List Entry) → length (past_of past).calls ≡ 9
past_counts past = calls_count 8 past

pub sessions_count : (n : ℕ) (history : List Entry) → length (by_session n history) ≡ suc n
sessions_count n history = row_count (λ s. of_session s history) (λ k. by_session k history) refl (λ k. refl) n

pub lines_at : (n i : ℕ) (history : List Entry) → i < suc n → get_or (by_session n history) i [] ≡ of_session i history
lines_at n i history low = row_at (λ s. of_session s history) (λ k. by_session k history) refl (λ k. refl) n i [] low

-- ---- the lines behind the past

behind_push : (counts : List ℕ) (lists : List (List Entry)) (n : ℕ) (lines : List Entry) → length counts ≡ length lists
    → behind (counts ++ n ∷ []) (lists ++ lines ∷ []) ≡ behind counts lists ++ drop n lines ∷ []
behind_push [] [] n lines same = refl
behind_push [] (l ∷ lists) n lines same = absurd (omega (arith, same))
behind_push (c ∷ counts) [] n lines same = absurd (omega (arith, same))
behind_push (c ∷ counts) (l ∷ lists) n lines same = ap (λ (x : List (List Entry)). drop c l ∷ x) (behind_push counts lists n lines (omega (arith, same)))

behind_longer : (counts more : List ℕ) (lists : List (List Entry)) → length lists ≡ length counts
    → behind (counts ++ more) lists ≡ behind counts lists
behind_longer [] [] [] same = refl
behind_longer [] (m ∷ more) [] same = refl
behind_longer [] more (l ∷ lists) same = absurd (omega (arith, same))
behind_longer (c ∷ counts) more [] same = absurd (omega (arith, same))
behind_longer (c ∷ counts) more (l ∷ lists) same = ap (λ (x : List (List Entry)). drop c l ∷ x) (behind_longer counts more lists (omega (arith, same)))

own_behind : (s : ℕ) (past added : List Entry)
    → drop (calls_of past s) (of_session s (past ++ added)) ≡ of_session s added
own_behind s past added =
    ap (λ (k : ℕ). drop k (of_session s (past ++ added))) (calls_own past s)
    ∙ (ap (λ (l : List Entry). drop (length (of_session s past)) l) (own_append s past added) ∙ drop-append_seam (of_session s past) (of_session s added))

behind_all : (k : ℕ) (past added : List Entry)
    → behind (calls_to k past) (by_session k (past ++ added)) ≡ by_session k added
behind_all zero past added = ap (λ (l : List Entry). l ∷ []) (own_behind 0 past added)
behind_all (suc k) past added =
    behind_push (calls_to k past) (by_session k (past ++ added)) (calls_of past (suc k)) (of_session (suc k) (past ++ added)) (calls_count k past ∙ sym (sessions_count k (past ++ added)))
    ∙ (ap (λ (l : List (List Entry)). l ++ drop (calls_of past (suc k)) (of_session (suc k) (past ++ added)) ∷ []) (behind_all k past added)
    ∙ ap (λ (l : List Entry). by_session k added ++ l ∷ []) (own_behind (suc k) past added))

-- the counts to n begin with those to k
record Longer (k n : ℕ) (past : List Entry) : Type 0 where
  more : List ℕ
  is : calls_to n past ≡ calls_to k past ++ more

longer : (k n : ℕ) (past : List Entry) → k ≤ n → Longer k n past
longer k zero past le = let e : k ≡ 0 = omega (arith, le) in record { more = []; is = subst (λ (j : ℕ). calls_to 0 past ≡ calls_to j past ++ []) (sym e) refl }
longer k (suc n) past le = ⊎_elim (λ (lt : k < suc n). further (longer k n past (omega (arith, lt)))) here (place_below k (suc n) (omega (arith, le))) where
  further : Longer k n past → Longer k (suc n) past
  further l = record { more = l.more ++ calls_of past (suc n) ∷ []; is = ap (λ (x : List ℕ). x ++ calls_of past (suc n) ∷ []) l.is ∙ append_assoc (calls_to k past) l.more (calls_of past (suc n) ∷ []) }

  here : suc n ≡ k → Longer k (suc n) past
  here e = record { more = []; is = subst (λ (j : ℕ). calls_to (suc n) past ≡ calls_to j past ++ []) e (sym (append-nil (calls_to (suc n) past))) }

behind_some : (k n : ℕ) (past added : List Entry) → k ≤ n
    → behind (calls_to n past) (by_session k (past ++ added)) ≡ by_session k added
behind_some k n past added le =
    let l = longer k n past le in
    ap (λ (c : List ℕ). behind c (by_session k (past ++ added))) l.is
    ∙ (behind_longer (calls_to k past) l.more (by_session k (past ++ added)) (sessions_count k (past ++ added) ∙ sym (calls_count k past)) ∙ behind_all k past added)

-- the first sessions of more
first_sessions : (k n : ℕ) (history : List Entry) → k ≤ n → take (suc k) (by_session n history) ≡ by_session k history
first_sessions k zero history le = let e : k ≡ 0 = omega (arith, le) in subst (λ (j : ℕ). take (suc j) (by_session 0 history) ≡ by_session j history) (sym e) refl
first_sessions k (suc n) history le = ⊎_elim (λ (lt : k < suc n). further lt (first_sessions k n history (omega (arith, lt)))) here (place_below k (suc n) (omega (arith, le))) where
  further : k < suc n → take (suc k) (by_session n history) ≡ by_session k history
      → take (suc k) (by_session (suc n) history) ≡ by_session k history
  further lt rest = take-append-le (suc k) (by_session n history) (of_session (suc n) history ∷ []) (omega (arith, lt, sessions_count n history)) ∙ rest

  here : suc n ≡ k → take (suc k) (by_session (suc n) history) ≡ by_session k history
  here e = subst (λ (j : ℕ). take (suc j) (by_session (suc n) history) ≡ by_session j history) e (take_all (suc (suc n)) (by_session (suc n) history) (omega (arith, sessions_count (suc n) history)))

-- the lines of the first sessions that stand behind the past
pub added_lines : (k n : ℕ) (past added : List Entry) → k ≤ n → k ≤ 8
    → behind (past_of past).calls (take (suc k) (by_session n (past ++ added))) ≡ by_session k added
added_lines k n past added le few =
    ap (behind (calls_to 8 past)) (first_sessions k n (past ++ added) le) ∙ behind_some k 8 past added few

-- ---- lists of nothing

pub idle_count : (n : ℕ) → length (idle n) ≡ n
idle_count zero = refl
idle_count (suc n) = ap suc (idle_count n)

-- one list of nothing more, and so many fewer that are left
pub idle_next : (old new all : List (List Command)) (sessions : ℕ) → old ++ idle (sessions - length old) ≡ all
    → length old < sessions → new ≡ old ++ [] ∷ [] → new ++ idle (sessions - length new) ≡ all
idle_next old new all sessions so_far fewer added =
    let left : sessions - length old ≡ suc (sessions - length new) = omega (arith, fewer, ap length added, length-append old ([] ∷ [])) in
    ap (λ (l : List (List Command)). l ++ idle (sessions - length new)) added
    ∙ (append_assoc old ([] ∷ []) (idle (sessions - length new)) ∙ (ap (λ (k : ℕ). old ++ idle k) (sym left) ∙ so_far))

pub idle_end : (new all : List (List Command)) (sessions : ℕ) → new ++ idle (sessions - length new) ≡ all
    → sessions ≤ length new → new ≡ all
idle_end new all sessions so_far enough =
    let none : sessions - length new ≡ 0 = omega (arith, enough) in
    sym (append-nil new) ∙ (ap (λ (k : ℕ). new ++ idle k) (sym none) ∙ so_far)

pub idle_at : (n i : ℕ) → get_or (idle n) i [] ≡ []
idle_at zero i = refl
idle_at (suc n) zero = refl
idle_at (suc n) (suc i) = idle_at n i

-- ---- the highest session

pub highest_less : (past : List Entry) (n m : ℕ) → highest_to 8 past ≡ highest_to n past → 0 < n → calls_of past n ≡ 0
    → m ≡ n - 1 → highest_to 8 past ≡ highest_to m past
highest_less past zero m so_far some none is = absurd (omega (arith, some))
highest_less past (suc n) m so_far some none is =
    let test : (calls_of past (suc n) == 0) ≡ true = grind (arith, nat_tests, none) in
    let step : (if calls_of past (suc n) == 0 then highest_to n past else suc n) ≡ highest_to n past = rw test refl in
    let same : n ≡ m = omega (arith, is) in
    so_far ∙ (step ∙ ap (λ (k : ℕ). highest_to k past) same)

pub highest_here : (past : List Entry) (n : ℕ) → highest_to 8 past ≡ highest_to n past → 0 < n → 0 < calls_of past n
    → n ≡ highest_to 8 past
highest_here past zero so_far some lines = absurd (omega (arith, some))
highest_here past (suc n) so_far some lines =
    let test : (calls_of past (suc n) == 0) ≡ false = grind (arith, nat_tests, lines) in
    let step : (if calls_of past (suc n) == 0 then highest_to n past else suc n) ≡ suc n = rw test refl in
    sym (so_far ∙ step)

above : (n s : ℕ) (past : List Entry) → highest_to n past < s → s ≤ n → calls_of past s ≡ 0
above zero s past low le = absurd (omega (arith, low, le))
above (suc n) s past low le = cases (calls_of past (suc n) == 0) refl (λ (rest : highest_to n past < s) (lt : s < suc n). above n s past rest (omega (arith, lt))) where
  cases : (t : Bool) → (calls_of past (suc n) == 0) ≡ t → (highest_to n past < s → s < suc n → calls_of past s ≡ 0)
      → calls_of past s ≡ 0
  cases true e below =
      let rest : highest_to n past < s = subst (λ (k : ℕ). k < s) (rw e refl) low in
      ⊎_elim (λ (lt : s < suc n). below rest lt)
      (λ (is : suc n ≡ s). subst (λ (k : ℕ). calls_of past k ≡ 0) is (grind (arith, nat_tests, e)))
      (place_below s (suc n) (omega (arith, le)))
  cases false e below = let here : suc n < s = subst (λ (k : ℕ). k < s) (rw e refl) low in absurd (omega (arith, here, le))

no_lines_of : (xs : List Entry) → length xs ≡ 0 → xs ≡ []
no_lines_of [] e = refl
no_lines_of (x ∷ xs) e = absurd (omega (arith, e))

-- no line is of a session above 8
pub few_may : (session : ℕ) (w : Work) → MayAsk session w → session ≤ 8
few_may session (Seats c) may = may.1
few_may session (Limit c) may = omega (arith, may)
few_may session (Sale c) may = omega (arith, may)

beyond : (grid : Ladders) (s : ℕ) (past es : List Entry) → 8 < s → IsLegalAfter grid past es → of_session s es ≡ []
beyond grid s past [] high legal = refl
beyond grid s past (e ∷ es) high legal =
    let low : e.session ≤ 8 = few_may e.session e.work legal.0.session in
    own_append s (e ∷ []) es ∙ (ap (λ (l : List Entry). l ++ of_session s es) (own_other s e (λ same. absurd (omega (arith, same, low, high)))) ∙ beyond grid s (past ++ e ∷ []) es high legal.1)

above_all : (grid : Ladders) (past : List Entry) (s : ℕ) → IsLegal grid past → highest_to 8 past < s
    → of_session s past ≡ []
above_all grid past s legal low =
    ⊎_elim (λ (high : 8 < s). beyond grid s [] past high (legal_to_after grid [] past legal))
    (λ (le : s ≤ 8). no_lines_of (of_session s past) (sym (calls_own past s) ∙ above 8 s past low le))
    (cases_lt 8 s)

pub over_count : (past : List Entry) (lists : List (List Command))
    → length (lists_over past lists) ≡ length lists + (highest_to 8 past - length lists)
over_count past lists = length-append lists (idle (highest_to 8 past - length lists)) ∙ ap (λ (k : ℕ). length lists + k) (idle_count (highest_to 8 past - length lists))

highest_low : (n : ℕ) (past : List Entry) → highest_to n past ≤ n
highest_low zero past = omega arith
highest_low (suc n) past = cases (calls_of past (suc n) == 0) refl (highest_low n past) where
  cases : (t : Bool) → (calls_of past (suc n) == 0) ≡ t → highest_to n past ≤ n → highest_to (suc n) past ≤ suc n
  cases true e below =
      let step : (if calls_of past (suc n) == 0 then highest_to n past else suc n) ≡ highest_to n past = rw e refl in
      omega (arith, step, below)
  cases false e below =
      let step : (if calls_of past (suc n) == 0 then highest_to n past else suc n) ≡ suc n = rw e refl in
      omega (arith, step)

-- one to eight sessions are opened
pub over_few : (past : List Entry) (lists : List (List Command)) → 1 ≤ length lists → length lists ≤ 8
    → (1 ≤ length (lists_over past lists)) × (length (lists_over past lists) ≤ 8)
over_few past lists some few = (omega (arith, some, over_count past lists), omega (arith, few, over_count past lists, highest_low 8 past))

-- no line is of a session above those that are opened
pub only_opened : (grid : Ladders) (past : List Entry) (lists : List (List Command)) → IsLegal grid past
    → OnlyFirst (length (lists_over past lists)) past
only_opened grid past lists legal =
    record { none = λ s high. above_all grid past s legal (omega (arith, high, over_count past lists)) }
