-- Numbered requests that come again change nothing.
use Rattle.std.proofs.Common.{◌≡◌, ◌⊎◌, inl, inr, ℕ, zero, suc, ◌+◌, ◌<◌, ◌≤◌, Bool, true, false, ◌==◌, ◌&&◌, nat_lt, if◌then◌else◌, List, [], ◌∷◌, ◌++◌, length, take, drop, refl, ap, sym, ◌∙◌, subst, arith, append_assoc, length-append, take-append-drop}
use Rattle.std.specs.List.{flat_map}
use Rattle.std.proofs.lemmas.Bool.Decides.{nat_tests}
use Rattle.seat_journal.specs.declared.entry.Entry.{Entry}
use Rattle.seat_journal.specs.declared.entry.Work.{Work}
use Rattle.seat_nesting.specs.Nesting.{Ladders}
use Rattle.seat_rules.specs.Histories.{of_session}
use Rattle.seat_rules.specs.Journal.{calls_of, next_line}
use Rattle.seat_rules.proofs.Own.{calls_own, own_append, own_one}
use Rattle.desk_calls.specs.Sending.{Numbered, behind_call, behind_calls, is_next, next_calls, numbered_from, sent, SentAgainIsSentOnce}

-- a line of the session's is a call more
one_more : (session : ℕ) (past : List Entry) (e : Entry) → e.session ≡ session
    → calls_of (past ++ e ∷ []) session ≡ calls_of past session + 1
one_more session past e own =
    calls_own (past ++ e ∷ []) session ∙ ap length (own_append session past (e ∷ []))
    ∙ ap (λ (l : List Entry). length (of_session session past ++ l)) (own_one session e own)
    ∙ length-append (of_session session past) (e ∷ []) ∙ ap (λ (n : ℕ). n + 1) (sym (calls_own past session))

module _ (grid : Ladders) (cap session : ℕ) where
  -- calls up to n are there, or there is no room for more
  abbrev Settled : ℕ → List Entry → Type 0
  Settled n past = (n ≤ calls_of past session) ⊎ (cap ≤ length past)

  abbrev line_for : List Entry → Numbered → Entry
  line_for past asked = next_line grid past session asked.call asked.work

  -- such a call changes nothing
  not_next : (n : ℕ) (past : List Entry) (asked : Numbered) → Settled n past → asked.call ≤ n
      → is_next cap session past asked.call ≡ false
  not_next n past asked (inl there) low =
      let other : (asked.call == calls_of past session + 1) ≡ false = grind (arith, nat_tests) in
      rw other refl
  not_next n past asked (inr full) low =
      let none : nat_lt (length past) cap ≡ false = grind (arith, nat_tests) in
      rw none (and_false (asked.call == calls_of past session + 1))
    where
      and_false : (b : Bool) → (b && false) ≡ false
      and_false true = refl
      and_false false = refl

  same : (n : ℕ) (past : List Entry) (asked : Numbered) → Settled n past → asked.call ≤ n
      → behind_call grid cap session past asked ≡ past
  same n past asked settled low = rw (not_next n past asked settled low) refl

  -- behind a call that goes on, one more is there
  after : (n : ℕ) (past : List Entry) (asked : Numbered) → Settled n past → asked.call ≡ suc n
      → Settled (suc n) (behind_call grid cap session past asked)
  after n past asked settled at = cases (is_next cap session past asked.call) refl
    where
      left : (asked.call == calls_of past session + 1) ≡ false → Settled n past → Settled (suc n) past
      left other (inl there) = inl (grind (arith, nat_tests))
      left other (inr full) = inr full

      by_parts : (b c : Bool) → (asked.call == calls_of past session + 1) ≡ b → nat_lt (length past) cap ≡ c → (b && c) ≡ false
          → Settled (suc n) past
      by_parts true true e f is = absurd (cc is)
      by_parts true false e f is = inr (grind (arith, nat_tests))
      by_parts false c e f is = left e settled

      is_call : (b c : Bool) → (asked.call == calls_of past session + 1) ≡ b → (b && c) ≡ true
          → asked.call ≡ calls_of past session + 1
      is_call true c e is = grind (arith, nat_tests)
      is_call false c e is = absurd (cc is)

      cases : (b : Bool) → is_next cap session past asked.call ≡ b
          → Settled (suc n) (behind_call grid cap session past asked)
      cases true e =
          let here : asked.call ≡ calls_of past session + 1 =
          is_call (asked.call == calls_of past session + 1) (nat_lt (length past) cap) refl e in
          let more : calls_of (past ++ line_for past asked ∷ []) session ≡ calls_of past session + 1 =
          one_more session past (line_for past asked) refl in
          rw e (inl (omega (arith, here, more, at)))
      cases false e =
          rw e (by_parts (asked.call == calls_of past session + 1) (nat_lt (length past) cap) refl refl e)

  -- ---- lists

  append_calls : (xs ys : List Numbered) (past : List Entry)
      → behind_calls grid cap session past (xs ++ ys) ≡ behind_calls grid cap session (behind_calls grid cap session past xs) ys
  append_calls [] ys past = refl
  append_calls (x ∷ xs) ys past = append_calls xs ys (behind_call grid cap session past x)

  all_after : (n : ℕ) (works : List Work) (past : List Entry) → Settled n past
      → Settled (n + length works) (behind_calls grid cap session past (numbered_from (suc n) works))
  all_after n [] past settled = subst (λ (m : ℕ). Settled m past) (omega arith) settled
  all_after n (work ∷ works) past settled =
      let next : Settled (suc n) (behind_call grid cap session past (record { call = suc n; work = work })) =
      after n past (record { call = suc n; work = work }) settled refl in
      subst (λ (m : ℕ). Settled m (behind_calls grid cap session past (numbered_from (suc n) (work ∷ works)))) (omega arith)
      (all_after (suc n) works (behind_call grid cap session past (record { call = suc n; work = work })) next)

  all_same : (n m : ℕ) (works : List Work) (past : List Entry) → Settled m past → n + length works ≤ m
      → behind_calls grid cap session past (numbered_from (suc n) works) ≡ past
  all_same n m [] past settled few = refl
  all_same n m (work ∷ works) past settled few =
      let one : behind_call grid cap session past (record { call = suc n; work = work }) ≡ past =
      same m past (record { call = suc n; work = work }) settled (omega (arith, few)) in
      ap (λ (l : List Entry). behind_calls grid cap session l (numbered_from (suc (suc n)) works)) one
      ∙ all_same (suc n) m works past settled (omega (arith, few))

  take_numbered : (k n : ℕ) (works : List Work) → take k (numbered_from n works) ≡ numbered_from n (take k works)
  take_numbered zero n works = refl
  take_numbered (suc k) n [] = refl
  take_numbered (suc k) n (work ∷ works) =
      ap (λ (l : List Numbered). record { call = n; work = work } ∷ l) (take_numbered k (suc n) works)

  keeps : (n : ℕ) (works : List Work) (past : List Entry) → Settled n past
      → Settled n (behind_calls grid cap session past (numbered_from (suc n) works))
  keeps n works past settled = lower (all_after n works past settled)
    where
      lower : Settled (n + length works) (behind_calls grid cap session past (numbered_from (suc n) works))
          → Settled n (behind_calls grid cap session past (numbered_from (suc n) works))
      lower (inl there) = inl (omega (arith, there))
      lower (inr full) = inr full

  -- a list sent twice is the list sent once
  twice : (n : ℕ) (works : List Work) (past : List Entry) → Settled n past
      → behind_calls grid cap session (behind_calls grid cap session past (numbered_from (suc n) works)) (numbered_from (suc n) works)
      ≡ behind_calls grid cap session past (numbered_from (suc n) works)
  twice n works past settled =
      all_same n (n + length works) works (behind_calls grid cap session past (numbered_from (suc n) works))
      (all_after n works past settled) (omega arith)

  -- the first k ahead of the whole list change nothing
  cut_once : (n k : ℕ) (works : List Work) (past : List Entry) → Settled n past
      → behind_calls grid cap session (behind_calls grid cap session past (take k (numbered_from (suc n) works)))
      (numbered_from (suc n) works) ≡ behind_calls grid cap session past (numbered_from (suc n) works)
  cut_once n k works past settled =
      let list : List Numbered = numbered_from (suc n) works in
      let front : List Numbered = numbered_from (suc n) (take k works) in
      let rest : List Numbered = drop k list in
      let is_front : take k list ≡ front = take_numbered k (suc n) works in
      let parts : front ++ rest ≡ list = ap (λ (l : List Numbered). l ++ rest) (sym is_front) ∙ take-append-drop k list in
      let far : (l : List Entry) → behind_calls grid cap session l list
      ≡ behind_calls grid cap session (behind_calls grid cap session l front) rest =
      λ l. ap (behind_calls grid cap session l) (sym parts) ∙ append_calls front rest l in
      ap (λ (l : List Numbered). behind_calls grid cap session (behind_calls grid cap session past l) list) is_front
      ∙ far (behind_calls grid cap session past front)
      ∙ ap (λ (l : List Entry). behind_calls grid cap session l rest) (twice n (take k works) past settled)
      ∙ sym (far past)

  again : (n : ℕ) (works : List Work) (cuts : List ℕ) (past : List Entry) → Settled n past
      → behind_calls grid cap session past (sent cuts (numbered_from (suc n) works))
      ≡ behind_calls grid cap session past (numbered_from (suc n) works)
  again n works [] past settled = refl
  again n works (k ∷ cuts) past settled =
      let list : List Numbered = numbered_from (suc n) works in
      let is_front : take k list ≡ numbered_from (suc n) (take k works) = take_numbered k (suc n) works in
      let settled_on : Settled n (behind_calls grid cap session past (take k list)) =
      subst (λ (l : List Numbered). Settled n (behind_calls grid cap session past l)) (sym is_front)
      (keeps n (take k works) past settled) in
      ap (behind_calls grid cap session past) (append_assoc (take k list) (flat_map (λ (m : ℕ). take m list) cuts) list)
      ∙ append_calls (take k list) (sent cuts list) past
      ∙ again n works cuts (behind_calls grid cap session past (take k list)) settled_on
      ∙ cut_once n k works past settled

pub sent_again_is_sent_once : SentAgainIsSentOnce
sent_again_is_sent_once grid cap session past works cuts =
    let here : calls_of past session + 1 ≡ suc (calls_of past session) = omega arith in
    subst (λ (n : ℕ). behind_calls grid cap session past (sent cuts (numbered_from n works))
    ≡ behind_calls grid cap session past (numbered_from n works)) (sym here)
    (again grid cap session (calls_of past session) works cuts past (inl (omega arith)))
