-- A feed that comes to a line more.
use Rattle.std.proofs.Common.{◌≡◌, ℕ, zero, suc, ◌+◌, ◌<◌, ◌≤◌, Bool, true, false, ◌==◌, cond, add-one, List, [], ◌∷◌, ◌++◌, length, take, drop, refl, ap, sym, ◌∙◌, arith, length-append}
use Rattle.std.specs.Prelude.{Some, set, slice_get}
use Rattle.std.proofs.Math.Nat.{min-eq_left}
use Rattle.std.proofs.lemmas.List.{length-take}
use Rattle.seat_journal.specs.declared.entry.Entry.{Entry}
use Rattle.seat_rules.specs.Histories.{of_session}
use Rattle.seat_rules.specs.Journal.{calls_of}
use Rattle.seat_rules.proofs.Own.{calls_own, own_append, own_length}
use Rattle.desk_feed.specs.Progress.{all_calls, one_more, start, HasPassed, IsProgress}
use Rattle.desk_feed.specs.declared.progress.Progress.{Progress}

-- ---- places

pub next_there : (xs : List Entry) (i : ℕ) (e : Entry) → slice_get xs i ≡ Some e → i < length xs
next_there [] i e is = absurd (cc is)
next_there (x ∷ xs) zero e is = omega arith
next_there (x ∷ xs) (suc i) e is = omega (arith, next_there xs i e is)

pub take_next : (xs : List Entry) (i : ℕ) (e : Entry) → slice_get xs i ≡ Some e → take (suc i) xs ≡ take i xs ++ e ∷ []
take_next [] i e is = absurd (cc is)
take_next (x ∷ xs) zero e is =
    let same : x ≡ e = cc is in
    ap (λ (y : Entry). y ∷ []) same
take_next (x ∷ xs) (suc i) e is = ap (λ (l : List Entry). x ∷ l) (take_next xs i e is)

pub drop_next : (xs : List Entry) (i : ℕ) (e : Entry) → slice_get xs i ≡ Some e → drop i xs ≡ e ∷ drop (suc i) xs
drop_next [] i e is = absurd (cc is)
drop_next (x ∷ xs) zero e is =
    let same : x ≡ e = cc is in
    ap (λ (y : Entry). y ∷ xs) same
drop_next (x ∷ xs) (suc i) e is = drop_next xs i e is

-- ---- calls

-- one more, or as many
abbrev bump : Bool → ℕ → ℕ
bump true n = n + 1
bump false n = n

one_length : (b : Bool) (e : Entry) (n : ℕ) → n + length (cond b (e ∷ []) []) ≡ bump b n
one_length true e n = omega arith
one_length false e n = omega arith

calls_push : (xs : List Entry) (e : Entry) (k : ℕ) → calls_of (xs ++ e ∷ []) k ≡ bump (e.session == k) (calls_of xs k)
calls_push xs e k =
    calls_own (xs ++ e ∷ []) k ∙ ap length (own_append k xs (e ∷ []))
    ∙ length-append (of_session k xs) (of_session k (e ∷ []))
    ∙ ap (λ (n : ℕ). n + length (of_session k (e ∷ []))) (sym (calls_own xs k))
    ∙ one_length (e.session == k) e (calls_of xs k)

abbrev bumped : ℕ → List Entry → List ℕ
bumped s xs =
    bump (s == 0) (calls_of xs 0) ∷ bump (s == 1) (calls_of xs 1) ∷ bump (s == 2) (calls_of xs 2) ∷ bump (s == 3) (calls_of xs 3)
    ∷ bump (s == 4) (calls_of xs 4) ∷ bump (s == 5) (calls_of xs 5) ∷ bump (s == 6) (calls_of xs 6) ∷ bump (s == 7) (calls_of xs 7)
    ∷ bump (s == 8) (calls_of xs 8) ∷ []

cons_same : (a b : ℕ) (xs ys : List ℕ) → a ≡ b → xs ≡ ys → a ∷ xs ≡ b ∷ ys
cons_same a b xs ys p q = ap (λ (n : ℕ). n ∷ xs) p ∙ ap (λ (l : List ℕ). b ∷ l) q

all_push : (xs : List Entry) (e : Entry) → all_calls (xs ++ e ∷ []) ≡ bumped e.session xs
all_push xs e =
    cons_same _ _ _ _ (calls_push xs e 0) (cons_same _ _ _ _ (calls_push xs e 1) (cons_same _ _ _ _ (calls_push xs e 2)
    (cons_same _ _ _ _ (calls_push xs e 3) (cons_same _ _ _ _ (calls_push xs e 4) (cons_same _ _ _ _ (calls_push xs e 5)
    (cons_same _ _ _ _ (calls_push xs e 6) (cons_same _ _ _ _ (calls_push xs e 7) (cons_same _ _ _ _ (calls_push xs e 8) refl))))))))

bumped_is : (s : ℕ) (xs : List Entry) → s ≤ 8 → bumped s xs ≡ set (all_calls xs) s (calls_of xs s + 1)
bumped_is zero xs le = refl
bumped_is (suc zero) xs le = refl
bumped_is (suc (suc zero)) xs le = refl
bumped_is (suc (suc (suc zero))) xs le = refl
bumped_is (suc (suc (suc (suc zero)))) xs le = refl
bumped_is (suc (suc (suc (suc (suc zero))))) xs le = refl
bumped_is (suc (suc (suc (suc (suc (suc zero)))))) xs le = refl
bumped_is (suc (suc (suc (suc (suc (suc (suc zero))))))) xs le = refl
bumped_is (suc (suc (suc (suc (suc (suc (suc (suc zero)))))))) xs le = refl
bumped_is (suc (suc (suc (suc (suc (suc (suc (suc (suc s))))))))) xs le = absurd (omega (arith, le))

-- the calls of each are there
pub calls_at : (s : ℕ) (xs : List Entry) → s ≤ 8 → slice_get (all_calls xs) s ≡ Some (calls_of xs s)
calls_at zero xs le = refl
calls_at (suc zero) xs le = refl
calls_at (suc (suc zero)) xs le = refl
calls_at (suc (suc (suc zero))) xs le = refl
calls_at (suc (suc (suc (suc zero)))) xs le = refl
calls_at (suc (suc (suc (suc (suc zero))))) xs le = refl
calls_at (suc (suc (suc (suc (suc (suc zero)))))) xs le = refl
calls_at (suc (suc (suc (suc (suc (suc (suc zero))))))) xs le = refl
calls_at (suc (suc (suc (suc (suc (suc (suc (suc zero)))))))) xs le = refl
calls_at (suc (suc (suc (suc (suc (suc (suc (suc (suc s))))))))) xs le = absurd (omega (arith, le))

pub few_more : (n : ℕ) → n ≤ 999999 → one_more n ≡ n + 1
few_more n le = min-eq_left (omega (arith, le))

few_calls : (xs : List Entry) (s : ℕ) → length xs ≤ 999999 → calls_of xs s ≤ 999999
few_calls xs s le = omega (arith, le, calls_own xs s, own_length s xs)

-- what a session has of calls is what the lines have that were come to
pub calls_then : (journal : List Entry) (progress : Progress) (s calls : ℕ) → IsProgress journal progress → s ≤ 8
    → slice_get progress.calls s ≡ Some calls → calls ≡ calls_of (take progress.lines journal) s
calls_then journal progress s calls is le at =
    let there : Some calls ≡ Some (calls_of (take progress.lines journal) s) =
    sym at ∙ ap (λ (l : List ℕ). slice_get l s) is.calls_are ∙ calls_at s (take progress.lines journal) le in
    cc there

-- it comes to the next line
pub passed : (journal : List Entry) (old new : Progress) (s : ℕ) (e : Entry) → IsProgress journal old → HasPassed old new s
    → slice_get journal old.lines ≡ Some e → e.session ≡ s → s ≤ 8 → length journal ≤ 999999 → IsProgress journal new
passed journal old new s e is pass at own le few =
    let there : old.lines < length journal = next_there journal old.lines e at in
    let front : List Entry = take old.lines journal in
    let lines : new.lines ≡ old.lines + 1 = pass.lines_are ∙ few_more old.lines (omega (arith, there, few)) in
    let short : length front ≤ 999999 = omega (arith, few, length-take old.lines journal) in
    let was : pass.calls ≡ calls_of front s = calls_then journal old s pass.calls is le pass.stood in
    let more : one_more pass.calls ≡ calls_of front s + 1 =
    few_more pass.calls (omega (arith, was, few_calls front s short)) ∙ ap (λ (n : ℕ). n + 1) was in
    let longer : take new.lines journal ≡ front ++ e ∷ [] = ap (λ (n : ℕ). take n journal) (lines ∙ add-one old.lines) ∙ take_next journal old.lines e at in
    record {
      within = omega (arith, lines, there);
      calls_are = pass.calls_are ∙ ap (λ (n : ℕ). set old.calls s n) more
          ∙ ap (λ (l : List ℕ). set l s (calls_of front s + 1)) is.calls_are
          ∙ sym (bumped_is s front le) ∙ ap (λ (n : ℕ). bumped n front) (sym own) ∙ sym (all_push front e)
          ∙ ap all_calls (sym longer);
    }

-- lines more behind those that it has come to change nothing of it
pub progress_longer : (journal more : List Entry) (progress : Progress) → IsProgress journal progress
    → IsProgress (journal ++ more) progress
progress_longer journal more progress is = record {
  within = omega (arith, is.within, length-append journal more);
  calls_are = is.calls_are ∙ ap all_calls (sym (take_front progress.lines journal more is.within));
}
  where
    take_front : (n : ℕ) (xs ys : List Entry) → n ≤ length xs → take n (xs ++ ys) ≡ take n xs
    take_front zero xs ys le = refl
    take_front (suc n) [] ys le = absurd (omega (arith, le))
    take_front (suc n) (x ∷ xs) ys le = ap (λ (l : List Entry). x ∷ l) (take_front n xs ys (omega (arith, le)))

-- ahead of the first line it has come to nothing
pub at_start : (journal : List Entry) → IsProgress journal start
at_start journal = record { within = omega arith; calls_are = refl }
