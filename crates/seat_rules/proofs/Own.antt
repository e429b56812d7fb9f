-- The entries of one session.
use Rattle.std.proofs.Common.{◌≡◌, ◌≢◌, ℕ, ◌+◌, ◌≤◌, ◌==◌, Bool, true, false, cond, List, [], ◌∷◌, ◌++◌, length, refl, ap, sym, ◌∙◌, arith, eq-eqb, ne_eqb}
use Rattle.seat_rules.proofs.Common.{Entry, calls_of}
use Rattle.std.proofs.lemmas.List.Sums.{length-filter}
use Rattle.seat_rules.specs.Histories.{of_session}

cond_append : (b : Bool) (x : Entry) (xs ys : List Entry) → cond b (x ∷ xs ++ ys) (xs ++ ys) ≡ cond b (x ∷ xs) xs ++ ys
cond_append true x xs ys = refl
cond_append false x xs ys = refl

pub own_append : (s : ℕ) (xs ys : List Entry) → of_session s (xs ++ ys) ≡ of_session s xs ++ of_session s ys
own_append s [] ys = refl
own_append s (x ∷ xs) ys =
    ap (λ l. cond (x.session == s) (x ∷ l) l) (own_append s xs ys) ∙ cond_append (x.session == s) x (of_session s xs) (of_session s ys)

cond_length : (b : Bool) (x : Entry) (xs : List Entry) (n : ℕ) → length xs ≤ n → length (cond b (x ∷ xs) xs) ≤ n + 1
cond_length true x xs n le = omega (arith, le)
cond_length false x xs n le = omega (arith, le)

pub own_length : (s : ℕ) (xs : List Entry) → length (of_session s xs) ≤ length xs
own_length s [] = omega arith
own_length s (x ∷ xs) = omega (arith, cond_length (x.session == s) x (of_session s xs) (length xs) (own_length s xs))

one_if : (b : Bool) (x : Entry) → b ≡ true → cond b (x ∷ []) [] ≡ x ∷ []
one_if true x e = refl
one_if false x e = absurd (cc e)

none_if : (b : Bool) (x : Entry) → b ≡ false → cond b (x ∷ []) [] ≡ []
none_if true x e = absurd (cc e)
none_if false x e = refl

pub own_one : (s : ℕ) (e : Entry) → e.session ≡ s → of_session s (e ∷ []) ≡ e ∷ []
own_one s e is = one_if (e.session == s) e (eq-eqb _ _ is)

pub own_other : (s : ℕ) (e : Entry) → e.session ≢ s → of_session s (e ∷ []) ≡ []
own_other s e not = none_if (e.session == s) e (ne_eqb _ _ not)

-- a session has as many calls as entries
pub calls_own : (journal : List Entry) (s : ℕ) → calls_of journal s ≡ length (of_session s journal)
calls_own journal s = sym (length-filter (λ (e : Entry). e.session == s) journal)
