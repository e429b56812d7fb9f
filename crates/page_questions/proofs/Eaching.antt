-- Parts behind parts.
use Rattle.std.proofs.Common.{◌≡◌, ℕ, suc, ◌+◌, ◌-◌, ◌<◌, ◌≤◌, List, [], ◌++◌, refl, sym, ap, ◌∙◌, append_assoc, arith}
use Rattle.std.proofs.lemmas.List.{append-nil}
use Rattle.page_questions.specs.Each.{of_each}

-- what is left begins with the part that is next
pub each_next : {A : Type 0} (part : ℕ → List A) (n i k next : ℕ) → i < n → next ≡ k + 1
    → of_each part (n - i) k ≡ part k ++ of_each part (n - (i + 1)) next
each_next part n i k next inside is =
    let left : n - i ≡ suc (n - (i + 1)) = omega (arith, inside) in
    ap (λ m. of_each part m k) left ∙ ap (λ m. part k ++ of_each part (n - (i + 1)) m) (sym is)

-- one part more
pub each_more : {A : Type 0} (part : ℕ → List A) (n i k next : ℕ) (mid new whole : List A) → mid ++ of_each part (n - i) k ≡ whole
    → i < n → new ≡ mid ++ part k → next ≡ k + 1 → new ++ of_each part (n - (i + 1)) next ≡ whole
each_more part n i k next mid new whole so_far inside put is =
    ap (λ l. l ++ of_each part (n - (i + 1)) next) put
    ∙ append_assoc mid (part k) (of_each part (n - (i + 1)) next)
    ∙ ap (λ l. mid ++ l) (sym (each_next part n i k next inside is))
    ∙ so_far

pub each_none : {A : Type 0} (part : ℕ → List A) (n i k : ℕ) → n ≤ i → of_each part (n - i) k ≡ []
each_none part n i k over =
    let none : n - i ≡ 0 = omega (arith, over) in
    ap (λ m. of_each part m k) none

pub each_whole : {A : Type 0} (part : ℕ → List A) (n i k : ℕ) (all whole : List A) → all ++ of_each part (n - i) k ≡ whole → n ≤ i
    → all ≡ whole
each_whole part n i k all whole so_far over =
    sym (append-nil all) ∙ ap (λ l. all ++ l) (sym (each_none part n i k over)) ∙ so_far
