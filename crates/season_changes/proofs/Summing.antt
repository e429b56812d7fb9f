-- The line of sums.
use Rattle.std.proofs.Common.{◌≡◌, ℕ, Bool, List, [], ◌∷◌, ◌++◌, ap, ◌∙◌, append_assoc, codes}
use Rattle.season_changes.specs.Sums.{count_text, seats_text, sums_text}
use Rattle.season_changes.specs.declared.changes.Change.{Change}
use Rattle.season_changes.specs.declared.sums.Counted.TheVariants as counts

all_of : (o a1 b1 a2 b2 a3 b3 a4 b4 a5 b5 a6 b6 s e : List ℕ)
    → (((((((o ++ (a1 ++ b1)) ++ (a2 ++ b2)) ++ (a3 ++ b3)) ++ (a4 ++ b4)) ++ (a5 ++ b5)) ++ (a6 ++ b6)) ++ s) ++ e
    ≡ o ++ (a1 ++ b1 ++ a2 ++ b2 ++ a3 ++ b3 ++ a4 ++ b4 ++ a5 ++ b5 ++ a6 ++ b6 ++ s ++ e)
all_of o a1 b1 a2 b2 a3 b3 a4 b4 a5 b5 a6 b6 s e = simp append_assoc

pub sums_put : (has_journal : Bool) (all : List Change) (old t1 t2 t3 t4 t5 t6 t7 new : List ℕ)
    → t1 ≡ old ++ (codes "SUMS gone " ++ count_text counts.Gone all) → t2 ≡ t1 ++ (codes " added " ++ count_text counts.Added all)
    → t3 ≡ t2 ++ (codes " legs " ++ count_text counts.Legs all) → t4 ≡ t3 ++ (codes " times " ++ count_text counts.Times all)
    → t5 ≡ t4 ++ (codes " limits " ++ count_text counts.Limits all) → t6 ≡ t5 ++ (codes " outside " ++ count_text counts.Outside all)
    → t7 ≡ t6 ++ seats_text has_journal all → new ≡ t7 ++ 10 ∷ [] → new ≡ old ++ sums_text has_journal all
sums_put has_journal all old t1 t2 t3 t4 t5 t6 t7 new a b c d e f g h =
    h
    ∙ ap (λ (l : List ℕ). l ++ 10 ∷ []) (g
    ∙ ap (λ (l : List ℕ). l ++ seats_text has_journal all) (f
    ∙ ap (λ (l : List ℕ). l ++ (codes " outside " ++ count_text counts.Outside all)) (e
    ∙ ap (λ (l : List ℕ). l ++ (codes " limits " ++ count_text counts.Limits all)) (d
    ∙ ap (λ (l : List ℕ). l ++ (codes " times " ++ count_text counts.Times all)) (c
    ∙ ap (λ (l : List ℕ). l ++ (codes " legs " ++ count_text counts.Legs all)) (b
    ∙ ap (λ (l : List ℕ). l ++ (codes " added " ++ count_text counts.Added all)) a))))))
    ∙ all_of old (codes "SUMS gone ") (count_text counts.Gone all) (codes " added ") (count_text counts.Added all) (codes " legs ") (count_text counts.Legs all)
    (codes " times ") (count_text counts.Times all) (codes " limits ") (count_text counts.Limits all) (codes " outside ") (count_text counts.Outside all)
    (seats_text has_journal all) (10 ∷ [])
