-- The line of sums.
use Rattle.std.proofs.Common.{◌≡◌, ℕ, List, [], ◌∷◌, ◌++◌, append_assoc, decimal, flat_map, map}
use Rattle.std.specs.Prelude.{codes}
use Rattle.carry_reports.specs.Codes.{word_text}
use Rattle.carry_reports.specs.Counting.{counted_text, sum_of}
use Rattle.carry_reports.specs.Sums.{all_codes, sums_text}
use Rattle.carry_reports.specs.declared.counting.CodeSum.{CodeSum}
use Rattle.carry_reports.specs.declared.fating.Fated.{Fated}

pub sum_put : (s : CodeSum) (old t1 t2 t3 t4 t5 new : List ℕ) → t1 ≡ old ++ 32 ∷ [] → t2 ≡ t1 ++ word_text s.code → t3 ≡ t2 ++ 32 ∷ []
    → t4 ≡ t3 ++ decimal s.count → t5 ≡ t4 ++ 32 ∷ [] → new ≡ t5 ++ decimal s.seats → new ≡ old ++ counted_text s
sum_put s old t1 t2 t3 t4 t5 new e1 e2 e3 e4 e5 e6 =
    rw (e6, e5, e4, e3, e2, e1) (parts old (codes " ") (word_text s.code) (codes " ") (decimal s.count) (codes " ") (decimal s.seats))
  where
    parts : (o a b c d e f : List ℕ) → (((((o ++ a) ++ b) ++ c) ++ d) ++ e) ++ f ≡ o ++ (a ++ b ++ c ++ d ++ e ++ f)
    parts o a b c d e f = simp append_assoc

pub sums_put : (all : List Fated) (sums : List CodeSum) (old t1 t2 new : List ℕ) → t1 ≡ old ++ codes "SUMS" → sums ≡ map (sum_of all) all_codes
    → t2 ≡ t1 ++ flat_map counted_text sums → new ≡ t2 ++ 10 ∷ [] → new ≡ old ++ sums_text all
sums_put all sums old t1 t2 new e1 same e2 e3 =
    rw (e3, e2, e1, same) (parts old (codes "SUMS") (flat_map counted_text (map (sum_of all) all_codes)) (codes "\n"))
  where
    parts : (o a b c : List ℕ) → ((o ++ a) ++ b) ++ c ≡ o ++ (a ++ b ++ c)
    parts o a b c = simp append_assoc
