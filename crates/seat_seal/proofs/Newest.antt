-- The last runs, where one more is added.
use Rattle.std.proofs.Common.{◌≡◌, ◌+◌, ◌-◌, ◌≤◌, List, [], ◌∷◌, ◌++◌, drop, length, ap, sym, ◌∙◌, arith}
use Rattle.std.proofs.lemmas.List.{drop-append-le, length-append}
use Rattle.seat_seal.specs.declared.run.Run.{Run}
use Rattle.seat_seal.specs.Runs.{last_runs}
use Rattle.seat_seal.specs.Text.{most_runs}

pub newest : (runs mid new : List Run) (run : Run) → length runs ≤ most_runs
    → mid ≡ drop (length runs + 1 - most_runs) runs → new ≡ mid ++ run ∷ [] → new ≡ last_runs (runs ++ run ∷ [])
newest runs mid new run few cut put =
    let small : length runs + 1 - most_runs ≤ length runs = omega (arith, few) in
    let count : length (runs ++ run ∷ []) ≡ length runs + 1 = length-append runs (run ∷ []) in
    put ∙ (ap (λ (l : List Run). l ++ run ∷ []) cut
    ∙ sym (rw count (drop-append-le (length runs + 1 - most_runs) runs (run ∷ []) small)))
