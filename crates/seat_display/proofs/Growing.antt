-- The exchange that adds entries keeps the rule of the history.
use Rattle.std.proofs.Common.{◌≡◌, ℕ, ◌+◌, ◌<◌, ◌==◌, Bool, true, false, List, [], ◌∷◌, ◌++◌, length, refl, ap, sym, subst, arith, inl, length-append, None}
use Rattle.std.proofs.lemmas.List.{append-nil}
use Rattle.std.proofs.lemmas.Bool.Decides.{nat_tests}
use mathlib.Core.List.{IsPrefix}
use prog.Atomic.{either}
use Rattle.logbook.specs.Pages.{Cell, cell, keeps, no_nib, step, Moves, Goes}
use Rattle.seat_journal.specs.declared.entry.Entry.{Entry}
use Rattle.seat_rules.proofs.History.Prefixes.{begins_whole}
use Rattle.seat_display.proofs.Fronts.{begins_of}
use Rattle.seat_display.specs.History.{IsCounted, Adds}

abbrev pub shown : List Entry → List Entry
shown log = []

abbrev pub moved : List Entry → List Entry → ℕ → Type 0
moved xs ys n = Unit {0}

grows_goes : (log v es : List Entry) (ask : Entry) (old new : ℕ) → length v ≡ old → new ≡ old + length es
    → IsPrefix v log
    → (b : Bool) → (length log == old) ≡ b
    → Goes IsCounted shown moved 0 (v, (no_nib, None)) (λ n. either (n == old) new n)
    (Adds es (step 0 old new ask) (v, (no_nib, None))) ((length log, true) ∷ (0, true) ∷ []) log
grows_goes log v es ask old new len more pre true is =
    let here : length log ≡ old = grind (arith, nat_tests) in
    let same : v ≡ log = begins_whole v log (begins_of v log pre) (omega arith) in
    let n : either (length log == old) new (length log) ≡ length (log ++ es) = rw is (omega (arith, length-append log es)) in (
      keeps,
      es,
      None,
      tt,
      record { words = ap (λ (k : ℕ). (k, true) ∷ (0, true) ∷ []) n },
      inl (refl, refl),
      rw is (ap (λ w. w ++ es) (sym same)),
    )
grows_goes log v es ask old new len more pre false is =
    let all : log ++ [] ≡ log = append-nil log in
    let n : either (length log == old) new (length log) ≡ length (log ++ []) = rw is (ap length (sym all)) in (
      keeps,
      [],
      None,
      tt,
      record { words = ap (λ (k : ℕ). (k, true) ∷ (0, true) ∷ []) n },
      inl (refl, refl),
      rw is tt,
    )

pub grows_moves : (v es : List Entry) (ask : Entry) (old new : ℕ) → length v ≡ old → new ≡ old + length es
    → Moves IsCounted shown moved 0 (v, (no_nib, None)) (λ n. either (n == old) new n)
    (Adds es (step 0 old new ask) (v, (no_nib, None)))
grows_moves v es ask old new len more cs log kept pre away =
    let P : List Cell → Type 0 = λ c. (0 < length c) × ((cell c 0).1 ≡ true) × Goes IsCounted shown moved 0 (v, (no_nib, None)) (λ n. either (n == old) new n) (Adds es (step 0 old new ask) (v, (no_nib, None))) c log in
    subst P (sym kept.words) (omega arith, refl, grows_goes log v es ask old new len more pre (length log == old) refl)
