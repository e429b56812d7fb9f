-- What a run booked is known by the seal of its journal: the last of its runs is that run.
use Rattle.std.proofs.Common.{◌≡◌, ◌<◌, ◌≤◌, ◌+◌, ◌-◌, ◌==◌, ℕ, Bool, true, false, ◌||◌, List, [], ◌∷◌, ◌++◌, Option, Some, None, drop, filter, length, map, refl, ap, ◌∙◌, arith}
use Rattle.std.specs.List.{flat_map, list_any}
use Rattle.std.proofs.lemmas.Bool.Decides.{nat_tests}
use Rattle.std.proofs.lemmas.List.{append-nil, drop-append-le, length-append, map-append}
use Rattle.std.proofs.lemmas.List.Concat.{flat_map-append}
use Rattle.std.proofs.lemmas.List.Folds.{list_any-append}
use Rattle.airline_base.proofs.Tests.{second_of}
use Rattle.seat_seal.specs.declared.imprint.Imprint.{Imprint}
use Rattle.seat_seal.specs.declared.run.Run.{Run}
use Rattle.seat_seal.specs.Booked.{begins_with, changes_in, changes_of, imprint_in, scripts_of}
use Rattle.seat_seal.specs.Imprints.{imprint_of}
use Rattle.seat_seal.specs.Runs.{is_elsewhere, last_runs, runs_with}
use Rattle.seat_seal.specs.Text.{most_runs}
use Rattle.seat_seal.proofs.Beginnings.{grown}
use Rattle.seat_scripts.specs.KnownAgain.{ChangesAreKnown, ScriptsAreKnown}
use Rattle.seat_scripts.specs.SealedRun.{named, named_from}
use Rattle.seat_scripts.specs.TextImprints.{text_imprint}

or_true : (a b : Bool) → b ≡ true → (a || b) ≡ true
or_true true b h = refl
or_true false b h = h

true_or : (a b : Bool) → a ≡ true → (a || b) ≡ true
true_or true b h = refl
true_or false b h = absurd cc

-- the last run of a seal is the one that wrote it
last_is : (before : List Run) (run : Run) → last_runs (before ++ run ∷ []) ≡ drop (length (before ++ run ∷ []) - most_runs) before ++ run ∷ []
last_is before run =
    let count : length (before ++ run ∷ []) ≡ length before + 1 = length-append before (run ∷ []) in
    let few : length (before ++ run ∷ []) - most_runs ≤ length before = omega (arith, count) in
    drop-append-le (length (before ++ run ∷ []) - most_runs) before (run ∷ []) few

module _ (p : Imprint → Bool) (f : Run → List Imprint) where
  at_end : (before : List Run) (run : Run) → list_any p (f run) ≡ true → list_any p (flat_map f (before ++ run ∷ [])) ≡ true
  at_end before run h =
      ap (list_any p) (flat_map-append f before (run ∷ []))
      ∙ (list_any-append p (flat_map f before) (flat_map f (run ∷ []))
      ∙ or_true (list_any p (flat_map f before)) (list_any p (flat_map f (run ∷ []))) (ap (list_any p) (append-nil (f run)) ∙ h))

  by_last : (earlier : List Run) (run : Run) → list_any p (f run) ≡ true → list_any p (flat_map f (runs_with earlier run)) ≡ true
  by_last earlier run h =
      let others = filter (is_elsewhere run) earlier in
      ap (λ (l : List Run). list_any p (flat_map f l)) (last_is others run)
      ∙ at_end (drop (length (others ++ run ∷ []) - most_runs) others) run h

some_imprint : (text : List ℕ) → 0 < length text → text_imprint text ≡ Some (imprint_of text)
some_imprint text some =
    let byte : (length text == 0) ≡ false = grind (arith, nat_tests, some) in
    second_of (length text == 0) None (Some (imprint_of text)) byte

-- among the scripts of a run
among : (p : Imprint → Bool) (session : ℕ) (before after : List (List ℕ)) (text : List ℕ) → 0 < length text → p (imprint_of text) ≡ true
    → list_any p (map imprint_in (named_from session (map text_imprint (before ++ text ∷ after)))) ≡ true
among p session [] after text some is =
    let rest = named_from (session + 1) (map text_imprint after) in
    ap (λ (i : Option Imprint). list_any p (map imprint_in (named session i ++ rest))) (some_imprint text some)
    ∙ true_or (p (imprint_of text)) (list_any p (map imprint_in rest)) is
among p session (first ∷ before) after text some is =
    let here = named session (text_imprint first) in
    let rest = named_from (session + 1) (map text_imprint (before ++ text ∷ after)) in
    ap (list_any p) (map-append imprint_in here rest)
    ∙ (list_any-append p (map imprint_in here) (map imprint_in rest)
    ∙ or_true (list_any p (map imprint_in here)) (list_any p (map imprint_in rest)) (among p (session + 1) before after text some is))

pub scripts_known : ScriptsAreKnown
scripts_known basis before after text more changes behind lines today earlier journal entry some is =
    let p = begins_with (text ++ more) in
    let has = ap (λ l. list_any p (map imprint_in l)) is.is_run.scripts_are ∙ among p 1 before after text some (grown text more some) in
    ap (λ (l : List Run). list_any p (flat_map (scripts_of None) l)) is.runs_are
    ∙ by_last p (scripts_of None) earlier.runs is.run has

pub changes_known : ChangesAreKnown
changes_known basis scripts text more behind lines today earlier journal entry some is =
    let p = begins_with (text ++ more) in
    let named = is.is_run.changes_is ∙ some_imprint text some in
    let has = ap (λ (i : Option Imprint). list_any p (changes_in i)) named ∙ true_or (p (imprint_of text)) false (grown text more some) in
    ap (λ (l : List Run). list_any p (flat_map (changes_of None) l)) is.runs_are
    ∙ by_last p (changes_of None) earlier.runs is.run has
