-- What was booked, run by run and script by script.
use Rattle.std.proofs.Common.{◌≡◌, ℕ, ◌+◌, ◌<◌, List, [], ◌∷◌, ◌++◌, length, map, take, get_or, refl, sym, ap, ◌∙◌, append_assoc, append-nil}
use Rattle.std.specs.List.{flat_map}
use Rattle.std.proofs.lemmas.List.{take_more}
use Rattle.std.proofs.lemmas.List.Concat.{flat_map-append}
use Rattle.seat_seal.specs.Booked.{imprint_in}
use Rattle.seat_seal.specs.declared.imprint.Imprint.{Imprint}
use Rattle.seat_seal.specs.declared.run.Run.{Run}
use Rattle.seat_seal.specs.declared.scripts.Script.{Script}

front_more : {X : Type 0} → (xs : List X) (i : ℕ) (x : X) → i < length xs → x ≡ get_or xs i x → take (i + 1) xs ≡ take i xs ++ x ∷ []
front_more {X} xs i x lt is = take_more xs i x lt ∙ ap (λ (y : X). take i xs ++ y ∷ []) (sym is)

pub more_booked : (f : Run → List Imprint) (runs : List Run) (i : ℕ) (run : Run) (old new : List Imprint) → i < length runs
    → run ≡ get_or runs i run → old ≡ flat_map f (take i runs) → new ≡ old ++ f run → new ≡ flat_map f (take (i + 1) runs)
more_booked f runs i run old new lt is so_far added =
    let all : flat_map f (take (i + 1) runs) ≡ flat_map f (take i runs) ++ f run = ap (flat_map f) (front_more runs i run lt is) ∙ flat_map-append f (take i runs) (run ∷ []) ∙ ap (λ (l : List Imprint). flat_map f (take i runs) ++ l) (append-nil (f run)) in
    added ∙ ap (λ (l : List Imprint). l ++ f run) so_far ∙ sym all

map_push : (xs : List Script) (x : Script) → map imprint_in (xs ++ x ∷ []) ≡ map imprint_in xs ++ x.imprint ∷ []
map_push [] x = refl
map_push (y ∷ xs) x = ap (λ (l : List Imprint). y.imprint ∷ l) (map_push xs x)

pub more_added : (scripts : List Script) (i : ℕ) (script : Script) (first old new : List Imprint) → i < length scripts
    → script ≡ get_or scripts i script → old ≡ first ++ map imprint_in (take i scripts) → new ≡ old ++ script.imprint ∷ []
    → new ≡ first ++ map imprint_in (take (i + 1) scripts)
more_added scripts i script first old new lt is so_far added =
    let all : map imprint_in (take (i + 1) scripts) ≡ map imprint_in (take i scripts) ++ script.imprint ∷ [] = ap (map imprint_in) (front_more scripts i script lt is) ∙ map_push (take i scripts) script in
    added
    ∙ (ap (λ (l : List Imprint). l ++ script.imprint ∷ []) so_far
    ∙ (append_assoc first (map imprint_in (take i scripts)) (script.imprint ∷ []) ∙ ap (λ (l : List Imprint). first ++ l) (sym all)))
