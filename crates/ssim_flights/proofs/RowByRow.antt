-- What is made of rows, one row more.
use Rattle.std.proofs.Common.{◌≡◌, ℕ, ◌+◌, ◌<◌, ◌≤◌, Bool, true, false, ◌||◌, List, [], ◌∷◌, ◌++◌, length, get_or, map, take, refl, sym, ap, subst, ◌∙◌}
use Rattle.std.specs.List.{list_any}
use Rattle.std.proofs.lemmas.List.{map-append, take_all, take_more}
use Rattle.std.proofs.lemmas.List.Folds.{list_any-append}
use Rattle.ssim_flights.specs.declared.flown.Departure.{Departure}
use Rattle.ssim_flights.specs.Flown.{same_departure}
use Rattle.ssim_flights.specs.Taken.{Departures, Takes, has_departure}

row_more : {A : Type 0} (f : ℕ → A) (rows : List ℕ) (k : ℕ) (x : A) → k < length rows → x ≡ f (get_or rows k 0)
    → map f (take (k + 1) rows) ≡ map f (take k rows) ++ x ∷ []
row_more {A = A} f rows k x below is =
    ap (map f) (take_more rows k 0 below) ∙ map-append f (take k rows) (get_or rows k 0 ∷ [])
    ∙ ap (λ (y : A). map f (take k rows) ++ y ∷ []) (sym is)

either : (a b c : Bool) → (b || false) || (a || c) ≡ (a || (b || false)) || c
either true true c = refl
either true false c = refl
either false true c = refl
either false false c = refl

-- departures that are taken
pub taken_none : (old : Departures) (f : ℕ → Departure) (rows : List ℕ) → Takes old old (map f (take 0 rows))
taken_none old f rows = record { at = λ d. refl }

pub taken_more : (f : ℕ → Departure) (old mid new : Departures) (rows : List ℕ) (k : ℕ) (x : Departure)
    → k < length rows → Takes old mid (map f (take k rows)) → x ≡ f (get_or rows k 0) → Takes mid new (x ∷ [])
    → Takes old new (map f (take (k + 1) rows))
taken_more f old mid new rows k x below so_far is one = record {
  at = λ d.
      one.at d ∙ ap (λ (b : Bool). list_any (same_departure d) (x ∷ []) || b) (so_far.at d)
      ∙ either (list_any (same_departure d) (map f (take k rows))) (same_departure d x) (has_departure old d)
      ∙ ap (λ (b : Bool). b || has_departure old d) (sym (list_any-append (same_departure d) (map f (take k rows)) (x ∷ [])))
      ∙ ap (λ (l : List Departure). list_any (same_departure d) l || has_departure old d) (sym (row_more f rows k x below is));
}

pub taken_all : (f : ℕ → Departure) (old new : Departures) (rows : List ℕ) (k : ℕ) → length rows ≤ k
    → Takes old new (map f (take k rows)) → Takes old new (map f rows)
taken_all f old new rows k past so_far = subst (λ (l : List ℕ). Takes old new (map f l)) (take_all k rows past) so_far
