-- Rows that give no leg its ladder.
use Rattle.std.proofs.Common.{◌≡◌, ℕ, Bool, true, false, ◌&&◌, ◌||◌, cond, List, [], ◌∷◌, ◌++◌, fold, map, refl, sym, ap, ◌∙◌}
use Rattle.seat_questions.proofs.Common.{DatedLeg, Flight, LimitRow, Steps}
use Rattle.std.specs.Prelude.{not}
use Rattle.std.specs.List.{list_any}
use Rattle.seat_limits.specs.Authorised.{after_row, authorised, authorised_legs, is_for, leg_pair}
use Rattle.seat_limits.specs.declared.row_index.Pair.{Pair}
use Rattle.seat_questions.specs.Cover.{RowsWithoutEffectGiveNothing, gives, gives_on}

or_parts : (a b : Bool) → (a || b) ≡ false → (a ≡ false) × (b ≡ false)
or_parts true b e = absurd cc
or_parts false b e = (refl, e)

-- lists are mapped alike where no element passes, and those that fail are
maps_alike : {X Y : Type 0} (p : X → Bool) (f g : X → Y) → ((x : X) → p x ≡ false → f x ≡ g x) → (xs : List X)
    → list_any p xs ≡ false → map f xs ≡ map g xs
maps_alike p f g same [] e = refl
maps_alike {X} {Y} p f g same (x ∷ xs) e =
    let parts = or_parts (p x) (list_any p xs) e in
    ap (λ (y : Y). y ∷ map f xs) (same x parts.0) ∙ ap (λ (l : List Y). g x ∷ l) (maps_alike p f g same xs parts.1)

-- where some row is for the leg it doesn't matter what was before
overruled : (p : Pair) (day : ℕ) (rows : List LimitRow) (s t : Steps) → list_any (is_for p day) rows ≡ true
    → fold (after_row p day) s rows ≡ fold (after_row p day) t rows
overruled p day [] s t e = absurd cc
overruled p day (row ∷ rows) s t e = cases (is_for p day row) e (λ (h : list_any (is_for p day) rows ≡ true). overruled p day rows s t h)
  where
    cases : (b : Bool) → (b || list_any (is_for p day) rows) ≡ true
        → (list_any (is_for p day) rows ≡ true → fold (after_row p day) s rows ≡ fold (after_row p day) t rows)
        → fold (after_row p day) (cond b row.ladder s) rows ≡ fold (after_row p day) (cond b row.ladder t) rows
    cases true h later = refl
    cases false h later = later h

fold_on : (p : Pair) (day : ℕ) (s : Steps) (ahead rows : List LimitRow)
    → fold (after_row p day) s (ahead ++ rows) ≡ fold (after_row p day) (fold (after_row p day) s ahead) rows
fold_on p day s [] rows = refl
fold_on p day s (x ∷ ahead) rows = fold_on p day (after_row p day s x) ahead rows

left_out : (p : Pair) (day : ℕ) (row : LimitRow) (behind : List LimitRow) (s : Steps)
    → (is_for p day row && not (list_any (is_for p day) behind)) ≡ false
    → fold (after_row p day) (after_row p day s row) behind ≡ fold (after_row p day) s behind
left_out p day row behind s e = cases (is_for p day row) (list_any (is_for p day) behind) refl e
  where
    cases : (b c : Bool) → list_any (is_for p day) behind ≡ c → (b && not c) ≡ false
        → fold (after_row p day) (cond b row.ladder s) behind ≡ fold (after_row p day) s behind
    cases false c is h = refl
    cases true true is h = overruled p day behind row.ladder s is
    cases true false is h = absurd cc

same_leg : (ahead behind : List LimitRow) (row : LimitRow) (flight : Flight) (leg : DatedLeg)
    → gives behind row flight leg ≡ false
    → authorised (ahead ++ row ∷ behind) (leg_pair flight leg) leg.day
    ≡ authorised (ahead ++ behind) (leg_pair flight leg) leg.day
same_leg ahead behind row flight leg e =
    let p : Pair = leg_pair flight leg in
    fold_on p leg.day [] ahead (row ∷ behind)
    ∙ left_out p leg.day row behind (fold (after_row p leg.day) [] ahead) e
    ∙ sym (fold_on p leg.day [] ahead behind)

same_flight : (ahead behind : List LimitRow) (row : LimitRow) (flight : Flight) → gives_on behind row flight ≡ false
    → authorised_legs (ahead ++ row ∷ behind) flight ≡ authorised_legs (ahead ++ behind) flight
same_flight ahead behind row flight =
    maps_alike (λ (leg : DatedLeg). gives behind row flight leg)
    (λ (leg : DatedLeg). authorised (ahead ++ row ∷ behind) (leg_pair flight leg) leg.day)
    (λ (leg : DatedLeg). authorised (ahead ++ behind) (leg_pair flight leg) leg.day)
    (same_leg ahead behind row flight) flight.legs

pub rows_without_effect_give_nothing : RowsWithoutEffectGiveNothing
rows_without_effect_give_nothing ahead behind row flights =
    maps_alike (λ (flight : Flight). gives_on behind row flight) (authorised_legs (ahead ++ row ∷ behind)) (authorised_legs (ahead ++ behind))
    (same_flight ahead behind row) flights
