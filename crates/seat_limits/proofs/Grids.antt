-- Grids of ladders.
use Rattle.std.proofs.Common.{◌≡◌, ℕ, zero, suc, ◌+◌, ◌<◌, Bool, true, false, cond, List, [], ◌∷◌, ◌++◌, length, map, fold, take, get_or, Some, sym, ap, ◌∙◌}
use Rattle.std.specs.Prelude.{OnOk, Result, Ok, Err}
use Rattle.std.specs.List.{AllByRecursion, slice_get}
use Rattle.std.specs.Str.Lines.{lines}
use Rattle.std.proofs.lemmas.List.{map-append, length-map, get_or-map, take_more}
use Rattle.std.proofs.lemmas.Option.{slice_get_within, get_or_from_slice_get}
use Rattle.ssim_flights.specs.declared.flight.DatedLeg.{DatedLeg}
use Rattle.ssim_flights.specs.declared.flight.Flight.{Flight}
use Rattle.seat_limits.specs.Authorised.{after_row, authorised, authorised_grid, is_for, leg_pair}
use Rattle.seat_limits.specs.LimitRows.{IsLimitText, SpellsRows}
use Rattle.seat_nesting.specs.Nesting.{Steps, Ladders, steps_at, IsDistinct, HasLadders}
use Rattle.seat_nesting.specs.Planning.{Planned, with_flight}
use Rattle.seat_limits.specs.declared.limit_row.LimitRow.{LimitRow}
use Rattle.seat_limits.specs.declared.row_index.Pair.{Pair}

-- one leg more
pub legs_more : (so_far : List Steps) (steps : Steps) (legs : List DatedLeg) (f : DatedLeg → Steps) (i : ℕ) (leg : DatedLeg)
    → so_far ≡ take i (map f legs) → i < length legs → leg ≡ get_or legs i leg → steps ≡ f leg
    → so_far ++ steps ∷ [] ≡ take (i + 1) (map f legs)
legs_more so_far steps legs f i leg h lt is e =
    ap (λ (s : List Steps). s ++ steps ∷ []) h ∙ ap (λ (s : Steps). take i (map f legs) ++ s ∷ []) (e ∙ ap f is ∙ sym (get_or-map f legs i leg (f leg) lt))
    ∙ sym (take_more (map f legs) i (f leg) (rw length-map lt))

-- one flight more
pub flights_more : (grid more : Ladders) (flights : List Flight) (f : Flight → List Steps) (i : ℕ)
    (flight : Flight) → grid ≡ map f (take i flights) → slice_get flights i ≡ Some flight → more ≡ grid ++ f flight ∷ []
    → more ≡ map f (take (i + 1) flights)
flights_more grid more flights f i flight h at e =
    let lt = slice_get_within flights i flight at in
    e ∙ ap (λ (g : Ladders). g ++ f flight ∷ []) h ∙ ap (λ (l : List Steps). map f (take i flights) ++ l ∷ []) (ap f (sym (get_or_from_slice_get flights i flight flight at)))
    ∙ sym (map-append f (take i flights) (get_or flights i flight ∷ [])) ∙ ap (map f) (sym (take_more flights i flight lt))

-- the next flight is closed
pub closed_more : {T E : Type 0} (r : Result T E) (old mid new : Planned) (legs : List Steps) → mid.flights ≡ old.flights → mid.legs ≡ legs
    → OnOk r (new ≡ with_flight mid) → OnOk r (new.flights ≡ old.flights ++ legs ∷ [])
closed_more (Ok x) old mid new legs flights its is =
    ap (λ (p : Planned). p.flights) is ∙ ap (λ (g : Ladders). g ++ mid.legs ∷ []) flights ∙ ap (λ (l : List Steps). old.flights ++ l ∷ []) its
closed_more (Err e) old mid new legs flights its is = tt

-- ---- the grid that limit rows give

-- no ladder of these rows names a class twice
abbrev HaveLadders : List LimitRow → Type 0
HaveLadders rows = AllByRecursion (λ row. IsDistinct row.ladder) rows

spelled_ladders : (texts : List (List ℕ)) (rows : List LimitRow) → SpellsRows texts rows → HaveLadders rows
spelled_ladders [] [] h = tt
spelled_ladders [] (row ∷ rows) h = absurd h
spelled_ladders ([] ∷ texts) rows h = spelled_ladders texts rows h
spelled_ladders ((c ∷ text) ∷ texts) [] h = absurd h
spelled_ladders ((c ∷ text) ∷ texts) (row ∷ rows) h = (h.0.is_ladder.distinct, spelled_ladders texts rows h.1)

one_of : (b : Bool) (here before : Steps) → IsDistinct here → IsDistinct before → IsDistinct (cond b here before)
one_of true here before h k = h
one_of false here before h k = k

last_ladder : (rows : List LimitRow) (pair : Pair) (day : ℕ) (before : Steps) → HaveLadders rows → IsDistinct before
    → IsDistinct (fold (after_row pair day) before rows)
last_ladder [] pair day before all k = k
last_ladder (row ∷ rows) pair day before all k =
    last_ladder rows pair day (after_row pair day before row) all.1 (one_of (is_for pair day row) row.ladder before all.0 k)

leg_ladders : (rows : List LimitRow) (flight : Flight) (legs : List DatedLeg) (at : ℕ) → HaveLadders rows
    → IsDistinct (steps_at (map (λ (leg : DatedLeg). authorised rows (leg_pair flight leg) leg.day) legs) at)
leg_ladders rows flight [] at all = tt
leg_ladders rows flight (leg ∷ legs) zero all = last_ladder rows (leg_pair flight leg) leg.day [] all tt
leg_ladders rows flight (leg ∷ legs) (suc at) all = leg_ladders rows flight legs at all

authorised_ladders : (rows : List LimitRow) (flights : List Flight) → HaveLadders rows
    → HasLadders (authorised_grid rows flights)
authorised_ladders rows [] all at leg = tt
authorised_ladders rows (flight ∷ flights) all zero leg = leg_ladders rows flight flight.legs leg all
authorised_ladders rows (flight ∷ flights) all (suc at) leg = authorised_ladders rows flights all at leg

-- the text of limit rows gives each leg a ladder that names no class twice
pub limit_text_ladders : (bytes : List ℕ) (rows : List LimitRow) (flights : List Flight) → IsLimitText bytes rows
    → HasLadders (authorised_grid rows flights)
limit_text_ladders bytes rows flights is = authorised_ladders rows flights (spelled_ladders (lines bytes) rows is.spelled)
