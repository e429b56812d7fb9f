-- Flights by their names, from the last one to the first.
use Rattle.std.proofs.Common.{arith, ◌≡◌, ℕ, ◌+◌, ◌≤◌, List, [], ◌∷◌, length, drop, Option, Some, sym, ap, ◌∙◌}
use Rattle.std.specs.Prelude.{if◌then◌else◌, slice_get}
use Rattle.std.specs.HashMap.{get}
use Rattle.std.specs.Map.{lookup}
use Rattle.std.proofs.Math.ListN.{drop_of_length-le}
use Rattle.std.proofs.lemmas.Option.{get_or_from_slice_get, slice_get_within}
use Rattle.ssim_flights.proofs.Walks.{drop_step}
use Rattle.ssim_flights.specs.declared.flight.DatedLeg.{DatedLeg}
use Rattle.ssim_flights.specs.declared.flight.Flight.{Flight as Flown}
use Rattle.season_changes.specs.Naming.{is_named, is_named_by, name_on, number_from, same_name, AreNumbersOf, Numbers, PutsFlight, PutsNumber}

-- what is left begins with the item that stands there
pub drop_there : {A : Type 0} (xs : List A) (i : ℕ) (x : A) → slice_get xs i ≡ Some x → drop i xs ≡ x ∷ drop (i + 1) xs
drop_there xs i x at = drop_step xs i x (slice_get_within xs i x at) (sym (get_or_from_slice_get xs i x x at))

-- ---- one flight

pub put_none : (numbers : Numbers) (flight : Flown) (n : ℕ) → flight.legs ≡ [] → PutsFlight numbers numbers flight n
put_none numbers flight n none = record {
  at = λ other. ap (λ (legs : List DatedLeg). if is_named_by legs flight other then Some n else get same_name numbers other) (sym none);
}

pub put_one : (old new : Numbers) (flight : Flown) (leg : DatedLeg) (rest : List DatedLeg) (n : ℕ) → flight.legs ≡ leg ∷ rest
    → PutsNumber old new (name_on flight leg) n → PutsFlight old new flight n
put_one old new flight leg rest n legs puts = record {
  at = λ other. puts.at other ∙ ap (λ (ls : List DatedLeg). if is_named_by ls flight other then Some n else get same_name old other) (sym legs);
}

-- ---- all of them

pub numbers_none : (numbers : Numbers) (flights : List Flown) (n : ℕ) → numbers.entries ≡ [] → n ≡ length flights
    → AreNumbersOf numbers n (drop n flights)
numbers_none numbers flights n none end =
    let past : length flights ≤ n = omega (arith, end) in
    record {
      at = λ name. ap (lookup (same_name name)) none ∙ sym (ap (λ (l : List Flown). number_from n l name) (drop_of_length-le flights past));
    }

pub numbers_more : (old new : Numbers) (flights : List Flown) (n m : ℕ) (flight : Flown) → n ≡ m + 1 → slice_get flights m ≡ Some flight
    → AreNumbersOf old n (drop n flights) → PutsFlight old new flight m → AreNumbersOf new m (drop m flights)
numbers_more old new flights n m flight next at before puts =
    let rest : drop m flights ≡ flight ∷ drop n flights = drop_there flights m flight at ∙ ap (λ (k : ℕ). flight ∷ drop k flights) (sym next) in
    record {
      at = λ name.
          puts.at name
          ∙ ap (λ (o : Option ℕ). if is_named flight name then Some m else o) (before.at name ∙ ap (λ (k : ℕ). number_from k (drop n flights) name) next)
          ∙ sym (ap (λ (l : List Flown). number_from m l name) rest);
    }
