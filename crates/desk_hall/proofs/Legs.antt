-- The one leg that a row is for.
use Rattle.std.proofs.Common.{◌≡◌, ◌+◌, ◌≤◌, ◌==◌, Bool, true, false, cond, List, [], ◌∷◌, ◌++◌, length, sym, ap, ◌∙◌, subst, arith, Option, Some, None, length-append}
use Rattle.airline_base.proofs.Tests.{some_is}
use Rattle.airline_base.specs.declared.place.Place.{Place}
use Rattle.desk_hall.specs.OneLeg.{one_of}
use Rattle.seat_journal.specs.declared.entry.Control.{Control}
use Rattle.seat_limits.specs.declared.change_row.ChangeRow.{ChangeRow}
use Rattle.seat_limits.specs.declared.change_row.Cities.{Cities}
use Rattle.seat_limits.specs.declared.change_row.RowSetting.{RowSetting}
use Rattle.seat_replies.specs.Changes.{AreServed, all_served, and_those, changes_of, on_flights, on_leg, on_place, set_between, some_of, wanted_by}
use Rattle.seat_replies.proofs.Changing.{two_of}
use Rattle.ssim_flights.specs.Places.{place_wanted}
use Rattle.ssim_flights.specs.declared.flight.Flight.{Flight as Flown}

-- ---- what rows set, and how much of it

some_sets : (all here : List Control) → some_of all ≡ Some here → 1 ≤ length here
some_sets [] here e = absurd cc
some_sets (c ∷ all) here e = subst (λ (l : List Control). 1 ≤ length l) (some_is (c ∷ all) here e) (omega arith)

place_sets : (s : RowSetting) (here : List Control) (o : Option Place) → on_place s o ≡ Some here → 1 ≤ length here
place_sets s here None e = absurd cc
place_sets s here (Some p) e = of (p.from == p.to) e where
  of : (t : Bool) → cond {A = Option (List Control)} t (Some (on_leg s p.flight p.from ∷ [])) None ≡ Some here → 1 ≤ length here
  of true e = subst (λ (l : List Control). 1 ≤ length l) (some_is (on_leg s p.flight p.from ∷ []) here e) (omega arith)
  of false e = absurd cc

row_sets : (flights : List Flown) (row : ChangeRow) (here : List Control) (cities : Option Cities)
    → set_between flights row cities ≡ Some here → 1 ≤ length here
row_sets flights row here None e = some_sets (on_flights row 0 flights) here e
row_sets flights row here (Some pair) e = place_sets row.setting here (place_wanted flights (wanted_by row pair)) e

-- each row sets something
pub each_sets : (flights : List Flown) (rows : List ChangeRow) (controls : List Control) → AreServed flights rows controls
    → length rows ≤ length controls
each_sets flights [] controls served = omega arith
each_sets flights (row ∷ rows) controls served =
    let two = two_of (changes_of flights row) (all_served flights rows) controls served in
    let some : 1 ≤ length two.here = row_sets flights row two.here row.cities two.here_is in
    let more : length rows ≤ length two.behind = each_sets flights rows two.behind two.behind_is in
    let count : length controls ≡ length two.here + length two.behind = ap length (sym two.all_is) ∙ length-append two.here two.behind in
    omega (arith, some, more, count)

pub one_is : (o : Option (List Control)) (control : Control) → one_of o ≡ Some control → o ≡ Some (control ∷ [])
one_is None control e = absurd cc
one_is (Some []) control e = absurd cc
one_is (Some (c ∷ [])) control e = ap (λ (x : Control). Some (x ∷ [])) (some_is c control e)
one_is (Some (c ∷ d ∷ more)) control e = absurd cc

pub none_is : (o : Option (List Control)) (control : Control) → one_of o ≡ None → and_those o (Some []) ≡ Some (control ∷ []) → ⊥
none_is None control e served = cc
none_is (Some []) control e served = cc
none_is (Some (c ∷ [])) control e served = cc
none_is (Some (c ∷ d ∷ more)) control e served =
    let count : length (c ∷ d ∷ (more ++ [])) ≡ 1 = ap length (some_is (c ∷ d ∷ (more ++ [])) (control ∷ []) served) in
    omega (arith, count)
