-- What rows of changes set, and on which legs.
use Rattle.std.proofs.Common.{◌≡◌, ℕ, suc, ◌+◌, ◌<◌, ◌≤◌, ◌==◌, Bool, true, false, cond, if◌then◌else◌, List, [], ◌∷◌, ◌++◌, length, drop, get_or, refl, sym, ap, ◌∙◌, subst, arith, Option, Some, None, IfSome, append_assoc, append-nil}
use Rattle.std.specs.Str.Lines.{lines}
use Rattle.std.proofs.Math.ListN.{drop_of_length-le}
use Rattle.std.proofs.lemmas.Bool.{eqb-true}
use Rattle.std.proofs.lemmas.List.{drop_more}
use Rattle.airline_base.proofs.Tests.{some_is}
use Rattle.seat_journal.specs.declared.entry.Control.{Control}
use Rattle.seat_limits.specs.ChangeRows.{IsChangeText, IsTail, SpellsChanges}
use Rattle.seat_limits.specs.declared.change_row.ChangeRow.{ChangeRow}
use Rattle.seat_limits.specs.declared.change_row.Cities.{Cities}
use Rattle.seat_limits.specs.declared.change_row.RowSetting.{RowSetting}
use Rattle.seat_limits.specs.declared.change_row.RowSetting.TheVariants.{SetLimit, SetSale}
use Rattle.seat_replies.specs.Changes.{AreServed, IsLegOf, IsOnLeg, all_served, and_those, changes_of, is_named, on_flights, on_leg, on_legs, on_place, set_between, some_of, wanted_by}
use Rattle.seat_replies.proofs.Common.{slice_get, AllByRecursion, DatedLeg, Place, place_wanted}
use Rattle.seat_replies.proofs.Rows.{all_append}
use Rattle.seat_replies.proofs.Serving.{served_leg}
use Rattle.ssim_flights.specs.declared.flight.Flight.{Flight as Flown}

-- ---- each leg of a day

pub some_is_all : (all : List Control) → 1 ≤ length all → Some all ≡ some_of all
some_is_all [] some = absurd (omega arith)
some_is_all (c ∷ all) some = refl

pub none_is_all : (all : List Control) → length all < 1 → None ≡ some_of all
none_is_all [] none = refl
none_is_all (c ∷ all) none = absurd (omega arith)

-- one leg more: what is put so far, and what is left
pub leg_put : (row : ChangeRow) (flight i : ℕ) (legs : List DatedLeg) (leg : DatedLeg) (whole all new : List Control)
    → i < length legs → leg ≡ get_or legs i leg → all ++ on_legs row flight i (drop i legs) ≡ whole
    → new ≡ all ++ (if leg.day == row.day then on_leg row.setting flight i ∷ [] else [])
    → new ++ on_legs row flight (i + 1) (drop (i + 1) legs) ≡ whole
leg_put row flight i legs leg whole all new lt is so_far put =
    let here : List Control = (if leg.day == row.day then on_leg row.setting flight i ∷ [] else []) in
    let left : List Control = on_legs row flight (i + 1) (drop (i + 1) legs) in
    let next : drop i legs ≡ leg ∷ drop (i + 1) legs = drop_more legs i leg lt ∙ ap (λ (l : DatedLeg). l ∷ drop (i + 1) legs) (sym is) in
    ap (λ (l : List Control). l ++ left) put ∙ append_assoc all here left
    ∙ ap (λ (l : List DatedLeg). all ++ on_legs row flight i l) (sym next) ∙ so_far

pub legs_put : (row : ChangeRow) (flight i : ℕ) (legs : List DatedLeg) (whole all : List Control) → length legs ≤ i
    → all ++ on_legs row flight i (drop i legs) ≡ whole → all ≡ whole
legs_put row flight i legs whole all le so_far =
    sym (append-nil all) ∙ ap (λ (l : List DatedLeg). all ++ on_legs row flight i l) (sym (drop_of_length-le legs le)) ∙ so_far

-- ---- the legs that serve rows

abbrev IsSmall : RowSetting → Type 0
IsSmall (SetLimit class limit wait) = (limit ≤ 999) × (wait ≤ 999)
IsSmall (SetSale class closed) = Unit {0}

small_of : (setting : RowSetting) (cities : Option Cities) → IsTail setting cities → IsSmall setting
small_of (SetLimit class limit wait) None is = absurd is
small_of (SetLimit class limit wait) (Some pair) is = (is.1.limit, is.1.wait)
small_of (SetSale class closed) cities is = tt

all_small : (n : ℕ) (texts : List (List ℕ)) (rows : List ChangeRow) → SpellsChanges n texts rows
    → AllByRecursion (λ (r : ChangeRow). IsSmall r.setting) rows
all_small n [] [] are = tt
all_small n [] (row ∷ rows) are = absurd are
all_small n ([] ∷ texts) rows are = all_small (n + 1) texts rows are
all_small n ((c ∷ text) ∷ texts) [] are = absurd are
all_small n ((c ∷ text) ∷ texts) (row ∷ rows) are = (small_of row.setting row.cities are.0.is_tail, all_small (n + 1) texts rows are.1)

-- what one row asks for, and what the others do
pub record AreTwo (a b : Option (List Control)) (cs : List Control) : Type 0 where
  pub here : List Control
  pub behind : List Control
  pub here_is : a ≡ Some here
  pub behind_is : b ≡ Some behind
  pub all_is : here ++ behind ≡ cs

pub two_of : (a b : Option (List Control)) (cs : List Control) → and_those a b ≡ Some cs → AreTwo a b cs
two_of None b cs e = absurd cc
two_of (Some here) None cs e = absurd cc
two_of (Some here) (Some behind) cs e = record { here = here; behind = behind; here_is = refl; behind_is = refl; all_is = some_is (here ++ behind) cs e }

all_of_some : (all here : List Control) → some_of all ≡ Some here → all ≡ here
all_of_some [] here e = absurd cc
all_of_some (c ∷ all) here e = some_is (c ∷ all) here e

module _ (flights : List Flown) where
  set_on : (s : RowSetting) (flight leg : ℕ) → IsSmall s → IsLegOf flights flight leg → IsOnLeg flights (on_leg s flight leg)
  set_on (SetLimit class limit wait) flight leg small is = record { leg = is; limit_most = small.0; wait_most = small.1 }
  set_on (SetSale class closed) flight leg small is = is

  on_one : (s : RowSetting) (here : List Control) (o : Option Place) → IsSmall s → IfSome o (λ p. IsLegOf flights p.flight p.to)
      → on_place s o ≡ Some here → AllByRecursion (IsOnLeg flights) here
  on_one s here None small is e = absurd cc
  on_one s here (Some p) small is e = of (p.from == p.to) refl e where
    of : (t : Bool) → (p.from == p.to) ≡ t
        → cond {A = Option (List Control)} t (Some (on_leg s p.flight p.from ∷ [])) None ≡ Some here
        → AllByRecursion (IsOnLeg flights) here
    of true same e =
        let leg : IsLegOf flights p.flight p.from = subst (IsLegOf flights p.flight) (sym (eqb-true p.from p.to same)) is in
        subst (AllByRecursion (IsOnLeg flights)) (some_is (on_leg s p.flight p.from ∷ []) here e) (set_on s p.flight p.from small leg, tt)
    of false same e = absurd cc

  legs_on : (row : ChangeRow) (flight leg : ℕ) (legs : List DatedLeg) → IsSmall row.setting
      → ((i : ℕ) → i < length legs → IsLegOf flights flight (leg + i)) → AllByRecursion (IsOnLeg flights) (on_legs row flight leg legs)
  legs_on row flight leg [] small are = tt
  legs_on row flight leg (l ∷ legs) small are =
      let first : leg + 0 ≡ leg = omega arith in
      all_append (IsOnLeg flights) (if l.day == row.day then on_leg row.setting flight leg ∷ [] else []) (on_legs row flight (leg + 1) legs)
      (of (l.day == row.day) (subst (IsLegOf flights flight) first (are 0 (omega arith))))
      (legs_on row flight (leg + 1) legs small (λ i lt. let e : leg + suc i ≡ leg + 1 + i = omega arith in subst (IsLegOf flights flight) e (are (suc i) (omega (arith, lt)))))
    where
      of : (t : Bool) → IsLegOf flights flight leg
          → AllByRecursion (IsOnLeg flights) (cond {A = List Control} t (on_leg row.setting flight leg ∷ []) [])
      of true is = (set_on row.setting flight leg small is, tt)
      of false is = tt

  flights_on : (row : ChangeRow) (n : ℕ) (fs : List Flown) → IsSmall row.setting
      → ((i : ℕ) (f : Flown) → slice_get fs i ≡ Some f → slice_get flights (n + i) ≡ Some f)
      → AllByRecursion (IsOnLeg flights) (on_flights row n fs)
  flights_on row n [] small are = tt
  flights_on row n (f ∷ fs) small are =
      let first : n + 0 ≡ n = omega arith in
      let at : slice_get flights n ≡ Some f = ap (slice_get flights) (sym first) ∙ are 0 f refl in
      all_append (IsOnLeg flights) (if is_named row f then on_legs row n 0 f.legs else []) (on_flights row (n + 1) fs)
      (of (is_named row f) (legs_on row n 0 f.legs small (λ i lt. record { flown = f; at = at; there = omega (arith, lt) })))
      (flights_on row (n + 1) fs small (λ i g e. let same : n + suc i ≡ n + 1 + i = omega arith in ap (slice_get flights) (sym same) ∙ are (suc i) g e))
    where
      of : (t : Bool) → AllByRecursion (IsOnLeg flights) (on_legs row n 0 f.legs)
          → AllByRecursion (IsOnLeg flights) (cond {A = List Control} t (on_legs row n 0 f.legs) [])
      of true are = are
      of false are = tt

  row_on : (row : ChangeRow) (here : List Control) (cities : Option Cities) → IsSmall row.setting
      → set_between flights row cities ≡ Some here → AllByRecursion (IsOnLeg flights) here
  row_on row here None small e =
      let all = all_of_some (on_flights row 0 flights) here e in
      subst (AllByRecursion (IsOnLeg flights)) all (flights_on row 0 flights small (λ i f at. let e : 0 + i ≡ i = omega arith in ap (slice_get flights) e ∙ at))
  row_on row here (Some pair) small e =
      on_one row.setting here (place_wanted flights (wanted_by row pair)) small (served_leg flights (wanted_by row pair)) e

  all_on_legs : (rows : List ChangeRow) (changes : List Control) → AllByRecursion (λ (r : ChangeRow). IsSmall r.setting) rows
      → AreServed flights rows changes → AllByRecursion (IsOnLeg flights) changes
  all_on_legs [] changes small served = subst (AllByRecursion (IsOnLeg flights)) (some_is [] changes served) tt
  all_on_legs (row ∷ rows) changes small served =
      let two = two_of (changes_of flights row) (all_served flights rows) changes served in
      subst (AllByRecursion (IsOnLeg flights)) two.all_is
      (all_append (IsOnLeg flights) two.here two.behind (row_on row two.here row.cities small.0 two.here_is) (all_on_legs rows two.behind small.1 two.behind_is))

pub on_legs_all : (flights : List Flown) (bytes : List ℕ) (rows : List ChangeRow) (changes : List Control)
    → IsChangeText bytes rows → AreServed flights rows changes
    → AllByRecursion (IsOnLeg flights) changes
on_legs_all flights bytes rows changes are served = all_on_legs flights rows changes (all_small 1 (lines bytes) rows are.spelled) served
