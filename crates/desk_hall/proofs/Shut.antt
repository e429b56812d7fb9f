-- Legs that are closed, and stay so.
use Rattle.std.proofs.Common.{◌≡◌, ℕ, ◌+◌, ◌&&◌, nat_lt, Bool, true, false, cond, if◌then◌else◌, List, [], ◌∷◌, ◌++◌, map, refl, sym, ap, ◌∙◌, subst, None, append_assoc, append-nil}
use Rattle.std.specs.Prelude.{codes}
use Rattle.std.specs.List.{AllByRecursion}
use Rattle.desk_hall.specs.Departed.{closing, closings_from, closings_on, has_open, is_left_open, limits_behind, ClosingsCloseAll}
use Rattle.desk_hall.specs.Planning.{control_asked}
use Rattle.seat_journal.specs.declared.entry.Control.{Control}
use Rattle.seat_journal.specs.declared.entry.Control.TheVariants.{ToLimit, ToSale}
use Rattle.seat_journal.specs.declared.entry.Entry.{Entry}
use Rattle.seat_nesting.proofs.LimitChanges.{each_ladder_set, ladder_at_set}
use Rattle.seat_nesting.specs.Changing.{has_named, has_sale, sales_with, with_sale}
use Rattle.seat_nesting.specs.Nesting.{Ladders, Steps, ladder_at}
use Rattle.seat_nesting.specs.declared.setting.Setting.TheVariants.{ToSale as SetsSale}
use Rattle.seat_rules.proofs.History.Lines.{replay_next}
use Rattle.seat_rules.specs.Journal.{replay}
use Rattle.seat_rules.specs.Sequential.{State, passed, refused}
use Rattle.seat_serving.specs.Answering.{line_for, lines_for, with_line}
use Rattle.seat_serving.specs.declared.asked.Asked.{Asked}
use Rattle.ssim_flights.specs.declared.flight.DatedLeg.{DatedLeg}
use Rattle.ssim_flights.specs.declared.flight.Flight.{Flight as Flown}

-- ---- a leg

-- where all is closed none is open
all_shut : (steps : Steps) → has_open (with_sale steps None true) ≡ false
all_shut [] = refl
all_shut (s ∷ steps) = all_shut steps

-- where no class is there none is open
none_there : (steps : Steps) → has_named steps None ≡ false → has_open steps ≡ false
none_there [] lacks = refl
none_there (s ∷ steps) lacks = absurd cc

-- ---- the limits

-- what is closed stays closed
abbrev Narrows : Ladders → Ladders → Type 0
Narrows old new = (flight leg : ℕ) → has_open (ladder_at old flight leg) ≡ false → has_open (ladder_at new flight leg) ≡ false

-- a leg has no class open
abbrev IsShut : Ladders → ℕ → ℕ → Type 0
IsShut limits flight leg = has_open (ladder_at limits flight leg) ≡ false

-- the limits behind a closing
abbrev shut : Ladders → ℕ → ℕ → Ladders
shut limits flight leg = if has_sale limits flight leg None then sales_with limits flight leg None true else limits

narrows_set : (limits : Ladders) (flight leg : ℕ) → Narrows limits (sales_with limits flight leg None true)
narrows_set limits flight leg =
    each_ladder_set (λ f at s. has_open (ladder_at limits f at) ≡ false → has_open s ≡ false) limits flight leg (SetsSale None true)
    (λ f at h. h) (λ h. all_shut (ladder_at limits flight leg))

narrows_shut : (limits : Ladders) (flight leg : ℕ) → Narrows limits (shut limits flight leg)
narrows_shut limits flight leg = of (has_sale limits flight leg None)
  where
    of : (b : Bool) → Narrows limits (if b then sales_with limits flight leg None true else limits)
    of true = narrows_set limits flight leg
    of false = λ f at h. h

is_shut : (limits : Ladders) (flight leg : ℕ) → IsShut (shut limits flight leg) flight leg
is_shut limits flight leg = of (has_sale limits flight leg None) refl
  where
    of : (b : Bool) → has_sale limits flight leg None ≡ b → IsShut (if b then sales_with limits flight leg None true else limits) flight leg
    of true is =
        ap has_open (ladder_at_set limits flight leg (SetsSale None true)) ∙ all_shut (ladder_at limits flight leg)
    of false is = none_there (ladder_at limits flight leg) is

-- ---- one line

limits_next : (grid : Ladders) (past : List Entry) (flight leg : ℕ)
    → (replay grid (with_line grid past (control_asked (closing flight leg)))).grid ≡ shut (replay grid past).grid flight leg
limits_next grid past flight leg =
    ap (λ (s : State). s.grid) (replay_next grid past (line_for grid past (control_asked (closing flight leg)))) ∙ of (has_sale (replay grid past).grid flight leg None)
  where
    s : State
    s = replay grid past

    of : (b : Bool)
        → (if b then passed (sales_with s.grid flight leg None true) s.bookings (codes "OK") 0 else refused s (codes "NO")).state.grid
        ≡ (if b then sales_with s.grid flight leg None true else s.grid)
    of true = refl
    of false = refl

-- ---- several

-- the leg of a closing has no class open
abbrev IsShutBy : Ladders → Control → Type 0
IsShutBy limits (ToSale c) = IsShut limits c.flight c.leg
IsShutBy limits (ToLimit c) = ⊥

-- each of these closes all that its leg has
abbrev AreClosings : List Control → Type 0
AreClosings [] = Unit {0}
AreClosings (c ∷ controls) = (flight leg : ℕ) × (c ≡ closing flight leg) × AreClosings controls

pub record AllShut (grid : Ladders) (past : List Entry) (controls : List Control) : Type 0 where
  pub narrows : Narrows (replay grid past).grid (limits_behind grid past controls)
  pub each : AllByRecursion (IsShutBy (limits_behind grid past controls)) controls

behind_one : (grid : Ladders) (past : List Entry) (c : Control) (controls : List Control)
    → limits_behind grid (with_line grid past (control_asked c)) controls ≡ limits_behind grid past (c ∷ controls)
behind_one grid past c controls =
    let a : Asked = control_asked c in
    ap (λ (l : List Entry). (replay grid l).grid)
    (append_assoc past (line_for grid past a ∷ []) (lines_for grid (with_line grid past a) (map control_asked controls)))

all_shut_by : (grid : Ladders) (past : List Entry) (controls : List Control) → AreClosings controls → AllShut grid past controls
all_shut_by grid past [] are = record {
  narrows = λ flight leg h. subst (λ (l : List Entry). IsShut (replay grid l).grid flight leg) (sym (append-nil past)) h;
  each = tt;
}
all_shut_by grid past (c ∷ controls) are =
    let flight : ℕ = are.0 in
    let leg : ℕ = are.1 in
    let now : List Entry = with_line grid past (control_asked c) in
    let rest : AllShut grid now controls = all_shut_by grid now controls are.3 in
    let limits : (replay grid now).grid ≡ shut (replay grid past).grid flight leg =
    ap (λ (x : Control). (replay grid (with_line grid past (control_asked x))).grid) are.2 ∙ limits_next grid past flight leg in
    let same : limits_behind grid now controls ≡ limits_behind grid past (c ∷ controls) = behind_one grid past c controls in
    let here : IsShut (replay grid now).grid flight leg =
    subst (λ (g : Ladders). IsShut g flight leg) (sym limits) (is_shut (replay grid past).grid flight leg) in
    record {
      narrows = λ f at h. subst (λ (g : Ladders). IsShut g f at) same
          (rest.narrows f at (subst (λ (g : Ladders). IsShut g f at) (sym limits) (narrows_shut (replay grid past).grid flight leg f at h)));
      each = (
        subst (IsShutBy (limits_behind grid past (c ∷ controls))) (sym are.2)
            (subst (λ (g : Ladders). IsShut g flight leg) same (rest.narrows flight leg here)),
        subst (λ (g : Ladders). AllByRecursion (IsShutBy g) controls) same rest.each,
      );
    }

-- ---- the closings

closings_join : (xs ys : List Control) → AreClosings xs → AreClosings ys → AreClosings (xs ++ ys)
closings_join [] ys a b = b
closings_join (x ∷ xs) ys a b = (a.0, a.1, a.2, closings_join xs ys a.3 b)

module _ (limits : Ladders) (today : ℕ) where
  are_on : (flight leg : ℕ) (legs : List DatedLeg) → AreClosings (closings_on limits today flight leg legs)
  are_on flight leg [] = tt
  are_on flight leg (l ∷ legs) =
      closings_join (if is_left_open limits today flight leg l then closing flight leg ∷ [] else []) (closings_on limits today flight (leg + 1) legs)
      (of (is_left_open limits today flight leg l)) (are_on flight (leg + 1) legs)
    where
      of : (t : Bool) → AreClosings (cond {A = List Control} t (closing flight leg ∷ []) [])
      of true = (flight, leg, refl, tt)
      of false = tt

  are_from : (n : ℕ) (flights : List Flown) → AreClosings (closings_from limits today n flights)
  are_from n [] = tt
  are_from n (f ∷ flights) =
      closings_join (closings_on limits today n 0 f.legs) (closings_from limits today (n + 1) flights) (are_on n 0 f.legs) (are_from (n + 1) flights)

-- ---- none is left

split : (P : Control → Type 0) (xs ys : List Control) → AllByRecursion P (xs ++ ys) → AllByRecursion P xs × AllByRecursion P ys
split P [] ys all = (tt, all)
split P (x ∷ xs) ys all = let both = split P xs ys all.1 in ((all.0, both.0), both.1)

module _ (old new : Ladders) (today : ℕ) (narrows : Narrows old new) where
  shut_leg : (flight leg : ℕ) (l : DatedLeg)
      → AllByRecursion (IsShutBy new) (if is_left_open old today flight leg l then closing flight leg ∷ [] else [])
      → is_left_open new today flight leg l ≡ false
  shut_leg flight leg l = of (nat_lt l.day today) (has_open (ladder_at old flight leg)) refl
    where
      of : (before was : Bool) → has_open (ladder_at old flight leg) ≡ was
          → AllByRecursion (IsShutBy new) (if before && was then closing flight leg ∷ [] else [])
          → (before && has_open (ladder_at new flight leg)) ≡ false
      of true true is all = all.0
      of true false is all = narrows flight leg is
      of false was is all = refl

  none_on : (flight leg : ℕ) (legs : List DatedLeg) → AllByRecursion (IsShutBy new) (closings_on old today flight leg legs)
      → closings_on new today flight leg legs ≡ []
  none_on flight leg [] all = refl
  none_on flight leg (l ∷ legs) all =
      let both = split (IsShutBy new) (if is_left_open old today flight leg l then closing flight leg ∷ [] else [])
      (closings_on old today flight (leg + 1) legs) all in
      ap (λ (t : Bool). (if t then closing flight leg ∷ [] else []) ++ closings_on new today flight (leg + 1) legs) (shut_leg flight leg l both.0)
      ∙ none_on flight (leg + 1) legs both.1

  none_from : (n : ℕ) (flights : List Flown) → AllByRecursion (IsShutBy new) (closings_from old today n flights)
      → closings_from new today n flights ≡ []
  none_from n [] all = refl
  none_from n (f ∷ flights) all =
      let both = split (IsShutBy new) (closings_on old today n 0 f.legs) (closings_from old today (n + 1) flights) all in
      ap (λ (l : List Control). l ++ closings_from new today (n + 1) flights) (none_on n 0 f.legs both.0) ∙ none_from (n + 1) flights both.1

pub closings_close_all : ClosingsCloseAll
closings_close_all grid journal today flights =
    let limits : Ladders = (replay grid journal).grid in
    let all : List Control = closings_from limits today 0 flights in
    let closed : AllShut grid journal all = all_shut_by grid journal all (are_from limits today 0 flights) in
    none_from limits (limits_behind grid journal all) today closed.narrows 0 flights closed.each
