-- Limits that a journal doesn't change, over which the file's are wanted as they are.
use Rattle.std.proofs.Common.{◌≡◌, ◌≤◌, ◌==◌, ◌&&◌, ◌||◌, ℕ, Bool, true, false, if◌then◌else◌, fold, List, [], ◌∷◌, min, Option, Some, None, arith, refl, ap, sym, subst, ◌∙◌}
use Rattle.std.specs.Bool.{OnFalse}
use Rattle.std.specs.List.{AllByRecursion, list_any}
use Rattle.std.proofs.Math.Nat.{min-eq_left}
use Rattle.std.proofs.lemmas.Bool.{OnFalse_at, OnFalse_from, and_parts, eq-eqb, eqb-true, false≢true, or_parts, true≢false}
use Rattle.airline_base.specs.declared.place.Place.{Place}
use Rattle.ssim_flights.specs.Places.{place, place_wanted}
use Rattle.ssim_flights.specs.declared.flight.Flight.{Flight as Flown}
use Rattle.ssim_flights.specs.declared.flight.Wanted.{Wanted}
use Rattle.seat_journal.specs.declared.entry.Change.{Change}
use Rattle.seat_journal.specs.declared.entry.Entry.{Entry}
use Rattle.seat_journal.specs.declared.entry.SaleChange.{SaleChange}
use Rattle.seat_journal.specs.declared.entry.Work.{Work}
use Rattle.seat_journal.specs.declared.entry.Work.TheVariants.{Limit, Sale}
use Rattle.seat_nesting.specs.Nesting.{IsLadder, IsNotRising, Ladders, Steps, ladder_at}
use Rattle.seat_nesting.specs.Changing.{is_named, marked, step_of, with_sale}
use Rattle.seat_nesting.specs.declared.ladder.Step.{Step}
use Rattle.seat_nesting.specs.declared.setting.Setting.TheVariants.{ToSale}
use Rattle.seat_nesting.proofs.LimitChanges.{each_ladder_set}
use Rattle.seat_rules.specs.Inventory.{Inventory, state_now}
use Rattle.seat_rules.specs.Journal.{after}
use Rattle.seat_rules.specs.Sequential.{State, answer, changed_by, may_change, may_set_sale, sales_by, state_of}
use Rattle.seat_rules.proofs.Step.Outcomes.{each_grid}
use Rattle.seat_carrying.specs.Lifting.{changed_step, step_wanted, top_of, wanted, wanted_under, with_change}
use Rattle.seat_moving.specs.Moving.{is_very, name_of}
use Rattle.carry_limits.specs.Filed.{AreAsBegun, IsAsBegun, IsChanged, is_limit, same_limit, same_limits, sets_limits}
use Rattle.carry_limits.specs.Wanting.{leg_named, old_leg, one_leg, wanted_after, wanted_by, wanted_on}
use Rattle.carry_limits.specs.declared.wanting.Seasons.{Seasons}

-- ---- the same limits

same_self : (steps : Steps) → same_limits steps steps ≡ true
same_self [] = refl
same_self (s ∷ lower) =
    ap (λ (t : Bool). (t && ((s.limit == s.limit) && (s.wait == s.wait))) && same_limits lower lower) (eq-eqb s.class s.class refl)
    ∙ ap (λ (t : Bool). (t && (s.wait == s.wait)) && same_limits lower lower) (eq-eqb s.limit s.limit refl)
    ∙ ap (λ (t : Bool). t && same_limits lower lower) (eq-eqb s.wait s.wait refl)
    ∙ same_self lower

-- what is closed or opened has them still
same_mark : (which : Option ℕ) (closed : Bool) (a b : Step) → same_limit a (marked which closed b) ≡ same_limit a b
same_mark which closed a b = by (is_named which b.class) where
  by : (t : Bool) → same_limit a (if t then record b { closed = closed } else b) ≡ same_limit a b
  by true = refl
  by false = refl

after_sale : (which : Option ℕ) (closed : Bool) (begun now : Steps) → same_limits begun now ≡ true
    → same_limits begun (with_sale now which closed) ≡ true
after_sale which closed [] [] same = refl
after_sale which closed [] (b ∷ others) same = absurd (false≢true same)
after_sale which closed (a ∷ steps) [] same = absurd (false≢true same)
after_sale which closed (a ∷ steps) (b ∷ others) same =
    let parts = and_parts (same_limit a b) (same_limits steps others) same in
    ap (λ (t : Bool). t && same_limits steps (with_sale others which closed)) (same_mark which closed a b ∙ parts.0)
    ∙ after_sale which closed steps others parts.1

-- ---- a journal that sets no limit

module _ (grid : Ladders) where
  abbrev AreSame : State → Type 0
  AreSame s = (flight leg : ℕ) → same_limits (ladder_at grid flight leg) (ladder_at s.grid flight leg) ≡ true

  stays_same : (s : State) (n : ℕ) (w : Work) → is_limit w ≡ false → AreSame s → AreSame (answer s n w).state
  stays_same s n w none all =
      each_grid (λ (g : Ladders). (flight leg : ℕ) → same_limits (ladder_at grid flight leg) (ladder_at g flight leg) ≡ true)
      s n w all set_one shut_one
    where
      set_one : (c : Change) → w ≡ Limit c → may_change s c ≡ true
          → (flight leg : ℕ) → same_limits (ladder_at grid flight leg) (ladder_at (changed_by s.grid c) flight leg) ≡ true
      set_one c is may = absurd (false≢true (sym none ∙ ap is_limit is))

      shut_one : (c : SaleChange) → w ≡ Sale c → may_set_sale s c ≡ true
          → (flight leg : ℕ) → same_limits (ladder_at grid flight leg) (ladder_at (sales_by s.grid c) flight leg) ≡ true
      shut_one c is may =
          each_ladder_set (λ flight leg steps. same_limits (ladder_at grid flight leg) steps ≡ true) s.grid c.flight c.leg
          (ToSale c.class c.closed) all
          (after_sale c.class c.closed (ladder_at grid c.flight c.leg) (ladder_at s.grid c.flight c.leg) (all c.flight c.leg))

  stays_after : (s : State) (journal : List Entry) → sets_limits journal ≡ false → AreSame s → AreSame (fold after s journal)
  stays_after s [] none all = all
  stays_after s (e ∷ es) none all =
      let parts = or_parts (is_limit e.work) (sets_limits es) none in
      stays_after (after s e) es parts.1 (stays_same s e.number e.work parts.0 all)

pub limits_stay : (i : Inventory) (journal : List Entry) (sets : Bool) → sets ≡ sets_limits journal → journal ≡ i.journal
    → OnFalse sets (AreAsBegun i)
limits_stay i journal sets is are = OnFalse_from sets (AreAsBegun i) (λ (none : sets ≡ false). record {
  each = stays_after i.grid (state_of i.grid []) i.journal (ap sets_limits (sym are) ∙ sym is ∙ none) (λ flight leg. same_self (ladder_at i.grid flight leg));
})

-- ---- what is wanted where nothing was changed

none_changed : (begun now : Steps) (class : ℕ) → same_limits begun now ≡ true → changed_step (step_of begun class) (step_of now class) ≡ None
none_changed [] [] class same = refl
none_changed [] (b ∷ others) class same = refl
none_changed (a ∷ steps) [] class same = absurd (false≢true same)
none_changed (a ∷ steps) (b ∷ others) class same = cases (a.class == class) refl (none_changed steps others class parts.1) where
  parts : (same_limit a b ≡ true) × (same_limits steps others ≡ true)
  parts = and_parts (same_limit a b) (same_limits steps others) same

  mine : ((a.class == b.class) ≡ true) × (((a.limit == b.limit) && (a.wait == b.wait)) ≡ true)
  mine = and_parts (a.class == b.class) ((a.limit == b.limit) && (a.wait == b.wait)) parts.0

  one : a.class ≡ b.class
  one = eqb-true a.class b.class mine.0

  by : (t : Bool) → changed_step (step_of steps class) (step_of others class) ≡ None
      → changed_step (if t then Some a else step_of steps class) (if t then Some b else step_of others class) ≡ None
  by true below = ap (λ (x : Bool). if x then None else Some b) mine.1
  by false below = below

  cases : (t : Bool) → (a.class == class) ≡ t → changed_step (step_of steps class) (step_of others class) ≡ None
      → changed_step (step_of (a ∷ steps) class) (step_of (b ∷ others) class) ≡ None
  cases t e below =
      ap (λ (x : Bool). changed_step (if x then Some a else step_of steps class) (step_of (b ∷ others) class)) e
      ∙ ap (λ (x : Bool). changed_step (if t then Some a else step_of steps class) (if x then Some b else step_of others class))
      (ap (λ (k : ℕ). k == class) (sym one) ∙ e)
      ∙ by t below

step_kept : (most : ℕ) (begun now : Steps) (s : Step) → same_limits begun now ≡ true → s.limit ≤ most → step_wanted most begun now s ≡ s
step_kept most begun now s same le =
    ap (λ (o : Option Step). under (with_change o s)) (none_changed begun now s.class same)
    ∙ ap (λ (n : ℕ). record s { limit = n }) (min-eq_left le)
  where
    under : Step → Step
    under t = record t { limit = min t.limit most }

under_kept : (most : ℕ) (begun now file : Steps) → same_limits begun now ≡ true → AllByRecursion (λ t. t.limit ≤ most) file
    → IsNotRising file → wanted_under most begun now file ≡ file
under_kept most begun now [] same all falls = refl
under_kept most begun now (s ∷ lower) same all falls =
    ap (λ (x : Step). x ∷ wanted_under x.limit begun now lower) (step_kept most begun now s same all.0)
    ∙ ap (λ (l : Steps). s ∷ l) (under_kept s.limit begun now lower same falls.0 falls.1)

wanted_kept : (begun now file : Steps) → same_limits begun now ≡ true → IsNotRising file → wanted file begun now ≡ file
wanted_kept begun now [] same falls = refl
wanted_kept begun now (s ∷ lower) same falls =
    let le : s.limit ≤ s.limit = omega arith in
    ap (λ (x : Step). x ∷ wanted_under x.limit begun now lower) (step_kept s.limit begun now s same le)
    ∙ ap (λ (l : Steps). s ∷ l) (under_kept s.limit begun now lower same falls.0 falls.1)

after_kept : (before : Inventory) (file : Steps) (old : Option Place) → IsAsBegun before old → IsNotRising file → wanted_after before file old ≡ file
after_kept before file None begun falls = refl
after_kept before file (Some p) begun falls =
    wanted_kept (ladder_at before.grid p.flight p.from) (ladder_at (state_now before).grid p.flight p.from) file (begun.each p refl) falls

by_kept : (fresh : Bool) (s : Seasons) (flight leg : ℕ) → IsAsBegun s.before.now (old_leg s.old.now s.flights.now flight leg)
    → IsNotRising (ladder_at s.file.now flight leg) → wanted_by fresh s flight leg ≡ ladder_at s.file.now flight leg
by_kept true s flight leg begun falls = refl
by_kept false s flight leg begun falls =
    after_kept s.before.now (ladder_at s.file.now flight leg) (old_leg s.old.now s.flights.now flight leg) begun falls

file_kept : (s : Seasons) (flight leg : ℕ) (file : Steps) → file ≡ ladder_at s.file.now flight leg → IsLadder file
    → IsAsBegun s.before.now (old_leg s.old.now s.flights.now flight leg) → file ≡ wanted_on s flight leg
file_kept s flight leg file is ladder begun =
    is ∙ sym (by_kept s.fresh s flight leg begun (subst (λ (l : Steps). IsNotRising l) is ladder.not_rising))

-- ---- the same of a leg, as it is found

pub fresh_file : (s : Seasons) (flight leg : ℕ) (file : Steps) → s.fresh ≡ true → file ≡ ladder_at s.file.now flight leg
    → file ≡ wanted_on s flight leg
fresh_file s flight leg file fresh is = is ∙ ap (λ (b : Bool). wanted_by b s flight leg) (sym fresh)

pub begun_file : (s : Seasons) (flight leg : ℕ) (file : Steps) (sets : Bool) → file ≡ ladder_at s.file.now flight leg → IsLadder file
    → OnFalse sets (AreAsBegun s.before.now) → sets ≡ false → file ≡ wanted_on s flight leg
begun_file s flight leg file sets is ladder stays none =
    file_kept s flight leg file is ladder (record { each = λ p e. (OnFalse_at none stays).each p.flight p.from })

pub unchanged_file : (s : Seasons) (flight leg : ℕ) (file : Steps) → file ≡ ladder_at s.file.now flight leg → IsLadder file
    → IsChanged s.before.now (old_leg s.old.now s.flights.now flight leg) None → file ≡ wanted_on s flight leg
unchanged_file s flight leg file is ladder found = file_kept s flight leg file is ladder (found.kept refl)

pub changed_file : (s : Seasons) (flight leg : ℕ) (file ladder : Steps) (p : Place) → s.fresh ≡ false → file ≡ ladder_at s.file.now flight leg
    → IsChanged s.before.now (old_leg s.old.now s.flights.now flight leg) (Some p)
    → ladder ≡ wanted file (ladder_at s.before.now.grid p.flight p.from) (ladder_at (state_now s.before.now).grid p.flight p.from)
    → ladder ≡ wanted_on s flight leg
changed_file s flight leg file ladder p asked is found made =
    made
    ∙ ap (λ (l : Steps). wanted_after s.before.now l (Some p)) is
    ∙ ap (wanted_after s.before.now (ladder_at s.file.now flight leg)) (sym (found.is p refl))
    ∙ ap (λ (b : Bool). wanted_by b s flight leg) (sym asked)

-- ---- the old leg

no_leg : (before : Inventory) (old : Option Place) → old ≡ None → IsChanged before old None
no_leg before old none = record {
  is = λ p e. absurd (nowhere p e);
  kept = λ e. record { each = λ p is. absurd (nowhere p (sym none ∙ is)) };
}
  where
    nowhere : (p : Place) → None ≡ Some p → ⊥
    nowhere p e = cc

pub nameless : (before : Inventory) (old new : List Flown) (flight leg : ℕ) → None ≡ name_of new (place flight leg leg)
    → IsChanged before (old_leg old new flight leg) None
nameless before old new flight leg none =
    no_leg before (old_leg old new flight leg) (ap (leg_named old new (place flight leg leg)) (sym none))

pub by_its_name : (before : Inventory) (old new found : List Flown) (flight leg : ℕ) (name : Wanted) (at : Option Place)
    → Some name ≡ name_of new (place flight leg leg) → found ≡ new
    → IsChanged before (leg_named old found (place flight leg leg) (Some name)) at
    → IsChanged before (old_leg old new flight leg) at
by_its_name before old new found flight leg name at is are changed =
    subst (λ (o : Option Place). IsChanged before o at)
    (ap (λ (l : List Flown). leg_named old l (place flight leg leg) (Some name)) are ∙ ap (leg_named old new (place flight leg leg)) is)
    changed

module _ (before : Inventory) (old new : List Flown) (p : Place) (name : Wanted) where
  abbrev named : Bool → Option Place → Option Place
  named b o = (if b then one_leg o else None)

  no_old : (b : Bool) → None ≡ one_leg (place_wanted old name) → named b (place_wanted old name) ≡ None
  no_old true none = sym none
  no_old false none = refl

  pub lost_leg : (at : Option Place) → at ≡ place_wanted old name → None ≡ one_leg at
      → IsChanged before (leg_named old new p (Some name)) None
  lost_leg at is none =
      no_leg before (leg_named old new p (Some name)) (no_old (is_very p (place_wanted new name)) (none ∙ ap one_leg is))

  pub other_leg : (very : Bool) (found : Option Place) → found ≡ place_wanted new name → very ≡ is_very p found → very ≡ false
      → IsChanged before (leg_named old new p (Some name)) None
  other_leg very found is tested e =
      no_leg before (leg_named old new p (Some name))
      (ap (λ (b : Bool). named b (place_wanted old name)) (ap (is_very p) (sym is) ∙ sym tested ∙ e))

  pub begun_leg : (at : Option Place) (q : Place) → at ≡ place_wanted old name → Some q ≡ one_leg at
      → same_limits (ladder_at before.grid q.flight q.from) (ladder_at (state_now before).grid q.flight q.from) ≡ true
      → IsChanged before (leg_named old new p (Some name)) None
  begun_leg at q is one same = record {
    is = λ r e. absurd (nowhere r e);
    kept = λ e. record { each = λ r here. by (is_very p (place_wanted new name)) r here };
  }
    where
      nowhere : (r : Place) → None ≡ Some r → ⊥
      nowhere r e = cc

      mine : (r : Place) → one_leg (place_wanted old name) ≡ Some r → q ≡ r
      mine r e = let both : Some q ≡ Some r = one ∙ ap one_leg is ∙ e in cc

      by : (b : Bool) (r : Place) → named b (place_wanted old name) ≡ Some r
          → same_limits (ladder_at before.grid r.flight r.from) (ladder_at (state_now before).grid r.flight r.from) ≡ true
      by true r here =
          subst (λ (x : Place). same_limits (ladder_at before.grid x.flight x.from) (ladder_at (state_now before).grid x.flight x.from) ≡ true)
          (mine r here) same
      by false r here = absurd (nowhere r here)

  pub very_leg : (very : Bool) (at found : Option Place) (q : Place) → at ≡ place_wanted old name → Some q ≡ one_leg at
      → found ≡ place_wanted new name → very ≡ is_very p found → very ≡ true
      → IsChanged before (leg_named old new p (Some name)) (Some q)
  very_leg very at found q is one there tested e = record {
    is = λ r same.
        ap (λ (b : Bool). named b (place_wanted old name)) (ap (is_very p) (sym there) ∙ sym tested ∙ e) ∙ sym (one ∙ ap one_leg is) ∙ same;
    kept = λ none. absurd (some_is none);
  }
    where
      some_is : Some q ≡ None → ⊥
      some_is none = cc
