-- What stands behind the changes.
use Rattle.std.proofs.Common.{◌≡◌, ◌&&◌, ℕ, ◌+◌, ◌<◌, ◌≤◌, Bool, true, false, if◌then◌else◌, nat_eq, nat_le, List, [], ◌∷◌, ◌++◌, fold, length, map, Option, Some, None, codes, inl, inr, arith, refl, ap, sym, subst, ◌∙◌}
use Rattle.std.specs.Prelude.{◌⊎◌, slice_get}
use Rattle.std.specs.Cmp.Lexicographic.{pointwise}
use Rattle.std.specs.List.{All, AllByRecursion}
use Rattle.std.proofs.lemmas.Bool.{cases_lt, false≢true}
use Rattle.std.proofs.lemmas.List.Elements.{All-from_recursion}
use Rattle.std.proofs.lemmas.List.Sums.{fold-append}
use Rattle.ssim_flights.specs.declared.flight.Flight.{Flight as Flown}
use Rattle.seat_journal.specs.declared.entry.Change.{Change}
use Rattle.seat_journal.specs.declared.entry.Entry.{Entry}
use Rattle.seat_journal.specs.declared.entry.SaleChange.{SaleChange}
use Rattle.seat_journal.specs.declared.entry.Work.TheVariants.{Limit, Sale}
use Rattle.seat_nesting.specs.Nesting.{ByClass, IsLegLadder, Ladders, Steps, ladder_at, legs_of}
use Rattle.seat_nesting.specs.Changing.{can_set, may_have, with_limit}
use Rattle.seat_nesting.proofs.LimitChanges.{can_parts, each_ladder, limit_most}
use Rattle.seat_nesting.proofs.Rooms.{within_none}
use Rattle.seat_rules.specs.Bookings.{held}
use Rattle.seat_rules.specs.Inventory.{HasSameLegs, Inventory, IsOpened, state_now}
use Rattle.seat_rules.specs.Journal.{FitsChange, after, replay}
use Rattle.seat_rules.specs.Sequential.{Outcome, State, changed_by, may_change, passed, refused, sales_by, may_set_sale, set, state_of}
use Rattle.seat_rules.proofs.Step.Limits.{legs_answer}
use Rattle.seat_rules.proofs.Step.Outcomes.{each_grid}
use Rattle.limit_changes.specs.Laws.{AreAccepted, AreLadders, SameRanks, after_row, after_rows, change_in}
use Rattle.limit_changes.specs.Legs.{every_leg, named_leg}
use Rattle.limit_changes.specs.Rows.{reached_on, rows, steps_now}
use Rattle.limit_changes.specs.declared.legs.NamedLeg.{NamedLeg}
use Rattle.limit_changes.specs.declared.rows.Row.{Row}
use Rattle.limit_changes.proofs.Apart.{every_apart, every_at}
use Rattle.limit_changes.proofs.Arriving.{Ordered, all_accepted, all_reached, bounded_limits, ordered_replay}
use Rattle.limit_changes.proofs.Held.{room_is_reached}
use Rattle.carry_lines.specs.Setting.{changes_of, lines_set, manager_line}
use Rattle.carry_lines.specs.Carried.{changed_lines, limits_behind}
use Rattle.carry_limits.specs.Changes.{AreAllMade}
use Rattle.carry_limits.specs.Legs.{HasLegsOf}
use Rattle.carry_limits.proofs.Grids.{IsThere, ladder_past, there_or_none}
use Rattle.carry_limits.proofs.Ranked.{same_none}
use Rattle.carry_limits.proofs.Standing.{stays_set}

-- ---- an inventory without lines

pub rows_opened : (i : Inventory) (grid file lifted : Ladders) (cap : ℕ) (legs : List NamedLeg) (all : List Row)
    → IsOpened i grid cap → grid ≡ file → all ≡ rows lifted (state_now i) legs → all ≡ rows lifted (state_of file []) legs
rows_opened i grid file lifted cap legs all opened is rows_are =
    rows_are
    ∙ ap (λ (g : Ladders). rows lifted (replay g i.journal) legs) (opened.grid_is ∙ is)
    ∙ ap (λ (j : List Entry). rows lifted (replay file j) legs) opened.journal_is

-- ---- lines and rows

-- the lines of changes leave what the changes themselves do
behind_rows : (grid : Ladders) (past : List Entry) (all : List Row)
    → replay grid (lines_set grid past (changes_of (map change_in all))) ≡ after_rows (replay grid past) all
behind_rows grid past [] = refl
behind_rows grid past (row ∷ more) =
    let e : Entry = manager_line grid past (Limit (change_in row)) in
    behind_rows grid (past ++ e ∷ []) more
    ∙ ap (λ (s : State). after_rows s more) (fold-append after (state_of grid []) past (e ∷ []))

pub behind_is : (grid : Ladders) (all : List Row) → limits_behind grid (map change_in all) ≡ (after_rows (state_of grid []) all).grid
behind_is grid all = ap (λ (s : State). s.grid) (behind_rows grid [] all)

pub made_rows : (s : State) (all : List Row) → AreAccepted s all → AreAllMade s (map change_in all)
made_rows s [] is = tt
made_rows s (row ∷ more) is = (is.0, made_rows (after_row s row) more is.1)

-- ---- a change that is accepted fits

may_of : (s : State) (c : Change) → (set s c).reply ≡ codes "OK" → may_change s c ≡ true
may_of s c e = by (may_change s c) refl e where
  by : (b : Bool) → may_change s c ≡ b
      → (if b then passed (changed_by s.grid c) s.bookings (codes "OK") 0 else refused s (codes "NO")).reply ≡ codes "OK" → may_change s c ≡ true
  by true is h = is
  by false is h = absurd (false≢true (ap (λ (l : List ℕ). pointwise nat_eq l (codes "OK")) h))

one_fits : (file : Ladders) (s : State) (c : Change) → HasSameLegs file s.grid → AreLadders s.grid → (set s c).reply ≡ codes "OK" → FitsChange file c
one_fits file s c alike ladders e = record {
  there = by (cases_lt c.leg (length (legs_of file c.flight)));
  limit_most = limit_most 999 steps (held s.bookings c.flight c.leg) c.class c.limit (bounded_limits steps (ladders c.flight c.leg).bounded) (ladders c.flight c.leg).not_rising parts.1;
  wait_most = parts.0;
}
  where
    steps : Steps
    steps = ladder_at s.grid c.flight c.leg

    parts : (c.wait ≤ 999) × (may_have steps (held s.bookings c.flight c.leg) c.class c.limit ≡ true)
    parts = can_parts s.grid (held s.bookings) c.flight c.leg c.class c.limit c.wait (may_of s c e)

    nowhere : steps ≡ [] → false ≡ true
    nowhere none = ap (λ (l : Steps). may_have l (held s.bookings c.flight c.leg) c.class c.limit) (sym none) ∙ parts.1

    by : (c.leg < length (legs_of file c.flight)) ⊎ (length (legs_of file c.flight) ≤ c.leg) → c.leg < length (legs_of file c.flight)
    by (inl lt) = lt
    by (inr past) = absurd (false≢true (nowhere (ladder_past s.grid c.flight c.leg (omega (arith, past, alike c.flight)))))

all_fit : (file : Ladders) (s : State) (changes : List Change) → HasSameLegs file s.grid → AreLadders s.grid → AreAllMade s changes
    → AllByRecursion (FitsChange file) changes
all_fit file s [] alike ladders made = tt
all_fit file s (c ∷ more) alike ladders made = (
  one_fits file s c alike ladders made.0,
  all_fit file (set s c).state more (λ flight. legs_answer s 0 (Limit c) flight ∙ alike flight) (λ flight leg. stays_set flight leg s c (ladders flight leg)) made.1,
)

pub each_fits : (file : Ladders) (changes : List Change) → AreLadders file → AreAllMade (state_of file []) changes → All (FitsChange file) changes
each_fits file changes ladders made =
    All-from_recursion (FitsChange file) changes (all_fit file (state_of file []) changes (λ flight. refl) ladders made)

-- ---- where the file has no limits there are none behind

none_set : (flight leg : ℕ) (s : State) (c : Change) → ladder_at s.grid flight leg ≡ [] → ladder_at (set s c).state.grid flight leg ≡ []
none_set flight leg s c none = each_grid (λ (g : Ladders). ladder_at g flight leg ≡ []) s 0 (Limit c) none set_one shut_one where
  Here : ℕ → ℕ → Steps → Type 0
  Here f l steps = f ≡ flight → l ≡ leg → steps ≡ []

  all : (f l : ℕ) → Here f l (ladder_at s.grid f l)
  all f l e g = ap (λ (x : ℕ). ladder_at s.grid x l) e ∙ ap (λ (x : ℕ). ladder_at s.grid flight x) g ∙ none

  set_one : (d : Change) → Limit c ≡ Limit d → may_change s d ≡ true → ladder_at (changed_by s.grid d) flight leg ≡ []
  set_one d is may =
      each_ladder Here s.grid d.flight d.leg d.class d.limit d.wait all
      (λ (e : d.flight ≡ flight) (g : d.leg ≡ leg). ap (λ (l : Steps). with_limit l d.class d.limit d.wait) (all d.flight d.leg e g))
      flight leg refl refl

  shut_one : (d : SaleChange) → Limit c ≡ Sale d → may_set_sale s d ≡ true → ladder_at (sales_by s.grid d) flight leg ≡ []
  shut_one d is may = absurd cc

none_after : (flight leg : ℕ) (s : State) (all : List Row) → ladder_at s.grid flight leg ≡ [] → ladder_at (after_rows s all).grid flight leg ≡ []
none_after flight leg s [] none = none
none_after flight leg s (row ∷ more) none = none_after flight leg (after_row s row) more (none_set flight leg s (change_in row) none)

-- ---- the limits of each leg

module _ (flights : List Flown) (file lifted : Ladders) (ladders : AreLadders file) (right : AreLadders lifted) where
  ordered : Ordered (state_of file [])
  ordered = ordered_replay file [] ladders

  pub all_made : AreAllMade (state_of file []) (map change_in (rows lifted (state_of file []) (every_leg flights)))
  all_made =
      made_rows (state_of file []) (rows lifted (state_of file []) (every_leg flights))
      (all_accepted lifted (state_of file []) right ordered (every_leg flights) (every_apart flights))

  pub each_reached : HasLegsOf file flights → ((flight leg : ℕ) → SameRanks (ladder_at file flight leg) (ladder_at lifted flight leg))
      → (flight leg : ℕ)
      → ladder_at (after_rows (state_of file []) (rows lifted (state_of file []) (every_leg flights))).grid flight leg ≡ ladder_at lifted flight leg
  each_reached has same flight leg = by (there_or_none file flights has flight leg) where
    by : IsThere flights flight leg ⊎ (ladder_at file flight leg ≡ [])
        → ladder_at (after_rows (state_of file []) (rows lifted (state_of file []) (every_leg flights))).grid flight leg ≡ ladder_at lifted flight leg
    by (inl is) =
        every_at (λ (k : NamedLeg). steps_now (after_rows (state_of file []) (rows lifted (state_of file []) (every_leg flights))) k ≡ reached_on lifted (state_of file []) k)
        flights flight leg is.flown is.run is.flight_at is.leg_at
        (all_reached lifted (state_of file []) right ordered (every_leg flights) (every_apart flights))
        ∙ room_is_reached lifted (state_of file []) (named_leg flight is.flown leg is.run) (ladders flight leg) (right flight leg)
        (within_none (ladder_at file flight leg) (held [] flight leg) (λ k. refl)) (within_none (ladder_at lifted flight leg) (held [] flight leg) (λ k. refl)) (same flight leg)
    by (inr none) =
        none_after flight leg (state_of file []) (rows lifted (state_of file []) (every_leg flights)) none
        ∙ sym (same_none (ladder_at lifted flight leg) (subst (λ (l : Steps). SameRanks l (ladder_at lifted flight leg)) none (same flight leg)))
