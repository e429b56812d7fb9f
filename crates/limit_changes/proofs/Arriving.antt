-- Where the changes of all legs lead.
use Rattle.std.proofs.Common.{◌≡◌, ◌==◌, ◌&&◌, ℕ, ◌≤◌, Bool, true, false, cond, if◌then◌else◌, max, min, nat_le, nat_lt, List, [], ◌∷◌, ◌++◌, map, Option, Some, None, codes, arith, refl, sym, ap, subst, ◌∙◌}
use Rattle.std.specs.List.{AllByRecursion, flat_map}
use Rattle.seat_journal.specs.declared.entry.Change.{Change}
use Rattle.seat_journal.specs.declared.entry.Entry.{Entry}
use Rattle.seat_journal.specs.declared.entry.SaleChange.{SaleChange}
use Rattle.seat_journal.specs.declared.entry.Work.{Work}
use Rattle.seat_journal.specs.declared.entry.Work.TheVariants.{Limit, Sale}
use Rattle.seat_nesting.specs.Nesting.{ByClass, IsLegLadder, IsWithin, Ladders, Steps, Table, held_from, ladder_at}
use Rattle.seat_nesting.specs.Changing.{limits_with, may_have, step_of, with_limit, with_sale}
use Rattle.seat_nesting.specs.declared.ladder.Step.{Step}
use Rattle.seat_nesting.proofs.LimitChanges.{can_parts, each_ladder, each_ladder_set, leg_ladder_with}
use Rattle.seat_nesting.specs.declared.setting.Setting.TheVariants.{ToSale}
use Rattle.seat_nesting.proofs.MarkChanges.{leg_ladder_marks, sale_marks}
use Rattle.seat_nesting.proofs.Rooms.{held_cons}
use Rattle.seat_rules.specs.Bookings.{held}
use Rattle.seat_rules.specs.Journal.{replay}
use Rattle.seat_rules.specs.Sequential.{State, answer, may_change, may_set_sale, sales_by, set, state_of}
use Rattle.seat_rules.proofs.Counters.Limits.{within_none}
use Rattle.seat_rules.proofs.History.Lines.{each_replay}
use Rattle.seat_rules.proofs.Passes.Quiet.{quiet_answer}
use Rattle.seat_rules.proofs.Step.Limits.{keeps_answer, ladders_answer}
use Rattle.seat_rules.proofs.Step.Outcomes.{each_grid}
use Rattle.limit_changes.specs.Laws.{AreAccepted, AreLadders, after_row, after_rows}
use Rattle.limit_changes.specs.Reaching.{change_of, changes_down, changes_up, cut_steps, cut_to, raise_steps, raise_to}
use Rattle.limit_changes.specs.Rows.{cut_on, cuts_of, raises_of, reached_on, row_of, rows, seats_now, steps_now, wanted_on}
use Rattle.limit_changes.specs.declared.legs.NamedLeg.{NamedLeg}
use Rattle.limit_changes.specs.declared.rows.Row.{Row}
use Rattle.limit_changes.proofs.Ranks.{AllMay, Cuts, Raises, Sound, all_made, cut_alike, cut_sound, cuts_may, distinct_alike, raises_may, sound_of}
use Rattle.limit_changes.proofs.Walking.{AreApart, Holds, Stands, Walked, at_each, bare, bare_made, bare_may, cut_walks, flat, no_seats, on, on_each, raise_walks, walk}

-- ---- what a replay leaves

pub record Ordered (s : State) : Type 0 where
  pub stands : Stands s
  pub ladders : AreLadders s.grid

ordered_answer : (s : State) (n : ℕ) (w : Work) → Ordered s → Ordered (answer s n w).state
ordered_answer s n w is = record {
  stands = record {
    ladders = ladders_answer s n w is.stands.ladders;
    within = keeps_answer s n w is.stands.ladders is.stands.within;
    quiet = quiet_answer s n w is.stands.quiet;
  };
  ladders = each_grid AreLadders s n w is.ladders set_one shut_one;
}
  where
    set_one : (c : Change) → w ≡ Limit c → may_change s c ≡ true → AreLadders (limits_with s.grid c.flight c.leg c.class c.limit c.wait)
    set_one c is_c may =
        let p = can_parts s.grid (held s.bookings) c.flight c.leg c.class c.limit c.wait may in
        each_ladder (λ (f at : ℕ) (steps : Steps). IsLegLadder steps) s.grid c.flight c.leg c.class c.limit c.wait is.ladders
        (leg_ladder_with (ladder_at s.grid c.flight c.leg) (held s.bookings c.flight c.leg) c.class c.limit c.wait (is.ladders c.flight c.leg) p.1 p.0)

    shut_one : (c : SaleChange) → w ≡ Sale c → may_set_sale s c ≡ true → AreLadders (sales_by s.grid c)
    shut_one c is_c may =
        let steps : Steps = ladder_at s.grid c.flight c.leg in
        let shut : Steps = with_sale steps c.class c.closed in
        each_ladder_set (λ (f at : ℕ) (l : Steps). IsLegLadder l) s.grid c.flight c.leg (ToSale c.class c.closed) is.ladders
        (subst (λ (l : Steps). IsLegLadder l) (sym (sale_marks steps c.class c.closed)) (leg_ladder_marks steps shut (is.ladders c.flight c.leg)))

pub ordered_replay : (grid : Ladders) (journal : List Entry) → AreLadders grid → Ordered (replay grid journal)
ordered_replay grid journal ladders =
    each_replay Ordered ordered_answer (state_of grid []) (record {
      stands = record { ladders = λ (f l : ℕ). (ladders f l).distinct; within = λ (f l : ℕ). within_none _; quiet = tt };
      ladders = ladders;
    }) journal

-- ---- waits

abbrev Waits : Steps → Type 0
Waits ts = AllByRecursion (λ t. t.wait ≤ 999) ts

-- each step of these has a wait of at most 999
abbrev Few : Steps → Type 0
Few steps = (class : ℕ) (w : Step) → step_of steps class ≡ Some w → w.wait ≤ 999

few_of : (steps : Steps) → Waits steps → Few steps
few_of [] few class w e = absurd cc
few_of (s ∷ lower) few class w e = cases (s.class == class) e (few_of lower few.1 class w) where
  cases : (b : Bool) → (if b then Some s else step_of lower class) ≡ Some w → (step_of lower class ≡ Some w → w.wait ≤ 999) → w.wait ≤ 999
  cases true h below = let same : s ≡ w = cc in subst (λ (x : Step). x.wait ≤ 999) same few.0
  cases false h below = below h

pub bounded_waits : (steps : Steps) → AllByRecursion (λ s. (s.limit ≤ 999) × (s.wait ≤ 999)) steps → Waits steps
bounded_waits [] all = tt
bounded_waits (s ∷ lower) all = (all.0.1, bounded_waits lower all.1)

pub bounded_limits : (steps : Steps) → AllByRecursion (λ s. (s.limit ≤ 999) × (s.wait ≤ 999)) steps → AllByRecursion (λ s. s.limit ≤ 999) steps
bounded_limits [] all = tt
bounded_limits (s ∷ lower) all = (all.0.0, bounded_limits lower all.1)

cut_wait : (o : Option Step) (lowest : ℕ) (s : Step) → ((w : Step) → o ≡ Some w → w.wait ≤ 999) → s.wait ≤ 999 → (cut_to o lowest s).wait ≤ 999
cut_wait None lowest s few le = le
cut_wait (Some w) lowest s few le = cases (nat_lt w.limit s.limit) where
  cases : (b : Bool) → (if b then record s { limit = max w.limit lowest; wait = w.wait } else s).wait ≤ 999
  cases true = few w refl
  cases false = le

raise_wait : (o : Option Step) (highest : ℕ) (s : Step) → ((w : Step) → o ≡ Some w → w.wait ≤ 999) → s.wait ≤ 999 → (raise_to o highest s).wait ≤ 999
raise_wait None highest s few le = le
raise_wait (Some w) highest s few le = cases (nat_le s.limit w.limit) where
  cases : (b : Bool) → (if b then record s { limit = min w.limit highest; wait = w.wait } else s).wait ≤ 999
  cases true = few w refl
  cases false = le

cut_waits : (wanted : Steps) (seats : ByClass) (steps : Steps) → Few wanted → Waits steps → Waits (cut_steps wanted seats steps)
cut_waits wanted seats [] few waits = tt
cut_waits wanted seats (s ∷ lower) few waits =
    (cut_wait (step_of wanted s.class) _ s (few s.class) waits.0, cut_waits wanted seats lower few waits.1)

raise_waits : (wanted : Steps) (highest : ℕ) (steps : Steps) → Few wanted → Waits steps → Waits (raise_steps wanted highest steps)
raise_waits wanted highest [] few waits = tt
raise_waits wanted highest (s ∷ lower) few waits =
    (raise_wait (step_of wanted s.class) highest s (few s.class) waits.0, raise_waits wanted (raise_to (step_of wanted s.class) highest s).limit lower few waits.1)

one_waits : (s t : Step) → t.wait ≤ 999 → Waits (change_of s t)
one_waits s t le = cases ((s.limit == t.limit) && (s.wait == t.wait)) where
  cases : (b : Bool) → Waits (if b then [] else t ∷ [])
  cases true = tt
  cases false = (le, tt)

waits_more : (xs ys : Steps) → Waits xs → Waits ys → Waits (xs ++ ys)
waits_more [] ys a b = b
waits_more (x ∷ xs) ys a b = (a.0, waits_more xs ys a.1 b)

up_waits : (steps new : Steps) → Waits new → Waits (changes_up steps new)
up_waits [] new waits = tt
up_waits (s ∷ lower) [] waits = tt
up_waits (s ∷ lower) (t ∷ new) waits = waits_more (changes_up lower new) (change_of s t) (up_waits lower new waits.1) (one_waits s t waits.0)

down_waits : (steps new : Steps) → Waits new → Waits (changes_down steps new)
down_waits [] new waits = tt
down_waits (s ∷ lower) [] waits = tt
down_waits (s ∷ lower) (t ∷ new) waits = waits_more (change_of s t) (changes_down lower new) (one_waits s t waits.0) (down_waits lower new waits.1)

rows_wait : (leg : NamedLeg) (ts : Steps) (more : List Row) → Waits ts → AllByRecursion (λ row. row.wait ≤ 999) more
    → AllByRecursion (λ row. row.wait ≤ 999) (map (row_of leg) ts ++ more)
rows_wait leg [] more waits rest = rest
rows_wait leg (t ∷ ts) more waits rest = (waits.0, rows_wait leg ts more waits.1 rest)

flat_waits : (g : NamedLeg → Steps) → ((leg : NamedLeg) → Waits (g leg)) → (legs : List NamedLeg) → AllByRecursion (λ row. row.wait ≤ 999) (flat g legs)
flat_waits g each [] = tt
flat_waits g each (k ∷ ks) = rows_wait k (g k) (flat g ks) (each k) (flat_waits g each ks)

held_zero : (steps : Steps) → held_from (λ k. 0) steps ≡ 0
held_zero [] = refl
held_zero (s ∷ lower) = omega (arith, held_cons (λ k. 0) s lower, held_zero lower)

-- ---- one walk behind another

accepted_more : (s : State) (xs ys : List Row) → AreAccepted s xs → AreAccepted (after_rows s xs) ys → AreAccepted s (xs ++ ys)
accepted_more s [] ys a b = b
accepted_more s (x ∷ xs) ys a b = (a.0, accepted_more (after_row s x) xs ys a.1 b)

after_more : (s : State) (xs ys : List Row) → after_rows s (xs ++ ys) ≡ after_rows (after_rows s xs) ys
after_more s [] ys = refl
after_more s (x ∷ xs) ys = after_more (after_row s x) xs ys

-- ---- all cuts, and then all raises

sound_none : (above : ℕ) (seats : ByClass) (steps : Steps) → Sound above seats steps → Sound above (λ k. 0) steps
sound_none above seats [] is = tt
sound_none above seats (s ∷ lower) is =
    let none : held_from (λ k. 0) (s ∷ lower) ≡ 0 = held_zero (s ∷ lower) in
    (is.0, omega (arith, none), sound_none s.limit seats lower is.2)

module _ (wanted : Ladders) (s : State) (right : AreLadders wanted) (is : Ordered s) where
  abbrev cuts_at : NamedLeg → Steps
  cuts_at leg = changes_up (steps_now s leg) (cut_on wanted s leg)

  abbrev raises_at : NamedLeg → Steps
  raises_at leg = changes_down (cut_on wanted s leg) (reached_on wanted s leg)

  few_wanted : (leg : NamedLeg) → Few (wanted_on wanted leg)
  few_wanted leg = few_of (wanted_on wanted leg) (bounded_waits (wanted_on wanted leg) (right leg.flight leg.leg).bounded)

  sound : (leg : NamedLeg) → Sound 999 (seats_now s leg) (steps_now s leg)
  sound leg =
      let l = is.ladders leg.flight leg.leg in
      sound_of 999 (seats_now s leg) (steps_now s leg) (bounded_limits (steps_now s leg) l.bounded) l.not_rising (is.stands.within leg.flight leg.leg)

  cut_few : (leg : NamedLeg) → Waits (cut_on wanted s leg)
  cut_few leg =
      cut_waits (wanted_on wanted leg) (seats_now s leg) (steps_now s leg) (few_wanted leg) (bounded_waits (steps_now s leg) (is.ladders leg.flight leg.leg).bounded)

  cuts_here : (leg : NamedLeg) → AllMay Cuts 999 (seats_now s leg) (steps_now s leg) (map bare (cuts_at leg))
  cuts_here leg =
      bare_may Cuts 999 (seats_now s leg) (steps_now s leg) (cuts_at leg)
      (cuts_may (wanted_on wanted leg) 999 (seats_now s leg) (steps_now s leg) (sound leg) (is.ladders leg.flight leg.leg).distinct).0

  cut_made : (leg : NamedLeg) → all_made (steps_now s leg) (map bare (cuts_at leg)) ≡ cut_on wanted s leg
  cut_made leg =
      bare_made (steps_now s leg) (cuts_at leg)
      ∙ (cuts_may (wanted_on wanted leg) 999 (seats_now s leg) (steps_now s leg) (sound leg) (is.ladders leg.flight leg.leg).distinct).1

  -- with no seat held
  sound_bare : (leg : NamedLeg) → Sound 999 (λ k. 0) (cut_on wanted s leg)
  sound_bare leg = sound_none 999 (seats_now s leg) (cut_on wanted s leg) (cut_sound (wanted_on wanted leg) 999 (seats_now s leg) (steps_now s leg) (sound leg))

  raises_both : (leg : NamedLeg) → AllMay Raises 999 (λ k. 0) (cut_on wanted s leg) (raises_at leg) × (all_made (cut_on wanted s leg) (raises_at leg) ≡ reached_on wanted s leg)
  raises_both leg =
      raises_may (wanted_on wanted leg) 999 (λ k. 0) (cut_on wanted s leg) (sound_bare leg)
      (distinct_alike (steps_now s leg) (cut_on wanted s leg) (cut_alike (wanted_on wanted leg) (seats_now s leg) (steps_now s leg)) (is.ladders leg.flight leg.leg).distinct)

  module _ (legs : List NamedLeg) (apart : AreApart legs) where
    every : (P : NamedLeg → Type 0) → ((leg : NamedLeg) → P leg) → (ks : List NamedLeg) → AllByRecursion P ks
    every P each [] = tt
    every P each (k ∷ ks) = (each k, every P each ks)

    first : Walked (Holds s.bookings) s (flat cuts_at legs)
    first =
        walk (Holds s.bookings) (held s.bookings) Cuts (cut_walks s.bookings) s (flat cuts_at legs) (is.stands, refl)
        (flat_waits cuts_at (λ (leg : NamedLeg). up_waits (steps_now s leg) (cut_on wanted s leg) (cut_few leg)) legs)
        (at_each cuts_at (λ (f l : ℕ) (ts : Steps). AllMay Cuts 999 (held s.bookings f l) (ladder_at s.grid f l) ts) (λ (f l : ℕ). tt) legs apart
        (every (λ leg. AllMay Cuts 999 (seats_now s leg) (steps_now s leg) (map bare (cuts_at leg))) cuts_here legs))

    abbrev mid : State
    mid = after_rows s (flat cuts_at legs)

    -- behind the cuts each leg's limits are cut
    cut_each : (ks : List NamedLeg) → AllByRecursion (λ leg. on leg.flight leg.leg (flat cuts_at legs) ≡ map bare (cuts_at leg)) ks
        → AllByRecursion (λ leg. steps_now mid leg ≡ cut_on wanted s leg) ks
    cut_each [] own = tt
    cut_each (k ∷ ks) own =
        (first.made k.flight k.leg ∙ ap (λ (ts : Steps). all_made (steps_now s k) ts) own.0 ∙ cut_made k, cut_each ks own.1)

    raises_here : (ks : List NamedLeg) → AllByRecursion (λ leg. steps_now mid leg ≡ cut_on wanted s leg) ks
        → AllByRecursion (λ leg. AllMay Raises 999 (λ k. 0) (steps_now mid leg) (map bare (raises_at leg))) ks
    raises_here [] cut = tt
    raises_here (k ∷ ks) cut = (
      subst (λ (x : Steps). AllMay Raises 999 (λ n. 0) x (map bare (raises_at k))) (sym cut.0)
          (bare_may Raises 999 (λ n. 0) (cut_on wanted s k) (raises_at k) (raises_both k).0),
      raises_here ks cut.1,
    )

    cut_all : AllByRecursion (λ leg. steps_now mid leg ≡ cut_on wanted s leg) legs
    cut_all = cut_each legs (on_each cuts_at legs apart)

    second : Walked Stands mid (flat raises_at legs)
    second =
        walk Stands no_seats Raises raise_walks mid (flat raises_at legs) first.good.0
        (flat_waits raises_at (λ (leg : NamedLeg). down_waits (cut_on wanted s leg) (reached_on wanted s leg) (raise_waits (wanted_on wanted leg) 999 (cut_on wanted s leg) (few_wanted leg) (cut_few leg))) legs)
        (at_each raises_at (λ (f l : ℕ) (ts : Steps). AllMay Raises 999 (no_seats f l) (ladder_at mid.grid f l) ts) (λ (f l : ℕ). tt) legs apart (raises_here legs cut_all))

    pub all_accepted : AreAccepted s (rows wanted s legs)
    all_accepted = accepted_more s (flat cuts_at legs) (flat raises_at legs) first.accepted second.accepted

    reach_each : (ks : List NamedLeg) → AllByRecursion (λ leg. steps_now mid leg ≡ cut_on wanted s leg) ks
        → AllByRecursion (λ leg. on leg.flight leg.leg (flat raises_at legs) ≡ map bare (raises_at leg)) ks
        → AllByRecursion (λ leg. steps_now (after_rows s (rows wanted s legs)) leg ≡ reached_on wanted s leg) ks
    reach_each [] cut own = tt
    reach_each (k ∷ ks) cut own = (
      ap (λ (x : State). steps_now x k) (after_more s (flat cuts_at legs) (flat raises_at legs))
          ∙ second.made k.flight k.leg
          ∙ ap (λ (ts : Steps). all_made (steps_now mid k) ts) own.0
          ∙ ap (λ (x : Steps). all_made x (map bare (raises_at k))) cut.0
          ∙ bare_made (cut_on wanted s k) (raises_at k) ∙ (raises_both k).1,
      reach_each ks cut.1 own.1,
    )

    pub all_reached : AllByRecursion (λ leg. steps_now (after_rows s (rows wanted s legs)) leg ≡ reached_on wanted s leg) legs
    all_reached = reach_each legs cut_all (on_each raises_at legs apart)
