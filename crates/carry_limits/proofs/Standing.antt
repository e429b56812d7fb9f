-- The limits of a leg are those of a ladder, or none, whatever lines set of them.
use Rattle.std.proofs.Common.{◌≡◌, ℕ, ◌≤◌, true, List, [], ◌∷◌, arith, refl, sym, subst}
use Rattle.std.specs.List.{AllByRecursion}
use Rattle.seat_journal.specs.declared.entry.Change.{Change}
use Rattle.seat_journal.specs.declared.entry.Entry.{Entry}
use Rattle.seat_journal.specs.declared.entry.SaleChange.{SaleChange}
use Rattle.seat_journal.specs.declared.entry.Work.{Work}
use Rattle.seat_journal.specs.declared.entry.Work.TheVariants.{Limit, Sale}
use Rattle.seat_nesting.specs.Nesting.{IsLadder, IsLegLadder, Ladders, Steps, ladder_at}
use Rattle.seat_nesting.specs.Changing.{with_limit, with_sale}
use Rattle.seat_nesting.specs.declared.ladder.Step.{Step}
use Rattle.seat_nesting.specs.declared.setting.Setting.TheVariants.{ToSale}
use Rattle.seat_nesting.proofs.LimitChanges.{can_parts, each_ladder, each_ladder_set, leg_ladder_with}
use Rattle.seat_nesting.proofs.MarkChanges.{leg_ladder_marks, sale_marks}
use Rattle.seat_rules.specs.Bookings.{held}
use Rattle.seat_rules.specs.Inventory.{Inventory, state_now}
use Rattle.seat_rules.specs.Journal.{replay}
use Rattle.seat_rules.specs.Sequential.{State, answer, changed_by, may_change, may_set_sale, sales_by, set, state_of}
use Rattle.seat_rules.proofs.History.Lines.{each_replay}
use Rattle.seat_rules.proofs.Step.Outcomes.{each_grid}
use Rattle.limit_changes.proofs.Arriving.{bounded_waits}

pub leg_ladder_of : (steps at : Steps) → IsLadder steps → steps ≡ at → IsLegLadder at
leg_ladder_of steps at is same =
    subst (λ (l : Steps). IsLegLadder l) same (record { most = is.most; distinct = is.distinct; not_rising = is.not_rising; bounded = is.bounded })

pub leg_ladder_none : (at : Steps) → at ≡ [] → IsLegLadder at
leg_ladder_none at none =
    subst (λ (l : Steps). IsLegLadder l) (sym none) (record { most = omega arith; distinct = tt; not_rising = tt; bounded = tt })

-- ---- one leg

module _ (flight leg : ℕ) where
  stays_answer : (s : State) (n : ℕ) (w : Work) → IsLegLadder (ladder_at s.grid flight leg)
      → IsLegLadder (ladder_at (answer s n w).state.grid flight leg)
  stays_answer s n w is = each_grid (λ (g : Ladders). IsLegLadder (ladder_at g flight leg)) s n w is set_one shut_one where
    -- what stands on the leg
    Here : ℕ → ℕ → Steps → Type 0
    Here f l steps = f ≡ flight → l ≡ leg → IsLegLadder steps

    all : (f l : ℕ) → Here f l (ladder_at s.grid f l)
    all f l e g =
        subst (λ (x : ℕ). IsLegLadder (ladder_at s.grid x l)) (sym e) (subst (λ (x : ℕ). IsLegLadder (ladder_at s.grid flight x)) (sym g) is)

    set_one : (c : Change) → w ≡ Limit c → may_change s c ≡ true → IsLegLadder (ladder_at (changed_by s.grid c) flight leg)
    set_one c is_c may =
        let p = can_parts s.grid (held s.bookings) c.flight c.leg c.class c.limit c.wait may in
        each_ladder Here s.grid c.flight c.leg c.class c.limit c.wait all
        (λ (e : c.flight ≡ flight) (g : c.leg ≡ leg). leg_ladder_with (ladder_at s.grid c.flight c.leg) (held s.bookings c.flight c.leg) c.class c.limit c.wait (all c.flight c.leg e g) p.1 p.0)
        flight leg refl refl

    shut_one : (c : SaleChange) → w ≡ Sale c → may_set_sale s c ≡ true → IsLegLadder (ladder_at (sales_by s.grid c) flight leg)
    shut_one c is_c may =
        let steps : Steps = ladder_at s.grid c.flight c.leg in
        let shut : Steps = with_sale steps c.class c.closed in
        each_ladder_set Here s.grid c.flight c.leg (ToSale c.class c.closed) all
        (λ (e : c.flight ≡ flight) (g : c.leg ≡ leg). subst (λ (l : Steps). IsLegLadder l) (sym (sale_marks steps c.class c.closed)) (leg_ladder_marks steps shut (all c.flight c.leg e g)))
        flight leg refl refl

  pub stays_set : (s : State) (c : Change) → IsLegLadder (ladder_at s.grid flight leg) → IsLegLadder (ladder_at (set s c).state.grid flight leg)
  stays_set s c is = stays_answer s 0 (Limit c) is

  pub stays_replay : (grid : Ladders) (journal : List Entry) → IsLegLadder (ladder_at grid flight leg)
      → IsLegLadder (ladder_at (replay grid journal).grid flight leg)
  stays_replay grid journal is =
      each_replay (λ (s : State). IsLegLadder (ladder_at s.grid flight leg)) stays_answer (state_of grid []) is journal

-- ---- its waits

pub waits_now : (i : Inventory) (flight leg : ℕ) (now : Steps) → now ≡ ladder_at (state_now i).grid flight leg
    → IsLegLadder (ladder_at i.grid flight leg) → AllByRecursion (λ s. s.wait ≤ 999) now
waits_now i flight leg now is ladder =
    subst (λ (l : Steps). AllByRecursion (λ s. s.wait ≤ 999) l) (sym is)
    (bounded_waits (ladder_at (state_now i).grid flight leg) (stays_replay flight leg i.grid i.journal ladder).bounded)
