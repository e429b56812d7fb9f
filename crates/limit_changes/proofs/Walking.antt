-- Changes of several legs, one behind the other.
use Rattle.std.proofs.Common.{◌≡◌, ◌≢◌, ◌==◌, ◌&&◌, ℕ, ◌≤◌, Bool, true, false, cond, if◌then◌else◌, nat_le, List, [], ◌∷◌, ◌++◌, map, Option, Some, IfSome, codes, arith, refl, sym, ap, subst, ◌∙◌}
use Rattle.std.specs.List.{AllByRecursion, flat_map}
use Rattle.std.proofs.lemmas.Bool.{and_parts, eqb-true, eqb-false, eq-eqb, le-leb, leb-true}
use Rattle.std.proofs.lemmas.List.{append-nil}
use Rattle.seat_journal.specs.declared.entry.Change.{Change}
use Rattle.seat_journal.specs.declared.entry.Work.TheVariants.{Limit}
use Rattle.seat_nesting.specs.Nesting.{ByClass, HasLadders, IsWithin, Ladders, Steps, Table, held_from, ladder_at}
use Rattle.seat_nesting.specs.Changing.{may_have_below, limits_with, step_of, top_of, with_limit}
use Rattle.seat_nesting.specs.declared.ladder.Step.{Step}
use Rattle.seat_nesting.proofs.LimitChanges.{ladder_at_with, ladder_other_flight, ladder_other_leg}
use Rattle.seat_rules.specs.Bookings.{held}
use Rattle.seat_rules.specs.Inventory.{KeepsLimits}
use Rattle.seat_rules.specs.Sequential.{NoneFits, Outcome, State, changed_by, may_change, pass, passed, refused, set}
use Rattle.seat_rules.specs.declared.booking.Booking.{Booking}
use Rattle.seat_rules.proofs.Passes.Quiet.{quiet_answer}
use Rattle.seat_rules.proofs.Step.Limits.{keeps_answer, ladders_answer}
use Rattle.limit_changes.specs.Laws.{AreAccepted, after_row, after_rows, change_in}
use Rattle.limit_changes.specs.Rows.{row_of}
use Rattle.limit_changes.specs.declared.legs.NamedLeg.{NamedLeg}
use Rattle.limit_changes.specs.declared.rows.Row.{Row}
use Rattle.limit_changes.proofs.Quiet.{pass_cut}
use Rattle.limit_changes.proofs.Ranks.{AllMay, Cuts, Raises, all_made}

-- ---- the changes of one leg among all

abbrev pub bare : Step → Step
bare t = record t { listed = false; closed = false }

abbrev pub step_in : Row → Step
step_in row = record { class = row.class; limit = row.limit; wait = row.wait; listed = false; closed = false }

abbrev pub is_at : ℕ → ℕ → NamedLeg → Bool
is_at f l leg = (leg.flight == f) && (leg.leg == l)

abbrev pub on : ℕ → ℕ → List Row → Steps
on f l [] = []
on f l (row ∷ more) = (if is_at f l row.leg then step_in row ∷ on f l more else on f l more)

itself : (leg : NamedLeg) → is_at leg.flight leg.leg leg ≡ true
itself leg = rw (eq-eqb leg.flight leg.flight refl, eq-eqb leg.leg leg.leg refl) refl

on_more : (f l : ℕ) (xs ys : List Row) → on f l (xs ++ ys) ≡ on f l xs ++ on f l ys
on_more f l [] ys = refl
on_more f l (x ∷ xs) ys = cases (is_at f l x.leg) (on_more f l xs ys) where
  cases : (b : Bool) → on f l (xs ++ ys) ≡ on f l xs ++ on f l ys
      → (if b then step_in x ∷ on f l (xs ++ ys) else on f l (xs ++ ys))
      ≡ (if b then step_in x ∷ on f l xs else on f l xs) ++ on f l ys
  cases true e = ap (λ (s : Steps). step_in x ∷ s) e
  cases false e = e

on_here : (f l : ℕ) (leg : NamedLeg) (ts : Steps) → is_at f l leg ≡ true → on f l (map (row_of leg) ts) ≡ map bare ts
on_here f l leg [] e = refl
on_here f l leg (t ∷ ts) e =
    ap (λ (b : Bool). if b then bare t ∷ on f l (map (row_of leg) ts) else on f l (map (row_of leg) ts)) e
    ∙ ap (λ (s : Steps). bare t ∷ s) (on_here f l leg ts e)

on_away : (f l : ℕ) (leg : NamedLeg) (ts : Steps) → is_at f l leg ≡ false → on f l (map (row_of leg) ts) ≡ []
on_away f l leg [] e = refl
on_away f l leg (t ∷ ts) e =
    ap (λ (b : Bool). if b then bare t ∷ on f l (map (row_of leg) ts) else on f l (map (row_of leg) ts)) e ∙ on_away f l leg ts e

untrue : false ≡ true → ⊥
untrue z = cc

-- no leg stands twice
abbrev pub AreApart : List NamedLeg → Type 0
AreApart [] = Unit {0}
AreApart (k ∷ ks) = AllByRecursion (λ x. is_at k.flight k.leg x ≡ false) ks × AreApart ks

module _ (g : NamedLeg → Steps) where
  -- the changes of all legs
  abbrev pub flat : List NamedLeg → List Row
  flat legs = flat_map (λ leg. map (row_of leg) (g leg)) legs

  all_away : (f l : ℕ) (legs : List NamedLeg) → AllByRecursion (λ x. is_at f l x ≡ false) legs → on f l (flat legs) ≡ []
  all_away f l [] away = refl
  all_away f l (k ∷ ks) away =
      on_more f l (map (row_of k) (g k)) (flat ks) ∙ ap (λ (s : Steps). s ++ on f l (flat ks)) (on_away f l k (g k) away.0) ∙ all_away f l ks away.1

  here_alone : (k : NamedLeg) (ks : List NamedLeg) → AllByRecursion (λ x. is_at k.flight k.leg x ≡ false) ks
      → on k.flight k.leg (flat (k ∷ ks)) ≡ map bare (g k)
  here_alone k ks away =
      on_more k.flight k.leg (map (row_of k) (g k)) (flat ks)
      ∙ ap (λ (s : Steps). s ++ on k.flight k.leg (flat ks)) (on_here k.flight k.leg k (g k) (itself k))
      ∙ ap (λ (s : Steps). map bare (g k) ++ s) (all_away k.flight k.leg ks away) ∙ append-nil (map bare (g k))

  behind : (f l : ℕ) (k : NamedLeg) (ks : List NamedLeg) → is_at f l k ≡ false → on f l (flat (k ∷ ks)) ≡ on f l (flat ks)
  behind f l k ks e =
      on_more f l (map (row_of k) (g k)) (flat ks) ∙ ap (λ (s : Steps). s ++ on f l (flat ks)) (on_away f l k (g k) e)

  -- what holds of no change, and of those of each leg, holds of those on any leg
  pub at_each : (P : ℕ → ℕ → Steps → Type 0) → ((f l : ℕ) → P f l []) → (legs : List NamedLeg) → AreApart legs
      → AllByRecursion (λ leg. P leg.flight leg.leg (map bare (g leg))) legs → (f l : ℕ) → P f l (on f l (flat legs))
  at_each P none [] apart all f l = none f l
  at_each P none (k ∷ ks) apart all f l = cases (k.flight == f) (k.leg == l) refl refl (at_each P none ks apart.1 all.1 f l) where
    cases : (b c : Bool) → (k.flight == f) ≡ b → (k.leg == l) ≡ c → P f l (on f l (flat ks)) → P f l (on f l (flat (k ∷ ks)))
    cases true true e h rest =
        subst (λ (x : ℕ). P x l (on x l (flat (k ∷ ks)))) (eqb-true k.flight f e)
        (subst (λ (x : ℕ). P k.flight x (on k.flight x (flat (k ∷ ks)))) (eqb-true k.leg l h)
        (subst (λ (s : Steps). P k.flight k.leg s) (sym (here_alone k ks apart.0)) all.0))
    cases true false e h rest = subst (λ (s : Steps). P f l s) (sym (behind f l k ks (rw (e, h) refl))) rest
    cases false c e h rest = subst (λ (s : Steps). P f l s) (sym (behind f l k ks (rw e refl))) rest

  -- the changes on each leg are its own
  pub on_each : (legs : List NamedLeg) → AreApart legs → AllByRecursion (λ leg. on leg.flight leg.leg (flat legs) ≡ map bare (g leg)) legs
  on_each [] apart = tt
  on_each (k ∷ ks) apart = (here_alone k ks apart.0, others ks apart.0 (on_each ks apart.1)) where
    turned : (x : NamedLeg) → is_at k.flight k.leg x ≡ false → is_at x.flight x.leg k ≡ false
    turned x e = cases (is_at x.flight x.leg k) refl where
      cases : (b : Bool) → is_at x.flight x.leg k ≡ b → is_at x.flight x.leg k ≡ false
      cases false h = h
      cases true h =
          let p = and_parts (k.flight == x.flight) (k.leg == x.leg) h in
          let same : is_at k.flight k.leg x ≡ true =
          rw (eq-eqb x.flight k.flight (sym (eqb-true k.flight x.flight p.0)), eq-eqb x.leg k.leg (sym (eqb-true k.leg x.leg p.1))) refl in
          absurd (untrue (sym e ∙ same))

    others : (xs : List NamedLeg) → AllByRecursion (λ x. is_at k.flight k.leg x ≡ false) xs
        → AllByRecursion (λ leg. on leg.flight leg.leg (flat ks) ≡ map bare (g leg)) xs
        → AllByRecursion (λ leg. on leg.flight leg.leg (flat (k ∷ ks)) ≡ map bare (g leg)) xs
    others [] away is = tt
    others (x ∷ xs) away is = (behind x.flight x.leg k ks (turned x away.0) ∙ is.0, others xs away.1 is.1)

-- marks are no matter
pub bare_may : (R : ℕ → ℕ → Type 0) (above : ℕ) (seats : ByClass) (steps ts : Steps) → AllMay R above seats steps ts
    → AllMay R above seats steps (map bare ts)
bare_may R above seats steps [] may = tt
bare_may R above seats steps (t ∷ ts) may = (may.0, may.1, bare_may R above seats (with_limit steps t.class t.limit t.wait) ts may.2)

pub bare_made : (steps ts : Steps) → all_made steps (map bare ts) ≡ all_made steps ts
bare_made steps [] = refl
bare_made steps (t ∷ ts) = bare_made (with_limit steps t.class t.limit t.wait) ts

-- ---- what stands after any change

pub record Stands (s : State) : Type 0 where
  pub ladders : HasLadders s.grid
  pub within : KeepsLimits s.grid s.bookings
  pub quiet : NoneFits s.grid s.bookings

stands_on : (s : State) (c : Change) → Stands s → Stands (set s c).state
stands_on s c is = record {
  ladders = ladders_answer s 0 (Limit c) is.ladders;
  within = keeps_answer s 0 (Limit c) is.ladders is.within;
  quiet = quiet_answer s 0 (Limit c) is.quiet;
}

-- a change that may be made is accepted, and sets the limit
set_made : (s : State) (c : Change) → may_change s c ≡ true → set s c ≡ passed (changed_by s.grid c) s.bookings (codes "OK") 0
set_made s c may = ap (λ (b : Bool). if b then passed (changed_by s.grid c) s.bookings (codes "OK") 0 else refused s (codes "NO")) may

-- ---- one behind the other

-- what is known of the states, by which a change that fits the ladder of its leg may be made
pub record Walks (Good : State → Type 0) (T : Table) (R : ℕ → ℕ → Type 0) : Type 0 where
  pub may : (s : State) (c : Change) → Good s → c.wait ≤ 999
      → may_have_below 999 (ladder_at s.grid c.flight c.leg) (T c.flight c.leg) c.class c.limit ≡ true
      → IfSome (step_of (ladder_at s.grid c.flight c.leg) c.class) (λ x. R x.limit c.limit) → may_change s c ≡ true
  pub next : (s : State) (c : Change) → Good s → may_change s c ≡ true
      → IfSome (step_of (ladder_at s.grid c.flight c.leg) c.class) (λ x. R x.limit c.limit) → Good (set s c).state

-- what is left of the changes may be made behind the first
rest_may : (T : Table) (R : ℕ → ℕ → Type 0) (grid : Ladders) (row : Row) (more : List Row) (f l : ℕ)
    → AllMay R 999 (T f l) (ladder_at grid f l) (on f l (row ∷ more))
    → AllMay R 999 (T f l) (ladder_at (changed_by grid (change_in row)) f l) (on f l more)
rest_may T R grid row more f l may = cases (row.leg.flight == f) (row.leg.leg == l) refl refl may where
  new : Ladders
  new = changed_by grid (change_in row)

  cases : (b c : Bool) → (row.leg.flight == f) ≡ b → (row.leg.leg == l) ≡ c
      → AllMay R 999 (T f l) (ladder_at grid f l) (if b && c then step_in row ∷ on f l more else on f l more)
      → AllMay R 999 (T f l) (ladder_at new f l) (on f l more)
  cases true true e g all =
      let here : ladder_at new f l ≡ with_limit (ladder_at grid f l) row.class row.limit row.wait =
      subst (λ (x : ℕ). ladder_at new x l ≡ with_limit (ladder_at grid x l) row.class row.limit row.wait) (eqb-true row.leg.flight f e)
      (subst (λ (x : ℕ). ladder_at new row.leg.flight x ≡ with_limit (ladder_at grid row.leg.flight x) row.class row.limit row.wait) (eqb-true row.leg.leg l g)
      (ladder_at_with grid row.leg.flight row.leg.leg row.class row.limit row.wait)) in
      subst (λ (x : Steps). AllMay R 999 (T f l) x (on f l more)) (sym here) all.2
  cases true false e g all =
      let other : l ≢ row.leg.leg = λ (h : l ≡ row.leg.leg). eqb-false row.leg.leg l g (sym h) in
      let here : ladder_at new f l ≡ ladder_at grid f l =
      subst (λ (x : ℕ). ladder_at new x l ≡ ladder_at grid x l) (eqb-true row.leg.flight f e)
      (ladder_other_leg grid row.leg.flight row.leg.leg row.class row.limit row.wait l other) in
      subst (λ (x : Steps). AllMay R 999 (T f l) x (on f l more)) (sym here) all
  cases false c e g all =
      let other : f ≢ row.leg.flight = λ (h : f ≡ row.leg.flight). eqb-false row.leg.flight f e (sym h) in
      subst (λ (x : Steps). AllMay R 999 (T f l) x (on f l more))
      (sym (ladder_other_flight grid row.leg.flight row.leg.leg row.class row.limit row.wait f l other)) all

-- the same of what the ladders come to
made_on : (grid : Ladders) (row : Row) (more : List Row) (f l : ℕ)
    → all_made (ladder_at (changed_by grid (change_in row)) f l) (on f l more) ≡ all_made (ladder_at grid f l) (on f l (row ∷ more))
made_on grid row more f l = cases (row.leg.flight == f) (row.leg.leg == l) refl refl where
  new : Ladders
  new = changed_by grid (change_in row)

  cases : (b c : Bool) → (row.leg.flight == f) ≡ b → (row.leg.leg == l) ≡ c
      → all_made (ladder_at new f l) (on f l more)
      ≡ all_made (ladder_at grid f l) (if b && c then step_in row ∷ on f l more else on f l more)
  cases true true e g =
      ap (λ (x : Steps). all_made x (on f l more))
      (subst (λ (x : ℕ). ladder_at new x l ≡ with_limit (ladder_at grid x l) row.class row.limit row.wait) (eqb-true row.leg.flight f e)
      (subst (λ (x : ℕ). ladder_at new row.leg.flight x ≡ with_limit (ladder_at grid row.leg.flight x) row.class row.limit row.wait) (eqb-true row.leg.leg l g)
      (ladder_at_with grid row.leg.flight row.leg.leg row.class row.limit row.wait)))
  cases true false e g =
      let other : l ≢ row.leg.leg = λ (h : l ≡ row.leg.leg). eqb-false row.leg.leg l g (sym h) in
      ap (λ (x : Steps). all_made x (on f l more))
      (subst (λ (x : ℕ). ladder_at new x l ≡ ladder_at grid x l) (eqb-true row.leg.flight f e)
      (ladder_other_leg grid row.leg.flight row.leg.leg row.class row.limit row.wait l other))
  cases false c e g =
      let other : f ≢ row.leg.flight = λ (h : f ≡ row.leg.flight). eqb-false row.leg.flight f e (sym h) in
      ap (λ (x : Steps). all_made x (on f l more))
      (ladder_other_flight grid row.leg.flight row.leg.leg row.class row.limit row.wait f l other)

-- what a walk comes to
pub record Walked (Good : State → Type 0) (s : State) (rows : List Row) : Type 0 where
  pub accepted : AreAccepted s rows
  pub good : Good (after_rows s rows)
  pub made : (f l : ℕ) → ladder_at (after_rows s rows).grid f l ≡ all_made (ladder_at s.grid f l) (on f l rows)

pub walk : (Good : State → Type 0) (T : Table) (R : ℕ → ℕ → Type 0) → Walks Good T R → (s : State) (rows : List Row) → Good s
    → AllByRecursion (λ row. row.wait ≤ 999) rows
    → ((f l : ℕ) → AllMay R 999 (T f l) (ladder_at s.grid f l) (on f l rows)) → Walked Good s rows
walk Good T R is s [] good waits all = record { accepted = tt; good = good; made = λ f l. refl }
walk Good T R is s (row ∷ more) good waits all =
    let c : Change = change_in row in
    let here : AllMay R 999 (T c.flight c.leg) (ladder_at s.grid c.flight c.leg) (step_in row ∷ on c.flight c.leg more) =
    subst (λ (b : Bool). AllMay R 999 (T c.flight c.leg) (ladder_at s.grid c.flight c.leg)
    (if b then step_in row ∷ on c.flight c.leg more else on c.flight c.leg more)) (itself row.leg) (all c.flight c.leg) in
    let may : may_change s c ≡ true = is.may s c good waits.0 here.0 here.1 in
    let e : set s c ≡ passed (changed_by s.grid c) s.bookings (codes "OK") 0 = set_made s c may in
    let grid : (set s c).state.grid ≡ changed_by s.grid c = ap (λ (o : Outcome). o.state.grid) e in
    let next : Good (set s c).state = is.next s c good may here.1 in
    let rest = walk Good T R is (after_row s row) more next waits.1
    (λ (f l : ℕ). subst (λ (g : Ladders). AllMay R 999 (T f l) (ladder_at g f l) (on f l more)) (sym grid) (rest_may T R s.grid row more f l (all f l))) in
    record {
      accepted = (ap (λ (o : Outcome). o.reply) e, rest.accepted);
      good = rest.good;
      made = λ (f l : ℕ). rest.made f l ∙ ap (λ (g : Ladders). all_made (ladder_at g f l) (on f l more)) grid ∙ made_on s.grid row more f l;
    }

-- ---- cuts

abbrev pub Holds : List Booking → State → Type 0
Holds bookings s = Stands s × (s.bookings ≡ bookings)

pub cut_walks : (bookings : List Booking) → Walks (Holds bookings) (held bookings) Cuts
cut_walks bookings = record {
  may = λ (s : State) (c : Change) (is : Holds bookings s) (wait : c.wait ≤ 999)
      (may : may_have_below 999 (ladder_at s.grid c.flight c.leg) (held bookings c.flight c.leg) c.class c.limit ≡ true)
      (less : IfSome (step_of (ladder_at s.grid c.flight c.leg) c.class) (λ x. c.limit ≤ x.limit)).
      subst (λ (l : List Booking). (nat_le c.wait 999 && may_have_below 999 (ladder_at s.grid c.flight c.leg) (held l c.flight c.leg) c.class c.limit) ≡ true)
      (sym is.1) (rw (le-leb c.wait 999 wait, may) refl);
  next = λ (s : State) (c : Change) (is : Holds bookings s) (may : may_change s c ≡ true)
      (less : IfSome (step_of (ladder_at s.grid c.flight c.leg) c.class) (λ x. c.limit ≤ x.limit)). (
        stands_on s c is.0,
        ap (λ (o : Outcome). o.state.bookings) (set_made s c may)
            ∙ pass_cut s.grid s.bookings c.flight c.leg c.class c.limit c.wait is.0.quiet less ∙ is.1,
      );
}

-- ---- raises

abbrev pub no_seats : Table
no_seats f l k = 0

-- a limit that is raised where nothing was held may be raised where no more is held than was authorised
raise_held : (above : ℕ) (steps : Steps) (seats : ByClass) (class limit : ℕ)
    → may_have_below above steps (λ k. 0) class limit ≡ true → IfSome (step_of steps class) (λ x. x.limit ≤ limit)
    → IsWithin steps seats → may_have_below above steps seats class limit ≡ true
raise_held above [] seats class limit may up within = may
raise_held above (s ∷ lower) seats class limit may up within =
    cases (s.class == class) may up (λ (m : may_have_below s.limit lower (λ k. 0) class limit ≡ true) (u : IfSome (step_of lower class) (λ x. x.limit ≤ limit)). raise_held s.limit lower seats class limit m u within.1)
  where
    cases : (b : Bool)
        → cond b (nat_le limit above && nat_le (top_of lower) limit && nat_le (held_from (λ k. 0) (s ∷ lower)) limit)
        (may_have_below s.limit lower (λ k. 0) class limit) ≡ true
        → IfSome (cond b (Some s) (step_of lower class)) (λ x. x.limit ≤ limit)
        → (may_have_below s.limit lower (λ k. 0) class limit ≡ true → IfSome (step_of lower class) (λ x. x.limit ≤ limit)
        → may_have_below s.limit lower seats class limit ≡ true)
        → cond b (nat_le limit above && nat_le (top_of lower) limit && nat_le (held_from seats (s ∷ lower)) limit)
        (may_have_below s.limit lower seats class limit) ≡ true
    cases true m u below =
        let p = and_parts (nat_le limit above && nat_le (top_of lower) limit) (nat_le (held_from (λ k. 0) (s ∷ lower)) limit) m in
        let le : held_from seats (s ∷ lower) ≤ limit = omega (arith, within.0, u) in
        rw (p.0, le-leb (held_from seats (s ∷ lower)) limit le) refl
    cases false m u below = below m u

pub raise_walks : Walks Stands no_seats Raises
raise_walks = record {
  may = λ (s : State) (c : Change) (is : Stands s) (wait : c.wait ≤ 999)
      (may : may_have_below 999 (ladder_at s.grid c.flight c.leg) (no_seats c.flight c.leg) c.class c.limit ≡ true)
      (up : IfSome (step_of (ladder_at s.grid c.flight c.leg) c.class) (λ x. x.limit ≤ c.limit)).
      rw (le-leb c.wait 999 wait, raise_held 999 (ladder_at s.grid c.flight c.leg) (held s.bookings c.flight c.leg) c.class c.limit may up (is.within c.flight c.leg)) refl;
  next = λ (s : State) (c : Change) (is : Stands s) (may : may_change s c ≡ true)
      (up : IfSome (step_of (ladder_at s.grid c.flight c.leg) c.class) (λ x. x.limit ≤ c.limit)). stands_on s c is;
}
