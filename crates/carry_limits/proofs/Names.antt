-- The classes of a leg stay in their order, whatever lines set.
use Rattle.std.proofs.Common.{◌≡◌, ◌==◌, ℕ, Bool, true, false, if◌then◌else◌, List, [], ◌∷◌, Option, refl, ap, sym, subst, ◌∙◌}
use Rattle.seat_journal.specs.declared.entry.Change.{Change}
use Rattle.seat_journal.specs.declared.entry.Entry.{Entry}
use Rattle.seat_journal.specs.declared.entry.SaleChange.{SaleChange}
use Rattle.seat_journal.specs.declared.entry.Work.{Work}
use Rattle.seat_journal.specs.declared.entry.Work.TheVariants.{Limit, Sale}
use Rattle.seat_nesting.specs.Nesting.{Ladders, Steps, ladder_at}
use Rattle.seat_nesting.specs.Changing.{is_named, marked, with_limit, with_marks, with_sale}
use Rattle.seat_nesting.specs.declared.ladder.Step.{Step}
use Rattle.seat_nesting.specs.declared.setting.Setting.TheVariants.{ToSale}
use Rattle.seat_nesting.proofs.LimitChanges.{each_ladder, each_ladder_set}
use Rattle.seat_rules.specs.Journal.{replay}
use Rattle.seat_rules.specs.Sequential.{State, answer, changed_by, may_change, may_set_sale, sales_by, state_of}
use Rattle.seat_rules.proofs.History.Lines.{each_replay}
use Rattle.seat_rules.proofs.Step.Outcomes.{each_grid}

-- the same classes in the same order, each listed or not alike
abbrev pub SameNames : Steps → Steps → Type 0
SameNames [] [] = Unit {0}
SameNames [] (t ∷ now) = ⊥
SameNames (s ∷ file) [] = ⊥
SameNames (s ∷ file) (t ∷ now) = (t.class ≡ s.class) × (t.listed ≡ s.listed) × SameNames file now

names_self : (steps : Steps) → SameNames steps steps
names_self [] = tt
names_self (s ∷ lower) = (refl, refl, names_self lower)

names_limit : (file now : Steps) (class limit wait : ℕ) → SameNames file now → SameNames file (with_limit now class limit wait)
names_limit [] [] class limit wait same = tt
names_limit [] (t ∷ now) class limit wait same = absurd same
names_limit (s ∷ file) [] class limit wait same = absurd same
names_limit (s ∷ file) (t ∷ now) class limit wait same = by (t.class == class) refl (names_limit file now class limit wait same.2) where
  by : (b : Bool) → (t.class == class) ≡ b → SameNames file (with_limit now class limit wait)
      → SameNames (s ∷ file) (with_limit (t ∷ now) class limit wait)
  by true e rest = rw e (same.0, same.1, same.2)
  by false e rest = rw e (same.0, same.1, rest)

names_sale : (file now : Steps) (which : Option ℕ) (closed : Bool) → SameNames file now → SameNames file (with_sale now which closed)
names_sale [] [] which closed same = tt
names_sale [] (t ∷ now) which closed same = absurd same
names_sale (s ∷ file) [] which closed same = absurd same
names_sale (s ∷ file) (t ∷ now) which closed same = by (is_named which t.class) refl (names_sale file now which closed same.2) where
  by : (b : Bool) → is_named which t.class ≡ b → SameNames file (with_sale now which closed) → SameNames (s ∷ file) (with_sale (t ∷ now) which closed)
  by true e rest = rw e (same.0, same.1, rest)
  by false e rest = rw e (same.0, same.1, rest)

module _ (flight leg : ℕ) (file : Steps) where
  names_answer : (s : State) (n : ℕ) (w : Work) → SameNames file (ladder_at s.grid flight leg)
      → SameNames file (ladder_at (answer s n w).state.grid flight leg)
  names_answer s n w is = each_grid (λ (g : Ladders). SameNames file (ladder_at g flight leg)) s n w is set_one shut_one where
    Here : ℕ → ℕ → Steps → Type 0
    Here f l steps = f ≡ flight → l ≡ leg → SameNames file steps

    all : (f l : ℕ) → Here f l (ladder_at s.grid f l)
    all f l e g =
        subst (λ (x : ℕ). SameNames file (ladder_at s.grid x l)) (sym e) (subst (λ (x : ℕ). SameNames file (ladder_at s.grid flight x)) (sym g) is)

    set_one : (c : Change) → w ≡ Limit c → may_change s c ≡ true → SameNames file (ladder_at (changed_by s.grid c) flight leg)
    set_one c is_c may =
        each_ladder Here s.grid c.flight c.leg c.class c.limit c.wait all
        (λ (e : c.flight ≡ flight) (g : c.leg ≡ leg). names_limit file (ladder_at s.grid c.flight c.leg) c.class c.limit c.wait (all c.flight c.leg e g))
        flight leg refl refl

    shut_one : (c : SaleChange) → w ≡ Sale c → may_set_sale s c ≡ true → SameNames file (ladder_at (sales_by s.grid c) flight leg)
    shut_one c is_c may =
        each_ladder_set Here s.grid c.flight c.leg (ToSale c.class c.closed) all
        (λ (e : c.flight ≡ flight) (g : c.leg ≡ leg). names_sale file (ladder_at s.grid c.flight c.leg) c.class c.closed (all c.flight c.leg e g))
        flight leg refl refl

pub same_names : (grid : Ladders) (journal : List Entry) (flight leg : ℕ)
    → SameNames (ladder_at grid flight leg) (ladder_at (replay grid journal).grid flight leg)
same_names grid journal flight leg =
    each_replay (λ (s : State). SameNames (ladder_at grid flight leg) (ladder_at s.grid flight leg)) (names_answer flight leg (ladder_at grid flight leg))
    (state_of grid []) (names_self (ladder_at grid flight leg)) journal

-- ---- a closing leaves limits as they are

-- under the marks of others these are those
abbrev pub IsUnder : Steps → Steps → Type 0
IsUnder now steps = with_marks steps now ≡ now

under_more : (t : Step) (now : Steps) (s : Step) (lower : Steps) (which : Option ℕ) (closed : Bool) → record s { closed = t.closed } ≡ t
    → with_marks (with_sale lower which closed) now ≡ now → IsUnder (t ∷ now) (with_sale (s ∷ lower) which closed)
under_more t now s lower which closed head below = by (is_named which s.class) refl where
  by : (b : Bool) → is_named which s.class ≡ b → IsUnder (t ∷ now) (with_sale (s ∷ lower) which closed)
  by true e = rw e (ap (λ (x : Step). x ∷ with_marks (with_sale lower which closed) now) head ∙ ap (λ (l : Steps). t ∷ l) below)
  by false e = rw e (ap (λ (x : Step). x ∷ with_marks (with_sale lower which closed) now) head ∙ ap (λ (l : Steps). t ∷ l) below)

under_sale : (now steps : Steps) (which : Option ℕ) (closed : Bool) → IsUnder now steps → IsUnder now (with_sale steps which closed)
under_sale now [] which closed is = is
under_sale [] (s ∷ lower) which closed is = absurd cc
under_sale (t ∷ now) (s ∷ lower) which closed is =
    let head : record s { closed = t.closed } ≡ t = cc in
    let rest : with_marks lower now ≡ now = cc in
    under_more t now s lower which closed head (under_sale now lower which closed rest)

-- a class that is closed on a leg leaves each leg's limits
pub under_closed : (flight leg : ℕ) (now : Steps) (s : State) (n : ℕ) (c : SaleChange) → IsUnder now (ladder_at s.grid flight leg)
    → IsUnder now (ladder_at (answer s n (Sale c)).state.grid flight leg)
under_closed flight leg now s n c is = each_grid (λ (g : Ladders). IsUnder now (ladder_at g flight leg)) s n (Sale c) is set_one shut_one where
  Here : ℕ → ℕ → Steps → Type 0
  Here f l steps = f ≡ flight → l ≡ leg → IsUnder now steps

  all : (f l : ℕ) → Here f l (ladder_at s.grid f l)
  all f l e g = subst (λ (x : ℕ). IsUnder now (ladder_at s.grid x l)) (sym e) (subst (λ (x : ℕ). IsUnder now (ladder_at s.grid flight x)) (sym g) is)

  set_one : (d : Change) → Sale c ≡ Limit d → may_change s d ≡ true → IsUnder now (ladder_at (changed_by s.grid d) flight leg)
  set_one d is_d may = absurd cc

  shut_one : (d : SaleChange) → Sale c ≡ Sale d → may_set_sale s d ≡ true → IsUnder now (ladder_at (sales_by s.grid d) flight leg)
  shut_one d is_d may =
      each_ladder_set Here s.grid d.flight d.leg (ToSale d.class d.closed) all
      (λ (e : d.flight ≡ flight) (g : d.leg ≡ leg). under_sale now (ladder_at s.grid d.flight d.leg) d.class d.closed (all d.flight d.leg e g))
      flight leg refl refl
