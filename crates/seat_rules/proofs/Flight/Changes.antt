-- What is set on a leg: what a flight sees of it.
use Rattle.std.proofs.Common.{◌≡◌, ◌≢◌, ◌==◌, ◌&&◌, ℕ, Bool, true, false, nat_le, List, arith, refl, ap, sym, subst, ◌∙◌}
use Rattle.seat_rules.proofs.Common.{Ladders, Steps, legs_of, Booking, Change, SaleChange, held, state_of, changed_by, may_change, sales_by, may_set_sale, may_confirm, NoneFits, AgreeOn, NoneElseFits}
use Rattle.std.proofs.lemmas.Bool.Decides.{nat_tests}
use Rattle.seat_nesting.specs.Nesting.{ByClass, steps_at}
use Rattle.seat_nesting.specs.declared.setting.Setting.{Setting}
use Rattle.seat_nesting.specs.declared.setting.Setting.TheVariants.{ToLimit, ToSale}
use Rattle.seat_nesting.specs.Changing.{has_named, ladders_set, leg_set, may_have}
use Rattle.seat_nesting.proofs.LimitChanges.{legs_set, legs_other_set}
use Rattle.seat_rules.proofs.Passes.Quiet.{all_map}
use Rattle.seat_rules.proofs.Flight.View.{view, legs_agree, held_view, may_confirm_agree}

-- what is set on another flight leaves the flight's ladders
agree_beside : (grid : Ladders) (f flight leg : ℕ) (setting : Setting) → (flight == f) ≡ false
    → AgreeOn f (ladders_set grid flight leg setting) grid
agree_beside grid f flight leg setting away =
    let other : f ≢ flight = grind (arith, nat_tests) in
    legs_other_set grid flight leg setting f other

-- what is set on any flight changes both alike
agree_alike : (g h : Ladders) (f flight leg : ℕ) (setting : Setting) → AgreeOn f g h
    → AgreeOn f (ladders_set g flight leg setting) (ladders_set h flight leg setting)
agree_alike g h f flight leg setting a = cases (flight == f) refl where
  here : flight ≡ f → AgreeOn flight (ladders_set g flight leg setting) (ladders_set h flight leg setting)
  here e =
      legs_set g flight leg setting
      ∙ (ap (λ (legs : List Steps). leg_set legs leg setting) (legs_agree g h f flight a e) ∙ sym (legs_set h flight leg setting))

  cases : (t : Bool) → (flight == f) ≡ t → AgreeOn f (ladders_set g flight leg setting) (ladders_set h flight leg setting)
  cases true e =
      let same : flight ≡ f = grind (arith, nat_tests) in
      let P : ℕ → Type 0 = λ x. AgreeOn x (ladders_set g flight leg setting) (ladders_set h flight leg setting) in
      subst P same (here same)
  cases false e = agree_beside g f flight leg setting e ∙ (a ∙ sym (agree_beside h f flight leg setting e))

-- so it is of a change, and of a class closed or opened
pub agree_away : (grid : Ladders) (f : ℕ) (c : Change) → (c.flight == f) ≡ false → AgreeOn f (changed_by grid c) grid
agree_away grid f c away = agree_beside grid f c.flight c.leg (ToLimit c.class c.limit c.wait) away

pub agree_changed : (g h : Ladders) (f : ℕ) (c : Change) → AgreeOn f g h → AgreeOn f (changed_by g c) (changed_by h c)
agree_changed g h f c a = agree_alike g h f c.flight c.leg (ToLimit c.class c.limit c.wait) a

pub agree_unsold : (grid : Ladders) (f : ℕ) (c : SaleChange) → (c.flight == f) ≡ false → AgreeOn f (sales_by grid c) grid
agree_unsold grid f c away = agree_beside grid f c.flight c.leg (ToSale c.class c.closed) away

pub agree_sales : (g h : Ladders) (f : ℕ) (c : SaleChange) → AgreeOn f g h → AgreeOn f (sales_by g c) (sales_by h c)
agree_sales g h f c a = agree_alike g h f c.flight c.leg (ToSale c.class c.closed) a

-- whether a change of the flight may be made is the same over both
pub may_change_over : (g h : Ladders) (anew : ℕ → ℕ) (f : ℕ) (bs : List Booking) (c : Change) → AgreeOn f g h
    → c.flight ≡ f → may_change (state_of h (view anew f bs)) c ≡ may_change (state_of g bs) c
may_change_over g h anew f bs c a e =
    ap (λ (legs : List Steps). test legs (held (view anew f bs) c.flight c.leg)) (sym (legs_agree g h f c.flight a e))
    ∙ ap (test (legs_of g c.flight)) seats
  where
    test : List Steps → ByClass → Bool
    test legs seats = nat_le c.wait 999 && may_have (steps_at legs c.leg) seats c.class c.limit

    at : ℕ → Type 0
    at x = (k : ℕ) → held (view anew f bs) x c.leg k ≡ held bs x c.leg k

    seats : held (view anew f bs) c.flight c.leg ≡ held bs c.flight c.leg
    seats = λ i k. subst at (sym e) (held_view anew f bs c.leg) k i

-- and whether a class of the flight may be closed or opened
pub may_set_over : (g h : Ladders) (f : ℕ) (bs cs : List Booking) (c : SaleChange) → AgreeOn f g h → c.flight ≡ f
    → may_set_sale (state_of h cs) c ≡ may_set_sale (state_of g bs) c
may_set_over g h f bs cs c a e =
    ap (λ (legs : List Steps). has_named (steps_at legs c.leg) c.class) (sym (legs_agree g h f c.flight a e))

-- where no waiting booking fits, none of another flight fits after something is set on the flight
else_set : (grid : Ladders) (f : ℕ) (bookings : List Booking) (flight leg : ℕ) (setting : Setting) → NoneFits grid bookings
    → (flight == f) ≡ true → NoneElseFits f (ladders_set grid flight leg setting) bookings bookings
else_set grid f bookings flight leg setting a here =
    let new : Ladders = ladders_set grid flight leg setting in
    all_map (λ x. may_confirm grid bookings x ≡ false) (λ x. (x.place.flight == f) ≡ false → may_confirm new bookings x ≡ false) bookings
    (λ x no away. may_confirm_agree new grid x.place.flight bookings x (agree_beside grid x.place.flight flight leg setting (apart flight x.place.flight here away)) (itself x.place.flight) ∙ no) a
  where
    apart : (x y : ℕ) → (x == f) ≡ true → (y == f) ≡ false → (x == y) ≡ false
    apart x y e h = grind (arith, nat_tests)

    itself : (x : ℕ) → (x == x) ≡ true
    itself x = grind (arith, nat_tests)

pub else_changed : (grid : Ladders) (f : ℕ) (bookings : List Booking) (c : Change) → NoneFits grid bookings
    → (c.flight == f) ≡ true → NoneElseFits f (changed_by grid c) bookings bookings
else_changed grid f bookings c a here = else_set grid f bookings c.flight c.leg (ToLimit c.class c.limit c.wait) a here

pub else_sales : (grid : Ladders) (f : ℕ) (bookings : List Booking) (c : SaleChange) → NoneFits grid bookings
    → (c.flight == f) ≡ true → NoneElseFits f (sales_by grid c) bookings bookings
else_sales grid f bookings c a here = else_set grid f bookings c.flight c.leg (ToSale c.class c.closed) a here
