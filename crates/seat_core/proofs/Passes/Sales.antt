-- A class that is closed or opened, and put back; and a closing leaves no more room, so nothing that waits fits.
use Rattle.std.proofs.Common.{◌≡◌, ◌==◌, ◌&&◌, ℕ, zero, suc, ◌+◌, ◌-◌, ◌<◌, ◌≤◌, Bool, true, false, cond, min, nat_le, Option, List, [], ◌∷◌, length, if◌then◌else◌, arith, refl, ap, sym, subst, ◌∙◌}
use Rattle.airline_base.specs.declared.place.Place.{Place}
use Rattle.seat_nesting.specs.declared.ladder.Step.{Step}
use Rattle.seat_nesting.specs.declared.setting.Setting.TheVariants.{ToSale}
use Rattle.seat_nesting.specs.Nesting.{Ladders, Steps, ByClass, Table, held_from, ladder_at, least, room, room_on}
use Rattle.seat_nesting.specs.Counting.{Counted, limits_of, table_of}
use Rattle.seat_nesting.specs.Changing.{has_sale, is_named, marks_with, with_sale, SetsMarks, SetsSale}
use Rattle.seat_nesting.proofs.LimitChanges.{each_ladder_set, ladder_at_set}
use Rattle.seat_nesting.proofs.MarkChanges.{length_sale, some_named}
use Rattle.seat_nesting.proofs.Rooms.{held_cons}
use Rattle.seat_nesting.proofs.SaleChanges.{held_sale, sales_back}
use Rattle.seat_journal.specs.declared.entry.SaleChange.{SaleChange}
use Rattle.seat_rules.specs.declared.booking.Booking.{Booking}
use Rattle.seat_rules.specs.Sequential.{sales_by}
use Rattle.seat_rules.specs.Tables.{advices_by}
use Rattle.seat_rules.proofs.Counters.Changes.{same_table}
use Rattle.seat_core.proofs.Passes.Lowered.{least_most, none_fits}

-- ---- a closing leaves no more room

closed_on : (steps : Steps) (which : Option ℕ) (seats : ByClass) (k : ℕ)
    → room_on (with_sale steps which true) seats k ≤ room_on steps seats k
closed_on [] which seats k = omega arith
closed_on (s ∷ lower) which seats k =
    of (is_named which s.class) (s.class == k) s.closed refl refl (closed_on lower which seats k)
  where
    here : ℕ
    here = s.limit - held_from seats (s ∷ lower)

    below : ℕ
    below = room_on (with_sale lower which true) seats k

    same : (t : Step) → t.class ≡ s.class
        → held_from seats (t ∷ with_sale lower which true) ≡ held_from seats (s ∷ lower)
    same t is = omega (arith, held_cons seats t (with_sale lower which true), held_cons seats s lower, held_sale seats lower which true, ap seats is)

    of : (b c d : Bool) → (s.class == k) ≡ c → s.closed ≡ d → below ≤ room_on lower seats k
        → room_on (cond b (record s { closed = true }) s ∷ with_sale lower which true) seats k
        ≤ cond c (cond d 0 here) (min here (room_on lower seats k))
    of true true d e g h = rw e (omega arith)
    of true false d e g h = rw (e, same (record s { closed = true }) refl) (omega (arith, h))
    of false true true e g h = rw (e, g) (omega arith)
    of false true false e g h = rw (e, g, same s refl) (omega arith)
    of false false d e g h = rw (e, same s refl) (omega (arith, h))

closed_room : (grid : Ladders) (t : Table) (flight leg : ℕ) (which : Option ℕ) (new : Ladders) (p : Place) (k : ℕ)
    → ((f l : ℕ) → room_on (ladder_at new f l) (t f l) k ≤ room_on (ladder_at grid f l) (t f l) k)
    → room new t p k ≤ room grid t p k
closed_room grid t flight leg which new p k each = of (nat_le p.from p.to) where
  of : (b : Bool)
      → cond b (least (λ l. room_on (ladder_at new p.flight l) (t p.flight l) k) p.from (p.to - p.from)) 0
      ≤ cond b (least (λ l. room_on (ladder_at grid p.flight l) (t p.flight l) k) p.from (p.to - p.from)) 0
  of true = least_most (λ l. room_on (ladder_at new p.flight l) (t p.flight l) k) (λ l. room_on (ladder_at grid p.flight l) (t p.flight l) k) p.from (p.to - p.from) (λ l. each p.flight l)
  of false = omega arith

closing : (grid : Ladders) (t : Table) (c : SaleChange) (closed : Bool) (k : ℕ) → c.closed ≡ closed → closed ≡ true
    → (f l : ℕ) → room_on (ladder_at (sales_by grid c) f l) (t f l) k ≤ room_on (ladder_at grid f l) (t f l) k
closing grid t c closed k is shut =
    each_ladder_set (λ f l s. room_on s (t f l) k ≤ room_on (ladder_at grid f l) (t f l) k) grid c.flight c.leg (ToSale c.class c.closed) (λ f l. omega arith)
    (let P : Bool → Type 0 = λ b. room_on (with_sale (ladder_at grid c.flight c.leg) c.class b) (t c.flight c.leg) k ≤ room_on (ladder_at grid c.flight c.leg) (t c.flight c.leg) k in
    subst P (sym (is ∙ shut)) (closed_on (ladder_at grid c.flight c.leg) c.class (t c.flight c.leg) k))

-- where nothing that waits fits, nothing does once a class is closed
pub none_shut : (grid : Ladders) (t : Table) (c : SaleChange) (queue : List Booking) → c.closed ≡ true
    → advices_by grid t queue ≡ [] → [] ≡ advices_by (sales_by grid c) t queue
none_shut grid t c queue shut none =
    sym (none_fits grid (sales_by grid c) t queue (λ p k. closed_room grid t c.flight c.leg c.class (sales_by grid c) p k (closing grid t c true k shut refl)) none)

-- ---- opened, and put back: below, `mid` has it, `after` is as `mid`, and `new` has the old marks again

pub ladder_there : (grid : Ladders) (flight leg : ℕ) (which : Option ℕ) → has_sale grid flight leg which ≡ true
    → 0 < length (ladder_at grid flight leg)
ladder_there grid flight leg which has = some_named (ladder_at grid flight leg) which has

pub marks_fit : (old mid after : Counted) (flight leg : ℕ) (which : Option ℕ) (closed : Bool)
    → has_sale (limits_of old) flight leg which ≡ true → SetsSale old mid flight leg which closed
    → limits_of after ≡ limits_of mid → 0 < length (ladder_at (limits_of after) flight leg)
marks_fit old mid after flight leg which closed has set limits =
    let some = ladder_there (limits_of old) flight leg which has in
    let ladder : ladder_at (limits_of after) flight leg ≡ with_sale (ladder_at (limits_of old) flight leg) which closed =
    ap (λ (g : Ladders). ladder_at g flight leg) (limits ∙ set.limits) ∙ ladder_at_set (limits_of old) flight leg (ToSale which closed) in
    let long = ap (λ (s : Steps). length s) ladder in
    omega (arith, some, long, length_sale (ladder_at (limits_of old) flight leg) which closed)

pub limits_put_back : (old mid after new : Counted) (flight leg : ℕ) (which : Option ℕ) (closed : Bool) (before : Steps)
    → before ≡ ladder_at (limits_of old) flight leg → SetsSale old mid flight leg which closed
    → limits_of after ≡ limits_of mid → SetsMarks after new flight leg before → limits_of new ≡ limits_of old
limits_put_back old mid after new flight leg which closed before is set limits back =
    back.limits ∙ (ap (λ (g : Ladders). marks_with g flight leg before) (limits ∙ set.limits)
    ∙ sales_back (limits_of old) flight leg which closed before is)

pub seats_put_back : (old mid after new : Counted) (flight leg : ℕ) (which : Option ℕ) (closed : Bool) (before : Steps)
    → SetsSale old mid flight leg which closed → table_of after ≡ table_of mid → SetsMarks after new flight leg before
    → table_of new ≡ table_of old
seats_put_back old mid after new flight leg which closed before set seats back =
    same_table (table_of new) (table_of after) back.seats ∙ (seats ∙ same_table (table_of mid) (table_of old) set.seats)
