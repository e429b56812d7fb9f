-- Bookings are put into the lists of their flights.
use Rattle.std.proofs.Common.{◌≡◌, ◌==◌, ℕ, ◌+◌, ◌<◌, ◌≤◌, Bool, true, false, List, [], ◌∷◌, ◌++◌, length, map, take, get_or, replicate, set, arith, if◌then◌else◌, refl, sym, ap, subst, ◌∙◌, append-nil}
use Rattle.std.specs.List.{filter}
use Rattle.std.proofs.lemmas.Bool.{eqb-true, eq-eqb, ne_eqb}
use Rattle.std.proofs.lemmas.List.{get_or_default, get_or-replicate, get_or-set_same, get_or-set_other, length-replicate, length-set, map_more, replicate-append-replicate, take_all}
use Rattle.std.proofs.lemmas.List.Elements.{filter-append}
use Rattle.seat_rules.specs.Bookings.{held, waiting}
use Rattle.seat_rules.specs.Flights.{bookings_on}
use Rattle.seat_rules.specs.declared.booking.Booking.{Booking}
use Rattle.seat_rules.proofs.Flight.View.{bookings_view, held_view, waiting_view}
use Rattle.seat_carrying.specs.Owned.{bookings_of}
use Rattle.seat_carrying.specs.declared.owned.Owned.{Owned}
use Rattle.carry_limits.specs.ByFlight.{Adds, IsByFlight, Lists, list_at}

pub none_more : (lists pushed : Lists) (i : ℕ) → lists ≡ replicate i [] → pushed ≡ lists ++ [] ∷ []
    → pushed ≡ replicate (i + 1) []
none_more lists pushed i so_far is =
    is ∙ ap (λ (l : Lists). l ++ [] ∷ []) so_far ∙ replicate-append-replicate i 1 []

pub by_none : (lists : Lists) (n : ℕ) → lists ≡ replicate n [] → IsByFlight lists n []
by_none lists n is = record {
  count = ap length is ∙ length-replicate {A = List Booking} n [];
  each = λ flight inside. ap (λ (l : Lists). list_at l flight) is ∙ get_or-replicate n flight [] [] inside;
}

-- ---- one booking

-- it is on no flight that is there
pub adds_nowhere : (lists : Lists) (b : Booking) → length lists ≤ b.place.flight → Adds lists lists b
adds_nowhere lists b past = record {
  count = refl;
  each = λ flight inside.
      let other : (b.place.flight == flight) ≡ false = ne_eqb b.place.flight flight (λ e. omega (arith, past, inside, e)) in
      sym (append-nil (list_at lists flight)) ∙ ap (λ (t : Bool). list_at lists flight ++ (if t then b ∷ [] else [])) (sym other);
}

pub adds_there : (old new : Lists) (b : Booking) (k : ℕ) (before after : List Booking) → k < length old → k ≡ b.place.flight
    → before ≡ get_or old k before → after ≡ before ++ b ∷ [] → new ≡ set old k after → Adds old new b
adds_there old new b k before after inside its here pushed is = record {
  count = ap length is ∙ length-set old k after;
  each = λ flight within. by flight (b.place.flight == flight) refl;
}
  where
    there : list_at old k ≡ before
    there = get_or_default old k [] before inside ∙ sym here

    by : (f : ℕ) (t : Bool) → (b.place.flight == f) ≡ t → list_at new f ≡ list_at old f ++ bookings_on f (b ∷ [])
    by f true e =
        let same : k ≡ f = its ∙ eqb-true b.place.flight f e in
        let mine : bookings_on f (b ∷ []) ≡ b ∷ [] = rw e refl in
        rw mine (subst (λ (i : ℕ). list_at new i ≡ list_at old i ++ b ∷ []) same
        (ap (λ (l : Lists). list_at l k) is ∙ get_or-set_same old k after [] inside ∙ pushed ∙ ap (λ (l : List Booking). l ++ b ∷ []) (sym there)))
    by f false e =
        let none : bookings_on f (b ∷ []) ≡ [] = rw e refl in
        let other : (f ≡ k → ⊥) = λ same. differs (sym (eq-eqb b.place.flight f (sym its ∙ sym same)) ∙ e) in
        rw none (ap (λ (l : Lists). list_at l f) is ∙ get_or-set_other old k f after [] other ∙ sym (append-nil (list_at old f)))
      where
        differs : true ≡ false → ⊥
        differs h = cc

-- ---- all of them

pub by_more : (old new : Lists) (n : ℕ) (live : List Owned) (i : ℕ) (o : Owned) → IsByFlight old n (bookings_of (take i live))
    → i < length live → o ≡ get_or live i o → Adds old new o.booking → IsByFlight new n (bookings_of (take (i + 1) live))
by_more old new n live i o so_far inside here adds =
    subst (λ (bs : List Booking). IsByFlight new n bs) (sym front) (record {
      count = adds.count ∙ so_far.count;
      each = λ flight within.
          adds.each flight (subst (λ (m : ℕ). flight < m) (sym so_far.count) within)
          ∙ ap (λ (l : List Booking). l ++ bookings_on flight (o.booking ∷ [])) (so_far.each flight within)
          ∙ sym (filter-append (λ (b : Booking). b.place.flight == flight) (bookings_of (take i live)) (o.booking ∷ []));
    })
  where
    front : bookings_of (take (i + 1) live) ≡ bookings_of (take i live) ++ o.booking ∷ []
    front =
        map_more (λ (x : Owned). x.booking) live i o inside
        ∙ ap (λ (x : Owned). bookings_of (take i live) ++ x.booking ∷ []) (sym here)

pub by_whole : (lists : Lists) (n : ℕ) (live : List Owned) (i : ℕ) → IsByFlight lists n (bookings_of (take i live)) → length live ≤ i
    → IsByFlight lists n (bookings_of live)
by_whole lists n live i so_far over = subst (λ (l : List Owned). IsByFlight lists n (bookings_of l)) (take_all i live over) so_far

-- ---- what is held on a leg by its flight's bookings is what is held there by all

pub held_on_flight : (bookings : List Booking) (flight leg class : ℕ)
    → held (bookings_on flight bookings) flight leg class ≡ held bookings flight leg class
held_on_flight bookings flight leg class =
    ap (λ (bs : List Booking). held bs flight leg class) (sym (bookings_view flight bookings))
    ∙ held_view (λ n. n) flight bookings leg class

pub waiting_on_flight : (bookings : List Booking) (flight leg class : ℕ)
    → waiting (bookings_on flight bookings) flight leg class ≡ waiting bookings flight leg class
waiting_on_flight bookings flight leg class =
    ap (λ (bs : List Booking). waiting bs flight leg class) (sym (bookings_view flight bookings))
    ∙ waiting_view (λ n. n) flight bookings leg class
