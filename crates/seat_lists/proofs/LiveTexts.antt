-- The lines of bookings, and the texts of all of them.
use Rattle.std.proofs.Common.{◌≡◌, ◌+◌, ◌<◌, ℕ, Bool, true, false, List, [], ◌∷◌, ◌++◌, length, take, get_or, slice_get, Option, Some, arith, refl, sym, ap, subst, ◌∙◌, append_assoc, decimal}
use Rattle.std.specs.List.{AllByRecursion}
use Rattle.std.proofs.lemmas.List.{append-nil}
use Rattle.std.proofs.lemmas.List.Elements.{All-from_recursion}
use Rattle.std.proofs.lemmas.Option.{same_Some, slice_get_read}
use Rattle.airimp_lines.specs.Grammar.{IsPlainLine, reply_of}
use Rattle.airimp_lines.specs.declared.segment.Segment.{Segment}
use Rattle.ssim_flights.specs.declared.flight.DatedLeg.{DatedLeg}
use Rattle.ssim_flights.specs.declared.flight.Flight.{Flight as Flown}
use Rattle.seat_rules.proofs.Passes.Quiet.{all_map}
use Rattle.seat_desk.specs.FlightsDesk.{IsPut, IsText}
use Rattle.seat_desk.proofs.Texts.{put_more}
use Rattle.seat_lists.proofs.Common.{Booking, Ladders, Place}
use Rattle.seat_lists.proofs.Listings.{all_listed}
use Rattle.seat_lists.specs.declared.picking.Designator.{Designator}
use Rattle.seat_lists.specs.Listing.{listed}
use Rattle.seat_lists.specs.LiveBookings.{IsBookingLine, IsBookingsText}
use Rattle.seat_lists.specs.Named.{IsNamed, IsNamedPut, IsSegmentPut, locator_text, segment_of}
use Rattle.seat_lists.specs.Picking.{HasPlace, IsThere}

-- ---- texts of lines

module _ {A : Type 0} where
  pub one_line : (P : A → List ℕ → Type 0) (x : A) (old new line : List ℕ) → P x line → new ≡ old ++ line
      → IsPut (λ n. P) 0 (x ∷ []) old new
  one_line P x old new line is written =
      record { part = line; is_text = (line, [], is, sym (append-nil line), refl); written = written }

  pub one_more : (P : A → List ℕ → Type 0) (i : ℕ) (xs : List A) (x : A) (old mid new : List ℕ)
      → IsPut (λ n. P) 0 (take i xs) old mid → i < length xs → x ≡ get_or xs i x
      → IsPut (λ n. P) 0 (x ∷ []) mid new → IsPut (λ n. P) 0 (take (i + 1) xs) old new
  one_more P i xs x old mid new before inside here added =
      let is = added.is_text in
      let line : added.part ≡ is.0 = is.3 ∙ ap (λ (l : List ℕ). is.0 ++ l) is.4 ∙ append-nil is.0 in
      put_more (λ n. P) 0 i xs x old mid new added.part before inside here (subst (P x) (sym line) is.2) added.written

  pub whole_text : (P : A → List ℕ → Type 0) (xs : List A) (old new : List ℕ) → old ≡ [] → IsPut (λ n. P) 0 xs old new
      → IsText (λ n. P) 0 xs new
  whole_text P xs old new empty put =
      let whole : new ≡ put.part = put.written ∙ ap (λ (l : List ℕ). l ++ put.part) empty in
      subst (λ (l : List ℕ). IsText (λ n. P) 0 xs l) (sym whole) put.is_text

  -- what holds of each of them holds of one
  pub of_each : (P : A → Type 0) (xs : List A) (i : ℕ) (x : A) → AllByRecursion P xs → i < length xs → x ≡ get_or xs i x
      → P x
  of_each P xs i x all inside here = subst P (sym here) (All-from_recursion P xs all i x inside)

-- ---- a booking

-- a segment, written as a reply with its own code and seats
pub segment_put : (s t : Segment) (old new part : List ℕ) → t ≡ s → IsPlainLine (reply_of t t.code t.seats) part
    → new ≡ old ++ part → IsSegmentPut s old new
segment_put s t old new part same line added = record { part = part; is_segment = subst (λ (u : Segment). IsPlainLine u part) same line; written = added }

pub locator_left : (alone : Bool) (b : Booking) (text : List ℕ) → alone ≡ true → text ≡ text ++ locator_text alone b
locator_left alone b text e = rw e (sym (append-nil text))

pub locator_put : (alone : Bool) (b : Booking) (old mid new : List ℕ) → alone ≡ false → mid ≡ old ++ b.locator
    → new ≡ mid ++ 32 ∷ [] → new ≡ old ++ locator_text alone b
locator_put alone b old mid new e first blank =
    rw e (blank ∙ ap (λ (l : List ℕ). l ++ 32 ∷ []) first ∙ append_assoc old b.locator (32 ∷ []))

pub leg_at : (flights : List Flown) (place : Place) (flight : Flown) (legs : List DatedLeg) (i : ℕ) (leg : DatedLeg)
    (h : HasPlace flights place) → slice_get flights place.flight ≡ Some flight → legs ≡ flight.legs
    → i < length h.flight.legs → leg ≡ get_or legs i leg → slice_get flight.legs i ≡ Some leg
leg_at flights place flight legs i leg h at same below is =
    let one : h.flight ≡ flight = same_Some h.flight flight (sym h.is_flight ∙ at) in
    slice_get_read flight.legs (length flight.legs) i leg refl (omega (arith, below, ap (λ (f : Flown). length f.legs) one)) (is ∙ ap (λ (l : List DatedLeg). get_or l i leg) same)

four : (old a b part : List ℕ)
    → (((old ++ a) ++ 32 ∷ []) ++ b) ++ part ≡ old ++ (a ++ (32 ∷ []) ++ b ++ part)
four old a b part = simp append_assoc

-- the name of one
pub booking_named : (flights : List Flown) (alone : Bool) (b : Booking) (flight : Flown) (first last : DatedLeg)
    (legs : List DatedLeg) (n : ℕ) (old t1 t2 t3 new : List ℕ) → HasPlace flights b.place
    → slice_get flights b.place.flight ≡ Some flight → legs ≡ flight.legs → first ≡ get_or legs b.place.from first
    → last ≡ get_or legs b.place.to last
    → t1 ≡ old ++ decimal n → n ≡ b.number → t2 ≡ t1 ++ 32 ∷ [] → t3 ≡ t2 ++ locator_text alone b
    → IsSegmentPut (segment_of flight first last b) t3 new → IsNamedPut flights alone b old new
booking_named flights alone b flight first last legs n old t1 t2 t3 new h at same is_first is_last e1 number e2 e3 put =
    let text : List ℕ = decimal b.number ++ (32 ∷ []) ++ locator_text alone b ++ put.part in
    let is_named : IsNamed flights alone b text = record {
      flight = flight;
      first = first;
      last = last;
      is_flight = at;
      is_first = leg_at flights b.place flight legs b.place.from first h at same h.from_below is_first;
      is_last = leg_at flights b.place flight legs b.place.to last h at same h.to_below is_last;
      segment = put.part;
      is_segment = put.is_segment;
      written = refl;
    } in
    let written : new ≡ old ++ text = rw (put.written, e3, e2, e1, number) (four old (decimal b.number) (locator_text alone b) put.part) in
    record { part = text; is_named = is_named; written = written }

-- its line
pub booking_line : (flights : List Flown) (alone : Bool) (b : Booking) (old mid new : List ℕ)
    → IsNamedPut flights alone b old mid → new ≡ mid ++ 10 ∷ []
    → IsPut (λ n. IsBookingLine flights alone) 0 (b ∷ []) old new
booking_line flights alone b old mid new named feed =
    let line : List ℕ = named.part ++ 10 ∷ [] in
    let is_line : IsBookingLine flights alone b line = record { part = named.part; is_named = named.is_named; written = refl } in
    one_line (IsBookingLine flights alone) b old new line is_line
    (feed ∙ ap (λ (l : List ℕ). l ++ 10 ∷ []) named.written ∙ append_assoc old named.part (10 ∷ []))

-- ---- the whole

pub all_sliced : (flights : List Flown) (grid : Ladders) (all slice : List Booking)
    → AllByRecursion (IsThere flights grid) all → slice ≡ all → AllByRecursion (IsThere flights grid) slice
all_sliced flights grid all slice there same = subst (λ (l : List Booking). AllByRecursion (IsThere flights grid) l) (sym same) there

pub all_placed : (flights : List Flown) (grid : Ladders) (flight : Option Designator) (all shown slice : List Booking)
    → AllByRecursion (IsThere flights grid) all → shown ≡ listed flight all → slice ≡ shown
    → AllByRecursion (λ b. HasPlace flights b.place) slice
all_placed flights grid flight all shown slice there is same =
    subst (λ (l : List Booking). AllByRecursion (λ b. HasPlace flights b.place) l) (sym (same ∙ is))
    (all_listed (λ b. HasPlace flights b.place) flight all (all_map (IsThere flights grid) (λ b. HasPlace flights b.place) all (λ b t. t.place) there))

pub bookings_text : (flights : List Flown) (alone : Bool) (flight : Option Designator) (all shown slice xs : List Booking)
    (old new : List ℕ) → old ≡ [] → all ≡ xs → shown ≡ listed flight all → slice ≡ shown
    → IsPut (λ n. IsBookingLine flights alone) 0 slice old new → IsBookingsText flights alone (listed flight xs) new
bookings_text flights alone flight all shown slice xs old new empty picks is same put =
    subst (λ (l : List Booking). IsBookingsText flights alone l new) (same ∙ is ∙ ap (listed flight) picks)
    (whole_text (IsBookingLine flights alone) slice old new empty put)
