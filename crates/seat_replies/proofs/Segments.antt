-- A place that serves a request is on a flight of the request's name, from its board point to its off point.
use Rattle.std.proofs.Common.{◌≡◌, ℕ, suc, ◌+◌, ◌==◌, ◌&&◌, Bool, true, false, nat_eq, List, [], ◌∷◌, refl, sym, ap, ◌∙◌, subst, arith, Option, Some}
use Rattle.seat_replies.proofs.Common.{slice_get, AllByRecursion, option_map, Request, Segment, Place, place_wanted, DatedLeg, Command}
use Rattle.std.specs.Cmp.Lexicographic.{pointwise, same_text}
use Rattle.std.specs.Map.{lookup}
use Rattle.std.specs.Option.{option_eq}
use Rattle.ssim_flights.specs.Places.{ends_from, places, places_from, same_wanted, wish}
use Rattle.ssim_flights.specs.declared.flight.Flight.{Flight as Flown}
use Rattle.ssim_flights.specs.declared.flight.Wanted.{Wanted}
use Rattle.desk_telling.specs.Segments.{segment_at, segment_between, segment_from, segment_of, segment_on}
use Rattle.seat_replies.specs.Requests.{command_of, wanted_of}
use Rattle.seat_replies.specs.Segments.{RequestsAreFlown}
use Rattle.seat_replies.specs.declared.replies.Answered.{Answered}
use Rattle.seat_replies.proofs.Rows.{all_append}
use Rattle.airline_base.proofs.Tests.{both_true}
use Rattle.seat_limits.proofs.RowIndexing.{same_letter}
use Rattle.seat_rules.proofs.History.Faults.{nat_same}

-- ---- what is found serves what is wanted

wanted_is : (a b : Wanted) → a.airline ≡ b.airline → a.number ≡ b.number → a.suffix ≡ b.suffix → a.day ≡ b.day
    → a.board ≡ b.board → a.off ≡ b.off → a ≡ b
wanted_is a b e f g h k l = λ i. record { airline = e i; number = f i; suffix = g i; day = h i; board = k i; off = l i }

wanted_same : (a b : Wanted) → same_wanted a b ≡ true → a ≡ b
wanted_same a b e =
    let one = both_true (pointwise nat_eq a.airline b.airline) ((a.number == b.number) && (option_eq nat_eq a.suffix b.suffix && ((a.day == b.day) && (pointwise nat_eq a.board b.board && pointwise nat_eq a.off b.off)))) e in
    let two = both_true (a.number == b.number) (option_eq nat_eq a.suffix b.suffix && ((a.day == b.day) && (pointwise nat_eq a.board b.board && pointwise nat_eq a.off b.off))) one.1 in
    let three = both_true (option_eq nat_eq a.suffix b.suffix) ((a.day == b.day) && (pointwise nat_eq a.board b.board && pointwise nat_eq a.off b.off)) two.1 in
    let four = both_true (a.day == b.day) (pointwise nat_eq a.board b.board && pointwise nat_eq a.off b.off) three.1 in
    let five = both_true (pointwise nat_eq a.board b.board) (pointwise nat_eq a.off b.off) four.1 in
    wanted_is a b (same_text a.airline b.airline (sym one.0)) (nat_same a.number b.number two.0) (same_letter a.suffix b.suffix three.0) (nat_same a.day b.day four.0)
    (same_text a.board b.board (sym five.0)) (same_text a.off b.off (sym five.1))

-- the place is of a flight, and this is what is wanted by who flies on it
record IsServing (flights : List Flown) (w : Wanted) (p : Place) : Type 0 where
  flight : Flown
  at : slice_get flights p.flight ≡ Some flight
  first : DatedLeg
  from : slice_get flight.legs p.from ≡ Some first
  last : DatedLeg
  to : slice_get flight.legs p.to ≡ Some last
  wanted : w ≡ wish flight first last

abbrev Serving : List Flown → (Wanted × Place) → Type 0
Serving flights e = IsServing flights e.0 e.1

module _ (flights : List Flown) (n : ℕ) (flight : Flown) (at : slice_get flights n ≡ Some flight) where
  -- the legs behind so many
  record AreBehind (i : ℕ) (legs : List DatedLeg) : Type 0 where
    each : (k : ℕ) (leg : DatedLeg) → slice_get legs k ≡ Some leg → slice_get flight.legs (i + k) ≡ Some leg

  next_behind : (i : ℕ) (leg : DatedLeg) (legs : List DatedLeg) → AreBehind i (leg ∷ legs) → AreBehind (i + 1) legs
  next_behind i leg legs are = record { each = λ k x there. let e : i + suc k ≡ i + 1 + k = omega arith in subst (λ (j : ℕ). slice_get flight.legs j ≡ Some x) e (are.each (suc k) x there) }

  here_behind : (i : ℕ) (leg : DatedLeg) (legs : List DatedLeg) → AreBehind i (leg ∷ legs)
      → slice_get flight.legs i ≡ Some leg
  here_behind i leg legs are = let e : i + 0 ≡ i = omega arith in subst (λ (j : ℕ). slice_get flight.legs j ≡ Some leg) e (are.each 0 leg refl)

  ends_serve : (from : ℕ) (first : DatedLeg) (to : ℕ) (legs : List DatedLeg) → slice_get flight.legs from ≡ Some first
      → AreBehind to legs → AllByRecursion (Serving flights) (ends_from flight n from first to legs)
  ends_serve from first to [] start are = tt
  ends_serve from first to (leg ∷ legs) start are = (
    record { flight = flight; at = at; first = first; from = start; last = leg; to = here_behind to leg legs are; wanted = refl },
    ends_serve from first (to + 1) legs start (next_behind to leg legs are),
  )

  from_serve : (from : ℕ) (legs : List DatedLeg) → AreBehind from legs
      → AllByRecursion (Serving flights) (places_from flight n from legs)
  from_serve from [] are = tt
  from_serve from (leg ∷ legs) are =
      all_append (Serving flights) (ends_from flight n from leg from (leg ∷ legs)) (places_from flight n (from + 1) legs)
      (ends_serve from leg from (leg ∷ legs) (here_behind from leg legs are) are) (from_serve (from + 1) legs (next_behind from leg legs are))

  own_legs : AreBehind 0 flight.legs
  own_legs = record { each = λ k leg there. let e : k ≡ 0 + k = omega arith in subst (λ (j : ℕ). slice_get flight.legs j ≡ Some leg) e there }

all_serve : (flights : List Flown) (n : ℕ) (rest : List Flown)
    → ((i : ℕ) (flight : Flown) → slice_get rest i ≡ Some flight → slice_get flights (n + i) ≡ Some flight)
    → AllByRecursion (Serving flights) (places n rest)
all_serve flights n [] h = tt
all_serve flights n (flight ∷ rest) h =
    let here : n + 0 ≡ n = omega arith in
    let at : slice_get flights n ≡ Some flight = subst (λ (k : ℕ). slice_get flights k ≡ Some flight) here (h 0 flight refl) in
    all_append (Serving flights) (places_from flight n 0 flight.legs) (places (n + 1) rest)
    (from_serve flights n flight at 0 flight.legs (own_legs flights n flight at))
    (all_serve flights (n + 1) rest (λ i x there. let e : n + suc i ≡ n + 1 + i = omega arith in subst (λ (k : ℕ). slice_get flights k ≡ Some x) e (h (suc i) x there)))

record IsFound (flights : List Flown) (test : Wanted → Bool) (p : Place) : Type 0 where
  w : Wanted
  told : test w ≡ true
  serves : IsServing flights w p

find_serves : (flights : List Flown) (test : Wanted → Bool) (entries : List (Wanted × Place)) (p : Place)
    → AllByRecursion (Serving flights) entries → lookup test entries ≡ Some p → IsFound flights test p
find_serves flights test [] p all is = absurd cc
find_serves flights test (e ∷ entries) p all is = cases (test e.0) refl (find_serves flights test entries p all.1) where
  cases : (t : Bool) → test e.0 ≡ t → (lookup test entries ≡ Some p → IsFound flights test p) → IsFound flights test p
  cases true told later =
      let one : Some e.1 ≡ Some p = rw told at is in
      let same : e.1 ≡ p = cc one in
      record { w = e.0; told = told; serves = subst (λ (q : Place). IsServing flights e.0 q) same all.0 }
  cases false told later = later (rw told at is)

found : (flights : List Flown) (wanted : Wanted) (p : Place) → place_wanted flights wanted ≡ Some p
    → IsServing flights wanted p
unfolding place_wanted
found flights wanted p is =
    let f = find_serves flights (λ w. same_wanted w wanted) (places 0 flights) p
    (all_serve flights 0 flights (λ i x there. let e : i ≡ 0 + i = omega arith in subst (λ (k : ℕ). slice_get flights k ≡ Some x) e there)) is in
    subst (λ (w : Wanted). IsServing flights w p) (wanted_same f.w wanted f.told) f.serves

-- ---- so its segment is that of the request

segment_is : (flights : List Flown) (r : Request) (c : Command) (p : Place) → c ≡ command_of flights r
    → IsServing flights (wanted_of r.segment) p → (first last : DatedLeg) (flight : Flown)
    → wanted_of r.segment ≡ wish flight first last → segment_from c flight first last ≡ r.segment
segment_is flights r c p is serves first last flight same = λ i. record {
  airline = ap (λ (w : Wanted). w.airline) (sym same) i;
  number = ap (λ (w : Wanted). w.number) (sym same) i;
  suffix = ap (λ (w : Wanted). w.suffix) (sym same) i;
  class = ap (λ (x : Command). x.class) is i;
  day = ap (λ (w : Wanted). w.day) (sym same) i;
  board = ap (λ (w : Wanted). w.board) (sym same) i;
  off = ap (λ (w : Wanted). w.off) (sym same) i;
  code = ap (λ (x : Command). x.code) is i;
  seats = ap (λ (x : Command). x.seats) is i;
}

pub segments_are_flown : (flights : List Flown) (r : Request) (p : Place)
    → place_wanted flights (wanted_of r.segment) ≡ Some p → segment_of flights (command_of flights r) ≡ Some r.segment
segments_are_flown flights r p is =
    let c = command_of flights r in
    let s : IsServing flights (wanted_of r.segment) p = found flights (wanted_of r.segment) p is in
    let flown : segment_of flights c ≡ Some (segment_from c s.flight s.first s.last) =
    ap (segment_on flights c) is ∙ (ap (segment_at c p) s.at
    ∙ (ap (λ (o : Option DatedLeg). segment_between c s.flight o (slice_get s.flight.legs p.to)) s.from ∙ ap (λ (o : Option DatedLeg). segment_between c s.flight (Some s.first) o) s.to)) in
    let own : segment_from c s.flight s.first s.last ≡ r.segment = segment_is flights r c p refl s s.first s.last s.flight s.wanted in
    flown ∙ ap Some own

pub requests_are_flown : RequestsAreFlown
requests_are_flown flights r p is =
    let named : Segment → Answered = λ x. record { locator = r.locator; segment = x } in
    ap (option_map named) (segments_are_flown flights r p is)
