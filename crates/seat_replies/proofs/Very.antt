-- A line and a request, field by field, and each request beside what it asks of the inventory.
use Rattle.std.proofs.Common.{◌≡◌, ◌≢◌, ℕ, zero, suc, ◌==◌, ◌&&◌, Bool, true, false, nat_eq, List, [], ◌∷◌, map, refl, sym, ap, ◌∙◌, subst, arith, Option, Some, None}
use Rattle.seat_replies.proofs.Common.{slice_get, Request, Segment, Place, place_wanted, Command, Seats, commands_of}
use Rattle.std.specs.Prelude.{IsTrue}
use Rattle.std.specs.Cmp.Lexicographic.{pointwise, same_text}
use Rattle.std.specs.Option.{option_eq}
use Rattle.std.proofs.Math.Bool.{beq}
use Rattle.std.proofs.lemmas.Bool.Decides.{nat_tests}
use Rattle.airline_base.specs.Days.{IsDate}
use Rattle.airline_base.proofs.Tests.{both_true}
use Rattle.airline_base.proofs.Years.{same_parts}
use Rattle.ssim_flights.specs.declared.flight.Flight.{Flight as Flown}
use Rattle.seat_limits.proofs.RowIndexing.{same_letter}
use Rattle.seat_rules.proofs.History.Faults.{nat_same}
use Rattle.seat_rules.proofs.Step.Apart.{letters_same}
use Rattle.seat_journal.specs.declared.entry.SaleChange.{SaleChange}
use Rattle.desk_telling.specs.Segments.{segment_of, segment_on}
use Rattle.seat_replies.specs.Requests.{command_of, wanted_of}
use Rattle.seat_replies.specs.VeryRequest.{Agree, CommandsAreVeryRequests, IsAskedAs, IsOnDate, IsPlacedAs, IsSameDate, IsSameFlight, IsVeryRequest, same_asked, same_named, same_sale}
use Rattle.seat_replies.proofs.Segments.{segments_are_flown}

-- ---- tests

same_nat : (n : ℕ) → (n == n) ≡ true
same_nat n = grind (arith, nat_tests)

equal_nat : (m n : ℕ) → m ≡ n → (m == n) ≡ true
equal_nat m n e = grind (arith, nat_tests, e)

equal_text : (xs ys : List ℕ) → xs ≡ ys → pointwise nat_eq xs ys ≡ true
equal_text xs ys e = ap (pointwise nat_eq xs) (sym e) ∙ letters_same xs

letter_itself : (a : Option ℕ) → option_eq nat_eq a a ≡ true
letter_itself None = refl
letter_itself (Some n) = same_nat n

equal_letter : (a b : Option ℕ) → a ≡ b → option_eq nat_eq a b ≡ true
equal_letter a b e = ap (option_eq nat_eq a) (sym e) ∙ letter_itself a

-- a test of two closings or openings says whether they are one
marks_same : (a b : Bool) → beq a b ≡ true → a ≡ b
marks_same true true e = refl
marks_same true false e = absurd cc
marks_same false true e = absurd cc
marks_same false false e = refl

mark_itself : (a : Bool) → beq a a ≡ true
mark_itself true = refl
mark_itself false = refl

sale_is : (a b : SaleChange) → a.flight ≡ b.flight → a.leg ≡ b.leg → a.class ≡ b.class → a.closed ≡ b.closed → a ≡ b
sale_is a b e f g h = λ i. record { flight = e i; leg = f i; class = g i; closed = h i }

sale_same : (a b : SaleChange) → same_sale a b ≡ true → a ≡ b
sale_same a b e =
    let three = both_true ((a.flight == b.flight) && (a.leg == b.leg) && option_eq nat_eq a.class b.class) (beq a.closed b.closed) e in
    let two = both_true ((a.flight == b.flight) && (a.leg == b.leg)) (option_eq nat_eq a.class b.class) three.0 in
    let one = both_true (a.flight == b.flight) (a.leg == b.leg) two.0 in
    sale_is a b (nat_same a.flight b.flight one.0) (nat_same a.leg b.leg one.1) (same_letter a.class b.class two.1) (marks_same a.closed b.closed three.1)

sale_itself : (a : SaleChange) → same_sale a a ≡ true
sale_itself a = rw (same_nat a.flight, same_nat a.leg, letter_itself a.class, mark_itself a.closed) refl

pub sales_same : (a b : SaleChange) (told : Bool) → told ≡ same_sale a b → (IsTrue told → a ≡ b) × (a ≡ b → IsTrue told)
sales_same a b told e = (
  λ (is : IsTrue told). sale_same a b (sym e ∙ is),
  λ (same : a ≡ b). e ∙ (ap (same_sale a) (sym same) ∙ sale_itself a),
)

all_of : (a b : Bool) → a ≡ true → b ≡ true → (a && b) ≡ true
all_of true b e f = f
all_of false b e f = absurd cc

pub asked_alike : (c : Command) (r : Request) (told : Bool) → told ≡ same_asked c r
    → (IsTrue told → IsAskedAs c r) × (IsAskedAs c r → IsTrue told)
asked_alike c r told e = (one, λ (h : IsAskedAs c r). e ∙ two h) where
  two : IsAskedAs c r → same_asked c r ≡ true
  two h =
      all_of (pointwise nat_eq c.locator r.locator && (c.class == r.segment.class) && pointwise nat_eq c.code r.segment.code) (c.seats == r.segment.seats)
      (all_of (pointwise nat_eq c.locator r.locator && (c.class == r.segment.class)) (pointwise nat_eq c.code r.segment.code)
      (all_of (pointwise nat_eq c.locator r.locator) (c.class == r.segment.class) (equal_text c.locator r.locator h.locator_is) (equal_nat c.class r.segment.class h.class_is))
      (equal_text c.code r.segment.code h.code_is))
      (equal_nat c.seats r.segment.seats h.seats_is)

  one : IsTrue told → IsAskedAs c r
  one is =
      let three = both_true (pointwise nat_eq c.locator r.locator && (c.class == r.segment.class) && pointwise nat_eq c.code r.segment.code) (c.seats == r.segment.seats) (sym e ∙ is) in
      let four = both_true (pointwise nat_eq c.locator r.locator && (c.class == r.segment.class)) (pointwise nat_eq c.code r.segment.code) three.0 in
      let five = both_true (pointwise nat_eq c.locator r.locator) (c.class == r.segment.class) four.0 in
      record {
        locator_is = same_text c.locator r.locator (sym five.0);
        class_is = nat_same c.class r.segment.class five.1;
        code_is = same_text c.code r.segment.code (sym four.1);
        seats_is = nat_same c.seats r.segment.seats three.1;
      }

-- what is two things, where the first is told and then the second, or the first alone
module _ (P Q R : Type 0) (both : P → Q → R) (first : R → P) (second : R → Q) (told : Bool)
    (one : (IsTrue told → P) × (P → IsTrue told)) where
  pub told_then : (later : Bool) → IsTrue told → (IsTrue later → Q) × (Q → IsTrue later)
      → (IsTrue later → R) × (R → IsTrue later)
  told_then later is two = (λ (h : IsTrue later). both (one.0 is) (two.0 h), λ (h : R). two.1 (second h))

  pub told_else : told ≡ false → (IsTrue told → R) × (R → IsTrue told)
  told_else is = (λ (h : IsTrue told). absurd (untrue (sym is ∙ h)), λ (h : R). one.1 (first h)) where
    untrue : false ≡ true → ⊥
    untrue e = cc

record IsSameName (a b : Segment) : Type 0 where
  pub airline_is : a.airline ≡ b.airline
  pub number_is : a.number ≡ b.number
  pub suffix_is : a.suffix ≡ b.suffix
  pub board_is : a.board ≡ b.board
  pub off_is : a.off ≡ b.off

names_alike : (a b : Segment) (told : Bool) → told ≡ same_named a b
    → (IsTrue told → IsSameName a b) × (IsSameName a b → IsTrue told)
names_alike a b told e = (one, λ (h : IsSameName a b). e ∙ two h) where
  two : IsSameName a b → same_named a b ≡ true
  two h =
      all_of (pointwise nat_eq a.airline b.airline && (a.number == b.number) && option_eq nat_eq a.suffix b.suffix && pointwise nat_eq a.board b.board) (pointwise nat_eq a.off b.off)
      (all_of (pointwise nat_eq a.airline b.airline && (a.number == b.number) && option_eq nat_eq a.suffix b.suffix) (pointwise nat_eq a.board b.board)
      (all_of (pointwise nat_eq a.airline b.airline && (a.number == b.number)) (option_eq nat_eq a.suffix b.suffix)
      (all_of (pointwise nat_eq a.airline b.airline) (a.number == b.number) (equal_text a.airline b.airline h.airline_is) (equal_nat a.number b.number h.number_is))
      (equal_letter a.suffix b.suffix h.suffix_is))
      (equal_text a.board b.board h.board_is))
      (equal_text a.off b.off h.off_is)

  one : IsTrue told → IsSameName a b
  one is =
      let three = both_true (pointwise nat_eq a.airline b.airline && (a.number == b.number) && option_eq nat_eq a.suffix b.suffix && pointwise nat_eq a.board b.board) (pointwise nat_eq a.off b.off) (sym e ∙ is) in
      let four = both_true (pointwise nat_eq a.airline b.airline && (a.number == b.number) && option_eq nat_eq a.suffix b.suffix) (pointwise nat_eq a.board b.board) three.0 in
      let five = both_true (pointwise nat_eq a.airline b.airline && (a.number == b.number)) (option_eq nat_eq a.suffix b.suffix) four.0 in
      let six = both_true (pointwise nat_eq a.airline b.airline) (a.number == b.number) five.0 in
      record {
        airline_is = same_text a.airline b.airline (sym six.0);
        number_is = nat_same a.number b.number six.1;
        suffix_is = same_letter a.suffix b.suffix five.1;
        board_is = same_text a.board b.board (sym four.1);
        off_is = same_text a.off b.off (sym three.1);
      }

-- the names agree, and the dates
module _ (a b : Segment) (named : Bool) (e : named ≡ same_named a b) where
  all_same : IsSameName a b → IsSameDate a.day b.day → IsSameFlight a b
  all_same n d = record { airline_is = n.airline_is; number_is = n.number_is; suffix_is = n.suffix_is; date_is = d; board_is = n.board_is; off_is = n.off_is }

  its_name : IsSameFlight a b → IsSameName a b
  its_name f = record { airline_is = f.airline_is; number_is = f.number_is; suffix_is = f.suffix_is; board_is = f.board_is; off_is = f.off_is }

  its_date : IsSameFlight a b → IsSameDate a.day b.day
  its_date f = f.date_is

  pub flights_then : (dated : Bool) → named ≡ true
      → (IsTrue dated → IsSameDate a.day b.day) × (IsSameDate a.day b.day → IsTrue dated)
      → (IsTrue dated → IsSameFlight a b) × (IsSameFlight a b → IsTrue dated)
  flights_then dated is dates =
      told_then (IsSameName a b) (IsSameDate a.day b.day) (IsSameFlight a b) all_same its_name its_date named (names_alike a b named e) dated is dates

  pub flights_else : named ≡ false → (IsTrue named → IsSameFlight a b) × (IsSameFlight a b → IsTrue named)
  flights_else is =
      told_else (IsSameName a b) (IsSameDate a.day b.day) (IsSameFlight a b) all_same its_name its_date named (names_alike a b named e) is

-- two days of known dates
module _ (a b year month day year' month' day' : ℕ) (dated : IsDate year month day a) (dated' : IsDate year' month' day' b) where
  same_from : month ≡ month' → day ≡ day' → IsSameDate a b
  same_from e f = record {
    each = λ m d on.
        let own = same_parts on.year m d year month day a on.date dated in
        let months : month' ≡ m = sym e ∙ sym own.1 in
        let days : day' ≡ d = sym f ∙ sym own.2 in
        record { year = year'; date = subst (λ (x : ℕ). IsDate year' m x b) days (subst (λ (x : ℕ). IsDate year' x day' b) months dated') };
  }

  same_to : IsSameDate a b → (month ≡ month') × (day ≡ day')
  same_to same =
      let on : IsOnDate month day b = same.each month day (record { year = year; date = dated }) in
      let own = same_parts on.year month day year' month' day' b on.date dated' in
      (own.1, own.2)

  pub dates_then : month ≡ month'
      → (IsTrue (day == day') → IsSameDate a b) × (IsSameDate a b → IsTrue (day == day'))
  dates_then is = (
    λ (h : IsTrue (day == day')). same_from is (nat_same day day' h),
    λ (h : IsSameDate a b). equal_nat day day' (same_to h).1,
  )

  pub dates_else : month ≢ month'
      → (IsTrue (month == month') → IsSameDate a b) × (IsSameDate a b → IsTrue (month == month'))
  dates_else is = (
    λ (h : IsTrue (month == month')). absurd (is (nat_same month month' h)),
    λ (h : IsSameDate a b). equal_nat month month' (same_to h).0,
  )

-- ---- a line and a request

module _ (flights : List Flown) (c : Command) (r : Request) (asked : Bool)
    (one : (IsTrue asked → IsAskedAs c r) × (IsAskedAs c r → IsTrue asked)) where
  pair : IsAskedAs c r → IsPlacedAs flights c c.place r.segment → IsVeryRequest flights r (Seats c)
  pair h k = (h, k)

  its_words : IsVeryRequest flights r (Seats c) → IsAskedAs c r
  its_words h = h.0

  its_place : IsVeryRequest flights r (Seats c) → IsPlacedAs flights c c.place r.segment
  its_place h = h.1

  pub very_then : (placed : Bool) → asked ≡ true
      → (IsTrue placed → IsPlacedAs flights c c.place r.segment) × (IsPlacedAs flights c c.place r.segment → IsTrue placed)
      → (IsTrue placed → IsVeryRequest flights r (Seats c)) × (IsVeryRequest flights r (Seats c) → IsTrue placed)
  very_then placed is places =
      told_then (IsAskedAs c r) (IsPlacedAs flights c c.place r.segment) (IsVeryRequest flights r (Seats c)) pair its_words its_place asked one placed is places

  pub very_else : asked ≡ false
      → (IsTrue asked → IsVeryRequest flights r (Seats c)) × (IsVeryRequest flights r (Seats c) → IsTrue asked)
  very_else is =
      told_else (IsAskedAs c r) (IsPlacedAs flights c c.place r.segment) (IsVeryRequest flights r (Seats c)) pair its_words its_place asked one is

-- ---- what a request asks is that request

itself : (n : ℕ) → IsSameDate n n
itself n = record { each = λ month day on. on }

own_flight : (s : Segment) → IsSameFlight s s
own_flight s = record { airline_is = refl; number_is = refl; suffix_is = refl; date_is = itself s.day; board_is = refl; off_is = refl }

placed : (flights : List Flown) (r : Request) (o : Option Place) → place_wanted flights (wanted_of r.segment) ≡ o
    → IsPlacedAs flights (command_of flights r) o r.segment
placed flights r None is = tt
placed flights r (Some p) is =
    let here : segment_of flights (command_of flights r) ≡ Some r.segment = segments_are_flown flights r p is in
    record { segment = r.segment; flown = ap (segment_on flights (command_of flights r)) (sym is) ∙ here; same = own_flight r.segment }

pub commands_are_very_requests : CommandsAreVeryRequests
commands_are_very_requests flights r =
    (record { locator_is = refl; class_is = refl; code_is = refl; seats_is = refl }, placed flights r (place_wanted flights (wanted_of r.segment)) refl)

-- request by request
pub commands_agree : (flights : List Flown) (requests : List Request) (place : ℕ)
    → Agree flights (slice_get requests place) (slice_get (map Seats (commands_of flights requests)) place)
commands_agree flights [] place = tt
commands_agree flights (r ∷ requests) zero = commands_are_very_requests flights r
commands_agree flights (r ∷ requests) (suc place) = commands_agree flights requests place
