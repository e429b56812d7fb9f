-- The table that entries leave is that of the bookings.
use Rattle.std.proofs.Common.{◌≡◌, ◌==◌, nat_eq, ℕ, ◌+◌, ◌-◌, ◌≤◌, ◌&&◌, Bool, true, false, List, [], ◌∷◌, ◌++◌, Some, find, nat_le, append_assoc, if◌then◌else◌, arith, refl, ap, sym, subst, ◌∙◌}
use Rattle.seat_rules.proofs.Common.{pointwise, Place, Ladders, Table, room, covers, seats_at, Advice, Booking, Status, Held, Waiting, is_for, is_held, is_waiting, seats_on, held, pass, reduced, confirmed, may_confirm, advice_of}
use Rattle.std.proofs.lemmas.List.{append-nil}
use Rattle.std.proofs.lemmas.Bool.Decides.{nat_tests}
use Rattle.seat_rules.specs.Bookings.{same_place}
use Rattle.seat_rules.specs.Tables.{with_advice, advices_by}
use Rattle.seat_rules.specs.Laws.{PassIsByTable}
use Rattle.seat_rules.proofs.Passes.Weights.{sum_in, reduced_weighs}
use Rattle.airline_base.proofs.Tests.{both_true}

pub waiting_light : (f l k : ℕ) (b : Booking) (s : Status) → b.status ≡ s → is_waiting s ≡ true → seats_on f l k b ≡ 0
waiting_light f l k b Held e h = absurd cc
waiting_light f l k b Waiting e h = rw e refl

-- the weight that a cancellation of n seats takes off
abbrev pub loses : ℕ → ℕ → ℕ → ℕ → Booking → ℕ
loses f l k n b = (if is_held b.status then seats_at b.place b.class n f l k else 0)

part_if : (t u : Bool) (m n : ℕ) → n ≤ m
    → (if t then (if u then m - n else 0) else 0) + (if t then (if u then n else 0) else 0)
    ≡ (if t then (if u then m else 0) else 0)
part_if true true m n le = omega arith
part_if true false m n le = refl
part_if false u m n le = refl

pub cancels : (f l k n : ℕ) (test : Booking → Bool) (xs : List Booking) (b : Booking) → find test xs ≡ Some b
    → n ≤ b.seats → held (reduced test n xs) f l k + loses f l k n b ≡ held xs f l k
cancels f l k n test xs b found le =
    reduced_weighs (seats_on f l k) (loses f l k n) test n
    (λ x le'. part_if (is_held x.status) (covers f l x.place && (x.class == k)) x.seats n le')
    (λ x same. let P : ℕ → Type 0 = λ m. (if is_held x.status then seats_at x.place x.class m f l k else 0) ≡ seats_on f l k x in subst P (sym same) refl)
    xs b found le

-- a booking that is for a command has its place and class
pub is_for_facts : (locator : List ℕ) (p : Place) (class : ℕ) (b : Booking) → is_for locator p class b ≡ true
    → (b.place ≡ p) × (b.class ≡ class)
is_for_facts locator p class b e =
    let one = both_true (pointwise nat_eq b.locator locator && same_place b.place p) (b.class == class) e in
    let two = both_true (pointwise nat_eq b.locator locator) (same_place b.place p) one.0 in
    let three = both_true ((b.place.flight == p.flight) && (b.place.from == p.from)) (b.place.to == p.to) two.1 in
    let four = both_true (b.place.flight == p.flight) (b.place.from == p.from) three.0 in
    let flight : b.place.flight ≡ p.flight = grind (arith, nat_tests, four.0) in
    let from : b.place.from ≡ p.from = grind (arith, nat_tests, four.1) in
    let to : b.place.to ≡ p.to = grind (arith, nat_tests, three.1) in
    let k : b.class ≡ class = grind (arith, nat_tests, one.1) in
    (places b.place.flight p.flight b.place.from p.from b.place.to p.to flight from to, k)
  where
    places : (a b c d e f : ℕ) → a ≡ b → c ≡ d → e ≡ f
        → let x : Place = record { flight = a; from = c; to = e } in let y : Place = record
        { flight = b; from = d; to = f } in x ≡ y
    places a b c d e f p q r = rw (p, q, r) refl

pub if_zero : (t : Bool) → ◌≡◌ {A = ℕ} (if t then 0 else 0) 0
if_zero true = refl
if_zero false = refl

-- the seats released, at the command's place, are those that the booking loses
pub loses_is : (f l k n : ℕ) (p : Place) (class : ℕ) (b : Booking) → b.place ≡ p → b.class ≡ class
    → loses f l k n b ≡ seats_at p class (if is_held b.status then n else 0) f l k
loses_is f l k n p class b at is =
    let P : Place → Type 0 = λ q. loses f l k n b ≡ seats_at q class (if is_held b.status then n else 0) f l k in
    let Q : ℕ → Type 0 = λ c. loses f l k n b ≡ seats_at b.place c (if is_held b.status then n else 0) f l k in
    subst P at (subst Q is (turn (is_held b.status) (covers f l b.place && (b.class == k)) n))
  where
    turn : (t u : Bool) (n : ℕ) → (if t then (if u then n else 0) else 0) ≡ (if u then (if t then n else 0) else 0)
    turn true u n = refl
    turn false true n = refl
    turn false false n = refl

-- a booking confirmed, in the table
confirmed_table : (done : List Booking) (b : Booking) (bs : List Booking) → is_waiting b.status ≡ true
    → (f l k : ℕ)
    → held ((done ++ confirmed b ∷ []) ++ bs) f l k ≡ with_advice (held (done ++ b ∷ bs)) (advice_of b) f l k
confirmed_table done b bs w f l k =
    let light = waiting_light f l k b b.status refl w in
    omega (arith, ap (λ (xs : List Booking). held xs f l k) (append_assoc done (confirmed b ∷ []) bs), sum_in (seats_on f l k) done (confirmed b) bs, sum_in (seats_on f l k) done b bs, light)

advices_are : (grid : Ladders) (done bs : List Booking) (told : List Advice)
    → (pass grid done told bs).advices ≡ told ++ advices_by grid (held (done ++ bs)) bs
advices_are grid done [] told = sym (append-nil told)
advices_are grid done (b ∷ bs) told =
    cases (may_confirm grid (done ++ b ∷ bs) b) refl (λ (x : Booking) (t : List Advice). advices_are grid (done ++ x ∷ []) bs t)
  where
    cases : (t : Bool) → may_confirm grid (done ++ b ∷ bs) b ≡ t
        → ((x : Booking) (t : List Advice) → (pass grid (done ++ x ∷ []) t bs).advices ≡ t
        ++ advices_by grid (held ((done ++ x ∷ []) ++ bs)) bs)
        → (pass grid done told (b ∷ bs)).advices ≡ told ++ advices_by grid (held (done ++ b ∷ bs)) (b ∷ bs)
    cases true e rest =
        let w = (both_true (is_waiting b.status) (nat_le b.seats (room grid (held (done ++ b ∷ bs)) b.place b.class)) e).0 in
        let table : held ((done ++ confirmed b ∷ []) ++ bs) ≡ with_advice (held (done ++ b ∷ bs)) (advice_of b) = λ i f l k. confirmed_table done b bs w f l k i in
        let next : List Advice = advices_by grid (with_advice (held (done ++ b ∷ bs)) (advice_of b)) bs in
        let step : (pass grid (done ++ confirmed b ∷ []) (told ++ advice_of b ∷ []) bs).advices ≡ told ++ advice_of b ∷ next =
        rest (confirmed b) (told ++ advice_of b ∷ [])
        ∙ (ap (λ (t : Table). (told ++ advice_of b ∷ []) ++ advices_by grid t bs) table ∙ append_assoc told (advice_of b ∷ []) next) in
        rw e step
    cases false e rest =
        let step : (pass grid (done ++ b ∷ []) told bs).advices ≡ told ++ advices_by grid (held (done ++ b ∷ bs)) bs =
        rest b told ∙ ap (λ (xs : List Booking). told ++ advices_by grid (held xs) bs) (append_assoc done (b ∷ []) bs) in
        rw e step

pub pass_is_by_table : PassIsByTable
pass_is_by_table grid bookings = advices_are grid [] bookings []
