-- Waiting lists, booking by booking.
use Rattle.std.proofs.Common.{◌≡◌, ◌==◌, ℕ, zero, suc, ◌<◌, Bool, true, false, nat_le, List, [], ◌∷◌, ◌++◌, length, get_or, remove, position, Some, None, arith, refl, ap, sym, subst, ◌∙◌}
use Rattle.seat_bookings.proofs.Common.{AllByRecursion, Place, Booking, is_waiting, reduced, confirmed_at, queue_of}
use Rattle.std.proofs.lemmas.List.{append-nil}
use Rattle.std.proofs.lemmas.List.Quantifiers.{position-Some}
use Rattle.std.proofs.lemmas.List.Elements.{filter-append}
use Rattle.seat_journal.specs.declared.entry.Command.{Command}
use Rattle.seat_rules.specs.declared.booking.Status.{Status}
use Rattle.seat_rules.specs.declared.booking.Status.TheVariants.{Held, Waiting}
use Rattle.seat_rules.specs.declared.effect.Effect.TheVariants.{Waits}
use Rattle.seat_rules.specs.Bookings.{waits_on, waiting}
use Rattle.seat_rules.specs.Sequential.{booking_of}
use Rattle.seat_rules.specs.Applying.{suffices, IsOrdered, Spare}
use Rattle.seat_bookings.specs.Live.{AreLive}
use Rattle.seat_bookings.specs.Queues.{first_waits, without}
use Rattle.seat_rules.proofs.Filters.{ordered_pass, sum_kept}
use Rattle.seat_rules.proofs.Step.Reduced.{IsFirst}
use Rattle.seat_rules.proofs.Step.Effect.{absent}

-- which booking is the first that passes a test
first_at : (test : Booking → Bool) (xs : List Booking) (i : ℕ) (d : Booking) → IsFirst test xs i d
    → first_waits test xs ≡ is_waiting (get_or xs i d).status
first_at test [] i d first = absurd (omega (arith, first.0))
first_at test (x ∷ xs) zero d first = rw (first.1) refl
first_at test (x ∷ xs) (suc i) d first =
    let below : i < length xs = omega (arith, first.0) in
    let rest = first_at test xs i d (below, first.1, λ k h. first.2 (suc k) (omega arith)) in
    let other : test x ≡ false = first.2 zero (omega arith) in
    rw (other, rest) refl

first_absent : (test : Booking → Bool) (xs : List Booking) → AllByRecursion (λ x. test x ≡ false) xs
    → first_waits test xs ≡ false
first_absent test [] a = refl
first_absent test (x ∷ xs) a = rw (a.0) (first_absent test xs a.1)

pub waits_found : (test : Booking → Bool) (xs : List Booking) (i : ℕ) (b : Booking) → Some i ≡ position test xs
    → b ≡ get_or xs i b → first_waits test xs ≡ is_waiting b.status
waits_found test xs i b found is = first_at test xs i b (position-Some test xs i b (sym found)) ∙ ap (λ (x : Booking). is_waiting x.status) (sym is)

pub waits_none : (test : Booking → Bool) (xs : List Booking) → None ≡ position test xs → first_waits test xs ≡ false
waits_none test xs e = first_absent test xs (absent test xs (sym e))

-- one booking out of the list
without_first : (number : ℕ) (xs : List Booking) (i : ℕ) (d : Booking)
    → IsFirst (λ (b : Booking). b.number == number) xs i d → without xs number ≡ remove xs i
without_first number [] i d first = absurd (omega (arith, first.0))
without_first number (x ∷ xs) zero d first = rw (first.1) refl
without_first number (x ∷ xs) (suc i) d first =
    let below : i < length xs = omega (arith, first.0) in
    let rest = without_first number xs i d (below, first.1, λ k h. first.2 (suc k) (omega arith)) in
    let other : (x.number == number) ≡ false = first.2 zero (omega arith) in
    rw (other, rest) refl

without_absent : (number : ℕ) (xs : List Booking) → AllByRecursion (λ (x : Booking). (x.number == number) ≡ false) xs
    → without xs number ≡ xs
without_absent number [] a = refl
without_absent number (x ∷ xs) a = rw (a.0, without_absent number xs a.1) refl

pub without_found : (xs : List Booking) (number i : ℕ) (d : Booking)
    → Some i ≡ position (λ (b : Booking). b.number == number) xs → without xs number ≡ remove xs i
without_found xs number i d found = without_first number xs i d (position-Some (λ (b : Booking). b.number == number) xs i d (sym found))

pub without_none : (xs : List Booking) (number : ℕ) → None ≡ position (λ (b : Booking). b.number == number) xs
    → without xs number ≡ xs
without_none xs number e = without_absent number xs (absent (λ (b : Booking). b.number == number) xs (sym e))

-- one booking more
pub queue_waits : (xs : List Booking) (n : ℕ) (c : Command) (p : Place)
    → queue_of (xs ++ booking_of n c p Waiting ∷ []) ≡ queue_of xs ++ booking_of n c p Waiting ∷ []
queue_waits xs n c p = filter-append _ xs (booking_of n c p Waiting ∷ [])

-- whose number is above theirs
pub queue_rises : (xs queue : List Booking) (n : ℕ) (c : Command) (p : Place) → queue ≡ queue_of xs
    → AreLive (xs ++ booking_of n c p Waiting ∷ []) → IsOrdered (queue ++ booking_of n c p Waiting ∷ [])
queue_rises xs queue n c p is live =
    let P : List Booking → Type 0 = λ ys. IsOrdered (ys ++ booking_of n c p Waiting ∷ []) in
    subst P (sym is) (subst IsOrdered (queue_waits xs n c p) (ordered_pass _ (xs ++ booking_of n c p Waiting ∷ []) live.ordered))

pub queue_holds : (xs : List Booking) (n : ℕ) (c : Command) (p : Place)
    → queue_of (xs ++ booking_of n c p Held ∷ []) ≡ queue_of xs
queue_holds xs n c p = filter-append _ xs (booking_of n c p Held ∷ []) ∙ append-nil (queue_of xs)

-- seats taken off the first that passes a test
pub reduced_waits : (test : Booking → Bool) (n : ℕ) (xs : List Booking) → first_waits test xs ≡ true
    → queue_of (reduced test n xs) ≡ reduced test n (queue_of xs)
reduced_waits test n [] h = absurd cc
reduced_waits test n (b ∷ bs) h = cases (test b) (nat_le b.seats n) (is_waiting b.status) refl refl refl h (reduced_waits test n bs) where
  cases : (t u w : Bool) → test b ≡ t → nat_le b.seats n ≡ u → is_waiting b.status ≡ w
      → first_waits test (b ∷ bs) ≡ true
      → (first_waits test bs ≡ true → queue_of (reduced test n bs) ≡ reduced test n (queue_of bs))
      → queue_of (reduced test n (b ∷ bs)) ≡ reduced test n (queue_of (b ∷ bs))
  cases true true true e f g h rest = rw (e, f, g) (rw (e, f) refl)
  cases true false true e f g h rest = rw (e, f, g) (rw (e, f) refl)
  cases true u false e f g h rest = let no : first_waits test (b ∷ bs) ≡ false = rw (e, g) refl in absurd cc
  cases false u true e f g h rest = let skip : first_waits test (b ∷ bs) ≡ first_waits test bs = rw e refl in let on : first_waits test bs ≡ true = sym skip ∙ h in rw (e, g) (rw (e, rest on) refl)
  cases false u false e f g h rest = let skip : first_waits test (b ∷ bs) ≡ first_waits test bs = rw e refl in let on : first_waits test bs ≡ true = sym skip ∙ h in rw (e, g) (rest on)

pub reduced_holds : (test : Booking → Bool) (n : ℕ) (xs : List Booking) → first_waits test xs ≡ false
    → queue_of (reduced test n xs) ≡ queue_of xs
reduced_holds test n [] h = refl
reduced_holds test n (b ∷ bs) h = cases (test b) (nat_le b.seats n) (is_waiting b.status) refl refl refl h (reduced_holds test n bs) where
  cases : (t u w : Bool) → test b ≡ t → nat_le b.seats n ≡ u → is_waiting b.status ≡ w
      → first_waits test (b ∷ bs) ≡ false
      → (first_waits test bs ≡ false → queue_of (reduced test n bs) ≡ queue_of bs)
      → queue_of (reduced test n (b ∷ bs)) ≡ queue_of (b ∷ bs)
  cases true u true e f g h rest = let yes : first_waits test (b ∷ bs) ≡ true = rw (e, g) refl in absurd cc
  cases true true false e f g h rest = rw (e, f, g) refl
  cases true false false e f g h rest = rw (e, f, g) refl
  cases false u true e f g h rest = let skip : first_waits test (b ∷ bs) ≡ first_waits test bs = rw e refl in let on : first_waits test bs ≡ false = sym skip ∙ h in rw (e, g, rest on) refl
  cases false u false e f g h rest = let skip : first_waits test (b ∷ bs) ≡ first_waits test bs = rw e refl in let on : first_waits test bs ≡ false = sym skip ∙ h in rw (e, g) (rest on)

-- the booking of a number confirmed
pub confirmed_waits : (n : ℕ) (xs : List Booking) → first_waits (λ b. b.number == n) xs ≡ true
    → queue_of (confirmed_at xs n) ≡ without (queue_of xs) n
confirmed_waits n [] h = absurd cc
confirmed_waits n (b ∷ bs) h = cases (b.number == n) (is_waiting b.status) refl refl h (confirmed_waits n bs) where
  cases : (t w : Bool) → (b.number == n) ≡ t → is_waiting b.status ≡ w
      → first_waits (λ b. b.number == n) (b ∷ bs) ≡ true
      → (first_waits (λ b. b.number == n) bs ≡ true → queue_of (confirmed_at bs n) ≡ without (queue_of bs) n)
      → queue_of (confirmed_at (b ∷ bs) n) ≡ without (queue_of (b ∷ bs)) n
  cases true true e g h rest = rw (e, g) (rw e refl)
  cases true false e g h rest = let no : first_waits (λ b. b.number == n) (b ∷ bs) ≡ false = rw (e, g) refl in absurd cc
  cases false true e g h rest = let skip : first_waits (λ b. b.number == n) (b ∷ bs) ≡ first_waits (λ b. b.number == n) bs = rw e refl in let on : first_waits (λ b. b.number == n) bs ≡ true = sym skip ∙ h in rw (e, g) (rw (e, rest on) refl)
  cases false false e g h rest = let skip : first_waits (λ b. b.number == n) (b ∷ bs) ≡ first_waits (λ b. b.number == n) bs = rw e refl in let on : first_waits (λ b. b.number == n) bs ≡ true = sym skip ∙ h in rw (e, g) (rest on)

pub confirmed_holds : (n : ℕ) (xs : List Booking) → first_waits (λ b. b.number == n) xs ≡ false
    → queue_of (confirmed_at xs n) ≡ queue_of xs
confirmed_holds n [] h = refl
confirmed_holds n (b ∷ bs) h = cases (b.number == n) (is_waiting b.status) refl refl h (confirmed_holds n bs) where
  cases : (t w : Bool) → (b.number == n) ≡ t → is_waiting b.status ≡ w
      → first_waits (λ b. b.number == n) (b ∷ bs) ≡ false
      → (first_waits (λ b. b.number == n) bs ≡ false → queue_of (confirmed_at bs n) ≡ queue_of bs)
      → queue_of (confirmed_at (b ∷ bs) n) ≡ queue_of (b ∷ bs)
  cases true true e g h rest = let yes : first_waits (λ b. b.number == n) (b ∷ bs) ≡ true = rw (e, g) refl in absurd cc
  cases true false e g h rest = rw (e, g) refl
  cases false true e g h rest = let skip : first_waits (λ b. b.number == n) (b ∷ bs) ≡ first_waits (λ b. b.number == n) bs = rw e refl in let on : first_waits (λ b. b.number == n) bs ≡ false = sym skip ∙ h in rw (e, g, rest on) refl
  cases false false e g h rest = let skip : first_waits (λ b. b.number == n) (b ∷ bs) ≡ first_waits (λ b. b.number == n) bs = rw e refl in let on : first_waits (λ b. b.number == n) bs ≡ false = sym skip ∙ h in rw (e, g) (rest on)

-- those that wait are those of the list
held_light : (f l k : ℕ) (b : Booking) (s : Status) → b.status ≡ s → is_waiting s ≡ false → waits_on f l k b ≡ 0
held_light f l k b Held e h = rw e refl
held_light f l k b Waiting e h = absurd cc

pub waiting_queue : (bs : List Booking) (f l k : ℕ) → waiting (queue_of bs) f l k ≡ waiting bs f l k
waiting_queue bs f l k = sum_kept (λ b. is_waiting b.status) (waits_on f l k) (λ b e. held_light f l k b b.status refl e) bs

-- memory for one booking more that waits
pub spare_both : (s : Spare) → s.booking ≡ true → s.waiting ≡ true → suffices Waits s ≡ true
spare_both s a b = rw (a, b) refl
