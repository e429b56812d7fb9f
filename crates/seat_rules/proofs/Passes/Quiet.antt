-- After a pass no waiting booking fits.
use Rattle.std.proofs.Common.{◌≡◌, ◌==◌, ◌&&◌, ℕ, zero, suc, ◌+◌, ◌-◌, ◌<◌, ◌≤◌, Bool, true, false, nat_le, List, [], ◌∷◌, ◌++◌, arith, refl, ap, sym, subst, ◌∙◌, append_assoc}
use Rattle.seat_rules.proofs.Common.{AllByRecursion, Place, Ladders, Steps, Table, held_from, room_on, room, least, ladder_at, Booking, Status, Held, Waiting, Advice, is_for, is_waiting, seats_on, held, Work, State, pass, may_confirm, confirmed, advice_of, NoneFits, booking_of, reduced, changed_by, sales_by, answer}
use Rattle.std.proofs.lemmas.List.{append-nil}
use Rattle.std.proofs.lemmas.List.Sums.{sum_by-cons, sum_by-append, sum_by_push}
use Rattle.std.proofs.lemmas.Bool.Decides.{nat_tests}
use Rattle.seat_rules.specs.Sequential.{NoneFitsAmong}
use Rattle.seat_rules.proofs.Step.Outcomes.{each_outcome}
use Rattle.seat_nesting.proofs.Rooms.{held_less}

-- more seats held leave less room
pub room_on_less : (xs : Steps) (old new : ℕ → ℕ) (class : ℕ) → ((k : ℕ) → old k ≤ new k)
    → room_on xs new class ≤ room_on xs old class
room_on_less [] old new class h = omega arith
room_on_less (s ∷ xs) old new class h = cases (s.class == class) s.closed refl refl (held_less (s ∷ xs) old new h) (room_on_less xs old new class h) where
  cases : (t u : Bool) → (s.class == class) ≡ t → s.closed ≡ u → held_from old (s ∷ xs) ≤ held_from new (s ∷ xs)
      → room_on xs new class ≤ room_on xs old class → room_on (s ∷ xs) new class ≤ room_on (s ∷ xs) old class
  cases true true e g more rest = rw (e, g) (omega arith)
  cases true false e g more rest = rw (e, g) (omega (arith, more))
  cases false u e g more rest = rw e (omega (arith, more, rest))

least_less : (f g : ℕ → ℕ) (from n : ℕ) → ((x : ℕ) → f x ≤ g x) → least f from n ≤ least g from n
least_less f g from zero h = h from
least_less f g from (suc n) h = omega (arith, least_less f g from n h, h (from + suc n))

pub room_less : (grid : Ladders) (old new : Table) (p : Place) (class : ℕ) → ((f l k : ℕ) → old f l k ≤ new f l k)
    → room grid new p class ≤ room grid old p class
room_less grid old new p class h = cases (nat_le p.from p.to) refl where
  cases : (t : Bool) → nat_le p.from p.to ≡ t → room grid new p class ≤ room grid old p class
  cases true e = rw e (least_less (λ l. room_on (ladder_at grid p.flight l) (new p.flight l) class) (λ l. room_on (ladder_at grid p.flight l) (old p.flight l) class) p.from (p.to - p.from)
      (λ l. room_on_less (ladder_at grid p.flight l) (old p.flight l) (new p.flight l) class (h p.flight l)))
  cases false e = rw e (omega arith)

-- what does not fit goes on not to fit
pub still : (grid : Ladders) (old new : List Booking) (b : Booking) → ((f l k : ℕ) → held old f l k ≤ held new f l k)
    → may_confirm grid old b ≡ false → may_confirm grid new b ≡ false
still grid old new b h e = cases (is_waiting b.status) (nat_le b.seats (room grid (held old) b.place b.class)) refl refl e where
  cases : (t u : Bool) → is_waiting b.status ≡ t → nat_le b.seats (room grid (held old) b.place b.class) ≡ u
      → (t && u) ≡ false → may_confirm grid new b ≡ false
  cases true true x y z = absurd cc
  cases true false x y z =
      let over : room grid (held old) b.place b.class < b.seats = grind (arith, nat_tests) in
      let less = room_less grid (held old) (held new) b.place b.class h in
      let past : room grid (held new) b.place b.class < b.seats = omega arith in
      let no_room : nat_le b.seats (room grid (held new) b.place b.class) ≡ false = grind (arith, nat_tests) in
      rw (x, no_room) refl
  cases false u x y z = rw x refl

pub all_push : (P : Booking → Type 0) (xs : List Booking) (b : Booking) → AllByRecursion P xs → P b
    → AllByRecursion P (xs ++ b ∷ [])
all_push P [] b a h = (h, tt)
all_push P (x ∷ xs) b a h = (a.0, all_push P xs b a.1 h)

pub all_map : (P Q : Booking → Type 0) (xs : List Booking) → ((b : Booking) → P b → Q b) → AllByRecursion P xs
    → AllByRecursion Q xs
all_map P Q [] f a = tt
all_map P Q (x ∷ xs) f a = (f x a.0, all_map P Q xs f a.1)

pub confirmed_more : (b : Booking) (s : Status) → b.status ≡ s → (f l k : ℕ)
    → seats_on f l k b ≤ seats_on f l k (confirmed b)
confirmed_more b Held e f l k = rw e (omega arith)
confirmed_more b Waiting e f l k = rw e (omega arith)

pub held_at : (done : List Booking) (b : Booking) (bs : List Booking) (f l k : ℕ)
    → held (done ++ b ∷ bs) f l k ≡ held done f l k + (seats_on f l k b + held bs f l k)
held_at done b bs f l k = sum_by-append (seats_on f l k) done (b ∷ bs) ∙ ap (λ x. held done f l k + x) (sum_by-cons (seats_on f l k) b bs)

pub quiet_pass : (grid : Ladders) (done bs : List Booking) (told : List Advice) → NoneFitsAmong grid (done ++ bs) done
    → NoneFitsAmong grid (pass grid done told bs).bookings (pass grid done told bs).bookings
quiet_pass grid done [] told a = let P : List Booking → Type 0 = λ l. NoneFitsAmong grid l done in subst P (append-nil done) a
quiet_pass grid done (b ∷ bs) told a =
    cases (may_confirm grid (done ++ b ∷ bs) b) refl (λ (x : Booking) (t : List Advice) (h : NoneFitsAmong grid ((done ++ x ∷ []) ++ bs) (done ++ x ∷ [])). quiet_pass grid (done ++ x ∷ []) bs t h)
  where
    Q : List Booking → List Booking → Type 0
    Q x y = NoneFitsAmong grid x y

    cases : (t : Bool) → may_confirm grid (done ++ b ∷ bs) b ≡ t
        → ((x : Booking) (t : List Advice) → NoneFitsAmong grid ((done ++ x ∷ []) ++ bs) (done ++ x ∷ [])
        → NoneFitsAmong grid (pass grid (done ++ x ∷ []) t bs).bookings (pass grid (done ++ x ∷ []) t bs).bookings)
        → NoneFitsAmong grid (pass grid done told (b ∷ bs)).bookings (pass grid done told (b ∷ bs)).bookings
    cases true e rest =
        let more : (f l k : ℕ) → held (done ++ b ∷ bs) f l k ≤ held (done ++ confirmed b ∷ bs) f l k =
        λ f l k. omega (arith, held_at done b bs f l k, held_at done (confirmed b) bs f l k, confirmed_more b b.status refl f l k) in
        let P : List Booking → Type 0 = λ l. NoneFitsAmong grid l (done ++ confirmed b ∷ []) in
        rw e (rest (confirmed b) (told ++ advice_of b ∷ []) (subst P (sym (append_assoc done (confirmed b ∷ []) bs))
        (all_push (λ x. may_confirm grid (done ++ confirmed b ∷ bs) x ≡ false) done (confirmed b)
        (all_map (λ x. may_confirm grid (done ++ b ∷ bs) x ≡ false) (λ x. may_confirm grid (done ++ confirmed b ∷ bs) x ≡ false) done
        (λ x. still grid (done ++ b ∷ bs) (done ++ confirmed b ∷ bs) x more) a)
        refl)))
    cases false e rest =
        let P : List Booking → Type 0 = λ l. NoneFitsAmong grid l (done ++ b ∷ []) in
        rw e (rest b told (subst P (sym (append_assoc done (b ∷ []) bs)) (all_push (λ x. may_confirm grid (done ++ b ∷ bs) x ≡ false) done b a e)))

pub quiet_passed : (grid : Ladders) (bs : List Booking) → NoneFits grid (pass grid [] [] bs).bookings
quiet_passed grid bs = quiet_pass grid [] bs [] tt

-- one booking more
more_push : (xs : List Booking) (b : Booking) (f l k : ℕ) → held xs f l k ≤ held (xs ++ b ∷ []) f l k
more_push xs b f l k = omega (arith, sum_by_push (seats_on f l k) xs b)

quiet_push : (grid : Ladders) (xs : List Booking) (b : Booking) → NoneFits grid xs
    → may_confirm grid (xs ++ b ∷ []) b ≡ false → NoneFits grid (xs ++ b ∷ [])
quiet_push grid xs b q over =
    all_push (λ x. may_confirm grid (xs ++ b ∷ []) x ≡ false) xs b
    (all_map (λ x. may_confirm grid xs x ≡ false) (λ x. may_confirm grid (xs ++ b ∷ []) x ≡ false) xs
    (λ x. still grid xs (xs ++ b ∷ []) x (more_push xs b)) q)
    over

over_push : (grid : Ladders) (xs : List Booking) (b : Booking) → room grid (held xs) b.place b.class < b.seats
    → may_confirm grid (xs ++ b ∷ []) b ≡ false
over_push grid xs b over =
    let less = room_less grid (held xs) (held (xs ++ b ∷ [])) b.place b.class (more_push xs b) in
    let past : room grid (held (xs ++ b ∷ [])) b.place b.class < b.seats = omega arith in
    let no_room : nat_le b.seats (room grid (held (xs ++ b ∷ [])) b.place b.class) ≡ false = grind (arith, nat_tests) in
    rw no_room (and_false (is_waiting b.status))
  where
    and_false : (t : Bool) → (t && false) ≡ false
    and_false true = refl
    and_false false = refl

-- no answer lets a waiting booking fit
pub quiet_answer : (s : State) (number : ℕ) (w : Work) → NoneFits s.grid s.bookings
    → NoneFits (answer s number w).state.grid (answer s number w).state.bookings
quiet_answer s number w q =
    each_outcome (λ v o. NoneFits o.state.grid o.state.bookings) s number
    (λ v r. q)
    (λ c place at none fits. quiet_push s.grid s.bookings (booking_of number c place Held) q refl)
    (λ c place at none over why. quiet_push s.grid s.bookings (booking_of number c place Waiting) q (over_push s.grid s.bookings (booking_of number c place Waiting) over))
    (λ c place at none. quiet_passed s.grid (s.bookings ++ booking_of number c place Waiting ∷ []))
    (λ c place b at found le. quiet_passed s.grid (reduced (is_for c.locator place c.class) c.seats s.bookings))
    (λ c may. quiet_passed (changed_by s.grid c) s.bookings)
    (λ c may. quiet_passed (sales_by s.grid c) s.bookings)
    w
