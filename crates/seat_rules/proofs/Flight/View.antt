-- One flight's bookings: the room that they leave, and the pass over them.
use Rattle.std.proofs.Common.{◌≡◌, ◌==◌, ◌&&◌, ℕ, zero, suc, ◌+◌, ◌-◌, ◌≤◌, Bool, true, false, nat_le, List, [], ◌∷◌, ◌++◌, if◌then◌else◌, arith, refl, ap, sym, subst, ◌∙◌, append_assoc}
use Rattle.seat_rules.proofs.Common.{Place, Ladders, Steps, Table, legs_of, room_on, room, least, ladder_at, may_wait, is_listed, Booking, Status, Held, Waiting, Advice, is_waiting, seats_on, held, waiting, pass, may_confirm, confirmed, advice_of, renumbered, AgreeOn, NoneElseFits}
use Rattle.std.proofs.lemmas.Bool.Decides.{nat_tests}
use Rattle.std.proofs.lemmas.List.Sums.{sum_by-cons}
use Rattle.seat_nesting.specs.Nesting.{steps_at, may_wait_on, is_listed_on, each_leg}
use Rattle.seat_rules.specs.Bookings.{waits_on}
use Rattle.seat_rules.specs.Flights.{bookings_on, pass_on, PassOfFlight, RoomOfFlight}
use Rattle.seat_rules.proofs.Passes.Quiet.{room_on_less, still, all_map, confirmed_more, held_at}

-- the bookings on the flight, in order, numbered anew
abbrev pub view : (ℕ → ℕ) → ℕ → List Booking → List Booking
view anew flight [] = []
view anew flight (b ∷ bs) = (if b.place.flight == flight then renumbered anew b ∷ view anew flight bs else view anew flight bs)

-- the advices on the flight, in order, numbered anew
abbrev pub told_on : (ℕ → ℕ) → ℕ → List Advice → List Advice
told_on anew flight [] = []
told_on anew flight (a ∷ advices) = (if a.place.flight == flight then record a { number = anew a.number } ∷ told_on anew flight advices else told_on anew flight advices)

-- tables that agree on a flight leave the same room and waiting room there
least_same : (f g : ℕ → ℕ) (from n : ℕ) → ((x : ℕ) → f x ≡ g x) → least f from n ≡ least g from n
least_same f g from zero h = h from
least_same f g from (suc n) h = rw (least_same f g from n h, h (from + suc n)) refl

room_on_equal : (xs : Steps) (t u : ℕ → ℕ) (class : ℕ) → ((k : ℕ) → t k ≡ u k) → room_on xs t class ≡ room_on xs u class
room_on_equal xs t u class h = omega (arith, room_on_less xs t u class (λ k. omega (arith, h k)), room_on_less xs u t class (λ k. omega (arith, h k)))

pub room_same : (grid : Ladders) (t u : Table) (p : Place) (class : ℕ) → ((l k : ℕ) → t p.flight l k ≡ u p.flight l k)
    → room grid t p class ≡ room grid u p class
room_same grid t u p class h = cases (nat_le p.from p.to) refl where
  cases : (b : Bool) → nat_le p.from p.to ≡ b → room grid t p class ≡ room grid u p class
  cases true e = rw e (least_same (λ l. room_on (ladder_at grid p.flight l) (t p.flight l) class) (λ l. room_on (ladder_at grid p.flight l) (u p.flight l) class) p.from (p.to - p.from)
      (λ l. room_on_equal (ladder_at grid p.flight l) (t p.flight l) (u p.flight l) class (h l)))
  cases false e = rw e refl

may_wait_on_same : (xs : Steps) (t u : ℕ → ℕ) (class n : ℕ) → t class ≡ u class
    → may_wait_on xs t class n ≡ may_wait_on xs u class n
may_wait_on_same [] t u class n h = refl
may_wait_on_same (s ∷ xs) t u class n h = rw (h, may_wait_on_same xs t u class n h) refl

pub each_leg_same : (f g : ℕ → Bool) (from n : ℕ) → ((x : ℕ) → f x ≡ g x) → each_leg f from n ≡ each_leg g from n
each_leg_same f g from zero h = h from
each_leg_same f g from (suc n) h = rw (each_leg_same f g from n h, h (from + suc n)) refl

pub may_wait_same : (grid : Ladders) (t u : Table) (p : Place) (class n : ℕ)
    → ((l : ℕ) → t p.flight l class ≡ u p.flight l class) → may_wait grid t p class n ≡ may_wait grid u p class n
may_wait_same grid t u p class n h =
    ap (λ x. nat_le p.from p.to && x)
    (each_leg_same (λ l. may_wait_on (ladder_at grid p.flight l) (t p.flight l) class n) (λ l. may_wait_on (ladder_at grid p.flight l) (u p.flight l) class n) p.from (p.to - p.from)
    (λ l. may_wait_on_same (ladder_at grid p.flight l) (t p.flight l) (u p.flight l) class n (h l)))

-- so do grids that agree on it
pub legs_agree : (g h : Ladders) (f x : ℕ) → AgreeOn f g h → x ≡ f → legs_of g x ≡ legs_of h x
legs_agree g h f x a e = let P : ℕ → Type 0 = λ y. legs_of g y ≡ legs_of h y in subst P (sym e) a

pub room_agree : (g h : Ladders) (f : ℕ) (t : Table) (p : Place) (class : ℕ) → AgreeOn f g h → p.flight ≡ f
    → room g t p class ≡ room h t p class
room_agree g h f t p class a e =
    ap (λ (legs : List Steps). if nat_le p.from p.to then least (λ leg. room_on (steps_at legs leg) (t p.flight leg) class) p.from (p.to - p.from) else 0) (legs_agree g h f p.flight a e)

may_wait_agree : (g h : Ladders) (f : ℕ) (t : Table) (p : Place) (class n : ℕ) → AgreeOn f g h → p.flight ≡ f
    → may_wait g t p class n ≡ may_wait h t p class n
may_wait_agree g h f t p class n a e =
    ap (λ (legs : List Steps). nat_le p.from p.to && each_leg (λ leg. may_wait_on (steps_at legs leg) (t p.flight leg) class n) p.from (p.to - p.from)) (legs_agree g h f p.flight a e)

pub listed_agree : (g h : Ladders) (f : ℕ) (p : Place) (class : ℕ) → AgreeOn f g h → p.flight ≡ f
    → is_listed g p class ≡ is_listed h p class
listed_agree g h f p class a e = ap (λ (legs : List Steps). nat_le p.from p.to && each_leg (λ leg. is_listed_on (steps_at legs leg) class) p.from (p.to - p.from)) (legs_agree g h f p.flight a e)

-- one booking more, on the flight or not
pub view_here : (anew : ℕ → ℕ) (f : ℕ) (b : Booking) (bs : List Booking) → (b.place.flight == f) ≡ true
    → view anew f (b ∷ bs) ≡ renumbered anew b ∷ view anew f bs
view_here anew f b bs e = rw e refl

pub view_away : (anew : ℕ → ℕ) (f : ℕ) (b : Booking) (bs : List Booking) → (b.place.flight == f) ≡ false
    → view anew f (b ∷ bs) ≡ view anew f bs
view_away anew f b bs e = rw e refl

pub view_append : (anew : ℕ → ℕ) (f : ℕ) (xs ys : List Booking)
    → view anew f (xs ++ ys) ≡ view anew f xs ++ view anew f ys
view_append anew f [] ys = refl
view_append anew f (b ∷ bs) ys = cases (b.place.flight == f) refl (view_append anew f bs ys) where
  cases : (t : Bool) → (b.place.flight == f) ≡ t → view anew f (bs ++ ys) ≡ view anew f bs ++ view anew f ys
      → view anew f (b ∷ (bs ++ ys)) ≡ view anew f (b ∷ bs) ++ view anew f ys
  cases true e rest = rw (e, rest) refl
  cases false e rest = rw (e, rest) refl

pub told_append : (anew : ℕ → ℕ) (f : ℕ) (xs ys : List Advice)
    → told_on anew f (xs ++ ys) ≡ told_on anew f xs ++ told_on anew f ys
told_append anew f [] ys = refl
told_append anew f (a ∷ xs) ys = cases (a.place.flight == f) refl (told_append anew f xs ys) where
  cases : (t : Bool) → (a.place.flight == f) ≡ t → told_on anew f (xs ++ ys) ≡ told_on anew f xs ++ told_on anew f ys
      → told_on anew f (a ∷ (xs ++ ys)) ≡ told_on anew f (a ∷ xs) ++ told_on anew f ys
  cases true e rest = rw (e, rest) refl
  cases false e rest = rw (e, rest) refl

held_elsewhere : (f l k : ℕ) (b : Booking) (s : Status) → b.status ≡ s → (b.place.flight == f) ≡ false
    → seats_on f l k b ≡ 0
held_elsewhere f l k b Held s e = rw (s, e) refl
held_elsewhere f l k b Waiting s e = rw s refl

waits_elsewhere : (f l k : ℕ) (b : Booking) (s : Status) → b.status ≡ s → (b.place.flight == f) ≡ false
    → waits_on f l k b ≡ 0
waits_elsewhere f l k b Held s e = rw s refl
waits_elsewhere f l k b Waiting s e = rw (s, e) refl

pub held_view : (anew : ℕ → ℕ) (f : ℕ) (bs : List Booking) (l k : ℕ) → held (view anew f bs) f l k ≡ held bs f l k
held_view anew f [] l k = refl
held_view anew f (b ∷ bs) l k = cases (b.place.flight == f) refl (held_view anew f bs l k) where
  g : Booking → ℕ
  g = seats_on f l k

  cases : (t : Bool) → (b.place.flight == f) ≡ t → held (view anew f bs) f l k ≡ held bs f l k
      → held (view anew f (b ∷ bs)) f l k ≡ held (b ∷ bs) f l k
  cases true e rest =
      ap (λ (x : List Booking). held x f l k) (view_here anew f b bs e)
      ∙ (sum_by-cons (seats_on f l k) (renumbered anew b) (view anew f bs) ∙ (ap (λ x. seats_on f l k b + x) rest ∙ sym (sum_by-cons (seats_on f l k) b bs)))
  cases false e rest =
      let none = held_elsewhere f l k b b.status refl e in
      let whole = sum_by-cons (seats_on f l k) b bs in
      ap (λ (x : List Booking). held x f l k) (view_away anew f b bs e) ∙ (rest ∙ omega (arith, none, whole))

pub waiting_view : (anew : ℕ → ℕ) (f : ℕ) (bs : List Booking) (l k : ℕ)
    → waiting (view anew f bs) f l k ≡ waiting bs f l k
waiting_view anew f [] l k = refl
waiting_view anew f (b ∷ bs) l k = cases (b.place.flight == f) refl (waiting_view anew f bs l k) where
  cases : (t : Bool) → (b.place.flight == f) ≡ t → waiting (view anew f bs) f l k ≡ waiting bs f l k
      → waiting (view anew f (b ∷ bs)) f l k ≡ waiting (b ∷ bs) f l k
  cases true e rest =
      ap (λ (x : List Booking). waiting x f l k) (view_here anew f b bs e)
      ∙ (sum_by-cons (waits_on f l k) (renumbered anew b) (view anew f bs) ∙ (ap (λ x. waits_on f l k b + x) rest ∙ sym (sum_by-cons (waits_on f l k) b bs)))
  cases false e rest =
      let none = waits_elsewhere f l k b b.status refl e in
      let whole = sum_by-cons (waits_on f l k) b bs in
      ap (λ (x : List Booking). waiting x f l k) (view_away anew f b bs e) ∙ (rest ∙ omega (arith, none, whole))

pub room_view : (grid : Ladders) (anew : ℕ → ℕ) (f : ℕ) (bs : List Booking) (p : Place) (class : ℕ) → p.flight ≡ f
    → room grid (held (view anew f bs)) p class ≡ room grid (held bs) p class
room_view grid anew f bs p class e =
    let P : ℕ → Type 0 = λ x. (l k : ℕ) → held (view anew f bs) x l k ≡ held bs x l k in
    room_same grid (held (view anew f bs)) (held bs) p class (subst P (sym e) (held_view anew f bs))

may_wait_view : (grid : Ladders) (anew : ℕ → ℕ) (f : ℕ) (bs : List Booking) (p : Place) (class n : ℕ) → p.flight ≡ f
    → may_wait grid (waiting (view anew f bs)) p class n ≡ may_wait grid (waiting bs) p class n
may_wait_view grid anew f bs p class n e =
    let P : ℕ → Type 0 = λ x. (l : ℕ) → waiting (view anew f bs) x l class ≡ waiting bs x l class in
    may_wait_same grid (waiting (view anew f bs)) (waiting bs) p class n (subst P (sym e) (λ l. waiting_view anew f bs l class))

-- over two grids that agree on the flight
pub room_over : (g h : Ladders) (anew : ℕ → ℕ) (f : ℕ) (bs : List Booking) (p : Place) (class : ℕ) → AgreeOn f g h
    → p.flight ≡ f → room h (held (view anew f bs)) p class ≡ room g (held bs) p class
room_over g h anew f bs p class a e = room_view h anew f bs p class e ∙ sym (room_agree g h f (held bs) p class a e)

pub may_wait_over : (g h : Ladders) (anew : ℕ → ℕ) (f : ℕ) (bs : List Booking) (p : Place) (class n : ℕ) → AgreeOn f g h
    → p.flight ≡ f
    → may_wait h (waiting (view anew f bs)) p class n ≡ may_wait g (waiting bs) p class n
may_wait_over g h anew f bs p class n a e = may_wait_view h anew f bs p class n e ∙ sym (may_wait_agree g h f (waiting bs) p class n a e)

pub bookings_view : (f : ℕ) (bs : List Booking) → view (λ n. n) f bs ≡ bookings_on f bs
bookings_view f [] = refl
bookings_view f (b ∷ bs) = cases (b.place.flight == f) refl (bookings_view f bs) where
  cases : (t : Bool) → (b.place.flight == f) ≡ t → view (λ n. n) f bs ≡ bookings_on f bs
      → view (λ n. n) f (b ∷ bs) ≡ bookings_on f (b ∷ bs)
  cases true e rest = rw (e, rest) refl
  cases false e rest = rw (e, rest) refl

pub room_of_flight : RoomOfFlight
room_of_flight g h bs p class a =
    sym (room_over g h (λ n. n) p.flight bs p class a refl) ∙ ap (λ (x : List Booking). room h (held x) p class) (bookings_view p.flight bs)

-- one booking of a pass
pub pass_takes : (grid : Ladders) (done : List Booking) (told : List Advice) (b : Booking) (bs : List Booking)
    → may_confirm grid (done ++ b ∷ bs) b ≡ true
    → pass grid done told (b ∷ bs) ≡ pass grid (done ++ confirmed b ∷ []) (told ++ advice_of b ∷ []) bs
pass_takes grid done told b bs e = rw e refl

pub pass_leaves : (grid : Ladders) (done : List Booking) (told : List Advice) (b : Booking) (bs : List Booking)
    → may_confirm grid (done ++ b ∷ bs) b ≡ false
    → pass grid done told (b ∷ bs) ≡ pass grid (done ++ b ∷ []) told bs
pass_leaves grid done told b bs e = rw e refl

-- a booking confirmed leaves less room for those that wait behind it
confirm_less : (grid : Ladders) (f : ℕ) (done : List Booking) (b : Booking) (bs : List Booking)
    → NoneElseFits f grid (done ++ b ∷ bs) bs → NoneElseFits f grid ((done ++ confirmed b ∷ []) ++ bs) bs
confirm_less grid f done b bs a =
    let more : (x l k : ℕ) → held (done ++ b ∷ bs) x l k ≤ held (done ++ confirmed b ∷ bs) x l k =
    λ x l k. omega (arith, held_at done b bs x l k, held_at done (confirmed b) bs x l k, confirmed_more b b.status refl x l k) in
    let P : List Booking → Type 0 = λ l. NoneElseFits f grid l bs in
    subst P (sym (append_assoc done (confirmed b ∷ []) bs))
    (all_map (λ x. (x.place.flight == f) ≡ false → may_confirm grid (done ++ b ∷ bs) x ≡ false) (λ x. (x.place.flight == f) ≡ false → may_confirm grid (done ++ confirmed b ∷ bs) x ≡ false) bs
    (λ x h e. still grid (done ++ b ∷ bs) (done ++ confirmed b ∷ bs) x more (h e)) a)

pub pass_of : (f : ℕ) (grid : Ladders) (done : List Booking) (told : List Advice) (bs : List Booking)
    → NoneElseFits f grid (done ++ bs) bs
    → pass grid done told bs ≡ pass_on f grid done told bs
pass_of f grid done told [] a = refl
pass_of f grid done told (b ∷ bs) a =
    cases (b.place.flight == f) (may_confirm grid (done ++ b ∷ bs) b) refl refl
    (λ (x : Booking) (t : List Advice) (h : NoneElseFits f grid ((done ++ x ∷ []) ++ bs) bs). pass_of f grid (done ++ x ∷ []) t bs h)
  where
    cases : (t u : Bool) → (b.place.flight == f) ≡ t → may_confirm grid (done ++ b ∷ bs) b ≡ u
        → ((x : Booking) (t : List Advice) → NoneElseFits f grid ((done ++ x ∷ []) ++ bs) bs
        → pass grid (done ++ x ∷ []) t bs ≡ pass_on f grid (done ++ x ∷ []) t bs)
        → pass grid done told (b ∷ bs) ≡ pass_on f grid done told (b ∷ bs)
    cases true true e may rest = rw (may, e) (rest (confirmed b) (told ++ advice_of b ∷ []) (confirm_less grid f done b bs a.1))
    cases true false e may rest = rw (may, e) (rest b told (let P : List Booking → Type 0 = λ l. NoneElseFits f grid l bs in subst P (sym (append_assoc done (b ∷ []) bs)) a.1))
    cases false true e may rest = let no : may_confirm grid (done ++ b ∷ bs) b ≡ false = a.0 e in absurd cc
    cases false false e may rest = rw (may, e) (rest b told (let P : List Booking → Type 0 = λ l. NoneElseFits f grid l bs in subst P (sym (append_assoc done (b ∷ []) bs)) a.1))

-- whether a booking on the flight fits is the same over both grids
pub may_confirm_agree : (g h : Ladders) (f : ℕ) (book : List Booking) (b : Booking) → AgreeOn f g h
    → (b.place.flight == f) ≡ true → may_confirm g book b ≡ may_confirm h book b
may_confirm_agree g h f book b a e =
    let q : b.place.flight ≡ f = grind (arith, nat_tests) in
    ap (λ r. is_waiting b.status && nat_le b.seats r) (room_agree g h f (held book) b.place b.class a q)

pass_on_agree : (f : ℕ) (g h : Ladders) (done : List Booking) (told : List Advice) (bs : List Booking) → AgreeOn f g h
    → pass_on f g done told bs ≡ pass_on f h done told bs
pass_on_agree f g h done told [] a = refl
pass_on_agree f g h done told (b ∷ bs) a =
    cases (b.place.flight == f) (may_confirm g (done ++ b ∷ bs) b) refl refl (λ (x : Booking) (t : List Advice). pass_on_agree f g h (done ++ x ∷ []) t bs a)
  where
    cases : (t u : Bool) → (b.place.flight == f) ≡ t → may_confirm g (done ++ b ∷ bs) b ≡ u
        → ((x : Booking) (t : List Advice) → pass_on f g (done ++ x ∷ []) t bs ≡ pass_on f h (done ++ x ∷ []) t bs)
        → pass_on f g done told (b ∷ bs) ≡ pass_on f h done told (b ∷ bs)
    cases true true e may rest = let too = sym (may_confirm_agree g h f (done ++ b ∷ bs) b a e) ∙ may in rw (e, may, too) (rest (confirmed b) (told ++ advice_of b ∷ []))
    cases true false e may rest = let too = sym (may_confirm_agree g h f (done ++ b ∷ bs) b a e) ∙ may in rw (e, may, too) (rest b told)
    cases false u e may rest = rw e (rest b told)

pub pass_of_flight : PassOfFlight
pass_of_flight f g h bookings agree a = pass_of f g [] [] bookings a ∙ pass_on_agree f g h [] [] bookings agree
