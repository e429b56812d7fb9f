-- Over the limits that they have, live bookings are carried as they are: no pass confirms any that waited.
use Rattle.std.proofs.Common.{◌≡◌, ℕ, ◌+◌, ◌≤◌, true, false, List, [], ◌∷◌, ◌++◌, length, arith, refl, ap, sym, subst, ◌∙◌, length-append, append_assoc}
use Rattle.std.proofs.lemmas.List.{append-nil}
use Rattle.std.proofs.lemmas.List.Sums.{sum_by-cons, sum_by-append, sum_by_push}
use Rattle.std.specs.List.{AllByRecursion}
use Rattle.seat_journal.specs.declared.entry.Advice.{Advice}
use Rattle.seat_journal.specs.declared.entry.Work.TheVariants.{Seats}
use Rattle.seat_nesting.specs.Nesting.{Ladders, IsWithin, ladder_at}
use Rattle.seat_rules.specs.declared.booking.Booking.{Booking}
use Rattle.seat_rules.specs.declared.booking.Status.TheVariants.{Waiting}
use Rattle.seat_rules.specs.Bookings.{Differs, IsApart, held, is_held, seats_on, waiting, waits_on}
use Rattle.seat_rules.specs.Sequential.{NoneFitsAmong, State, answer, may_confirm, pass, state_of}
use Rattle.seat_rules.proofs.Passes.Quiet.{still}
use Rattle.seat_carrying.specs.Carrying.{anew, asked_from, command_for, in_turn, sells, those_held, those_waiting, wait_of}
use Rattle.seat_carrying.specs.Laws.{CarryIsIdentity}
use Rattle.seat_carrying.proofs.Turns.{all_turn, apart_turn, held_turn, waiting_turn}
use Rattle.seat_carrying.proofs.Asking.{anew_push, asked_both, carried_anew, carried_differs, carried_waits, listed}
use Rattle.seat_carrying.proofs.Carried.{ahead_differs, all_ahead, all_behind, all_waiting, held_anew, held_first, waits_behind}

-- a pass over bookings of which none fits leaves them
pub pass_none : (grid : Ladders) (done bs : List Booking) (told : List Advice) → NoneFitsAmong grid (done ++ bs) bs
    → (pass grid done told bs).bookings ≡ done ++ bs
pass_none grid done [] told none = sym (append-nil done)
pass_none grid done (b ∷ bs) told none =
    let same = append_assoc done (b ∷ []) bs in
    let rest : NoneFitsAmong grid ((done ++ b ∷ []) ++ bs) bs = subst (λ (l : List Booking). NoneFitsAmong grid l bs) (sym same) none.1 in
    rw none.0 (pass_none grid (done ++ b ∷ []) bs told rest ∙ same)

-- none of the renumbered ones fits, where as many seats are held as when none of them did
pub none_anew : (grid : Ladders) (old new : List Booking) (line : ℕ) (bs : List Booking)
    → ((f l k : ℕ) → held old f l k ≤ held new f l k) → NoneFitsAmong grid old bs → NoneFitsAmong grid new (anew line bs)
none_anew grid old new line [] more none = tt
none_anew grid old new line (b ∷ bs) more none =
    (still grid old new (record b { number = line }) more none.0, none_anew grid old new (line + 1) bs more none.1)

-- one that waits holds nothing
holds_none : (b : Booking) → b.status ≡ Waiting → (f l k : ℕ) → seats_on f l k b ≡ 0
holds_none b is f l k = let not_held : is_held b.status ≡ false = ap is_held is in rw not_held refl

none_turn : (grid : Ladders) (bookings bs : List Booking) → NoneFitsAmong grid bookings bs → NoneFitsAmong grid bookings (in_turn bs)
none_turn grid bookings bs none = all_turn (λ b. may_confirm grid bookings b ≡ false) bs none

module _ (grid : Ladders) (line : ℕ) (bookings : List Booking)
    (within : (flight leg : ℕ) → IsWithin (ladder_at grid flight leg) (held bookings flight leg))
    (waits : (flight leg class : ℕ) → waiting bookings flight leg class ≤ wait_of (ladder_at grid flight leg) class)
  where
    -- those that wait, behind all that hold: each is listed, and its pass finds none that fits
    wait_still : (past bs : List Booking) (n : ℕ) → n ≡ line + length past → AllByRecursion (λ b. b.status ≡ Waiting) bs
        → AllByRecursion (λ b. sells grid b.place b.class ≡ true) bs → IsApart (past ++ bs)
        → ((f l k : ℕ) → waiting (past ++ bs) f l k ≤ waiting bookings f l k)
        → ((f l k : ℕ) → held bookings f l k ≤ held past f l k) → NoneFitsAmong grid bookings (past ++ bs)
        → asked_from (state_of grid (anew line past)) n bs ≡ state_of grid (anew line (past ++ bs))
    wait_still past [] n at all sold_there apart less full none = ap (λ (l : List Booking). state_of grid (anew line l)) (sym (append-nil past))
    wait_still past (b ∷ bs) n at all sold_there apart less full none =
        ap (λ (s : State). asked_from s (n + 1) bs) (step ∙ ap (state_of grid) (sym (anew_push line past n b at)))
        ∙ wait_still (past ++ b ∷ []) bs (n + 1) (omega (arith, at, length-append past (b ∷ []))) all.1 sold_there.1
        (subst IsApart (sym same) apart)
        (λ f l k. let all_wait = ap (λ (x : List Booking). waiting x f l k) same in omega (arith, all_wait, less f l k))
        (λ f l k. omega (arith, full f l k, sum_by_push (seats_on f l k) past b))
        (subst (λ (l : List Booking). NoneFitsAmong grid bookings l) (sym same) none)
        ∙ ap (λ (l : List Booking). state_of grid (anew line l)) same
      where
        same : (past ++ b ∷ []) ++ bs ≡ past ++ b ∷ bs
        same = append_assoc past (b ∷ []) bs

        done : List Booking
        done = anew line past

        differs : AllByRecursion (λ x. Differs x b) done
        differs = carried_differs b line past done (carried_anew line past) (ahead_differs past b bs apart)

        few : (f l k : ℕ) → waiting (past ++ b ∷ []) f l k ≤ waiting bookings f l k
        few f l k =
            omega (arith, less f l k, sum_by-append (waits_on f l k) past (b ∷ bs), sum_by-cons (waits_on f l k) b bs, sum_by_push (waits_on f l k) past b)

        with_it : done ++ record b { number = n } ∷ [] ≡ anew line (past ++ b ∷ [])
        with_it = sym (anew_push line past n b at)

        more : (f l k : ℕ) → held bookings f l k ≤ held (anew line (past ++ b ∷ [])) f l k
        more f l k = omega (arith, held_anew line (past ++ b ∷ []) f l k, sum_by_push (seats_on f l k) past b, full f l k)

        none_now : NoneFitsAmong grid (anew line (past ++ b ∷ [])) (anew line (past ++ b ∷ []))
        none_now =
            none_anew grid bookings (anew line (past ++ b ∷ [])) line (past ++ b ∷ []) more
            (all_ahead (λ x. may_confirm grid bookings x ≡ false) (past ++ b ∷ []) bs (subst (λ (l : List Booking). NoneFitsAmong grid bookings l) (sym same) none))

        passed_same : (pass grid [] [] (done ++ record b { number = n } ∷ [])).bookings ≡ done ++ record b { number = n } ∷ []
        passed_same = pass_none grid [] (done ++ record b { number = n } ∷ []) [] (subst (λ (l : List Booking). NoneFitsAmong grid l l) (sym with_it) none_now)

        step : (answer (state_of grid done) n (Seats (command_for b))).state ≡ state_of grid (done ++ record b { number = n } ∷ [])
        step =
            listed grid done n b all.0 differs (waits_behind grid line bookings within waits past done b all.0 sold_there.0 (carried_waits line past done (carried_anew line past)) few)
            ∙ ap (state_of grid) passed_same

sum_waiting : (xs : List Booking) → AllByRecursion (λ b. b.status ≡ Waiting) xs → (f l k : ℕ) → held xs f l k ≡ 0
sum_waiting [] a f l k = refl
sum_waiting (x ∷ xs) a f l k = omega (arith, sum_by-cons (seats_on f l k) x xs, holds_none x a.0 f l k, sum_waiting xs a.1 f l k)

pub carry_is_identity : CarryIsIdentity
carry_is_identity grid bookings line has none =
    let hs : List Booking = those_held bookings in
    let ws : List Booking = those_waiting bookings in
    let n : ℕ = line + length hs in
    asked_both hs ws (state_of grid []) line n refl
    ∙ ap (λ (s : State). asked_from s n ws) (held_first grid bookings line has)
    ∙ wait_still grid line bookings has.within has.listed hs ws n refl (all_waiting bookings)
    (all_behind (λ b. sells grid b.place b.class ≡ true) hs ws (all_turn (λ b. sells grid b.place b.class ≡ true) bookings has.placed))
    (apart_turn bookings has.apart)
    (λ f l k. omega (arith, waiting_turn bookings f l k))
    (λ f l k. omega (arith, held_turn bookings f l k, sum_by-append (seats_on f l k) hs ws, sum_waiting ws (all_waiting bookings) f l k))
    (none_turn grid bookings bookings none)
