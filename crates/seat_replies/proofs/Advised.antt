-- The advices of a legal history are for bookings of its lines that ask for seats on a place.
use Rattle.std.proofs.Common.{◌≡◌, ℕ, zero, suc, ◌+◌, ◌-◌, ◌<◌, ◌≤◌, Bool, true, false, nat_le, List, [], ◌∷◌, ◌++◌, length, take, get_or, refl, sym, ap, ◌∙◌, subst, arith, length-append, Option, Some, IfSome}
use Rattle.seat_replies.proofs.Common.{slice_get, AllByRecursion, Place, Fits, Ladders, Advice, Command, Entry, Work, Seats, IsLegal, IsNext}
use Rattle.std.proofs.lemmas.List.{take_more}
use Rattle.seat_rules.specs.declared.booking.Booking.{Booking}
use Rattle.seat_rules.specs.declared.booking.Status.TheVariants.{Held, Waiting}
use Rattle.seat_rules.specs.Bookings.{is_for}
use Rattle.seat_rules.specs.Sequential.{State, Outcome, answer, pass, may_confirm, confirmed, advice_of, reduced, booking_of, changed_by, sales_by}
use Rattle.seat_rules.specs.Journal.{replay, FitsWork}
use Rattle.seat_rules.proofs.History.Lines.{replay_next}
use Rattle.seat_rules.proofs.History.Legal.{each_legal}
use Rattle.seat_rules.proofs.Step.Outcomes.{each_outcome}
use Rattle.seat_rules.proofs.Kept.Commits.{get_last}

module _ {A : Type 0} where
  pub all_push : (P : A → Type 0) (xs : List A) (x : A) → AllByRecursion P xs → P x → AllByRecursion P (xs ++ x ∷ [])
  all_push P [] x all last = (last, tt)
  all_push P (y ∷ ys) x all last = (all.0, all_push P ys x all.1 last)

  pub all_more : (P : A → Type 0) (xs : List A) (i : ℕ) (x : A) → i < length xs → x ≡ get_or xs i x
      → AllByRecursion P (take i xs) → P x → AllByRecursion P (take (i + 1) xs)
  all_more P xs i x lt is all here =
      let longer : take (i + 1) xs ≡ take i xs ++ x ∷ [] = take_more xs i x lt ∙ ap (λ (y : A). take i xs ++ y ∷ []) (sym is) in
      subst (AllByRecursion P) (sym longer) (all_push P (take i xs) x all here)

  all_weaker : (P Q : A → Type 0) (xs : List A) → ((x : A) → P x → Q x) → AllByRecursion P xs → AllByRecursion Q xs
  all_weaker P Q [] h all = tt
  all_weaker P Q (x ∷ xs) h all = (h x all.0, all_weaker P Q xs h all.1)

-- ---- lines that ask for seats on a place, in a longer history

-- the line of this number asks for seats on a place of the grid
pub record IsPlaced (grid : Ladders) (history : List Entry) (number : ℕ) : Type 0 where
  pub within : (1 ≤ number) × (number ≤ length history)
  pub line : Entry
  pub at : slice_get history (number - 1) ≡ Some line
  pub command : Command
  pub work_is : line.work ≡ Seats command
  pub place : Place
  pub place_is : command.place ≡ Some place
  pub fits : Fits grid place

get_longer : (xs more : List Entry) (i : ℕ) (x : Entry) → slice_get xs i ≡ Some x → slice_get (xs ++ more) i ≡ Some x
get_longer [] more i x at = absurd cc
get_longer (y ∷ xs) more zero x at = at
get_longer (y ∷ xs) more (suc i) x at = get_longer xs more i x at

placed_longer : (grid : Ladders) (past more : List Entry) (n : ℕ) → IsPlaced grid past n
    → IsPlaced grid (past ++ more) n
placed_longer grid past more n placed = record {
  within = (placed.within.0, omega (arith, placed.within.1, length-append past more));
  line = placed.line;
  at = get_longer past more (n - 1) placed.line placed.at;
  command = placed.command;
  work_is = placed.work_is;
  place = placed.place;
  place_is = placed.place_is;
  fits = placed.fits;
}

placed_last : (grid : Ladders) (past : List Entry) (e : Entry) (c : Command) (p : Place) → FitsWork grid e.work
    → e.work ≡ Seats c → c.place ≡ Some p → IsPlaced grid (past ++ e ∷ []) (length past + 1)
placed_last grid past e c p fits is on =
    let here : length past ≡ length past + 1 - 1 = omega arith in
    let all : FitsWork grid (Seats c) = subst (FitsWork grid) is fits in
    record {
      within = (omega arith, omega (arith, length-append past (e ∷ [])));
      line = e;
      at = subst (λ (i : ℕ). slice_get (past ++ e ∷ []) i ≡ Some e) here (get_last past e);
      command = c;
      work_is = is;
      place = p;
      place_is = on;
      fits = subst (λ (o : Option Place). IfSome o (Fits grid)) on all.2;
    }

-- ---- bookings

-- the booking is that of such a line, and so is the advice
abbrev IsSeated : Ladders → List Entry → Booking → Type 0
IsSeated grid history b = IsPlaced grid history b.number

abbrev IsTold : Ladders → List Entry → Advice → Type 0
IsTold grid history a = IsPlaced grid history a.number

-- the bookings that are left, and what was advised
record IsSound (grid : Ladders) (history : List Entry) (bookings : List Booking) (advices : List Advice) : Type 0 where
  seated : AllByRecursion (IsSeated grid history) bookings
  advised_all : AllByRecursion (IsTold grid history) advices

sound_pass : (over : Ladders) (history : List Entry) (grid : Ladders) (done : List Booking) (told : List Advice)
    (bs : List Booking)
    → IsSound over history done told → AllByRecursion (IsSeated over history) bs
    → IsSound over history (pass grid done told bs).bookings (pass grid done told bs).advices
sound_pass over history grid done told [] sound all = sound
sound_pass over history grid done told (b ∷ bs) sound all =
    let told_more : IsSound over history (done ++ confirmed b ∷ []) (told ++ advice_of b ∷ []) = record {
      seated = all_push (IsSeated over history) done (confirmed b) sound.seated all.0;
      advised_all = all_push (IsTold over history) told (advice_of b) sound.advised_all all.0;
    } in
    let passed_over : IsSound over history (done ++ b ∷ []) told = record { seated = all_push (IsSeated over history) done b sound.seated all.0; advised_all = sound.advised_all } in
    cases (may_confirm grid (done ++ b ∷ bs) b) refl
    (sound_pass over history grid (done ++ confirmed b ∷ []) (told ++ advice_of b ∷ []) bs told_more all.1)
    (sound_pass over history grid (done ++ b ∷ []) told bs passed_over all.1) where
      cases : (t : Bool) → may_confirm grid (done ++ b ∷ bs) b ≡ t
          → IsSound over history (pass grid (done ++ confirmed b ∷ []) (told ++ advice_of b ∷ []) bs).bookings
          (pass grid (done ++ confirmed b ∷ []) (told ++ advice_of b ∷ []) bs).advices
          → IsSound over history (pass grid (done ++ b ∷ []) told bs).bookings
          (pass grid (done ++ b ∷ []) told bs).advices
          → IsSound over history (pass grid done told (b ∷ bs)).bookings (pass grid done told (b ∷ bs)).advices
      cases true e told_on passed_on = rw e told_on
      cases false e told_on passed_on = rw e passed_on

seated_reduced : (over : Ladders) (history : List Entry) (test : Booking → Bool) (n : ℕ) (bs : List Booking)
    → AllByRecursion (IsSeated over history) bs → AllByRecursion (IsSeated over history) (reduced test n bs)
seated_reduced over history test n [] all = tt
seated_reduced over history test n (b ∷ bs) all = cases (test b) (nat_le b.seats n) refl refl (seated_reduced over history test n bs all.1) where
  cases : (t u : Bool) → test b ≡ t → nat_le b.seats n ≡ u → AllByRecursion (IsSeated over history) (reduced test n bs)
      → AllByRecursion (IsSeated over history) (reduced test n (b ∷ bs))
  cases true true e g rest = rw (e, g) all.1
  cases true false e g rest = rw (e, g) (all.0, all.1)
  cases false u e g rest = rw e (all.0, rest)

-- a line's answer, where the bookings before it are of the history, and so is its own
sound_answer : (over : Ladders) (s : State) (history : List Entry) (number : ℕ) (w : Work)
    → ((c : Command) (p : Place) → w ≡ Seats c → c.place ≡ Some p → IsPlaced over history number)
    → AllByRecursion (IsSeated over history) s.bookings
    → IsSound over history (answer s number w).state.bookings (answer s number w).advices
sound_answer over s history number w asks all =
    each_outcome (λ v o. w ≡ v → IsSound over history o.state.bookings o.advices) s number
    (λ v r is. record { seated = all; advised_all = tt })
    (λ c place at none fits is. record { seated = all_push (IsSeated over history) s.bookings (booking_of number c place Held) all (asks c place is at); advised_all = tt })
    (λ c place at none over_it why is. record { seated = all_push (IsSeated over history) s.bookings (booking_of number c place Waiting) all (asks c place is at); advised_all = tt })
    (λ c place at none is. sound_pass over history s.grid [] [] (s.bookings ++ booking_of number c place Waiting ∷ []) (record { seated = tt; advised_all = tt })
    (all_push (IsSeated over history) s.bookings (booking_of number c place Waiting) all (asks c place is at)))
    (λ c place b at found le is. sound_pass over history s.grid [] [] (reduced (is_for c.locator place c.class) c.seats s.bookings) (record { seated = tt; advised_all = tt })
    (seated_reduced over history (is_for c.locator place c.class) c.seats s.bookings all))
    (λ c may is. sound_pass over history (changed_by s.grid c) [] [] s.bookings (record { seated = tt; advised_all = tt }) all)
    (λ c may is. sound_pass over history (sales_by s.grid c) [] [] s.bookings (record { seated = tt; advised_all = tt }) all)
    w refl

-- each line's advices are for bookings of the history
abbrev pub AreAdvised : Ladders → List Entry → List Entry → Type 0
AreAdvised grid history lines = AllByRecursion (λ (e : Entry). AllByRecursion (λ (a : Advice). IsPlaced grid history a.number) e.advices) lines

wider_advices : (grid : Ladders) (past more lines : List Entry) → AreAdvised grid past lines
    → AreAdvised grid (past ++ more) lines
wider_advices grid past more lines =
    all_weaker (λ (e : Entry). AllByRecursion (IsTold grid past) e.advices) (λ (e : Entry). AllByRecursion (IsTold grid (past ++ more)) e.advices) lines
    (λ e. all_weaker (IsTold grid past) (IsTold grid (past ++ more)) e.advices (λ a h. placed_longer grid past more a.number h))

record IsSoundHistory (grid : Ladders) (history : List Entry) : Type 0 where
  seated : AllByRecursion (IsSeated grid history) (replay grid history).bookings
  told : AreAdvised grid history history

sound_next : (grid : Ladders) (past : List Entry) (e : Entry) → IsLegal grid past → IsNext grid past e
    → IsSoundHistory grid past → IsSoundHistory grid (past ++ e ∷ [])
sound_next grid past e legal next sound =
    let history = past ++ e ∷ [] in
    let n = length past in
    let o : Outcome = answer (replay grid past) (n + 1) e.work in
    let number : e.number ≡ n + 1 = ap (λ (x : Entry). x.number) next.line in
    let told : e.advices ≡ o.advices = ap (λ (x : Entry). x.advices) next.line in
    let own : (c : Command) (p : Place) → e.work ≡ Seats c → c.place ≡ Some p → IsPlaced grid history (n + 1) = λ c p is on. placed_last grid past e c p next.fits is on in
    let before : AllByRecursion (IsSeated grid history) (replay grid past).bookings =
    all_weaker (IsSeated grid past) (IsSeated grid history) (replay grid past).bookings (λ b h. placed_longer grid past (e ∷ []) b.number h) sound.seated in
    let both = sound_answer grid (replay grid past) history (n + 1) e.work own before in
    let left : replay grid history ≡ o.state = replay_next grid past e ∙ ap (λ (k : ℕ). (answer (replay grid past) k e.work).state) number in
    record {
      seated = subst (λ (s : State). AllByRecursion (IsSeated grid history) s.bookings) (sym left) both.seated;
      told = all_push (λ (x : Entry). AllByRecursion (IsTold grid history) x.advices) past e (wider_advices grid past (e ∷ []) past sound.told)
          (subst (λ (l : List Advice). AllByRecursion (IsTold grid history) l) (sym told) both.advised_all);
    }

pub legal_is_advised : (grid : Ladders) (history : List Entry) → IsLegal grid history → AreAdvised grid history history
legal_is_advised grid history legal = (each_legal grid (IsSoundHistory grid) (sound_next grid) [] history (record { seated = tt; told = tt }) legal).told
