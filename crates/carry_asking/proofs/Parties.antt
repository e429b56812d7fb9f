-- Each live booking of a legal history has 1 to 999 seats, and the line of its number is an agent's.
use Rattle.std.proofs.Common.{◌≡◌, ◌≤◌, ◌+◌, ◌-◌, ℕ, zero, suc, Bool, true, false, nat_le, List, [], ◌∷◌, ◌++◌, length, slice_get, Some, arith, refl, sym, ap, subst, ◌∙◌}
use Rattle.std.proofs.lemmas.Bool.Decides.{nat_tests}
use Rattle.std.specs.List.{AllByRecursion}
use Rattle.airline_base.specs.declared.place.Place.{Place}
use Rattle.seat_journal.specs.declared.entry.Command.{Command}
use Rattle.seat_journal.specs.declared.entry.Entry.{Entry}
use Rattle.seat_journal.specs.declared.entry.Work.{Work}
use Rattle.seat_journal.specs.declared.entry.Work.TheVariants.{Seats}
use Rattle.seat_nesting.specs.Nesting.{Ladders}
use Rattle.seat_rules.specs.Bookings.{is_for}
use Rattle.seat_rules.specs.Journal.{FitsWork, IsLegal, IsNext, MayAsk, replay}
use Rattle.seat_rules.specs.Sequential.{State, answer, booking_of, changed_by, confirmed, pass, reduced, sales_by}
use Rattle.seat_rules.specs.declared.booking.Booking.{Booking}
use Rattle.seat_rules.specs.declared.booking.Status.{Status}
use Rattle.seat_rules.specs.declared.booking.Status.TheVariants.{Held, Waiting}
use Rattle.seat_rules.proofs.History.Legal.{each_legal}
use Rattle.seat_rules.proofs.History.Lines.{replay_next}
use Rattle.seat_rules.proofs.Passes.Quiet.{all_map, all_push}
use Rattle.seat_rules.proofs.Step.Apart.{all_confirmed}
use Rattle.seat_rules.proofs.Step.Limits.{each_pass}
use Rattle.seat_rules.proofs.Step.Outcomes.{each_outcome}

-- 1 to 999 seats, and a line of the journal that an agent's session made
pub record IsParty (journal : List Entry) (b : Booking) : Type 0 where
  pub some : 1 ≤ b.seats
  pub few : b.seats ≤ 999
  pub line : ℕ
  pub entry : Entry
  pub number_is : b.number ≡ line + 1
  pub is_entry : slice_get journal line ≡ Some entry
  pub agent : 1 ≤ entry.session
  pub agents : entry.session ≤ 8

abbrev AreParties : List Entry → List Booking → Type 0
AreParties journal bookings = AllByRecursion (IsParty journal) bookings

at_longer : (xs ys : List Entry) (i : ℕ) (x : Entry) → slice_get xs i ≡ Some x → slice_get (xs ++ ys) i ≡ Some x
at_longer [] ys i x e = absurd cc
at_longer (y ∷ xs) ys zero x e = e
at_longer (y ∷ xs) ys (suc i) x e = at_longer xs ys i x e

at_end : (xs : List Entry) (x : Entry) → slice_get (xs ++ x ∷ []) (length xs) ≡ Some x
at_end [] x = refl
at_end (y ∷ xs) x = at_end xs x

party_longer : (past : List Entry) (e : Entry) (b : Booking) → IsParty past b → IsParty (past ++ e ∷ []) b
party_longer past e b h = record {
  some = h.some;
  few = h.few;
  line = h.line;
  entry = h.entry;
  number_is = h.number_is;
  is_entry = at_longer past (e ∷ []) h.line h.entry h.is_entry;
  agent = h.agent;
  agents = h.agents;
}

-- what leaves number and seats in range leaves a party
party_same : (journal : List Entry) (a b : Booking) → b.number ≡ a.number → 1 ≤ b.seats → b.seats ≤ 999 → IsParty journal a → IsParty journal b
party_same journal a b number some few h = record {
  some = some;
  few = few;
  line = h.line;
  entry = h.entry;
  number_is = number ∙ h.number_is;
  is_entry = h.is_entry;
  agent = h.agent;
  agents = h.agents;
}

party_less : (journal : List Entry) (b : Booking) (n : ℕ) → nat_le b.seats n ≡ false → IsParty journal b
    → IsParty journal (record b { seats = b.seats - n })
party_less journal b n more h =
    let over : suc n ≤ b.seats = grind (arith, nat_tests) in
    party_same journal b (record b { seats = b.seats - n }) refl (omega (arith, over)) (omega (arith, h.few)) h

parties_reduced : (journal : List Entry) (test : Booking → Bool) (n : ℕ) (xs : List Booking) → AreParties journal xs
    → AreParties journal (reduced test n xs)
parties_reduced journal test n [] all = tt
parties_reduced journal test n (b ∷ bs) all = cases (test b) (nat_le b.seats n) refl refl (parties_reduced journal test n bs all.1) where
  cases : (t u : Bool) → test b ≡ t → nat_le b.seats n ≡ u → AreParties journal (reduced test n bs) → AreParties journal (reduced test n (b ∷ bs))
  cases true true e g rest = rw (e, g) all.1
  cases true false e g rest = rw (e, g) (party_less journal b n g all.0, all.1)
  cases false u e g rest = rw e (all.0, rest)

parties_pass : (journal : List Entry) (now : Ladders) (xs : List Booking) → AreParties journal xs → AreParties journal (pass now [] [] xs).bookings
parties_pass journal now xs all =
    each_pass (AreParties journal) now
    (λ done b bs d may. all_confirmed (IsParty journal) done b bs (λ h. party_same journal b (confirmed b) refl h.some h.few h) d) [] xs [] all

party_new : (grid : Ladders) (past : List Entry) (e : Entry) (c : Command) (place : Place) (status : Status) → Seats c ≡ e.work
    → MayAsk e.session e.work → FitsWork grid e.work → IsParty (past ++ e ∷ []) (booking_of (length past + 1) c place status)
party_new grid past e c place status is may fits =
    let own : FitsWork grid (Seats c) = subst (FitsWork grid) (sym is) fits in
    let asks : MayAsk e.session (Seats c) = subst (λ (w : Work). MayAsk e.session w) (sym is) may in
    record {
      some = own.0;
      few = own.1;
      line = length past;
      entry = e;
      number_is = refl;
      is_entry = at_end past e;
      agent = asks.0;
      agents = asks.1;
    }

parties_answer : (grid : Ladders) (past : List Entry) (s : State) (e : Entry) → MayAsk e.session e.work → FitsWork grid e.work
    → AreParties past s.bookings → AreParties (past ++ e ∷ []) (answer s (length past + 1) e.work).state.bookings
parties_answer grid past s e may fits all =
    each_outcome (λ w o. w ≡ e.work → AreParties now o.state.bookings) s (length past + 1)
    (λ w r is. before)
    (λ c place at none room is. more c place Held is)
    (λ c place at none over why is. more c place Waiting is)
    (λ c place at none is. parties_pass now s.grid (s.bookings ++ booking_of (length past + 1) c place Waiting ∷ []) (more c place Waiting is))
    (λ c place b at found le is. parties_pass now s.grid (reduced (is_for c.locator place c.class) c.seats s.bookings)
    (parties_reduced now (is_for c.locator place c.class) c.seats s.bookings before))
    (λ c ok is. parties_pass now (changed_by s.grid c) s.bookings before)
    (λ c ok is. parties_pass now (sales_by s.grid c) s.bookings before)
    e.work refl
  where
    now : List Entry
    now = past ++ e ∷ []

    before : AreParties now s.bookings
    before = all_map (IsParty past) (IsParty now) s.bookings (λ b h. party_longer past e b h) all

    more : (c : Command) (place : Place) (status : Status) → Seats c ≡ e.work
        → AreParties now (s.bookings ++ booking_of (length past + 1) c place status ∷ [])
    more c place status is =
        all_push (IsParty now) s.bookings (booking_of (length past + 1) c place status) before (party_new grid past e c place status is may fits)

pub are_parties : (grid : Ladders) (journal : List Entry) → IsLegal grid journal → AllByRecursion (IsParty journal) (replay grid journal).bookings
are_parties grid journal legal = each_legal grid (λ j. AreParties j (replay grid j).bookings) next [] journal tt legal where
  next : (past : List Entry) (e : Entry) → IsLegal grid past → IsNext grid past e → AreParties past (replay grid past).bookings
      → AreParties (past ++ e ∷ []) (replay grid (past ++ e ∷ [])).bookings
  next past e l is all =
      let number : e.number ≡ length past + 1 = ap (λ (x : Entry). x.number) is.line in
      let Q : State → Type 0 = λ s. AreParties (past ++ e ∷ []) s.bookings in
      let R : ℕ → Type 0 = λ n. AreParties (past ++ e ∷ []) (answer (replay grid past) n e.work).state.bookings in
      subst Q (sym (replay_next grid past e)) (subst R (sym number) (parties_answer grid past (replay grid past) e is.session is.fits all))
