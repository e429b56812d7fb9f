-- One booking, over plain lists.
use Rattle.std.proofs.Common.{◌≡◌, ◌≢◌, ℕ, zero, suc, ◌+◌, ◌<◌, ◌≤◌, ◌⊎◌, List, [], ◌∷◌, ◌++◌, length, take, refl, ap, sym, subst, ◌∙◌, arith, inl, inr, ⊎_elim, length-append}
use Rattle.std.specs.Prelude.{slice_index, slice_set}
use Rattle.std.proofs.lemmas.List.{append-nil}
use mathlib.Core.Logic.{dite}
use native.Mathlib.Decide.{ℕ_discrete}
use Rattle.seat_nesting.specs.Nesting.{Ladders}
use Rattle.seat_journal.specs.declared.entry.Work.{Work}
use Rattle.seat_journal.specs.declared.entry.Entry.{Entry}
use Rattle.logbook.specs.Pages.{Book}
use Rattle.seat_rules.specs.Inventory.{Inventory, HoldsWithinLimits}
use Rattle.seat_rules.specs.Prefixes.{Begins}
use Rattle.seat_rules.specs.Journal.{IsNext, IsLegal}
use Rattle.seat_rules.proofs.History.Prefixes.{begins_trans, begins_length, begins_longer, begins_itself}
use Rattle.seat_rules.proofs.History.Legal.{legal_push}
use Rattle.seat_rules.specs.Histories.{of_session}
use Rattle.seat_display.specs.Faces.{Published}
use Rattle.line_booking.specs.Booking.{AddsLine, Shows}
use Rattle.line_booking.specs.Receipts.{Kept}
use Rattle.seat_host.specs.Lawful.{IsTied, LawfulUnderLock}
use Rattle.seat_host.specs.Ledgers.{Staked, counted}
use Rattle.seat_host.specs.Sessions.{Stands, Booked, KeepsLines, Seat, seat_of}
use Rattle.seat_host.specs.Settling.{IsConfirmed}
use Rattle.seat_rules.proofs.Own.{own_append, own_length, own_one, own_other, calls_own}
use Rattle.seat_host.proofs.Keeping.{given_all, keeps_more}

-- a front that the old journal begins with becomes the new journal
pub front_is : (front front' journal : List Entry) (e : Entry) → Begins front journal
    → Begins (journal ++ e ∷ []) front' → (front' ≡ front) ⊎ (front' ≡ journal ++ e ∷ []) → front' ≡ journal ++ e ∷ []
front_is front front' journal e pre more longer =
    ⊎_elim (λ (is : front' ≡ front). absurd (omega (arith, ap length is, begins_length front journal pre, begins_length (journal ++ e ∷ []) front' more, length-append journal (e ∷ [])))) (λ is. is) longer

pub at_set_here : (xs : List ℕ) (i v : ℕ) → i < length xs → slice_index (slice_set xs i v) i ≡ v
at_set_here [] i v h = absurd (omega arith)
at_set_here (x ∷ xs) zero v h = refl
at_set_here (x ∷ xs) (suc i) v h = at_set_here xs i v (omega arith)

pub at_set_else : (xs : List ℕ) (i j v : ℕ) → j ≢ i → slice_index (slice_set xs i v) j ≡ slice_index xs j
at_set_else [] i j v n = refl
at_set_else (x ∷ xs) zero zero v n = absurd (n refl)
at_set_else (x ∷ xs) zero (suc j) v n = refl
at_set_else (x ∷ xs) (suc i) zero v n = refl
at_set_else (x ∷ xs) (suc i) (suc j) v n = at_set_else xs i j v (λ e. n (ap suc e))

pub set_length : (xs : List ℕ) (i v : ℕ) → length (slice_set xs i v) ≡ length xs
set_length [] i v = refl
set_length (x ∷ xs) zero v = refl
set_length (x ∷ xs) (suc i) v = ap suc (set_length xs i v)

pub dec_nat : (m n : ℕ) → (m ≡ n) ⊎ (m ≢ n)
dec_nat m n = dite (ℕ_discrete m n) (λ e. inl e) (λ ne. inr ne)

pub no_calls : (s : ℕ) → s < 9 → slice_index (0 ∷ 0 ∷ 0 ∷ 0 ∷ 0 ∷ 0 ∷ 0 ∷ 0 ∷ 0 ∷ []) s ≡ 0
no_calls zero h = refl
no_calls (suc zero) h = refl
no_calls (suc (suc zero)) h = refl
no_calls (suc (suc (suc zero))) h = refl
no_calls (suc (suc (suc (suc zero)))) h = refl
no_calls (suc (suc (suc (suc (suc zero))))) h = refl
no_calls (suc (suc (suc (suc (suc (suc zero)))))) h = refl
no_calls (suc (suc (suc (suc (suc (suc (suc zero))))))) h = refl
no_calls (suc (suc (suc (suc (suc (suc (suc (suc zero)))))))) h = refl
no_calls (suc (suc (suc (suc (suc (suc (suc (suc (suc n))))))))) h = absurd (omega arith)

-- one line more in the journal and in its session's book
pub tied_push : (grid : Ladders) (cap n : ℕ) (line_counts now : List ℕ) (journal : List Entry) (e : Entry)
    → IsTied grid cap n line_counts journal → IsNext grid journal e → length journal < cap → e.session ≤ n
    → now ≡ slice_set line_counts e.session (slice_index line_counts e.session + 1)
    → IsTied grid cap n now (journal ++ e ∷ [])
tied_push grid cap n line_counts now journal e t next room le is =
    let k = e.session in
    let here : (s : ℕ) → e.session ≡ s → of_session s (journal ++ e ∷ []) ≡ of_session s journal ++ e ∷ [] = λ s same. own_append s journal (e ∷ []) ∙ ap (λ l. of_session s journal ++ l) (own_one s e same) in
    let there : (s : ℕ) → e.session ≢ s → of_session s (journal ++ e ∷ []) ≡ of_session s journal = λ s not. own_append s journal (e ∷ []) ∙ ap (λ l. of_session s journal ++ l) (own_other s e not) ∙ append-nil (of_session s journal) in
    record {
      wide = ap length is ∙ set_length line_counts k _ ∙ t.wide;
      few = t.few;
      legal = legal_push grid journal e t.legal next;
      capped = omega (arith, room, length-append journal (e ∷ []));
      small = t.small;
      counts = λ s high. ⊎_elim
          (λ (same : e.session ≡ s). subst (λ j. slice_index now j ≡ length (of_session j (journal ++ e ∷ []))) same
          (ap (λ l. slice_index l k) is ∙ (at_set_here line_counts k _ (omega (arith, t.wide, t.few, le)) ∙ omega (arith, t.counts k (omega (arith, le, t.few)), ap length (here k refl), length-append (of_session k journal) (e ∷ [])))))
          (λ (not : e.session ≢ s). ap (λ l. slice_index l s) is ∙ (at_set_else line_counts k s _ (λ q. not (sym q)) ∙ (t.counts s high ∙ sym (ap length (there s not)))))
          (dec_nat e.session s);
      only = record { none = λ s more. there s (λ q. absurd (omega (arith, q, le, more))) ∙ t.only.none s more };
    }

-- what a booking leaves a session with
pub record AfterBooking (grid : Ladders) (n : ℕ) (journal : List Entry) (work : Work) (s : Seat) (receipts kept : Kept) (front : List Entry) : Type 0 where
  pub is : front ≡ journal
  pub len : length kept.numbers ≡ length receipts.numbers + 1
  pub booked : Booked grid work s (seat_of s.id (length kept.numbers) front)
  pub stands : Stands grid n (seat_of s.id (length kept.numbers) front)
  pub keeps : KeepsLines kept (take (length kept.numbers) (of_session s.id front))

pub booking : (grid : Ladders) (cap n : ℕ) (core now : Inventory) (line_counts : List ℕ) (s : Seat) (work : Work)
    (receipts kept : Kept) (front : List Entry)
    → core.grid ≡ grid → now.grid ≡ core.grid → IsTied grid cap n line_counts core.journal → Stands grid n s
    → KeepsLines receipts s.receipts → IsConfirmed n core.journal s → AddsLine core now s.id work receipts kept
    → Begins now.journal front → (front ≡ s.front) ⊎ (front ≡ now.journal)
    → AfterBooking grid n now.journal work s receipts kept front
booking grid cap n core now line_counts s work receipts kept front over same t stands keeps c a more longer =
    let journal = core.journal in
    let e = a.line in
    let next : IsNext grid journal e = subst (λ (h : Ladders). IsNext h journal e) over a.next in
    let session : e.session ≡ s.id = ap (λ (x : Entry). x.session) a.is in
    let more : Begins (journal ++ e ∷ []) front = subst (λ (l : List Entry). Begins l front) a.journal_is more in
    let is : front ≡ journal ++ e ∷ [] = front_is s.front front journal e c.front more (⊎_elim (λ b. inl b) (λ b. inr (b ∙ a.journal_is)) longer) in
    let own : of_session s.id front ≡ s.receipts ++ e ∷ [] =
    ap (of_session s.id) is ∙ own_append s.id journal (e ∷ []) ∙ (λ i. sym c.lines i ++ own_one s.id e session i) in
    let keeps_all : KeepsLines kept (s.receipts ++ e ∷ []) = keeps_more receipts kept s.receipts e keeps a.kept_is in
    let given : take (length kept.numbers) (of_session s.id front) ≡ s.receipts ++ e ∷ [] = ap (take (length kept.numbers)) own ∙ given_all kept (s.receipts ++ e ∷ []) keeps_all in
    let all : of_session s.id front ≡ take (length kept.numbers) (of_session s.id front) = own ∙ sym given in
    let legal : IsLegal grid front = subst (IsLegal grid) (sym is) (legal_push grid journal e t.legal next) in
    let within : HoldsWithinLimits grid front =
    subst (λ (x : Ladders × List Entry). HoldsWithinLimits x.0 x.1) (λ i. ((same ∙ over) i, (a.journal_is ∙ sym is) i)) a.within in
    let before : Begins s.front front = subst (λ (l : List Entry). Begins s.front l) (sym is) (begins_trans s.front journal (journal ++ e ∷ []) c.front (begins_longer journal (e ∷ []))) in
    let few : length s.receipts ≤ 999999 = omega (arith, ap length c.lines, own_length s.id journal, t.capped, t.small) in
    record {
      is = is ∙ sym a.journal_is;
      len = omega (arith, ap length a.kept_is.numbers, length-append receipts.numbers (e.number ∷ []));
      booked = record {
        line = e;
        session = session;
        call = ap (λ (x : Entry). x.call) a.is ∙ omega (arith, calls_own journal s.id, ap length c.lines);
        work_is = ap (λ (x : Entry). x.work) a.is;
        id = refl;
        receipts = given;
        before = before;
        past = journal;
        last = is;
        own = all;
        legal = legal;
        within = within;
      };
      stands = record {
        number = stands.number;
        legal = legal;
        own = subst (λ (l : List Entry). Begins (take (length kept.numbers) (of_session s.id front)) l) (sym all) (begins_itself (take (length kept.numbers) (of_session s.id front)));
        few = omega (arith, few, ap length given, length-append s.receipts (e ∷ []));
      };
      keeps = subst (KeepsLines kept) (sym given) keeps_all;
    }

-- the same of what a call finds and is told
pub after_call : (grid : Ladders) (cap : ℕ) (book : Book) (n : ℕ) (core now : Inventory) (line_counts : List ℕ)
    (publisher shown : Published) (opened : ℕ) (s old : Seat) (work : Work)
    (receipts kept : Kept) (front told : List Entry)
    → LawfulUnderLock grid cap book n core line_counts publisher opened → Stands grid n s → KeepsLines receipts s.receipts
    → s ≡ old → IsConfirmed n publisher.visible old → AddsLine core now s.id work receipts kept → now.grid ≡ core.grid
    → Shows now shown
    → told ≡ shown.visible → Begins told front → (front ≡ s.front) ⊎ (front ≡ told)
    → AfterBooking grid n now.journal work s receipts kept front
after_call grid cap book n core now line_counts publisher shown opened s old work receipts kept front told l stands keeps is c a same shows tells more longer =
    let all : told ≡ now.journal = tells ∙ shows.visible in
    booking grid cap n core now line_counts s work receipts kept front l.grid_is same l.tied stands keeps
    (subst (λ (x : List Entry × Seat). IsConfirmed n x.0 x.1) (λ i. (l.shown.visible i, sym is i)) c) a
    (subst (λ (x : List Entry). Begins x front) all more) (⊎_elim (λ b. inl b) (λ b. inr (b ∙ all)) longer)

-- what holds under the lock holds with one line more
pub lawful_push : (grid : Ladders) (cap : ℕ) (book : Book) (n : ℕ) (core now : Inventory)
    (line_counts audited more : List ℕ) (publisher shown : Published) (opened session many : ℕ) (stake : Staked)
    (work : Work) (receipts kept : Kept)
    → LawfulUnderLock grid cap book n core line_counts publisher opened → AddsLine core now session work receipts kept
    → now.grid ≡ core.grid → now.cap ≡ core.cap → shown.book ≡ publisher.book → Shows now shown
    → session ≤ n → audited ≡ line_counts → stake ≡ counted session many
    → more ≡ slice_set audited stake.number (slice_index audited stake.number + 1)
    → LawfulUnderLock grid cap book n now more shown opened
lawful_push grid cap book n core now line_counts audited more publisher shown opened session many stake work receipts kept l a grid_same cap_same book_same shows le same staked added =
    let e = a.line in
    let mine : session ≡ e.session = sym (ap (λ (x : Entry). x.session) a.is) in
    let number : stake.number ≡ e.session = ap (λ (k : Staked). k.number) staked ∙ mine in
    let is : more ≡ slice_set line_counts e.session (slice_index line_counts e.session + 1) = added ∙ (λ i. slice_set (same i) (number i) (slice_index (same i) (number i) + 1)) in
    let next : IsNext grid core.journal e = subst (λ (h : Ladders). IsNext h core.journal e) l.grid_is a.next in
    let tied = tied_push grid cap n line_counts more core.journal e l.tied next (omega (arith, a.below, l.cap_is)) (omega (arith, le, mine)) is in
    record {
      grid_is = grid_same ∙ l.grid_is;
      cap_is = cap_same ∙ l.cap_is;
      opened_is = l.opened_is;
      book_is = book_same ∙ l.book_is;
      shown = shows;
      tied = subst (λ (j : List Entry). IsTied grid cap n more j) (sym a.journal_is) tied;
    }
