-- Classes that are closed: nobody's booking is another, and each class stays closed.
use Rattle.std.proofs.Common.{◌≡◌, ◌==◌, ◌&&◌, ℕ, ◌+◌, nat_le, Bool, true, false, fold, List, [], ◌∷◌, ◌++◌, length, Some, if◌then◌else◌, arith, refl, ap, sym, subst, ◌∙◌}
use Rattle.std.proofs.lemmas.Bool.Decides.{nat_tests}
use Rattle.std.proofs.lemmas.List.Sums.{fold_push}
use Rattle.std.specs.List.{AllByRecursion}
use Rattle.seat_journal.specs.declared.entry.Entry.{Entry}
use Rattle.seat_journal.specs.declared.entry.SaleChange.{SaleChange}
use Rattle.seat_nesting.specs.Nesting.{Ladders, room}
use Rattle.seat_rules.specs.declared.booking.Booking.{Booking}
use Rattle.seat_rules.specs.Bookings.{held, is_waiting}
use Rattle.seat_rules.specs.Closing.{is_shut, shut_after}
use Rattle.seat_rules.specs.Journal.{replay}
use Rattle.seat_rules.specs.Sequential.{NoneFits, NoneFitsAmong, State, may_confirm, may_set_sale, sales_by, set_sale, state_of}
use Rattle.seat_rules.specs.Tables.{advices_by}
use Rattle.seat_rules.proofs.History.Lines.{each_replay, replay_next}
use Rattle.seat_rules.proofs.Passes.Quiet.{quiet_answer}
use Rattle.seat_core.proofs.Passes.Sales.{none_shut}
use Rattle.seat_carrying.proofs.Identity.{pass_none}
use Rattle.carry_lines.specs.Setting.{closing, closings_of, lines_set, manager_line}
use Rattle.carry_lines.specs.Carried.{AreShut}
use Rattle.carry_lines.specs.declared.mark.Mark.{Mark}

-- ---- nothing that waits fits

none_told : (grid : Ladders) (book among : List Booking) → NoneFitsAmong grid book among → advices_by grid (held book) among ≡ []
none_told grid book [] none = refl
none_told grid book (b ∷ bs) none = rw none.0 (none_told grid book bs none.1)

none_back : (grid : Ladders) (book among : List Booking) → advices_by grid (held book) among ≡ [] → NoneFitsAmong grid book among
none_back grid book [] none = tt
none_back grid book (b ∷ bs) none = cases (may_confirm grid book b) refl (none_back grid book bs) where
  cases : (t : Bool) → may_confirm grid book b ≡ t → (advices_by grid (held book) bs ≡ [] → NoneFitsAmong grid book bs)
      → NoneFitsAmong grid book (b ∷ bs)
  cases true e rest = let told = rw e at none in absurd cc
  cases false e rest = (e, rest (rw e at none))

-- so a closing leaves each booking as it is
closing_keeps : (s : State) (c : SaleChange) → c.closed ≡ true → NoneFits s.grid s.bookings → (set_sale s c).state.bookings ≡ s.bookings
closing_keeps s c shut none = cases (may_set_sale s c) refl where
  still : NoneFits (sales_by s.grid c) s.bookings
  still = none_back (sales_by s.grid c) s.bookings s.bookings
      (sym (none_shut s.grid (held s.bookings) c s.bookings shut (none_told s.grid s.bookings s.bookings none)))

  cases : (t : Bool) → may_set_sale s c ≡ t → (set_sale s c).state.bookings ≡ s.bookings
  cases true e = rw e (pass_none (sales_by s.grid c) [] s.bookings [] still)
  cases false e = rw e refl

none_fits : (grid : Ladders) (past : List Entry) → NoneFits (replay grid past).grid (replay grid past).bookings
none_fits grid past = each_replay (λ s. NoneFits s.grid s.bookings) quiet_answer (state_of grid []) tt past

pub closings_keep : (grid : Ladders) (past : List Entry) (marks : List Mark)
    → (replay grid (lines_set grid past (closings_of marks))).bookings ≡ (replay grid past).bookings
closings_keep grid past [] = refl
closings_keep grid past (m ∷ marks) =
    let line : Entry = manager_line grid past (closing m) in
    closings_keep grid (past ++ line ∷ []) marks
    ∙ ap (λ (s : State). s.bookings) (replay_next grid past line)
    ∙ closing_keeps (replay grid past) (record { flight = m.flight; leg = m.leg; class = Some m.class; closed = true }) refl (none_fits grid past)

-- ---- and it stays closed

shut_push : (flight leg class : ℕ) (past : List Entry) (e : Entry)
    → is_shut flight leg class (past ++ e ∷ []) ≡ shut_after flight leg class (is_shut flight leg class past) e
shut_push flight leg class past e = fold_push (shut_after flight leg class) false past e

stays_shut : (flight leg class : ℕ) (grid : Ladders) (past : List Entry) (marks : List Mark) → is_shut flight leg class past ≡ true
    → is_shut flight leg class (lines_set grid past (closings_of marks)) ≡ true
stays_shut flight leg class grid past [] shut = shut
stays_shut flight leg class grid past (m ∷ marks) shut =
    let line : Entry = manager_line grid past (closing m) in
    stays_shut flight leg class grid (past ++ line ∷ []) marks
    (shut_push flight leg class past line ∙ still ((m.flight == flight) && (m.leg == leg) && (m.class == class)))
  where
    still : (b : Bool) → (if b then true else is_shut flight leg class past) ≡ true
    still true = refl
    still false = shut

shut_here : (m : Mark) (grid : Ladders) (past : List Entry) → is_shut m.flight m.leg m.class (past ++ manager_line grid past (closing m) ∷ []) ≡ true
shut_here m grid past =
    let flight : (m.flight == m.flight) ≡ true = grind (arith, nat_tests) in
    let leg : (m.leg == m.leg) ≡ true = grind (arith, nat_tests) in
    let class : (m.class == m.class) ≡ true = grind (arith, nat_tests) in
    shut_push m.flight m.leg m.class past (manager_line grid past (closing m)) ∙ rw (flight, leg, class) refl

pub all_shut : (grid : Ladders) (past : List Entry) (marks : List Mark) → AreShut marks (lines_set grid past (closings_of marks))
all_shut grid past [] = tt
all_shut grid past (m ∷ marks) =
    let line : Entry = manager_line grid past (closing m) in
    (stays_shut m.flight m.leg m.class grid (past ++ line ∷ []) marks (shut_here m grid past), all_shut grid (past ++ line ∷ []) marks)
