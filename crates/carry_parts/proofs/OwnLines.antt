-- All lines of a part's journal are on flights of the part.
use Rattle.std.proofs.Common.{◌≡◌, ℕ, true, List, [], ◌∷◌, ◌++◌, filter, map, IfSome, Option, Some, subst}
use Rattle.std.specs.List.{AllByRecursion}
use Rattle.ssim_flights.specs.declared.flight.Flight.{Flight as Flown}
use Rattle.seat_journal.specs.declared.entry.Change.{Change}
use Rattle.seat_journal.specs.declared.entry.Entry.{Entry}
use Rattle.seat_journal.specs.declared.entry.Work.{Work}
use Rattle.seat_journal.specs.declared.entry.Work.TheVariants.{Limit, Seats}
use Rattle.seat_nesting.specs.Nesting.{Ladders}
use Rattle.seat_rules.specs.Bookings.{is_held, is_waiting}
use Rattle.seat_rules.specs.Flights.{flight_of}
use Rattle.seat_carrying.specs.Carrying.{command_for}
use Rattle.seat_carrying.specs.Owned.{line_for, lines_after, owned_in_turn}
use Rattle.seat_carrying.specs.declared.owned.Owned.{Owned}
use Rattle.carry_lines.specs.Carried.{asked_lines, carried_lines, changed_lines}
use Rattle.carry_lines.specs.Setting.{changes_of, closing, closings_of, lines_set, manager_line}
use Rattle.carry_lines.specs.declared.mark.Mark.{Mark}
use Rattle.carry_parts.proofs.Kept.{each_left, each_passes}
use Rattle.carry_parts.specs.Parts.{IsOnOwn, has_flight, own_changes, own_marks, own_owned}
use Rattle.carry_parts.specs.declared.part.Part.{Part}

both_are : {X : Type 0} (P : X → Type 0) (xs ys : List X) → AllByRecursion P xs → AllByRecursion P ys → AllByRecursion P (xs ++ ys)
both_are P [] ys h k = k
both_are P (x ∷ xs) ys h k = (h.0, both_are P xs ys h.1 k)

each_of : {X Y : Type 0} (P : Y → Type 0) (f : X → Y) (xs : List X) → AllByRecursion (λ x. P (f x)) xs → AllByRecursion P (map f xs)
each_of P f [] h = tt
each_of P f (x ∷ xs) h = (h.0, each_of P f xs h.1)

module _ (part : Part) (news : List Flown) (grid : Ladders) where
  abbrev AreOn : List Entry → Type 0
  AreOn journal = AllByRecursion (λ (e : Entry). IsOnOwn part news e.work) journal

  set_on : (past : List Entry) (works : List Work) → AreOn past → AllByRecursion (IsOnOwn part news) works → AreOn (lines_set grid past works)
  set_on past [] h k = h
  set_on past (w ∷ works) h k =
      let line : Entry = manager_line grid past w in
      set_on (past ++ line ∷ []) works (both_are (λ (e : Entry). IsOnOwn part news e.work) past (line ∷ []) h (k.0, tt)) k.1

  after_on : (past : List Entry) (owned : List Owned) → AreOn past → AllByRecursion (λ o. IsOnOwn part news (Seats (command_for o.booking))) owned
      → AreOn (lines_after grid past owned)
  after_on past [] h k = h
  after_on past (o ∷ owned) h k =
      let line : Entry = line_for grid past o in
      after_on (past ++ line ∷ []) owned (both_are (λ (e : Entry). IsOnOwn part news e.work) past (line ∷ []) h (k.0, tt)) k.1

  carried_on : (rows : List Change) (live : List Owned) (marks : List Mark) → AllByRecursion (λ row. IsOnOwn part news (Limit row)) rows
      → AllByRecursion (λ o. IsOnOwn part news (Seats (command_for o.booking))) live → AllByRecursion (λ m. IsOnOwn part news (closing m)) marks
      → AreOn (carried_lines grid rows live marks)
  carried_on rows live marks set asked closed =
      let on_turn = both_are (λ (o : Owned). IsOnOwn part news (Seats (command_for o.booking)))
      (filter (λ o. is_held o.booking.status) live) (filter (λ o. is_waiting o.booking.status) live)
      (each_left (λ o. IsOnOwn part news (Seats (command_for o.booking))) (λ o. is_held o.booking.status) live asked)
      (each_left (λ o. IsOnOwn part news (Seats (command_for o.booking))) (λ o. is_waiting o.booking.status) live asked) in
      set_on (asked_lines grid rows live) (closings_of marks)
      (after_on (changed_lines grid rows) (owned_in_turn live) (set_on [] (changes_of rows) tt (each_of (IsOnOwn part news) Limit rows set)) on_turn)
      (each_of (IsOnOwn part news) closing marks closed)

  pub lines_are_own : (rows : List Change) (kept : List Owned) (marks : List Mark)
      → AllByRecursion (λ e. IsOnOwn part news e.work) (carried_lines grid (own_changes part news rows) (own_owned part news kept) (own_marks part news marks))
  lines_are_own rows kept marks =
      carried_on (own_changes part news rows) (own_owned part news kept) (own_marks part news marks)
      (each_passes (λ row. IsOnOwn part news (Limit row)) (λ row. has_flight part news row.flight) (λ row e. record { own = e }) rows)
      (each_passes (λ o. IsOnOwn part news (Seats (command_for o.booking))) (λ o. has_flight part news o.booking.place.flight) (λ o e. record { own = e }) kept)
      (each_passes (λ m. IsOnOwn part news (closing m)) (λ m. has_flight part news m.flight) (λ m e. record { own = e }) marks)

-- what is asked on a flight is on one of the part
pub own_flight : (part : Part) (news : List Flown) (w : Work) (flight : ℕ) → IsOnOwn part news w
    → flight_of w ≡ Some flight → has_flight part news flight ≡ true
own_flight part news w flight on e = subst (λ (o : Option ℕ). IfSome o (λ f. has_flight part news f ≡ true)) e on.own
