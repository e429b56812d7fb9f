-- A carry onto the same season.
use Rattle.std.proofs.Common.{◌≡◌, ◌≢◌, ◌≤◌, ◌<◌, ◌+◌, ℕ, Bool, true, false, List, [], ◌∷◌, ◌++◌, length, Option, Some, inl, inr, arith, refl, ap, sym, subst, ◌∙◌}
use Rattle.std.specs.Prelude.{◌⊎◌}
use Rattle.std.specs.List.{AllByRecursion}
use Rattle.std.proofs.lemmas.Option.{slice_get_within}
use Rattle.airline_base.specs.declared.place.Place.{Place}
use Rattle.ssim_flights.specs.Places.{place}
use Rattle.seat_journal.specs.declared.entry.Change.{Change}
use Rattle.seat_journal.specs.declared.entry.Entry.{Entry}
use Rattle.seat_nesting.specs.declared.ladder.Step.{Step}
use Rattle.seat_nesting.specs.Nesting.{IsLegLadder, IsWithin, Ladders, Steps, ladder_at}
use Rattle.seat_nesting.specs.Changing.{with_marks}
use Rattle.seat_nesting.proofs.MarkChanges.{all_marks, marks_back, within_marks}
use Rattle.seat_nesting.proofs.Rooms.{within_same}
use Rattle.seat_rules.specs.Bookings.{IsApart, held, waiting}
use Rattle.seat_rules.specs.Inventory.{Inventory, IsReplayed, state_now}
use Rattle.seat_rules.specs.Journal.{after, replay}
use Rattle.seat_rules.specs.Sequential.{NoneFits, State}
use Rattle.seat_rules.specs.declared.booking.Booking.{Booking}
use Rattle.seat_rules.proofs.History.Lines.{replay_next}
use Rattle.seat_rules.proofs.History.Replays.{replay_holds_within}
use Rattle.seat_rules.proofs.Step.Apart.{replay_apart}
use Rattle.seat_rules.proofs.Step.Outcomes.{grid_answer}
use Rattle.seat_carrying.specs.Carrying.{HasRoomFor, anew, command_for, in_turn, sells}
use Rattle.seat_carrying.specs.Lifting.{lifted, top_of, wanted}
use Rattle.seat_carrying.specs.Owned.{bookings_of, line_for, lines_after, owned_in_turn}
use Rattle.seat_carrying.specs.declared.owned.Owned.{Owned}
use Rattle.seat_moving.specs.Moving.{moved}
use Rattle.limit_changes.specs.Laws.{AreLadders}
use Rattle.limit_changes.proofs.Arriving.{bounded_waits}
use Rattle.carry_lines.specs.Carried.{asked_lines, carried_lines, changed_lines, limits_behind}
use Rattle.carry_lines.specs.Setting.{closing, closings_of, lines_set, manager_line}
use Rattle.carry_lines.specs.declared.mark.Mark.{Mark}
use Rattle.carry_lines.proofs.Promises.{has_the_very}
use Rattle.carry_limits.specs.ByFlight.{IsByFlight, Lists}
use Rattle.carry_limits.specs.Changes.{AreReached, HasRoomBehind}
use Rattle.carry_limits.specs.Legs.{HasLegsOf}
use Rattle.carry_limits.specs.Lifting.{held_on, lifted_on, waits_on}
use Rattle.carry_limits.specs.Overs.{overs}
use Rattle.carry_limits.specs.Wanting.{wanted_after, wanted_by, wanted_on}
use Rattle.carry_limits.specs.declared.wanting.Seasons.{Seasons}
use Rattle.carry_limits.proofs.Grids.{IsThere, lifted_at, there_or_none}
use Rattle.carry_limits.proofs.Lifted.{none_lifted}
use Rattle.carry_limits.proofs.Parted.{held_on_flight, waiting_on_flight}
use Rattle.carry_limits.proofs.Standing.{stays_replay}
use Rattle.carry_limits.specs.Same.{AllStay, CarryIsSame, IsSame, IsSameSeason, StandsOver}
use Rattle.carry_limits.proofs.Full.{none_fit}
use Rattle.carry_limits.proofs.Limits.{all_listed, lifted_is, under_top, wait_most, wanted_is}
use Rattle.carry_limits.proofs.Moves.{all_stay}
use Rattle.carry_limits.proofs.Names.{IsUnder, SameNames, same_names, under_closed}

-- ---- lists of steps

none_or_some : (steps : Steps) → (steps ≡ []) ⊎ (steps ≢ [])
none_or_some [] = inl refl
none_or_some (s ∷ lower) = inr (some s lower) where
  some : (t : Step) (more : Steps) → t ∷ more ≡ [] → ⊥
  some t more e = cc

same_nothing : (steps : Steps) → SameNames [] steps → steps ≡ []
same_nothing [] same = refl
same_nothing (t ∷ more) same = absurd same

-- ---- limits behind the lines that ask and that close

module _ (file : Ladders) (flight leg : ℕ) (now : Steps) where
  under_asked : (past : List Entry) (os : List Owned) → IsUnder now (ladder_at (replay file past).grid flight leg)
      → IsUnder now (ladder_at (replay file (lines_after file past os)).grid flight leg)
  under_asked past [] is = is
  under_asked past (o ∷ os) is =
      let line : Entry = line_for file past o in
      under_asked (past ++ line ∷ []) os
      (subst (λ (g : Ladders). IsUnder now (ladder_at g flight leg))
      (sym (ap (λ (s : State). s.grid) (replay_next file past line) ∙ grid_answer (replay file past) line.number (command_for o.booking))) is)

  under_set : (past : List Entry) (marks : List Mark) → IsUnder now (ladder_at (replay file past).grid flight leg)
      → IsUnder now (ladder_at (replay file (lines_set file past (closings_of marks))).grid flight leg)
  under_set past [] is = is
  under_set past (m ∷ marks) is =
      let line : Entry = manager_line file past (closing m) in
      under_set (past ++ line ∷ []) marks
      (subst (λ (s : State). IsUnder now (ladder_at s.grid flight leg)) (sym (replay_next file past line))
      (under_closed flight leg now (replay file past) line.number (record { flight = m.flight; leg = m.leg; class = Some m.class; closed = true }) is))

-- ---- all of it

module _ (s : Seasons) (lists : Lists) (rows : List Change) (kept : List Owned) (marks : List Mark) (cap today : ℕ) (new : Inventory)
    (has : HasLegsOf s.file.now s.flights.now)
    (ladders : AreLadders s.file.now)
    (reached : AreReached s lists rows)
    (room : HasRoomBehind s lists rows)
    (none : overs s.file.now lists s.flights.now ≡ [])
    (by_flight : IsByFlight lists (length s.flights.now) (bookings_of kept))
    (lines : IsReplayed new s.file.now cap (carried_lines s.file.now rows kept marks))
    (same : IsSameSeason s)
    (stands : StandsOver s.before.now)
    (kept_is : bookings_of kept ≡ (state_now s.before.now).bookings) where
  abbrev live : List Booking
  live = (state_now s.before.now).bookings

  abbrev present : ℕ → ℕ → Steps
  present flight leg = ladder_at (state_now s.before.now).grid flight leg

  abbrev opening : ℕ → ℕ → Steps
  opening flight leg = ladder_at s.file.now flight leg

  begun_ladders : AreLadders s.before.now.grid
  begun_ladders = subst AreLadders same.file ladders

  present_ladder : (flight leg : ℕ) → IsLegLadder (present flight leg)
  present_ladder flight leg = stays_replay flight leg s.before.now.grid s.before.now.journal (begun_ladders flight leg)

  names : (flight leg : ℕ) → SameNames (opening flight leg) (present flight leg)
  names flight leg =
      subst (λ (g : Ladders). SameNames (ladder_at g flight leg) (present flight leg)) (sym same.file)
      (same_names s.before.now.grid s.before.now.journal flight leg)

  top_less : (flight leg : ℕ) → top_of (present flight leg) ≤ top_of (opening flight leg)
  top_less flight leg =
      subst (λ (g : Ladders). top_of (present flight leg) ≤ top_of (ladder_at g flight leg)) (sym same.file) (stands.none_raised flight leg)

  -- what is wanted of a leg is what it has
  wanted_here : (flight leg : ℕ) → opening flight leg ≢ [] → wanted_on s flight leg ≡ with_marks (present flight leg) (opening flight leg)
  wanted_here flight leg some =
      ap (λ (b : Bool). wanted_by b s flight leg) same.changes
      ∙ ap (λ (o : Option Place). wanted_after s.before.now (opening flight leg) o) (same.named flight leg some)
      ∙ ap (λ (g : Ladders). wanted (opening flight leg) (ladder_at g flight leg) (present flight leg)) (sym same.file)
      ∙ wanted_is (opening flight leg) (present flight leg) (ladders flight leg).distinct (present_ladder flight leg).distinct (names flight leg)
      (present_ladder flight leg).not_rising (top_less flight leg)

  held_here : (flight leg class : ℕ) → flight < length s.flights.now → held_on lists flight leg class ≡ held live flight leg class
  held_here flight leg class inside =
      ap (λ (bs : List Booking). held bs flight leg class) (by_flight.each flight inside) ∙ held_on_flight (bookings_of kept) flight leg class
      ∙ ap (λ (bs : List Booking). held bs flight leg class) kept_is

  waits_here : (flight leg class : ℕ) → flight < length s.flights.now → waits_on lists flight leg class ≡ waiting live flight leg class
  waits_here flight leg class inside =
      ap (λ (bs : List Booking). waiting bs flight leg class) (by_flight.each flight inside) ∙ waiting_on_flight (bookings_of kept) flight leg class
      ∙ ap (λ (bs : List Booking). waiting bs flight leg class) kept_is

  within_now : (flight leg : ℕ) → IsWithin (present flight leg) (held live flight leg)
  within_now flight leg = (replay_holds_within s.before.now.grid s.before.now.journal (λ f l. (begun_ladders f l).distinct)).held flight leg

  -- and is not lifted
  lifted_there : (flight leg : ℕ) → flight < length s.flights.now → opening flight leg ≢ []
      → lifted_on s lists flight leg ≡ with_marks (present flight leg) (opening flight leg)
  lifted_there flight leg inside some =
      ap (lifted (top_of (opening flight leg)) (held_on lists flight leg) (waits_on lists flight leg)) (wanted_here flight leg some)
      ∙ lifted_is (top_of (opening flight leg)) (held_on lists flight leg) (waits_on lists flight leg) (with_marks (present flight leg) (opening flight leg))
      (within_marks (present flight leg) (opening flight leg) (held_on lists flight leg)
      (within_same (present flight leg) (held_on lists flight leg) (held live flight leg) (λ k. held_here flight leg k inside) (within_now flight leg)))
      (all_marks (λ (t : Step). t.limit ≤ top_of (opening flight leg)) (present flight leg) (opening flight leg) (λ t closed e. e)
      (under_top (present flight leg) (top_of (opening flight leg)) (present_ladder flight leg).not_rising (top_less flight leg)))
      (all_marks (λ (t : Step). waits_on lists flight leg t.class ≤ t.wait) (present flight leg) (opening flight leg) (λ t closed e. e)
      (all_listed (waits_on lists flight leg) (present flight leg) (present_ladder flight leg).distinct
      (λ k. omega (arith, waits_here flight leg k inside, stands.listed flight leg k))))
      (all_marks (λ (t : Step). t.wait ≤ 999) (present flight leg) (opening flight leg) (λ t closed e. e)
      (bounded_waits (present flight leg) (present_ladder flight leg).bounded))

  lifted_here : (flight leg : ℕ) → lifted_on s lists flight leg ≡ with_marks (present flight leg) (opening flight leg)
  lifted_here flight leg = by (none_or_some (opening flight leg)) (there_or_none s.file.now s.flights.now has flight leg) where
    bare : opening flight leg ≡ [] → lifted_on s lists flight leg ≡ with_marks (present flight leg) (opening flight leg)
    bare nothing =
        sym (none_lifted s lists flight leg nothing)
        ∙ ap (λ (steps : Steps). with_marks steps (opening flight leg))
        (sym (same_nothing (present flight leg) (subst (λ (steps : Steps). SameNames steps (present flight leg)) nothing (names flight leg))))

    by : ((opening flight leg ≡ []) ⊎ (opening flight leg ≢ [])) → (IsThere s.flights.now flight leg ⊎ (ladder_at s.file.now flight leg ≡ []))
        → lifted_on s lists flight leg ≡ with_marks (present flight leg) (opening flight leg)
    by (inl nothing) there = bare nothing
    by (inr some) (inr nothing) = bare nothing
    by (inr some) (inl is) = lifted_there flight leg (slice_get_within s.flights.now flight is.flown is.flight_at) some

  -- so the limits behind the changes are those that there are, with the marks of the file
  behind_is : (flight leg : ℕ) → ladder_at (limits_behind s.file.now rows) flight leg ≡ with_marks (present flight leg) (opening flight leg)
  behind_is flight leg = reached.each flight leg ∙ lifted_at s lists has flight leg ∙ lifted_here flight leg

  few : (flight leg class : ℕ) → waiting (bookings_of kept) flight leg class ≤ 999
  few flight leg class =
      omega (
        arith,
        ap (λ (bs : List Booking). waiting bs flight leg class) kept_is,
        stands.listed flight leg class,
        wait_most (present flight leg) class (bounded_waits (present flight leg) (present_ladder flight leg).bounded),
      )

  apart : IsApart (bookings_of kept)
  apart = subst IsApart (sym kept_is) (replay_apart s.before.now.grid s.before.now.journal)

  sold : AllByRecursion (λ b. sells s.file.now b.place b.class ≡ true) (bookings_of kept)
  sold =
      subst (λ (bs : List Booking). AllByRecursion (λ b. sells s.file.now b.place b.class ≡ true) bs) (sym kept_is)
      (subst (λ (g : Ladders). AllByRecursion (λ b. sells g b.place b.class ≡ true) live) (sym same.file) stands.sold)

  has_room : HasRoomFor (limits_behind s.file.now rows) (bookings_of kept)
  has_room = room.room (bookings_of kept) by_flight apart sold none few

  still : NoneFits (limits_behind s.file.now rows) (bookings_of kept)
  still =
      subst (λ (bs : List Booking). NoneFits (limits_behind s.file.now rows) bs) (sym kept_is)
      (none_fit (state_now s.before.now).grid (limits_behind s.file.now rows) s.file.now behind_is live live stands.full)

  under_end : (flight leg : ℕ) → IsUnder (present flight leg) (ladder_at (state_now new).grid flight leg)
  under_end flight leg =
      subst (λ (g : Ladders). IsUnder (present flight leg) (ladder_at (replay g new.journal).grid flight leg)) (sym lines.grid_is)
      (subst (λ (l : List Entry). IsUnder (present flight leg) (ladder_at (replay s.file.now l).grid flight leg)) (sym lines.journal_is)
      (under_set s.file.now flight leg (present flight leg) (asked_lines s.file.now rows kept) marks
      (under_asked s.file.now flight leg (present flight leg) (changed_lines s.file.now rows) (owned_in_turn kept)
      (subst (λ (steps : Steps). IsUnder (present flight leg) steps) (sym (behind_is flight leg)) (marks_back (present flight leg) (opening flight leg))))))

  pub is_same : IsSame s.before.now (length rows) new
  is_same = record {
    bookings = (has_the_very s.file.now cap rows kept marks new lines).same has_room still
        ∙ ap (λ (bs : List Booking). anew (length rows + 1) (in_turn bs)) kept_is;
    limits = under_end;
  }

pub carry_is_same : CarryIsSame
carry_is_same s lists rows kept marks cap today new has ladders reached room none by_flight kept_are lines same stands stay =
    is_same s lists rows kept marks cap today new has ladders reached room none by_flight lines same stands
    (ap (λ (os : List Owned). bookings_of os) kept_are
    ∙ all_stay s.before.now.journal s.old.now s.flights.now today s.file.now (state_now s.before.now).bookings stay
    (subst (λ (g : Ladders). AllByRecursion (λ b. sells g b.place b.class ≡ true) (state_now s.before.now).bookings) (sym same.file) stands.sold))
