-- Which of some journals has the lines of a flight, by its place among them, counted from 1.
use Rattle.std.specs.Prelude.{◌≡◌, ◌<◌, ℕ, ◌+◌, Bool, nat_lt, List, [], ◌∷◌, ◌++◌, find, Option, None, Some, IfSome, option_map, if◌then◌else◌}
use Rattle.std.specs.List.{list_any, slice_index_or}
use Rattle.seat_journal.specs.declared.entry.Entry.{Entry}
use Rattle.seat_journal.specs.declared.entry.Work.{Work}
use Rattle.seat_rules.specs.Flights.{flight_of, is_on}
use Rattle.seat_rules.specs.Prefixes.{Begins}

-- some line is on the flight
abbrev pub has_line : ℕ → List Entry → Bool
has_line flight entries = list_any (λ e. is_on flight e.work) entries

-- the place of the first of these journals that has a line on the flight, where the first of them is at place n; 0 where none has
abbrev pub owner_from : ℕ → List (List Entry) → ℕ → ℕ
owner_from n [] flight = 0
owner_from n (journal ∷ journals) flight = (if has_line flight journal then n else owner_from (n + 1) journals flight)

-- the same of the flight of a line; 0 for a line without a place
abbrev pub owner_among : List (List Entry) → Option ℕ → ℕ
owner_among journals None = 0
owner_among journals (Some flight) = owner_from 1 journals flight

-- the number of the first of these lines on whose flight one of the journals has a line, and the place of the first such journal
abbrev pub first_shared : List (List Entry) → List Entry → Option (ℕ × ℕ)
first_shared journals entries =
    option_map (λ e. (e.number, owner_among journals (flight_of e.work)))
    (find (λ e. nat_lt 0 (owner_among journals (flight_of e.work))) entries)

-- ---- as a list of places, one for each flight

abbrev pub owner_at : List ℕ → ℕ → ℕ
owner_at owners flight = slice_index_or owners flight 0

abbrev pub owner_of_flight : List ℕ → Option ℕ → ℕ
owner_of_flight owners None = 0
owner_of_flight owners (Some flight) = owner_at owners flight

abbrev pub owner_in : List ℕ → Work → ℕ
owner_in owners work = owner_of_flight owners (flight_of work)

abbrev pub is_owned : List ℕ → Work → Bool
is_owned owners work = nat_lt 0 (owner_in owners work)

abbrev pub first_owned : List ℕ → List Entry → Option (ℕ × ℕ)
first_owned owners entries =
    option_map (λ e. (e.number, owner_in owners e.work)) (find (λ e. is_owned owners e.work) entries)

-- the work is on one of the first so many flights, or on none
pub record IsWithin (flights : ℕ) (work : Work) : Type 0 where
  pub below : IfSome (flight_of work) (λ flight. flight < flights)

-- so is each of these lines
pub record AreWithin (flights : ℕ) (entries : List Entry) : Type 0 where
  pub each : (front : List Entry) (e : Entry) → Begins (front ++ e ∷ []) entries → IsWithin flights e.work

-- the list says it of these journals
pub record AreOwners (journals : List (List Entry)) (owners : List ℕ) : Type 0 where
  pub each : (flight : ℕ) → owner_at owners flight ≡ owner_from 1 journals flight

-- the flights of these lines are those of the journal at this place, and all others as before
pub record OwnsToo (place : ℕ) (old new : List ℕ) (entries : List Entry) : Type 0 where
  pub each : (flight : ℕ) → owner_at new flight ≡ (if has_line flight entries then place else owner_at old flight)

-- the flight of a line is that of the journal at this place, and all others as before
pub record OwnsLine (place : ℕ) (old new : List ℕ) (work : Work) : Type 0 where
  pub each : (flight : ℕ) → owner_at new flight ≡ (if is_on flight work then place else owner_at old flight)

-- no flight has one
pub record OwnsNone (owners : List ℕ) : Type 0 where
  pub each : (flight : ℕ) → owner_at owners flight ≡ 0
