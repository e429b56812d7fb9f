-- What is promised of a plan.
use Rattle.std.specs.Prelude.{slice_get}
use Rattle.std.proofs.Common.{◌≡◌, ◌≢◌, ◌≤◌, ◌<◌, ◌+◌, ◌&&◌, ◌++◌, ℕ, nat_le, nat_lt, not, Bool, true, false, codes, List, [], ◌∷◌, filter, length, Option, Some, None, refl, arith, sym, subst, ap, ◌∙◌}
use Rattle.std.proofs.lemmas.Bool.Decides.{nat_tests}
use Rattle.std.specs.List.{AllByRecursion}
use Rattle.airline_base.proofs.Tests.{both_true}
use Rattle.airline_base.specs.declared.place.Place.{Place}
use Rattle.ssim_flights.specs.declared.flight.Flight.{Flight as Flown}
use Rattle.seat_journal.specs.declared.entry.Change.{Change}
use Rattle.seat_journal.specs.declared.entry.Entry.{Entry}
use Rattle.seat_nesting.specs.Nesting.{Ladders, legs_of, may_wait}
use Rattle.seat_rules.specs.Bookings.{IsApart, waiting}
use Rattle.seat_rules.specs.Flights.{bookings_on}
use Rattle.seat_rules.specs.Inventory.{Inventory, IsReplayed, state_now}
use Rattle.seat_rules.specs.Journal.{IsLegal, replay}
use Rattle.seat_rules.specs.Sequential.{State, room_left, state_of}
use Rattle.seat_rules.specs.declared.booking.Booking.{Booking}
use Rattle.seat_rules.specs.declared.booking.Status.{Status}
use Rattle.seat_rules.specs.declared.booking.Status.TheVariants.{Held}
use Rattle.seat_rules.proofs.Filters.{all_pass, apart_pass, each_passes}
use Rattle.seat_rules.proofs.Step.Apart.{replay_apart}
use Rattle.seat_parts.proofs.OwnLines.{bookings_by_own_lines}
use Rattle.seat_carrying.specs.Carrying.{HasRoomFor, anew, asked_from, in_turn, sells, those_held}
use Rattle.seat_carrying.specs.Owned.{bookings_of}
use Rattle.seat_carrying.specs.declared.owned.Owned.{Owned}
use Rattle.seat_carrying.proofs.Asked.{asked_in_turn}
use Rattle.seat_desk.specs.AuditDesk.{most_lines}
use Rattle.seat_desk.specs.Loading.{IsGridOf}
use Rattle.seat_lists.specs.Picking.{has_locator, is_asked, keeps_on, keeps_place, picked}
use Rattle.seat_lists.specs.declared.picking.Wanted.{Wanted as Asking}
use Rattle.seat_moving.specs.Moving.{moved, name_on, target, target_by}
use Rattle.seat_moving.specs.declared.target.Target.TheVariants.{Onto}
use Rattle.limit_changes.specs.Laws.{AreLadders}
use Rattle.carry_asking.proofs.Owned.{moved_are_owned}
use Rattle.carry_limits.specs.ByFlight.{IsByFlight, Lists}
use Rattle.carry_limits.specs.Changes.{AreReached, HasRoomBehind, HasSeatsFor, changes_for}
use Rattle.carry_limits.specs.Legs.{HasLegsOf}
use Rattle.carry_limits.specs.Overs.{overs}
use Rattle.carry_limits.specs.declared.wanting.Seasons.{Seasons}
use Rattle.carry_lines.specs.Carriable.{is_agent, is_carriable, is_party, is_there}
use Rattle.carry_lines.specs.Carried.{AreShut, carried_lines, changed_lines, limits_behind, reply_by, reply_for}
use Rattle.carry_lines.specs.declared.mark.Mark.{Mark}
use Rattle.carry_lines.proofs.Answered.{none_changed}
use Rattle.carry_lines.proofs.Counting.{length_changed}
use Rattle.carry_lines.proofs.Promises.{answered, are_shut, has_line_each, keeps_all, loses_nobody}
use Rattle.carry_order.specs.Ordering.{first_under, holds_under}
use Rattle.carry_protections.specs.Going.{moved_under}
use Rattle.carry_protections.specs.declared.course.Course.{Course}
use Rattle.carry_plans.specs.Plans.{AreChosen, AreFollowed, AreParts, AreSeasons, AsksForAll, HasRoomIf, IsReportIn, first_twice, marks_for}
use Rattle.carry_plans.specs.Promises.{AreAllThere, ComeFirst, EachByRoom, IsLineOf, IsPromised, NobodyLoses, StaysSame}
use Rattle.carry_limits.proofs.Carrying.{carry_is_same}
use Rattle.carry_plans.specs.declared.asked.CarryAsked.{CarryAsked}
use Rattle.carry_plans.proofs.Apart.{apart_by_rows}
use Rattle.carry_plans.proofs.Firsts.{held_come_first}

-- ---- who is asked for

last_of : (a b c d : Bool) → (a && b && c && d) ≡ true → d ≡ true
last_of a b c true e = refl
last_of true true true false e = e
last_of true true false false e = e
last_of true false c false e = e
last_of false b c false e = e

all_both : (P : Owned → Type 0) (xs ys : List Owned) → AllByRecursion P xs → AllByRecursion P ys → AllByRecursion P (xs ++ ys)
all_both P [] ys a b = b
all_both P (x ∷ xs) ys a b = (a.0, all_both P xs ys a.1 b)

all_under : (P : Owned → Type 0) (first : List (List ℕ)) (os : List Owned) → AllByRecursion P os → AllByRecursion P (first_under first os)
all_under P [] os all = all
all_under P (l ∷ first) os all =
    all_both P (filter (holds_under l) os) (first_under first (filter (λ o. not (holds_under l o)) os)) (all_pass (holds_under l) P os all)
    (all_under P first (filter (λ o. not (holds_under l o)) os) (all_pass (λ o. not (holds_under l o)) P os all))

all_of : (P : Booking → Type 0) (os : List Owned) → AllByRecursion (λ o. P o.booking) os → AllByRecursion P (bookings_of os)
all_of P [] all = tt
all_of P (o ∷ os) all = (all.0, all_of P os all.1)

third_of : (a b c d : Bool) → (a && b && c && d) ≡ true → c ≡ true
third_of a b true d e = refl
third_of true true false d e = e
third_of true false false d e = e
third_of false b false d e = e

reaches : (from to legs : ℕ) → (nat_le from to && nat_lt to legs) ≡ true → to < legs
reaches from to legs e =
    let two = both_true (nat_le from to) (nat_lt to legs) e in
    grind (arith, nat_tests, two.1)

pub are_there : (asked : CarryAsked) (courses : List Course) (before : Inventory) (olds news : List Flown) (file : Ladders) (live : List Booking)
    (kept : List Owned) (lists : Lists) → HasLegsOf file news → AreParts asked courses olds before news file live kept lists
    → first_twice lists courses ≡ None → AreAllThere file kept
are_there asked courses before olds news file live kept lists has parts once = record {
  sold = all_kept (λ b. sells file b.place b.class ≡ true) sold_left;
  apart =
      apart_by_rows courses before.journal olds news asked.today asked.order.now (is_carriable file) live kept file lists has apart_live parts.chosen.kept_are
      (all_kept (λ b. b.place.to < length (legs_of file b.place.flight)) there_left) parts.by_flight once;
}
  where
    moves : List Owned
    moves = moved_under courses before.journal olds news asked.today live

    all_kept : (P : Booking → Type 0) → ((o : Owned) → is_carriable file o ≡ true → P o.booking) → AllByRecursion P (bookings_of kept)
    all_kept P each =
        all_of P kept
        (subst (λ (l : List Owned). AllByRecursion (λ o. P o.booking) l) (sym parts.chosen.kept_are)
        (all_under (λ o. P o.booking) asked.order.now (filter (is_carriable file) moves)
        (each_passes (is_carriable file) (λ o. P o.booking) each moves)))

    sold_left : (o : Owned) → is_carriable file o ≡ true → sells file o.booking.place o.booking.class ≡ true
    sold_left o = last_of (is_agent o.session) (is_party o.booking.seats) (is_there file o.booking.place) (sells file o.booking.place o.booking.class)

    there_left : (o : Owned) → is_carriable file o ≡ true → o.booking.place.to < length (legs_of file o.booking.place.flight)
    there_left o e =
        reaches o.booking.place.from o.booking.place.to (length (legs_of file o.booking.place.flight))
        (third_of (is_agent o.session) (is_party o.booking.seats) (is_there file o.booking.place) (sells file o.booking.place o.booking.class) e)

    test : Booking → Bool
    test = is_asked olds parts.chosen.every.asking false

    apart_live : IsApart live
    apart_live =
        subst IsApart (sym parts.chosen.every.live_are) (apart_pass test (state_now before).bookings (replay_apart before.grid before.journal))

-- ---- who loses

lost_room : (s : State) (b : Booking) (reply : List ℕ) → reply ≡ reply_for s b → b.status ≡ Held → reply ≢ codes "KK"
    → room_left s b.place b.class < b.seats
lost_room s b reply is held lost =
    by (nat_le b.seats (room_left s b.place b.class)) refl
    (is ∙ ap (λ (status : Status). reply_by status (nat_le b.seats (room_left s b.place b.class)) (may_wait s.grid (waiting s.bookings) b.place b.class b.seats)) held)
  where
    by : (t : Bool) → nat_le b.seats (room_left s b.place b.class) ≡ t
        → reply ≡ reply_by Held (nat_le b.seats (room_left s b.place b.class)) (may_wait s.grid (waiting s.bookings) b.place b.class b.seats)
        → room_left s b.place b.class < b.seats
    by true e h =
        let so : reply ≡ codes "KK" =
        h ∙ ap (λ (t : Bool). reply_by Held t (may_wait s.grid (waiting s.bookings) b.place b.class b.seats)) e in
        absurd (lost so)
    by false e h = grind (arith, nat_tests)

-- ---- all of it

-- what stands behind the changes of limits
pub record IsBehindFor (news : List Flown) (file : Ladders) (lists : Lists) (rows : List Change) : Type 0 where
  pub seats : (live : List Booking) → IsByFlight lists (length news) live
      → AllByRecursion (λ b. sells file b.place b.class ≡ true) live → overs file lists news ≡ []
      → HasSeatsFor (limits_behind file rows) live
  pub room : (live : List Booking) → IsByFlight lists (length news) live → IsApart live
      → AllByRecursion (λ b. sells file b.place b.class ≡ true) live → overs file lists news ≡ []
      → ((flight leg class : ℕ) → waiting live flight leg class ≤ 999) → HasRoomFor (limits_behind file rows) live

module _ (file : Ladders) (rows : List Change) (kept : List Owned) (marks : List Mark) (after : Inventory)
    (lines : IsReplayed after file most_lines (carried_lines file rows kept marks)) where
  asked_in : (state_now after).bookings ≡ (asked_from (state_of (limits_behind file rows) []) (length rows + 1) (in_turn (bookings_of kept))).bookings
  asked_in =
      keeps_all file most_lines rows kept marks after lines
      ∙ ap (λ (s : State). s.bookings) (asked_in_turn file (changed_lines file rows) kept)
      ∙ ap (λ (n : ℕ). (asked_from (replay file (changed_lines file rows)) (n + 1) (in_turn (bookings_of kept))).bookings) (length_changed file rows)
      ∙ ap (λ (l : List Booking). (asked_from (state_of (limits_behind file rows) l) (length rows + 1) (in_turn (bookings_of kept))).bookings) (none_changed file rows)

  pub nobody : (news : List Flown) (lists : Lists) → IsBehindFor news file lists rows → IsByFlight lists (length news) (bookings_of kept)
      → AreAllThere file kept → NobodyLoses news file lists kept (length rows) after
  nobody news lists behind by_flight there = record {
    held = λ none.
        subst (λ (l : List Booking). ComeFirst front l) (sym asked_in)
        (held_come_first (limits_behind file rows) (bookings_of kept) (length rows + 1) (behind.seats (bookings_of kept) by_flight there.sold none) there.apart);
    all = λ none few.
        (loses_nobody file most_lines rows kept marks after lines).each (behind.room (bookings_of kept) by_flight there.apart there.sold none few);
  }
    where
      front : List Booking
      front = anew (length rows + 1) (those_held (bookings_of kept))

  pub each_by_room : IsApart (bookings_of kept) → EachByRoom file rows kept after
  each_by_room apart = record {
    turns = has_line_each file most_lines rows kept marks after lines;
    answered = told;
    loses = λ o front e is held lost. lost_room (replay file front) o.booking e.reply (told o front e is) held lost;
    own_lines = λ flight.
        bookings_by_own_lines file file after.journal flight refl
        ∙ ap (λ (g : Ladders). bookings_on flight (replay g after.journal).bookings) over;
  }
    where
      over : file ≡ after.grid
      over = sym lines.grid_is

      told : (o : Owned) (front : List Entry) (e : Entry) → IsLineOf file rows kept after o front e → e.reply ≡ reply_for (replay file front) o.booking
      told o front e is = (answered file most_lines rows kept marks after lines).each is.turn o front e apart is.in_its_turn is.line is.behind

module _ (asked : CarryAsked) (olds : List Flown) (before : Inventory) (news : List Flown) (file : Ladders) (live : List Booking) (kept : List Owned)
    (lists : Lists) (courses : List Course) (followed : AreFollowed asked courses olds before news file live lists)
    (parts : AreParts asked courses olds before news file live kept lists) (has : HasLegsOf file news) where
  pub promised_of : (after : Inventory) (report : List ℕ) (seasons : Seasons) (rows : List Change) (marks : List Mark) (ahead : ℕ)
      → AreSeasons asked olds before news file seasons → HasRoomIf asked.displaces news file lists
      → rows ≡ changes_for seasons lists → marks ≡ marks_for asked.fresh_limits olds before news file
      → IsReplayed after file most_lines (carried_lines file rows kept marks) → ahead ≡ length rows
      → IsReportIn asked.form asked.counts.now asked.today olds news live kept ahead after report → IsBehindFor news file lists rows → StaysSame asked courses seasons lists (length rows) after
      → IsPromised asked olds before news file after report
  promised_of after report seasons rows marks ahead are room r m lines counted reported behind same = record {
    planned = record {
      courses = courses;
      live = live;
      kept = kept;
      lists = lists;
      followed = followed;
      parts = parts;
      seasons = seasons;
      are_seasons = are;
      room = room;
      lines = replayed;
      reported = told;
    };
    there = there_all;
    nobody_loses =
        subst (λ (x : List Change). NobodyLoses news file lists kept (length x) after) r
        (nobody file rows kept marks after lines news lists behind parts.by_flight there_all);
    by_room = subst (λ (x : List Change). EachByRoom file x kept after) r (each_by_room file rows kept marks after lines there_all.apart);
    closes = subst (λ (x : List Mark). AreShut x after.journal) m (are_shut file most_lines rows kept marks after lines);
    same = subst (λ (x : List Change). StaysSame asked courses seasons lists (length x) after) r same;
  }
    where
      there_all : AreAllThere file kept
      there_all = are_there asked courses before olds news file live kept lists has parts followed.once

      replayed : IsReplayed after file most_lines (carried_lines file (changes_for seasons lists) kept (marks_for asked.fresh_limits olds before news file))
      replayed =
          subst (λ (x : List Mark). IsReplayed after file most_lines (carried_lines file (changes_for seasons lists) kept x)) m
          (subst (λ (x : List Change). IsReplayed after file most_lines (carried_lines file x kept marks)) r lines)

      told : IsReportIn asked.form asked.counts.now asked.today olds news live kept (length (changes_for seasons lists)) after report
      told =
          subst (λ (x : List Change). IsReportIn asked.form asked.counts.now asked.today olds news live kept (length x) after report) r
          (subst (λ (k : ℕ). IsReportIn asked.form asked.counts.now asked.today olds news live kept k after report) counted reported)

-- ---- who stays

-- what goes onto a place of its flights is on one of them
is_flown : (olds news : List Flown) (today : ℕ) (p q : Place) → target olds news today p ≡ Onto q → (asking : Asking) → asking.flight ≡ None
    → asking.day ≡ None → keeps_place olds asking p ≡ true
is_flown olds news today p q goes asking any each =
    by (slice_get olds p.flight) goes
  where
    by : (o : Option Flown) → target_by olds news today p (name_on o p) ≡ Onto q → keeps_on asking p o ≡ true
    by None wrong = absurd cc
    by (Some flight) is = rw (any, each) refl

module _ (olds news : List Flown) (today : ℕ) (asking : Asking) (asks : AsksForAll asking) where
  picks_one : (b : Booking) → target olds news today b.place ≡ Onto b.place → is_asked olds asking false b ≡ true
  picks_one b stays =
      let located : has_locator asking.locators.now b ≡ true = ap (λ (l : List (List ℕ)). has_locator l b) asks.locators in
      let there : keeps_place olds asking b.place ≡ true = is_flown olds news today b.place b.place stays asking asks.flight asks.day in
      rw (located, there) refl

  pub picks_all : (bs : List Booking) → AllByRecursion (λ b. target olds news today b.place ≡ Onto b.place) bs → picked olds asking false bs ≡ bs
  picks_all [] stay = refl
  picks_all (b ∷ bs) stay = hit (is_asked olds asking false) b bs (picks_one b stay.0) (picks_all bs stay.1) where
    hit : (p : Booking → Bool) (x : Booking) (xs : List Booking) → p x ≡ true → filter p xs ≡ xs → filter p (x ∷ xs) ≡ x ∷ xs
    hit p x xs e rest = rw e (ap (λ (l : List Booking). x ∷ l) rest)

-- ---- the same season

filter_same : (p q : Owned → Bool) (os : List Owned) → AllByRecursion (λ o. p o ≡ q o) os → filter p os ≡ filter q os
filter_same p q [] all = refl
filter_same p q (o ∷ os) all = cases (q o) refl (filter_same p q os all.1) where
  cases : (t : Bool) → q o ≡ t → filter p os ≡ filter q os → filter p (o ∷ os) ≡ filter q (o ∷ os)
  cases true e rest = let same : p o ≡ true = all.0 ∙ e in rw (same, e) (ap (λ (l : List Owned). o ∷ l) rest)
  cases false e rest = let same : p o ≡ false = all.0 ∙ e in rw (same, e) rest

-- those that are asked for, where no row says where bookings go, nobody comes first and each stays
all_that_stay : (asked : CarryAsked) (courses : List Course) (before : Inventory) (olds news : List Flown) (file : Ladders) (live : List Booking)
    (kept : List Owned) → AreChosen asked courses before olds news file live kept → IsLegal before.grid before.journal → IsGridOf news file
    → courses ≡ [] → asked.order.now ≡ [] → AllByRecursion (λ b. target olds news asked.today b.place ≡ Onto b.place) (state_now before).bookings
    → kept ≡ filter (λ o. sells file o.booking.place o.booking.class)
    (moved before.journal olds news asked.today (state_now before).bookings)
all_that_stay asked courses before olds news file live kept chosen legal of none nobody stay =
    chosen.kept_are
    ∙ ap (λ (l : List (List ℕ)). first_under l (filter (is_carriable file) (moved_under courses before.journal olds news asked.today live))) nobody
    ∙ ap (λ (cs : List Course). filter (is_carriable file) (moved_under cs before.journal olds news asked.today live)) none
    ∙ ap (λ (bs : List Booking). filter (is_carriable file) (moved before.journal olds news asked.today bs)) all
    ∙ filter_same (is_carriable file) (λ (o : Owned). sells file o.booking.place o.booking.class)
    (moved before.journal olds news asked.today (state_now before).bookings)
    (moved_are_owned before.grid before.journal olds news asked.today file legal of)
  where
    all : live ≡ (state_now before).bookings
    all = chosen.every.live_are ∙ picks_all olds news asked.today chosen.every.asking chosen.every.asks (state_now before).bookings stay

pub stays_same : (s : Seasons) (asked : CarryAsked) (courses : List Course) (live : List Booking) (kept : List Owned) (lists : Lists)
    (rows : List Change) (marks : List Mark) (after : Inventory) → HasLegsOf s.file.now s.flights.now → AreLadders s.file.now
    → AreReached s lists rows → HasRoomBehind s lists rows → IsByFlight lists (length s.flights.now) (bookings_of kept)
    → AreChosen asked courses s.before.now s.old.now s.flights.now s.file.now live kept → IsLegal s.before.now.grid s.before.now.journal
    → IsGridOf s.flights.now s.file.now → IsReplayed after s.file.now most_lines (carried_lines s.file.now rows kept marks)
    → StaysSame asked courses s lists (length rows) after
stays_same s asked courses live kept lists rows marks after has ladders reached room by_flight chosen legal of lines = record {
  same = λ no_rows nobody none is stands stay.
      carry_is_same s lists rows kept marks most_lines asked.today after has ladders reached room none by_flight
      (all_that_stay asked courses s.before.now s.old.now s.flights.now s.file.now live kept chosen legal of no_rows nobody stay)
      lines is stands stay;
}
