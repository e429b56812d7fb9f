-- One booking after the other is asked for.
use Rattle.std.proofs.Common.{◌≡◌, ℕ, ◌+◌, ◌<◌, Bool, true, false, List, [], ◌∷◌, ◌++◌, length, drop, filter, get_or, not, if◌then◌else◌, arith, refl, sym, ap, subst, ◌∙◌, take, length-append, append_assoc}
use Rattle.std.proofs.lemmas.List.{append-nil, drop_more, length_push, take-append-drop, take_more}
use Rattle.std.proofs.lemmas.List.Elements.{filter-append}
use Rattle.seat_nesting.specs.Nesting.{Ladders}
use Rattle.seat_journal.specs.declared.entry.Entry.{Entry}
use Rattle.std.proofs.lemmas.List.Sums.{fold_push}
use Rattle.seat_journal.specs.declared.entry.Work.TheVariants.{Seats}
use Rattle.seat_rules.specs.declared.booking.Booking.{Booking}
use Rattle.seat_rules.specs.declared.booking.Status.{Status}
use Rattle.seat_rules.specs.declared.booking.Status.TheVariants.{Held, Waiting}
use Rattle.seat_rules.specs.Bookings.{is_held, is_waiting}
use Rattle.seat_rules.specs.Inventory.{Inventory, state_now}
use Rattle.seat_rules.specs.Journal.{after, replay}
use Rattle.seat_rules.specs.Sequential.{NoneFits, State, answer, state_of}
use Rattle.seat_carrying.specs.Carrying.{AreCarried, HasRoomFor, anew, asked_from, command_for, in_turn, those_held}
use Rattle.seat_carrying.proofs.Carried.{nobody_loses}
use Rattle.seat_carrying.proofs.Identity.{carry_is_identity}
use Rattle.seat_carrying.specs.Owned.{AsksForFirst, HasTheVery, LosesNobody, bookings_of, line_for, lines_after, owned_in_turn}
use Rattle.seat_carrying.specs.declared.owned.Owned.{Owned}

-- lines of some, and then of others
pub lines_both : (grid : Ladders) (past : List Entry) (xs ys : List Owned)
    → lines_after grid past (xs ++ ys) ≡ lines_after grid (lines_after grid past xs) ys
lines_both grid past [] ys = refl
lines_both grid past (o ∷ xs) ys = lines_both grid (past ++ line_for grid past o ∷ []) xs ys

-- the journal has the lines of those among the first i that pass the test, and the others come after them
pub record IsAskedTo (test : Owned → Bool) (grid : Ladders) (cap : ℕ) (past : List Entry) (live : List Owned) (i : ℕ) (core : Inventory) : Type 0 where
  pub same : lines_after grid past (filter test live) ≡ lines_after grid core.journal (filter test (drop i live))
  pub so_far : core.journal ≡ lines_after grid past (filter test (take i live))
  pub grid_is : core.grid ≡ grid
  pub cap_is : core.cap ≡ cap

filter_cons : (test : Owned → Bool) (o : Owned) (os : List Owned)
    → filter test (o ∷ os) ≡ (if test o then o ∷ [] else []) ++ filter test os
filter_cons test o os = cases (test o) refl where
  cases : (t : Bool) → test o ≡ t → filter test (o ∷ os) ≡ (if test o then o ∷ [] else []) ++ filter test os
  cases true e = rw e refl
  cases false e = rw e refl

taken : (test : Owned → Bool) (live : List Owned) (i : ℕ) (o : Owned) → i < length live → o ≡ get_or live i o
    → filter test (take (i + 1) live) ≡ filter test (take i live) ++ (if test o then o ∷ [] else [])
taken test live i o inside here =
    ap (filter test) (take_more live i o inside ∙ ap (λ (x : Owned). take i live ++ x ∷ []) (sym here))
    ∙ filter-append test (take i live) (o ∷ [])
    ∙ ap (λ (l : List Owned). filter test (take i live) ++ l) (filter_cons test o [] ∙ append-nil (if test o then o ∷ [] else []))

pub one_more : (test : Owned → Bool) (grid : Ladders) (cap : ℕ) (past : List Entry) (live : List Owned) (i : ℕ) (o : Owned) (turn : Bool) (old new : Inventory)
    → IsAskedTo test grid cap past live i old → i < length live → o ≡ get_or live i o → turn ≡ test o
    → new.journal ≡ lines_after old.grid old.journal (if turn then o ∷ [] else []) → new.grid ≡ old.grid → new.cap ≡ old.cap
    → IsAskedTo test grid cap past live (i + 1) new
one_more test grid cap past live i o turn old new so_far inside here is_turn line grid_is cap_is =
    let more : drop i live ≡ o ∷ drop (i + 1) live = drop_more live i o inside ∙ ap (λ (x : Owned). x ∷ drop (i + 1) live) (sym here) in
    let asked : new.journal ≡ lines_after grid old.journal (if test o then o ∷ [] else []) =
    line ∙ ap (λ (g : Ladders). lines_after g old.journal (if turn then o ∷ [] else [])) so_far.grid_is
    ∙ ap (λ (b : Bool). lines_after grid old.journal (if b then o ∷ [] else [])) is_turn in
    record {
      same = so_far.same ∙ ap (λ (l : List Owned). lines_after grid old.journal (filter test l)) more
          ∙ ap (lines_after grid old.journal) (filter_cons test o (drop (i + 1) live))
          ∙ lines_both grid old.journal (if test o then o ∷ [] else []) (filter test (drop (i + 1) live))
          ∙ ap (λ (l : List Entry). lines_after grid l (filter test (drop (i + 1) live))) (sym asked);
      so_far = asked ∙ ap (λ (l : List Entry). lines_after grid l (if test o then o ∷ [] else [])) so_far.so_far
          ∙ sym (lines_both grid past (filter test (take i live)) (if test o then o ∷ [] else []))
          ∙ ap (lines_after grid past) (sym (taken test live i o inside here));
      grid_is = grid_is ∙ so_far.grid_is;
      cap_is = cap_is ∙ so_far.cap_is;
    }

-- where the next one is not answered, those ahead of it were
pub stopped : (test : Owned → Bool) (grid : Ladders) (cap : ℕ) (past : List Entry) (live : List Owned) (i : ℕ) (o : Owned) (turn : Bool) (old new : Inventory)
    → IsAskedTo test grid cap past live i old → i < length live → o ≡ get_or live i o → turn ≡ test o → turn ≡ true
    → new.journal ≡ old.journal → AsksForFirst grid past new.journal (filter test live)
stopped test grid cap past live i o turn old new so_far inside here is_turn is same =
    let more : drop i live ≡ o ∷ drop (i + 1) live = drop_more live i o inside ∙ ap (λ (x : Owned). x ∷ drop (i + 1) live) (sym here) in
    let passes : test o ≡ true = sym is_turn ∙ is in
    let rest : filter test (drop i live) ≡ o ∷ filter test (drop (i + 1) live) =
    ap (filter test) more ∙ filter_cons test o (drop (i + 1) live) ∙ ap (λ (b : Bool). (if b then o ∷ [] else []) ++ filter test (drop (i + 1) live)) passes in
    record {
      asked = filter test (take i live);
      left = filter test (drop i live);
      parts = ap (filter test) (sym (take-append-drop i live)) ∙ filter-append test (take i live) (drop i live);
      some = omega (arith, ap (λ (l : List Owned). length l) rest);
      lines = same ∙ so_far.so_far;
    }

pub first_of_both : (grid : Ladders) (old new : List Entry) (xs ys : List Owned) → AsksForFirst grid old new xs
    → AsksForFirst grid old new (xs ++ ys)
first_of_both grid old new xs ys a = record {
  asked = a.asked;
  left = a.left ++ ys;
  parts = ap (λ (l : List Owned). l ++ ys) a.parts ∙ append_assoc a.asked a.left ys;
  some = omega (arith, a.some, length-append a.left ys);
  lines = a.lines;
}

pub rest_of_both : (grid : Ladders) (old mid new : List Entry) (xs ys : List Owned) → mid ≡ lines_after grid old xs
    → AsksForFirst grid mid new ys → AsksForFirst grid old new (xs ++ ys)
rest_of_both grid old mid new xs ys first a = record {
  asked = xs ++ a.asked;
  left = a.left;
  parts = ap (λ (l : List Owned). xs ++ l) a.parts ∙ sym (append_assoc xs a.asked a.left);
  some = a.some;
  lines = a.lines ∙ ap (λ (l : List Entry). lines_after grid l a.asked) first ∙ sym (lines_both grid old xs a.asked);
}

-- what does not wait is held
pub held_turn : (waits : Bool) (s : Status) → waits ≡ is_waiting s → not waits ≡ is_held s
held_turn waits Held e = ap not e
held_turn waits Waiting e = ap not e

-- ---- what the lines leave

bookings_both : (xs ys : List Owned) → bookings_of (xs ++ ys) ≡ bookings_of xs ++ bookings_of ys
bookings_both [] ys = refl
bookings_both (x ∷ xs) ys = ap (λ (l : List Booking). x.booking ∷ l) (bookings_both xs ys)

bookings_passing : (test : Booking → Bool) (os : List Owned)
    → bookings_of (filter (λ (o : Owned). test o.booking) os) ≡ filter test (bookings_of os)
bookings_passing test [] = refl
bookings_passing test (o ∷ os) = cases (test o.booking) refl (bookings_passing test os) where
  cases : (t : Bool) → test o.booking ≡ t
      → bookings_of (filter (λ (x : Owned). test x.booking) os) ≡ filter test (bookings_of os)
      → bookings_of (filter (λ (x : Owned). test x.booking) (o ∷ os)) ≡ filter test (bookings_of (o ∷ os))
  cases true e rest = rw e (ap (λ (l : List Booking). o.booking ∷ l) rest)
  cases false e rest = rw e rest

pub bookings_turn : (os : List Owned) → bookings_of (owned_in_turn os) ≡ in_turn (bookings_of os)
bookings_turn os =
    bookings_both (filter (λ (o : Owned). is_held o.booking.status) os) (filter (λ (o : Owned). is_waiting o.booking.status) os)
    ∙ ap (λ (l : List Booking). l ++ bookings_of (filter (λ (o : Owned). is_waiting o.booking.status) os)) (bookings_passing (λ (b : Booking). is_held b.status) os)
    ∙ ap (λ (l : List Booking). those_held (bookings_of os) ++ l) (bookings_passing (λ (b : Booking). is_waiting b.status) os)

-- the state behind the lines is the one that asking leaves
replay_asked : (grid : Ladders) (past : List Entry) (os : List Owned) (n : ℕ) → n ≡ length past + 1
    → replay grid (lines_after grid past os) ≡ asked_from (replay grid past) n (bookings_of os)
replay_asked grid past [] n e = refl
replay_asked grid past (o ∷ os) n e =
    let line : Entry = line_for grid past o in
    let more : List Entry = past ++ line ∷ [] in
    replay_asked grid more os (n + 1) (omega (arith, e, length_push past line))
    ∙ ap (λ (s : State). asked_from s (n + 1) (bookings_of os)) (fold_push after (state_of grid []) past line
    ∙ ap (λ (k : ℕ). (answer (replay grid past) k (Seats (command_for o.booking))).state) (sym e))

pub asked_in_turn : (grid : Ladders) (past : List Entry) (live : List Owned)
    → replay grid (lines_after grid past (owned_in_turn live)) ≡ asked_from (replay grid past) (length past + 1) (in_turn (bookings_of live))
asked_in_turn grid past live =
    replay_asked grid past (owned_in_turn live) (length past + 1) refl
    ∙ ap (asked_from (replay grid past) (length past + 1)) (bookings_turn live)

-- held ones, and then waiting ones
pub both_lines : (grid : Ladders) (old mid new : List Entry) (live : List Owned)
    → mid ≡ lines_after grid old (filter (λ (o : Owned). is_held o.booking.status) live)
    → new ≡ lines_after grid mid (filter (λ (o : Owned). is_waiting o.booking.status) live)
    → new ≡ lines_after grid old (owned_in_turn live)
both_lines grid old mid new live first rest =
    rest ∙ ap (λ (l : List Entry). lines_after grid l (filter (λ (o : Owned). is_waiting o.booking.status) live)) first
    ∙ sym (lines_both grid old (filter (λ (o : Owned). is_held o.booking.status) live) (filter (λ (o : Owned). is_waiting o.booking.status) live))

-- ---- what is promised of them

empty_state : (s : State) → s.bookings ≡ [] → s ≡ state_of s.grid []
empty_state s none = ap (state_of s.grid) none

state_behind : (old new : Inventory) (live : List Owned) → new.grid ≡ old.grid → new.journal ≡ lines_after old.grid old.journal (owned_in_turn live)
    → (state_now old).bookings ≡ []
    → state_now new ≡ asked_from (state_of (state_now old).grid []) (length old.journal + 1) (in_turn (bookings_of live))
state_behind old new live grid_is lines none =
    ap (λ (g : Ladders). replay g new.journal) grid_is ∙ ap (replay old.grid) lines ∙ asked_in_turn old.grid old.journal live
    ∙ ap (λ (s : State). asked_from s (length old.journal + 1) (in_turn (bookings_of live))) (empty_state (state_now old) none)

pub loses_nobody : (old new : Inventory) (live : List Owned) → new.grid ≡ old.grid → new.journal ≡ lines_after old.grid old.journal (owned_in_turn live)
    → LosesNobody old new (bookings_of live)
loses_nobody old new live grid_is lines = record { each = each } where
  each : (state_now old).bookings ≡ [] → HasRoomFor (state_now old).grid (bookings_of live)
      → AreCarried (length old.journal + 1) (in_turn (bookings_of live)) (state_now new).bookings
  each none has = subst (λ (s : State). AreCarried (length old.journal + 1) (in_turn (bookings_of live)) s.bookings) (sym (state_behind old new live grid_is lines none))
      (nobody_loses (state_now old).grid (bookings_of live) (length old.journal + 1) has)

pub has_the_very : (old new : Inventory) (live : List Owned) → new.grid ≡ old.grid → new.journal ≡ lines_after old.grid old.journal (owned_in_turn live)
    → HasTheVery old new (bookings_of live)
has_the_very old new live grid_is lines = record { same = same } where
  same : (state_now old).bookings ≡ [] → HasRoomFor (state_now old).grid (bookings_of live) → NoneFits (state_now old).grid (bookings_of live)
      → state_now new ≡ state_of (state_now old).grid (anew (length old.journal + 1) (in_turn (bookings_of live)))
  same none has still = state_behind old new live grid_is lines none ∙ carry_is_identity (state_now old).grid (bookings_of live) (length old.journal + 1) has still

pub behind_held : (old mid new : Inventory) (live : List Owned) → mid.grid ≡ old.grid
    → mid.journal ≡ lines_after old.grid old.journal (filter (λ (o : Owned). is_held o.booking.status) live)
    → new.journal ≡ lines_after mid.grid mid.journal (filter (λ (o : Owned). is_waiting o.booking.status) live)
    → new.journal ≡ lines_after old.grid old.journal (owned_in_turn live)
behind_held old mid new live grid_is first rest =
    both_lines old.grid old.journal mid.journal new.journal live first
    (rest ∙ ap (λ (g : Ladders). lines_after g mid.journal (filter (λ (o : Owned). is_waiting o.booking.status) live)) grid_is)
