-- Feeds of very requests that are sent again.
use Rattle.std.proofs.Common.{◌≡◌, ℕ, ◌+◌, Bool, true, false, ◌==◌, ◌&&◌, nat_lt, if◌then◌else◌, List, [], ◌∷◌, ◌++◌, length, map, refl, ap, sym, ◌∙◌, arith, append-nil}
use Rattle.std.proofs.lemmas.Bool.Decides.{nat_tests}
use Rattle.desk_calls.specs.Sending.{is_next}
use Rattle.desk_feed.specs.Feeding.{Asking, behind_asking, behind_feed, right_if, right_lines, AreSent, Cut}
use Rattle.desk_feed.proofs.Living.{all_sent, behind_begins, books_nothing, own_is_no_stranger, to_its_end}
use Rattle.desk_hall.proofs.Groups.{behind_append}
use Rattle.desk_stream.specs.Laws.{asked_of, AFeedIsItsJournal, IsVeryCall, LivedAgainBooksNothing, OwnFeedIsNoStranger, RightLinesAreBooked}
use Rattle.desk_stream.specs.Wanting.{asking_of, work_of, IsVery}
use Rattle.desk_stream.specs.declared.planning.Called.{Called}
use Rattle.desk_stream.specs.declared.wanted.Wanted.{Wanted}
use Rattle.desk_stream.specs.declared.wanted.Wanted.TheVariants.{Seats, Row}
use Rattle.seat_journal.specs.declared.entry.Entry.{Entry}
use Rattle.seat_nesting.specs.Nesting.{Ladders}
use Rattle.seat_rules.specs.Journal.{calls_of, next_line}
use Rattle.seat_rules.specs.Prefixes.{Begins}
use Rattle.seat_replies.specs.VeryRequest.{CommandsAreVeryRequests}
use Rattle.seat_serving.specs.Answering.{behind}
use Rattle.seat_serving.specs.declared.asked.Asked.{Asked}
use Rattle.ssim_flights.specs.declared.flight.Flight.{Flight as Flown}

begun : (flights : List Flown) (grid : Ladders) (cap : ℕ) (past : List Entry) (feed : List Called) (cuts : List Cut) (journal : List Entry)
    → AreSent grid cap (asking_of flights) (IsVeryCall flights) past feed cuts past journal
    → Begins journal (behind_feed grid cap (asking_of flights) past feed)
begun flights grid cap past feed cuts journal sent =
    all_sent grid cap (asking_of flights) (IsVeryCall flights) past feed cuts past journal sent
    (behind_begins grid cap (asking_of flights) (IsVeryCall flights) past feed)

pub a_feed_is_its_journal : AFeedIsItsJournal
a_feed_is_its_journal flights grid cap past feed cuts journal from now rest sent is =
    to_its_end grid cap (asking_of flights) (IsVeryCall flights) past feed from journal now rest is
    (begun flights grid cap past feed cuts journal sent)

pub lived_again_books_nothing : LivedAgainBooksNothing
lived_again_books_nothing flights grid cap past feed cuts journal from count now rest sent is short =
    books_nothing grid cap (asking_of flights) (IsVeryCall flights) past feed from count journal now rest is
    (begun flights grid cap past feed cuts journal sent) short

-- what a line asks for is its own very request
very_own : CommandsAreVeryRequests → (flights : List Flown) (wanted : Wanted) → IsVery flights wanted (work_of flights wanted)
very_own very flights (Seats wish) = very flights wish
very_own very flights (Row control) = refl

pub own_feed_is_no_stranger : CommandsAreVeryRequests → OwnFeedIsNoStranger
own_feed_is_no_stranger very flights grid cap past feed cuts journal from count now rest c more sent is next strange =
    own_is_no_stranger grid cap (asking_of flights) (IsVeryCall flights) past feed from count journal now rest c more is
    (begun flights grid cap past feed cuts journal sent) next (very_own very flights c.wanted) strange

right_one : (grid : Ladders) (past : List Entry) (b c : Bool) (a : Asking) → (a.asked.call == calls_of past a.session + 1) ≡ b
    → behind grid past (map asked_of (right_if (b && c) a))
    ≡ (if b && c then past ++ next_line grid past a.session a.asked.call a.asked.work ∷ [] else past)
right_one grid past true true a e =
    let here : calls_of past a.session + 1 ≡ a.asked.call = grind (arith, nat_tests) in
    ap (λ (n : ℕ). past ++ next_line grid past a.session n a.asked.work ∷ []) here
right_one grid past true false a e = append-nil past
right_one grid past false c a e = append-nil past

map_more : (xs ys : List Asking) → map asked_of (xs ++ ys) ≡ map asked_of xs ++ map asked_of ys
map_more [] ys = refl
map_more (x ∷ xs) ys = ap (λ (l : List Asked). asked_of x ∷ l) (map_more xs ys)

pub right_lines_are_booked : RightLinesAreBooked
right_lines_are_booked flights grid cap past [] = sym (append-nil past)
right_lines_are_booked flights grid cap past (c ∷ feed) =
    let a : Asking = asking_of flights c in
    let mid : List Entry = behind_asking grid cap past a in
    let rest : List Asking = right_lines grid cap (asking_of flights) mid feed in
    let own : List Asking = right_if (is_next cap a.session past a.asked.call) a in
    let first : behind grid past (map asked_of own) ≡ mid =
    right_one grid past (a.asked.call == calls_of past a.session + 1) (nat_lt (length past) cap) a refl in
    right_lines_are_booked flights grid cap mid feed
    ∙ ap (λ (l : List Entry). behind grid l (map asked_of rest)) (sym first)
    ∙ sym (behind_append grid past (map asked_of own) (map asked_of rest))
    ∙ ap (behind grid past) (sym (map_more own rest))
