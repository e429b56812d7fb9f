-- Seats by pair of stations: where they count, and what is held.
use Rattle.std.proofs.Common.{◌≡◌, ◌==◌, ◌&&◌, ℕ, ◌+◌, ◌-◌, ◌*◌, ◌<◌, Bool, true, false, refl, List, ◌++◌, take, drop, get_or, Option, Some, None, sym, ap, subst, ◌∙◌, arith, if◌then◌else◌}
use Rattle.std.proofs.lemmas.List.{take-append-drop}
use Rattle.airline_base.specs.declared.place.Place.{Place}
use Rattle.seat_journal.specs.declared.entry.Entry.{Entry}
use Rattle.seat_nesting.specs.Nesting.{Ladders}
use Rattle.seat_rules.specs.Journal.{IsLegal, replay}
use Rattle.seat_rules.specs.Prefixes.{Begins}
use Rattle.seat_rules.proofs.History.Legal.{legal_prefix}
use Rattle.seat_rules.proofs.History.Prefixes.{begins_longer}
use Rattle.seat_pickup.specs.Counting.{Adds, AddsAt, AreCounts, count_at, spot}
use Rattle.seat_pickup.specs.Moves.{Counts, Where, cancelled_by, confirmed_by, held_in, is_at, sold_by, sum_of, those}
use Rattle.seat_pickup.specs.Pairs.{ArePairMoves, is_numbered, number_at, pairs_at, tally_at}
use Rattle.seat_pickup.specs.Pickups.{moved_behind}
use Rattle.seat_pickup.specs.declared.moved.MoveSums.{MoveSums}
use Rattle.seat_pickup.specs.declared.paired.PairMoves.{PairMoves}
use Rattle.seat_pickup.specs.declared.pairing.Pairing.{Pairing}
use Rattle.seat_pickup.specs.declared.split.Split.{Split}
use Rattle.seat_pickup.specs.declared.split.Tally.{Tally}
use Rattle.seat_pickup.specs.declared.split.Tally.TheVariants.{OnFlights, Between}
use Rattle.seat_pickup.proofs.Balancing.{IsBalanced, balanced, moves_balance}
use Rattle.seat_pickup.proofs.Counted.{nothing, same_spot}
use Rattle.seat_pickup.proofs.Picking.{same_sums}

-- ---- where seats count

none_if : (b : Bool) → ◌≡◌ {A = ℕ} (if b then 0 else 0) 0
none_if true = refl
none_if false = refl

pub no_seats : (tally : Tally) (place : Place) (class seats : ℕ) (row : List ℕ) → seats ≡ 0
    → Adds (those (tally_at tally) place class seats) row row
no_seats tally place class seats row none =
    nothing (those (tally_at tally) place class seats) row
    (λ f k. ap (λ (n : ℕ). if tally_at tally place class f k then n else 0) none ∙ none_if (tally_at tally place class f k))

module _ (tally : Tally) (place : Place) (class seats : ℕ) (old new : List ℕ) where
  pub on_flights : (split : Split) → tally ≡ OnFlights split → Adds (those (is_at split) place class seats) old new
      → Adds (those (tally_at tally) place class seats) old new
  on_flights split is adds = subst (λ (t : Tally). Adds (those (tally_at t) place class seats) old new) (sym is) adds

  pub between_pairs : (pairing : Pairing) → tally ≡ Between pairing → Adds (those (pairs_at pairing) place class seats) old new
      → Adds (those (tally_at tally) place class seats) old new
  between_pairs pairing is adds = subst (λ (t : Tally). Adds (those (tally_at t) place class seats) old new) (sym is) adds

abbrev pub number_by : Pairing → Place → Option ℕ
number_by pairing place = number_at pairing.asked pairing.flights.now pairing.pairs.now place

pub pair_away : (pairing : Pairing) (place : Place) (class seats : ℕ) (found : Option ℕ) (row : List ℕ) → found ≡ number_by pairing place
    → found ≡ None → Adds (those (pairs_at pairing) place class seats) row row
pair_away pairing place class seats found row is none =
    nothing (those (pairs_at pairing) place class seats) row
    (λ n k. ap (λ (o : Option ℕ). if is_numbered o n && (65 == k) then seats else 0) (sym is ∙ none))

pub pair_added : (pairing : Pairing) (place : Place) (class seats : ℕ) (found : Option ℕ) (number at : ℕ) (old new : List ℕ)
    → found ≡ number_by pairing place → found ≡ Some number → at ≡ number * 26 → AddsAt at seats old new
    → Adds (those (pairs_at pairing) place class seats) old new
pair_added pairing place class seats found number at old new is some there adds = record {
  counted = adds.counted;
  each = λ n k low_k high_k inside.
      let here : at ≡ spot number 65 = omega (arith, there) in
      adds.each (spot n k) inside
      ∙ ap (λ (m : ℕ). get_or old (spot n k) 0 + (if spot n k == m then seats else 0)) here
      ∙ ap (λ (b : Bool). get_or old (spot n k) 0 + (if b then seats else 0)) (same_spot number 65 n k (omega arith) (omega arith) low_k high_k)
      ∙ ap (λ (o : Option ℕ). get_or old (spot n k) 0 + (if is_numbered o n && (65 == k) then seats else 0)) (sym (sym is ∙ some));
}

-- ---- what is held

module _ (on : Where) (grid : Ladders) (journal : List Entry) (lines count n : ℕ) (legal : IsLegal grid journal) (inside : n < count) where
  each : (of : Counts) (row : List ℕ) (m : ℕ) → AreCounts count of row → m ≡ count_at row n 65 → m ≡ of n 65
  each of row m counts is = is ∙ counts.each n 65 inside (omega arith) (omega arith)

  whole : take lines journal ++ drop lines journal ≡ journal
  whole = take-append-drop lines journal

  front : IsLegal grid (take lines journal)
  front = legal_prefix grid (take lines journal) journal (subst (Begins (take lines journal)) whole (begins_longer (take lines journal) (drop lines journal))) legal

  was : (sold cancelled confirmed before : ℕ) → sold ≡ sum_of (sold_by on) (take lines journal) n 65
      → cancelled ≡ sum_of (cancelled_by on) (take lines journal) n 65 → confirmed ≡ sum_of (confirmed_by on) (take lines journal) n 65
      → before ≡ 0 + (sold + confirmed) - cancelled → before ≡ held_in on (replay grid (take lines journal)).bookings n 65
  was sold cancelled confirmed before sells cancels confirms is =
      let first : IsBalanced on n 65 grid (take lines journal) = balanced on n 65 grid (take lines journal) front in
      omega (arith, first, is, sells, cancels, confirms)

  holds : (before sold cancelled confirmed held : ℕ) → before ≡ held_in on (replay grid (take lines journal)).bookings n 65
      → sold ≡ sum_of (sold_by on) (drop lines journal) n 65 → cancelled ≡ sum_of (cancelled_by on) (drop lines journal) n 65
      → confirmed ≡ sum_of (confirmed_by on) (drop lines journal) n 65 → held ≡ before + (sold + confirmed) - cancelled
      → held ≡ held_in on (replay grid journal).bookings n 65
  holds before sold cancelled confirmed held ahead sells cancels confirms is =
      let law = moves_balance on grid (take lines journal) (drop lines journal) n 65 (subst (IsLegal grid) (sym whole) legal) in
      let now : held_in on (replay grid (take lines journal ++ drop lines journal)).bookings n 65 ≡ held_in on (replay grid journal).bookings n 65 =
      ap (λ (l : List Entry). held_in on (replay grid l).bookings n 65) whole in
      omega (arith, law, now, ahead, is, sells, cancels, confirms)

pub pair_sums_are : (grid : Ladders) (journal : List Entry) (lines : ℕ) (moves : PairMoves) (n sold_ahead cancelled_ahead confirmed_ahead : ℕ)
    (sums : MoveSums) → IsLegal grid journal → ArePairMoves journal lines moves → n < moves.count
    → sold_ahead ≡ count_at moves.sold_ahead.items n 65
    → cancelled_ahead ≡ count_at moves.cancelled_ahead.items n 65
    → confirmed_ahead ≡ count_at moves.confirmed_ahead.items n 65
    → sums.sold ≡ count_at moves.sold.items n 65
    → sums.cancelled ≡ count_at moves.cancelled.items n 65
    → sums.confirmed ≡ count_at moves.confirmed.items n 65
    → sums.before ≡ 0 + (sold_ahead + confirmed_ahead) - cancelled_ahead
    → sums.held ≡ sums.before + (sums.sold + sums.confirmed) - sums.cancelled
    → sums ≡ moved_behind grid journal lines (pairs_at moves.pairing) n 65
pair_sums_are grid journal lines moves n sold_ahead cancelled_ahead confirmed_ahead sums legal are inside sold_then cancelled_then confirmed_then sold cancelled confirmed before held =
    let on : Where = pairs_at moves.pairing in
    let count : ℕ = moves.count in
    let sells : sums.sold ≡ sum_of (sold_by on) (drop lines journal) n 65 =
    each on grid journal lines count n legal inside (sum_of (sold_by on) (drop lines journal)) moves.sold.items sums.sold are.sold sold in
    let cancels : sums.cancelled ≡ sum_of (cancelled_by on) (drop lines journal) n 65 =
    each on grid journal lines count n legal inside (sum_of (cancelled_by on) (drop lines journal)) moves.cancelled.items sums.cancelled are.cancelled cancelled in
    let confirms : sums.confirmed ≡ sum_of (confirmed_by on) (drop lines journal) n 65 =
    each on grid journal lines count n legal inside (sum_of (confirmed_by on) (drop lines journal)) moves.confirmed.items sums.confirmed are.confirmed confirmed in
    let ahead : sums.before ≡ held_in on (replay grid (take lines journal)).bookings n 65 =
    was on grid journal lines count n legal inside sold_ahead cancelled_ahead confirmed_ahead sums.before
    (each on grid journal lines count n legal inside (sum_of (sold_by on) (take lines journal)) moves.sold_ahead.items sold_ahead are.sold_ahead sold_then)
    (each on grid journal lines count n legal inside (sum_of (cancelled_by on) (take lines journal)) moves.cancelled_ahead.items cancelled_ahead are.cancelled_ahead cancelled_then)
    (each on grid journal lines count n legal inside (sum_of (confirmed_by on) (take lines journal)) moves.confirmed_ahead.items confirmed_ahead are.confirmed_ahead confirmed_then)
    before in
    same_sums sums (moved_behind grid journal lines on n 65) ahead sells cancels confirms
    (holds on grid journal lines count n legal inside sums.before sums.sold sums.cancelled sums.confirmed sums.held ahead sells cancels confirms held)

-- a row that has what lines moved has it of these lines and this pairing
pub counted_there : (moved : Where → Entry → Counts) (count : ℕ) (told pairing : Pairing) (some lines : List Entry) (row : List ℕ)
    → told ≡ pairing → some ≡ lines → AreCounts count (sum_of (moved (pairs_at told)) some) row
    → AreCounts count (sum_of (moved (pairs_at pairing)) lines) row
counted_there moved count told pairing some lines row same these are =
    subst (λ (p : Pairing). AreCounts count (sum_of (moved (pairs_at p)) lines) row) same
    (subst (λ (l : List Entry). AreCounts count (sum_of (moved (pairs_at told)) l) row) these are)
