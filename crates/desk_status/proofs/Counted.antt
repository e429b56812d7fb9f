-- What is counted goes on with what is counted of the lines behind it.
use Rattle.std.proofs.Common.{◌≡◌, ◌≤◌, ◌<◌, ◌+◌, ℕ, List, [], ◌∷◌, drop, length, length-append, ap, arith, sym, ◌∙◌}
use Rattle.std.specs.Prelude.{◌^◌}
use Rattle.std.specs.List.{sum_by}
use Rattle.std.proofs.Math.Seq.{drop-append_seam}
use Rattle.std.proofs.lemmas.List.{length-drop}
use Rattle.std.proofs.lemmas.List.Sums.{sum_by-append}
use Rattle.seat_journal.specs.declared.entry.Entry.{Entry}
use Rattle.seat_nesting.specs.Nesting.{Ladders}
use Rattle.seat_rules.specs.Journal.{replay, IsLegal}
use Rattle.seat_rules.specs.Totals.{confirmed_by, released_by, seats_held}
use Rattle.seat_rules.proofs.History.Bounds.{confirmed_small}
use Rattle.seat_rules.proofs.History.Totals.{held_seats_are_the_totals}
use Rattle.desk_status.specs.Tallies.{groups_behind, Counts, CountsFront, IsCountable}
use Rattle.desk_status.specs.declared.tally.Tally.{Tally}

-- a legal history within its limits
pub legal_countable : (grid : Ladders) (journal : List Entry) → IsLegal grid journal → length journal ≤ 999999 → IsCountable journal
legal_countable grid journal legal few =
    let small = confirmed_small grid journal legal few in
    let balance : seats_held (replay grid journal).bookings + sum_by released_by journal ≡ sum_by confirmed_by journal =
    held_seats_are_the_totals grid journal legal in
    record { few = few; confirmed = small; released = omega (arith, small, balance) }

pub none_yet : (tally : Tally) (journal : List Entry) → tally.lines ≡ length journal → tally.confirmed ≡ sum_by confirmed_by journal
    → tally.released ≡ sum_by released_by journal → tally.groups ≡ 0 → Counts tally journal
none_yet tally journal lines confirmed released none = record {
  lines_are = lines;
  confirmed_are = confirmed;
  released_are = released;
  few = omega (arith, none);
}

-- what a measure comes to in front and behind
parted : (f : Entry → ℕ) (tally : Tally) (journal : List Entry) → (front : CountsFront tally journal)
    → sum_by f front.past + sum_by f (drop tally.lines journal) ≡ sum_by f journal
parted f tally journal front =
    let behind : drop tally.lines journal ≡ front.begins.rest =
    ap (λ (n : ℕ). drop n journal) front.counts.lines_are ∙ ap (drop (length front.past)) front.begins.is
    ∙ drop-append_seam front.past front.begins.rest in
    ap (λ (xs : List Entry). sum_by f front.past + sum_by f xs) behind
    ∙ sym (sum_by-append f front.past front.begins.rest) ∙ ap (sum_by f) (sym front.begins.is)

pub front_within : (tally : Tally) (journal : List Entry) → CountsFront tally journal → tally.lines ≤ length journal
front_within tally journal front =
    omega (arith, front.counts.lines_are, ap length front.begins.is, length-append front.past front.begins.rest)

pub behind_small : (tally : Tally) (journal more : List Entry) → CountsFront tally journal → IsCountable journal
    → more ≡ drop tally.lines journal → sum_by confirmed_by more < 2 ^ 63
behind_small tally journal more front countable is =
    omega (arith, countable.confirmed, parted confirmed_by tally journal front, ap (sum_by confirmed_by) is)

pub confirmed_fits : (tally : Tally) (journal more : List Entry) (seats : ℕ) → CountsFront tally journal → IsCountable journal
    → more ≡ drop tally.lines journal → seats ≡ sum_by confirmed_by more → tally.confirmed + seats < 2 ^ 64
confirmed_fits tally journal more seats front countable is sum =
    omega (
      arith,
      countable.confirmed,
      parted confirmed_by tally journal front,
      front.counts.confirmed_are,
      sum,
      ap (sum_by confirmed_by) is,
    )

pub released_fits : (tally : Tally) (journal more : List Entry) (seats : ℕ) → CountsFront tally journal → IsCountable journal
    → more ≡ drop tally.lines journal → seats ≡ sum_by released_by more → tally.released + seats < 2 ^ 64
released_fits tally journal more seats front countable is sum =
    omega (
      arith,
      countable.released,
      parted released_by tally journal front,
      front.counts.released_are,
      sum,
      ap (sum_by released_by) is,
    )

pub groups_few : (tally : Tally) (journal : List Entry) → CountsFront tally journal → IsCountable journal → tally.groups ≤ 999999
groups_few tally journal front countable =
    omega (arith, countable.few, front.counts.few, front_within tally journal front)

-- each group has a line at least
groups_within : (groups : ℕ) (more : List Entry) → groups_behind groups more ≤ groups + length more
groups_within groups [] = omega arith
groups_within groups (line ∷ more) = omega arith

behind_few : (old : Tally) (journal more : List Entry) → CountsFront old journal → more ≡ drop old.lines journal
    → groups_behind old.groups more ≤ length journal
behind_few old journal more front is =
    let whole : length journal ≡ old.lines + length (drop old.lines journal) =
    omega (arith, length-drop old.lines journal, front_within old journal front) in
    omega (arith, groups_within old.groups more, front.counts.few, whole, ap length is)

pub counted_on : (old new : Tally) (journal more : List Entry) (confirmed released : ℕ) → CountsFront old journal
    → more ≡ drop old.lines journal → new.lines ≡ length journal → new.groups ≡ groups_behind old.groups more
    → new.confirmed ≡ old.confirmed + confirmed → confirmed ≡ sum_by confirmed_by more
    → new.released ≡ old.released + released → released ≡ sum_by released_by more → Counts new journal
counted_on old new journal more confirmed released front is lines groups more_confirmed sum more_released sum_released = record {
  lines_are = lines;
  confirmed_are = omega (arith, more_confirmed, sum, ap (sum_by confirmed_by) is, front.counts.confirmed_are, parted confirmed_by old journal front);
  released_are = omega (arith, more_released, sum_released, ap (sum_by released_by) is, front.counts.released_are, parted released_by old journal front);
  few = omega (arith, groups, lines, behind_few old journal more front is);
}
