-- A part is its shard's.
use Rattle.std.proofs.Common.{◌≡◌, ◌≤◌, ◌<◌, ◌+◌, ◌==◌, ◌&&◌, ℕ, zero, suc, nat_le, true, List, [], ◌∷◌, length, Option, Some, None, IfSome, arith}
use Rattle.std.specs.Prelude.{slice_get}
use Rattle.std.specs.List.{AllByRecursion}
use Rattle.std.proofs.lemmas.Bool.Decides.{nat_tests}
use Rattle.airline_base.proofs.Tests.{both_true}
use Rattle.ssim_flights.specs.declared.flight.Flight.{Flight as Flown}
use Rattle.seat_journal.specs.declared.entry.Entry.{Entry}
use Rattle.seat_nesting.specs.Nesting.{Ladders}
use Rattle.seat_rules.proofs.History.Faults.{nat_same}
use Rattle.seat_rules.specs.Flights.{flight_of}
use Rattle.carry_parts.proofs.OwnLines.{lines_are_own}
use Rattle.carry_parts.specs.Parts.{has_flight, has_some}
use Rattle.carry_parts.specs.declared.part.Part.{Part}
use Rattle.shard_feeds.proofs.Hosts.{AllOwn, together}
use Rattle.shard_feeds.specs.Owning.{GoesTo, shard_flown, shard_of_flight}
use Rattle.shard_feeds.specs.Parts.{AreParts, HasOwnLines, PartsAreLegalTogether, PartsAreShards, PartsHaveOwnLines, part_at}

-- ---- flights

to_shard : (part : Part) (o : Option Flown) → has_some part o ≡ true → shard_flown part.shards o ≡ part.shard
to_shard part None e = absurd cc
to_shard part (Some flight) e =
    let shard : ℕ = shard_flown part.shards (Some flight) in
    nat_same shard part.shard (both_true (nat_le 1 part.shards) (shard == part.shard) e).1

both_tests : (shards shard own : ℕ) → 1 ≤ shards → shard ≡ own → (nat_le 1 shards && (shard == own)) ≡ true
both_tests shards shard own some same = grind (arith, nat_tests, some, same)

-- a flight that is there
to_part : (part : Part) (flights : List Flown) (flight : ℕ) → 1 ≤ part.shards → flight < length flights
    → shard_of_flight part.shards flights flight ≡ part.shard → has_flight part flights flight ≡ true
to_part part [] flight some inside e = absurd (omega (arith, inside))
to_part part (f ∷ flights) zero some inside e = both_tests part.shards (shard_flown part.shards (Some f)) part.shard some e
to_part part (f ∷ flights) (suc flight) some inside e = to_part part flights flight some (omega (arith, inside)) e

pub parts_are_shards : PartsAreShards
parts_are_shards part flights flight some inside = (to_shard part (slice_get flights flight), to_part part flights flight some inside)

-- ---- lines

pub parts_have_own : PartsHaveOwnLines
parts_have_own part flights grid rows kept marks = lines_are_own part flights grid rows kept marks

module _ (shards : ℕ) (flights : List Flown) (grid : Ladders) (cap : ℕ) where
  if_goes : (shard : ℕ) (o : Option ℕ) → IfSome o (λ (flight : ℕ). has_flight (part_at shards shard) flights flight ≡ true)
      → IfSome o (λ (flight : ℕ). shard_of_flight shards flights flight ≡ shard)
  if_goes shard None h = tt
  if_goes shard (Some flight) h = to_shard (part_at shards shard) (slice_get flights flight) h

  lines_go : (shard : ℕ) (journal : List Entry) → HasOwnLines (part_at shards shard) flights journal
      → AllByRecursion (λ (e : Entry). GoesTo shards flights shard e.work) journal
  lines_go shard [] own = tt
  lines_go shard (e ∷ journal) own = (record { own = if_goes shard (flight_of e.work) own.0.own }, lines_go shard journal own.1)

  all_own : (shard : ℕ) (journals : List (List Entry)) → AreParts shards flights grid cap shard journals
      → AllOwn shards flights grid cap shard journals
  all_own shard [] parts = tt
  all_own shard (journal ∷ journals) parts =
      (record { legal = parts.0.legal; few = parts.0.few; goes = lines_go shard journal parts.0.own }, all_own (shard + 1) journals parts.1)

pub parts_are_together : PartsAreLegalTogether
parts_are_together flights grid cap journals parts =
    together (length journals) flights grid cap journals (all_own (length journals) flights grid cap 1 journals parts)
