-- The journals of hosts that each have the feed of one shard.
use Rattle.std.proofs.Common.{◌≡◌, ◌≢◌, ℕ, zero, suc, ◌+◌, ◌<◌, ◌≤◌, ◌==◌, Bool, true, false, cond, nat_lt, List, [], ◌∷◌, ◌++◌, length, Option, Some, None, IfSome, refl, sym, ap, subst, arith, length-append}
use Rattle.std.specs.List.{AllByRecursion}
use Rattle.std.proofs.lemmas.Bool.Decides.{nat_tests}
use Rattle.airline_base.proofs.Tests.{both_true}
use Rattle.ssim_flights.specs.declared.flight.Flight.{Flight as Flown}
use Rattle.seat_journal.specs.declared.entry.Entry.{Entry}
use Rattle.seat_journal.specs.declared.entry.Work.{Work}
use Rattle.seat_nesting.specs.Nesting.{Ladders}
use Rattle.seat_parts.specs.OwnLines.{of_flight}
use Rattle.seat_rules.proofs.History.Faults.{nat_same}
use Rattle.seat_rules.proofs.History.Legal.{legal_nil, legal_push}
use Rattle.seat_rules.specs.Flights.{flight_of, is_flight, is_on}
use Rattle.seat_rules.specs.Journal.{IsLegal, calls_of, next_line}
use Rattle.seat_shards.proofs.Merged.{merged_is_legal}
use Rattle.seat_shards.proofs.Sums.{merged_totals}
use Rattle.seat_shards.specs.Shards.{AreShards, journal_at}
use Rattle.desk_calls.specs.Sending.{is_next}
use Rattle.desk_feed.proofs.Living.{a_feed_is_its_journal}
use Rattle.desk_feed.specs.Feeding.{behind_asking, behind_feed}
use Rattle.desk_feed.specs.Laws.{Tested, asking_of}
use Rattle.shard_feeds.specs.Laws.{AreHosts, AreTogether, HostsAreLegalTogether, IsHost}
use Rattle.shard_feeds.specs.Owning.{AreFeeds, GoesTo, IsAskedOf, shard_of_flight}

module _ (shards : ℕ) (flights : List Flown) (grid : Ladders) (cap : ℕ) where
  -- a legal history, short enough, whose lines all go to the shard
  pub record IsOwn (shard : ℕ) (journal : List Entry) : Type 0 where
    pub legal : IsLegal grid journal
    pub few : length journal ≤ cap
    pub goes : AllByRecursion (λ (e : Entry). GoesTo shards flights shard e.work) journal

  none_own : (shard : ℕ) → IsOwn shard []
  none_own shard = record { legal = legal_nil grid; few = omega arith; goes = tt }

  -- ---- a line more

  go_pushed : (shard : ℕ) (past : List Entry) (e : Entry) → AllByRecursion (λ (x : Entry). GoesTo shards flights shard x.work) past
      → GoesTo shards flights shard e.work → AllByRecursion (λ (x : Entry). GoesTo shards flights shard x.work) (past ++ e ∷ [])
  go_pushed shard [] e h k = (k, tt)
  go_pushed shard (x ∷ past) e h k = (h.0, go_pushed shard past e h.1 k)

  pushed_own : (shard : ℕ) (past : List Entry) (line : Tested) → IsAskedOf shards flights grid shard line
      → is_next cap (asking_of line).session past (asking_of line).asked.call ≡ true → IsOwn shard past
      → IsOwn shard (past ++ next_line grid past (asking_of line).session (asking_of line).asked.call (asking_of line).asked.work ∷ [])
  pushed_own shard past line asked next own =
      let a = asking_of line in
      let e = next_line grid past a.session a.asked.call a.asked.work in
      let both = both_true (a.asked.call == calls_of past a.session + 1) (nat_lt (length past) cap) next in
      let call : a.asked.call ≡ calls_of past a.session + 1 = nat_same a.asked.call (calls_of past a.session + 1) both.0 in
      let room : length past < cap = below (length past) cap both.1 in
      record {
        legal = legal_push grid past e own.legal (record { session = asked.may; call = call; fits = asked.fits; line = refl });
        few = omega (arith, room, length-append past (e ∷ []));
        goes = go_pushed shard past e own.goes asked.goes;
      }
    where
      below : (n m : ℕ) → nat_lt n m ≡ true → n < m
      below n m h = grind (arith, nat_tests, h)

  one_own : (shard : ℕ) (past : List Entry) (line : Tested) → IsAskedOf shards flights grid shard line → IsOwn shard past
      → IsOwn shard (behind_asking grid cap past (asking_of line))
  one_own shard past line asked own = by (is_next cap (asking_of line).session past (asking_of line).asked.call) refl
    where
      by : (b : Bool) → is_next cap (asking_of line).session past (asking_of line).asked.call ≡ b
          → IsOwn shard (cond b (past ++ next_line grid past (asking_of line).session (asking_of line).asked.call (asking_of line).asked.work ∷ []) past)
      by true e = pushed_own shard past line asked e own
      by false e = own

  feed_own : (shard : ℕ) (past : List Entry) (feed : List Tested) → AllByRecursion (IsAskedOf shards flights grid shard) feed
      → IsOwn shard past → IsOwn shard (behind_feed grid cap asking_of past feed)
  feed_own shard past [] asked own = own
  feed_own shard past (line ∷ feed) asked own =
      feed_own shard (behind_asking grid cap past (asking_of line)) feed asked.1 (one_own shard past line asked.0 own)

  -- ---- the hosts

  host_own : (shard : ℕ) (feed : List Tested) (journal : List Entry) → AllByRecursion (IsAskedOf shards flights grid shard) feed
      → IsHost grid cap feed journal → IsOwn shard journal
  host_own shard feed journal asked host =
      let is = a_feed_is_its_journal grid cap [] feed host.cuts host.before host.from journal host.rest host.sent host.lived in
      subst (IsOwn shard) (sym is.0) (feed_own shard [] feed asked (none_own shard))

  -- those of the shards from this one on
  abbrev pub AllOwn : ℕ → List (List Entry) → Type 0
  AllOwn shard [] = Unit {0}
  AllOwn shard (journal ∷ journals) = IsOwn shard journal × AllOwn (shard + 1) journals

  hosts_own : (shard : ℕ) (feeds : List (List Tested)) (journals : List (List Entry)) → AreFeeds shards flights grid shard feeds
      → AreHosts grid cap feeds journals → AllOwn shard journals
  hosts_own shard [] [] asked hosts = tt
  hosts_own shard [] (journal ∷ journals) asked hosts = absurd hosts
  hosts_own shard (feed ∷ feeds) [] asked hosts = absurd hosts
  hosts_own shard (feed ∷ feeds) (journal ∷ journals) asked hosts =
      (host_own shard feed journal asked.0 hosts.0, hosts_own (shard + 1) feeds journals asked.1 hosts.1)

  own_at : (shard : ℕ) (journals : List (List Entry)) (i : ℕ) → AllOwn shard journals → IsOwn (shard + i) (journal_at journals i)
  own_at shard [] i all = none_own (shard + i)
  own_at shard (journal ∷ journals) zero all =
      let e : shard ≡ shard + 0 = omega arith in subst (λ (s : ℕ). IsOwn s journal) e all.0
  own_at shard (journal ∷ journals) (suc i) all =
      let e : shard + 1 + i ≡ shard + suc i = omega arith in subst (λ (s : ℕ). IsOwn s (journal_at journals i)) e (own_at (shard + 1) journals i all.1)

  -- ---- no two have a line of one flight

  on_is : (flight : ℕ) (o : Option ℕ) → is_flight flight o ≡ true → o ≡ Some flight
  on_is flight None e = absurd cc
  on_is flight (Some f) e = ap Some (nat_same f flight e)

  goes_there : (shard flight : ℕ) (w : Work) → GoesTo shards flights shard w → is_on flight w ≡ true
      → shard_of_flight shards flights flight ≡ shard
  goes_there shard flight w h e =
      subst (λ (o : Option ℕ). IfSome o (λ (f : ℕ). shard_of_flight shards flights f ≡ shard)) (on_is flight (flight_of w) e) h.own

  none_of : (shard flight : ℕ) (journal : List Entry) → AllByRecursion (λ (e : Entry). GoesTo shards flights shard e.work) journal
      → (shard_of_flight shards flights flight == shard) ≡ false → of_flight flight journal ≡ []
  none_of shard flight [] goes other = refl
  none_of shard flight (e ∷ journal) goes other = by (is_on flight e.work) refl (none_of shard flight journal goes.1 other)
    where
      apart : (n m : ℕ) → n ≡ m → (n == m) ≡ false → ⊥
      apart n m same h = grind (arith, nat_tests, same, h)

      by : (b : Bool) → is_on flight e.work ≡ b → of_flight flight journal ≡ []
          → cond b (e ∷ of_flight flight journal) (of_flight flight journal) ≡ []
      by true is none = absurd (apart (shard_of_flight shards flights flight) shard (goes_there shard flight e.work goes.0 is) other)
      by false is none = none

  are_apart : (a b flight : ℕ) (own other : List Entry) → (a == b) ≡ false → IsOwn (1 + a) own → IsOwn (1 + b) other
      → of_flight flight own ≢ [] → of_flight flight other ≡ []
  are_apart a b flight own other differ h k some = by (shard_of_flight shards flights flight == 1 + b) refl
    where
      away : (n : ℕ) → (n == 1 + b) ≡ true → (n == 1 + a) ≡ false
      away n e = grind (arith, nat_tests, e, differ)

      by : (t : Bool) → (shard_of_flight shards flights flight == 1 + b) ≡ t → of_flight flight other ≡ []
      by true e = absurd (some (none_of (1 + a) flight own h.goes (away (shard_of_flight shards flights flight) e)))
      by false e = none_of (1 + b) flight other k.goes e

  are_shards : (journals : List (List Entry)) → AllOwn 1 journals → AreShards grid cap journals
  are_shards journals all = record {
    legal = λ i. (own_at 1 journals i all).legal;
    few = λ i. (own_at 1 journals i all).few;
    apart = record { each = λ a b flight differ some. are_apart a b flight (journal_at journals a) (journal_at journals b) differ (own_at 1 journals a all) (own_at 1 journals b all) some };
  }

  pub together : (journals : List (List Entry)) → AllOwn 1 journals → AreTogether grid cap journals
  together journals all = record {
    shards = are_shards journals all;
    merge = record {
      legal = λ mix is. (merged_is_legal grid cap journals mix (are_shards journals all) is).0;
      sums = λ mix is. merged_totals journals mix is;
    };
  }

pub hosts_are_together : HostsAreLegalTogether
hosts_are_together shards flights grid cap feeds journals asked hosts =
    together shards flights grid cap journals (hosts_own shards flights grid cap 1 feeds journals asked hosts)
