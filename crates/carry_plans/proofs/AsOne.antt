-- The journals that were read as one inventory, and what carries its bookings.
use Rattle.std.proofs.Common.{◌≡◌, ◌≤◌, ◌<◌, ℕ, ◌+◌, List, [], ◌∷◌, ◌++◌, length, map, take, get_or, Option, Some, IfSome, option_map, refl, ap, sym, subst, ◌∙◌}
use Rattle.std.proofs.lemmas.List.{map_push, take_all, take_more}
use Rattle.ssim_flights.specs.declared.flight.Flight.{Flight as Flown}
use Rattle.seat_nesting.specs.Nesting.{Ladders}
use Rattle.seat_journal.specs.declared.entry.Entry.{Entry}
use Rattle.seat_rules.specs.Inventory.{Inventory}
use Rattle.seat_desk.specs.AuditDesk.{most_lines}
use Rattle.seat_desk.specs.Loading.{IsGridOf}
use Rattle.seat_seal.specs.declared.beside.Basis.{Basis}
use Rattle.seat_seal.specs.declared.seal.Sealed.{Sealed as Belonging}
use Rattle.seat_shards.specs.Faults.{IsOfJournal}
use Rattle.seat_shards.specs.Taking.{known}
use Rattle.seat_shards.specs.declared.fault.ShardFault.{ShardFault}
use Rattle.seat_shards.specs.declared.fault.ShardFault.TheVariants as shards
use Rattle.seat_shards.proofs.Grounds.{as_many}
use Rattle.shard_questions.specs.Counting.{AreCounts}
use Rattle.shard_questions.specs.Joined.{AreJoined}
use Rattle.shard_questions.specs.Together.{IsFirstStopped}
use Rattle.carry_plans.specs.Carries.{IsMadeFrom}
use Rattle.carry_plans.specs.Plans.{IsUnplanned}
use Rattle.carry_plans.specs.declared.asked.CarryAsked.{CarryAsked}
use Rattle.carry_plans.specs.declared.carriage.Carriage.{Carriage}
use Rattle.carry_plans.specs.declared.fault.CarryFault.{CarryFault}
use Rattle.carry_plans.specs.declared.fault.CarryFault.TheVariants as carry
use Rattle.carry_plans.specs.Joining.{HasNoPlan, IsAskedOf, IsMadeOfRead, IsMadeTogether, IsStoppedRead, IsUncarriedRead, IsUnmadeOfRead, IsUnplannedTogether, of_journals}
use Rattle.carry_plans.specs.Knowing.{latest}
use Rattle.carry_plans.specs.declared.joined_carriage.JoinedCarriage.{JoinedCarriage}
use Rattle.carry_plans.specs.declared.join_fault.JoinFault.{JoinFault}
use Rattle.carry_plans.specs.declared.join_fault.JoinFault.TheVariants as joins

-- ---- readers

pub read_none : {R : Type 0} (text_of : R → List ℕ) (texts : List (List ℕ)) → map text_of [] ≡ take 0 texts
read_none text_of texts = refl

pub read_more : {R : Type 0} (text_of : R → List ℕ) (old new : List R) (r : R) (texts : List (List ℕ)) (i : ℕ) (text : List ℕ)
    → map text_of old ≡ take i texts → i < length texts → text ≡ get_or texts i text → new ≡ old ++ r ∷ [] → text_of r ≡ text
    → map text_of new ≡ take (i + 1) texts
read_more text_of old new r texts i text so_far inside here pushed of =
    ap (map text_of) pushed
    ∙ (map_push text_of old r
    ∙ (ap (λ (l : List (List ℕ)). l ++ text_of r ∷ []) so_far
    ∙ (ap (λ (t : List ℕ). take i texts ++ t ∷ []) (of ∙ here) ∙ sym (take_more texts i text inside))))

pub read_whole : {R : Type 0} (text_of : R → List ℕ) (readers : List R) (texts : List (List ℕ)) (i : ℕ) → map text_of readers ≡ take i texts
    → length texts ≤ i → map text_of readers ≡ texts
read_whole text_of readers texts i so_far le = so_far ∙ take_all i texts le

-- the bytes of all are known
pub all_known : {R : Type 0} (text_of : R → List ℕ) (readers : List R) → known (map (λ r. Some (text_of r)) readers) ≡ Some (map text_of readers)
all_known text_of [] = refl
all_known text_of (r ∷ readers) = ap (option_map (λ (known : List (List ℕ)). text_of r ∷ known)) (all_known text_of readers)

module _ {R : Type 0} (text_of : R → List ℕ) (slice readers : List R) (texts : List (List ℕ)) (same : slice ≡ readers)
    (are : map text_of readers ≡ texts) where
  these : known (map (λ r. Some (text_of r)) slice) ≡ Some texts
  these = all_known text_of slice ∙ ap (λ (l : List (List ℕ)). Some l) (ap (map text_of) same ∙ are)

  pub joined_texts : (grid : Ladders) (lines : List Entry) → IfSome (known (map (λ r. Some (text_of r)) slice)) (λ texts. AreJoined grid texts lines)
      → AreJoined grid texts lines
  joined_texts grid lines is = subst (λ (o : Option (List (List ℕ))). IfSome o (λ texts. AreJoined grid texts lines)) these is

  pub counted_texts : (counts : List ℕ) → IfSome (known (map (λ r. Some (text_of r)) slice)) (λ texts. AreCounts texts counts)
      → AreCounts texts counts
  counted_texts counts is = subst (λ (o : Option (List (List ℕ))). IfSome o (λ texts. AreCounts texts counts)) these is

  pub stopped_texts : (grid : Ladders) (fault : ShardFault)
      → (IsOfJournal fault → IfSome (known (map (λ r. Some (text_of r)) slice)) (λ texts. IsFirstStopped grid texts fault))
      → IsOfJournal fault → IsFirstStopped grid texts fault
  stopped_texts grid fault is of = subst (λ (o : Option (List (List ℕ))). IfSome o (λ texts. IsFirstStopped grid texts fault)) these (is of)

-- ---- as one

pub room_of : (flights : List Flown) (grid : Ladders) → IsGridOf flights grid → length grid ≤ length flights
room_of flights grid is = as_many flights is.rows grid is.is

stopped_by : (grid : Ladders) (texts : List (List ℕ)) (fault : ShardFault) → (IsOfJournal fault → IsFirstStopped grid texts fault)
    → IsStoppedRead grid texts (of_journals fault)
stopped_by grid texts (shards.Desk fault) is = refl
stopped_by grid texts (shards.Journal place fault) is = is tt
stopped_by grid texts (shards.Shared place number other) is = is tt

pub stopped_read : (grid : Ladders) (texts : List (List ℕ)) (fault : ShardFault) (f : JoinFault) → f ≡ of_journals fault
    → (IsOfJournal fault → IsFirstStopped grid texts fault) → IsStoppedRead grid texts f
stopped_read grid texts fault f same is = subst (IsStoppedRead grid texts) (sym same) (stopped_by grid texts fault is)

-- ---- what carries its bookings

pub grid_of_joined : (olds : List Flown) (grid : Ladders) (before : Inventory) → IsGridOf olds grid → before.grid ≡ grid → IsGridOf olds before.grid
grid_of_joined olds grid before of is = subst (IsGridOf olds) (sym is) of

pub made_together : (asked of : CarryAsked) (news : List Flown) (file : Ladders) (basis : Basis) (olds : List Flown) (before : Inventory)
    (counts : List ℕ) (epoch : ℕ) (slice knowns others : List Belonging) (known : Belonging) (carriage : Carriage) (c : JoinedCarriage)
    → IsAskedOf counts asked of → IsMadeFrom of news file basis olds before epoch known carriage → epoch ≡ latest slice → slice ≡ knowns
    → knowns ≡ others ++ known ∷ [] → c.carriage ≡ carriage → c.others ≡ others
    → IsMadeTogether asked news file basis olds before counts knowns c
made_together asked of news file basis olds before counts epoch slice knowns others known carriage c is made epoch_is slice_is parts same same_others = record {
  of = of;
  asked_is = is;
  made = whole;
  knowns_are =
      parts
      ∙ (ap (λ (l : List Belonging). l ++ known ∷ []) (sym same_others) ∙ ap (λ (k : Belonging). c.others ++ k ∷ []) (sym known_is));
}
  where
    known_is : c.carriage.known ≡ known
    known_is = ap (λ (x : Carriage). x.known) same ∙ made.put.known_is

    whole : IsMadeFrom of news file basis olds before (latest knowns) c.carriage.known c.carriage
    whole =
        subst (λ (k : Belonging). IsMadeFrom of news file basis olds before (latest knowns) k c.carriage) (sym known_is)
        (subst (λ (x : Carriage). IsMadeFrom of news file basis olds before (latest knowns) known x) (sym same)
        (subst (λ (n : ℕ). IsMadeFrom of news file basis olds before n known carriage) (epoch_is ∙ ap latest slice_is) made))

pub unplanned_together : (asked of : CarryAsked) (olds : List Flown) (before : Inventory) (news : List Flown) (file : Ladders) (counts : List ℕ)
    (fault : CarryFault) → IsAskedOf counts asked of → IsUnplanned of olds before news file fault
    → IsUnplannedTogether asked olds before news file counts fault
unplanned_together asked of olds before news file counts fault is wrong = record { of = of; asked_is = is; unplanned = wrong }

-- ---- of what was read

module _ (asked : CarryAsked) (news : List Flown) (file : Ladders) (olds : List Flown) (grid : Ladders) (texts slice : List (List ℕ))
    (same : slice ≡ texts) where
  pub stopped_unmade : (f : JoinFault) → IsStoppedRead grid slice f → IsUnmadeOfRead asked news file olds grid texts f
  stopped_unmade (joins.Carry fault) is = subst (IsUncarriedRead asked news file olds grid texts) (sym is) tt
  stopped_unmade (joins.Journals fault) is = subst (λ (l : List (List ℕ)). IsFirstStopped grid l fault) same is
  stopped_unmade joins.Device is = absurd is
  stopped_unmade (joins.Unsealed at) is = absurd is
  stopped_unmade (joins.Beside at fault) is = absurd is

  module _ (before : Inventory) (counts : List ℕ) (are : AreJoined grid slice before.journal) (grid_is : before.grid ≡ grid)
      (counted : AreCounts slice counts) where
    joined : AreJoined grid texts before.journal
    joined = subst (λ (l : List (List ℕ)). AreJoined grid l before.journal) same are

    long : AreCounts texts counts
    long = subst (λ (l : List (List ℕ)). AreCounts l counts) same counted

    pub made_of_read : (basis : Basis) (knowns : List Belonging) (c : JoinedCarriage) → length before.journal ≤ most_lines
        → IsMadeTogether asked news file basis olds before counts knowns c → IsMadeOfRead asked news file basis olds grid texts knowns c
    made_of_read basis knowns c few made = record {
      before = before;
      are_joined = joined;
      grid_is = grid_is;
      few = few;
      counts = counts;
      are_counts = long;
      made = made;
    }

    no_plan : (fault : CarryFault) → IsUnplannedTogether asked olds before news file counts fault → HasNoPlan asked news file olds grid texts fault
    no_plan fault wrong = record {
      before = before;
      are_joined = joined;
      grid_is = grid_is;
      counts = counts;
      are_counts = long;
      unplanned = wrong;
    }

    pub unmade_of_read : (fault : CarryFault) → IsUnplannedTogether asked olds before news file counts fault
        → IsUnmadeOfRead asked news file olds grid texts (joins.Carry fault)
    unmade_of_read (carry.Row row) wrong = no_plan (carry.Row row) wrong
    unmade_of_read (carry.Over lines) wrong = no_plan (carry.Over lines) wrong
    unmade_of_read carry.Full wrong = no_plan carry.Full wrong
    unmade_of_read carry.Memory wrong = tt
    unmade_of_read carry.Unsealed wrong = absurd wrong.unplanned
    unmade_of_read (carry.Season fault) wrong = absurd wrong.unplanned
