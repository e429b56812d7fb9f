-- What a carry of several journals answers.
use Rattle.std.proofs.Common.{◌≡◌, ℕ, true, false, List, Option, Some, None, IfSome, sym, subst}
use Rattle.ssim_flights.specs.declared.flight.Flight.{Flight as Flown}
use Rattle.seat_limits.specs.Authorised.{authorised_grid}
use Rattle.seat_limits.specs.declared.limit_row.LimitRow.{LimitRow}
use Rattle.seat_nesting.specs.Nesting.{Ladders}
use Rattle.seat_desk.specs.Answering.{HasGround, HasGroundOf}
use Rattle.seat_desk.specs.Loading.{Bytes, IsGround}
use Rattle.seat_desk.specs.Sealing.{basis_of}
use Rattle.seat_desk.specs.declared.inputs.Inputs.{Inputs}
use Rattle.seat_seal.specs.declared.beside.Basis.{Basis}
use Rattle.seat_seal.specs.declared.beside.Beside.{Beside}
use Rattle.seat_shards.specs.Taking.{known}
use Rattle.seat_shards.specs.declared.fault.ShardFault.{ShardFault}
use Rattle.carry_plans.specs.Carries.{IsOnto, IsOntoOf}
use Rattle.carry_plans.specs.declared.asked.CarryAsked.{CarryAsked}
use Rattle.carry_plans.specs.declared.fault.CarryFault.{CarryFault}
use Rattle.carry_plans.specs.declared.fault.CarryFault.TheVariants as carry
use Rattle.shard_questions.specs.Together.{IsFirstStopped}
use Rattle.carry_plans.specs.Joining.{HasNoPlan, IsJoinedMade, IsJoinedStopped, IsJoinedUnmade, IsMadeOfRead, IsOverAll, IsSeason, IsUncarriedBy, IsUnjoined, IsUnmadeOfRead, IsUnreadOver, IsUnreadSeason}
use Rattle.carry_plans.specs.Knowing.{AreReadTexts, IsReadingFault, IsUnreadOn}
use Rattle.carry_plans.specs.declared.joined_carriage.JoinedCarriage.{JoinedCarriage}
use Rattle.carry_plans.specs.declared.join_fault.JoinFault.{JoinFault}
use Rattle.carry_plans.specs.declared.join_fault.JoinFault.TheVariants as joins
use Rattle.carry_plans.specs.declared.journals.KnownTexts.{KnownTexts}

-- ---- one season

ground_in : (set limits : Option (List ℕ)) (first days : ℕ) (flights : List Flown) (rows : List LimitRow)
    → IfSome set (λ xs. IfSome limits (λ ys. IsGround xs ys first days flights rows))
    → IfSome set (λ xs. IfSome limits (HasGround first days xs))
ground_in (Some xs) (Some ys) first days flights rows is = record { flights = flights; rows = rows; is_ground = is }
ground_in (Some xs) None first days flights rows is = tt
ground_in None limits first days flights rows is = tt

pub ground_of : {S L : Type 0} (set : Bytes S) (limits : Bytes L) (inputs : Inputs S L) (flights : List Flown) (grid : Ladders) (basis : Basis)
    → IsSeason set limits inputs flights grid basis → HasGroundOf set limits inputs
ground_of set limits inputs flights grid basis season =
    ground_in (set inputs.set) (limits inputs.limits) inputs.first inputs.days flights season.rows season.is_ground

onto_by : (set limits : Option (List ℕ)) (first days : ℕ) (flights : List Flown) (rows : List LimitRow) (grid : Ladders) (basis : Basis)
    (holds : List Flown → Ladders → Basis → Type 0)
    → IfSome set (λ xs. IfSome limits (λ ys. IsGround xs ys first days flights rows))
    → IfSome set (λ xs. IfSome limits (λ ys. basis ≡ basis_of xs ys first days))
    → grid ≡ authorised_grid rows flights → holds flights grid basis
    → IfSome set (λ xs. IfSome limits (λ ys. IsOnto xs ys first days holds))
onto_by (Some xs) (Some ys) first days flights rows grid basis holds ground known ladders held = record {
  flights = flights;
  rows = rows;
  is_ground = ground;
  held = subst (λ (g : Ladders). holds flights g (basis_of xs ys first days)) ladders (subst (holds flights grid) known held);
}
onto_by (Some xs) None first days flights rows grid basis holds ground known ladders held = tt
onto_by None limits first days flights rows grid basis holds ground known ladders held = tt

onto : {S L : Type 0} (set : Bytes S) (limits : Bytes L) (inputs : Inputs S L) (flights : List Flown) (grid : Ladders) (basis : Basis)
    → IsSeason set limits inputs flights grid basis → (holds : List Flown → Ladders → Basis → Type 0) → holds flights grid basis
    → IsOntoOf set limits inputs holds
onto set limits inputs flights grid basis season holds held =
    onto_by (set inputs.set) (limits inputs.limits) inputs.first inputs.days flights season.rows grid basis holds season.is_ground season.is_basis
    season.grid_is held

-- ---- both, and the journals that were read

module _ {S L : Type 0} (set : Bytes S) (limits : Bytes L) (from to : Inputs S L) (journals : List (Option (List ℕ))) (besides : List Beside)
    (asked : CarryAsked) where
  pub unread_new : (f : JoinFault) → IsUnreadSeason set limits to true f → IsUnjoined set limits from to journals besides asked f
  unread_new f unread =
      subst (IsUnjoined set limits from to journals besides asked) (sym unread.is) (record { refused = unread.refused; large = unread.large })

  module _ (news : List Flown) (file : Ladders) (basis : Basis) (new : IsSeason set limits to news file basis) where
    pub unread_old : (f : JoinFault) → IsUnreadSeason set limits from false f → IsUnjoined set limits from to journals besides asked f
    unread_old f unread =
        subst (IsUnjoined set limits from to journals besides asked) (sym unread.is)
        (record { refused = (ground_of set limits to news file basis new, unread.refused); large = unread.large })

    module _ (olds : List Flown) (grid : Ladders) (under : Basis) (old : IsSeason set limits from olds grid under) where
      over : (f : JoinFault) → IsUnreadOn under besides journals 0 f → IsUnreadOver set limits from to journals besides f
      over f unread =
          onto set limits to news file basis new (λ fs l b. IsOntoOf set limits from (λ os g u. IsUnreadOn u besides journals 0 f))
          (onto set limits from olds grid under old (λ os g u. IsUnreadOn u besides journals 0 f) unread)

      pub unread_journal : (f : JoinFault) → IsUnreadOn under besides journals 0 f → IsReadingFault f
          → IsUnjoined set limits from to journals besides asked f
      unread_journal (joins.Beside at fault) unread kind = over (joins.Beside at fault) unread
      unread_journal (joins.Unsealed at) unread kind = over (joins.Unsealed at) unread
      unread_journal joins.Device unread kind = tt
      unread_journal (joins.Carry fault) unread kind = subst (IsUncarriedBy set limits from to journals besides asked) (sym kind) tt
      unread_journal (joins.Journals fault) unread kind = absurd kind

      over_all : (holds : List Flown → Ladders → Basis → List Flown → Ladders → Basis → List (List ℕ) → Type 0)
          → IfSome (known journals) (λ texts. holds news file basis olds grid under texts) → IsOverAll set limits from to journals holds
      over_all holds held =
          onto set limits to news file basis new
          (λ fs l b. IsOntoOf set limits from (λ os g u. IfSome (known journals) (λ texts. holds fs l b os g u texts)))
          (onto set limits from olds grid under old (λ os g u. IfSome (known journals) (λ texts. holds news file basis os g u texts)) held)

      module _ (read : KnownTexts) (are : IfSome (known journals) (AreReadTexts under besides read)) where
        by_texts : (o : Option (List (List ℕ))) (P Q : List (List ℕ) → Type 0) → IfSome o (AreReadTexts under besides read)
            → ((texts : List (List ℕ)) → AreReadTexts under besides read texts → P texts → Q texts) → P read.texts → IfSome o Q
        by_texts None P Q r step held = tt
        by_texts (Some texts) P Q r step held = step texts r (subst P r.texts_are held)

        pub carried_onto : (c : JoinedCarriage) → IsMadeOfRead asked news file basis olds grid read.texts read.knowns c
            → IsOverAll set limits from to journals
            (λ news file basis olds grid under texts. IsJoinedMade asked besides news file basis olds grid under texts c)
        carried_onto c made =
            over_all (λ fs l b os g u texts. IsJoinedMade asked besides fs l b os g u texts c)
            (by_texts (known journals) (λ texts. IsMadeOfRead asked news file basis olds grid texts read.knowns c)
            (λ texts. IsJoinedMade asked besides news file basis olds grid under texts c) are
            (λ texts r m. record { knowns = read.knowns; are_known = r.are_known; made = m }) made)

        unmade : (fault : CarryFault) → HasNoPlan asked news file olds grid read.texts fault
            → IsOverAll set limits from to journals
            (λ news file basis olds grid under texts. IsJoinedUnmade asked besides news file olds grid under texts fault)
        unmade fault wrong =
            over_all (λ fs l b os g u texts. IsJoinedUnmade asked besides fs l os g u texts fault)
            (by_texts (known journals) (λ texts. HasNoPlan asked news file olds grid texts fault)
            (λ texts. IsJoinedUnmade asked besides news file olds grid under texts fault) are
            (λ texts r m. record { knowns = read.knowns; are_known = r.are_known; unmade = m }) wrong)

        stopped : (fault : ShardFault) → IsFirstStopped grid read.texts fault
            → IsOverAll set limits from to journals (λ news file basis olds grid under texts. IsJoinedStopped besides grid under texts fault)
        stopped fault wrong =
            over_all (λ fs l b os g u texts. IsJoinedStopped besides g u texts fault)
            (by_texts (known journals) (λ texts. IsFirstStopped grid texts fault) (λ texts. IsJoinedStopped besides grid under texts fault) are
            (λ texts r m. record { knowns = read.knowns; are_known = r.are_known; first = m }) wrong)

        pub unmade_onto : (f : JoinFault) → IsUnmadeOfRead asked news file olds grid read.texts f → IsUnjoined set limits from to journals besides asked f
        unmade_onto (joins.Carry (carry.Row row)) wrong = unmade (carry.Row row) wrong
        unmade_onto (joins.Carry (carry.Over lines)) wrong = unmade (carry.Over lines) wrong
        unmade_onto (joins.Carry carry.Full) wrong = unmade carry.Full wrong
        unmade_onto (joins.Carry carry.Memory) wrong = tt
        unmade_onto (joins.Carry carry.Unsealed) wrong = absurd wrong
        unmade_onto (joins.Carry (carry.Season fault)) wrong = absurd wrong
        unmade_onto (joins.Journals fault) wrong = stopped fault wrong
        unmade_onto (joins.Beside at fault) wrong = absurd wrong
        unmade_onto (joins.Unsealed at) wrong = absurd wrong
        unmade_onto joins.Device wrong = absurd wrong
