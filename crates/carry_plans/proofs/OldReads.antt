-- What was read of an old season and a journal.
use Rattle.std.proofs.Common.{◌≡◌, ◌≤◌, ◌<◌, ◌⊎◌, ℕ, true, false, List, [], length, Option, Some, None, IfSome, refl, sym, subst, inl, inr}
use Rattle.std.specs.Prelude.{IsTrue, is_some}
use Rattle.ssim_flights.specs.declared.flight.Flight.{Flight as Flown}
use Rattle.seat_limits.specs.Authorised.{authorised_grid}
use Rattle.seat_limits.specs.declared.limit_row.LimitRow.{LimitRow}
use Rattle.seat_nesting.specs.Nesting.{Ladders}
use Rattle.seat_desk.specs.Answering.{IsFirstTooLarge, IsFirstTooLargeOf, IsRefusedAnswerOf, IsRefusedAnswer}
use Rattle.seat_desk.specs.AuditDesk.{IsUnlawful, most_journal_bytes}
use Rattle.seat_desk.specs.Desk.{IsOfInput}
use Rattle.seat_desk.specs.Loading.{Bytes, IsFirstTooLargeLoad, IsFirstTooLargeLoadOf, IsGround, IsGroundOf, IsRefusedLoad, IsRefusedLoadOf}
use Rattle.seat_desk.specs.Sealing.{IsBasisOf, IsBesideFault}
use Rattle.seat_desk.specs.declared.fault.DeskFault.{DeskFault}
use Rattle.seat_desk.specs.declared.fault.DeskFault.TheVariants as desk
use Rattle.seat_desk.specs.declared.inputs.Inputs.{Inputs}
use Rattle.seat_desk.proofs.Answered.{answer_of, unsealed_of}
use Rattle.seat_seal.specs.Besides.{IsFaultBeside}
use Rattle.seat_seal.specs.Known.{IsKnown}
use Rattle.seat_seal.specs.declared.beside.Basis.{Basis}
use Rattle.seat_seal.specs.declared.beside.Beside.{Beside}
use Rattle.seat_seal.specs.declared.seal.Sealed.{Sealed as Belonging}
use Rattle.carry_plans.specs.Carries.{IsFrom, IsOldRead, IsUnread}
use Rattle.carry_plans.specs.declared.fault.CarryFault.{CarryFault}
use Rattle.carry_plans.specs.declared.fault.CarryFault.TheVariants.{Season, Unsealed}
use Rattle.carry_plans.specs.declared.reading.OldRead.{OldRead}

-- ---- a fault that is the old season's

as_old : {S L : Type 0} (set : Bytes S) (limits : Bytes L) (from : Inputs S L) (journal : Option (List ℕ)) (beside : Beside) (f : CarryFault)
    (fault : DeskFault) → f ≡ Season (record { is_new = false; fault = fault })
    → (IsOfInput fault → IsRefusedAnswerOf (λ grid g bytes. IsUnlawful grid g bytes) beside set limits from journal fault)
    → (fault ≡ desk.TooLarge → IsFirstTooLargeOf set limits from journal)
    → IsUnread set limits from journal beside f
as_old set limits from journal beside f fault same refused large =
    subst (IsUnread set limits from journal beside) (sym same) (record { is_old = refl; refused = refused; large = large })

-- ---- the set and the limits

of_load : (set limits journal : Option (List ℕ)) (refuses : Ladders → DeskFault → List ℕ → Type 0) (beside : Beside) (first days : ℕ) (fault : DeskFault)
    → IfSome set (λ xs. IfSome limits (λ ys. IsRefusedLoad xs ys first days fault))
    → IfSome set (λ xs. IfSome limits (λ ys. IfSome journal (λ zs. IsRefusedAnswer refuses beside xs ys first days zs fault)))
of_load (Some xs) (Some ys) (Some zs) refuses beside first days fault refused = inl refused
of_load (Some xs) (Some ys) None refuses beside first days fault refused = tt
of_load (Some xs) None journal refuses beside first days fault refused = tt
of_load None limits journal refuses beside first days fault refused = tt

large_load : (set limits journal : Option (List ℕ)) (first days : ℕ)
    → IfSome set (λ xs. IfSome limits (λ ys. IsFirstTooLargeLoad xs ys first days))
    → IfSome set (λ xs. IfSome limits (λ ys. IfSome journal (λ zs. IsFirstTooLarge xs ys first days zs)))
large_load (Some xs) (Some ys) (Some zs) first days large = inl large
large_load (Some xs) (Some ys) None first days large = tt
large_load (Some xs) None journal first days large = tt
large_load None limits journal first days large = tt

pub refused_load : {S L : Type 0} (set : Bytes S) (limits : Bytes L) (from : Inputs S L) (journal : Option (List ℕ)) (beside : Beside) (f : CarryFault)
    (fault : DeskFault) → f ≡ Season (record { is_new = false; fault = fault }) → (IsOfInput fault → IsRefusedLoadOf set limits from fault)
    → (fault ≡ desk.TooLarge → IsFirstTooLargeLoadOf set limits from)
    → IsUnread set limits from journal beside f
refused_load set limits from journal beside f fault same refused large =
    as_old set limits from journal beside f fault same
    (λ (i : IsOfInput fault). of_load (set from.set) (limits from.limits) journal (λ grid g bytes. IsUnlawful grid g bytes) beside from.first from.days fault (refused i))
    (λ (e : fault ≡ desk.TooLarge). large_load (set from.set) (limits from.limits) journal from.first from.days (large e))

-- ---- the journal's size

large_journal : (set limits journal : Option (List ℕ)) (first days : ℕ) (flights : List Flown) (rows : List LimitRow)
    → IfSome set (λ xs. IfSome limits (λ ys. IsGround xs ys first days flights rows)) → IfSome journal (λ zs. most_journal_bytes < length zs)
    → IfSome set (λ xs. IfSome limits (λ ys. IfSome journal (λ zs. IsFirstTooLarge xs ys first days zs)))
large_journal (Some xs) (Some ys) (Some zs) first days flights rows ground large =
    inr (record { ahead = record { flights = flights; rows = rows; is_ground = ground }; here = large })
large_journal (Some xs) (Some ys) None first days flights rows ground large = tt
large_journal (Some xs) None journal first days flights rows ground large = tt
large_journal None limits journal first days flights rows ground large = tt

no_input : (fault : DeskFault) → (fault ≡ desk.TooLarge) ⊎ ((fault ≡ desk.Device) ⊎ (fault ≡ desk.Memory)) → IsOfInput fault → ⊥
no_input fault (inl e) i = subst IsOfInput e i
no_input fault (inr (inl e)) i = subst IsOfInput e i
no_input fault (inr (inr e)) i = subst IsOfInput e i

pub refused_size : {S L : Type 0} (set : Bytes S) (limits : Bytes L) (from : Inputs S L) (journal : Option (List ℕ)) (beside : Beside) (f : CarryFault)
    (fault : DeskFault) (flights : List Flown) (rows : List LimitRow) → f ≡ Season (record { is_new = false; fault = fault })
    → (fault ≡ desk.TooLarge) ⊎ ((fault ≡ desk.Device) ⊎ (fault ≡ desk.Memory)) → IsGroundOf set limits from flights rows
    → (fault ≡ desk.TooLarge → IfSome journal (λ zs. most_journal_bytes < length zs))
    → IsUnread set limits from journal beside f
refused_size set limits from journal beside f fault flights rows same kind ground large =
    as_old set limits from journal beside f fault same (λ (i : IsOfInput fault). absurd (no_input fault kind i))
    (λ (e : fault ≡ desk.TooLarge). large_journal (set from.set) (limits from.limits) journal from.first from.days flights rows ground (large e))

-- ---- what stands beside it

beside_small : (beside : Beside) (basis : Basis) (bytes : List ℕ) (fault : DeskFault) → IsBesideFault beside basis bytes fault → fault ≡ desk.TooLarge → ⊥
beside_small beside basis bytes fault wrong e = subst (IsBesideFault beside basis bytes) e wrong

pub refused_seal : {S L : Type 0} (set : Bytes S) (limits : Bytes L) (from : Inputs S L) (journal : Option (List ℕ)) (beside : Beside) (f : CarryFault)
    (fault : DeskFault) (flights : List Flown) (rows : List LimitRow) (grid : Ladders) (bytes slice : List ℕ) (basis : Basis)
    → f ≡ Season (record { is_new = false; fault = fault }) → IsGroundOf set limits from flights rows
    → (IsTrue true → IsBasisOf set limits from basis) → grid ≡ authorised_grid rows flights
    → IfSome journal (λ zs. bytes ≡ zs) → length bytes ≤ most_journal_bytes → slice ≡ bytes → IsBesideFault beside basis slice fault
    → IsUnread set limits from journal beside f
refused_seal set limits from journal beside f fault flights rows grid bytes slice basis same ground known ladders whole within is_slice wrong =
    as_old set limits from journal beside f fault same
    (λ (i : IsOfInput fault).
    unsealed_of (set from.set) (limits from.limits) journal from.first from.days flights rows grid bytes slice beside basis (is_some beside.text) ground
    (λ (t : IsTrue (is_some beside.text)). known refl) refl ladders whole within is_slice (λ grid g bytes. IsUnlawful grid g bytes) fault wrong)
    (λ (e : fault ≡ desk.TooLarge). absurd (beside_small beside basis slice fault wrong e))

-- ---- all of it

pub read_of : {S L : Type 0} (set : Bytes S) (limits : Bytes L) (from : Inputs S L) (journal : Option (List ℕ)) (beside : Beside) (r : OldRead)
    (flights : List Flown) (rows : List LimitRow) (grid : Ladders) (bytes slice : List ℕ) (basis : Basis) (known : Option Belonging)
    → IsGroundOf set limits from flights rows → (IsTrue true → IsBasisOf set limits from basis) → grid ≡ authorised_grid rows flights
    → IfSome journal (λ zs. bytes ≡ zs) → length bytes ≤ most_journal_bytes → slice ≡ bytes → IsFaultBeside beside basis slice None
    → IsKnown beside slice known → known ≡ Some r.known → flights ≡ r.loaded.flights → grid ≡ r.loaded.grid → bytes ≡ r.bytes.items
    → IsFrom set limits from journal beside (IsOldRead beside r)
read_of set limits from journal beside r flights rows grid bytes slice basis known ground of_basis ladders whole within is_slice agreed is_known some f g b =
    answer_of (set from.set) (limits from.limits) journal from.first from.days flights rows grid bytes slice beside basis (is_some beside.text) ground
    (λ (t : IsTrue (is_some beside.text)). of_basis refl) refl ladders whole within is_slice
    (λ olds rows grid bytes text. IsOldRead beside r olds grid bytes) [] agreed
    (record {
      flights_are = f;
      grid_is = g;
      bytes_are = b;
      is_known = subst (λ (l : List ℕ). IsKnown beside l (Some r.known)) is_slice (subst (IsKnown beside slice) some is_known);
    })

pub unknown_of : {S L : Type 0} (set : Bytes S) (limits : Bytes L) (from : Inputs S L) (journal : Option (List ℕ)) (beside : Beside) (f : CarryFault)
    (flights : List Flown) (rows : List LimitRow) (grid : Ladders) (bytes slice : List ℕ) (basis : Basis) (known : Option Belonging)
    → f ≡ Unsealed → IsGroundOf set limits from flights rows → (IsTrue true → IsBasisOf set limits from basis) → grid ≡ authorised_grid rows flights
    → IfSome journal (λ zs. bytes ≡ zs) → length bytes ≤ most_journal_bytes → slice ≡ bytes → IsFaultBeside beside basis slice None
    → IsKnown beside slice known → known ≡ None → IsUnread set limits from journal beside f
unknown_of set limits from journal beside f flights rows grid bytes slice basis known same ground of_basis ladders whole within is_slice agreed is_known none =
    subst (IsUnread set limits from journal beside) (sym same)
    (answer_of (set from.set) (limits from.limits) journal from.first from.days flights rows grid bytes slice beside basis (is_some beside.text) ground
    (λ (t : IsTrue (is_some beside.text)). of_basis refl) refl ladders whole within is_slice
    (λ olds rows grid bytes text. IsKnown beside bytes None) [] agreed
    (subst (λ (l : List ℕ). IsKnown beside l None) is_slice (subst (IsKnown beside slice) none is_known)))
