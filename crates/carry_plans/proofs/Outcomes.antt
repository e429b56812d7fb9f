-- What a carry answers.
use Rattle.std.proofs.Common.{◌≡◌, ◌≢◌, ℕ, Bool, true, List, [], Option, Some, None, IfSome, refl, sym, subst, inr}
use Rattle.std.specs.Prelude.{IsTrue}
use Rattle.ssim_flights.specs.declared.flight.Flight.{Flight as Flown}
use Rattle.seat_limits.specs.Authorised.{authorised_grid}
use Rattle.seat_limits.specs.declared.limit_row.LimitRow.{LimitRow}
use Rattle.seat_nesting.specs.Nesting.{Ladders}
use Rattle.seat_desk.specs.Answering.{IsAnswer, IsRefusedAnswer}
use Rattle.seat_desk.specs.AuditDesk.{IsUnlawful}
use Rattle.seat_desk.specs.Desk.{IsOfInput}
use Rattle.seat_desk.specs.Loading.{Bytes, IsFirstTooLargeLoadOf, IsGround, IsGroundOf, IsRefusedLoadOf}
use Rattle.seat_desk.specs.Sealing.{IsBasisOf, basis_of}
use Rattle.seat_desk.specs.declared.fault.DeskFault.{DeskFault}
use Rattle.seat_desk.specs.declared.fault.DeskFault.TheVariants as desk
use Rattle.seat_desk.specs.declared.inputs.Inputs.{Inputs}
use Rattle.seat_seal.specs.Known.{IsKnown}
use Rattle.seat_seal.specs.declared.beside.Basis.{Basis}
use Rattle.seat_seal.specs.declared.beside.Beside.{Beside}
use Rattle.season_changes.specs.Seasons.{IsRefusedOf, IsTooLargeOf}
use Rattle.carry_plans.specs.Carries.{IsCarryOf, IsFrom, IsMade, IsMadeOf, IsOldRead, IsOnto, IsOntoOf, IsUncarried, IsUnmade, IsUnmadeOf, IsUnread}
use Rattle.carry_plans.specs.declared.asked.CarryAsked.{CarryAsked}
use Rattle.carry_plans.specs.declared.carriage.Carriage.{Carriage}
use Rattle.carry_plans.specs.declared.fault.CarryFault.{CarryFault}
use Rattle.carry_plans.specs.declared.fault.CarryFault.TheVariants.{Season, Unsealed, Row, Over, Full, Memory}
use Rattle.carry_plans.specs.declared.reading.OldRead.{OldRead}

-- ---- the new season

onto_by : (set limits : Option (List ℕ)) (first days : ℕ) (flights : List Flown) (rows : List LimitRow) (grid : Ladders) (basis : Basis)
    (holds : List Flown → Ladders → Basis → Type 0)
    → IfSome set (λ xs. IfSome limits (λ ys. IsGround xs ys first days flights rows))
    → IfSome set (λ xs. IfSome limits (λ ys. basis ≡ basis_of xs ys first days))
    → grid ≡ authorised_grid rows flights → holds flights grid basis
    → IfSome set (λ xs. IfSome limits (λ ys. IsOnto xs ys first days holds))
onto_by (Some xs) (Some ys) first days flights rows grid basis holds ground known ladders held = record {
  flights = flights;
  rows = rows;
  is_ground = ground;
  held = subst (λ (g : Ladders). holds flights g (basis_of xs ys first days)) ladders (subst (holds flights grid) known held);
}
onto_by (Some xs) None first days flights rows grid basis holds ground known ladders held = tt
onto_by None limits first days flights rows grid basis holds ground known ladders held = tt

-- ---- the old one

from_by : (set limits journal : Option (List ℕ)) (first days : ℕ) (beside : Beside) (P Q : List Flown → Ladders → List ℕ → Type 0)
    → ((olds : List Flown) (grid : Ladders) (bytes : List ℕ) → P olds grid bytes → Q olds grid bytes)
    → IfSome set (λ xs. IfSome limits (λ ys. IfSome journal (λ zs. IsAnswer (λ olds rows grid bytes text. P olds grid bytes) beside xs ys first days zs [])))
    → IfSome set (λ xs. IfSome limits (λ ys. IfSome journal (λ zs. IsAnswer (λ olds rows grid bytes text. Q olds grid bytes) beside xs ys first days zs [])))
from_by (Some xs) (Some ys) (Some zs) first days beside P Q step a = record {
  flights = a.flights;
  rows = a.rows;
  is_ground = a.is_ground;
  within = a.within;
  sealed = a.sealed;
  is_answer = step a.flights (authorised_grid a.rows a.flights) zs a.is_answer;
}
from_by (Some xs) (Some ys) None first days beside P Q step a = tt
from_by (Some xs) None journal first days beside P Q step a = tt
from_by None limits journal first days beside P Q step a = tt

refused_by : (set limits journal : Option (List ℕ)) (first days : ℕ) (beside : Beside) (P : List Flown → Ladders → List ℕ → Type 0) (fault : DeskFault)
    → ((olds : List Flown) (grid : Ladders) (bytes : List ℕ) → P olds grid bytes → IsUnlawful grid fault bytes)
    → IfSome set (λ xs. IfSome limits (λ ys. IfSome journal (λ zs. IsAnswer (λ olds rows grid bytes text. P olds grid bytes) beside xs ys first days zs [])))
    → IfSome set (λ xs. IfSome limits (λ ys. IfSome journal (λ zs. IsRefusedAnswer (λ grid f bytes. IsUnlawful grid f bytes) beside xs ys first days zs fault)))
refused_by (Some xs) (Some ys) (Some zs) first days beside P fault step a = inr (inr (record {
  flights = a.flights;
  rows = a.rows;
  is_ground = a.is_ground;
  within = a.within;
  sealed = a.sealed;
  refused = step a.flights (authorised_grid a.rows a.flights) zs a.is_answer;
}))
refused_by (Some xs) (Some ys) None first days beside P fault step a = tt
refused_by (Some xs) None journal first days beside P fault step a = tt
refused_by None limits journal first days beside P fault step a = tt

module _ {S L : Type 0} (set : Bytes S) (limits : Bytes L) (from to : Inputs S L) (journal : Option (List ℕ)) (beside : Beside) (asked : CarryAsked)
    (news : List Flown) (rows : List LimitRow) (file : Ladders) (basis : Basis) where
  -- ---- what is made

  made_from : (r : OldRead) (c : Carriage) → IsMadeOf asked news file basis r.loaded.flights r.loaded.grid r.bytes.items r.known c
      → (olds : List Flown) (grid : Ladders) (bytes : List ℕ) → IsOldRead beside r olds grid bytes
      → IsMade asked beside news file basis olds grid bytes c
  made_from r c made olds grid bytes read = record {
    known = r.known;
    is_known = read.is_known;
    made =
        subst (λ (l : List ℕ). IsMadeOf asked news file basis olds grid l r.known c) (sym read.bytes_are)
        (subst (λ (g : Ladders). IsMadeOf asked news file basis olds g r.bytes.items r.known c) (sym read.grid_is)
        (subst (λ (fs : List Flown). IsMadeOf asked news file basis fs r.loaded.grid r.bytes.items r.known c) (sym read.flights_are) made));
  }

  pub carried_onto : (r : OldRead) (c : Carriage) → IsGroundOf set limits to news rows → (IsTrue true → IsBasisOf set limits to basis)
      → file ≡ authorised_grid rows news → IsFrom set limits from journal beside (IsOldRead beside r)
      → IsMadeOf asked news file basis r.loaded.flights r.loaded.grid r.bytes.items r.known c
      → IsCarryOf set limits from to journal beside asked c
  carried_onto r c ground known ladders read made =
      onto_by (set to.set) (limits to.limits) to.first to.days news rows file basis
      (λ fs g b. IsFrom set limits from journal beside (λ olds grid bytes. IsMade asked beside fs g b olds grid bytes c)) ground (known refl) ladders
      (from_by (set from.set) (limits from.limits) journal from.first from.days beside (IsOldRead beside r)
      (λ olds grid bytes. IsMade asked beside news file basis olds grid bytes c) (made_from r c made) read)

  -- ---- what is refused

  unread_by : (f : CarryFault) → IsGroundOf set limits to news rows → (IsTrue true → IsBasisOf set limits to basis)
      → file ≡ authorised_grid rows news → IsUnread set limits from journal beside f → IsUncarried set limits from to journal beside asked f
  unread_by (Season fault) ground known ladders unread = record {
    refused = subst (λ (n : Bool). IsRefusedOf set limits from to journal beside n fault.fault) (sym unread.is_old) unread.refused;
    large = λ (e : fault.fault ≡ desk.TooLarge). subst (IsTooLargeOf set limits from to journal) (sym unread.is_old) (unread.large e);
  }
  unread_by Unsealed ground known ladders unread =
      onto_by (set to.set) (limits to.limits) to.first to.days news rows file basis
      (λ fs g b. IsFrom set limits from journal beside (λ olds grid bytes. IsKnown beside bytes None)) ground (known refl) ladders unread
  unread_by Memory ground known ladders unread = tt
  unread_by (Over text) ground known ladders unread = absurd unread
  unread_by Full ground known ladders unread = absurd unread
  unread_by (Row f) ground known ladders unread = absurd unread

  pub refused_old : (f : CarryFault) → IsGroundOf set limits to news rows → (IsTrue true → IsBasisOf set limits to basis)
      → file ≡ authorised_grid rows news → IsUnread set limits from journal beside f → IsUncarried set limits from to journal beside asked f
  refused_old f ground known ladders unread = unread_by f ground known ladders unread

  unmade_from : (r : OldRead) (f : CarryFault) → IsUnmadeOf asked news file r.loaded.flights r.loaded.grid r.bytes.items f
      → (olds : List Flown) (grid : Ladders) (bytes : List ℕ) → IsOldRead beside r olds grid bytes
      → IsUnmadeOf asked news file olds grid bytes f
  unmade_from r f unmade olds grid bytes read =
      subst (λ (l : List ℕ). IsUnmadeOf asked news file olds grid l f) (sym read.bytes_are)
      (subst (λ (g : Ladders). IsUnmadeOf asked news file olds g r.bytes.items f) (sym read.grid_is)
      (subst (λ (fs : List Flown). IsUnmadeOf asked news file fs r.loaded.grid r.bytes.items f) (sym read.flights_are) unmade))

  onto_unmade : (r : OldRead) (f : CarryFault) → IsGroundOf set limits to news rows → (IsTrue true → IsBasisOf set limits to basis)
      → file ≡ authorised_grid rows news → IsFrom set limits from journal beside (IsOldRead beside r)
      → IsUnmadeOf asked news file r.loaded.flights r.loaded.grid r.bytes.items f
      → IsOntoOf set limits to (λ fs g b. IsFrom set limits from journal beside (λ olds grid bytes. IsUnmadeOf asked fs g olds grid bytes f))
  onto_unmade r f ground known ladders read unmade =
      onto_by (set to.set) (limits to.limits) to.first to.days news rows file basis
      (λ fs g b. IsFrom set limits from journal beside (λ olds grid bytes. IsUnmadeOf asked fs g olds grid bytes f)) ground (known refl) ladders
      (from_by (set from.set) (limits from.limits) journal from.first from.days beside (IsOldRead beside r)
      (λ olds grid bytes. IsUnmadeOf asked news file olds grid bytes f) (unmade_from r f unmade) read)

  unlawful_from : (r : OldRead) (fault : DeskFault) → IsUnlawful r.loaded.grid fault r.bytes.items
      → (olds : List Flown) (grid : Ladders) (bytes : List ℕ) → IsOldRead beside r olds grid bytes → IsUnlawful grid fault bytes
  unlawful_from r fault wrong olds grid bytes read =
      subst (λ (l : List ℕ). IsUnlawful grid fault l) (sym read.bytes_are)
      (subst (λ (g : Ladders). IsUnlawful g fault r.bytes.items) (sym read.grid_is) wrong)

  not_memory : (fault : DeskFault) → IsOfInput fault → fault ≢ desk.Memory
  not_memory fault i = λ (e : fault ≡ desk.Memory). subst IsOfInput e i

  pub refused_made : (r : OldRead) (f : CarryFault) → IsGroundOf set limits to news rows → (IsTrue true → IsBasisOf set limits to basis)
      → file ≡ authorised_grid rows news → IsFrom set limits from journal beside (IsOldRead beside r)
      → IsUnmade asked news file r.loaded.flights r.loaded.grid r.bytes.items f
      → IsUncarried set limits from to journal beside asked f
  refused_made r (Season fault) ground known ladders read wrong = record {
    refused =
        subst (λ (n : Bool). IsRefusedOf set limits from to journal beside n fault.fault) (sym wrong.is_old)
        (λ (i : IsOfInput fault.fault).
        refused_by (set from.set) (limits from.limits) journal from.first from.days beside (IsOldRead beside r) fault.fault
        (unlawful_from r fault.fault (wrong.unlawful (not_memory fault.fault i))) read);
    large = λ (e : fault.fault ≡ desk.TooLarge). absurd (wrong.kind.1 e);
  }
  refused_made r Unsealed ground known ladders read wrong = absurd wrong
  refused_made r (Over text) ground known ladders read wrong = onto_unmade r (Over text) ground known ladders read wrong
  refused_made r (Row f) ground known ladders read wrong = onto_unmade r (Row f) ground known ladders read wrong
  refused_made r Full ground known ladders read wrong = onto_unmade r Full ground known ladders read wrong
  refused_made r Memory ground known ladders read wrong = tt

pub refused_new : {S L : Type 0} (set : Bytes S) (limits : Bytes L) (from to : Inputs S L) (journal : Option (List ℕ)) (beside : Beside) (asked : CarryAsked)
    (f : CarryFault) (fault : DeskFault) → f ≡ Season (record { is_new = true; fault = fault }) → (IsOfInput fault → IsRefusedLoadOf set limits to fault)
    → (fault ≡ desk.TooLarge → IsFirstTooLargeLoadOf set limits to) → IsUncarried set limits from to journal beside asked f
refused_new set limits from to journal beside asked f fault same refused large =
    subst (IsUncarried set limits from to journal beside asked) (sym same) (record { refused = refused; large = large })
