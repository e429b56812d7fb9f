-- What is made of a journal's bytes, and why nothing is.
use Rattle.std.proofs.Common.{◌≡◌, ◌≢◌, ℕ, false, List, [], length, Option, refl, sym, subst, ap, ◌∙◌}
use Rattle.ssim_flights.specs.declared.flight.Flight.{Flight as Flown}
use Rattle.seat_limits.specs.Authorised.{authorised_grid}
use Rattle.seat_limits.specs.declared.limit_row.LimitRow.{LimitRow}
use Rattle.seat_nesting.specs.Nesting.{Ladders}
use Rattle.seat_rules.specs.Inventory.{Inventory}
use Rattle.seat_desk.specs.AuditDesk.{IsReplayOf, IsUnlawful}
use Rattle.seat_desk.specs.Loading.{IsGridOf}
use Rattle.seat_desk.specs.declared.fault.DeskFault.{DeskFault}
use Rattle.seat_desk.specs.declared.fault.DeskFault.TheVariants as desk
use Rattle.seat_seal.specs.declared.beside.Basis.{Basis}
use Rattle.seat_seal.specs.declared.seal.Sealed.{Sealed as Belonging}
use Rattle.carry_limits.proofs.Files.{authorised_has_legs}
use Rattle.carry_limits.specs.Legs.{HasLegsOf}
use Rattle.seat_journal.specs.Text.{journal_text}
use Rattle.seat_seal.specs.Closing.{IsClosedEntry}
use Rattle.seat_seal.specs.Fronts.{front_of}
use Rattle.seat_seal.specs.Imprints.{imprint_of}
use Rattle.seat_seal.specs.declared.imprint.Imprint.{Imprint}
use Rattle.seat_sealing.specs.Steps.{alone_text}
use Rattle.carry_plans.specs.Carries.{IsMadeFrom, IsMadeOf, IsNextEra, IsPut, IsSealOfWhole, IsUnmade}
use Rattle.carry_plans.specs.Plans.{IsUnplanned}
use Rattle.carry_plans.specs.Parting.{IsPlanFor}
use Rattle.carry_plans.specs.declared.asked.CarryAsked.{CarryAsked}
use Rattle.carry_plans.specs.declared.carriage.Carriage.{Carriage}
use Rattle.carry_plans.specs.declared.fault.CarryFault.{CarryFault}
use Rattle.carry_plans.specs.declared.fault.CarryFault.TheVariants.{Season, Unsealed, Row, Over, Full, Memory}

pub has_legs : (rows : List LimitRow) (flights : List Flown) (grid : Ladders) → grid ≡ authorised_grid rows flights → HasLegsOf grid flights
has_legs rows flights grid is = subst (λ (g : Ladders). HasLegsOf g flights) (sym is) (authorised_has_legs rows flights)

pub grid_before : (olds : List Flown) (grid : Ladders) (bytes : List ℕ) (before : Inventory) → IsGridOf olds grid → IsReplayOf grid bytes before
    → IsGridOf olds before.grid
grid_before olds grid bytes before is r = subst (IsGridOf olds) (sym r.grid_is) is

module _ (asked : CarryAsked) (news : List Flown) (file : Ladders) (olds : List Flown) (grid : Ladders) (bytes : List ℕ) where
  pub of_journal : (f : CarryFault) (fault : DeskFault) → f ≡ Season (record { is_new = false; fault = fault })
      → (fault ≢ desk.Device) × (fault ≢ desk.TooLarge) → (fault ≢ desk.Memory → IsUnlawful grid fault bytes)
      → IsUnmade asked news file olds grid bytes f
  of_journal f fault same kind wrong =
      subst (IsUnmade asked news file olds grid bytes) (sym same) (record { is_old = refl; kind = kind; unlawful = wrong })

  pub unmade_of : (f : CarryFault) (before : Inventory) → IsReplayOf grid bytes before → IsUnplanned asked olds before news file f
      → IsUnmade asked news file olds grid bytes f
  unmade_of (Over text) before replayed wrong = record { before = before; replayed = replayed; unplanned = wrong }
  unmade_of (Row f) before replayed wrong = record { before = before; replayed = replayed; unplanned = wrong }
  unmade_of Full before replayed wrong = record { before = before; replayed = replayed; unplanned = wrong }
  unmade_of Memory before replayed wrong = tt
  unmade_of Unsealed before replayed wrong = absurd wrong
  unmade_of (Season fault) before replayed wrong = absurd wrong

  pub made_of_it : (basis : Basis) (known : Belonging) (c : Carriage) (before : Inventory) → IsReplayOf grid bytes before
      → IsMadeFrom asked news file basis olds before known.era.epoch known c → IsMadeOf asked news file basis olds grid bytes known c
  made_of_it basis known c before replayed from = record { before = before; replayed = replayed; from = from }

pub made_from_it : (asked : CarryAsked) (news : List Flown) (file : Ladders) (basis : Basis) (olds : List Flown) (epoch : ℕ) (known : Belonging) (c : Carriage)
    (before after : Inventory) (report : List ℕ) (whole : Option Inventory) → IsPlanFor asked.part asked olds before news file after report whole
    → IsPut asked.today basis epoch known after report whole c → IsMadeFrom asked news file basis olds before epoch known c
made_from_it asked news file basis olds epoch known c before after report whole plan put =
    record { after = after; report = report; whole = whole; planned = plan; put = put }

pub sealed_whole : (today : ℕ) (basis : Basis) (epoch : ℕ) (whole : Inventory) (bytes text : List ℕ) (imprint : Imprint) (lines : ℕ) (entry : Belonging)
    → bytes ≡ journal_text whole.journal → imprint ≡ imprint_of (front_of bytes) → lines ≡ length whole.journal
    → IsClosedEntry basis imprint lines [] entry → IsNextEra epoch today entry.era → text ≡ alone_text entry
    → IsSealOfWhole today basis epoch whole text
sealed_whole today basis epoch whole bytes text imprint lines entry b i l closed era is = record {
  entry = entry;
  closed =
      subst (λ (x : Imprint). IsClosedEntry basis x (length whole.journal) [] entry) (i ∙ ap (λ (x : List ℕ). imprint_of (front_of x)) b)
      (subst (λ (n : ℕ). IsClosedEntry basis imprint n [] entry) l closed);
  era = era;
  text_is = is;
}

pub unplanned_memory : (asked : CarryAsked) (olds : List Flown) (before : Inventory) (news : List Flown) (file : Ladders) (f : CarryFault) → f ≡ Memory
    → IsUnplanned asked olds before news file f
unplanned_memory asked olds before news file f e = subst (IsUnplanned asked olds before news file) (sym e) tt
