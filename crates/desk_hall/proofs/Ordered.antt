-- What a row of the manager comes to behind the lines that are asked for.
use Rattle.std.proofs.Common.{◌≡◌, ℕ, ◌+◌, ◌<◌, ◌≤◌, ◌==◌, true, false, nat_le, nat_lt, List, [], ◌∷◌, length, refl, ap, sym, ◌∙◌, subst, arith}
use Rattle.std.specs.Prelude.{Some, None}
use Rattle.std.proofs.lemmas.Bool.Decides.{nat_tests}
use Rattle.desk_lines.specs.declared.desk.Desk.{Desk}
use Rattle.desk_lines.specs.declared.desk.Meaning.TheVariants.{WrongCall}
use Rattle.desk_lines.specs.declared.desk.Wrong.TheVariants.{Beyond}
use Rattle.desk_hall.specs.Planning.{PlansQuiet, PlansRow, PlansRowCall, control_asked}
use Rattle.desk_hall.specs.declared.planning.Plan.{Plan}
use Rattle.desk_hall.specs.declared.turn.Turn.TheVariants.{Line, Full, RepeatedRow}
use Rattle.desk_hall.proofs.Groups.{behind_length}
use Rattle.seat_desk.specs.Loading.{IsGridOf}
use Rattle.seat_journal.specs.Controls.{set_by}
use Rattle.seat_journal.specs.declared.entry.Control.{Control}
use Rattle.seat_journal.specs.declared.entry.Control.TheVariants.{ToLimit, ToSale}
use Rattle.seat_journal.specs.declared.entry.Entry.{Entry}
use Rattle.seat_nesting.specs.Nesting.{Ladders}
use Rattle.seat_rules.specs.Journal.{calls_of, FitsControl, MayAsk}
use Rattle.seat_replies.specs.Changes.{IsOnLeg}
use Rattle.seat_replies.proofs.Serving.{changes_fit}
use Rattle.seat_serving.specs.Answering.{behind, IsRight}
use Rattle.seat_serving.specs.declared.asked.Asked.{Asked}
use Rattle.ssim_flights.specs.declared.flight.Flight.{Flight as Flown}

-- the manager may set it
may_set : (control : Control) → MayAsk 0 (set_by control)
may_set (ToLimit change) = refl
may_set (ToSale change) = refl

-- what is on a leg of the flights is right for the inventory over these legs
pub row_right : (flights : List Flown) (grid : Ladders) (control : Control) (asked : Asked) → IsGridOf flights grid
    → IsOnLeg flights control → asked ≡ control_asked control → IsRight grid asked
row_right flights grid control asked g on is =
    let fits : FitsControl grid control = changes_fit flights grid (control ∷ []) g (on, tt) 0 control (omega arith) in
    subst (IsRight grid) (sym is) (record { session = may_set control; fits = fits })

module _ (grid : Ladders) (cap : ℕ) (past : List Entry) (asked : List Asked) (control : Control) where
  abbrev Past : List Entry
  Past = behind grid past asked

  pub row_room : (room place : ℕ) (own : Asked) → length past + room ≡ cap → length asked < room
      → place ≡ length past + length asked → own ≡ control_asked control
      → PlansRow (nat_lt (length Past) cap) Past control (record { turn = Line place; asked = Some own })
  row_room room place own whole below at own_is =
      let count : length Past ≡ length past + length asked = behind_length grid past asked in
      let has_room : nat_lt (length Past) cap ≡ true = grind (arith, nat_tests) in
      rw has_room (ap Line (at ∙ sym count), ap Some own_is)

  pub row_full : (room calls : ℕ) (plan : Plan) → length past + room ≡ cap → room ≤ length asked
      → calls ≡ calls_of Past 0 → plan.turn ≡ Full 0 (calls + 1) → plan.asked ≡ None
      → PlansRow (nat_lt (length Past) cap) Past control plan
  row_full room calls plan whole over are turn is =
      let count : length Past ≡ length past + length asked = behind_length grid past asked in
      let full : nat_lt (length Past) cap ≡ false = grind (arith, nat_tests) in
      rw full (turn ∙ ap (λ (n : ℕ). Full 0 (n + 1)) are, is)

  -- ---- numbered rows

  pub row_next : (manager : Desk) (number calls : ℕ) (plan : Plan) → number ≡ calls + 1 → calls ≡ calls_of Past 0
      → PlansRow (nat_lt (length Past) cap) Past control plan
      → PlansRowCall (number == calls_of Past 0 + 1) (nat_le number (calls_of Past 0)) cap manager number Past control plan
  row_next manager number calls plan is are plans =
      let here : (number == calls_of Past 0 + 1) ≡ true = grind (arith, nat_tests) in
      rw here plans

  pub row_there : (manager : Desk) (number calls : ℕ) (plan : Plan) → number ≤ calls → calls ≡ calls_of Past 0
      → plan.turn ≡ RepeatedRow number control → plan.asked ≡ None
      → PlansRowCall (number == calls_of Past 0 + 1) (nat_le number (calls_of Past 0)) cap manager number Past control plan
  row_there manager number calls plan low are turn is =
      let other : (number == calls_of Past 0 + 1) ≡ false = grind (arith, nat_tests) in
      let there : nat_le number (calls_of Past 0) ≡ true = grind (arith, nat_tests) in
      rw (other, there) (turn, is)

  pub row_beyond : (manager : Desk) (number calls : ℕ) (plan : Plan) → (number ≡ calls + 1 → ⊥) → calls < number
      → calls ≡ calls_of Past 0 → PlansQuiet 0 manager (WrongCall number Beyond) plan
      → PlansRowCall (number == calls_of Past 0 + 1) (nat_le number (calls_of Past 0)) cap manager number Past control plan
  row_beyond manager number calls plan not far are plans =
      let other : (number == calls_of Past 0 + 1) ≡ false = grind (arith, nat_tests) in
      let beyond : nat_le number (calls_of Past 0) ≡ false = grind (arith, nat_tests) in
      rw (other, beyond) plans
