-- What a line comes to behind the lines that are asked for.
use Rattle.std.proofs.Common.{◌≡◌, ℕ, ◌+◌, ◌<◌, ◌≤◌, ◌==◌, Bool, true, false, cond, nat_le, nat_lt, List, [], ◌∷◌, ◌++◌, length, ap, sym, ◌∙◌, arith, append-nil, append_assoc, length-append}
use Rattle.std.specs.Prelude.{count_by, filter, Some, None}
use Rattle.std.proofs.lemmas.Bool.Decides.{nat_tests}
use Rattle.std.proofs.lemmas.List.Sums.{length-filter}
use Rattle.airimp_lines.specs.declared.requests.Request.{Request}
use Rattle.desk_answers.specs.Saying.{asked_by}
use Rattle.desk_lines.specs.declared.desk.Desk.{Desk}
use Rattle.desk_lines.specs.declared.desk.Meaning.TheVariants.{WrongCall}
use Rattle.desk_lines.specs.declared.desk.Wrong.TheVariants.{Beyond}
use Rattle.desk_hall.specs.Planning.{PlansCall, PlansQuiet, PlansRequest}
use Rattle.desk_hall.specs.declared.planning.Plan.{Plan}
use Rattle.desk_hall.specs.declared.turn.Turn.TheVariants.{Line, Full, Repeated}
use Rattle.desk_hall.proofs.Groups.{behind_length}
use Rattle.ssim_flights.specs.declared.flight.Flight.{Flight as Flown}
use Rattle.seat_journal.specs.declared.entry.Entry.{Entry}
use Rattle.seat_nesting.specs.Nesting.{Ladders}
use Rattle.seat_rules.specs.Histories.{of_session}
use Rattle.seat_rules.specs.Journal.{calls_of}
use Rattle.seat_rules.proofs.Own.{calls_own, own_append}
use Rattle.seat_serving.specs.Answering.{behind, line_for, lines_for, with_line}
use Rattle.seat_serving.specs.declared.asked.Asked.{Asked}

-- ---- how many calls a session has

one_length : (own : Bool) (e : Entry) (a : Asked) (xs : List Asked)
    → length (cond own (e ∷ []) []) + length xs ≡ length (cond own (a ∷ xs) xs)
one_length true e a xs = omega arith
one_length false e a xs = omega arith

calls_with : (session : ℕ) (past : List Entry) (e : Entry)
    → calls_of (past ++ e ∷ []) session ≡ calls_of past session + length (of_session session (e ∷ []))
calls_with session past e =
    calls_own (past ++ e ∷ []) session ∙ ap length (own_append session past (e ∷ []))
    ∙ length-append (of_session session past) (of_session session (e ∷ []))
    ∙ ap (λ (n : ℕ). n + length (of_session session (e ∷ []))) (sym (calls_own past session))

calls_filtered : (grid : Ladders) (session : ℕ) (past : List Entry) (asked : List Asked)
    → calls_of (behind grid past asked) session
    ≡ calls_of past session + length (filter (λ (a : Asked). a.session == session) asked)
calls_filtered grid session past [] =
    ap (λ (l : List Entry). calls_of l session) (append-nil past) ∙ omega arith
calls_filtered grid session past (a ∷ asked) =
    let e : Entry = line_for grid past a in
    let mid : List Entry = with_line grid past a in
    let rest : List Asked = filter (λ (x : Asked). x.session == session) asked in
    let whole : behind grid past (a ∷ asked) ≡ behind grid mid asked = sym (append_assoc past (e ∷ []) (lines_for grid mid asked)) in
    let one : length (of_session session (e ∷ [])) + length rest ≡ length (filter (λ (x : Asked). x.session == session) (a ∷ asked)) =
    one_length (a.session == session) e a rest in
    ap (λ (l : List Entry). calls_of l session) whole ∙ calls_filtered grid session mid asked
    ∙ ap (λ (n : ℕ). n + length rest) (calls_with session past e) ∙ omega (arith, one)

-- behind what is asked for it has as many more as it asks for
pub calls_more : (grid : Ladders) (session calls count : ℕ) (past : List Entry) (asked : List Asked)
    → calls ≡ calls_of past session → count ≡ count_by (λ (a : Asked). a.session == session) asked
    → calls + count ≡ calls_of (behind grid past asked) session
calls_more grid session calls count past asked are is =
    let filtered : count ≡ length (filter (λ (a : Asked). a.session == session) asked) =
    is ∙ sym (length-filter (λ (a : Asked). a.session == session) asked) in
    omega (arith, are, filtered, calls_filtered grid session past asked)

-- ---- requests

module _ (flights : List Flown) (grid : Ladders) (cap session : ℕ) (past : List Entry) (asked : List Asked) (wish : Request) where
  abbrev Past : List Entry
  Past = behind grid past asked

  pub planned_room : (served : List Flown) (room place : ℕ) (own : Asked) → length past + room ≡ cap → length asked < room
      → place ≡ length past + length asked → own ≡ asked_by served session wish → served ≡ flights
      → PlansRequest (nat_lt (length Past) cap) flights session Past wish (record { turn = Line place; asked = Some own })
  planned_room served room place own whole below at own_is same =
      let count : length Past ≡ length past + length asked = behind_length grid past asked in
      let has_room : nat_lt (length Past) cap ≡ true = grind (arith, nat_tests) in
      let here : Some own ≡ Some (asked_by flights session wish) =
      ap Some (own_is ∙ ap (λ (fs : List Flown). asked_by fs session wish) same) in
      rw has_room (ap Line (at ∙ sym count), here)

  pub planned_full : (room calls : ℕ) (plan : Plan) → length past + room ≡ cap → room ≤ length asked
      → calls ≡ calls_of Past session → plan.turn ≡ Full session (calls + 1) → plan.asked ≡ None
      → PlansRequest (nat_lt (length Past) cap) flights session Past wish plan
  planned_full room calls plan whole over are turn is =
      let count : length Past ≡ length past + length asked = behind_length grid past asked in
      let full : nat_lt (length Past) cap ≡ false = grind (arith, nat_tests) in
      rw full (turn ∙ ap (λ (n : ℕ). Full session (n + 1)) are, is)

  -- ---- numbered requests

  pub planned_next : (desk : Desk) (number calls : ℕ) (plan : Plan) → number ≡ calls + 1 → calls ≡ calls_of Past session
      → PlansRequest (nat_lt (length Past) cap) flights session Past wish plan
      → PlansCall (number == calls_of Past session + 1) (nat_le number (calls_of Past session)) flights cap session desk number Past wish plan
  planned_next desk number calls plan is are plans =
      let here : (number == calls_of Past session + 1) ≡ true = grind (arith, nat_tests) in
      rw here plans

  pub planned_there : (desk : Desk) (number calls : ℕ) (plan : Plan) → number ≤ calls → calls ≡ calls_of Past session
      → plan.turn ≡ Repeated session number wish → plan.asked ≡ None
      → PlansCall (number == calls_of Past session + 1) (nat_le number (calls_of Past session)) flights cap session desk number Past wish plan
  planned_there desk number calls plan low are turn is =
      let other : (number == calls_of Past session + 1) ≡ false = grind (arith, nat_tests) in
      let there : nat_le number (calls_of Past session) ≡ true = grind (arith, nat_tests) in
      rw (other, there) (turn, is)

  pub planned_beyond : (desk : Desk) (number calls : ℕ) (plan : Plan) → (number ≡ calls + 1 → ⊥) → calls < number
      → calls ≡ calls_of Past session → PlansQuiet session desk (WrongCall number Beyond) plan
      → PlansCall (number == calls_of Past session + 1) (nat_le number (calls_of Past session)) flights cap session desk number Past wish plan
  planned_beyond desk number calls plan not far are plans =
      let other : (number == calls_of Past session + 1) ≡ false = grind (arith, nat_tests) in
      let beyond : nat_le number (calls_of Past session) ≡ false = grind (arith, nat_tests) in
      rw (other, beyond) plans
