-- The journal behind a numbered request.
use Rattle.std.proofs.Common.{◌≡◌, ℕ, ◌+◌, ◌==◌, ◌&&◌, nat_lt, if◌then◌else◌, Bool, true, false, List, [], ◌∷◌, ◌++◌, length, refl, ap, sym, ◌∙◌, arith}
use Rattle.std.proofs.lemmas.Bool.Decides.{nat_tests}
use Rattle.airimp_lines.specs.declared.requests.Request.{Request}
use Rattle.desk_calls.specs.Sending.{behind_call, is_next}
use Rattle.ssim_flights.specs.declared.flight.Flight.{Flight as Flown}
use Rattle.seat_journal.specs.declared.entry.Entry.{Entry}
use Rattle.seat_journal.specs.declared.entry.Work.TheVariants.{Seats}
use Rattle.seat_nesting.specs.Nesting.{Ladders}
use Rattle.seat_rules.specs.Journal.{calls_of, next_line}
use Rattle.seat_replies.specs.Requests.{command_of}
use Rattle.desk_answers.specs.Laws.{numbered, CallsAreBehind}
use Rattle.desk_answers.specs.Saying.{IsAsked, IsCalled}

module _ (flights : List Flown) (grid : Ladders) (cap session call : ℕ) (past journal : List Entry) (wish : Request)
    (text : List ℕ) where
  line : ℕ → Entry
  line n = next_line grid past session n (Seats (command_of flights wish))

  called : (b : Bool) → (call == calls_of past session + 1) ≡ b
      → IsCalled b flights grid cap session call past journal wish text
      → journal ≡ behind_call grid cap session past (numbered flights call wish)
  called true here is = asked (nat_lt (length past) cap) refl is
    where
      asked : (room : Bool) → nat_lt (length past) cap ≡ room
          → IsAsked room flights grid session past journal wish text
          → journal ≡ behind_call grid cap session past (numbered flights call wish)
      asked true e booked =
          let next : is_next cap session past call ≡ true = rw (here, e) refl in
          let same : calls_of past session + 1 ≡ call = grind (arith, nat_tests) in
          rw next (booked.line_is ∙ ap (λ (n : ℕ). past ++ next_line grid past session n (Seats (command_of flights wish)) ∷ []) same)
      asked false e refused =
          let full : is_next cap session past call ≡ false = rw (here, e) refl in
          rw full refused.0
  called false other is =
      let not : is_next cap session past call ≡ false = rw other refl in
      rw not is.0

pub calls_are_behind : CallsAreBehind
calls_are_behind flights grid cap session today epoch number call past journal wish stays text says =
    called flights grid cap session call past journal wish text (call == calls_of past session + 1) refl says.1
