-- A numbered request, and what is told of a call that is there.
use Rattle.std.proofs.Common.{◌≡◌, ◌⊎◌, inl, inr, ℕ, ◌+◌, ◌==◌, Bool, true, false, nat_lt, List, [], ◌∷◌, ◌++◌, length, refl, ap, sym, ◌∙◌, subst, arith}
use Rattle.std.specs.Prelude.{Option, Some, None}
use Rattle.std.proofs.lemmas.Bool.Decides.{nat_tests}
use Rattle.airimp_lines.specs.declared.requests.Request.{Request}
use Rattle.desk_calls.specs.Calls.{IsLineIn, call_line}
use Rattle.desk_lines.specs.declared.desk.Wrong.TheVariants as faults
use Rattle.desk_telling.specs.Telling.{AreTold, AreToldBehind, Telling}
use Rattle.ssim_flights.specs.declared.flight.Flight.{Flight as Flown}
use Rattle.seat_desk.specs.Loading.{IsGridOf}
use Rattle.seat_journal.specs.declared.entry.Entry.{Entry}
use Rattle.seat_nesting.specs.Nesting.{Ladders}
use Rattle.seat_rules.specs.Journal.{IsLegal, calls_of}
use Rattle.seat_replies.specs.Answering.{IsAnswerable}
use Rattle.seat_replies.specs.RunDesk.{IsAnswer}
use Rattle.seat_replies.specs.VeryRequest.{IsVeryRequest}
use Rattle.seat_replies.proofs.Histories.{lines_booked}
use Rattle.desk_answers.specs.FaultLines.{wrong_call_line}
use Rattle.desk_answers.specs.Saying.{IsAgain, IsAnsweredAgain, IsAsked, IsCalled}
use Rattle.desk_answers.proofs.Wishes.{requested}

-- the next call is asked for
pub next_called : (flights : List Flown) (grid : Ladders) (cap session number calls : ℕ) (past journal : List Entry) (wish : Request)
    (text : List ℕ) → number ≡ calls + 1 → calls ≡ calls_of past session
    → IsAsked (nat_lt (length past) cap) flights grid session past journal wish text
    → IsCalled (number == calls_of past session + 1) flights grid cap session number past journal wish text
next_called flights grid cap session number calls past journal wish text is are asked =
    let here : (number == calls_of past session + 1) ≡ true = grind (arith, nat_tests) in
    rw here asked

-- any other is not
pub other_called : (flights : List Flown) (grid : Ladders) (cap session number calls : ℕ) (past journal : List Entry)
    (wish : Request) (text : List ℕ) → (number ≡ calls + 1 → ⊥) → calls ≡ calls_of past session → journal ≡ past
    → IsAgain (call_line session number past) flights past session number wish text
    → IsCalled (number == calls_of past session + 1) flights grid cap session number past journal wish text
other_called flights grid cap session number calls past journal wish text not are same is =
    let other : (number == calls_of past session + 1) ≡ false = grind (arith, nat_tests) in
    rw other (same, is)

-- ---- a call that is there, or is not

pub is_again : (flights : List Flown) (journal : List Entry) (session number : ℕ) (line : Entry) (wish : Request) (text : List ℕ)
    → Some line ≡ call_line session number journal → IsAnsweredAgain flights journal session number line wish text
    → IsAgain (call_line session number journal) flights journal session number wish text
is_again flights journal session number line wish text at is =
    subst (λ (o : Option Entry). IsAgain o flights journal session number wish text) at is

pub is_beyond : (flights : List Flown) (journal : List Entry) (session number : ℕ) (wish : Request) (text : List ℕ)
    → None ≡ call_line session number journal → text ≡ wrong_call_line faults.Beyond session number
    → IsAgain (call_line session number journal) flights journal session number wish text
is_beyond flights journal session number wish text at is =
    subst (λ (o : Option Entry). IsAgain o flights journal session number wish text) at is

pub is_there : (flights : List Flown) (journal : List Entry) (session number : ℕ) (line : Entry) (wish : Request) (text : List ℕ)
    → IsVeryRequest flights wish line.work → IsAnswer flights (wish ∷ []) journal 0 line text
    → IsAnsweredAgain flights journal session number line wish text
is_there flights journal session number line wish text very is = inl (very, is)

pub is_another : (flights : List Flown) (journal : List Entry) (session number : ℕ) (line : Entry) (wish : Request) (text : List ℕ)
    → (IsVeryRequest flights wish line.work → ⊥) → text ≡ wrong_call_line faults.Other session number
    → IsAnsweredAgain flights journal session number line wish text
is_another flights journal session number line wish text other is = inr (other, is)

-- each line of a legal journal can be told once more, with its advices
pub answerable_in : (flights : List Flown) (grid : Ladders) (journal : List Entry) (wish : Request) (line : Entry)
    → IsGridOf flights grid → IsLegal grid journal → IsLineIn journal line
    → IsAnswerable flights (wish ∷ []) journal 0 line
answerable_in flights grid journal wish line g legal there =
    let all = lines_booked flights grid there.past (line ∷ there.rest) journal g there.is legal in
    record { asked = requested wish line.work; advised = all.0 }

-- what was put into an empty text is all of it
pub whole_told : (flights : List Flown) (desk : ℕ) (tellings : List Telling) (old text : List ℕ)
    → AreToldBehind flights desk tellings old text → old ≡ [] → AreTold flights desk tellings text
whole_told flights desk tellings old text behind none =
    let whole : text ≡ behind.part = behind.written ∙ ap (λ (l : List ℕ). l ++ behind.part) none in
    subst (AreTold flights desk tellings) (sym whole) behind.are_told
