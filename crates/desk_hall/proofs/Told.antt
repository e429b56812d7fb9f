-- What is told of one line.
use Rattle.std.proofs.Common.{◌≡◌, inl, inr, ℕ, ◌+◌, ◌<◌, ◌≤◌, ◌==◌, true, false, arith, List, [], ◌++◌, length, take, get_or, refl, ap, sym, ◌∙◌, subst}
use Rattle.std.specs.Prelude.{Option, Some, None, slice_get}
use Rattle.airimp_lines.specs.declared.requests.Request.{Request}
use Rattle.desk_answers.specs.FaultLines.{full_line, wrong_call_line}
use Rattle.desk_answers.specs.Saying.{SaysQuiet}
use Rattle.desk_lines.specs.declared.desk.Desk.{Desk}
use Rattle.desk_lines.specs.declared.desk.Meaning.{Meaning}
use Rattle.std.proofs.lemmas.Bool.Decides.{nat_tests}
use Rattle.desk_answers.proofs.Repeats.{whole_told}
use Rattle.desk_calls.specs.Calls.{call_line}
use Rattle.desk_lines.specs.declared.desk.Wrong.TheVariants as faults
use Rattle.desk_hall.specs.Telling.{IsQuietTo, IsRepeat, IsRepeatOf, IsRepeatTo, IsStanding, IsTurn, full_to, refused_to, row_fault_line, told_at, told_if}
use Rattle.desk_hall.specs.declared.orders.RowFault.{RowFault}
use Rattle.desk_answers.specs.Ready.{IsReadyLine}
use Rattle.seat_rules.specs.Journal.{calls_of}
use Rattle.desk_hall.specs.declared.turn.Turn.{Turn}
use Rattle.seat_desk.specs.FlightsDesk.{IsPut, IsText}
use Rattle.seat_desk.proofs.Texts.{put_more, text_whole}
use Rattle.seat_nesting.specs.Nesting.{Ladders}
use Rattle.seat_replies.specs.RunDesk.{at_any}
use Rattle.desk_telling.specs.Telling.{AreTold, AreToldBehind, told_of}
use Rattle.ssim_flights.specs.declared.flight.Flight.{Flight as Flown}
use Rattle.seat_journal.specs.declared.entry.Entry.{Entry}
use Rattle.seat_replies.specs.VeryRequest.{IsVeryRequest}

pub line_told : (flights : List Flown) (journal : List Entry) (session place : ℕ) (line : Entry) (old text : List ℕ)
    → slice_get journal place ≡ Some line → AreToldBehind flights session (told_of journal session line) old text → old ≡ []
    → AreTold flights session (told_at journal session place) text
line_told flights journal session place line old text at told none =
    subst (λ (o : Option Entry). AreTold flights session (told_if journal session o) text) (sym at)
    (whole_told flights session (told_of journal session line) old text told none)

pub no_line_told : (flights : List Flown) (journal : List Entry) (session place : ℕ) (text : List ℕ)
    → slice_get journal place ≡ None → text ≡ [] → AreTold flights session (told_at journal session place) text
no_line_told flights journal session place text at none =
    subst (λ (o : Option Entry). AreTold flights session (told_if journal session o) text) (sym at) none

pub repeat_there : (flights : List Flown) (journal : List Entry) (asker number : ℕ) (line : Entry) (wish : Request) (text : List ℕ)
    → Some line ≡ call_line asker number journal → IsRepeatOf flights journal asker number line wish text
    → IsRepeat (call_line asker number journal) flights journal asker number wish text
repeat_there flights journal asker number line wish text at is =
    subst (λ (o : Option Entry). IsRepeat o flights journal asker number wish text) at is

pub repeat_beyond : (flights : List Flown) (journal : List Entry) (asker number : ℕ) (wish : Request) (text : List ℕ)
    → None ≡ call_line asker number journal → text ≡ wrong_call_line faults.Beyond asker number
    → IsRepeat (call_line asker number journal) flights journal asker number wish text
repeat_beyond flights journal asker number wish text at is =
    subst (λ (o : Option Entry). IsRepeat o flights journal asker number wish text) at is

pub repeat_very : (flights : List Flown) (journal : List Entry) (asker number : ℕ) (line : Entry) (wish : Request) (old text : List ℕ)
    → IsVeryRequest flights wish line.work → AreToldBehind flights asker (told_of journal asker line) old text → old ≡ []
    → IsRepeatOf flights journal asker number line wish text
repeat_very flights journal asker number line wish old text very told none =
    inl (very, whole_told flights asker (told_of journal asker line) old text told none)

pub repeat_other : (flights : List Flown) (journal : List Entry) (asker number : ℕ) (line : Entry) (wish : Request) (text : List ℕ)
    → (IsVeryRequest flights wish line.work → ⊥) → text ≡ wrong_call_line faults.Other asker number
    → IsRepeatOf flights journal asker number line wish text
repeat_other flights journal asker number line wish text other is = inr (other, is)

-- one line more is told
pub turn_more : (flights : List Flown) (grid : Ladders) (journal : List Entry) (session i : ℕ) (turns : List Turn) (turn : Turn)
    (mid part new : List ℕ) → IsPut (at_any (IsTurn flights grid journal session)) 0 (take i turns) [] mid → i < length turns
    → turn ≡ get_or turns i turn → IsTurn flights grid journal session turn part → new ≡ mid ++ part
    → IsPut (at_any (IsTurn flights grid journal session)) 0 (take (i + 1) turns) [] new
turn_more flights grid journal session i turns turn mid part new put below at is more =
    put_more (at_any (IsTurn flights grid journal session)) 0 i turns turn [] mid new part put below at is more

-- all are
pub turns_whole : (flights : List Flown) (grid : Ladders) (journal : List Entry) (session i : ℕ) (turns : List Turn) (new : List ℕ)
    → IsPut (at_any (IsTurn flights grid journal session)) 0 (take i turns) [] new → length turns ≤ i
    → IsText (at_any (IsTurn flights grid journal session)) 0 turns new
turns_whole flights grid journal session i turns new put over =
    text_whole (at_any (IsTurn flights grid journal session)) 0 i (length turns) turns new put refl over

-- ---- to whom

pub full_none : (session asker call : ℕ) (text : List ℕ) → (asker ≡ session → ⊥) → text ≡ []
    → text ≡ full_to (asker == session) asker call
full_none session asker call text other none =
    let not : (asker == session) ≡ false = grind (arith, nat_tests) in
    rw not none

pub full_own : (session asker call : ℕ) (text : List ℕ) → asker ≡ session → text ≡ full_line asker call
    → text ≡ full_to (asker == session) asker call
full_own session asker call text own is =
    let same : (asker == session) ≡ true = grind (arith, nat_tests) in
    rw same is

pub repeat_none : (flights : List Flown) (journal : List Entry) (session asker number : ℕ) (wish : Request) (text : List ℕ)
    → (asker ≡ session → ⊥) → text ≡ [] → IsRepeatTo (asker == session) flights journal asker number wish text
repeat_none flights journal session asker number wish text other none =
    let not : (asker == session) ≡ false = grind (arith, nat_tests) in
    rw not none

pub repeat_own : (flights : List Flown) (journal : List Entry) (session asker number : ℕ) (wish : Request) (text : List ℕ)
    → asker ≡ session → IsRepeat (call_line asker number journal) flights journal asker number wish text
    → IsRepeatTo (asker == session) flights journal asker number wish text
repeat_own flights journal session asker number wish text own is =
    let same : (asker == session) ≡ true = grind (arith, nat_tests) in
    rw same is

pub quiet_none : (flights : List Flown) (grid : Ladders) (journal : List Entry) (session asker : ℕ) (desk : Desk) (meaning : Meaning)
    (text : List ℕ) → (asker ≡ session → ⊥) → text ≡ []
    → IsQuietTo (asker == session) flights grid journal asker desk meaning text
quiet_none flights grid journal session asker desk meaning text other none =
    let not : (asker == session) ≡ false = grind (arith, nat_tests) in
    rw not none

pub quiet_own : (flights : List Flown) (grid : Ladders) (journal : List Entry) (session asker : ℕ) (desk : Desk) (meaning : Meaning)
    (text : List ℕ) → asker ≡ session → SaysQuiet flights grid asker desk.today desk.epoch desk.lines journal meaning text
    → IsQuietTo (asker == session) flights grid journal asker desk meaning text
quiet_own flights grid journal session asker desk meaning text own is =
    let same : (asker == session) ≡ true = grind (arith, nat_tests) in
    rw same is

-- ---- to the manager

pub refused_none : (session : ℕ) (fault : RowFault) (number : ℕ) (text : List ℕ) → (session ≡ 0 → ⊥) → text ≡ []
    → text ≡ refused_to (session == 0) fault number
refused_none session fault number text other none =
    let not : (session == 0) ≡ false = grind (arith, nat_tests) in
    rw not none

pub refused_own : (session : ℕ) (fault : RowFault) (number : ℕ) (text : List ℕ) → session ≡ 0
    → text ≡ row_fault_line fault session number → text ≡ refused_to (session == 0) fault number
refused_own session fault number text own is =
    let same : (session == 0) ≡ true = grind (arith, nat_tests) in
    rw same (is ∙ ap (λ (n : ℕ). row_fault_line fault n number) own)

pub standing_none : (journal : List Entry) (session day epoch : ℕ) (text : List ℕ) → (session ≡ 0 → ⊥) → text ≡ []
    → IsStanding (session == 0) journal day epoch text
standing_none journal session day epoch text other none =
    let not : (session == 0) ≡ false = grind (arith, nat_tests) in
    rw not none

pub standing_own : (journal : List Entry) (session day epoch : ℕ) (text : List ℕ) → session ≡ 0
    → IsReadyLine None 0 (length journal) (calls_of journal 0) day epoch text → IsStanding (session == 0) journal day epoch text
standing_own journal session day epoch text own is =
    let same : (session == 0) ≡ true = grind (arith, nat_tests) in
    rw same is
