-- What is told of a numbered row of the manager.
use Rattle.std.proofs.Common.{◌≡◌, inl, inr, ℕ, ◌==◌, Bool, true, false, arith, List, [], ap, ◌∙◌, subst}
use Rattle.std.specs.Prelude.{Option, Some, None, IsTrue}
use Rattle.std.proofs.lemmas.Bool.Decides.{nat_tests}
use Rattle.desk_answers.specs.FaultLines.{wrong_call_line}
use Rattle.desk_answers.proofs.Repeats.{whole_told}
use Rattle.desk_calls.specs.Calls.{call_line}
use Rattle.desk_lines.specs.declared.desk.Wrong.TheVariants as faults
use Rattle.desk_hall.specs.Telling.{IsRowRepeat, IsRowRepeatOf, IsRowRepeatTo, refused_call_to, row_call_line}
use Rattle.desk_hall.specs.declared.orders.RowFault.{RowFault}
use Rattle.desk_telling.specs.Telling.{AreToldBehind, told_of}
use Rattle.seat_journal.specs.Controls.{set_by}
use Rattle.seat_journal.specs.declared.entry.Change.{Change}
use Rattle.seat_journal.specs.declared.entry.Command.{Command}
use Rattle.seat_journal.specs.declared.entry.Control.{Control}
use Rattle.seat_journal.specs.declared.entry.Entry.{Entry}
use Rattle.seat_journal.specs.declared.entry.SaleChange.{SaleChange}
use Rattle.seat_journal.specs.declared.entry.Work.TheVariants.{Limit, Sale, Seats}
use Rattle.ssim_flights.specs.declared.flight.Flight.{Flight as Flown}

-- ---- the very row

pub limits_same : (a b : Change) (told : Bool) → (IsTrue told → a ≡ b) × (a ≡ b → IsTrue told)
    → (IsTrue told → Limit a ≡ Limit b) × (Limit a ≡ Limit b → IsTrue told)
limits_same a b told same = (λ (is : IsTrue told). ap Limit (same.0 is), λ (e : Limit a ≡ Limit b). same.1 (one e)) where
  one : Limit a ≡ Limit b → a ≡ b
  one e = cc

pub limit_no_seats : (a : Change) (c : Command) → Limit a ≡ Seats c → ⊥
limit_no_seats a c e = cc

pub limit_no_sale : (a : Change) (c : SaleChange) → Limit a ≡ Sale c → ⊥
limit_no_sale a c e = cc

pub sales_same : (a b : SaleChange) (told : Bool) → (IsTrue told → a ≡ b) × (a ≡ b → IsTrue told)
    → (IsTrue told → Sale a ≡ Sale b) × (Sale a ≡ Sale b → IsTrue told)
sales_same a b told same = (λ (is : IsTrue told). ap Sale (same.0 is), λ (e : Sale a ≡ Sale b). same.1 (one e)) where
  one : Sale a ≡ Sale b → a ≡ b
  one e = cc

pub sale_no_seats : (a : SaleChange) (c : Command) → Sale a ≡ Seats c → ⊥
sale_no_seats a c e = cc

pub sale_no_limit : (a : SaleChange) (c : Change) → Sale a ≡ Limit c → ⊥
sale_no_limit a c e = cc

pub row_very : (flights : List Flown) (journal : List Entry) (number : ℕ) (line : Entry) (control : Control) (old text : List ℕ)
    → set_by control ≡ line.work → AreToldBehind flights 0 (told_of journal 0 line) old text → old ≡ []
    → IsRowRepeatOf flights journal number line control text
row_very flights journal number line control old text very told none =
    inl (very, whole_told flights 0 (told_of journal 0 line) old text told none)

pub row_other : (flights : List Flown) (journal : List Entry) (number : ℕ) (line : Entry) (control : Control) (text : List ℕ)
    → (set_by control ≡ line.work → ⊥) → text ≡ wrong_call_line faults.Other 0 number
    → IsRowRepeatOf flights journal number line control text
row_other flights journal number line control text other is = inr (other, is)

-- ---- where it is there

pub row_there : (flights : List Flown) (journal : List Entry) (number : ℕ) (line : Entry) (control : Control) (text : List ℕ)
    → Some line ≡ call_line 0 number journal → IsRowRepeatOf flights journal number line control text
    → IsRowRepeat (call_line 0 number journal) flights journal number control text
row_there flights journal number line control text at is =
    subst (λ (o : Option Entry). IsRowRepeat o flights journal number control text) at is

pub row_beyond : (flights : List Flown) (journal : List Entry) (number : ℕ) (control : Control) (text : List ℕ)
    → None ≡ call_line 0 number journal → text ≡ wrong_call_line faults.Beyond 0 number
    → IsRowRepeat (call_line 0 number journal) flights journal number control text
row_beyond flights journal number control text at is =
    subst (λ (o : Option Entry). IsRowRepeat o flights journal number control text) at is

-- ---- to the manager

pub row_none : (flights : List Flown) (journal : List Entry) (session number : ℕ) (control : Control) (text : List ℕ)
    → (session ≡ 0 → ⊥) → text ≡ [] → IsRowRepeatTo (session == 0) flights journal number control text
row_none flights journal session number control text other none =
    let not : (session == 0) ≡ false = grind (arith, nat_tests) in
    rw not none

pub row_own : (flights : List Flown) (journal : List Entry) (session number : ℕ) (control : Control) (text : List ℕ)
    → session ≡ 0 → IsRowRepeat (call_line 0 number journal) flights journal number control text
    → IsRowRepeatTo (session == 0) flights journal number control text
row_own flights journal session number control text own is =
    let same : (session == 0) ≡ true = grind (arith, nat_tests) in
    rw same is

pub refused_call_none : (session : ℕ) (fault : RowFault) (call : ℕ) (text : List ℕ) → (session ≡ 0 → ⊥) → text ≡ []
    → text ≡ refused_call_to (session == 0) fault call
refused_call_none session fault call text other none =
    let not : (session == 0) ≡ false = grind (arith, nat_tests) in
    rw not none

pub refused_call_own : (session : ℕ) (fault : RowFault) (call : ℕ) (text : List ℕ) → session ≡ 0
    → text ≡ row_call_line fault session call → text ≡ refused_call_to (session == 0) fault call
refused_call_own session fault call text own is =
    let same : (session == 0) ≡ true = grind (arith, nat_tests) in
    rw same (is ∙ ap (λ (n : ℕ). row_call_line fault n call) own)
