-- Rows that are there, and rows that are wanted.
use Rattle.std.proofs.Common.{Bool, true, false, ◌≡◌, ◌∙◌, ℕ, List, [], ◌∷◌, ◌++◌, Option, Some, None, ap, drop, length, subst, sym, take}
use Rattle.std.proofs.lemmas.List.{take-append-drop}
use Rattle.airimp_lines.specs.declared.requests.Request.{Request}
use Rattle.ssim_flights.specs.declared.flight.Flight.{Flight as Flown}
use Rattle.seat_journal.specs.declared.entry.Entry.{Entry}
use Rattle.seat_rules.specs.Histories.{by_session}
use Rattle.seat_replies.specs.RunDesk.{requests_of}
use Rattle.seat_scripts.specs.declared.by_session.Wanted.{Wanted}
use Rattle.seat_tables.specs.Rows.{IsTable, rows_from}
use Rattle.seat_tables.specs.Sheets.{ArePut, IsReady}
use Rattle.seat_tables.specs.declared.cell.Cell.{Cell}
use Rattle.seat_tables.specs.declared.sheet.Form.{Form}
use Rattle.seat_tables.specs.declared.sheet.Sheet.{Sheet}
use Rattle.seat_tables.proofs.Putting.{put_none}
use Rattle.reply_tables.specs.ReplyRows.{reply_names, reply_rows, rows_if, rows_in, session_rows, wanted_rows}

pub none_put : (names : List (List ℕ)) (row : Option (List Cell)) (sheet : Sheet) → row ≡ None → IsReady sheet
    → ArePut names (rows_in row) sheet sheet
none_put names row sheet is ready =
    subst (λ (o : Option (List Cell)). ArePut names (rows_in o) sheet sheet) (sym is) (put_none names sheet ready)

pub found_put : (names given : List (List ℕ)) (row : Option (List Cell)) (cells : List Cell) (old new : Sheet) → given ≡ names
    → row ≡ Some cells → ArePut given (cells ∷ []) old new → ArePut names (rows_in row) old new
found_put names given row cells old new named is put =
    subst (λ (o : Option (List Cell)). ArePut names (rows_in o) old new) (sym is)
    (subst (λ (n : List (List ℕ)). ArePut n (cells ∷ []) old new) named put)

pub wanted_put : (names : List (List ℕ)) (rows : List (List Cell)) (wanted : Bool) (old new : Sheet) → wanted ≡ true
    → ArePut names rows old new → ArePut names (rows_if wanted rows) old new
wanted_put names rows wanted old new is put = subst (λ (b : Bool). ArePut names (rows_if b rows) old new) (sym is) put

pub unwanted_put : (names : List (List ℕ)) (rows : List (List Cell)) (wanted : Bool) (sheet : Sheet) → wanted ≡ false → IsReady sheet
    → ArePut names (rows_if wanted rows) sheet sheet
unwanted_put names rows wanted sheet is ready =
    subst (λ (b : Bool). ArePut names (rows_if b rows) sheet sheet) (sym is) (put_none names sheet ready)

-- beside what a session is asked
pub asked_by : (wanted : Wanted) (flights : List Flown) (scripts : List (List Request)) (journal lines : List Entry) (session : ℕ)
    (requests : List Request) (old new : Sheet) → requests ≡ requests_of scripts session
    → ArePut reply_names (rows_from (wanted_rows wanted flights requests journal) 0 lines) old new
    → ArePut reply_names (session_rows wanted flights scripts journal session lines) old new
asked_by wanted flights scripts journal lines session requests old new is put =
    subst (λ (r : List Request). ArePut reply_names (rows_from (wanted_rows wanted flights r journal) 0 lines) old new) is put

-- of a journal that is its past and what was added
pub of_past : (form : Form) (wanted : Wanted) (flights : List Flown) (scripts : List (List Request)) (past : ℕ)
    (journal slice added : List Entry) (text : List ℕ) → slice ≡ journal → added ≡ drop past slice
    → IsTable form reply_names (rows_from (session_rows wanted flights scripts slice) 0 (by_session (length scripts) added)) text
    → IsTable form reply_names (reply_rows wanted flights (take past journal) scripts (drop past journal)) text
of_past form wanted flights scripts past journal slice added text same behind table =
    subst (λ (l : List Entry). IsTable form reply_names (rows_from (session_rows wanted flights scripts l) 0 (by_session (length scripts) (drop past journal))) text)
    (sym (take-append-drop past journal))
    (subst (λ (l : List Entry). IsTable form reply_names (rows_from (session_rows wanted flights scripts l) 0 (by_session (length scripts) (drop past journal))) text) same
    (subst (λ (l : List Entry). IsTable form reply_names (rows_from (session_rows wanted flights scripts slice) 0 (by_session (length scripts) l)) text) (behind ∙ ap (drop past) same) table))
