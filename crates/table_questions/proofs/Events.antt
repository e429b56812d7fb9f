-- The rows of what a line asked, and of an advice.
use Rattle.std.proofs.Common.{Bool, ◌≡◌, List, [], ◌∷◌, sym, subst, Option, Some, None}
use Rattle.ssim_flights.specs.declared.flight.Flight.{Flight as Flown}
use Rattle.seat_journal.specs.declared.entry.Advice.{Advice}
use Rattle.seat_journal.specs.declared.entry.Command.{Command}
use Rattle.seat_journal.specs.declared.entry.Entry.{Entry}
use Rattle.desk_telling.specs.Telling.{line_numbered}
use Rattle.desk_questions.specs.History.{asked_in}
use Rattle.seat_tables.specs.Sheets.{ArePut, IsReady}
use Rattle.seat_tables.specs.declared.cell.Cell.{Cell}
use Rattle.seat_tables.specs.declared.sheet.Sheet.{Sheet}
use Rattle.seat_tables.proofs.Putting.{put_none}
use Rattle.table_questions.specs.HistoryRows.{advice_row, advice_rows, asked_row, asked_rows, confirmed_rows, history_names}

pub nothing_asked : (flights : List Flown) (e : Entry) (o : Option Command) (sheet : Sheet) → o ≡ None → IsReady sheet
    → ArePut history_names (asked_rows flights e o) sheet sheet
nothing_asked flights e o sheet none ready =
    subst (λ (x : Option Command). ArePut history_names (asked_rows flights e x) sheet sheet) (sym none) (put_none history_names sheet ready)

pub asked_put : (flights : List Flown) (e : Entry) (o : Option Command) (c : Command) (row : List Cell) (old new : Sheet) → o ≡ Some c
    → row ≡ asked_row flights e c → ArePut history_names (row ∷ []) old new → ArePut history_names (asked_rows flights e o) old new
asked_put flights e o c row old new some is put =
    subst (λ (x : Option Command). ArePut history_names (asked_rows flights e x) old new) (sym some)
    (subst (λ (cells : List Cell). ArePut history_names (cells ∷ []) old new) is put)

pub no_advice : (flights : List Flown) (journal : List Entry) (keeps : Command → Bool) (e : Entry) (a : Advice) (sheet : Sheet)
    → asked_in keeps (line_numbered journal a.number) ≡ None → IsReady sheet
    → ArePut history_names (advice_rows flights journal keeps e 0 a) sheet sheet
no_advice flights journal keeps e a sheet none ready =
    subst (λ (x : Option Command). ArePut history_names (confirmed_rows flights e a x) sheet sheet) (sym none) (put_none history_names sheet ready)

pub advice_put : (flights : List Flown) (journal : List Entry) (keeps : Command → Bool) (e : Entry) (a : Advice) (c : Command) (row : List Cell)
    (old new : Sheet) → asked_in keeps (line_numbered journal a.number) ≡ Some c → row ≡ advice_row flights e a c
    → ArePut history_names (row ∷ []) old new → ArePut history_names (advice_rows flights journal keeps e 0 a) old new
advice_put flights journal keeps e a c row old new made is put =
    subst (λ (x : Option Command). ArePut history_names (confirmed_rows flights e a x) old new) (sym made)
    (subst (λ (cells : List Cell). ArePut history_names (cells ∷ []) old new) is put)
