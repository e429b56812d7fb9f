-- The table of what was added is that of the inputs, as far as they are known.
use Rattle.std.proofs.Common.{ℕ, List, Option}
use Rattle.airimp_lines.specs.declared.requests.Request.{Request}
use Rattle.ssim_flights.specs.declared.flight.Flight.{Flight as Flown}
use Rattle.seat_journal.specs.declared.entry.Entry.{Entry}
use Rattle.seat_seal.specs.declared.beside.Beside.{Beside}
use Rattle.seat_scripts.specs.Added.{AreAdded}
use Rattle.seat_scripts.specs.Against.{OfFour}
use Rattle.seat_scripts.specs.Taken.{WithTaken}
use Rattle.seat_scripts.specs.declared.by_session.Wanted.{Wanted}
use Rattle.seat_scripts.proofs.Beside.{if_four}
use Rattle.seat_tables.specs.Rows.{IsTable}
use Rattle.seat_tables.specs.declared.sheet.Form.{Form}
use Rattle.reply_tables.specs.ReplyRows.{reply_names, reply_rows}
use Rattle.reply_tables.specs.ReplyTable.{IsReplyTable}

pub tabled : (form : Form) (beside : Beside) (set limits after : Option (List ℕ)) (given : Option ℕ) (journal : Option (List ℕ))
    (first days today : ℕ) (texts : List (Option (List ℕ))) (wanted : Wanted) (text : List ℕ)
    (flights : List Flown) (scripts : List (List Request)) (past added : List Entry)
    → OfFour set limits after journal (λ xs ys older zs. WithTaken given beside zs (λ more. AreAdded xs ys first days older more zs today texts flights scripts past added))
    → IsTable form reply_names (reply_rows wanted flights past scripts added) text
    → OfFour set limits after journal (λ xs ys older zs. WithTaken given beside zs (λ more. IsReplyTable form xs ys first days older more zs today texts wanted text))
tabled form beside set limits after given journal first days today texts wanted text flights scripts past added are table =
    if_four (λ xs ys older zs. WithTaken given beside zs (λ more. AreAdded xs ys first days older more zs today texts flights scripts past added))
    (λ xs ys older zs. WithTaken given beside zs (λ more. IsReplyTable form xs ys first days older more zs today texts wanted text))
    set limits after journal
    (λ xs ys older zs w. record {
      more = w.more;
      are_taken = w.are_taken;
      here = record { flights = flights; scripts = scripts; past = past; added = added; are_added = w.here; is_table = table };
    })
    are
