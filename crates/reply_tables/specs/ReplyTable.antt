-- What a table of replies is, by the inputs that it is made of.
use Rattle.std.specs.Prelude.{ℕ, List, Option}
use Rattle.airimp_lines.specs.declared.requests.Request.{Request}
use Rattle.ssim_flights.specs.declared.flight.Flight.{Flight as Flown}
use Rattle.seat_journal.specs.declared.entry.Entry.{Entry}
use Rattle.seat_seal.specs.declared.beside.Beside.{Beside}
use Rattle.seat_desk.specs.Loading.{Bytes}
use Rattle.seat_desk.specs.declared.inputs.Inputs.{Inputs}
use Rattle.seat_scripts.specs.Added.{AreAdded}
use Rattle.seat_scripts.specs.Against.{OfFour}
use Rattle.seat_scripts.specs.Taken.{WithTaken}
use Rattle.seat_scripts.specs.declared.by_session.Wanted.{Wanted}
use Rattle.seat_tables.specs.Rows.{IsTable}
use Rattle.seat_tables.specs.declared.sheet.Form.{Form}
use Rattle.reply_tables.specs.ReplyRows.{reply_names, reply_rows}

-- the inputs are right, and the text is the table of the replies that are wanted to the lines that the scripts added
pub record IsReplyTable (form : Form) (set limits : List ℕ) (first days : ℕ) (after : List ℕ) (more : ℕ) (journal : List ℕ)
    (today : ℕ) (texts : List (Option (List ℕ))) (wanted : Wanted) (text : List ℕ) : Type 0 where
  pub flights : List Flown
  pub scripts : List (List Request)
  pub past : List Entry
  pub added : List Entry
  pub are_added : AreAdded set limits first days after more journal today texts flights scripts past added
  pub is_table : IsTable form reply_names (reply_rows wanted flights past scripts added) text

-- where the bytes of the set, of the limits and of both journals are known, behind the number of lines that is taken
abbrev pub IsReplyTableOf : {S L : Type 0} → Form → Beside → Bytes S → Bytes L → Inputs S L → Option (List ℕ) → Option ℕ
    → Option (List ℕ) → ℕ → List (Option (List ℕ)) → Wanted → List ℕ → Type 0
IsReplyTableOf form beside set limits inputs after given journal today texts wanted text =
    OfFour (set inputs.set) (limits inputs.limits) after journal (λ xs ys older zs. WithTaken given beside zs
    (λ more. IsReplyTable form xs ys inputs.first inputs.days older more zs today texts wanted text))
