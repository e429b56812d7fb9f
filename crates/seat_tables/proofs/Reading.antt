-- What is written as CSV is read back.
use Rattle.std.proofs.Common.{◌≡◌, ℕ, List, [], ◌∷◌, ◌++◌, map, refl, ap, ◌∙◌, Some}
use Rattle.csv.proofs.RoundTrip.{read-write}
use Rattle.csv.specs.Machine.{next_record}
use Rattle.csv.specs.Reading.{Reached, default_config}
use Rattle.csv.specs.Writing.{read_back}
use Rattle.csv.specs.declared.parser.State.TheVariants as st
use Rattle.seat_tables.specs.Rows.{AreAllTexts, AreRowLines, CsvReadsBack}
use Rattle.seat_tables.specs.declared.cell.Cell.{Cell}
use Rattle.seat_tables.specs.declared.sheet.Form.TheVariants.{Csv}

-- the texts of the values of each row, and the text of these records
record AreWritten (rows : List (List Cell)) (text : List ℕ) : Type 0 where
  texts : List (List (List ℕ))
  are_texts : AreAllTexts rows texts
  reached : Reached default_config st.StartRecord text (map read_back texts) st.StartRecord []

written : (names : List (List ℕ)) (rows : List (List Cell)) (text : List ℕ) → AreRowLines Csv names rows text
    → AreWritten rows text
unfolding Reached
written names [] text none =
    record { texts = []; are_texts = refl; reached = (refl, none) }
written names (row ∷ rows) text are =
    let line = are.2 in
    let more = written names rows are.1 are.4 in
    let next : next_record default_config st.StartRecord [] [] text ≡ Some (read_back line.texts, st.StartRecord, are.1) =
    ap (next_record default_config st.StartRecord [] []) (are.3 ∙ ap (λ (l : List ℕ). l ++ are.1) line.written) ∙ read-write line.texts are.1 in
    record {
      texts = line.texts ∷ more.texts;
      are_texts = (line.texts, more.texts, line.are_texts, refl, more.are_texts);
      reached = ((read_back line.texts, st.StartRecord, are.1), next, refl, more.reached);
    }

pub csv_reads_back : CsvReadsBack
unfolding Reached next_record
csv_reads_back names rows text table =
    let body = written names rows table.body table.are_lines in
    let next : next_record default_config st.StartRecord [] [] text ≡ Some (read_back names, st.StartRecord, table.body) =
    ap (next_record default_config st.StartRecord [] []) table.written ∙ read-write names table.body in
    record {
      texts = body.texts;
      are_texts = body.are_texts;
      are_records = (st.StartRecord, [], ((read_back names, st.StartRecord, table.body), next, refl, body.reached), refl);
    }
