-- Rows behind rows.
use Rattle.std.proofs.Common.{◌≡◌, ℕ, ◌+◌, ◌<◌, ◌≤◌, List, [], ◌∷◌, ◌++◌, length, take, refl, sym, ap, subst, ◌∙◌, append_assoc, get_or, arith, suc}
use Rattle.std.proofs.lemmas.List.{append-nil, length-take-le, take_all, take_more}
use Rattle.csv.specs.Writing.{row_text}
use Rattle.seat_tables.specs.Rows.{AreRowLines, IsPlainLine, IsTable, head_text, rows_from, writer_of}
use Rattle.seat_tables.specs.Sheets.{AreNamesPut, ArePut, IsBegun, IsJsonRowPut, IsPlainRowPut, IsReady, csv_text, text_by}
use Rattle.seat_tables.specs.declared.cell.Cell.{Cell}
use Rattle.seat_tables.specs.declared.sheet.Form.{Form}
use Rattle.seat_tables.specs.declared.sheet.Form.TheVariants.{Text, Csv, Json}
use Rattle.seat_tables.specs.declared.sheet.Sheet.{Sheet}

lines_both : (form : Form) (names : List (List ℕ)) (xs ys : List (List Cell)) (s t : List ℕ) → AreRowLines form names xs s
    → AreRowLines form names ys t → AreRowLines form names (xs ++ ys) (s ++ t)
lines_both form names [] ys s t none more = subst (λ (l : List ℕ). AreRowLines form names ys (l ++ t)) (sym none) more
lines_both form names (x ∷ xs) ys s t are more =
    (are.0, are.1 ++ t, are.2, ap (λ (l : List ℕ). l ++ t) are.3 ∙ append_assoc are.0 are.1 t, lines_both form names xs ys are.1 t are.4 more)

pub put_none : (names : List (List ℕ)) (sheet : Sheet) → IsReady sheet → ArePut names [] sheet sheet
put_none names sheet ready =
    record { form_is = refl; ready = ready; part = []; are_lines = refl; written = sym (append-nil (text_by sheet.form sheet)) }

pub put_both : (names : List (List ℕ)) (xs ys : List (List Cell)) (old mid new : Sheet) → ArePut names xs old mid
    → ArePut names ys mid new → ArePut names (xs ++ ys) old new
put_both names xs ys old mid new p q =
    let lines : AreRowLines old.form names ys q.part = subst (λ (f : Form). AreRowLines f names ys q.part) p.form_is q.are_lines in
    let written : text_by old.form new ≡ text_by old.form mid ++ q.part =
    subst (λ (f : Form). text_by f new ≡ text_by f mid ++ q.part) p.form_is q.written in
    record {
      form_is = q.form_is ∙ p.form_is;
      ready = q.ready;
      part = p.part ++ q.part;
      are_lines = lines_both old.form names xs ys p.part q.part p.are_lines lines;
      written = written ∙ ap (λ (l : List ℕ). l ++ q.part) p.written ∙ append_assoc (text_by old.form old) p.part q.part;
    }

-- ---- the rows of a list

rows_both : {A : Type 0} (rows : ℕ → A → List (List Cell)) (n : ℕ) (xs : List A) (x : A)
    → rows_from rows n (xs ++ x ∷ []) ≡ rows_from rows n xs ++ rows (n + length xs) x
rows_both {A} rows n [] x =
    let e : n + 0 ≡ n = omega arith in
    append-nil (rows n x) ∙ ap (λ (k : ℕ). rows k x) (sym e)
rows_both {A} rows n (y ∷ ys) x =
    let e : n + suc (length ys) ≡ n + 1 + length ys = omega arith in
    ap (λ (l : List (List Cell)). rows n y ++ l) (rows_both rows (n + 1) ys x)
    ∙ sym (append_assoc (rows n y) (rows_from rows (n + 1) ys) (rows (n + 1 + length ys) x))
    ∙ ap (λ (k : ℕ). (rows n y ++ rows_from rows (n + 1) ys) ++ rows k x) (sym e)

-- the rows of one item more
pub put_more : {A : Type 0} (names : List (List ℕ)) (rows : ℕ → A → List (List Cell)) (n i : ℕ) (xs : List A) (x : A)
    (old mid new : Sheet) → ArePut names (rows_from rows n (take i xs)) old mid → i < length xs → x ≡ get_or xs i x
    → ArePut names (rows (n + i) x) mid new → ArePut names (rows_from rows n (take (i + 1) xs)) old new
put_more {A} names rows n i xs x old mid new so_far in_range here one =
    let count : length (take i xs) ≡ i = length-take-le i xs (omega arith) in
    let longer : take (i + 1) xs ≡ take i xs ++ x ∷ [] = take_more xs i x in_range ∙ ap (λ (y : A). take i xs ++ y ∷ []) (sym here) in
    let same : rows_from rows n (take (i + 1) xs) ≡ rows_from rows n (take i xs) ++ rows (n + i) x =
    ap (rows_from rows n) longer ∙ rows_both rows n (take i xs) x
    ∙ ap (λ (k : ℕ). rows_from rows n (take i xs) ++ rows (n + k) x) count in
    subst (λ (l : List (List Cell)). ArePut names l old new) (sym same)
    (put_both names (rows_from rows n (take i xs)) (rows (n + i) x) old mid new so_far one)

-- and those of all
pub put_whole : {A : Type 0} (names : List (List ℕ)) (rows : ℕ → A → List (List Cell)) (n i : ℕ) (xs : List A) (old new : Sheet)
    → ArePut names (rows_from rows n (take i xs)) old new → length xs ≤ i → ArePut names (rows_from rows n xs) old new
put_whole {A} names rows n i xs old new so_far over =
    subst (λ (l : List A). ArePut names (rows_from rows n l) old new) (take_all i xs over) so_far

-- ---- the table

pub table_of : (form : Form) (names : List (List ℕ)) (rows : List (List Cell)) (begun whole : Sheet) (text : List ℕ)
    → IsBegun form names begun → ArePut names rows begun whole → text ≡ text_by whole.form whole → IsTable form names rows text
table_of form names rows begun whole text begins put is =
    let of_form : whole.form ≡ form = put.form_is ∙ begins.form_is in
    let lines : AreRowLines form names rows put.part = subst (λ (f : Form). AreRowLines f names rows put.part) begins.form_is put.are_lines in
    let written : text_by form whole ≡ text_by form begun ++ put.part =
    subst (λ (f : Form). text_by f whole ≡ text_by f begun ++ put.part) begins.form_is put.written in
    record {
      body = put.part;
      are_lines = lines;
      written = is ∙ ap (λ (f : Form). text_by f whole) of_form ∙ written ∙ ap (λ (l : List ℕ). l ++ put.part) begins.text;
    }

-- ---- one row

pub text_put : (names : List (List ℕ)) (row : List Cell) (old new : Sheet) → old.form ≡ Text → IsPlainRowPut row old new
    → ArePut names (row ∷ []) old new
text_put names row old new form put =
    let line : IsPlainLine (writer_of Text) row put.line = subst (λ (f : Form). IsPlainLine (writer_of f) row put.line) form put.is_line in
    record {
      form_is = put.form_is;
      ready = put.ready;
      part = put.line;
      are_lines = subst (λ (f : Form). AreRowLines f names (row ∷ []) put.line) (sym form) (put.line, [], line, sym (append-nil put.line), refl);
      written = subst (λ (f : Form). text_by f new ≡ text_by f old ++ put.line) (sym form) put.written;
    }

pub csv_put : (names : List (List ℕ)) (row : List Cell) (old new : Sheet) → old.form ≡ Csv → IsPlainRowPut row old new
    → ArePut names (row ∷ []) old new
csv_put names row old new form put =
    let line : IsPlainLine (writer_of Csv) row put.line = subst (λ (f : Form). IsPlainLine (writer_of f) row put.line) form put.is_line in
    record {
      form_is = put.form_is;
      ready = put.ready;
      part = put.line;
      are_lines = subst (λ (f : Form). AreRowLines f names (row ∷ []) put.line) (sym form) (put.line, [], line, sym (append-nil put.line), refl);
      written = subst (λ (f : Form). text_by f new ≡ text_by f old ++ put.line) (sym form) put.written;
    }

pub json_put : (names : List (List ℕ)) (row : List Cell) (old new : Sheet) → old.form ≡ Json → IsJsonRowPut names row old new
    → ArePut names (row ∷ []) old new
json_put names row old new form put = record {
  form_is = put.form_is;
  ready = put.ready;
  part = put.line;
  are_lines = subst (λ (f : Form). AreRowLines f names (row ∷ []) put.line) (sym form) (put.line, [], put.is_line, sym (append-nil put.line), refl);
  written = subst (λ (f : Form). text_by f new ≡ text_by f old ++ put.line) (sym form) put.written;
}

-- ---- the head

pub text_begun : (names : List (List ℕ)) (old new : Sheet) → old.form ≡ Text → text_by old.form old ≡ [] → AreNamesPut names old new
    → IsBegun old.form names new
text_begun names old new form empty put =
    let none : csv_text old ≡ [] = subst (λ (f : Form). text_by f old ≡ []) form empty in
    let written : csv_text new ≡ row_text (writer_of Text) names =
    put.written ∙ ap (λ (l : List ℕ). l ++ row_text (writer_of old.form) names) none ∙ ap (λ (f : Form). row_text (writer_of f) names) form in
    record {
      form_is = put.form_is;
      ready = put.ready;
      text = subst (λ (f : Form). text_by f new ≡ head_text f names) (sym form) written;
    }

pub csv_begun : (names : List (List ℕ)) (old new : Sheet) → old.form ≡ Csv → text_by old.form old ≡ [] → AreNamesPut names old new
    → IsBegun old.form names new
csv_begun names old new form empty put =
    let none : csv_text old ≡ [] = subst (λ (f : Form). text_by f old ≡ []) form empty in
    let written : csv_text new ≡ row_text (writer_of Csv) names =
    put.written ∙ ap (λ (l : List ℕ). l ++ row_text (writer_of old.form) names) none ∙ ap (λ (f : Form). row_text (writer_of f) names) form in
    record {
      form_is = put.form_is;
      ready = put.ready;
      text = subst (λ (f : Form). text_by f new ≡ head_text f names) (sym form) written;
    }
