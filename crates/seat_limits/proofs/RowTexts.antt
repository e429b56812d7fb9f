-- Texts of rows, one line after the other, however a line is read.
use Rattle.std.proofs.Common.{◌≡◌, ◌≢◌, ◌==◌, ℕ, suc, ◌+◌, ◌<◌, Bool, true, false, List, [], ◌∷◌, ◌++◌, length, Result, Ok, Err, refl, sym, ap, subst, ◌∙◌, arith, append_assoc, append-nil}
use Rattle.std.specs.Result.{IsOk}
use Rattle.std.specs.Str.Lines.{lines}
use Rattle.std.proofs.lemmas.Bool.Decides.{nat_tests}
use Rattle.std.proofs.lemmas.List.{length-append}
use Rattle.airline_base.specs.Lines.{line_at}
use Rattle.seat_limits.specs.RowTexts.{Reading, row_then, each_row, WantsRowRoom, TakesLine, IsStop}
use Rattle.seat_limits.specs.declared.limit_fault.LimitFault.{LimitFault}
use Rattle.seat_limits.specs.declared.limit_fault.LimitKind.{LimitKind}
use Rattle.seat_limits.specs.declared.limit_fault.LimitKind.TheVariants as kinds
use Rattle.airline_base.proofs.LineCuts.{lines_are, rest_shorter}

abbrev pub Rows : Type 0 → Type 0
Rows Row = Result (List Row) LimitFault

abbrev pub ok_rows : {Row : Type 0} → List Row → Rows Row
ok_rows rows = Ok rows

abbrev pub refused : {Row : Type 0} → ℕ → LimitKind → Rows Row
refused n kind = Err (record { line = n; kind = kind })

-- ---- lines in front, and lines behind

abbrev then_rows : {Row : Type 0} → Rows Row → Rows Row → Rows Row
then_rows (Err fault) more = Err fault
then_rows (Ok rows) (Err fault) = Err fault
then_rows (Ok rows) (Ok more) = Ok (rows ++ more)

nothing_first : {Row : Type 0} (r : Rows Row) → r ≡ then_rows (ok_rows []) r
nothing_first (Ok rows) = refl
nothing_first (Err fault) = refl

row_first : {Row : Type 0} (n : ℕ) (r : Result Row LimitKind) (a b : Rows Row)
    → row_then n r (then_rows a b) ≡ then_rows (row_then n r a) b
row_first n (Err kind) a b = refl
row_first n (Ok row) (Err fault) b = refl
row_first n (Ok row) (Ok rows) (Err fault) = refl
row_first n (Ok row) (Ok rows) (Ok more) = refl

rows_append : {Row : Type 0} (read : Reading Row) (front texts : List (List ℕ)) (n : ℕ)
    → each_row read n (front ++ texts) ≡ then_rows (each_row read n front) (each_row read (n + length front) texts)
rows_append read [] texts n = let zero_is : n ≡ n + 0 = omega arith in nothing_first (each_row read n texts) ∙ ap (λ (k : ℕ). then_rows (ok_rows []) (each_row read k texts)) zero_is
rows_append read ([] ∷ front) texts n =
    let one : n + 1 + length front ≡ n + suc (length front) = omega arith in
    rows_append read front texts (n + 1) ∙ ap (λ (k : ℕ). then_rows (each_row read (n + 1) front) (each_row read k texts)) one
rows_append read ((c ∷ text) ∷ front) texts n =
    let one : n + 1 + length front ≡ n + suc (length front) = omega arith in
    ap (row_then n (read n (c ∷ text))) (rows_append read front texts (n + 1) ∙ ap (λ (k : ℕ). then_rows (each_row read (n + 1) front) (each_row read k texts)) one)
    ∙ row_first n (read n (c ∷ text)) (each_row read (n + 1) front) (each_row read (n + suc (length front)) texts)

-- ---- how far a text is read

-- these rows are those of the first lines, so many; the rest is left
pub record IsAt {Row : Type 0} (reading : Reading Row) (bytes : List ℕ) (line : ℕ) (rest : List ℕ) (rows : List Row) : Type 0 where
  pub front : List (List ℕ)
  pub cut : lines bytes ≡ front ++ lines rest
  pub counted : length front ≡ line
  pub read : each_row reading 1 front ≡ ok_rows rows

pub at_start : {Row : Type 0} (read : Reading Row) (bytes : List ℕ) → IsAt read bytes 0 bytes []
at_start read bytes = record { front = []; cut = refl; counted = refl; read = refl }

line_rows : {Row : Type 0} (read : Reading Row) (n : ℕ) (text : List ℕ) (old new : List Row)
    → TakesLine (read n) text old new → then_rows (ok_rows old) (each_row read n (text ∷ [])) ≡ ok_rows new
line_rows read n [] old new h = ap ok_rows (append-nil old ∙ sym h)
line_rows {Row = Row} read n (c ∷ text) old new h = ap (λ (r : Result Row LimitKind). then_rows (ok_rows old) (row_then n r (ok_rows []))) h.row_is ∙ ap ok_rows (sym h.added)

split_of : (rest text after : List ℕ) → 0 < length rest → ◌≡◌ {A = List ℕ × List ℕ} (text, after) (line_at rest)
    → lines rest ≡ text ∷ lines after
split_of rest text after some cut = lines_are rest some ∙ ap (λ (p : List ℕ × List ℕ). p.0 ∷ lines p.1) (sym cut)

-- one line further
pub at_next : {Row : Type 0} (read : Reading Row) (bytes : List ℕ) (line : ℕ) (rest text after : List ℕ)
    (old new : List Row) → IsAt read bytes line rest old → 0 < length rest
    → ◌≡◌ {A = List ℕ × List ℕ} (text, after) (line_at rest)
    → TakesLine (read (line + 1)) text old new → IsAt read bytes (line + 1) after new
at_next {Row = Row} read bytes line rest text after old new at some cut takes =
    let number : line + 1 ≡ 1 + length at.front = omega (arith, at.counted) in
    let here : TakesLine (read (1 + length at.front)) text old new = subst (λ (n : ℕ). TakesLine (read n) text old new) number takes in
    record {
      front = at.front ++ text ∷ [];
      cut = at.cut ∙ ap (λ (x : List (List ℕ)). at.front ++ x) (split_of rest text after some cut) ∙ sym (append_assoc at.front (text ∷ []) (lines after));
      counted = length-append at.front (text ∷ []) ∙ omega (arith, at.counted);
      read = rows_append read at.front (text ∷ []) 1 ∙ ap (λ (r : Rows Row). then_rows r (each_row read (1 + length at.front) (text ∷ []))) at.read ∙ line_rows read (1 + length at.front) text old new here;
    }

pub cut_shorter : (rest text after : List ℕ) → ◌≡◌ {A = List ℕ × List ℕ} (text, after) (line_at rest) → 0 < length rest
    → length after < length rest
cut_shorter rest text after cut some = let shorter = rest_shorter rest some in omega (arith, shorter, ap (λ (p : List ℕ × List ℕ). length p.1) cut)

-- no line is left
pub whole : {Row : Type 0} (read : Reading Row) (bytes : List ℕ) (line : ℕ) (rest : List ℕ) (rows : List Row)
    → IsAt read bytes line rest rows → length rest ≡ 0 → each_row read 1 (lines bytes) ≡ ok_rows rows
whole read bytes line [] rows at none = ap (each_row read 1) (at.cut ∙ append-nil at.front) ∙ at.read
whole read bytes line (c ∷ rest) rows at none = absurd (omega arith)

pub rows_is : {Row : Type 0} (x y : List Row) → ok_rows x ≡ ok_rows y → x ≡ y
rows_is x y e = cc

-- ---- where it stops

stop_line : {Row : Type 0} (read : Reading Row) (n : ℕ) (c : ℕ) (text : List ℕ) (texts : List (List ℕ))
    (kind : LimitKind) (old : List Row) → read n (c ∷ text) ≡ Err kind
    → then_rows (ok_rows old) (each_row read n ((c ∷ text) ∷ texts)) ≡ refused n kind
stop_line {Row = Row} read n c text texts kind old h = ap (λ (r : Result Row LimitKind). then_rows (ok_rows old) (row_then n r (each_row read (n + 1) texts))) h

fault_at : {Row : Type 0} (read : Reading Row) (bytes : List ℕ) (line : ℕ) (rest : List ℕ) (c : ℕ) (text after : List ℕ)
    (old : List Row) (kind : LimitKind) → IsAt read bytes line rest old → lines rest ≡ (c ∷ text) ∷ lines after
    → read (line + 1) (c ∷ text) ≡ Err kind
    → each_row read 1 (lines bytes) ≡ refused (line + 1) kind
fault_at {Row = Row} read bytes line rest c text after old kind at split h =
    let number : 1 + length at.front ≡ line + 1 = omega (arith, at.counted) in
    ap (each_row read 1) (at.cut ∙ ap (λ (x : List (List ℕ)). at.front ++ x) split) ∙ rows_append read at.front ((c ∷ text) ∷ lines after) 1
    ∙ ap (λ (r : Rows Row). then_rows r (each_row read (1 + length at.front) ((c ∷ text) ∷ lines after))) at.read
    ∙ ap (λ (n : ℕ). then_rows (ok_rows old) (each_row read n ((c ∷ text) ∷ lines after))) number
    ∙ stop_line read (line + 1) c text (lines after) kind old h

-- a stop that is not want of memory is the line's first fault
stop_fault : {Row : Type 0} (read : List ℕ → Result Row LimitKind) (c : ℕ) (text : List ℕ) (kind : LimitKind)
    → IsStop read (c ∷ text) kind → kind ≢ kinds.Memory → read (c ∷ text) ≡ Err kind
stop_fault read c text kinds.Memory h other = absurd (other refl)
stop_fault read c text kind h other = h

pub at_fault : {Row : Type 0} (read : Reading Row) (bytes : List ℕ) (line : ℕ) (rest text after : List ℕ)
    (old : List Row) (kind : LimitKind) → IsAt read bytes line rest old → 0 < length rest
    → ◌≡◌ {A = List ℕ × List ℕ} (text, after) (line_at rest)
    → IsStop (read (line + 1)) text kind → kind ≢ kinds.Memory → each_row read 1 (lines bytes) ≡ refused (line + 1) kind
at_fault read bytes line rest [] after old kind at some cut h other = absurd h
at_fault read bytes line rest (c ∷ text) after old kind at some cut h other = fault_at read bytes line rest c text after old kind at (split_of rest (c ∷ text) after some cut) (stop_fault (read (line + 1)) c text kind h other)

unlike : {Row : Type 0} (x : List Row) (n : ℕ) (kind : LimitKind) → ok_rows x ≡ refused n kind → ⊥
unlike x n kind e = cc

stop_kind : {Row : Type 0} (read : Reading Row) (bytes : List ℕ) (line : ℕ) (rest : List ℕ) (c : ℕ)
    (text after : List ℕ) (old rows : List Row) (kind : LimitKind) → IsAt read bytes line rest old
    → lines rest ≡ (c ∷ text) ∷ lines after
    → IsStop (read (line + 1)) (c ∷ text) kind → each_row read 1 (lines bytes) ≡ ok_rows rows → kind ≡ kinds.Memory
stop_kind read bytes line rest c text after old rows kinds.Memory at split h is = refl
stop_kind read bytes line rest c text after old rows kind at split h is = absurd (unlike rows (line + 1) kind (sym is ∙ fault_at read bytes line rest c text after old kind at split h))

-- a text that has rows is stopped by want of memory alone
pub stop_only : {Row : Type 0} (read : Reading Row) (bytes : List ℕ) (line : ℕ) (rest text after : List ℕ)
    (old rows : List Row) (kind : LimitKind) → IsAt read bytes line rest old → 0 < length rest
    → ◌≡◌ {A = List ℕ × List ℕ} (text, after) (line_at rest)
    → IsStop (read (line + 1)) text kind → each_row read 1 (lines bytes) ≡ ok_rows rows → kind ≡ kinds.Memory
stop_only read bytes line rest [] after old rows kind at some cut h is = absurd h
stop_only read bytes line rest (c ∷ text) after old rows kind at some cut h is = stop_kind read bytes line rest c text after old rows kind at (split_of rest (c ∷ text) after some cut) h is

memory_stop : {Row : Type 0} (read : List ℕ → Result Row LimitKind) (c : ℕ) (text : List ℕ) (kind : LimitKind)
    → IsStop read (c ∷ text) kind → kind ≡ kinds.Memory → IsOk (read (c ∷ text))
memory_stop read c text kinds.Memory h e = h
memory_stop read c text kind h e = absurd cc

pub at_memory : {Row : Type 0} (read : Reading Row) (bytes : List ℕ) (line : ℕ) (rest text after : List ℕ)
    (old : List Row) (kind : LimitKind) → IsAt read bytes line rest old → 0 < length rest
    → ◌≡◌ {A = List ℕ × List ℕ} (text, after) (line_at rest)
    → IsStop (read (line + 1)) text kind → kind ≡ kinds.Memory → WantsRowRoom read bytes (line + 1)
at_memory read bytes line rest [] after old kind at some cut h is = absurd h
at_memory {Row = Row} read bytes line rest (c ∷ text) after old kind at some cut h is = record {
  front = at.front;
  here = c ∷ text;
  behind = lines after;
  cut = at.cut ∙ ap (λ (x : List (List ℕ)). at.front ++ x) (split_of rest (c ∷ text) after some cut);
  counted = ap (λ (n : ℕ). n + 1) at.counted;
  right = subst (λ (r : Rows Row). IsOk r) (sym at.read) refl;
  row = memory_stop (read (line + 1)) c text kind h is;
}

-- ---- one line

pub stop_of : {Row : Type 0} (read : List ℕ → Result Row LimitKind) (text : List ℕ) (kind : LimitKind)
    → (read text ≡ Err kinds.Memory → ⊥) → 0 < length text → read text ≡ Err kind → IsStop read text kind
stop_of read [] kind none some e = absurd (omega arith)
stop_of read (c ∷ text) kinds.Memory none some e = absurd (none e)
stop_of read (c ∷ text) kind none some e = e

pub not_done : (b : Bool) (rest : List ℕ) → b ≡ (length rest == 0) → b ≡ false → 0 < length rest
not_done b rest e h = let t : (length rest == 0) ≡ false = sym e ∙ h in grind (arith, nat_tests, t)

pub done_is : (b : Bool) (rest : List ℕ) → b ≡ (length rest == 0) → b ≡ true → length rest ≡ 0
done_is b rest e h = let t : (length rest == 0) ≡ true = sym e ∙ h in grind (arith, nat_tests, t)
