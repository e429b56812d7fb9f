-- What holds of two rows holds of the first one that is no empty text; what begins with a text goes on with it; what a row tells of a word.
use Rattle.std.proofs.Common.{◌≡◌, ◌≤◌, true≢false, get_or, map, length, arith, Result, Ok, Err, IfOk, ⊎_elim, inl, inr, ℕ, List, [], ◌∷◌, ◌++◌, IsTrue, sym, subst, ap, ◌∙◌, append_assoc, append-nil}
use Rattle.std.specs.Prelude.{◌⊎◌, ◌==◌, false, codes}
use Rattle.std.specs.Borrow.{Bor}
use Rattle.std.specs.Str.{str_eq_ignore_ascii_case}
use Rattle.std.specs.String.{string_bytes}
use Rattle.seatdesk.specs.Meanings.{IsMeaning, IsMeaningOf, IsPlainRow, IsRowFor, IsRowForOrNone, IsTold, IsToldOf, TellsMeaning}
use Rattle.seatdesk.specs.Rows.{Begins, IsNoteOrNone, IsRowOrNone, first_of, is_of, row_text}
use Rattle.seatdesk.specs.Words.{first_word, IsLead, IsPlace, IsPlainOf, IsRoomBehind, IsUnplaced}
use Rattle.seatdesk.specs.declared.meaning.Meaning.{Meaning}
use Rattle.seatdesk.specs.declared.told.Told.{Told}
use Rattle.seatdesk.specs.declared.told.Told.TheVariants.{Text, Left}

first_either : (code a b : List ℕ) → IsRowOrNone code a → IsRowOrNone code b → IsRowOrNone code (first_of a b)
first_either code [] b p q = q
first_either code (x ∷ xs) b p q = p

pub either : (code a b row : List ℕ) → row ≡ first_of a b → IsRowOrNone code a → IsRowOrNone code b → IsRowOrNone code row
either code a b row is p q = subst (λ (text : List ℕ). IsRowOrNone code text) (sym is) (first_either code a b p q)

pub no_row : (code row : List ℕ) → row ≡ [] → IsRowOrNone code row
no_row code row is = record { either = inl is }

pub some_row : (code row : List ℕ) → IsTrue (is_of code row) → IsRowOrNone code row
some_row code row of = record { either = inr of }

pub noted : (code row : List ℕ) → IsRowOrNone code row → IsNoteOrNone code row
noted code row is = record { either = inl is }

pub note : (code row : List ℕ) → IsRowOrNone (codes "note") row → IsNoteOrNone code row
note code row is = record { either = inr is }

pub itself : (text : List ℕ) → Begins text text
itself text = record { more = []; whole = sym (append-nil text) }

pub longer : (front more text : List ℕ) → text ≡ front ++ more → Begins front text
longer front more text whole = record { more = more; whole = whole }

pub further : (a b c : List ℕ) → Begins a b → Begins b c → Begins a c
further a b c one two = record {
  more = one.more ++ two.more;
  whole = two.whole ∙ ap (λ (front : List ℕ). front ++ two.more) one.whole ∙ append_assoc a one.more two.more;
}

-- what is begun with a row, and goes on three times
pub begun : (row new one two three all : List ℕ) → new ≡ [] → one ≡ new ++ row → Begins one two → Begins two three → Begins three all → Begins row all
begun row new one two three all empty put a b c = subst (λ (text : List ℕ). Begins text all) (put ∙ ap (λ (text : List ℕ). text ++ row) empty)
    (further one two all a (further two three all b c))

pub is_place : (word number : List ℕ) → word ≡ number ++ 58 ∷ [] → IsPlace word
is_place word number is = record { number = number; is = is }

pub is_lead : (word : List ℕ) (digit : ℕ) → word ≡ digit ∷ [] → IsLead word
is_lead word digit is = record { session = digit; is = is }

pub is_room : (word rest room : List ℕ) (class : ℕ) → word ≡ class ∷ rest → IsTrue (str_eq_ignore_ascii_case rest room) → room ≡ codes "0C"
    → IsRoomBehind word room
is_room word rest room class is same closed = record { class = class; rest = rest; is = is; same = same; closed = closed }

pub row_itself : (word row : List ℕ) → IsRowOrNone word row → IsRowForOrNone word row
row_itself word row is =
    ⊎_elim (λ (h : row ≡ []). record { either = inl h })
    (λ (h : IsTrue (is_of word row)). record { either = inr (record { either = inl h }) }) is.either

pub row_of_note : (word row : List ℕ) → IsRowOrNone (codes "note") row → IsRowForOrNone word row
row_of_note word row is =
    ⊎_elim (λ (h : row ≡ []). record { either = inl h })
    (λ (h : IsTrue (is_of (codes "note") row)). record { either = inr (record { either = inr (inl h) }) }) is.either

pub row_or_note : (word row : List ℕ) → IsNoteOrNone word row → IsRowForOrNone word row
row_or_note word row is =
    ⊎_elim (λ (h : IsRowOrNone word row). row_itself word row h)
    (λ (h : IsRowOrNone (codes "note") row). row_of_note word row h) is.either

-- of a word to a host, or of a reply's code
pub row_plainly : (word plain row : List ℕ) → IsPlainOf word plain → IsRowOrNone plain row → IsRowForOrNone word row
row_plainly word plain row is of =
    ⊎_elim (λ (h : row ≡ []). record { either = inl h })
    (λ (h : IsTrue (is_of plain row)). record { either = inr (record { either = inr (inr (record { plain = plain; is_plain = is; of = h })) }) }) of.either

told_itself : (word : List ℕ) (row : List ℕ) (text : List ℕ) → IsTrue (is_of word row) → Begins (row_text row) text → TellsMeaning word text
told_itself word row text of begins = record { either = inl (record { row = row; of = of; begins = begins }) }

told_note : (word : List ℕ) (row : List ℕ) (text : List ℕ) → IsTrue (is_of (codes "note") row) → Begins (row_text row) text
    → TellsMeaning word text
told_note word row text of begins = record { either = inr (inl (record { row = row; of = of; begins = begins })) }

told_plainly : (word : List ℕ) (row : List ℕ) (text : List ℕ) → IsPlainRow word row → Begins (row_text row) text → TellsMeaning word text
told_plainly word row text is begins = record {
  either = inr (inr (record { plain = is.plain; is_plain = is.is_plain; tells = record { row = row; of = is.of; begins = begins } }));
}

told_other : (word : List ℕ) (row : List ℕ) (text : List ℕ) → IsTrue (is_of (codes "note") row) ⊎ IsPlainRow word row
    → Begins (row_text row) text → TellsMeaning word text
told_other word row text either begins =
    ⊎_elim (λ (h : IsTrue (is_of (codes "note") row)). told_note word row text h begins)
    (λ (h : IsPlainRow word row). told_plainly word row text h begins) either

-- what begins with such a row tells of the word
told_row : (word : List ℕ) (row : List ℕ) (text : List ℕ) → IsRowFor word row → Begins (row_text row) text → TellsMeaning word text
told_row word row text is begins =
    ⊎_elim (λ (h : IsTrue (is_of word row)). told_itself word row text h begins)
    (λ (h : IsTrue (is_of (codes "note") row) ⊎ IsPlainRow word row). told_other word row text h begins) is.either

told_by : (word row : List ℕ) (told : Told) → IsRowFor word row → IsTold row told → IsToldOf word told
told_by word row (Text text) is begins = told_row word row (string_bytes text) is begins
told_by word row (Left words) is begins = tt

some_told_by : {E : Type 0} (word row : List ℕ) (r : Result Told E) → IsRowFor word row → IfOk r (λ told. IsTold row told)
    → IfOk r (λ told. IsToldOf word told)
some_told_by word row (Ok told) is begins = told_by word row told is begins
some_told_by word row (Err e) is begins = begins

-- what is told of a row that is that of the first word of a line
pub told_of_first : {E : Type 0} (line : List (Bor (List ℕ))) (d : Bor (List ℕ)) (row : List ℕ) (r : Result Told E) → 1 ≤ length line
    → false ≡ (length row == 0) → IsRowForOrNone (get_or line 0 d).now row → IfOk r (λ told. IsTold row told)
    → IfOk r (λ told. IsToldOf (first_word (map (λ word. word.now) line)) told)
told_of_first [] d row r some full is told = absurd (omega (arith, some))
told_of_first (word ∷ line) d row r some full is told =
    ⊎_elim (λ (h : row ≡ []). absurd (true≢false (sym (full ∙ ap (λ (text : List ℕ). length text == 0) h))))
    (λ (h : IsRowFor word.now row). some_told_by word.now row r h told) is.either

pub meaning_of_rest : (line rest : List (List ℕ)) (meaning : Meaning) → IsUnplaced line rest → IsMeaning (first_word rest) meaning
    → IsMeaningOf line meaning
meaning_of_rest line rest meaning unplaced is = record { rest = rest; is_unplaced = unplaced; is = is }
