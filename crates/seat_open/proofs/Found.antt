-- A file that is the text of a journal where it is ended: its lines stand in it, and no damage behind them.
use Rattle.std.proofs.Common.{◌≡◌, ℕ, zero, suc, ◌+◌, ◌-◌, ◌^◌, ◌<◌, ◌≤◌, Bool, true, false, ◌||◌, List, [], ◌∷◌, ◌++◌, length, take, drop, get_or, nat_eq, Option, Some, None, refl, sym, ap, ◌∙◌, arith, append-nil, length-append}
use Rattle.std.specs.List.{AllByRecursion}
use Rattle.std.proofs.lemmas.Bool.Decides.{nat_tests}
use Rattle.std.proofs.lemmas.List.{append_cancel_right, get_or-drop, length-drop, take-append-drop}
use Rattle.std.proofs.lemmas.List.Sums.{count_by-le-length}
use Rattle.airline_base.specs.Fields.{word_at}
use Rattle.airline_base.specs.Lines.{is_line_feed}
use Rattle.airline_base.proofs.Tests.{none_some, some_is}
use Rattle.seat_journal.specs.declared.entry.Entry.{Entry}
use Rattle.seat_journal.specs.Laws.{WrittenIsRead}
use Rattle.seat_journal.specs.Text.{end_text, head_text, journal_text, IsEntry}
use Rattle.seat_nesting.specs.Nesting.{Ladders}
use Rattle.seat_seal.specs.Fronts.{behind_last, ahead_len}
use Rattle.seat_recovery.specs.declared.rest.Rest.{Rest}
use Rattle.seat_recovery.specs.declared.rest.Rest.TheVariants.{NoHead, Whole, Closed, Torn}
use Rattle.seat_recovery.specs.OpenText.{open_text}
use Rattle.seat_recovery.specs.Recovering.{IsJournalOver}
use Rattle.seat_recovery.specs.Rests.{whole_lines, Stands}
use Rattle.seat_recovery.proofs.Ends.{lines_join}
use Rattle.seat_recovery.proofs.Keeping.{open_is}
use Rattle.seat_recovery.proofs.Longest.{stands_recovered}
use Rattle.seat_recovery.proofs.Steps.{is_torn_head}
use Rattle.seat_desk.specs.AuditDesk.{most_lines}
use Rattle.seat_open.specs.Ending.{ended_lines, ended_text, ends_a_line, is_ended, is_too_long, no_lines_text, whole_part, with_end}
use Rattle.seat_open.specs.Laws.{IsUndamaged, JournalIsFound}
use Rattle.seat_open.specs.OpenAudits.{is_damaged, most_open_bytes}
use Rattle.seat_open.proofs.Ended.{with_head, without_head}
use Rattle.seat_open.proofs.LastLines.{end_is_one, none_ends, open_is_lines}

module _ (written : WrittenIsRead) (grid : Ladders) (cap : ℕ) (file : List ℕ) (lines : List Entry)
    (journal : IsJournalOver grid cap lines) where
  undamaged : (len : ℕ) (rest : Rest) → Stands grid cap file lines len rest → is_damaged rest ≡ false
      → IsUndamaged grid cap file lines
  undamaged len rest stands not = record {
    recovered = stands_recovered written grid cap file lines len rest journal stands;
    len = len;
    rest = rest;
    stands = stands;
    undamaged = not;
  }

  -- ---- lines behind which nothing, a line that does not end, or the END line stands

  closed : file ≡ journal_text lines → IsUndamaged grid cap file lines
  closed text =
      undamaged (length (open_text lines)) Closed
      (record { behind = end_text (length lines); text = text ∙ open_is lines; as_long = refl; is = refl }) refl

  left_open : (behind : List ℕ) → file ≡ open_text lines ++ behind → whole_lines behind ≡ 0 → IsUndamaged grid cap file lines
  left_open [] text none =
      undamaged (length (open_text lines)) Whole (record { behind = []; text = text; as_long = refl; is = refl }) refl
  left_open (c ∷ more) text none =
      undamaged (length (open_text lines)) Torn
      (record { behind = c ∷ more; text = text; as_long = refl; is = record { some = omega arith; unended = none } }) refl

-- ---- what stands behind the whole lines of a file

-- no LF stands behind the last one
after_last : (bytes : List ℕ) (n i : ℕ) (b : Bool) → is_line_feed (get_or bytes n 0) ≡ b → behind_last bytes (suc n) ≤ i → i < suc n
    → (behind_last bytes n ≤ i → i < n → is_line_feed (get_or bytes i 0) ≡ false) → is_line_feed (get_or bytes i 0) ≡ false
after_last bytes n i true e from lt before =
    let here : behind_last bytes (suc n) ≡ suc n = rw e refl in
    absurd (omega (arith, from, lt, here))
after_last bytes n i false e from lt before = by (nat_eq i n) refl
  where
    by : (b : Bool) → nat_eq i n ≡ b → is_line_feed (get_or bytes i 0) ≡ false
    by true same = ap (λ (k : ℕ). is_line_feed (get_or bytes k 0)) (grind (arith, nat_tests, same)) ∙ e
    by false other =
        let ahead : behind_last bytes (suc n) ≡ behind_last bytes n = rw e refl in
        before (omega (arith, from, ahead)) (grind (arith, nat_tests, other, lt))

none_behind : (bytes : List ℕ) (n i : ℕ) → behind_last bytes n ≤ i → i < n → is_line_feed (get_or bytes i 0) ≡ false
none_behind bytes zero i from lt = absurd (omega (arith, lt))
none_behind bytes (suc n) i from lt =
    after_last bytes n i (is_line_feed (get_or bytes n 0)) refl from lt (λ ahead less. none_behind bytes n i ahead less)

-- whole lines, and what stands behind them
record IsSplit (file : List ℕ) : Type 0 where
  behind : List ℕ
  text : file ≡ whole_part file ++ behind
  none : whole_lines behind ≡ 0

split_torn : (file : List ℕ) → ends_a_line file ≡ false → IsSplit file
split_torn file ends =
    let at : ℕ = ahead_len file in
    let whole : whole_part file ≡ take at file = rw ends refl in
    let byte : (i : ℕ) → i < length (drop at file) → is_line_feed (get_or (drop at file) i 0) ≡ false =
    λ i lt. ap is_line_feed (get_or-drop at file i 0) ∙ later (at + i) (omega arith) (omega (arith, lt, length-drop at file)) in
    record {
      behind = drop at file;
      text = sym (take-append-drop at file) ∙ ap (λ (x : List ℕ). x ++ drop at file) (sym whole);
      none = none_ends (drop at file) byte;
    }
  where
    later : (k : ℕ) → ahead_len file ≤ k → k < length file → is_line_feed (get_or file k 0) ≡ false
    later k from lt = by (nat_eq k (length file - 1)) refl
      where
        by : (b : Bool) → nat_eq k (length file - 1) ≡ b → is_line_feed (get_or file k 0) ≡ false
        by true same = ap (λ (n : ℕ). is_line_feed (get_or file n 0)) (grind (arith, nat_tests, same)) ∙ ends
        by false other = none_behind file (length file - 1) k from (grind (arith, nat_tests, other, lt))

split_by : (file : List ℕ) (b : Bool) → ends_a_line file ≡ b → IsSplit file
split_by file true ends =
    let whole : whole_part file ≡ file = rw ends refl in
    record { behind = []; text = sym (append-nil file) ∙ ap (λ (x : List ℕ). x ++ []) (sym whole); none = refl }
split_by file false ends = split_torn file ends

split : (file : List ℕ) → IsSplit file
split file = split_by file (ends_a_line file) refl

-- ---- the text where it is ended

-- whole lines that are a journal with their END line are the open text of it
lines_are : (whole : List ℕ) (lines : List Entry) → AllByRecursion IsEntry lines → length lines < 2 ^ 63 → length whole < 2 ^ 63
    → with_end whole ≡ journal_text lines → whole ≡ open_text lines
lines_are whole lines each few short same =
    let both : whole ++ end_text (whole_lines whole - 1) ≡ open_text lines ++ end_text (length lines) = same ∙ open_is lines in
    let less : whole_lines whole ≤ length whole = count_by-le-length is_line_feed whole in
    let counted : whole_lines whole + whole_lines (end_text (whole_lines whole - 1)) ≡ whole_lines (open_text lines) + whole_lines (end_text (length lines)) =
    sym (lines_join whole (end_text (whole_lines whole - 1))) ∙ ap whole_lines both ∙ lines_join (open_text lines) (end_text (length lines)) in
    let one = end_is_one (whole_lines whole - 1) (omega (arith, less, short)) in
    let other = end_is_one (length lines) (omega (arith, few)) in
    let count : whole_lines whole - 1 ≡ length lines = omega (arith, counted, one, other, open_is_lines lines each) in
    append_cancel_right whole (open_text lines) (end_text (length lines)) (ap (λ (n : ℕ). whole ++ end_text n) (sym count) ∙ both)

none_of : (lines : List Entry) → AllByRecursion IsEntry lines → length lines < 2 ^ 64 → no_lines_text ≡ journal_text lines → lines ≡ []
none_of [] each few same = refl
none_of (e ∷ lines) each few same =
    let two : whole_lines no_lines_text ≡ 2 = refl in
    absurd (omega (arith, ap whole_lines (same ∙ open_is (e ∷ lines)), two, lines_join (open_text (e ∷ lines)) (end_text (length (e ∷ lines))), open_is_lines (e ∷ lines) each, end_is_one (length (e ∷ lines)) few))

module _ (written : WrittenIsRead) (grid : Ladders) (cap : ℕ) (file : List ℕ) (lines : List Entry)
    (most : cap ≤ most_lines) (short : length file ≤ most_open_bytes) (journal : IsJournalOver grid cap lines) where
  less : length lines < 2 ^ 63
  less = omega (arith, most, journal.few)

  of_lines : ended_lines file ≡ journal_text lines → IsUndamaged grid cap file lines
  of_lines ended = by (is_ended file || is_too_long file) refl
    where
      by : (b : Bool) → (is_ended file || is_too_long file) ≡ b → IsUndamaged grid cap file lines
      by true e = closed written grid cap file lines journal (sym (rw e refl) ∙ ended)
      by false e =
          let same : with_end (whole_part file) ≡ journal_text lines = sym (rw e refl) ∙ ended in
          let parts = split file in
          let long : length (whole_part file) ≤ length file = omega (arith, ap length parts.text, length-append (whole_part file) parts.behind) in
          let whole = lines_are (whole_part file) lines journal.each less (omega (arith, long, short)) same in
          left_open written grid cap file lines journal parts.behind (parts.text ∙ ap (λ (x : List ℕ). x ++ parts.behind) whole) parts.none

  torn_head : (w : List ℕ) → word_at head_text file ≡ None → word_at file head_text ≡ Some w
      → ended_text file ≡ Some (journal_text lines) → IsUndamaged grid cap file lines
  torn_head w none some ended =
      let same : no_lines_text ≡ journal_text lines = some_is no_lines_text (journal_text lines) (sym (without_head file w none some) ∙ ended) in
      let empty = none_of lines journal.each (omega (arith, less)) same in
      undamaged written grid cap file lines journal 0 NoHead (empty, refl, is_torn_head file w (sym some) (sym none)) refl

  by_head : (o p : Option (List ℕ)) → word_at head_text file ≡ o → word_at file head_text ≡ p
      → ended_text file ≡ Some (journal_text lines) → IsUndamaged grid cap file lines
  by_head (Some w) p some e ended =
      of_lines (some_is (ended_lines file) (journal_text lines) (sym (with_head file w some) ∙ ended))
  by_head None (Some w) none some ended = torn_head w none some ended
  by_head None None none also ended =
      let neither : ended_text file ≡ None = rw (none, also) refl in
      absurd (none_some (journal_text lines) (sym neither ∙ ended))

pub journal_is_found : WrittenIsRead → JournalIsFound
journal_is_found written grid cap file lines most short journal ended =
    by_head written grid cap file lines most short journal (word_at head_text file) (word_at file head_text) refl refl ended
