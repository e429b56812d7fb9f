-- A row that is read is spelled so, and what is spelled so is read.
use Rattle.std.proofs.Common.{◌≡◌, ℕ, true, leb, List, ◌∷◌, ◌++◌, Option, Some, None, Result, Ok, Err, refl, ap, subst, ◌∙◌}
use Rattle.std.specs.Prelude.{IfOk, codes}
use Rattle.std.proofs.lemmas.Bool.{leb-true, le-leb}
use Rattle.airline_base.specs.Names.{is_airline, is_station}
use Rattle.airline_base.proofs.Reaches.{ok_is}
use Rattle.seat_nesting.specs.Nesting.{Steps, HasLetters, IsLadder}
use Rattle.airline_base.specs.Fields.{byte_at, word_at, fixed_at, numeral_at, suffix_text}
use Rattle.airline_base.proofs.Chains.{with_want, with_check, with_step, want_none, check_none, step_none}
use Rattle.airline_base.proofs.LeadingFields.{byte_takes, word_takes, word_again, fixed_takes, fixed_again, length_airline, length_station, numeral_takes, numeral_again}
use Rattle.seat_limits.specs.LadderText.{SpellsSteps, ladder_in, ladder_of, ladder_or, steps_in}
use Rattle.seat_nesting.specs.Ladders.{ladder_fault}
use Rattle.seat_limits.specs.RowFields.{suffix_at, date_at}
use Rattle.seat_limits.specs.LimitRows.{row_at, SpellsRow}
use Rattle.seat_limits.specs.declared.limit_row.LimitRow.{LimitRow}
use Rattle.seat_nesting.specs.declared.ladder.LadderFault.{LadderFault}
use Rattle.seat_limits.specs.declared.limit_fault.LimitKind.{LimitKind}
use Rattle.seat_limits.specs.declared.limit_fault.LimitKind.TheVariants as kinds
use Rattle.seat_limits.proofs.LadderLaws.{is_found, is_only, steps_take, letters_of}
use Rattle.seat_nesting.proofs.LadderFaults.{is_ladder_of}
use Rattle.seat_limits.proofs.RowFieldLaws.{suffix_takes, suffix_again, suffix_stops, date_takes_front, date_again_front}

-- ---- the ladder of a row

abbrev ok_steps : Steps → Result Steps LimitKind
ok_steps steps = Ok steps

found_is : (text : List ℕ) (r : Result Steps LimitKind) (steps : Steps) → r ≡ ok_steps steps → IfOk r (SpellsSteps text)
    → SpellsSteps text steps
found_is text (Ok found) steps e h = let same : found ≡ steps = cc in subst (SpellsSteps text) same h
found_is text (Err kind) steps e h = absurd cc

ladder_spelled : (text : List ℕ) (steps : Steps) → ladder_in text ≡ ok_steps steps → SpellsSteps text steps
ladder_spelled text steps e = found_is text (ladder_in text) steps e (is_found text)

-- ---- the whole row

joined : (line a n s f t b o e r1 r2 r3 r4 r5 r6 r7 r8 r9 r10 : List ℕ) → line ≡ 65 ∷ 85 ∷ 32 ∷ r1 → r1 ≡ a ++ r2
    → r2 ≡ n ++ r3 → r3 ≡ s ++ r4 → r4 ≡ 32 ∷ r5 → r5 ≡ f ++ r6 → r6 ≡ 32 ∷ r7 → r7 ≡ t ++ r8 → r8 ≡ 32 ∷ r9
    → r9 ≡ b ++ r10 → r10 ≡ o ++ 32 ∷ e
    → line ≡ 65 ∷ 85 ∷ 32 ∷ (a ++ (n ++ (s ++ 32 ∷ (f ++ 32 ∷ (t ++ 32 ∷ (b ++ (o ++ 32 ∷ e)))))))
joined line a n s f t b o e r1 r2 r3 r4 r5 r6 r7 r8 r9 r10 e0 e1 e2 e3 e4 e5 e6 e7 e8 e9 e10 = rw (e0, e1, e2, e3, e4, e5, e6, e7, e8, e9, e10) refl

assemble : (line head : List ℕ) (airline : List ℕ × List ℕ) (number : ℕ × List ℕ) (period : List ℕ) (from : ℕ × List ℕ)
    (second : List ℕ) (to : ℕ × List ℕ) (pair : List ℕ) (board off : List ℕ × List ℕ) (entries : List ℕ)
    (ladder : Steps)
    → word_at (codes "AU ") line ≡ Some head → fixed_at 2 is_airline head ≡ Some airline
    → numeral_at 4 airline.1 ≡ Some number → byte_at 32 (suffix_at number.1).1 ≡ Some period
    → date_at period ≡ Some from → byte_at 32 from.1 ≡ Some second
    → date_at second ≡ Some to → byte_at 32 to.1 ≡ Some pair → leb from.0 to.0 ≡ true
    → fixed_at 3 is_station pair ≡ Some board → fixed_at 3 is_station board.1 ≡ Some off
    → byte_at 32 off.1 ≡ Some entries → ladder_in entries ≡ ok_steps ladder → IsLadder ladder
    → SpellsRow line (record {
      airline = airline.0;
      number = number.0;
      suffix = (suffix_at number.1).0;
      from = from.0;
      to = to.0;
      board = board.0;
      off = off.0;
      ladder = ladder;
    })
assemble line head airline number period from second to pair board off entries ladder e0 e1 e2 e3 e4 e5 e6 e7 e8 e9 e10 e11 e12 is =
    let t0 = word_takes (codes "AU ") line head e0 in
    let t1 = fixed_takes 2 is_airline head airline.0 airline.1 e1 in
    let t2 = numeral_takes 4 airline.1 number.0 number.1 e2 in
    let t3 = suffix_takes number.1 in
    let t4 = byte_takes 32 (suffix_at number.1).1 period e3 in
    let t5 = date_takes_front period from.0 from.1 e4 in
    let t6 = byte_takes 32 from.1 second e5 in
    let t7 = date_takes_front second to.0 to.1 e6 in
    let t8 = byte_takes 32 to.1 pair e7 in
    let t9 = fixed_takes 3 is_station pair board.0 board.1 e9 in
    let t10 = fixed_takes 3 is_station board.1 off.0 off.1 e10 in
    let t11 = byte_takes 32 off.1 entries e11 in
    record {
      number = t2.0;
      from = t5.text;
      to = t7.text;
      entries = entries;
      written = joined line airline.0 t2.0 (suffix_text (suffix_at number.1).0) t5.text t7.text board.0 off.0 entries head airline.1 number.1 (suffix_at number.1).1 period from.1 second to.1 pair board.1 t0 t1.0 t2.1 t3.written t4 t5.written t6 t7.written t8 t9.0 (t10.0 ∙ ap (λ (x : List ℕ). off.0 ++ x) t11);
      is_airline = t1.1;
      is_number = t2.2;
      is_suffix = t3.letter;
      is_from = t5.is_day;
      is_to = t7.is_day;
      in_order = leb-true from.0 to.0 e8;
      is_board = t9.1;
      is_off = t10.1;
      spells_ladder = ladder_spelled entries ladder e12;
      is_ladder = is;
    }

-- ---- no fault of a row is want of memory

ladder_or_none : (steps : Steps) (o : Option LadderFault) → ladder_or steps o ≡ Err kinds.Memory → ⊥
ladder_or_none steps None e = cc
ladder_or_none steps (Some fault) e = cc

ladder_of_none : (o : Option Steps) → ladder_of o ≡ Err kinds.Memory → ⊥
ladder_of_none None e = cc
ladder_of_none (Some steps) e = ladder_or_none steps (ladder_fault steps) e

ladder_none : (text : List ℕ) → ladder_in text ≡ Err kinds.Memory → ⊥
unfolding ladder_in
ladder_none text e = ladder_of_none (steps_in text) e

pub row_none : (line : List ℕ) → row_at line ≡ Err kinds.Memory → ⊥
unfolding row_at
row_none line e =
    want_none kinds.Head (word_at (codes "AU ") line) _ e (λ k. absurd cc) (λ head e0.
    want_none kinds.Flight (fixed_at 2 is_airline head) _ e0 (λ k. absurd cc) (λ airline e1.
    want_none kinds.Flight (numeral_at 4 airline.1) _ e1 (λ k. absurd cc) (λ number e2.
    want_none kinds.Flight (byte_at 32 (suffix_at number.1).1) _ e2 (λ k. absurd cc) (λ period e3.
    want_none kinds.Period (date_at period) _ e3 (λ k. absurd cc) (λ from e4.
    want_none kinds.Period (byte_at 32 from.1) _ e4 (λ k. absurd cc) (λ second e5.
    want_none kinds.Period (date_at second) _ e5 (λ k. absurd cc) (λ to e6.
    want_none kinds.Period (byte_at 32 to.1) _ e6 (λ k. absurd cc) (λ pair e7.
    check_none kinds.Period (leb from.0 to.0) _ e7 (λ k. absurd cc) (λ e8.
    want_none kinds.Pair (fixed_at 3 is_station pair) _ e8 (λ k. absurd cc) (λ board e9.
    want_none kinds.Pair (fixed_at 3 is_station board.1) _ e9 (λ k. absurd cc) (λ off e10.
    want_none kinds.Entry (byte_at 32 off.1) _ e10 (λ k. absurd cc) (λ entries e11.
    step_none (ladder_in entries) _ e11 (ladder_none entries) (λ ladder k. absurd cc)))))))))))))

-- ---- the row that is read

ladder_or_is : (steps found : Steps) (o : Option LadderFault) → HasLetters steps → ladder_fault steps ≡ o
    → ladder_or steps o ≡ ok_steps found → IsLadder found
ladder_or_is steps found None letters is e = let same : steps ≡ found = cc in subst IsLadder same (is_ladder_of steps letters is)
ladder_or_is steps found (Some fault) letters is e = absurd cc

ladder_of_is : (o : Option Steps) (found : Steps) → ((steps : Steps) → o ≡ Some steps → HasLetters steps)
    → ladder_of o ≡ ok_steps found → IsLadder found
ladder_of_is None found letters e = absurd cc
ladder_of_is (Some steps) found letters e = ladder_or_is steps found (ladder_fault steps) (letters steps refl) refl e

ladder_is : (text : List ℕ) (found : Steps) → ladder_in text ≡ ok_steps found → IsLadder found
unfolding ladder_in
ladder_is text found e = ladder_of_is (steps_in text) found (λ steps is. letters_of steps (steps_take text steps is).each) e

-- each step was taken, so the line is spelled so
pub row_takes : (line : List ℕ) (row : LimitRow) → row_at line ≡ Ok row → SpellsRow line row
unfolding row_at
row_takes line row e =
    with_want kinds.Head _ _ row e (λ head e0 k0.
    with_want kinds.Flight _ _ row k0 (λ airline e1 k1.
    with_want kinds.Flight _ _ row k1 (λ number e2 k2.
    with_want kinds.Flight _ _ row k2 (λ period e3 k3.
    with_want kinds.Period _ _ row k3 (λ from e4 k4.
    with_want kinds.Period _ _ row k4 (λ second e5 k5.
    with_want kinds.Period _ _ row k5 (λ to e6 k6.
    with_want kinds.Period _ _ row k6 (λ pair e7 k7.
    with_check kinds.Period _ _ row k7 (λ e8 k8.
    with_want kinds.Pair _ _ row k8 (λ board e9 k9.
    with_want kinds.Pair _ _ row k9 (λ off e10 k10.
    with_want kinds.Entry _ _ row k10 (λ entries e11 k11.
    with_step (ladder_in entries) _ row k11 (λ ladder e12 k12.
    subst (SpellsRow line) (ok_is _ row k12) (assemble line head airline number period from second to pair board off entries ladder e0 e1 e2 e3 e4 e5 e6 e7 e8 e9 e10 e11 e12 (ladder_is entries ladder e12)))))))))))))))

pub row_again : (line : List ℕ) (row : LimitRow) → SpellsRow line row → row_at line ≡ Ok row
unfolding row_at
row_again line row s =
    let r11 = 32 ∷ s.entries in
    let r10 = row.off ++ r11 in
    let r9 = row.board ++ r10 in
    let r8 = 32 ∷ r9 in
    let r7 = s.to ++ r8 in
    let r6 = 32 ∷ r7 in
    let r5 = s.from ++ r6 in
    let r4 = 32 ∷ r5 in
    let r3 = suffix_text row.suffix ++ r4 in
    let r2 = s.number ++ r3 in
    let r1 = row.airline ++ r2 in
    let head : word_at (codes "AU ") line ≡ Some r1 = ap (word_at (codes "AU ")) s.written ∙ word_again (codes "AU ") r1 in
    let airline : fixed_at 2 is_airline r1 ≡ Some (row.airline, r2) = fixed_again 2 is_airline row.airline r2 (length_airline row.airline s.is_airline) s.is_airline in
    let number : numeral_at 4 r2 ≡ Some (row.number, r3) = numeral_again 4 s.number row.number r3 s.is_number (suffix_stops row.suffix r5 s.is_suffix) in
    let suffix = suffix_again row.suffix r5 s.is_suffix in
    let from : date_at r5 ≡ Some (row.from, r6) = date_again_front s.from row.from r6 s.is_from in
    let to : date_at r7 ≡ Some (row.to, r8) = date_again_front s.to row.to r8 s.is_to in
    let order : leb row.from row.to ≡ true = le-leb row.from row.to s.in_order in
    let board : fixed_at 3 is_station r9 ≡ Some (row.board, r10) = fixed_again 3 is_station row.board r10 (length_station row.board s.is_board) s.is_board in
    let off : fixed_at 3 is_station r10 ≡ Some (row.off, r11) = fixed_again 3 is_station row.off r11 (length_station row.off s.is_off) s.is_off in
    let ladder : ladder_in s.entries ≡ ok_steps row.ladder = is_only s.entries row.ladder s.spells_ladder s.is_ladder in
    rw (head, airline, number, suffix, from, to, order, board, off, ladder) refl
