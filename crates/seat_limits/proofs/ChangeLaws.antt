-- A change row that is read is spelled so, and what is spelled so is read.
use Rattle.std.proofs.Common.{◌≡◌, ℕ, ◌≤◌, Bool, true, false, ◌==◌, cond, append-nil, append_assoc, length-append, List, [], ◌∷◌, ◌++◌, length, Option, Some, None, option_map, Result, Ok, Err, refl, sym, ap, subst, ◌∙◌, arith, IsTrue}
use Rattle.std.specs.Prelude.{codes, IfSome}
use Rattle.std.specs.Char.{is_ascii_uppercase}
use Rattle.std.proofs.lemmas.Bool.{eqb-true}
use Rattle.airline_base.specs.Names.{is_airline, is_station}
use Rattle.airline_base.proofs.Reaches.{ok_is}
use Rattle.airline_base.specs.Fields.{byte_at, word_at, fixed_at, numeral_at, suffix_text}
use Rattle.airline_base.proofs.Chains.{with_step, with_want, step_none, want_none}
use Rattle.airline_base.proofs.Tests.{some_is}
use Rattle.airline_base.proofs.LeadingFields.{byte_takes, word_takes, fixed_takes, fixed_again, length_airline, length_station, numeral_takes, numeral_again}
use Rattle.seat_limits.specs.LadderText.{IsEntry, entry_text, entry_in, entry_at}
use Rattle.seat_limits.specs.RowFields.{suffix_at, date_at}
use Rattle.seat_limits.specs.ChangeRows.{alone, behind_blank, between, change_at, class_in, class_text, limit_tail, sale_tail, sale_verb, step_with, tail_at, tail_text, verb_at, verb_from, verb_of, verb_text, AreCities, IsTail, SpellsChange, Tail}
use Rattle.seat_nesting.specs.declared.ladder.Step.{Step}
use Rattle.seat_limits.specs.declared.change_reading.Verb.{Verb}
use Rattle.seat_limits.specs.declared.change_reading.Verb.TheVariants as verbs
use Rattle.seat_limits.specs.declared.change_row.ChangeRow.{ChangeRow}
use Rattle.seat_limits.specs.declared.change_row.Cities.{Cities}
use Rattle.seat_limits.specs.declared.change_row.RowSetting.{RowSetting}
use Rattle.seat_limits.specs.declared.change_row.RowSetting.TheVariants.{SetLimit, SetSale}
use Rattle.seat_limits.specs.declared.limit_fault.LimitKind.{LimitKind}
use Rattle.seat_limits.specs.declared.limit_fault.LimitKind.TheVariants as kinds
use Rattle.seat_limits.proofs.LadderLaws.{EntryRead, entry_takes, entry_mark, entry_front}
use Rattle.seat_limits.proofs.LadderTexts.{mark_by}
use Rattle.seat_limits.proofs.RowFieldLaws.{suffix_takes, suffix_again, suffix_stops, date_takes_front, date_again_front}

-- ---- the entry

-- the step without its marks
abbrev bare : Step → Step
bare s = record s { listed = false; closed = false }

-- a step without the mark is taken
bare_takes : (b : Bool) (s t : Step) → cond b None (Some t) ≡ Some s → (b ≡ false) × (t ≡ s)
bare_takes true s t is = absurd cc
bare_takes false s t is = (refl, cc)

-- nothing is taken that a byte follows
nothing_after : (o : Option Step) (i : ℕ) (rest : List ℕ) (s : Step)
    → alone (option_map (λ (t : Step). (t, i ∷ rest)) o) ≡ Some s → ⊥
nothing_after None i rest s is = cc
nothing_after (Some t) i rest s is = cc

-- nothing is taken that has the mark
marked_alone : (k a b c stroke d e f : ℕ) (o : Option Step) (s : Step) → entry_in k a b c stroke d e f true ≡ o
    → alone (option_map (λ (t : Step). (t, [])) o) ≡ Some s → ⊥
marked_alone k a b c stroke d e f None s entry is = cc
marked_alone k a b c stroke d e f (Some t) s entry is =
    let unmarked : t.listed ≡ false = (bare_takes t.listed s t is).0 in
    let marked : true ≡ t.listed = entry_mark k a b c stroke d e f true t entry in
    cc

alone_takes : (bytes : List ℕ) (s : Step) → alone (entry_at bytes) ≡ Some s → EntryRead bytes (bare s)
alone_takes (a ∷ b ∷ c ∷ d ∷ e ∷ f ∷ g ∷ h ∷ []) s is = of (entry_in a b c d e f g h false) refl is
  where
    of : (o : Option Step) → entry_in a b c d e f g h false ≡ o → alone (option_map (λ (t : Step). (t, [])) o) ≡ Some s
        → EntryRead (a ∷ b ∷ c ∷ d ∷ e ∷ f ∷ g ∷ h ∷ []) (bare s)
    of None entry is = absurd cc
    of (Some t) entry is =
        let p = bare_takes t.listed s t is in
        let read = entry_takes a b c d e f g h false t entry in
        let same : t ≡ bare s =
        ap (λ (m : Bool). record t { listed = m }) p.0 ∙ ap (λ (m : Bool). record t { listed = false; closed = m }) read.entry.open_now ∙ ap bare p.1 in
        entry_takes a b c d e f g h false (bare s) (entry ∙ ap (λ (x : Step). Some x) same)
alone_takes (a ∷ b ∷ c ∷ d ∷ e ∷ f ∷ g ∷ h ∷ i ∷ []) s is = of (i == 78) is
  where
    of : (m : Bool)
        → alone (option_map (λ (t : Step). (t, (mark_by m i []).1)) (entry_in a b c d e f g h (mark_by m i []).0))
        ≡ Some s → EntryRead (a ∷ b ∷ c ∷ d ∷ e ∷ f ∷ g ∷ h ∷ i ∷ []) (bare s)
    of true is = absurd (marked_alone a b c d e f g h (entry_in a b c d e f g h true) s refl is)
    of false is = absurd (nothing_after (entry_in a b c d e f g h false) i [] s is)
alone_takes (a ∷ b ∷ c ∷ d ∷ e ∷ f ∷ g ∷ h ∷ i ∷ j ∷ rest) s is = of (i == 78) is
  where
    of : (m : Bool)
        → alone (option_map (λ (t : Step). (t, (mark_by m i (j ∷ rest)).1))
        (entry_in a b c d e f g h (mark_by m i (j ∷ rest)).0)) ≡ Some s
        → EntryRead (a ∷ b ∷ c ∷ d ∷ e ∷ f ∷ g ∷ h ∷ i ∷ j ∷ rest) (bare s)
    of true is = absurd (nothing_after (entry_in a b c d e f g h true) j rest s is)
    of false is = absurd (nothing_after (entry_in a b c d e f g h false) i (j ∷ rest) s is)
alone_takes _ s is = absurd cc

alone_again : (s : Step) → IsEntry s → s.listed ≡ false → alone (entry_at (entry_text s)) ≡ Some s
alone_again s is none =
    let one = ap entry_at (sym (append-nil (entry_text s))) ∙ entry_front s is [] refl in
    ap alone one ∙ ap (λ (b : Bool). cond b None (Some s)) none

-- ---- the word at the front

verb_cases : (text : List ℕ) (a b c : Option (List ℕ)) (q : Verb × List ℕ) → word_at (codes "AU ") text ≡ a
    → word_at (codes "CLOSE ") text ≡ b → word_at (codes "OPEN ") text ≡ c → verb_from a b c ≡ Some q
    → text ≡ verb_text q.0 ++ q.1
verb_cases text (Some rest) b c q ea eb ec e = rw (← some_is (verbs.Change, rest) q e) (word_takes (codes "AU ") text rest ea)
verb_cases text None (Some rest) c q ea eb ec e = rw (← some_is (verbs.Close, rest) q e) (word_takes (codes "CLOSE ") text rest eb)
verb_cases text None None (Some rest) q ea eb ec e = rw (← some_is (verbs.Open, rest) q e) (word_takes (codes "OPEN ") text rest ec)
verb_cases text None None None q ea eb ec e = absurd cc

verb_takes : (text : List ℕ) (q : Verb × List ℕ) → verb_at text ≡ Some q → text ≡ verb_text q.0 ++ q.1
unfolding verb_at
verb_takes text q e = verb_cases text (word_at (codes "AU ") text) (word_at (codes "CLOSE ") text) (word_at (codes "OPEN ") text) q refl refl refl e

verb_again : (v : Verb) (rest : List ℕ) → verb_at (verb_text v ++ rest) ≡ Some (v, rest)
unfolding verb_at
verb_again verbs.Change rest = refl
verb_again verbs.Close rest = refl
verb_again verbs.Open rest = refl

-- ---- what stands behind the day

record TailRead (v : Verb) (bytes : List ℕ) (t : Tail) : Type 0 where
  written : bytes ≡ tail_text t.0 t.1
  verb : verb_of t.1 ≡ v
  is_tail : IsTail t.1 t.0

limit_joined : (b o e r1 r2 r3 bytes : List ℕ) → bytes ≡ 32 ∷ r1 → r1 ≡ b ++ r2 → r2 ≡ o ++ r3 → r3 ≡ 32 ∷ e
    → bytes ≡ (32 ∷ (b ++ o)) ++ 32 ∷ e
limit_joined b o e r1 r2 r3 bytes e0 e1 e2 e3 = rw (e0, e1, e2, e3) (ap (λ (x : List ℕ). 32 ∷ x) (sym (append_assoc b o (32 ∷ e))))

limit_takes : (bytes : List ℕ) (t : Tail) → limit_tail bytes ≡ Ok t → TailRead verbs.Change bytes t
unfolding limit_tail
limit_takes bytes t e =
    with_want kinds.Period _ _ t e (λ pair e0 k0.
    with_want kinds.Pair _ _ t k0 (λ board e1 k1.
    with_want kinds.Pair _ _ t k1 (λ off e2 k2.
    with_want kinds.Entry _ _ t k2 (λ entry e3 k3.
    with_want kinds.Entry _ _ t k3 (λ step e4 k4.
    let t0 = byte_takes 32 bytes pair e0 in
    let t1 = fixed_takes 3 is_station pair board.0 board.1 e1 in
    let t2 = fixed_takes 3 is_station board.1 off.0 off.1 e2 in
    let t3 = byte_takes 32 off.1 entry e3 in
    let t4 = alone_takes entry step e4 in
    subst (TailRead verbs.Change bytes) (ok_is _ t k4) (record {
      written = limit_joined board.0 off.0 (entry_text (bare step)) pair board.1 off.1 bytes t0 t1.0 t2.0 (t3 ∙ ap (λ (x : List ℕ). 32 ∷ x) t4.written);
      verb = refl;
      is_tail = (record { board = t1.1; off = t2.1 }, t4.entry);
    }))))))

limit_again : (pair : Cities) (class limit wait : ℕ) → AreCities pair → IsEntry (step_with class limit wait)
    → limit_tail (tail_text (Some pair) (SetLimit class limit wait)) ≡ Ok (Some pair, SetLimit class limit wait)
unfolding limit_tail
limit_again pair class limit wait is entry =
    let step = step_with class limit wait in
    let r2 = 32 ∷ entry_text step in
    let r1 = pair.off ++ r2 in
    let apart : tail_text (Some pair) (SetLimit class limit wait) ≡ 32 ∷ (pair.board ++ r1) = ap (λ (x : List ℕ). 32 ∷ x) (append_assoc pair.board pair.off r2) in
    let board : fixed_at 3 is_station (pair.board ++ r1) ≡ Some (pair.board, r1) = fixed_again 3 is_station pair.board r1 (length_station pair.board is.board) is.board in
    let off : fixed_at 3 is_station r1 ≡ Some (pair.off, r2) = fixed_again 3 is_station pair.off r2 (length_station pair.off is.off) is.off in
    let one : alone (entry_at (entry_text step)) ≡ Some step = alone_again step entry refl in
    let read : limit_tail (32 ∷ (pair.board ++ r1)) ≡ Ok (Some pair, SetLimit class limit wait) = rw (board, off, one) refl in
    ap limit_tail apart ∙ read

-- a class or none
record ClassRead (bytes : List ℕ) (o : Option ℕ) : Type 0 where
  written : bytes ≡ class_text o
  letter : IfSome o (λ k. IsTrue (is_ascii_uppercase k))

class_takes : (bytes : List ℕ) (o : Option ℕ) → class_in bytes ≡ Some o → ClassRead bytes o
class_takes [] o e = subst (ClassRead []) (some_is None o e) (record { written = refl; letter = tt })
class_takes (c ∷ []) o e = absurd cc
class_takes (c ∷ k ∷ []) o e = of (c == 32) (is_ascii_uppercase k) refl refl e
  where
    of : (a b : Bool) → (c == 32) ≡ a → is_ascii_uppercase k ≡ b
        → cond {A = Option (Option ℕ)} a (cond {A = Option (Option ℕ)} b (Some (Some k)) None) None ≡ Some o
        → ClassRead (c ∷ k ∷ []) o
    of true true ea eb e =
        subst (ClassRead (c ∷ k ∷ [])) (some_is (Some k) o e) (record { written = ap (λ (x : ℕ). x ∷ k ∷ []) (eqb-true c 32 ea); letter = eb })
    of true false ea eb e = absurd cc
    of false b ea eb e = absurd cc
class_takes (c ∷ k ∷ d ∷ rest) o e = absurd cc

class_again : (o : Option ℕ) → IfSome o (λ k. IsTrue (is_ascii_uppercase k)) → class_in (class_text o) ≡ Some o
class_again None is = refl
class_again (Some k) is = rw is refl

between_takes : (closed : Bool) (bytes : List ℕ) (t : Tail) → between closed bytes ≡ Ok t
    → TailRead (sale_verb closed) (32 ∷ bytes) t
unfolding between
between_takes closed bytes t e =
    with_want kinds.Pair _ _ t e (λ board e0 k0.
    with_want kinds.Pair _ _ t k0 (λ off e1 k1.
    with_want kinds.Entry _ _ t k1 (λ class e2 k2.
    let t0 = fixed_takes 3 is_station bytes board.0 board.1 e0 in
    let t1 = fixed_takes 3 is_station board.1 off.0 off.1 e1 in
    let t2 = class_takes off.1 class e2 in
    subst (TailRead (sale_verb closed) (32 ∷ bytes)) (ok_is _ t k2) (record {
      written = ap (λ (x : List ℕ). 32 ∷ x)
          (t0.0 ∙ ap (λ (x : List ℕ). board.0 ++ x) (t1.0 ∙ ap (λ (x : List ℕ). off.0 ++ x) t2.written)
          ∙ sym (append_assoc board.0 off.0 (class_text class)));
      verb = refl;
      is_tail = (record { board = t0.1; off = t1.1 }, t2.letter);
    }))))

blank_takes : (closed : Bool) (bytes : List ℕ) (t : Tail) → behind_blank closed bytes ≡ Ok t
    → TailRead (sale_verb closed) (32 ∷ bytes) t
blank_takes closed [] t e = absurd cc
blank_takes closed (k ∷ []) t e = of (is_ascii_uppercase k) refl e
  where
    of : (b : Bool) → is_ascii_uppercase k ≡ b
        → cond {A = Result Tail LimitKind} b (Ok (None, SetSale (Some k) closed)) (Err kinds.Pair) ≡ Ok t
        → TailRead (sale_verb closed) (32 ∷ k ∷ []) t
    of true ek e =
        subst (TailRead (sale_verb closed) (32 ∷ k ∷ [])) (ok_is _ t e) (record { written = refl; verb = refl; is_tail = (tt, ek) })
    of false ek e = absurd cc
blank_takes closed (a ∷ b ∷ rest) t e = between_takes closed (a ∷ b ∷ rest) t e

sale_takes : (closed : Bool) (bytes : List ℕ) (t : Tail) → sale_tail closed bytes ≡ Ok t
    → TailRead (sale_verb closed) bytes t
unfolding sale_tail
sale_takes closed [] t e =
    subst (TailRead (sale_verb closed) []) (ok_is _ t e) (record { written = refl; verb = refl; is_tail = (tt, tt) })
sale_takes closed (c ∷ rest) t e = of (c == 32) refl e
  where
    of : (b : Bool) → (c == 32) ≡ b
        → cond {A = Result Tail LimitKind} b (behind_blank closed rest) (Err kinds.Period) ≡ Ok t
        → TailRead (sale_verb closed) (c ∷ rest) t
    of true ec e =
        let P : ℕ → Type 0 = λ x. TailRead (sale_verb closed) (x ∷ rest) t in
        subst P (sym (eqb-true c 32 ec)) (blank_takes closed rest t e)
    of false ec e = absurd cc

-- two letters or more are no class alone
blank_long : (closed : Bool) (bytes : List ℕ) → 2 ≤ length bytes → behind_blank closed bytes ≡ between closed bytes
blank_long closed [] le = absurd (omega arith)
blank_long closed (k ∷ []) le = absurd (omega arith)
blank_long closed (a ∷ b ∷ rest) le = refl

between_again : (closed : Bool) (pair : Cities) (class : Option ℕ) → AreCities pair
    → IfSome class (λ k. IsTrue (is_ascii_uppercase k))
    → between closed (pair.board ++ (pair.off ++ class_text class)) ≡ Ok (Some pair, SetSale class closed)
unfolding between
between_again closed pair class is letter =
    let r2 = class_text class in
    let r1 = pair.off ++ r2 in
    let board : fixed_at 3 is_station (pair.board ++ r1) ≡ Some (pair.board, r1) = fixed_again 3 is_station pair.board r1 (length_station pair.board is.board) is.board in
    let off : fixed_at 3 is_station r1 ≡ Some (pair.off, r2) = fixed_again 3 is_station pair.off r2 (length_station pair.off is.off) is.off in
    rw (board, off, class_again class letter) refl

sale_again : (closed : Bool) (class : Option ℕ) (cities : Option Cities) → IfSome cities AreCities
    → IfSome class (λ k. IsTrue (is_ascii_uppercase k))
    → sale_tail closed (tail_text cities (SetSale class closed)) ≡ Ok (cities, SetSale class closed)
unfolding sale_tail
sale_again closed None None is letter = refl
sale_again closed (Some k) None is letter = rw letter refl
sale_again closed class (Some pair) is letter =
    let rest = pair.off ++ class_text class in
    let apart : (pair.board ++ pair.off) ++ class_text class ≡ pair.board ++ rest = append_assoc pair.board pair.off (class_text class) in
    let long : 2 ≤ length (pair.board ++ rest) = omega (arith, length-append pair.board rest, length_station pair.board is.board) in
    ap (behind_blank closed) apart ∙ blank_long closed (pair.board ++ rest) long ∙ between_again closed pair class is letter

tail_takes : (v : Verb) (bytes : List ℕ) (t : Tail) → tail_at v bytes ≡ Ok t → TailRead v bytes t
tail_takes verbs.Change bytes t e = limit_takes bytes t e
tail_takes verbs.Close bytes t e = sale_takes true bytes t e
tail_takes verbs.Open bytes t e = sale_takes false bytes t e

tail_again : (setting : RowSetting) (cities : Option Cities) → IsTail setting cities
    → tail_at (verb_of setting) (tail_text cities setting) ≡ Ok (cities, setting)
tail_again (SetLimit class limit wait) None is = absurd is
tail_again (SetLimit class limit wait) (Some pair) is = limit_again pair class limit wait is.0 is.1
tail_again (SetSale class true) cities is = sale_again true class cities is.0 is.1
tail_again (SetSale class false) cities is = sale_again false class cities is.0 is.1

-- no fault there is want of memory
between_none : (closed : Bool) (bytes : List ℕ) → between closed bytes ≡ Err kinds.Memory → ⊥
unfolding between
between_none closed bytes e =
    want_none kinds.Pair (fixed_at 3 is_station bytes) _ e (λ k. absurd cc) (λ board e0.
    want_none kinds.Pair (fixed_at 3 is_station board.1) _ e0 (λ k. absurd cc) (λ off e1.
    want_none kinds.Entry (class_in off.1) _ e1 (λ k. absurd cc) (λ class k. absurd cc)))

blank_none : (closed : Bool) (bytes : List ℕ) → behind_blank closed bytes ≡ Err kinds.Memory → ⊥
blank_none closed [] e = absurd cc
blank_none closed (k ∷ []) e = of (is_ascii_uppercase k) e
  where
    of : (b : Bool)
        → cond {A = Result Tail LimitKind} b (Ok (None, SetSale (Some k) closed)) (Err kinds.Pair) ≡ Err kinds.Memory → ⊥
    of true e = absurd cc
    of false e = absurd cc
blank_none closed (a ∷ b ∷ rest) e = between_none closed (a ∷ b ∷ rest) e

sale_none : (closed : Bool) (bytes : List ℕ) → sale_tail closed bytes ≡ Err kinds.Memory → ⊥
unfolding sale_tail
sale_none closed [] e = absurd cc
sale_none closed (c ∷ rest) e = of (c == 32) e
  where
    of : (b : Bool) → cond {A = Result Tail LimitKind} b (behind_blank closed rest) (Err kinds.Period) ≡ Err kinds.Memory → ⊥
    of true e = blank_none closed rest e
    of false e = absurd cc

limit_none : (bytes : List ℕ) → limit_tail bytes ≡ Err kinds.Memory → ⊥
unfolding limit_tail
limit_none bytes e =
    want_none kinds.Period (byte_at 32 bytes) _ e (λ k. absurd cc) (λ pair e0.
    want_none kinds.Pair (fixed_at 3 is_station pair) _ e0 (λ k. absurd cc) (λ board e1.
    want_none kinds.Pair (fixed_at 3 is_station board.1) _ e1 (λ k. absurd cc) (λ off e2.
    want_none kinds.Entry (byte_at 32 off.1) _ e2 (λ k. absurd cc) (λ entry e3.
    want_none kinds.Entry (alone (entry_at entry)) _ e3 (λ k. absurd cc) (λ step k. absurd cc)))))

tail_none : (v : Verb) (bytes : List ℕ) → tail_at v bytes ≡ Err kinds.Memory → ⊥
tail_none verbs.Change bytes e = limit_none bytes e
tail_none verbs.Close bytes e = sale_none true bytes e
tail_none verbs.Open bytes e = sale_none false bytes e

-- ---- the whole row

joined : (line v a n s d t r1 r2 r3 r4 r5 r6 : List ℕ) → line ≡ v ++ r1 → r1 ≡ a ++ r2 → r2 ≡ n ++ r3
    → r3 ≡ s ++ r4 → r4 ≡ 32 ∷ r5 → r5 ≡ d ++ r6 → r6 ≡ t
    → line ≡ v ++ (a ++ (n ++ (s ++ 32 ∷ (d ++ t))))
joined line v a n s d t r1 r2 r3 r4 r5 r6 e0 e1 e2 e3 e4 e5 e6 = rw (e0, e1, e2, e3, e4, e5, e6) refl

assemble : (line : ℕ) (text : List ℕ) (verb : Verb × List ℕ) (airline : List ℕ × List ℕ) (number : ℕ × List ℕ)
    (period : List ℕ) (day : ℕ × List ℕ) (tail : Tail)
    → verb_at text ≡ Some verb → fixed_at 2 is_airline verb.1 ≡ Some airline
    → numeral_at 4 airline.1 ≡ Some number → byte_at 32 (suffix_at number.1).1 ≡ Some period → date_at period ≡ Some day
    → tail_at verb.0 day.1 ≡ Ok tail
    → SpellsChange line text (record {
      line = line;
      airline = airline.0;
      number = number.0;
      suffix = (suffix_at number.1).0;
      day = day.0;
      cities = tail.0;
      setting = tail.1;
    })
assemble line text verb airline number period day tail e0 e1 e2 e3 e4 e5 =
    let t0 = verb_takes text verb e0 in
    let t1 = fixed_takes 2 is_airline verb.1 airline.0 airline.1 e1 in
    let t2 = numeral_takes 4 airline.1 number.0 number.1 e2 in
    let t3 = suffix_takes number.1 in
    let t4 = byte_takes 32 (suffix_at number.1).1 period e3 in
    let t5 = date_takes_front period day.0 day.1 e4 in
    let t6 = tail_takes verb.0 day.1 tail e5 in
    record {
      line_is = refl;
      number = t2.0;
      day = t5.text;
      written = joined text (verb_text (verb_of tail.1)) airline.0 t2.0 (suffix_text (suffix_at number.1).0) t5.text (tail_text tail.0 tail.1) verb.1 airline.1 number.1 (suffix_at number.1).1 period day.1
          (t0 ∙ ap (λ (v : Verb). verb_text v ++ verb.1) (sym t6.verb)) t1.0 t2.1 t3.written t4 t5.written t6.written;
      is_airline = t1.1;
      is_number = t2.2;
      is_suffix = t3.letter;
      is_day = t5.is_day;
      is_tail = t6.is_tail;
    }

-- no fault of a row is want of memory
pub change_none : (line : ℕ) (text : List ℕ) → change_at line text ≡ Err kinds.Memory → ⊥
unfolding change_at
change_none line text e =
    want_none kinds.Head (verb_at text) _ e (λ k. absurd cc) (λ verb e0.
    want_none kinds.Flight (fixed_at 2 is_airline verb.1) _ e0 (λ k. absurd cc) (λ airline e1.
    want_none kinds.Flight (numeral_at 4 airline.1) _ e1 (λ k. absurd cc) (λ number e2.
    want_none kinds.Flight (byte_at 32 (suffix_at number.1).1) _ e2 (λ k. absurd cc) (λ period e3.
    want_none kinds.Period (date_at period) _ e3 (λ k. absurd cc) (λ day e4.
    step_none (tail_at verb.0 day.1) _ e4 (tail_none verb.0 day.1) (λ tail k. absurd cc))))))

-- each step was taken, so the line is spelled so
pub change_takes : (line : ℕ) (text : List ℕ) (row : ChangeRow) → change_at line text ≡ Ok row
    → SpellsChange line text row
unfolding change_at
change_takes line text row e =
    with_want kinds.Head _ _ row e (λ verb e0 k0.
    with_want kinds.Flight _ _ row k0 (λ airline e1 k1.
    with_want kinds.Flight _ _ row k1 (λ number e2 k2.
    with_want kinds.Flight _ _ row k2 (λ period e3 k3.
    with_want kinds.Period _ _ row k3 (λ day e4 k4.
    with_step _ _ row k4 (λ tail e5 k5.
    subst (SpellsChange line text) (ok_is _ row k5) (assemble line text verb airline number period day tail e0 e1 e2 e3 e4 e5)))))))

pub change_again : (line : ℕ) (text : List ℕ) (row : ChangeRow) → SpellsChange line text row
    → change_at line text ≡ Ok row
unfolding change_at
change_again line text row s =
    let r5 = tail_text row.cities row.setting in
    let r4 = s.day ++ r5 in
    let r3 = 32 ∷ r4 in
    let r2 = suffix_text row.suffix ++ r3 in
    let r1 = s.number ++ r2 in
    let r0 = row.airline ++ r1 in
    let verb : verb_at text ≡ Some (verb_of row.setting, r0) = ap verb_at s.written ∙ verb_again (verb_of row.setting) r0 in
    let airline : fixed_at 2 is_airline r0 ≡ Some (row.airline, r1) = fixed_again 2 is_airline row.airline r1 (length_airline row.airline s.is_airline) s.is_airline in
    let number : numeral_at 4 r1 ≡ Some (row.number, r2) = numeral_again 4 s.number row.number r2 s.is_number (suffix_stops row.suffix r4 s.is_suffix) in
    let suffix = suffix_again row.suffix r4 s.is_suffix in
    let day : date_at r4 ≡ Some (row.day, r5) = date_again_front s.day row.day r5 s.is_day in
    let tail : tail_at (verb_of row.setting) r5 ≡ Ok (row.cities, row.setting) = tail_again row.setting row.cities s.is_tail in
    rw (verb, airline, number, suffix, day, tail, s.line_is) refl
