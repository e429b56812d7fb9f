-- The text of a ladder is read as its steps, and what is read as steps is their text.
use Rattle.std.proofs.Common.{◌≡◌, ℕ, suc, ◌+◌, ◌-◌, ◌*◌, ◌/◌, ◌%◌, ◌<◌, ◌≤◌, Bool, true, false, if◌then◌else◌, ◌==◌, cond, ◌&&◌, List, [], ◌∷◌, ◌++◌, length, Option, Some, None, is_some, Result, Ok, Err, IsTrue, refl, sym, ap, subst, ◌∙◌, arith, append-nil, option_map}
use Rattle.std.specs.Prelude.{IfOk, IfErr}
use Rattle.std.specs.Char.{is_ascii_uppercase, is_ascii_digit}
use Rattle.std.specs.List.{AllByRecursion}
use Rattle.std.proofs.lemmas.Bool.{eqb-true, and_parts}
use Rattle.std.proofs.lemmas.List.{length-append}
use Rattle.std.proofs.lemmas.Bool.Decides.{nat_tests}
use Rattle.seat_nesting.specs.Nesting.{Steps, HasLetters, IsLadder}
use Rattle.seat_nesting.specs.Ladders.{ladder_fault, repeats_class}
use Rattle.seat_limits.specs.LadderText.{three_digits, entry_text, ladder_text, IsEntry, SpellsSteps, IsLadderRefusal, mark_text, three_in, step_in, entry_in, mark_at, entry_at, with_entry, steps_in, ladder_or, ladder_of, ladder_in}
use Rattle.seat_nesting.specs.declared.ladder.Step.{Step}
use Rattle.seat_nesting.specs.declared.ladder.LadderFault.{LadderFault}
use Rattle.seat_nesting.specs.declared.ladder.LadderFault.TheVariants.{RepeatedClass}
use Rattle.seat_limits.specs.declared.limit_fault.LimitKind.{LimitKind}
use Rattle.seat_limits.specs.declared.limit_fault.LimitKind.TheVariants as kinds
use Rattle.seat_nesting.proofs.LadderFaults.{at_most_26, no_fault}
use Rattle.seat_limits.proofs.LadderTexts.{steps_split, steps_from}
use Rattle.airline_base.proofs.Tests.{passed}

passed_on : {A : Type 0} (b : Bool) (x : Option A) (y : A) → cond b x None ≡ Some y → x ≡ Some y
passed_on true x y e = e
passed_on false x y e = absurd cc

-- ---- three digits

digit_range : (a : ℕ) → is_ascii_digit a ≡ true → (48 ≤ a) × (a ≤ 57)
digit_range a h = grind (arith, nat_tests, h)

is_digit : (a : ℕ) → a ≤ 9 → is_ascii_digit (48 + a) ≡ true
is_digit a h = grind (arith, nat_tests)

pub three_takes : (a b c n : ℕ) → three_in a b c ≡ Some n → (a ∷ b ∷ c ∷ [] ≡ three_digits n) × (n ≤ 999)
three_takes a b c n e =
    let p = passed (is_ascii_digit a && is_ascii_digit b && is_ascii_digit c) ((a - 48) * 100 + (b - 48) * 10 + (c - 48)) n e in
    let q = and_parts (is_ascii_digit a && is_ascii_digit b) (is_ascii_digit c) p.0 in
    let r = and_parts (is_ascii_digit a) (is_ascii_digit b) q.0 in
    let x = digit_range a r.0 in
    let y = digit_range b r.1 in
    let z = digit_range c q.1 in
    let value : (a - 48) * 100 + (b - 48) * 10 + (c - 48) ≡ n = p.1 in
    let first : a ≡ 48 + n / 100 = omega arith in
    let second : b ≡ 48 + n / 10 % 10 = omega arith in
    let third : c ≡ 48 + n % 10 = omega arith in
    (ap (λ (k : ℕ). k ∷ b ∷ c ∷ []) first ∙ ap (λ (k : ℕ). (48 + n / 100) ∷ k ∷ c ∷ []) second ∙ ap (λ (k : ℕ). (48 + n / 100) ∷ (48 + n / 10 % 10) ∷ k ∷ []) third, omega arith)

pub three_again : (n : ℕ) → n ≤ 999 → three_in (48 + n / 100) (48 + n / 10 % 10) (48 + n % 10) ≡ Some n
three_again n h =
    let x = is_digit (n / 100) (omega arith) in
    let y = is_digit (n / 10 % 10) (omega arith) in
    let z = is_digit (n % 10) (omega arith) in
    let value : (48 + n / 100 - 48) * 100 + (48 + n / 10 % 10 - 48) * 10 + (48 + n % 10 - 48) ≡ n = omega arith in
    rw (x, y, z, value) refl

-- ---- an entry

pub record StepRead (class : ℕ) (limit wait : Option ℕ) (listed : Bool) (s : Step) : Type 0 where
  pub letter : IsTrue (is_ascii_uppercase class)
  pub class_is : class ≡ s.class
  pub limit_is : limit ≡ Some s.limit
  pub wait_is : wait ≡ Some s.wait
  pub listed_is : listed ≡ s.listed
  pub open_now : s.closed ≡ false

step_takes : (class : ℕ) (limit wait : Option ℕ) (listed : Bool) (s : Step) → step_in class limit wait listed ≡ Some s
    → StepRead class limit wait listed s
step_takes class None wait listed s e = absurd cc
step_takes class (Some limit) None listed s e = absurd cc
step_takes class (Some limit) (Some wait) listed s e =
    let p = passed (is_ascii_uppercase class) (record { class = class; limit = limit; wait = wait; listed = listed; closed = false }) s e in
    record {
      letter = p.0;
      class_is = ap (λ (t : Step). t.class) p.1;
      limit_is = ap (λ (t : Step). Some t.limit) p.1;
      wait_is = ap (λ (t : Step). Some t.wait) p.1;
      listed_is = ap (λ (t : Step). t.listed) p.1;
      open_now = sym (ap (λ (t : Step). t.closed) p.1);
    }

pub record EntryRead (text : List ℕ) (s : Step) : Type 0 where
  pub entry : IsEntry s
  pub written : text ≡ entry_text s

-- eight bytes, of which three write each number, and the mark
joined : (k a b c stroke d e f class : ℕ) (limit wait : List ℕ) (m listed : Bool) → k ≡ class → a ∷ b ∷ c ∷ [] ≡ limit
    → stroke ≡ 47 → d ∷ e ∷ f ∷ [] ≡ wait → m ≡ listed
    → k ∷ a ∷ b ∷ c ∷ stroke ∷ d ∷ e ∷ f ∷ mark_text m ≡ class ∷ (limit ++ 47 ∷ (wait ++ mark_text listed))
joined k a b c stroke d e f class limit wait m listed e1 e2 e3 e4 e5 = rw (e1, e3, ← e2, ← e4, e5) refl

pub entry_takes : (k a b c stroke d e f : ℕ) (m : Bool) (s : Step) → entry_in k a b c stroke d e f m ≡ Some s
    → EntryRead (k ∷ a ∷ b ∷ c ∷ stroke ∷ d ∷ e ∷ f ∷ mark_text m) s
entry_takes k a b c stroke d e f m s h = of (stroke == 47) refl h
  where
    of : (t : Bool) → (stroke == 47) ≡ t → cond t (step_in k (three_in a b c) (three_in d e f) m) None ≡ Some s
        → EntryRead (k ∷ a ∷ b ∷ c ∷ stroke ∷ d ∷ e ∷ f ∷ mark_text m) s
    of false is h = absurd cc
    of true is h =
        let r = step_takes k (three_in a b c) (three_in d e f) m s h in
        let limit = three_takes a b c s.limit r.limit_is in
        let wait = three_takes d e f s.wait r.wait_is in
        record {
          entry = record { letter = subst (λ (x : ℕ). IsTrue (is_ascii_uppercase x)) r.class_is r.letter; limit = limit.1; wait = wait.1; open_now = r.open_now };
          written = joined k a b c stroke d e f s.class (three_digits s.limit) (three_digits s.wait) m s.listed r.class_is limit.0 (eqb-true stroke 47 is) wait.0 r.listed_is;
        }

-- the mark that is read is the step's
pub entry_mark : (k a b c stroke d e f : ℕ) (m : Bool) (s : Step) → entry_in k a b c stroke d e f m ≡ Some s
    → m ≡ s.listed
entry_mark k a b c stroke d e f m s h =
    let p = passed_on (stroke == 47) (step_in k (three_in a b c) (three_in d e f) m) s h in
    (step_takes k (three_in a b c) (three_in d e f) m s p).listed_is

pub entry_again : (s : Step) → IsEntry s
    → entry_in s.class (48 + s.limit / 100) (48 + s.limit / 10 % 10) (48 + s.limit % 10) 47 (48 + s.wait / 100)
    (48 + s.wait / 10 % 10) (48 + s.wait % 10) s.listed ≡ Some s
entry_again s is =
    rw (three_again s.limit is.limit, three_again s.wait is.wait, is.letter) (ap (λ (b : Bool). Some (record s { closed = b })) (sym is.open_now))

-- the text of an entry is read as it, where no mark follows
pub entry_front : (s : Step) → IsEntry s → (after : List ℕ) → ◌≡◌ {A = Bool × List ℕ} (mark_at after) (false, after)
    → entry_at (entry_text s ++ after) ≡ Some (s, after)
entry_front s is after none = of s.listed (entry_again s is)
  where
    of : (m : Bool)
        → entry_in s.class (48 + s.limit / 100) (48 + s.limit / 10 % 10) (48 + s.limit % 10) 47 (48 + s.wait / 100)
        (48 + s.wait / 10 % 10) (48 + s.wait % 10) m ≡ Some s
        → entry_at (s.class ∷ (three_digits s.limit ++ 47 ∷ (three_digits s.wait ++ mark_text m)) ++ after)
        ≡ Some (s, after)
    of true e = ap (λ (o : Option Step). option_map (λ (t : Step). (t, after)) o) e
    of false e = rw none (ap (λ (o : Option Step). option_map (λ (t : Step). (t, after)) o) e)

-- ---- entries

spells_one : (text : List ℕ) (s : Step) → EntryRead text s → SpellsSteps text (s ∷ [])
spells_one text s r = record { some = omega arith; each = (r.entry, tt); written = r.written }

spells_more : (text rest : List ℕ) (s : Step) (lower : Steps) → EntryRead text s → SpellsSteps rest lower
    → SpellsSteps (text ++ 32 ∷ rest) (s ∷ lower)
spells_more text rest s [] r h = absurd (omega (arith, h.some))
spells_more text rest s (t ∷ lower) r h = record {
  some = omega arith;
  each = (r.entry, h.each);
  written = rw (r.written, h.written) refl;
}

-- an entry alone, in these bytes
one_takes : (front : List ℕ) (o : Option Step) (steps : Steps) → ((s : Step) → o ≡ Some s → EntryRead front s)
    → with_entry o (Some []) ≡ Some steps → SpellsSteps front steps
one_takes front None steps read is = absurd cc
one_takes front (Some s) steps read is = let same : s ∷ [] ≡ steps = cc in subst (SpellsSteps front) same (spells_one front s (read s refl))

-- an entry in these bytes, a blank, and more entries
more_takes : (front : List ℕ) (o : Option Step) (i : ℕ) (rest : List ℕ) (p : Option Steps) (steps : Steps)
    → ((s : Step) → o ≡ Some s → EntryRead front s) → ((lower : Steps) → p ≡ Some lower → SpellsSteps rest lower)
    → with_entry o (if i == 32 then p else None) ≡ Some steps → SpellsSteps (front ++ i ∷ rest) steps
more_takes front o i rest p steps read lower_is is = of o (i == 32) p refl refl refl is
  where
    of : (e : Option Step) (t : Bool) (q : Option Steps) → o ≡ e → (i == 32) ≡ t → p ≡ q
        → with_entry e (cond t q None) ≡ Some steps → SpellsSteps (front ++ i ∷ rest) steps
    of None t q entry blank lower is = absurd cc
    of (Some s) false q entry blank lower is = absurd cc
    of (Some s) true None entry blank lower is = absurd cc
    of (Some s) true (Some more) entry blank lower is =
        let same : s ∷ more ≡ steps = cc in
        let spelled = spells_more front rest s more (read s entry) (lower_is more lower) in
        let byte : 32 ≡ i = sym (eqb-true i 32 blank) in
        let family : ℕ → Type 0 = λ x. SpellsSteps (front ++ x ∷ rest) steps in
        subst family byte (subst (SpellsSteps (front ++ 32 ∷ rest)) same spelled)

pub steps_take : (text : List ℕ) (steps : Steps) → steps_in text ≡ Some steps → SpellsSteps text steps
unfolding steps_in
steps_take (a ∷ b ∷ c ∷ d ∷ e ∷ f ∷ g ∷ h ∷ []) steps is = one_takes (a ∷ b ∷ c ∷ d ∷ e ∷ f ∷ g ∷ h ∷ []) (entry_in a b c d e f g h false) steps (entry_takes a b c d e f g h false) is
steps_take (a ∷ b ∷ c ∷ d ∷ e ∷ f ∷ g ∷ h ∷ i ∷ []) steps is = of (i == 78) refl (entry_in a b c d e f g h true) refl is
  where
    of : (t : Bool) → (i == 78) ≡ t → (o : Option Step) → entry_in a b c d e f g h true ≡ o
        → with_entry o (cond t (Some []) None) ≡ Some steps → SpellsSteps (a ∷ b ∷ c ∷ d ∷ e ∷ f ∷ g ∷ h ∷ i ∷ []) steps
    of false mark None entry is = absurd cc
    of false mark (Some s) entry is = absurd cc
    of true mark o entry is =
        let family : ℕ → Type 0 = λ x. SpellsSteps (a ∷ b ∷ c ∷ d ∷ e ∷ f ∷ g ∷ h ∷ x ∷ []) steps in
        subst family (sym (eqb-true i 78 mark)) (one_takes (a ∷ b ∷ c ∷ d ∷ e ∷ f ∷ g ∷ h ∷ 78 ∷ []) o steps (λ s k. entry_takes a b c d e f g h true s (entry ∙ k)) is)
steps_take (a ∷ b ∷ c ∷ d ∷ e ∷ f ∷ g ∷ h ∷ i ∷ j ∷ rest) steps is = of (i == 78) refl (steps_in rest) (steps_in (j ∷ rest)) (steps_take rest) (steps_take (j ∷ rest)) is
  where
    of : (t : Bool) → (i == 78) ≡ t → (p q : Option Steps) → ((lower : Steps) → p ≡ Some lower → SpellsSteps rest lower)
        → ((lower : Steps) → q ≡ Some lower → SpellsSteps (j ∷ rest) lower)
        → cond t (with_entry (entry_in a b c d e f g h true) (if j == 32 then p else None))
        (with_entry (entry_in a b c d e f g h false) (if i == 32 then q else None)) ≡ Some steps
        → SpellsSteps (a ∷ b ∷ c ∷ d ∷ e ∷ f ∷ g ∷ h ∷ i ∷ j ∷ rest) steps
    of true mark p q near far is =
        let family : ℕ → Type 0 = λ x. SpellsSteps (a ∷ b ∷ c ∷ d ∷ e ∷ f ∷ g ∷ h ∷ x ∷ j ∷ rest) steps in
        subst family (sym (eqb-true i 78 mark)) (more_takes (a ∷ b ∷ c ∷ d ∷ e ∷ f ∷ g ∷ h ∷ 78 ∷ []) (entry_in a b c d e f g h true) j rest p steps (entry_takes a b c d e f g h true) near is)
    of false mark p q near far is = more_takes (a ∷ b ∷ c ∷ d ∷ e ∷ f ∷ g ∷ h ∷ []) (entry_in a b c d e f g h false) i (j ∷ rest) q steps (entry_takes a b c d e f g h false) far is
steps_take _ steps is = absurd cc

text_again : (steps : Steps) → 0 < length steps → AllByRecursion IsEntry steps
    → steps_in (ladder_text steps) ≡ Some steps
text_again [] some each = absurd (omega arith)
text_again (s ∷ []) some each = ap steps_in (sym (append-nil (entry_text s))) ∙ steps_split (entry_text s ++ []) ∙ ap steps_from (entry_front s each.0 [] refl)
text_again (s ∷ t ∷ lower) some each =
    steps_split (entry_text s ++ 32 ∷ ladder_text (t ∷ lower)) ∙ ap steps_from (entry_front s each.0 (32 ∷ ladder_text (t ∷ lower)) refl)
    ∙ ap (with_entry (Some s)) (text_again (t ∷ lower) (omega arith) each.1)

pub steps_again : (text : List ℕ) (steps : Steps) → SpellsSteps text steps → steps_in text ≡ Some steps
steps_again text steps h = ap steps_in h.written ∙ text_again steps h.some h.each

-- ---- long texts

entry_longest : (s : Step) → length (entry_text s) ≤ 9
entry_longest s = of s.listed
  where
    of : (m : Bool) → length (s.class ∷ (three_digits s.limit ++ 47 ∷ (three_digits s.wait ++ mark_text m))) ≤ 9
    of true = omega arith
    of false = omega arith

text_length : (steps : Steps) → 0 < length steps → length (ladder_text steps) + 1 ≤ 10 * length steps
text_length [] some = absurd (omega arith)
text_length (s ∷ []) some = let here = entry_longest s in omega arith
text_length (s ∷ t ∷ lower) some =
    let here = entry_longest s in
    let more = text_length (t ∷ lower) (omega arith) in
    let both = length-append (entry_text s) (32 ∷ ladder_text (t ∷ lower)) in
    omega (arith, here, more, both)

pub letters_of : (steps : Steps) → AllByRecursion IsEntry steps → HasLetters steps
letters_of [] each = tt
letters_of (s ∷ lower) each = (each.0.letter, letters_of lower each.1)

repeats : (steps : Steps) → HasLetters steps → 26 < length steps → (b : Bool) → repeats_class steps ≡ b → b ≡ true
repeats steps letters many true e = refl
repeats steps letters many false e = let few = at_most_26 steps letters e in absurd (omega arith)

repeated : (steps : Steps) → 0 < length steps → repeats_class steps ≡ true → ladder_fault steps ≡ Some RepeatedClass
unfolding ladder_fault
repeated [] some h = absurd (omega arith)
repeated (s ∷ lower) some h =
    let first : (suc (length lower) == 0) ≡ false = grind (arith, nat_tests) in
    rw (first, h) refl

long_ladder : (text : List ℕ) (o : Option Steps) → 259 < length text
    → ((steps : Steps) → o ≡ Some steps → SpellsSteps text steps)
    → ladder_of o ≡ Err (if is_some o then kinds.Ladder RepeatedClass else kinds.Entry)
long_ladder text None long spells = refl
long_ladder text (Some steps) long spells =
    let h = spells steps refl in
    let size = text_length steps h.some in
    let many : 26 < length steps = omega (arith, size, ap length h.written) in
    let fault = repeated steps h.some (repeats steps (letters_of steps h.each) many (repeats_class steps) refl) in
    ap (ladder_or steps) fault

-- more than 26 entries repeat a class
pub long_text : (text : List ℕ) → 259 < length text
    → ladder_in text ≡ Err (if is_some (steps_in text) then kinds.Ladder RepeatedClass else kinds.Entry)
unfolding ladder_in
long_text text long = long_ladder text (steps_in text) long (steps_take text)

-- ---- ladders

abbrev pub read : Steps → Result Steps LimitKind
read steps = Ok steps

found_or : (text : List ℕ) (steps : Steps) (o : Option LadderFault) → SpellsSteps text steps
    → IfOk (ladder_or steps o) (SpellsSteps text)
found_or text steps None h = h
found_or text steps (Some fault) h = tt

found_of : (text : List ℕ) (o : Option Steps) → ((steps : Steps) → o ≡ Some steps → SpellsSteps text steps)
    → IfOk (ladder_of o) (SpellsSteps text)
found_of text None spells = tt
found_of text (Some steps) spells = found_or text steps (ladder_fault steps) (spells steps refl)

pub is_found : (text : List ℕ) → IfOk (ladder_in text) (SpellsSteps text)
unfolding ladder_in
is_found text = found_of text (steps_in text) (steps_take text)

pub is_only : (text : List ℕ) (steps : Steps) → SpellsSteps text steps → IsLadder steps → ladder_in text ≡ read steps
unfolding ladder_in
is_only text steps spelled is = ap ladder_of (steps_again text steps spelled) ∙ ap (ladder_or steps) (no_fault steps is)

fault_or : (text : List ℕ) (steps : Steps) (o : Option LadderFault) → SpellsSteps text steps → ladder_fault steps ≡ o
    → IfErr (ladder_or steps o) (IsLadderRefusal text)
fault_or text steps None h e = tt
fault_or text steps (Some fault) h e = (steps, h, e)

abbrev no_steps : Option Steps
no_steps = None

apart : (steps : Steps) → no_steps ≡ Some steps → ⊥
apart steps e = cc

fault_of : (text : List ℕ) (o : Option Steps) → steps_in text ≡ o
    → ((steps : Steps) → o ≡ Some steps → SpellsSteps text steps) → IfErr (ladder_of o) (IsLadderRefusal text)
fault_of text None e spells = λ steps h. apart steps (sym e ∙ steps_again text steps h)
fault_of text (Some steps) e spells = fault_or text steps (ladder_fault steps) (spells steps refl) refl

pub is_fault : (text : List ℕ) → IfErr (ladder_in text) (IsLadderRefusal text)
unfolding ladder_in
is_fault text = fault_of text (steps_in text) refl (steps_take text)
