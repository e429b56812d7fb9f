-- The fault for which a script is refused as it stands is its first refusal, and the script without its wrong lines has none.
use Rattle.std.proofs.Common.{◌≡◌, ℕ, zero, suc, ◌+◌, ◌-◌, ◌≤◌, ◌<◌, true, false, List, [], ◌∷◌, length, map, Some, None, Result, Ok, Err, refl, sym, ap, subst, ◌∙◌, arith}
use Rattle.std.specs.List.{list_all}
use Rattle.std.specs.Str.Lines.{lines}
use Rattle.airline_base.specs.Lines.{is_line_feed, line_at}
use Rattle.airline_base.specs.Reach.{fault_at, reach}
use Rattle.airline_base.proofs.LineCuts.{lines_are}
use Rattle.airline_base.proofs.Reaches.{reach_front, then_takes}
use Rattle.airimp_lines.specs.Steps.{IsFirstFault, Message, at_end, next, step, with_rest}
use Rattle.airimp_lines.specs.declared.fault.ScriptFault.{ScriptFault}
use Rattle.airimp_lines.specs.declared.fault.ScriptKind.{ScriptKind}
use Rattle.script_refusals.specs.Asking.{BeginsWith, CleanedIsRight, FirstRefusalIsTheFault}
use Rattle.script_refusals.specs.Cleaning.{at_start, cleaned_lines, left_of, lines_left, passage_behind, refusals_from, refusals_of, text_of, whole_lines}
use Rattle.script_refusals.specs.declared.cleaning.Passage.{Passage}
use Rattle.script_refusals.specs.declared.cleaning.Passage.TheVariants.{Right}
use Rattle.script_refusals.proofs.Asking.{cleaned_texts, is_step, message_at}
use Rattle.script_refusals.proofs.Lines.{cases, texts_of_lines}

-- ---- a fault, line by line

-- the first fault of these lines is this one, which has this number from the first of them on
abbrev pub Fails : Message → List (List ℕ) → ℕ → ScriptKind → Type 0
Fails message [] place kind = ⊥
Fails message (text ∷ texts) zero kind = step message text ≡ Err kind
Fails message (text ∷ texts) (suc place) kind = (after : Message) × (step message text ≡ Ok after) × Fails after texts place kind

rest_is : (message : Message) (bytes rest : List ℕ) (after : Message) → next message bytes ≡ Ok (after, rest)
    → (step message (line_at bytes).0 ≡ Ok after) × (rest ≡ (line_at bytes).1)
unfolding next
rest_is message bytes rest after e = of (step message (line_at bytes).0) refl e
  where
    of : (r : Result Message ScriptKind) → step message (line_at bytes).0 ≡ r → with_rest (line_at bytes).1 r ≡ Ok (after, rest)
        → (step message (line_at bytes).0 ≡ Ok after) × (rest ≡ (line_at bytes).1)
    of (Ok m) f g =
        let p : ◌≡◌ {A = Message × List ℕ} (m, (line_at bytes).1) (after, rest) = cc in
        let o : ◌≡◌ {A = Result Message ScriptKind} (Ok m) (Ok after) = ap (λ (q : Message × List ℕ). Ok q.0) p in
        (f ∙ o, sym (ap (λ (q : Message × List ℕ). q.1) p))
    of (Err kind) f g = absurd cc

fault_is : (message : Message) (bytes : List ℕ) (kind : ScriptKind) → fault_at next at_end message bytes ≡ Some kind
    → (0 < length bytes) × (step message (line_at bytes).0 ≡ Err kind)
unfolding next
fault_is message [] kind e = absurd cc
fault_is message (c ∷ bytes) kind e = (omega arith, of (step message (line_at (c ∷ bytes)).0) refl e)
  where
    of : (r : Result Message ScriptKind) → step message (line_at (c ∷ bytes)).0 ≡ r
        → Rattle.airline_base.specs.Reach.fault_of (with_rest (line_at (c ∷ bytes)).1 r) ≡ Some kind
        → step message (line_at (c ∷ bytes)).0 ≡ Err kind
    of (Ok m) f g = absurd cc
    of (Err other) f g = f ∙ cc

-- bytes of no line give no fault
none_fails : (n : ℕ) (message s : Message) (rest : List ℕ) (kind : ScriptKind) → reach next message [] n ≡ Ok (s, rest)
    → fault_at next at_end s rest ≡ Some kind → ⊥
unfolding reach line_at next
none_fails zero message s rest kind h e =
    let same : ◌≡◌ {A = Message × List ℕ} (message, []) (s, rest) = cc in
    let f = fault_is message [] kind (subst (λ (p : Message × List ℕ). fault_at next at_end p.0 p.1 ≡ Some kind) (sym same) e) in
    absurd (omega (arith, f.0))
none_fails (suc n) message s rest kind h e =
    let f : reach next message [] (suc n) ≡ reach next None [] n = reach_front next message [] n in
    none_fails n None s rest kind (sym f ∙ h) e

pub fails_of : (n : ℕ) (message s : Message) (bytes rest : List ℕ) (kind : ScriptKind)
    → reach next message bytes n ≡ Ok (s, rest) → fault_at next at_end s rest ≡ Some kind
    → Fails message (lines bytes) n kind
unfolding reach
fails_of n message s [] rest kind h e = absurd (none_fails n message s rest kind h e)
fails_of zero message s (c ∷ bytes) rest kind h e =
    let same : ◌≡◌ {A = Message × List ℕ} (message, c ∷ bytes) (s, rest) = cc in
    let f = fault_is message (c ∷ bytes) kind (subst (λ (p : Message × List ℕ). fault_at next at_end p.0 p.1 ≡ Some kind) (sym same) e) in
    subst (λ (texts : List (List ℕ)). Fails message texts zero kind) (sym (lines_are (c ∷ bytes) f.0)) f.1
fails_of (suc n) message s (c ∷ bytes) rest kind h e =
    let t = then_takes next n (next message (c ∷ bytes)) (s, rest) (sym (reach_front next message (c ∷ bytes) n) ∙ h) in
    let r = rest_is message (c ∷ bytes) t.0.1 t.0.0 t.1 in
    let more = fails_of n t.0.0 s t.0.1 rest kind t.2 e in
    subst (λ (texts : List (List ℕ)). Fails message texts (suc n) kind) (sym (lines_are (c ∷ bytes) (omega arith))) (t.0.0, r.0, subst (λ (bytes : List ℕ). Fails t.0.0 (lines bytes) n kind) r.1 more)

pub fails : (bytes : List ℕ) (line : ℕ) (kind : ScriptKind) → IsFirstFault bytes line kind → (1 ≤ line) × Fails None (lines bytes) (line - 1) kind
fails bytes line kind (s, rest, one, reached, fault) = (one, fails_of (line - 1) None s bytes rest kind reached fault)

-- ---- the first refusal

abbrev fault : ℕ → ScriptKind → ScriptFault
fault line kind = record { line = line; kind = kind }

-- a line that is not refused has no refusal
right_on : (message after : Message) (number : ℕ) (line : List ℕ) (whole : List (List ℕ)) (refusals : List ScriptFault)
    → step message (text_of line) ≡ Ok after → refusals_from (Right after) (number + 1) whole ≡ refusals
    → refusals_from (Right message) number (line ∷ whole) ≡ refusals
right_on message after number line whole refusals e h = rw e h

first_of : (place number : ℕ) (message : Message) (whole : List (List ℕ)) (kind : ScriptKind)
    → Fails message (map text_of whole) place kind
    → BeginsWith (fault (number + place) kind) (refusals_from (Right message) number whole)
first_of place number message [] kind h = absurd h
first_of zero number message (line ∷ whole) kind h =
    let n : number + 0 ≡ number = omega arith in
    record {
      others = refusals_from (passage_behind (Right message) (text_of line)) (number + 1) whole;
      all = rw (n, h) refl;
    }
first_of (suc place) number message (line ∷ whole) kind (after, e, more) =
    let f = first_of place (number + 1) after whole kind more in
    let n : number + 1 + place ≡ number + suc place = omega arith in
    record {
      others = f.others;
      all = right_on message after number line whole (fault (number + suc place) kind ∷ f.others) e (f.all ∙ ap (λ (m : ℕ). fault m kind ∷ f.others) n);
    }

pub first_refusal : FirstRefusalIsTheFault
first_refusal bytes given h =
    let f = fails bytes given.line given.kind h in
    let n : 1 + (given.line - 1) ≡ given.line = omega (arith, f.0) in
    subst (λ (m : ℕ). BeginsWith (fault m given.kind) (refusals_of bytes)) n (first_of (given.line - 1) 1 None (whole_lines bytes) given.kind (subst (λ (texts : List (List ℕ)). Fails None texts (given.line - 1) given.kind) (texts_of_lines bytes) f.1))

-- ---- none is left

none_at : (place number : ℕ) (passage : Passage) (whole : List (List ℕ)) (kind : ScriptKind)
    → Fails (message_at passage) (map text_of (cleaned_lines passage whole)) place kind → ⊥
none_at place number passage [] kind h = h
none_at zero number passage (line ∷ whole) kind h = let s = is_step 0 number passage line in differ (s.stepped) h
  where
    differ : {m : Message} {r : Result Message ScriptKind} → r ≡ Ok m → r ≡ Err kind → ⊥
    differ a b = cc
none_at (suc place) number passage (line ∷ whole) kind (after, e, more) =
    let s = is_step 0 number passage line in
    let next = passage_behind passage (text_of line) in
    none_at place number next whole kind (subst (λ (m : Message). Fails m (map text_of (cleaned_lines next whole)) place kind) (same (sym e ∙ s.stepped)) more)
  where
    same : {m n : Message} → ◌≡◌ {A = Result Message ScriptKind} (Ok m) (Ok n) → m ≡ n
    same a = cc

-- a fault of what is left stands in the lines that are left
none_left : (refusals : List ScriptFault) (text : List ℕ) (line : ℕ) (kind : ScriptKind) → IsFirstFault (left_of refusals text) line kind
    → IsFirstFault text line kind
none_left [] text line kind h = h
none_left (fault ∷ refusals) text line kind h = cases (list_all is_line_feed text) (list_all is_line_feed text) refl
    (λ e. absurd (no_line (subst (λ (left : List ℕ). IsFirstFault left line kind) (nothing e) h)))
    (λ e. subst (λ (left : List ℕ). IsFirstFault left line kind) (everything e) h)
  where
    no_line : IsFirstFault [] line kind → ⊥
    no_line k = (fails [] line kind k).1

    nothing : list_all is_line_feed text ≡ true → left_of (fault ∷ refusals) text ≡ []
    nothing e = rw e refl

    everything : list_all is_line_feed text ≡ false → left_of (fault ∷ refusals) text ≡ text
    everything e = rw e refl

pub none : CleanedIsRight
none bytes line kind h =
    let f = fails (lines_left bytes) line kind (none_left (refusals_of bytes) (lines_left bytes) line kind h) in
    none_at (line - 1) 1 at_start (whole_lines bytes) kind (subst (λ (texts : List (List ℕ)). Fails None texts (line - 1) kind) (cleaned_texts bytes) f.1)
