-- One line of a script, and what remains behind it.
use Rattle.std.proofs.Common.{◌≡◌, ℕ, ◌+◌, Bool, true, false, cond, not, ◌==◌, List, [], ◌∷◌, ◌++◌, length, Option, Some, None, Result, Ok, Err, IsTrue, IsSome, option_to_list, refl, sym, ap, subst, ◌∙◌}
use Rattle.airline_base.proofs.Tests.{some_is, none_some, nothing}
use Rattle.airimp_lines.specs.declared.fault.LineFault.{LineFault}
use Rattle.airimp_lines.specs.declared.fault.ScriptKind.{ScriptKind}
use Rattle.airimp_lines.specs.declared.fault.ScriptKind.TheVariants as kinds
use Rattle.airimp_lines.specs.declared.requests.Request.{Request}
use Rattle.airimp_lines.specs.declared.segment.Undated.{Undated}
use Rattle.airimp_lines.specs.Messages.{heading_at, is_passed_over}
use Rattle.airimp_lines.specs.Reading.{undated_at}
use Rattle.airimp_lines.specs.Script.{Line, runs_of, segment_lines, IsRequest, AreRequests, AreMessages}
use Rattle.airimp_lines.specs.Steps.{Message, after_heading, after_segment, step, AreOwn, HasRequest}
use Rattle.std.specs.List.{enumerate_from}
use Rattle.std.specs.Result.{IsOk}
use Rattle.airimp_lines.proofs.Headings.{heading_takes, heading_again}
use Rattle.airimp_lines.proofs.Remaining.{AreLeft, Remain, more_left, less_left, open_message, opened_message, part_more, part_split, same_requests}
use Rattle.airimp_lines.proofs.Segments.{is_fault}

abbrev gives : Message → Result Message ScriptKind
gives message = Ok message

abbrev fails : ScriptKind → Result Message ScriptKind
fails kind = Err kind

gives_is : (m n : Message) → gives m ≡ gives n → m ≡ n
gives_is m n e = cc

apart : (m : Message) (kind : ScriptKind) → gives m ≡ fails kind → ⊥
apart m kind e = absurd cc

opened_is : (o : Option (List ℕ)) (next : Message) → after_heading o ≡ Ok next
    → (locator : List ℕ) × (o ≡ Some locator) × (next ≡ Some locator)
opened_is None next e = absurd (apart next kinds.Locator (sym e))
opened_is (Some locator) next e = (locator, refl, sym (gives_is (Some locator) next e))

opened_fails : (o : Option (List ℕ)) (kind : ScriptKind) → after_heading o ≡ Err kind → o ≡ nothing
opened_fails None kind e = refl
opened_fails (Some locator) kind e = absurd (apart (Some locator) kind e)

asked_is : (locator : List ℕ) (r : Result Undated LineFault) (next : Message) → after_segment locator r ≡ Ok next
    → next ≡ Some locator
asked_is locator (Ok u) next e = sym (gives_is (Some locator) next e)
asked_is locator (Err fault) next e = absurd (apart next (kinds.Line fault) (sym e))

asked_fails : (locator : List ℕ) (r : Result Undated LineFault) (kind : ScriptKind) → after_segment locator r ≡ Err kind
    → (fault : LineFault) × (r ≡ Err fault)
asked_fails locator (Ok u) kind e = absurd (apart (Some locator) kind e)
asked_fails locator (Err fault) kind e = (fault, refl)

other_is : (b : Bool) (locator : List ℕ) (r : Result Undated LineFault) (next : Message)
    → cond b (gives (Some locator)) (after_segment locator r) ≡ Ok next → next ≡ Some locator
other_is true locator r next e = sym (gives_is (Some locator) next e)
other_is false locator r next e = asked_is locator r next e

other_fails : (b : Bool) (locator : List ℕ) (r : Result Undated LineFault) (kind : ScriptKind)
    → cond b (gives (Some locator)) (after_segment locator r) ≡ Err kind
    → (b ≡ false) × (fault : LineFault) × (r ≡ Err fault)
other_fails true locator r kind e = absurd (apart (Some locator) kind e)
other_fails false locator r kind e = let f = asked_fails locator r kind e in (refl, f.0, f.1)

-- ---- a line that is taken

-- with the line's requests, those behind it are all from it on
pub onward : (today : ℕ) (message next : Message) (n : ℕ) (text : List ℕ) (texts : List (List ℕ))
    (added others : List Request)
    → step message text ≡ Ok next → AreOwn today message (n, text) added → Remain today next (n + 1) texts others
    → Remain today message n (text ∷ texts) (added ++ others)
onward today None next n [] texts added others e h k =
    let is : next ≡ nothing = sym (gives_is None next e) in
    ([], others, refl, subst (λ (m : Message). Remain today m (n + 1) texts others) is k, ap (λ (x : List Request). x ++ others) h)
onward today (Some locator) next n [] texts added others e h k =
    let is : next ≡ nothing = sym (gives_is None next e) in
    ([], others, tt, subst (λ (m : Message). Remain today m (n + 1) texts others) is k, ap (λ (x : List Request). x ++ others) h)
onward today None next n (c ∷ text) texts added others e h k =
    let o = opened_is (heading_at (c ∷ text)) next e in
    let left : AreLeft today o.0 (runs_of (enumerate_from (n + 1) texts)) others = subst (λ (m : Message). Remain today m (n + 1) texts others) o.2 k in
    let all = open_message today o.0 (n, c ∷ text) (runs_of (enumerate_from (n + 1) texts)) others (heading_takes (c ∷ text) o.0 o.1) left in
    subst (λ (x : List Request). Remain today None n ((c ∷ text) ∷ texts) (x ++ others)) (sym h) (subst (λ (parts : List (List Line)). AreMessages today parts others) (sym (part_more n c text texts)) all)
onward today (Some locator) next n (c ∷ text) texts added others e h k =
    let is = other_is (is_passed_over (c ∷ text)) locator (undated_at (c ∷ text)) next e in
    let left : AreLeft today locator (runs_of (enumerate_from (n + 1) texts)) others = subst (λ (m : Message). Remain today m (n + 1) texts others) is k in
    subst (λ (parts : List (List Line)). AreLeft today locator parts (added ++ others)) (sym (part_more n c text texts)) (more_left today locator (n, c ∷ text) (runs_of (enumerate_from (n + 1) texts)) added others h left)

-- what remains behind a line
pub record Behind (today : ℕ) (next : Message) (n : ℕ) (texts : List (List ℕ)) (added all : List Request) : Type 0 where
  pub others : List Request
  pub joined : all ≡ added ++ others
  pub remain : Remain today next n texts others

-- of all from a line on, those behind the line's own
pub behind : (today : ℕ) (message next : Message) (n : ℕ) (text : List ℕ) (texts : List (List ℕ))
    (added all : List Request)
    → step message text ≡ Ok next → AreOwn today message (n, text) added → Remain today message n (text ∷ texts) all
    → Behind today next (n + 1) texts added all
behind today None next n [] texts added all e h (own, others, none, more, joined) =
    let is : next ≡ nothing = sym (gives_is None next e) in
    record {
      others = others;
      joined = joined ∙ ap (λ (x : List Request). x ++ others) (none ∙ sym h);
      remain = subst (λ (m : Message). Remain today m (n + 1) texts others) (sym is) more;
    }
behind today (Some locator) next n [] texts added all e h ([], others, none, more, joined) =
    let is : next ≡ nothing = sym (gives_is None next e) in
    record {
      others = others;
      joined = joined ∙ ap (λ (x : List Request). x ++ others) (sym h);
      remain = subst (λ (m : Message). Remain today m (n + 1) texts others) (sym is) more;
    }
behind today (Some locator) next n [] texts added all e h (q ∷ own, others, none, more, joined) = absurd none
behind today None next n (c ∷ text) texts added all e h k =
    let o = opened_is (heading_at (c ∷ text)) next e in
    let parts = runs_of (enumerate_from (n + 1) texts) in
    let m = opened_message today (n, c ∷ text) parts all (part_split (n + 1) texts) (subst (λ (x : List (List Line)). AreMessages today x all) (part_more n c text texts) k) in
    let same : m.0 ≡ o.0 = some_is m.0 o.0 (sym (heading_again (c ∷ text) m.0 m.1) ∙ o.1) in
    record {
      others = all;
      joined = ap (λ (x : List Request). x ++ all) (sym h);
      remain = subst (λ (x : Message). Remain today x (n + 1) texts all) (sym o.2) (subst (λ (x : List ℕ). AreLeft today x parts all) same m.2);
    }
behind today (Some locator) next n (c ∷ text) texts added all e h k =
    let is = other_is (is_passed_over (c ∷ text)) locator (undated_at (c ∷ text)) next e in
    let parts = runs_of (enumerate_from (n + 1) texts) in
    let l = less_left today locator (n, c ∷ text) parts all (part_split (n + 1) texts) (subst (λ (x : List (List Line)). AreLeft today locator x all) (part_more n c text texts) k) in
    record {
      others = l.others;
      joined = l.all ∙ ap (λ (x : List Request). x ++ l.others) (same_requests today locator (segment_lines ((n, c ∷ text) ∷ [])) l.own added l.asked h);
      remain = subst (λ (x : Message). Remain today x (n + 1) texts l.others) (sym is) l.left;
    }

-- ---- a line that is refused

fault_asked : (today : ℕ) (locator : List ℕ) (n : ℕ) (text : List ℕ) (fault : LineFault) (b : Bool) (own : List Request)
    → b ≡ false → undated_at text ≡ Err fault → AreRequests today locator (cond (not b) ((n, text) ∷ []) []) own → ⊥
fault_asked today locator n text fault true own off e h = absurd cc
fault_asked today locator n text fault false [] off e h = h
fault_asked today locator n text fault false (q ∷ own) off e h = is_fault today text fault q.segment e h.0.spelled

-- from a line with a fault on there are no requests
pub none_remain : (today : ℕ) (message : Message) (n : ℕ) (text : List ℕ) (texts : List (List ℕ)) (all : List Request)
    (kind : ScriptKind)
    → step message text ≡ Err kind → Remain today message n (text ∷ texts) all → ⊥
none_remain today None n [] texts all kind e k = apart None kind e
none_remain today (Some locator) n [] texts all kind e k = apart None kind e
none_remain today None n (c ∷ text) texts all kind e k =
    let none = opened_fails (heading_at (c ∷ text)) kind e in
    let m = opened_message today (n, c ∷ text) (runs_of (enumerate_from (n + 1) texts)) all (part_split (n + 1) texts) (subst (λ (x : List (List Line)). AreMessages today x all) (part_more n c text texts) k) in
    none_some m.0 (sym none ∙ heading_again (c ∷ text) m.0 m.1)
none_remain today (Some locator) n (c ∷ text) texts all kind e k =
    let f = other_fails (is_passed_over (c ∷ text)) locator (undated_at (c ∷ text)) kind e in
    let l = less_left today locator (n, c ∷ text) (runs_of (enumerate_from (n + 1) texts)) all (part_split (n + 1) texts) (subst (λ (x : List (List Line)). AreLeft today locator x all) (part_more n c text texts) k) in
    fault_asked today locator n (c ∷ text) f.1 (is_passed_over (c ∷ text)) l.own f.0 f.2 l.asked

-- ---- a line that asks for nothing

pub headed_step : (text : List ℕ) (o : Option (List ℕ)) → (length text == 0) ≡ false → heading_at text ≡ o
    → step None text ≡ after_heading o
headed_step [] o some e = absurd cc
headed_step (c ∷ text) o some e = rw e refl

pub passed_step : (locator text : List ℕ) → (length text == 0) ≡ false → is_passed_over text ≡ true
    → step (Some locator) text ≡ Ok (Some locator)
passed_step locator [] some pass = absurd cc
passed_step locator (c ∷ text) some pass = rw pass refl

pub passed_none : (today : ℕ) (locator : List ℕ) (n : ℕ) (text : List ℕ) → (length text == 0) ≡ false
    → is_passed_over text ≡ true → AreOwn today (Some locator) (n, text) []
passed_none today locator n [] some pass = absurd cc
passed_none today locator n (c ∷ text) some pass =
    let P : Bool → Type 0 = λ b. AreRequests today locator (cond (not b) ((n, c ∷ text) ∷ []) []) [] in
    subst P (sym pass) tt

pub fault_step : (locator text : List ℕ) (fault : LineFault) → (length text == 0) ≡ false
    → is_passed_over text ≡ false → undated_at text ≡ Err fault → step (Some locator) text ≡ Err (kinds.Line fault)
fault_step locator [] fault some pass e = absurd cc
fault_step locator (c ∷ text) fault some pass e = rw (pass, e) refl

-- ---- a segment line

pub asked_step : (locator text : List ℕ) (u : Undated) → (length text == 0) ≡ false → is_passed_over text ≡ false
    → undated_at text ≡ Ok u → step (Some locator) text ≡ Ok (Some locator)
asked_step locator [] u some pass e = absurd cc
asked_step locator (c ∷ text) u some pass e = rw (pass, e) refl

pub asked_one : (today : ℕ) (locator : List ℕ) (n : ℕ) (text : List ℕ) (q : Request) → (length text == 0) ≡ false
    → is_passed_over text ≡ false → IsRequest today locator (n, text) q → AreOwn today (Some locator) (n, text) (q ∷ [])
asked_one today locator n [] q some pass h = absurd cc
asked_one today locator n (c ∷ text) q some pass h =
    let P : Bool → Type 0 = λ b. AreRequests today locator (cond (not b) ((n, c ∷ text) ∷ []) []) (q ∷ []) in
    subst P (sym pass) (h, tt)

-- ---- a stop

opened_memory : (o : Option (List ℕ)) → after_heading o ≡ Err kinds.Memory → ⊥
opened_memory None e = absurd cc
opened_memory (Some locator) e = absurd cc

asked_memory : (locator : List ℕ) (r : Result Undated LineFault) → after_segment locator r ≡ Err kinds.Memory → ⊥
asked_memory locator (Ok u) e = absurd cc
asked_memory locator (Err fault) e = absurd cc

other_memory : (b : Bool) (locator : List ℕ) (r : Result Undated LineFault)
    → cond b (gives (Some locator)) (after_segment locator r) ≡ Err kinds.Memory → ⊥
other_memory true locator r e = absurd cc
other_memory false locator r e = asked_memory locator r e

-- no line has a fault of memory
pub never_memory : (message : Message) (text : List ℕ) → step message text ≡ Err kinds.Memory → ⊥
never_memory None [] e = absurd cc
never_memory (Some locator) [] e = absurd cc
never_memory None (c ∷ text) e = opened_memory (heading_at (c ∷ text)) e
never_memory (Some locator) (c ∷ text) e = other_memory (is_passed_over (c ∷ text)) locator (undated_at (c ∷ text)) e

-- ---- a line's own request, for which room was wanted

has_asked : (today : ℕ) (locator : List ℕ) (line : Line) (q : Request) (next : Message) (b : Bool)
    (r : Result Undated LineFault)
    → cond b (gives (Some locator)) (after_segment locator r) ≡ Ok next
    → AreRequests today locator (cond (not b) (line ∷ []) []) (q ∷ []) → IsTrue (not b) × IsOk r
has_asked today locator line q next true r e h = absurd h
has_asked today locator line q next false (Ok u) e h = (refl, refl)
has_asked today locator line q next false (Err fault) e h = absurd (apart next (kinds.Line fault) (sym e))

pub has_own : (today : ℕ) (message next : Message) (n : ℕ) (text : List ℕ) (o : Option Request)
    → step message text ≡ Ok next → AreOwn today message (n, text) (option_to_list o) → IsSome o
    → HasRequest message text
has_own today message next n text None e h some = absurd cc
has_own today None next n text (Some q) e h some = absurd cc
has_own today (Some locator) next n [] (Some q) e h some = absurd cc
has_own today (Some locator) next n (c ∷ text) (Some q) e h some =
    has_asked today locator (n, c ∷ text) q next (is_passed_over (c ∷ text)) (undated_at (c ∷ text)) e h
