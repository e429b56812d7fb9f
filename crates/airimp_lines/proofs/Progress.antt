-- How far a script is read: what was found so far, and what remains.
use Rattle.std.proofs.Common.{◌≡◌, ◌≢◌, inl, inr, ◌==◌, Bool, true, false, ℕ, suc, ◌+◌, ◌-◌, ◌<◌, List, [], ◌∷◌, ◌++◌, length, Some, None, Ok, Err, refl, sym, ap, subst, ◌∙◌, arith, append_assoc, append-nil}
use Rattle.std.specs.Str.Lines.{lines}
use Rattle.std.proofs.lemmas.Bool.Decides.{nat_tests}
use Rattle.std.proofs.lemmas.List.{nil_from_length}
use Rattle.airimp_lines.specs.declared.fault.ScriptKind.{ScriptKind}
use Rattle.airimp_lines.specs.declared.fault.ScriptKind.TheVariants as kinds
use Rattle.airimp_lines.specs.declared.requests.Request.{Request}
use Rattle.airline_base.specs.Lines.{line_at}
use Rattle.airline_base.specs.Reach.{reach, fault_at}
use Rattle.airimp_lines.specs.Script.{IsScript}
use Rattle.airimp_lines.specs.Steps.{Message, step, next, at_end, Adds, IsStop, IsFirstFault, WantsRoom}
use Rattle.airline_base.proofs.LineCuts.{Cut, lines_are}
use Rattle.airimp_lines.proofs.Passing.{Behind, onward, behind, none_remain, never_memory}
use Rattle.airline_base.proofs.Reaches.{reach_one}
use Rattle.airimp_lines.proofs.Remaining.{Remain}

-- these requests are those of the first lines, so many; the message goes on; the rest is left
pub record IsAt (today : ℕ) (bytes : List ℕ) (line : ℕ) (message : Message) (rest : List ℕ) (requests : List Request) : Type 0 where
  pub reached : reach next None bytes line ≡ Ok (message, rest)
  pub leads : (others : List Request) → Remain today message (line + 1) (lines rest) others
      → IsScript today bytes (requests ++ others)
  pub traces : (all : List Request) → IsScript today bytes all
      → Behind today message (line + 1) (lines rest) requests all

pub at_start : (today : ℕ) (bytes : List ℕ) → IsAt today bytes 0 None bytes []
unfolding reach
at_start today bytes = record {
  reached = refl;
  leads = λ others h. h;
  traces = λ all h. record { others = all; joined = refl; remain = h };
}

-- the line and those behind it
front : (today : ℕ) (message : Message) (n : ℕ) (rest : List ℕ) (others : List Request) → 0 < length rest
    → Remain today message n ((line_at rest).0 ∷ lines (line_at rest).1) others
    → Remain today message n (lines rest) others
front today message n rest others some h = subst (λ (texts : List (List ℕ)). Remain today message n texts others) (sym (lines_are rest some)) h

split : (today : ℕ) (message : Message) (n : ℕ) (rest : List ℕ) (others : List Request) → 0 < length rest
    → Remain today message n (lines rest) others
    → Remain today message n ((line_at rest).0 ∷ lines (line_at rest).1) others
split today message n rest others some h = subst (λ (texts : List (List ℕ)). Remain today message n texts others) (lines_are rest some) h

next_is : (message after : Message) (rest : List ℕ) → step message (line_at rest).0 ≡ Ok after
    → next message rest ≡ Ok (after, (line_at rest).1)
unfolding next
next_is message after rest e = rw e refl

next_fails : (message : Message) (rest : List ℕ) (kind : ScriptKind) → step message (line_at rest).0 ≡ Err kind
    → next message rest ≡ Err kind
unfolding next
next_fails message rest kind e = rw e refl

-- one line further
pub at_next : (today : ℕ) (bytes : List ℕ) (line : ℕ) (message after : Message) (rest : List ℕ)
    (requests more : List Request)
    → IsAt today bytes line message rest requests → 0 < length rest → step message (line_at rest).0 ≡ Ok after
    → Adds today message (line + 1, (line_at rest).0) requests more
    → IsAt today bytes (line + 1) after (line_at rest).1 more
at_next today bytes line message after rest requests more at some e adds =
    let text = (line_at rest).0 in
    let texts = lines (line_at rest).1 in
    let one : line + 1 ≡ suc line = omega arith in
    record {
      reached = ap (reach next None bytes) one ∙ reach_one next None bytes line (message, rest) at.reached ∙ next_is message after rest e;
      leads = λ others h.
          subst (IsScript today bytes) (sym (append_assoc requests adds.added others) ∙ ap (λ (x : List Request). x ++ others) (sym adds.all)) (at.leads (adds.added ++ others) (front today message (line + 1) rest (adds.added ++ others) some (onward today message after (line + 1) text texts adds.added others e adds.asked h)));
      traces = λ all h.
          let before = at.traces all h in
          let b = behind today message after (line + 1) text texts adds.added before.others e adds.asked (split today message (line + 1) rest before.others some before.remain) in
          record {
            others = b.others;
            joined = before.joined ∙ ap (λ (x : List Request). requests ++ x) b.joined ∙ sym (append_assoc requests adds.added b.others) ∙ ap (λ (x : List Request). x ++ b.others) (sym adds.all);
            remain = b.remain;
          };
    }

-- ---- the end

none_left : (today : ℕ) (message : Message) (n : ℕ) → Remain today message n (lines []) []
none_left today None n = ([], [], refl, refl, refl)
none_left today (Some locator) n = ([], [], tt, refl, refl)

only_none : (today : ℕ) (message : Message) (n : ℕ) (others : List Request) → Remain today message n (lines []) others
    → others ≡ []
only_none today None n others (own, more, none, rest, all) = all ∙ ap (λ (x : List Request). x ++ more) none ∙ rest
only_none today (Some locator) n others ([], more, none, rest, all) = all ∙ rest
only_none today (Some locator) n others (q ∷ own, more, none, rest, all) = absurd none

pub whole_found : (today : ℕ) (bytes : List ℕ) (line : ℕ) (message : Message) (rest : List ℕ) (requests : List Request)
    → IsAt today bytes line message rest requests → length rest ≡ 0 → IsScript today bytes requests
whole_found today bytes line message rest requests at none =
    let e : rest ≡ [] = nil_from_length rest none in
    let left : Remain today message (line + 1) (lines rest) [] = subst (λ (x : List ℕ). Remain today message (line + 1) (lines x) []) (sym e) (none_left today message (line + 1)) in
    subst (IsScript today bytes) (append-nil requests) (at.leads [] left)

pub whole_only : (today : ℕ) (bytes : List ℕ) (line : ℕ) (message : Message) (rest : List ℕ)
    (requests all : List Request) → IsAt today bytes line message rest requests → length rest ≡ 0
    → IsScript today bytes all → requests ≡ all
whole_only today bytes line message rest requests all at none h =
    let e : rest ≡ [] = nil_from_length rest none in
    let b = at.traces all h in
    let left : Remain today message (line + 1) (lines []) b.others = subst (λ (x : List ℕ). Remain today message (line + 1) (lines x) b.others) e b.remain in
    sym (b.joined ∙ ap (λ (x : List Request). requests ++ x) (only_none today message (line + 1) b.others left) ∙ append-nil requests)

-- ---- a refusal

some_rest : (message : Message) (rest : List ℕ) (kind : ScriptKind) → next message rest ≡ Err kind
    → fault_at next at_end message rest ≡ Some kind
unfolding next line_at
some_rest message [] kind e = absurd cc
some_rest message (c ∷ rest) kind e = rw e refl

no_script : (today : ℕ) (bytes : List ℕ) (line : ℕ) (message : Message) (rest : List ℕ) (requests all : List Request)
    (kind : ScriptKind)
    → IsAt today bytes line message rest requests → 0 < length rest → step message (line_at rest).0 ≡ Err kind
    → IsScript today bytes all → ⊥
no_script today bytes line message rest requests all kind at some e h =
    let b = at.traces all h in
    none_remain today message (line + 1) (line_at rest).0 (lines (line_at rest).1) b.others kind e (split today message (line + 1) rest b.others some b.remain)

-- a fault is the first
pub at_fault : (today : ℕ) (bytes : List ℕ) (line : ℕ) (message : Message) (rest : List ℕ) (requests : List Request)
    (kind : ScriptKind)
    → IsAt today bytes line message rest requests → IsStop message (line_at rest).0 kind → kind ≢ kinds.Memory
    → IsFirstFault bytes (line + 1) kind
at_fault today bytes line message rest requests kind at (inl e) other =
    let one : line + 1 - 1 ≡ line = omega arith in
    (message, rest, omega arith, ap (reach next None bytes) one ∙ at.reached, some_rest message rest kind (next_fails message rest kind e))
at_fault today bytes line message rest requests kind at (inr memory) other = absurd (other memory.0)

-- memory is wanted where no line has a fault
pub at_memory : (today : ℕ) (bytes : List ℕ) (line : ℕ) (message : Message) (rest : List ℕ) (requests : List Request)
    (kind : ScriptKind)
    → IsAt today bytes line message rest requests → IsStop message (line_at rest).0 kind → kind ≡ kinds.Memory
    → WantsRoom bytes (line + 1)
at_memory today bytes line message rest requests kind at (inl e) is = absurd (never_memory message (line_at rest).0 (subst (λ (k : ScriptKind). step message (line_at rest).0 ≡ Err k) is e))
at_memory today bytes line message rest requests kind at (inr memory) is =
    let one : line + 1 - 1 ≡ line = omega arith in
    (message, rest, omega arith, ap (reach next None bytes) one ∙ at.reached, memory.1)

pub stop_only : (today : ℕ) (bytes : List ℕ) (line : ℕ) (message : Message) (rest : List ℕ)
    (requests all : List Request) (kind : ScriptKind)
    → IsAt today bytes line message rest requests → 0 < length rest → IsStop message (line_at rest).0 kind
    → IsScript today bytes all → kind ≡ kinds.Memory
stop_only today bytes line message rest requests all kind at some (inl e) h = absurd (no_script today bytes line message rest requests all kind at some e h)
stop_only today bytes line message rest requests all kind at some (inr memory) h = memory.0

-- ---- the line that was cut off

pub cut_next : (today : ℕ) (bytes : List ℕ) (line : ℕ) (message goes : Message) (rest text after : List ℕ)
    (requests more : List Request)
    → Cut text after rest → IsAt today bytes line message rest requests → 0 < length rest → step message text ≡ Ok goes
    → Adds today message (line + 1, text) requests more → IsAt today bytes (line + 1) goes after more
cut_next today bytes line message goes rest text after requests more cut at some e adds =
    let t : text ≡ (line_at rest).0 = ap (λ (p : List ℕ × List ℕ). p.0) cut in
    let a : after ≡ (line_at rest).1 = ap (λ (p : List ℕ × List ℕ). p.1) cut in
    let f : step message (line_at rest).0 ≡ Ok goes = subst (λ (x : List ℕ). step message x ≡ Ok goes) t e in
    let s : Adds today message (line + 1, (line_at rest).0) requests more = subst (λ (x : List ℕ). Adds today message (line + 1, x) requests more) t adds in
    subst (λ (x : List ℕ). IsAt today bytes (line + 1) goes x more) (sym a) (at_next today bytes line message goes rest requests more at some f s)

pub cut_stop : (message : Message) (rest text after : List ℕ) (kind : ScriptKind) → Cut text after rest
    → IsStop message text kind → IsStop message (line_at rest).0 kind
cut_stop message rest text after kind cut h = subst (λ (x : List ℕ). IsStop message x kind) (ap (λ (p : List ℕ × List ℕ). p.0) cut) h

pub not_done : (b : Bool) (rest : List ℕ) → b ≡ (length rest == 0) → b ≡ false → 0 < length rest
not_done b rest e off = grind (arith, nat_tests)

pub done_is : (b : Bool) (rest : List ℕ) → b ≡ (length rest == 0) → b ≡ true → length rest ≡ 0
done_is b rest e on = grind (arith, nat_tests)
