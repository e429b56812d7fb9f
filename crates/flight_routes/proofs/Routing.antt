-- How far a script is routed: its lines so far are right, and the text has their routes.
use Rattle.std.proofs.Common.{◌≡◌, ◌≢◌, inl, inr, ℕ, suc, ◌+◌, ◌-◌, ◌<◌, List, [], ◌∷◌, ◌++◌, length, map, get_or, Some, None, Ok, Err, refl, sym, ap, subst, ◌∙◌, arith, append_assoc, append-nil}
use Rattle.std.specs.Str.Lines.{lines}
use Rattle.std.proofs.lemmas.Grind.{flat_map-append}
use Rattle.std.proofs.lemmas.List.{nil_from_length}
use Rattle.airline_base.specs.Lines.{line_at}
use Rattle.airline_base.specs.Reach.{fault_at, reach}
use Rattle.airline_base.proofs.LineCuts.{Cut, lines_are}
use Rattle.airline_base.proofs.Reaches.{reach_one}
use Rattle.airimp_lines.specs.Steps.{IsFirstFault, IsStop, Message, WantsRoom, at_end, next, step}
use Rattle.airimp_lines.specs.declared.fault.ScriptKind.{ScriptKind}
use Rattle.airimp_lines.specs.declared.fault.ScriptKind.TheVariants as kinds
use Rattle.script_refusals.specs.Cleaning.{refusals_from, refusals_of, text_of, whole_lines}
use Rattle.script_refusals.specs.declared.cleaning.Passage.TheVariants.{Right}
use Rattle.script_refusals.proofs.Lines.{texts_of_lines, whole_lines_are}
use Rattle.flight_routes.specs.ScriptRoutes.{Open, message_of, open_behind, own_routes, route_text, routes_from, routes_of, routes_text}

pub record IsRouted (shards session : ℕ) (bytes : List ℕ) (line : ℕ) (now : Open) (rest text : List ℕ) : Type 0 where
  pub reached : reach next None bytes line ≡ Ok (message_of now, rest)
  pub right : refusals_of bytes ≡ refusals_from (Right (message_of now)) (line + 1) (whole_lines rest)
  pub written : routes_text session (routes_of shards bytes) ≡ text ++ routes_text session (routes_from shards now (line + 1) (lines rest))

pub at_start : (shards session : ℕ) (bytes text : List ℕ) → text ≡ [] → IsRouted shards session bytes 0 None bytes text
unfolding reach
at_start shards session bytes text none = rw none (record { reached = refl; right = refl; written = refl })

-- ---- one line further

next_is : (message after : Message) (rest : List ℕ) → step message (line_at rest).0 ≡ Ok after → next message rest ≡ Ok (after, (line_at rest).1)
unfolding next
next_is message after rest e = rw e refl

first_of : (xs ys : List (List ℕ)) (x y : List ℕ) → x ∷ xs ≡ y ∷ ys → x ≡ y
first_of xs ys x y e = ap (λ (all : List (List ℕ)). get_or all 0 []) e

-- the first line with its end, and the lines behind it
record IsFirstLine (rest : List ℕ) : Type 0 where
  whole : List ℕ
  all : whole_lines rest ≡ whole ∷ whole_lines (line_at rest).1
  text : text_of whole ≡ (line_at rest).0

first_line : (rest : List ℕ) → 0 < length rest → IsFirstLine rest
unfolding line_at
first_line rest some =
    let are = whole_lines_are rest some in
    record {
      whole = _;
      all = are;
      text = first_of _ _ _ _ (sym (ap (λ (whole : List (List ℕ)). map text_of whole) are) ∙ (sym (texts_of_lines rest) ∙ lines_are rest some));
    }

right_on : (message after : Message) (n : ℕ) (rest : List ℕ) → 0 < length rest → step message (line_at rest).0 ≡ Ok after
    → refusals_from (Right message) n (whole_lines rest) ≡ refusals_from (Right after) (n + 1) (whole_lines (line_at rest).1)
right_on message after n rest some e =
    let f = first_line rest some in
    let own : step message (text_of f.whole) ≡ Ok after = ap (step message) f.text ∙ e in
    rw (f.all, own) refl

written_on : (shards session n : ℕ) (now : Open) (rest text : List ℕ) → 0 < length rest
    → text ++ routes_text session (routes_from shards now n (lines rest))
    ≡ (text ++ routes_text session (own_routes shards now (n, (line_at rest).0)))
    ++ routes_text session (routes_from shards (open_behind now (line_at rest).0) (n + 1) (lines (line_at rest).1))
written_on shards session n now rest text some =
    let own = own_routes shards now (n, (line_at rest).0) in
    let others = routes_from shards (open_behind now (line_at rest).0) (n + 1) (lines (line_at rest).1) in
    ap (λ (texts : List (List ℕ)). text ++ routes_text session (routes_from shards now n texts)) (lines_are rest some)
    ∙ ap (λ (xs : List ℕ). text ++ xs) (flat_map-append (route_text session) own others)
    ∙ sym (append_assoc text (routes_text session own) (routes_text session others))

at_next : (shards session : ℕ) (bytes : List ℕ) (line : ℕ) (now goes : Open) (rest text more : List ℕ)
    → IsRouted shards session bytes line now rest text → 0 < length rest
    → step (message_of now) (line_at rest).0 ≡ Ok (message_of goes) → goes ≡ open_behind now (line_at rest).0
    → more ≡ text ++ routes_text session (own_routes shards now (line + 1, (line_at rest).0))
    → IsRouted shards session bytes (line + 1) goes (line_at rest).1 more
at_next shards session bytes line now goes rest text more at some e opens adds =
    let one : line + 1 ≡ suc line = omega arith in
    record {
      reached = ap (reach next None bytes) one ∙ reach_one next None bytes line (message_of now, rest) at.reached ∙ next_is (message_of now) (message_of goes) rest e;
      right = at.right ∙ right_on (message_of now) (message_of goes) (line + 1) rest some e;
      written = at.written ∙ written_on shards session (line + 1) now rest text some
          ∙ ap (λ (xs : List ℕ). xs ++ routes_text session (routes_from shards (open_behind now (line_at rest).0) (line + 1 + 1) (lines (line_at rest).1))) (sym adds)
          ∙ ap (λ (o : Open). more ++ routes_text session (routes_from shards o (line + 1 + 1) (lines (line_at rest).1))) (sym opens);
    }

pub cut_next : (shards session : ℕ) (bytes : List ℕ) (line : ℕ) (now goes : Open) (rest words after text more : List ℕ)
    → Cut words after rest → IsRouted shards session bytes line now rest text → 0 < length rest
    → step (message_of now) words ≡ Ok (message_of goes) → goes ≡ open_behind now words
    → more ≡ text ++ routes_text session (own_routes shards now (line + 1, words))
    → IsRouted shards session bytes (line + 1) goes after more
cut_next shards session bytes line now goes rest words after text more cut at some e opens adds =
    let w : words ≡ (line_at rest).0 = ap (λ (p : List ℕ × List ℕ). p.0) cut in
    let a : after ≡ (line_at rest).1 = ap (λ (p : List ℕ × List ℕ). p.1) cut in
    let e2 : step (message_of now) (line_at rest).0 ≡ Ok (message_of goes) = subst (λ (x : List ℕ). step (message_of now) x ≡ Ok (message_of goes)) w e in
    let o2 : goes ≡ open_behind now (line_at rest).0 = subst (λ (x : List ℕ). goes ≡ open_behind now x) w opens in
    let a2 : more ≡ text ++ routes_text session (own_routes shards now (line + 1, (line_at rest).0)) =
    subst (λ (x : List ℕ). more ≡ text ++ routes_text session (own_routes shards now (line + 1, x))) w adds in
    subst (λ (x : List ℕ). IsRouted shards session bytes (line + 1) goes x more) (sym a) (at_next shards session bytes line now goes rest text more at some e2 o2 a2)

-- ---- the end

pub all_written : (shards session : ℕ) (bytes : List ℕ) (line : ℕ) (now : Open) (rest text : List ℕ)
    → IsRouted shards session bytes line now rest text → length rest ≡ 0 → text ≡ routes_text session (routes_of shards bytes)
all_written shards session bytes line now rest text at none =
    let e : rest ≡ [] = nil_from_length rest none in
    sym (at.written ∙ ap (λ (x : List ℕ). text ++ routes_text session (routes_from shards now (line + 1) (lines x))) e ∙ append-nil text)

pub all_right : (shards session : ℕ) (bytes : List ℕ) (line : ℕ) (now : Open) (rest text : List ℕ)
    → IsRouted shards session bytes line now rest text → length rest ≡ 0 → refusals_of bytes ≡ []
all_right shards session bytes line now rest text at none =
    let e : rest ≡ [] = nil_from_length rest none in
    at.right ∙ ap (λ (x : List ℕ). refusals_from (Right (message_of now)) (line + 1) (whole_lines x)) e

-- ---- a refusal

fails_at : (message : Message) (rest : List ℕ) (kind : ScriptKind) → step message (line_at rest).0 ≡ Err kind
    → fault_at next at_end message rest ≡ Some kind
unfolding next line_at
fails_at message [] kind e = absurd (none message e)
  where
    none : (m : Message) → step m [] ≡ Err kind → ⊥
    none None h = cc
    none (Some locator) h = cc
fails_at message (c ∷ rest) kind e = rw e refl

pub at_fault : (shards session : ℕ) (bytes : List ℕ) (line : ℕ) (now : Open) (rest text : List ℕ) (kind : ScriptKind)
    → IsRouted shards session bytes line now rest text → IsStop (message_of now) (line_at rest).0 kind → kind ≢ kinds.Memory
    → IsFirstFault bytes (line + 1) kind
at_fault shards session bytes line now rest text kind at (inl e) other =
    let one : line + 1 - 1 ≡ line = omega arith in
    (message_of now, rest, omega arith, ap (reach next None bytes) one ∙ at.reached, fails_at (message_of now) rest kind e)
at_fault shards session bytes line now rest text kind at (inr memory) other = absurd (other memory.0)

pub at_memory : (shards session : ℕ) (bytes : List ℕ) (line : ℕ) (now : Open) (rest text : List ℕ) (kind : ScriptKind)
    → IsRouted shards session bytes line now rest text → IsStop (message_of now) (line_at rest).0 kind → kind ≡ kinds.Memory
    → WantsRoom bytes (line + 1)
at_memory shards session bytes line now rest text kind at (inl e) is =
    absurd (Rattle.airimp_lines.proofs.Passing.never_memory (message_of now) (line_at rest).0 (subst (λ (k : ScriptKind). step (message_of now) (line_at rest).0 ≡ Err k) is e))
at_memory shards session bytes line now rest text kind at (inr memory) is =
    let one : line + 1 - 1 ≡ line = omega arith in
    (message_of now, rest, omega arith, ap (reach next None bytes) one ∙ at.reached, memory.1)
