-- Each request of a script, and each row of changes, has one route.
use Rattle.std.proofs.Common.{◌≡◌, ℕ, ◌+◌, ◌%◌, ◌<◌, ◌≤◌, List, [], ◌∷◌, ◌++◌, map, Some, None, Result, Ok, Err, refl, sym, ap, subst, ◌∙◌, arith, Bool, true, false, cond, not}
use Rattle.std.specs.List.{AllByRecursion}
use Rattle.std.specs.Str.Lines.{lines}
use Rattle.std.proofs.Math.Nat.{mod-lt}
use Rattle.std.proofs.lemmas.List.{map-append}
use Rattle.airimp_lines.specs.Messages.{is_passed_over}
use Rattle.airimp_lines.specs.Script.{AreRequests, IsScript, Line}
use Rattle.airimp_lines.specs.Steps.{AreOwn, Message, step}
use Rattle.airimp_lines.specs.Reading.{undated_at}
use Rattle.airimp_lines.specs.declared.fault.LineFault.{LineFault}
use Rattle.airimp_lines.specs.declared.fault.ScriptKind.{ScriptKind}
use Rattle.airimp_lines.specs.declared.requests.Request.{Request}
use Rattle.airimp_lines.specs.declared.segment.Undated.{Undated}
use Rattle.seat_limits.specs.ChangeRows.{SpellsChanges}
use Rattle.seat_limits.specs.declared.change_row.ChangeRow.{ChangeRow}
use Rattle.script_refusals.specs.Asking.{AreAsked, AreAskedAfter}
use Rattle.script_refusals.specs.Cleaning.{at_start, own_refusal, passage_after, refusals_from, refused_for, text_of, whole_lines}
use Rattle.script_refusals.specs.declared.cleaning.Passage.TheVariants.{Right}
use Rattle.script_refusals.proofs.Asking.{right_lines, stays}
use Rattle.script_refusals.proofs.Lines.{texts_of_lines}
use Rattle.flight_routes.specs.Laws.{EachLineHasOneShard, EachRowHasOneShard, IsShard, row_sent_for, row_sent_of, sent_for, sent_of}
use Rattle.flight_routes.specs.RowRoutes.{RowRoute, own_row, row_routes_from, rows_left}
use Rattle.flight_routes.specs.ScriptRoutes.{Open, Route, message_of, open_after, open_behind, open_with, own_routes, routes_from, routes_read}
use Rattle.flight_routes.specs.Shards.{fnv_of, shard_of}
use Rattle.flight_routes.specs.declared.script_routes.Opening.{Opening}
use Rattle.flight_routes.proofs.Openings.{own_routes_are, route_by}

-- ---- a shard is one of those there are

pub is_shard : (shards : ℕ) (name : List ℕ) → 1 ≤ shards → IsShard shards (shard_of shards name)
is_shard shards name some =
    let below : fnv_of name % shards < shards = mod-lt (fnv_of name) some in
    (omega arith, omega (arith, below))

all_joined : {A : Type 0} (P : A → Type 0) (xs ys : List A) → AllByRecursion P xs → AllByRecursion P ys → AllByRecursion P (xs ++ ys)
all_joined P [] ys h k = k
all_joined P (x ∷ xs) ys h k = (h.0, all_joined P xs ys h.1 k)

-- ---- one line

own_locators : (today : ℕ) (opening : Opening) (n : ℕ) (text : List ℕ) (own : List Request) (shards : ℕ)
    → AreOwn today (Some opening.locator) (n, text) own → map sent_of (map (route_by shards opening text) own) ≡ map (sent_for shards) own
own_locators today opening n text [] shards h = refl
own_locators today opening n text (q ∷ r ∷ own) shards h = absurd (two text h)
  where
    asked : (line : Line) (b : Bool) → AreRequests today opening.locator (cond (not b) (line ∷ []) []) (q ∷ r ∷ own) → ⊥
    asked line true k = k
    asked line false k = k.1

    two : (text : List ℕ) → AreOwn today (Some opening.locator) (n, text) (q ∷ r ∷ own) → ⊥
    two [] k = cc
    two (c ∷ text) k = asked (n, c ∷ text) (is_passed_over (c ∷ text)) k
own_locators today opening n text (q ∷ []) shards h =
    let own : q.locator ≡ opening.locator = one text h in
    ap (λ (locator : List ℕ). (q.line, locator, (route_by shards opening text q).shard) ∷ []) (sym own)
  where
    asked : (line : Line) (b : Bool) → AreRequests today opening.locator (cond (not b) (line ∷ []) []) (q ∷ []) → q.locator ≡ opening.locator
    asked line true k = absurd k
    asked line false k = k.0.own_locator

    one : (text : List ℕ) → AreOwn today (Some opening.locator) (n, text) (q ∷ []) → q.locator ≡ opening.locator
    one [] k = absurd cc
    one (c ∷ text) k = asked (n, c ∷ text) (is_passed_over (c ∷ text)) k

own_sent : (today shards : ℕ) (now : Open) (n : ℕ) (text : List ℕ) (own : List Request) → AreOwn today (message_of now) (n, text) own
    → map sent_of (own_routes shards now (n, text)) ≡ map (sent_for shards) own
own_sent today shards None n text own h = ap (map (sent_for shards)) (sym h)
own_sent today shards (Some opening) n text own h =
    ap (map sent_of) (own_routes_are today shards opening n text own h) ∙ own_locators today opening n text own shards h

read_within : (shards : ℕ) (opening : Opening) (line : Line) (r : Result Undated LineFault) → 1 ≤ shards
    → AllByRecursion (λ (x : Route). IsShard shards x.shard) (routes_read shards opening line r)
read_within shards opening line (Ok u) some = (is_shard shards _ some, tt)
read_within shards opening line (Err fault) some = tt

own_within : (shards : ℕ) (now : Open) (n : ℕ) (text : List ℕ) → 1 ≤ shards
    → AllByRecursion (λ (x : Route). IsShard shards x.shard) (own_routes shards now (n, text))
own_within shards None n text some = tt
own_within shards (Some opening) n [] some = tt
own_within shards (Some opening) n (c ∷ text) some = by (is_passed_over (c ∷ text))
  where
    by : (b : Bool) → AllByRecursion (λ (x : Route). IsShard shards x.shard)
        (cond b [] (routes_read shards opening (n, c ∷ text) (undated_at (c ∷ text))))
    by true = tt
    by false = read_within shards opening (n, c ∷ text) (undated_at (c ∷ text)) some

-- ---- all lines

from_within : (shards : ℕ) (now : Open) (n : ℕ) (texts : List (List ℕ)) → 1 ≤ shards
    → AllByRecursion (λ (x : Route). IsShard shards x.shard) (routes_from shards now n texts)
from_within shards now n [] some = tt
from_within shards now n (text ∷ texts) some =
    all_joined (λ (x : Route). IsShard shards x.shard) (own_routes shards now (n, text)) (routes_from shards (open_behind now text) (n + 1) texts)
    (own_within shards now n text some) (from_within shards (open_behind now text) (n + 1) texts some)

with_is : (now : Open) (text : List ℕ) (goes : Message) → message_of (open_with now text goes) ≡ goes
with_is None text None = refl
with_is (Some opening) text None = refl
with_is None text (Some locator) = refl
with_is (Some opening) text (Some locator) = refl

cons_nil : {A : Type 0} {x : A} {xs : List A} → ◌≡◌ {A = List A} (x ∷ xs) [] → ⊥
cons_nil h = cc

-- a line with its own, and those behind it
sent_on : (today shards : ℕ) (now : Open) (n : ℕ) (line : List ℕ) (whole : List (List ℕ)) (all own others : List Request)
    (r : Result Message ScriptKind) → step (message_of now) (text_of line) ≡ r
    → AreAskedAfter today (message_of now) (n, text_of line) r own
    → own_refusal n (refused_for r) ++ refusals_from (passage_after (message_of now) (text_of line) r) (n + 1) whole ≡ []
    → AreAsked today (passage_after (message_of now) (text_of line) r) (n + 1) (map text_of whole) others
    → all ≡ own ++ others
    → (refusals_from (Right (message_of (open_behind now (text_of line)))) (n + 1) whole ≡ []
    → AreAsked today (Right (message_of (open_behind now (text_of line)))) (n + 1) (map text_of whole) others
    → map sent_of (routes_from shards (open_behind now (text_of line)) (n + 1) (map text_of whole)) ≡ map (sent_for shards) others)
    → map sent_of (routes_from shards now n (text_of line ∷ map text_of whole)) ≡ map (sent_for shards) all
sent_on today shards now n line whole all own others (Err kind) e asks right rest joined on = absurd (cons_nil right)
sent_on today shards now n line whole all own others (Ok goes) e asks right rest joined on =
    let text = text_of line in
    let is : message_of (open_behind now text) ≡ goes = ap (λ (r : Result Message ScriptKind). message_of (open_after now text r)) e ∙ with_is now text goes in
    let none : refusals_from (Right (message_of (open_behind now text))) (n + 1) whole ≡ [] =
    subst (λ (m : Message). refusals_from (Right m) (n + 1) whole ≡ []) (sym is) right in
    let left : AreAsked today (Right (message_of (open_behind now text))) (n + 1) (map text_of whole) others =
    subst (λ (m : Message). AreAsked today (Right m) (n + 1) (map text_of whole) others) (sym is) rest in
    let behind = routes_from shards (open_behind now text) (n + 1) (map text_of whole) in
    map-append sent_of (own_routes shards now (n, text)) behind
    ∙ ap (λ (xs : List (ℕ × List ℕ × ℕ)). xs ++ map sent_of behind) (own_sent today shards now n text own asks)
    ∙ ap (λ (xs : List (ℕ × List ℕ × ℕ)). map (sent_for shards) own ++ xs) (on none left)
    ∙ sym (map-append (sent_for shards) own others)
    ∙ ap (map (sent_for shards)) (sym joined)

from_sent : (today shards : ℕ) (now : Open) (n : ℕ) (whole : List (List ℕ)) (all : List Request)
    → refusals_from (Right (message_of now)) n whole ≡ [] → AreAsked today (Right (message_of now)) n (map text_of whole) all
    → map sent_of (routes_from shards now n (map text_of whole)) ≡ map (sent_for shards) all
from_sent today shards now n [] all right asked = ap (map (sent_for shards)) (sym asked)
from_sent today shards now n (line ∷ whole) all right (own, others, asks, more, joined) =
    sent_on today shards now n line whole all own others (step (message_of now) (text_of line)) refl asks right more joined
    (λ none rest. from_sent today shards (open_behind now (text_of line)) (n + 1) whole others none rest)

pub lines_are_sent : EachLineHasOneShard
lines_are_sent today shards script requests some h =
    let same = stays today script requests h in
    let asked = (right_lines today script requests).0 (subst (λ (bytes : List ℕ). IsScript today bytes requests) (sym same.0) h) in
    let left : AreAsked today at_start 1 (map text_of (whole_lines script)) requests =
    subst (λ (texts : List (List ℕ)). AreAsked today at_start 1 texts requests) (texts_of_lines script) asked in
    record {
      each = ap (λ (texts : List (List ℕ)). map sent_of (routes_from shards None 1 texts)) (texts_of_lines script)
          ∙ from_sent today shards None 1 (whole_lines script) requests same.1 left;
      within = from_within shards None 1 (lines script) some;
    }

-- ---- rows of changes

row_within : (shards : ℕ) (text : List ℕ) (rows : List ChangeRow) → 1 ≤ shards
    → AllByRecursion (λ (x : RowRoute). IsShard shards x.shard) (own_row shards text rows)
row_within shards [] rows some = tt
row_within shards (c ∷ text) [] some = tt
row_within shards (c ∷ text) (row ∷ rows) some = (is_shard shards _ some, tt)

rows_within : (shards : ℕ) (texts : List (List ℕ)) (rows : List ChangeRow) → 1 ≤ shards
    → AllByRecursion (λ (x : RowRoute). IsShard shards x.shard) (row_routes_from shards texts rows)
rows_within shards [] rows some = tt
rows_within shards (text ∷ texts) rows some =
    all_joined (λ (x : RowRoute). IsShard shards x.shard) (own_row shards text rows) (row_routes_from shards texts (rows_left text rows))
    (row_within shards text rows some) (rows_within shards texts (rows_left text rows) some)

rows_sent : (shards n : ℕ) (texts : List (List ℕ)) (rows : List ChangeRow) → SpellsChanges n texts rows
    → map row_sent_of (row_routes_from shards texts rows) ≡ map (row_sent_for shards) rows
rows_sent shards n [] [] h = refl
rows_sent shards n [] (row ∷ rows) h = absurd h
rows_sent shards n ([] ∷ texts) rows h = rows_sent shards (n + 1) texts rows h
rows_sent shards n ((c ∷ text) ∷ texts) [] h = absurd h
rows_sent shards n ((c ∷ text) ∷ texts) (row ∷ rows) h =
    ap (λ (xs : List (ℕ × ℕ)). row_sent_for shards row ∷ xs) (rows_sent shards (n + 1) texts rows h.1)

pub rows_are_sent : EachRowHasOneShard
rows_are_sent shards bytes rows some h = record {
  each = rows_sent shards 1 (lines bytes) rows h.spelled;
  within = rows_within shards (lines bytes) rows some;
}
