-- What the right lines of a script ask for is what the script asks for without its wrong lines.
use Rattle.std.proofs.Common.{◌≡◌, ◌↔◌, ◌⊎◌, inl, inr, ℕ, ◌+◌, Bool, ◌&&◌, true, false, List, [], ◌∷◌, ◌++◌, length, map, Some, None, Result, Ok, Err, refl, sym, ap, subst, ◌∙◌, arith}
use Rattle.std.specs.List.{concat, enumerate_from, list_all}
use Rattle.std.specs.Str.Lines.{lines}
use Rattle.airline_base.specs.Lines.{is_line_feed, line_at}
use Rattle.airimp_lines.specs.Messages.{is_name_line, is_service_line}
use Rattle.airimp_lines.specs.Script.{IsScript, Line, runs_of}
use Rattle.airimp_lines.specs.Steps.{AreOwn, Message, step}
use Rattle.airimp_lines.specs.declared.fault.ScriptFault.{ScriptFault}
use Rattle.airimp_lines.specs.declared.fault.ScriptKind.{ScriptKind}
use Rattle.airimp_lines.specs.declared.requests.Request.{Request}
use Rattle.airimp_lines.proofs.Passing.{behind, none_remain, onward}
use Rattle.airimp_lines.proofs.Remaining.{AreLeft, Remain, less_left, part_more, part_split}
use Rattle.script_refusals.specs.Asking.{AreAsked, AreAskedAfter, AreAskedBy, AreRight, RightLinesAreKept, RightScriptsStay}
use Rattle.script_refusals.specs.Cleaning.{at_start, cleaned_lines, cleaned_text, empty_line, kept, kept_after, left_of, line_refused, lines_left, name_line, passage_after, passage_behind, passage_refused, passage_within, refusals_from, refusals_of, text_of, whole_lines}
use Rattle.script_refusals.specs.declared.cleaning.Passage.{Passage}
use Rattle.script_refusals.specs.declared.cleaning.Passage.TheVariants.{Right, Refused}
use Rattle.script_refusals.proofs.Lines.{AreWhole, IsWhole, are_whole, cases, joined, place_of, texts_are, texts_of_lines}

-- ---- lines that ask for nothing

pub empty_text : text_of empty_line ≡ []
unfolding line_at
empty_text = refl

pub name_text : text_of name_line ≡ 49 ∷ []
unfolding line_at
name_text = refl

pub name_step : (locator : List ℕ) → step (Some locator) (49 ∷ []) ≡ Ok (Some locator)
unfolding is_service_line is_name_line
name_step locator = refl

name_own : (today : ℕ) (locator : List ℕ) (n : ℕ) (own : List Request) → own ≡ [] → AreOwn today (Some locator) (n, 49 ∷ []) own
unfolding is_service_line is_name_line
name_own today locator n [] e = tt
name_own today locator n (q ∷ own) e = cc

own_name : (today : ℕ) (locator : List ℕ) (n : ℕ) (own : List Request) → AreOwn today (Some locator) (n, 49 ∷ []) own → own ≡ []
unfolding is_service_line is_name_line
own_name today locator n [] h = refl
own_name today locator n (q ∷ own) h = absurd h

-- ---- one line

-- the message that is open at a place of the script without its wrong lines
abbrev pub message_at : Passage → Message
message_at (Right message) = message
message_at Refused = None

-- what stands in a line's place leads on as the script does
pub record IsStep (today number : ℕ) (passage : Passage) (line : List ℕ) : Type 0 where
  pub stepped : step (message_at passage) (text_of (kept passage line)) ≡ Ok (message_at (passage_behind passage (text_of line)))
  pub leads : (own : List Request) → AreAskedBy today passage (number, text_of line) own
      → AreOwn today (message_at passage) (number, text_of (kept passage line)) own
  pub traces : (own : List Request) → AreOwn today (message_at passage) (number, text_of (kept passage line)) own
      → AreAskedBy today passage (number, text_of line) own

abbrev Stepped : Message → List ℕ → Result Message ScriptKind → Type 0
Stepped message line r = step message (text_of (kept_after message line r)) ≡ Ok (message_at (passage_after message (text_of line) r))

-- the same of a wrong line of a message, by what it would be as the first one of another
within_stepped : (locator : List ℕ) (first : Result Message ScriptKind)
    → step (Some locator) (text_of (line_refused (passage_within locator first))) ≡ Ok (message_at (passage_within locator first))
within_stepped locator (Ok first) = ap (step (Some locator)) empty_text
within_stepped locator (Err kind) = ap (step (Some locator)) name_text ∙ name_step locator

within_to : (today number : ℕ) (locator : List ℕ) (first : Result Message ScriptKind) (own : List Request) → own ≡ []
    → AreOwn today (Some locator) (number, text_of (line_refused (passage_within locator first))) own
within_to today number locator (Ok first) own h = subst (λ (text : List ℕ). AreOwn today (Some locator) (number, text) own) (sym empty_text) h
within_to today number locator (Err kind) own h = subst (λ (text : List ℕ). AreOwn today (Some locator) (number, text) own) (sym name_text) (name_own today locator number own h)

within_from : (today number : ℕ) (locator : List ℕ) (first : Result Message ScriptKind) (own : List Request)
    → AreOwn today (Some locator) (number, text_of (line_refused (passage_within locator first))) own → own ≡ []
within_from today number locator (Ok first) own h = subst (λ (text : List ℕ). AreOwn today (Some locator) (number, text) own) empty_text h
within_from today number locator (Err kind) own h = own_name today locator number own (subst (λ (text : List ℕ). AreOwn today (Some locator) (number, text) own) name_text h)

stepped_of : (message : Message) (line : List ℕ) (r : Result Message ScriptKind) → step message (text_of line) ≡ r
    → Stepped message line r
stepped_of message line (Ok next) e = e
stepped_of None line (Err kind) e = rw empty_text refl
stepped_of (Some locator) line (Err kind) e = within_stepped locator (step None (text_of line))

to_of : (today number : ℕ) (message : Message) (line : List ℕ) (r : Result Message ScriptKind) (own : List Request)
    → AreAskedAfter today message (number, text_of line) r own
    → AreOwn today message (number, text_of (kept_after message line r)) own
to_of today number message line (Ok next) own h = h
to_of today number None line (Err kind) own h = h
to_of today number (Some locator) line (Err kind) own h = within_to today number locator (step None (text_of line)) own h

from_of : (today number : ℕ) (message : Message) (line : List ℕ) (r : Result Message ScriptKind) (own : List Request)
    → AreOwn today message (number, text_of (kept_after message line r)) own
    → AreAskedAfter today message (number, text_of line) r own
from_of today number message line (Ok next) own h = h
from_of today number None line (Err kind) own h = h
from_of today number (Some locator) line (Err kind) own h = within_from today number locator (step None (text_of line)) own h

refused_next : (text : List ℕ) → message_at (passage_behind Refused text) ≡ None
refused_next [] = refl
refused_next (c ∷ text) = refl

pub is_step : (today number : ℕ) (passage : Passage) (line : List ℕ) → IsStep today number passage line
is_step today number (Right message) line = record {
  stepped = stepped_of message line (step message (text_of line)) refl;
  leads = to_of today number message line (step message (text_of line));
  traces = from_of today number message line (step message (text_of line));
}
is_step today number Refused line = record {
  stepped = ap (step None) empty_text ∙ ap (λ (m : Message). Ok m) (sym (refused_next (text_of line)));
  leads = λ own h. h;
  traces = λ own h. h;
}

-- ---- all lines

abbrev texts_at : Passage → List (List ℕ) → List (List ℕ)
texts_at passage whole = map text_of (cleaned_lines passage whole)

none_left : (today : ℕ) (message : Message) (n : ℕ) → Remain today message n [] []
none_left today None n = ([], [], refl, refl, refl)
none_left today (Some locator) n = ([], [], tt, refl, refl)

only_none : (today : ℕ) (message : Message) (n : ℕ) (others : List Request) → Remain today message n [] others → others ≡ []
only_none today None n others (own, more, none, rest, all) = all ∙ ap (λ (x : List Request). x ++ more) none ∙ rest
only_none today (Some locator) n others ([], more, none, rest, all) = all ∙ rest
only_none today (Some locator) n others (q ∷ own, more, none, rest, all) = absurd none

pub asked_remain : (today : ℕ) (passage : Passage) (n : ℕ) (whole : List (List ℕ)) (all : List Request)
    → AreAsked today passage n (map text_of whole) all → Remain today (message_at passage) n (texts_at passage whole) all
asked_remain today passage n [] all h = subst (Remain today (message_at passage) n []) (sym h) (none_left today (message_at passage) n)
asked_remain today passage n (line ∷ whole) all (own, others, asked, more, joined_all) =
    let s = is_step today n passage line in
    let next = passage_behind passage (text_of line) in
    subst (Remain today (message_at passage) n (texts_at passage (line ∷ whole))) (sym joined_all) (onward today (message_at passage) (message_at next) n (text_of (kept passage line)) (texts_at next whole) own others s.stepped (s.leads own asked) (asked_remain today next (n + 1) whole others more))

-- a line has its own requests, where requests remain from it on
own_of : (today : ℕ) (message : Message) (n : ℕ) (text : List ℕ) (texts : List (List ℕ)) (all : List Request)
    → Remain today message n (text ∷ texts) all → (own : List Request) × AreOwn today message (n, text) own
own_of today None n text texts all h = ([], refl)
own_of today (Some locator) n [] texts all h = ([], refl)
own_of today (Some locator) n (c ∷ text) texts all h =
    let l = less_left today locator (n, c ∷ text) (runs_of (enumerate_from (n + 1) texts)) all (part_split (n + 1) texts) (subst (λ (x : List (List Line)). AreLeft today locator x all) (part_more n c text texts) h) in
    (l.own, l.asked)

pub remain_asked : (today : ℕ) (passage : Passage) (n : ℕ) (whole : List (List ℕ)) (all : List Request)
    → Remain today (message_at passage) n (texts_at passage whole) all → AreAsked today passage n (map text_of whole) all
remain_asked today passage n [] all h = only_none today (message_at passage) n all h
remain_asked today passage n (line ∷ whole) all h =
    let s = is_step today n passage line in
    let next = passage_behind passage (text_of line) in
    let own = own_of today (message_at passage) n (text_of (kept passage line)) (texts_at next whole) all h in
    let b = behind today (message_at passage) (message_at next) n (text_of (kept passage line)) (texts_at next whole) own.0 all s.stepped own.1 h in
    (own.0, b.others, s.traces own.0 own.1, remain_asked today next (n + 1) whole b.others b.remain, b.joined)

-- ---- the lines of the script without its wrong ones

with_more : (line : List ℕ) (behind more : List (List ℕ)) → (behind ≡ [] → more ≡ []) → IsWhole line behind → IsWhole line more
with_more line behind more none h = record { some = h.some; only = h.only; ended = of h.ended }
  where
    of : (place_of line + 1 ≡ length line) ⊎ (behind ≡ []) → (place_of line + 1 ≡ length line) ⊎ (more ≡ [])
    of (inl e) = inl e
    of (inr e) = inr (none e)

empty_whole : (more : List (List ℕ)) → IsWhole empty_line more
empty_whole more = record { some = omega arith; only = omega arith; ended = inl refl }

name_whole : (more : List (List ℕ)) → IsWhole name_line more
name_whole more = record { some = omega arith; only = omega arith; ended = inl refl }

refused_whole : (passage : Passage) (more : List (List ℕ)) → IsWhole (line_refused passage) more
refused_whole (Right message) more = name_whole more
refused_whole Refused more = empty_whole more

kept_whole_of : (message : Message) (line : List ℕ) (r : Result Message ScriptKind) (behind more : List (List ℕ))
    → (behind ≡ [] → more ≡ []) → IsWhole line behind → IsWhole (kept_after message line r) more
kept_whole_of message line (Ok next) behind more none h = with_more line behind more none h
kept_whole_of message line (Err kind) behind more none h = refused_whole (passage_refused message (text_of line)) more

kept_whole : (passage : Passage) (line : List ℕ) (behind more : List (List ℕ))
    → (behind ≡ [] → more ≡ []) → IsWhole line behind → IsWhole (kept passage line) more
kept_whole (Right message) line behind more none h = kept_whole_of message line (step message (text_of line)) behind more none h
kept_whole Refused line behind more none h = empty_whole more

pub cleaned_whole : (passage : Passage) (whole : List (List ℕ)) → AreWhole whole → AreWhole (cleaned_lines passage whole)
cleaned_whole passage [] h = tt
cleaned_whole passage (line ∷ whole) h =
    let next = passage_behind passage (text_of line) in
    (kept_whole passage line whole (cleaned_lines next whole) (λ e. rw e refl) h.0, cleaned_whole next whole h.1)

pub cleaned_texts : (bytes : List ℕ) → lines (lines_left bytes) ≡ texts_at at_start (whole_lines bytes)
cleaned_texts bytes = texts_are (cleaned_lines at_start (whole_lines bytes)) (cleaned_whole at_start (whole_lines bytes) (are_whole bytes))

-- ---- empty lines alone

both : (a b : Bool) → (a && b) ≡ true → (a ≡ true) × (b ≡ true)
both true b e = (refl, e)
both false b e = absurd cc

empty_first : (c : ℕ) (text : List ℕ) → list_all is_line_feed (c ∷ text) ≡ true
    → (is_line_feed c ≡ true) × (list_all is_line_feed text ≡ true)
empty_first c text e = both (is_line_feed c) (list_all is_line_feed text) e

feed_text : (c : ℕ) → is_line_feed c ≡ true → text_of (c ∷ []) ≡ []
unfolding line_at
feed_text c e = rw e refl

empty_texts : (c : ℕ) (text : List ℕ) → is_line_feed c ≡ true → map text_of (whole_lines (c ∷ text)) ≡ [] ∷ map text_of (whole_lines text)
empty_texts c text e = rw e (ap (λ (one : List ℕ). one ∷ map text_of (whole_lines text)) (feed_text c e))

-- empty lines ask for nothing
asks_none : (today n : ℕ) (text : List ℕ) (all : List Request) → list_all is_line_feed text ≡ true
    → Remain today None n (map text_of (whole_lines text)) all → all ≡ []
asks_none today n [] all e h = only_none today None n all h
asks_none today n (c ∷ text) all e h =
    let f = empty_first c text e in
    let b = behind today None None n [] (map text_of (whole_lines text)) [] all refl refl (subst (λ (texts : List (List ℕ)). Remain today None n texts all) (empty_texts c text f.0) h) in
    b.joined ∙ asks_none today (n + 1) text b.others f.1 b.remain

none_asked : (today n : ℕ) (text : List ℕ) → list_all is_line_feed text ≡ true
    → Remain today None n (map text_of (whole_lines text)) []
none_asked today n [] e = none_left today None n
none_asked today n (c ∷ text) e =
    let f = empty_first c text e in
    subst (λ (texts : List (List ℕ)). Remain today None n texts []) (sym (empty_texts c text f.0)) (onward today None None n [] (map text_of (whole_lines text)) [] [] refl refl (none_asked today (n + 1) text f.1))

-- so nothing asks for what they ask for
empties_ask : (today : ℕ) (text : List ℕ) (requests : List Request) → list_all is_line_feed text ≡ true
    → IsScript today [] requests ↔ IsScript today text requests
empties_ask today text requests e = (
  λ h. subst (λ (texts : List (List ℕ)). Remain today None 1 texts requests) (sym (texts_of_lines text)) (subst (Remain today None 1 (map text_of (whole_lines text))) (sym (only_none today None 1 requests h)) (none_asked today 1 text e)),
  λ h. subst (Remain today None 1 []) (sym (asks_none today 1 text requests e (subst (λ (texts : List (List ℕ)). Remain today None 1 texts requests) (texts_of_lines text) h))) (none_left today None 1),
)

left_asks : (today : ℕ) (refusals : List ScriptFault) (text : List ℕ) (requests : List Request)
    → IsScript today (left_of refusals text) requests ↔ IsScript today text requests
left_asks today [] text requests = (λ h. h, λ h. h)
left_asks today (fault ∷ refusals) text requests = cases (list_all is_line_feed text) (list_all is_line_feed text) refl
    (λ e. rw e (empties_ask today text requests e))
    (λ e. rw e (λ h. h, λ h. h))

-- ---- laws

pub kept_right : (today : ℕ) (bytes : List ℕ) (requests : List Request)
    → IsScript today (lines_left bytes) requests → AreRight today bytes requests
kept_right today bytes requests h =
    subst (λ (texts : List (List ℕ)). AreAsked today at_start 1 texts requests) (sym (texts_of_lines bytes)) (remain_asked today at_start 1 (whole_lines bytes) requests (subst (λ (texts : List (List ℕ)). Remain today None 1 texts requests) (cleaned_texts bytes) h))

pub right_kept : (today : ℕ) (bytes : List ℕ) (requests : List Request)
    → AreRight today bytes requests → IsScript today (lines_left bytes) requests
right_kept today bytes requests h =
    subst (λ (texts : List (List ℕ)). Remain today None 1 texts requests) (sym (cleaned_texts bytes)) (asked_remain today at_start 1 (whole_lines bytes) requests (subst (λ (texts : List (List ℕ)). AreAsked today at_start 1 texts requests) (texts_of_lines bytes) h))

pub right_lines : RightLinesAreKept
right_lines today bytes requests =
    let left : IsScript today (cleaned_text bytes) requests ↔ IsScript today (lines_left bytes) requests = left_asks today (refusals_of bytes) (lines_left bytes) requests in
    (λ h. kept_right today bytes requests (left.0 h), λ h. left.1 (right_kept today bytes requests h))

-- where a script is read as it stands nothing is refused
pub record IsUnchanged (message : Message) (number : ℕ) (whole : List (List ℕ)) : Type 0 where
  pub same : cleaned_lines (Right message) whole ≡ whole
  pub none : refusals_from (Right message) number whole ≡ []

unchanged_one : (message next : Message) (number : ℕ) (line : List ℕ) (whole : List (List ℕ))
    → step message (text_of line) ≡ Ok next → IsUnchanged next (number + 1) whole → IsUnchanged message number (line ∷ whole)
unchanged_one message next number line whole e h = record {
  same = rw e (ap (λ (lines : List (List ℕ)). line ∷ lines) h.same);
  none = rw e h.none;
}

unchanged_by : (today : ℕ) (message : Message) (number : ℕ) (line : List ℕ) (whole : List (List ℕ)) (all : List Request)
    (r : Result Message ScriptKind) → step message (text_of line) ≡ r
    → Remain today message number (text_of line ∷ map text_of whole) all
    → ((next : Message) (others : List Request) → Remain today next (number + 1) (map text_of whole) others → IsUnchanged next (number + 1) whole)
    → IsUnchanged message number (line ∷ whole)
unchanged_by today message number line whole all (Err kind) e h on = absurd (none_remain today message number (text_of line) (map text_of whole) all kind e h)
unchanged_by today message number line whole all (Ok next) e h on =
    let own = own_of today message number (text_of line) (map text_of whole) all h in
    let b = behind today message next number (text_of line) (map text_of whole) own.0 all e own.1 h in
    unchanged_one message next number line whole e (on next b.others b.remain)

unchanged : (today : ℕ) (message : Message) (number : ℕ) (whole : List (List ℕ)) (all : List Request)
    → Remain today message number (map text_of whole) all → IsUnchanged message number whole
unchanged today message number [] all h = record { same = refl; none = refl }
unchanged today message number (line ∷ whole) all h =
    unchanged_by today message number line whole all (step message (text_of line)) refl h (λ next others k. unchanged today next (number + 1) whole others k)

pub stays : RightScriptsStay
stays today bytes requests h =
    let u = unchanged today None 1 (whole_lines bytes) requests (subst (λ (texts : List (List ℕ)). Remain today None 1 texts requests) (texts_of_lines bytes) h) in
    (ap (λ (refusals : List ScriptFault). left_of refusals (lines_left bytes)) u.none ∙ (ap concat u.same ∙ joined bytes), u.none)
