-- The first line of a message, and what a line within it asks for.
use Rattle.std.proofs.Common.{◌≡◌, inr, ℕ, ◌+◌, ◌≤◌, ◌==◌, Bool, true, false, not, cond, List, [], ◌∷◌, ◌++◌, length, map, Option, Some, None, Result, Ok, refl, sym, ap, subst, ◌∙◌, arith, append-nil}
use Rattle.std.specs.Prelude.{IsOk, IsSome, IsTrue, option_to_list}
use Rattle.std.proofs.lemmas.List.{length-append}
use Rattle.std.proofs.lemmas.Bool.{eqb-true}
use Rattle.std.specs.List.{list_all}
use Rattle.airline_base.specs.Names.{is_name_byte}
use Rattle.airline_base.proofs.Tests.{both_true}
use Rattle.airimp_lines.specs.Messages.{heading_at, is_passed_over}
use Rattle.airimp_lines.specs.Reading.{undated_at}
use Rattle.airimp_lines.specs.Script.{AreRequests, IsHeading, IsRequest, Line}
use Rattle.airimp_lines.specs.Steps.{AreOwn, HasRequest, IsStop, Message, after_heading, step}
use Rattle.airimp_lines.specs.declared.requests.Request.{Request}
use Rattle.airimp_lines.proofs.Headings.{heading_takes}
use Rattle.airimp_lines.proofs.Segments.{is_read}
use Rattle.flight_routes.specs.ScriptRoutes.{Open, Route, any_day, message_of, own_routes, route_text, routes_read, routes_text}
use Rattle.flight_routes.specs.Shards.{name_text, own_name, shard_of}
use Rattle.airimp_lines.specs.declared.fault.ScriptKind.{ScriptKind}
use Rattle.airimp_lines.specs.declared.fault.ScriptKind.TheVariants as kinds
use Rattle.flight_routes.specs.declared.designators.Designator.{Designator}
use Rattle.flight_routes.specs.declared.script_routes.Opening.{Opening}

-- ---- a first line has an address

heading_is_long : (text locator : List ℕ) → IsHeading text locator → 5 ≤ length text
heading_is_long text locator h =
    let five : length h.address ≡ 5 = eqb-true (length h.address) 5 (both_true (length h.address == 5) (list_all is_name_byte h.address) h.is_address).0 in
    let all : length text ≡ length h.address + length (32 ∷ (locator ++ h.remark)) = ap (λ (x : List ℕ). length x) h.written ∙ length-append h.address (32 ∷ (locator ++ h.remark)) in
    omega (arith, five, all)

after_is_long : (text : List ℕ) (o : Option (List ℕ)) (locator : List ℕ) → heading_at text ≡ o
    → ◌≡◌ {A = Result Message _} (after_heading o) (Ok (Some locator)) → 5 ≤ length text
after_is_long text None locator e h = absurd cc
after_is_long text (Some name) locator e h = heading_is_long text name (heading_takes text name e)

abbrev gives : Message → Result Message ScriptKind
gives message = Ok message

opens_long : (text : List ℕ) (locator : List ℕ) → step None text ≡ Ok (Some locator) → 5 ≤ length text
opens_long [] locator h = absurd cc
opens_long (c ∷ text) locator h = after_is_long (c ∷ text) (heading_at (c ∷ text)) locator refl h

pub opening_is_long : (begun : Open) (text locator : List ℕ) (message : Message) → begun ≡ None → message ≡ Some locator
    → step (message_of begun) text ≡ Ok message → 5 ≤ length text
opening_is_long begun text locator message none some h =
    let n : message_of begun ≡ None = ap message_of none in
    opens_long text locator (ap (λ (m : Message). step m text) (sym n) ∙ h ∙ ap gives some)

-- ---- a line's own route

abbrev pub route_by : ℕ → Opening → List ℕ → Request → Route
route_by shards opening text q = record {
  shard = shard_of shards (name_text q.segment.airline q.segment.number q.segment.suffix);
  line = q.line;
  opening = opening;
  text = text;
}

read_is : (today shards : ℕ) (opening : Opening) (line : Line) (q : Request) → IsRequest today opening.locator line q
    → routes_read shards opening line (undated_at line.1) ≡ route_by shards opening line.1 q ∷ []
read_is today shards opening line q h =
    rw (is_read today line.1 q.segment h.spelled, h.own_line) refl

own_are : (today shards : ℕ) (opening : Opening) (n : ℕ) (text : List ℕ) (q : Request)
    → AreOwn today (Some opening.locator) (n, text) (q ∷ []) → own_routes shards (Some opening) (n, text) ≡ route_by shards opening text q ∷ []
own_are today shards opening n [] q h = absurd cc
own_are today shards opening n (c ∷ text) q h = by (is_passed_over (c ∷ text)) h
  where
    by : (b : Bool) → AreRequests today opening.locator (cond (not b) ((n, c ∷ text) ∷ []) []) (q ∷ [])
        → cond b [] (routes_read shards opening (n, c ∷ text) (undated_at (c ∷ text))) ≡ route_by shards opening (c ∷ text) q ∷ []
    by true k = absurd k
    by false k = read_is today shards opening (n, c ∷ text) q k.0

own_none : (today shards : ℕ) (opening : Opening) (n : ℕ) (text : List ℕ)
    → AreOwn today (Some opening.locator) (n, text) [] → own_routes shards (Some opening) (n, text) ≡ []
own_none today shards opening n [] h = refl
own_none today shards opening n (c ∷ text) h = by (is_passed_over (c ∷ text)) h
  where
    by : (b : Bool) → AreRequests today opening.locator (cond (not b) ((n, c ∷ text) ∷ []) []) []
        → cond b [] (routes_read shards opening (n, c ∷ text) (undated_at (c ∷ text))) ≡ []
    by true k = refl
    by false k = absurd k

-- a line's own routes are those of its requests, where they are these
pub own_routes_are : (today shards : ℕ) (opening : Opening) (n : ℕ) (text : List ℕ) (own : List Request)
    → AreOwn today (Some opening.locator) (n, text) own → own_routes shards (Some opening) (n, text) ≡ map (route_by shards opening text) own
own_routes_are today shards opening n text [] h = own_none today shards opening n text h
own_routes_are today shards opening n text (q ∷ []) h = own_are today shards opening n text q h
own_routes_are today shards opening n text (q ∷ r ∷ own) h = absurd (two text h)
  where
    asked : (line : Line) (b : Bool) → AreRequests today opening.locator (cond (not b) (line ∷ []) []) (q ∷ r ∷ own) → ⊥
    asked line true k = k
    asked line false k = k.1

    two : (text : List ℕ) → AreOwn today (Some opening.locator) (n, text) (q ∷ r ∷ own) → ⊥
    two [] k = cc
    two (c ∷ text) k = asked (n, c ∷ text) (is_passed_over (c ∷ text)) k

-- ---- what is added

pub nothing_put : (shards session : ℕ) (begun : Open) (opening : Opening) (n : ℕ) (text : List ℕ) (request : Option Request) (old : List ℕ)
    → begun ≡ Some opening → request ≡ None → AreOwn any_day (message_of begun) (n, text) (option_to_list request)
    → old ≡ old ++ routes_text session (own_routes shards begun (n, text))
nothing_put shards session begun opening n text request old is none own =
    let are : AreOwn any_day (Some opening.locator) (n, text) [] =
    subst (λ (o : Option Request). AreOwn any_day (Some opening.locator) (n, text) (option_to_list o)) none (subst (λ (b : Open). AreOwn any_day (message_of b) (n, text) (option_to_list request)) is own) in
    rw (is, own_none any_day shards opening n text are) (sym (append-nil old))

pub one_put : (shards session shard : ℕ) (begun : Open) (opening : Opening) (n : ℕ) (text : List ℕ) (request : Option Request) (q : Request)
    (d : Designator) (old new : List ℕ)
    → begun ≡ Some opening → request ≡ Some q → AreOwn any_day (message_of begun) (n, text) (option_to_list request)
    → d.airline ≡ q.segment.airline → d.number ≡ q.segment.number → d.suffix ≡ q.segment.suffix → shard ≡ shard_of shards (own_name d)
    → new ≡ old ++ route_text session (record { shard = shard; line = n; opening = opening; text = text })
    → new ≡ old ++ routes_text session (own_routes shards begun (n, text))
one_put shards session shard begun opening n text request q d old new is some own airline number suffix goes adds =
    let are : AreOwn any_day (Some opening.locator) (n, text) (q ∷ []) =
    subst (λ (o : Option Request). AreOwn any_day (Some opening.locator) (n, text) (option_to_list o)) some (subst (λ (b : Open). AreOwn any_day (message_of b) (n, text) (option_to_list request)) is own) in
    let line : q.line ≡ n = line_is text are in
    let to : shard ≡ shard_of shards (name_text q.segment.airline q.segment.number q.segment.suffix) = goes ∙ rw (airline, number, suffix) refl in
    let route : record { shard = shard; line = n; opening = opening; text = text } ≡ route_by shards opening text q = rw (to, sym line) refl in
    let routes : own_routes shards begun (n, text) ≡ route_by shards opening text q ∷ [] =
    ap (λ (b : Open). own_routes shards b (n, text)) is ∙ own_are any_day shards opening n text q are in
    adds ∙ ap (λ (r : Route). old ++ route_text session r) route
    ∙ ap (λ (x : List ℕ). old ++ x) (sym (append-nil (route_text session (route_by shards opening text q))))
    ∙ ap (λ (rs : List Route). old ++ routes_text session rs) (sym routes)
  where
    asked : (text : List ℕ) (b : Bool) → AreRequests any_day opening.locator (cond (not b) ((n, text) ∷ []) []) (q ∷ []) → q.line ≡ n
    asked text true k = absurd k
    asked text false k = k.0.own_line

    line_is : (text : List ℕ) → AreOwn any_day (Some opening.locator) (n, text) (q ∷ []) → q.line ≡ n
    line_is [] k = absurd cc
    line_is (c ∷ text) k = asked (c ∷ text) (is_passed_over (c ∷ text)) k

-- ---- a line whose request found no room

has_request : (today : ℕ) (message : Message) (n : ℕ) (text : List ℕ) (q : Request) → AreOwn today message (n, text) (q ∷ [])
    → HasRequest message text
has_request today None n text q h = absurd cc
has_request today (Some locator) n [] q h = absurd cc
has_request today (Some locator) n (c ∷ text) q h = by (is_passed_over (c ∷ text)) h
  where
    read : IsRequest today locator (n, c ∷ text) q → IsOk (undated_at (c ∷ text))
    read k = let e = is_read today (c ∷ text) q.segment k.spelled in rw e refl

    by : (b : Bool) → AreRequests today locator (cond (not b) ((n, c ∷ text) ∷ []) []) (q ∷ []) → IsTrue (not b) × IsOk (undated_at (c ∷ text))
    by true k = absurd k
    by false k = (refl, read k.0)

stops : (today : ℕ) (message : Message) (n : ℕ) (text : List ℕ) (request : Option Request) (kind : ScriptKind)
    → AreOwn today message (n, text) (option_to_list request) → (kind ≡ kinds.Memory) × IsSome request → IsStop message text kind
stops today message n text None kind own h = absurd (none h.1)
  where
    none : IsSome {T = Request} None → ⊥
    none k = cc
stops today message n text (Some q) kind own h = inr (h.0, has_request today message n text q own)

pub put_stops : (today : ℕ) (message at : Message) (n : ℕ) (text : List ℕ) (request : Option Request) (kind : ScriptKind) → at ≡ message
    → AreOwn today at (n, text) (option_to_list request) → (kind ≡ kinds.Memory) × IsSome request → IsStop message text kind
put_stops today message at n text request kind same own h =
    stops today message n text request kind (subst (λ (m : Message). AreOwn today m (n, text) (option_to_list request)) same own) h
