-- The requests of what remains of a script, line by line.
use Rattle.std.proofs.Common.{◌≡◌, ℕ, ◌+◌, Bool, true, false, not, cond, eqb, ◌==◌, List, [], ◌∷◌, ◌++◌, length, Some, None, refl, sym, ap, ◌∙◌, arith, append_assoc}
use Rattle.std.specs.List.{onto_first, enumerate_from}
use Rattle.std.proofs.lemmas.Bool.Decides.{nat_tests}
use Rattle.airimp_lines.specs.declared.requests.Request.{Request}
use Rattle.airimp_lines.specs.declared.segment.Segment.{Segment}
use Rattle.airimp_lines.specs.Grammar.{SpellsSegment, undated_of}
use Rattle.airimp_lines.specs.Messages.{is_passed_over}
use Rattle.airimp_lines.specs.Script.{Line, runs_of, segment_lines, IsHeading, IsRequest, AreRequests, AreMessages}
use Rattle.airimp_lines.specs.Steps.{Message}
use Rattle.airline_base.proofs.LineCuts.{IsSplit, is_split}
use Rattle.airimp_lines.proofs.Segments.{is_only, is_read}

-- the rest of the message with this locator, and the messages behind it
abbrev pub AreLeft : ℕ → List ℕ → List (List Line) → List Request → Type 0
AreLeft today locator [] requests = ⊥
AreLeft today locator (others ∷ messages) requests = (own more : List Request) × AreRequests today locator (segment_lines others) own × AreMessages today messages more × (requests ≡ own ++ more)

-- the lines from this number on, in the message that goes on
abbrev pub Remain : ℕ → Message → ℕ → List (List ℕ) → List Request → Type 0
Remain today None n texts requests = AreMessages today (runs_of (enumerate_from n texts)) requests
Remain today (Some locator) n texts requests = AreLeft today locator (runs_of (enumerate_from n texts)) requests

-- ---- requests of a line

-- a segment has one spelling
pub same_segment : (today : ℕ) (line : List ℕ) (s t : Segment) → SpellsSegment today line s → SpellsSegment today line t
    → s ≡ t
same_segment today line s t a b = sym (is_only today line (undated_of b.day b.month t) t.day s (is_read today line t b) b.date a)

same_request : (today : ℕ) (locator : List ℕ) (line : Line) (q r : Request) → IsRequest today locator line q
    → IsRequest today locator line r → q ≡ r
same_request today locator line q r a b =
    let e : q.segment ≡ r.segment = same_segment today line.1 q.segment r.segment a.spelled b.spelled in
    let l : q.locator ≡ r.locator = a.own_locator ∙ sym b.own_locator in
    let n : q.line ≡ r.line = a.own_line ∙ sym b.own_line in
    let of : List ℕ → Segment → ℕ → Request = λ x y z. record { locator = x; segment = y; line = z } in
    ap (λ (x : List ℕ). of x q.segment q.line) l ∙ ap (λ (y : Segment). of r.locator y q.line) e ∙ ap (λ (z : ℕ). of r.locator r.segment z) n

pub same_requests : (today : ℕ) (locator : List ℕ) (lines : List Line) (a b : List Request)
    → AreRequests today locator lines a → AreRequests today locator lines b → a ≡ b
same_requests today locator [] [] [] h k = refl
same_requests today locator [] [] (r ∷ b) h k = absurd k
same_requests today locator [] (q ∷ a) b h k = absurd h
same_requests today locator (line ∷ lines) [] b h k = absurd h
same_requests today locator (line ∷ lines) (q ∷ a) [] h k = absurd k
same_requests today locator (line ∷ lines) (q ∷ a) (r ∷ b) h k =
    ap (λ (x : Request). x ∷ a) (same_request today locator line q r h.0 k.0) ∙ ap (λ (x : List Request). r ∷ x) (same_requests today locator lines a b h.1 k.1)

-- ---- one line more

-- the line's own requests, and those that remain behind it
pub record Next (today : ℕ) (locator : List ℕ) (line : Line) (parts : List (List Line)) (requests : List Request) : Type 0 where
  pub own : List Request
  pub others : List Request
  pub asked : AreRequests today locator (segment_lines (line ∷ [])) own
  pub left : AreLeft today locator parts others
  pub all : requests ≡ own ++ others

more_requests : (today : ℕ) (locator : List ℕ) (line : Line) (lines : List Line) (b : Bool) (own others : List Request)
    → AreRequests today locator (cond b (line ∷ []) []) own → AreRequests today locator lines others
    → AreRequests today locator (cond b (line ∷ lines) lines) (own ++ others)
more_requests today locator line lines true [] others h k = absurd h
more_requests today locator line lines true (q ∷ []) others h k = (h.0, k)
more_requests today locator line lines true (q ∷ r ∷ own) others h k = absurd h.1
more_requests today locator line lines false [] others h k = k
more_requests today locator line lines false (q ∷ own) others h k = absurd h

pub more_left : (today : ℕ) (locator : List ℕ) (line : Line) (parts : List (List Line)) (own others : List Request)
    → AreRequests today locator (segment_lines (line ∷ [])) own → AreLeft today locator parts others
    → AreLeft today locator (onto_first line parts) (own ++ others)
more_left today locator line [] own others h k = absurd k
more_left today locator line (lines ∷ messages) own others h (mine, more, requests, rest, all) =
    (own ++ mine, more, more_requests today locator line (segment_lines lines) (not (is_passed_over line.1)) own mine h requests, rest, ap (λ (x : List Request). own ++ x) all ∙ sym (append_assoc own mine more))

less_requests : (today : ℕ) (locator : List ℕ) (line : Line) (lines : List Line) (b : Bool) (all : List Request)
    → AreRequests today locator (cond b (line ∷ lines) lines) all
    → (own others : List Request) × AreRequests today locator (cond b (line ∷ []) []) own
    × AreRequests today locator lines others × (all ≡ own ++ others)
less_requests today locator line lines true [] h = absurd h
less_requests today locator line lines true (q ∷ all) h = (q ∷ [], all, (h.0, tt), h.1, refl)
less_requests today locator line lines false all h = ([], all, tt, h, refl)

pub less_left : (today : ℕ) (locator : List ℕ) (line : Line) (parts : List (List Line)) (requests : List Request)
    → IsSplit parts → AreLeft today locator (onto_first line parts) requests → Next today locator line parts requests
less_left today locator line [] requests s h = absurd s
less_left today locator line (lines ∷ messages) requests s (mine, more, are, rest, all) =
    let l = less_requests today locator line (segment_lines lines) (not (is_passed_over line.1)) mine are in
    record { own = l.0; others = l.1 ++ more; asked = l.2; left = (l.1, more, l.3, rest, refl); all = all ∙ ap (λ (x : List Request). x ++ more) l.4 ∙ append_assoc l.0 l.1 more }

pub open_message : (today : ℕ) (locator : List ℕ) (line : Line) (parts : List (List Line)) (requests : List Request)
    → IsHeading line.1 locator → AreLeft today locator parts requests
    → AreMessages today (onto_first line parts) requests
open_message today locator line [] requests h k = absurd k
open_message today locator line (lines ∷ messages) requests h (own, more, are, rest, all) = (own, more, (locator, h, are), rest, all)

pub opened_message : (today : ℕ) (line : Line) (parts : List (List Line)) (requests : List Request)
    → IsSplit parts → AreMessages today (onto_first line parts) requests
    → (locator : List ℕ) × IsHeading line.1 locator × AreLeft today locator parts requests
opened_message today line [] requests s h = absurd s
opened_message today line (lines ∷ messages) requests s (own, more, (locator, heading, are), rest, all) = (locator, heading, (own, more, are, rest, all))

-- ---- parts of lines

not_empty : (c : ℕ) (text : List ℕ) → eqb (length (c ∷ text)) 0 ≡ false
not_empty c text = grind (arith, nat_tests)

pub part_more : (n c : ℕ) (text : List ℕ) (texts : List (List ℕ))
    → runs_of (enumerate_from n ((c ∷ text) ∷ texts))
    ≡ onto_first (n, c ∷ text) (runs_of (enumerate_from (n + 1) texts))
part_more n c text texts = rw (not_empty c text) refl

pub part_split : (n : ℕ) (texts : List (List ℕ)) → IsSplit (runs_of (enumerate_from n texts))
part_split n texts = is_split (λ (line : Line). length line.1 == 0) (enumerate_from n texts)
