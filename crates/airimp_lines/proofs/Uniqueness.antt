-- No script has two lists of requests.
use Rattle.std.proofs.Common.{◌≡◌, ℕ, List, [], ◌∷◌, ◌++◌, sym, ap, subst, ◌∙◌}
use Rattle.airline_base.proofs.Tests.{some_is}
use Rattle.airimp_lines.specs.declared.requests.Request.{Request}
use Rattle.airimp_lines.specs.Grammar.{OneSegment}
use Rattle.airimp_lines.specs.Script.{Line, segment_lines, AreRequests, IsMessage, AreMessages, OneScript}
use Rattle.airimp_lines.proofs.Headings.{heading_again}
use Rattle.airimp_lines.proofs.Remaining.{same_segment, same_requests}

one_message : (today : ℕ) (lines : List Line) (a b : List Request) → IsMessage today lines a → IsMessage today lines b
    → a ≡ b
one_message today [] a b h k = h ∙ sym k
one_message today (first ∷ others) a b (locator, heading, are) (other, heads, more) =
    let same : locator ≡ other = some_is locator other (sym (heading_again first.1 locator heading) ∙ heading_again first.1 other heads) in
    same_requests today other (segment_lines others) a b (subst (λ (x : List ℕ). AreRequests today x (segment_lines others) a) same are) more

one_list : (today : ℕ) (messages : List (List Line)) (a b : List Request) → AreMessages today messages a
    → AreMessages today messages b → a ≡ b
one_list today [] a b h k = h ∙ sym k
one_list today (message ∷ messages) a b (own, others, is, are, all) (mine, rest, one, more, joined) =
    let first : own ≡ mine = one_message today message own mine is one in
    let second : others ≡ rest = one_list today messages others rest are more in
    all ∙ ap (λ (x : List Request). x ++ others) first ∙ ap (λ (x : List Request). mine ++ x) second ∙ sym joined

pub one_segment : OneSegment
one_segment today line s t h k = same_segment today line s t h k

pub one_script : OneScript
one_script today bytes a b h k = one_list today _ a b h k
