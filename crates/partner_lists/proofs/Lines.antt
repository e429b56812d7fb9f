-- A line of a partner's list.
use Rattle.std.proofs.Common.{◌≡◌, ℕ, true, false, List, Option, Some, None, Err, refl, sym, ◌∙◌}
use Rattle.airimp_lines.specs.Grammar.{SpellsSegment}
use Rattle.airimp_lines.specs.Reading.{undated_at}
use Rattle.airimp_lines.specs.declared.fault.LineFault.{LineFault}
use Rattle.airimp_lines.specs.declared.requests.Request.{Request}
use Rattle.airimp_lines.specs.declared.segment.Segment.{Segment}
use Rattle.partner_lists.specs.Listed.{HasNoSegment, HasNoStatus, IsListed, heading_at, is_status}

pub listed : (first line n : ℕ) (text locator rest : List ℕ) (s : Segment) (r : Request) → Some (locator, rest) ≡ heading_at text
    → SpellsSegment first rest s → is_status s.code ≡ true → r ≡ record { locator = locator; segment = s; line = n } → n ≡ line
    → IsListed first line text r
listed first line n text locator rest s r headed spelled is e same =
    rw e (record { rest = rest; headed = sym headed; spelled = spelled; is_status = is; own_line = same })

pub no_heading : (text : List ℕ) → None ≡ heading_at text → heading_at text ≡ None
no_heading text is = sym is

pub no_segment : (text locator rest : List ℕ) (fault : LineFault) → Some (locator, rest) ≡ heading_at text → undated_at rest ≡ Err fault
    → HasNoSegment text fault
no_segment text locator rest fault headed first = record { locator = locator; rest = rest; headed = sym headed; first = first }

pub no_status : (first : ℕ) (text locator rest : List ℕ) (s : Segment) → Some (locator, rest) ≡ heading_at text → SpellsSegment first rest s
    → is_status s.code ≡ false → HasNoStatus first text
no_status first text locator rest s headed spelled other =
    record { locator = locator; rest = rest; segment = s; headed = sym headed; spelled = spelled; other = other }
