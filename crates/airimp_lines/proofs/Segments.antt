-- What is read is a segment that the line spells, and the only one.
use Rattle.std.proofs.Common.{◌≡◌, ℕ, Result, Ok, Err, sym, ap, subst, ◌∙◌, List}
use Rattle.airline_base.proofs.Reaches.{ok_is}
use Rattle.airimp_lines.specs.declared.fault.LineFault.{LineFault}
use Rattle.airimp_lines.specs.declared.segment.Segment.{Segment}
use Rattle.airimp_lines.specs.declared.segment.Undated.{Undated}
use Rattle.airimp_lines.specs.Reading.{undated_at}
use Rattle.airimp_lines.specs.Grammar.{SpellsSegment, IsNextDate, undated_of}
use Rattle.airimp_lines.proofs.LineLaws.{undated_takes, undated_again}
use Rattle.airimp_lines.proofs.Dates.{has_year, same_next}

abbrev pub dated : Undated → ℕ → Segment
dated u n = record {
  airline = u.airline;
  number = u.number;
  suffix = u.suffix;
  class = u.class;
  day = n;
  board = u.board;
  off = u.off;
  code = u.code;
  seats = u.seats;
}

pub is_found : (today : ℕ) (line : List ℕ) (u : Undated) (n : ℕ) → undated_at line ≡ Ok u
    → IsNextDate today u.day u.month n → SpellsSegment today line (dated u n)
is_found today line u n e next = record { day = u.day; month = u.month; date = next; spelled = (undated_takes line u e).spelled }

-- a line that spells a segment is read
pub is_read : (today : ℕ) (line : List ℕ) (s : Segment) (h : SpellsSegment today line s)
    → undated_at line ≡ Ok (undated_of h.day h.month s)
is_read today line s h =
    let year = has_year h.date.year h.month h.day s.day h.date.date in
    undated_again line (undated_of h.day h.month s) (record { spelled = h.spelled; low = year.0; high = year.1; in_month = year.2 })

pub is_only : (today : ℕ) (line : List ℕ) (u : Undated) (n : ℕ) (s : Segment) → undated_at line ≡ Ok u
    → IsNextDate today u.day u.month n → SpellsSegment today line s → dated u n ≡ s
is_only today line u n s e next h =
    let same : undated_of h.day h.month s ≡ u = ok_is (undated_of h.day h.month s) u (sym (is_read today line s h) ∙ e) in
    let family : Undated → Type 0 = λ v. IsNextDate today v.day v.month n → dated v n ≡ s in
    subst family same (λ at. ap (λ (k : ℕ). dated (undated_of h.day h.month s) k) (same_next today h.day h.month n s.day at h.date)) next

abbrev answer : Undated → Result Undated LineFault
answer u = Ok u

apart : (u : Undated) (e : LineFault) → answer u ≡ Err e → ⊥
apart u e h = cc

pub is_fault : (today : ℕ) (line : List ℕ) (e : LineFault) (s : Segment) → undated_at line ≡ Err e
    → SpellsSegment today line s → ⊥
is_fault today line e s h spelled = apart (undated_of spelled.day spelled.month s) e (sym (is_read today line s spelled) ∙ h)

abbrev pub read : Segment → Result Segment LineFault
read s = Ok s
