-- A line of a partner's list: [NUMBER] LOCATOR SEGMENT, as `bookings` writes it, and its first fault from left to right.
use Rattle.std.specs.Prelude.{◌≡◌, ◌==◌, ◌||◌, ℕ, Bool, true, false, nat_eq, List, length, take, drop, codes, Option, Some, None, Err, if◌then◌else◌}
use Rattle.std.specs.Char.{is_ascii_digit}
use Rattle.std.specs.Cmp.Lexicographic.{pointwise}
use Rattle.std.specs.List.{prefix_len}
use Rattle.airline_base.specs.Fields.{◌>>=◌, fixed_at, byte_at}
use Rattle.airline_base.specs.Names.{is_locator}
use Rattle.airimp_lines.specs.Grammar.{SpellsSegment}
use Rattle.airimp_lines.specs.Reading.{undated_at}
use Rattle.airimp_lines.specs.declared.fault.LineFault.{LineFault}
use Rattle.airimp_lines.specs.declared.requests.Request.{Request}
use Rattle.airimp_lines.specs.declared.segment.Segment.{Segment}
use Rattle.partner_lists.specs.declared.fault.PartnerKind.{PartnerKind}
use Rattle.partner_lists.specs.declared.fault.PartnerKind.TheVariants as kinds

-- six letters or digits and a blank, and what stands behind
unfoldable pub locator_at : List ℕ → Option (List ℕ × List ℕ)
locator_at bytes = do
  locator ← fixed_at 6 is_locator bytes
  rest ← byte_at 32 locator.1
  Some (locator.0, rest)

-- the same behind digits and a blank
unfoldable pub numbered_at : List ℕ → Option (List ℕ × List ℕ)
numbered_at bytes =
    if length (take (prefix_len is_ascii_digit bytes) bytes) == 0 then None
    else (byte_at 32 (drop (prefix_len is_ascii_digit bytes) bytes) >>= locator_at)

abbrev pub first_of : Option (List ℕ × List ℕ) → Option (List ℕ × List ℕ) → Option (List ℕ × List ℕ)
first_of (Some found) other = Some found
first_of None other = other

-- behind a number, or without one
abbrev pub heading_at : List ℕ → Option (List ℕ × List ℕ)
heading_at bytes = first_of (numbered_at bytes) (locator_at bytes)

-- AIRIMP: HK, the seats are held; HL, they wait
abbrev pub is_status : List ℕ → Bool
is_status code = pointwise nat_eq code (codes "HK") || pointwise nat_eq code (codes "HL")

-- the line has the locator, and spells the segment with one of these codes
pub record IsListed (first line : ℕ) (text : List ℕ) (r : Request) : Type 0 where
  pub rest : List ℕ
  pub headed : heading_at text ≡ Some (r.locator, rest)
  pub spelled : SpellsSegment first rest r.segment
  pub is_status : is_status r.segment.code ≡ true
  pub own_line : r.line ≡ line

-- behind the locator stands no segment
pub record HasNoSegment (text : List ℕ) (fault : LineFault) : Type 0 where
  pub locator : List ℕ
  pub rest : List ℕ
  pub headed : heading_at text ≡ Some (locator, rest)
  pub first : undated_at rest ≡ Err fault

-- one of another code
pub record HasNoStatus (first : ℕ) (text : List ℕ) : Type 0 where
  pub locator : List ℕ
  pub rest : List ℕ
  pub segment : Segment
  pub headed : heading_at text ≡ Some (locator, rest)
  pub spelled : SpellsSegment first rest segment
  pub other : is_status segment.code ≡ false

-- the first fault of a line by itself
abbrev pub IsLineFault : ℕ → List ℕ → PartnerKind → Type 0
IsLineFault first text kinds.Locator = heading_at text ≡ None
IsLineFault first text (kinds.Line fault) = HasNoSegment text fault
IsLineFault first text kinds.Status = HasNoStatus first text
IsLineFault first text _ = ⊥
