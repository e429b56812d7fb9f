-- What a line spells has numbers and a suffix as they may be.
use Rattle.std.proofs.Common.{ℕ, ◌^◌, ◌<◌, List, [], ◌∷◌, length, All, sym, subst, arith}
use Rattle.std.proofs.lemmas.Int.Digits.{digits_value-lt}
use Rattle.std.proofs.lemmas.List.Elements.{All-nil, All-cons, All-append}
use Rattle.ssim_records.proofs.RightLaws.{all_digits}
use Rattle.airimp_lines.specs.declared.requests.Request.{Request}
use Rattle.airimp_lines.specs.declared.segment.Segment.{Segment}
use Rattle.airline_base.specs.Fields.{IsNumberText}
use Rattle.airline_base.proofs.Digits.{below_power}
use Rattle.airimp_lines.specs.Grammar.{IsRightSegment, SpellsSegment}
use Rattle.airimp_lines.specs.Script.{Line, segment_lines, AreRequests, IsMessage, AreMessages, IsScript}

numeral_below : (most : ℕ) (digits : List ℕ) (n : ℕ) → IsNumberText most digits n → n < 10 ^ most
numeral_below most digits n is = below_power n (length digits) most is.few (omega (arith, is.value, digits_value-lt 10 digits (all_digits digits is.each)))

pub right_segment : (today : ℕ) (line : List ℕ) (s : Segment) → SpellsSegment today line s → IsRightSegment s
right_segment today line s h = record {
  writable = record { number = (h.spelled.is_number.positive, numeral_below 4 h.spelled.number s.number h.spelled.is_number); suffix = h.spelled.is_suffix };
  seats = (h.spelled.is_seats.positive, numeral_below 3 h.spelled.seats s.seats h.spelled.is_seats);
}

abbrev pub IsRight : Request → Type 0
IsRight request = IsRightSegment request.segment

right_requests : (today : ℕ) (locator : List ℕ) (lines : List Line) (requests : List Request)
    → AreRequests today locator lines requests → All IsRight requests
right_requests today locator [] [] h = All-nil IsRight
right_requests today locator [] (q ∷ rs) h = absurd h
right_requests today locator (line ∷ lines) [] h = absurd h
right_requests today locator (line ∷ lines) (q ∷ rs) h = All-cons IsRight q rs (right_segment today line.1 q.segment h.0.spelled) (right_requests today locator lines rs h.1)

right_message : (today : ℕ) (lines : List Line) (requests : List Request) → IsMessage today lines requests
    → All IsRight requests
right_message today [] requests h = subst (All IsRight) (sym h) (All-nil IsRight)
right_message today (first ∷ others) requests (locator, heading, are) = right_requests today locator (segment_lines others) requests are

right_messages : (today : ℕ) (messages : List (List Line)) (requests : List Request)
    → AreMessages today messages requests → All IsRight requests
right_messages today [] requests h = subst (All IsRight) (sym h) (All-nil IsRight)
right_messages today (message ∷ messages) requests (own, others, one, more, all) =
    subst (All IsRight) (sym all) (All-append IsRight own others (right_message today message own one) (right_messages today messages others more))

-- each request of a script has a right segment
pub right_script : (today : ℕ) (bytes : List ℕ) (requests : List Request) → IsScript today bytes requests
    → All IsRight requests
right_script today bytes requests h = right_messages today _ requests h
