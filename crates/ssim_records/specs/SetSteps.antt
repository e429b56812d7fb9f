-- Reading a data set record by record, with the first fault of each.
use Rattle.std.specs.Prelude.{◌⊎◌, MatchResult, ◌≡◌, ℕ, ◌+◌, ◌≤◌, Bool, true, false, not, ◌&&◌, ◌==◌, nat_lt, if◌then◌else◌, List, [], ◌∷◌, ◌++◌, length, Option, Some, None, Result, Ok, Err}
use Rattle.ssim_records.specs.declared.set_fault.SetKind.{SetKind}
use Rattle.ssim_records.specs.declared.set_fault.SetKind.TheVariants as kinds
use Rattle.ssim_records.specs.declared.carrier.Carrier.{Carrier}
use Rattle.ssim_records.specs.declared.carrier.Leg.{Leg}
use Rattle.ssim_records.specs.declared.records.LegName.{LegName}
use Rattle.ssim_records.specs.declared.records.LegPeriod.{LegPeriod}
use Rattle.ssim_records.specs.declared.records.LegPath.{LegPath}
use Rattle.ssim_records.specs.declared.state.Phase.{Phase}
use Rattle.ssim_records.specs.declared.state.Phase.TheVariants.{Start, Open, Body, Done}
use Rattle.ssim_records.specs.declared.state.Reader.{Reader}
use Rattle.airline_base.specs.Bytes.{header_type, carrier_type, leg_type, segment_type, trailer_type, field, same_text, is_filler, set_title}
use Rattle.airline_base.specs.Chains.{◌>>=◌, want, check}
use Rattle.ssim_records.specs.Cut.{cut_at}
use Rattle.airline_base.specs.Days.{date_in}
use Rattle.ssim_records.specs.RecordFields.{padded_in, positive_in, six_in, mode_in, designator_in, station_in, suffix_in, byte_in, until_in, days_in, rate_in, time_in, offset_in, shift_in, continued_in}

-- ---- records

unfoldable pub carrier_at : List ℕ → Result Carrier SetKind
carrier_at text = do
  local ← want (kinds.BadField 2) (mode_in (field 2 2 text))
  airline ← want (kinds.BadField 3) (designator_in (field 3 5 text))
  from ← want (kinds.BadField 15) (date_in (field 15 21 text))
  to ← want (kinds.BadField 22) (until_in from (field 22 28 text))
  Ok (record { airline = airline; local = local; from = from; to = to })

-- what names a leg
unfoldable pub leg_name_at : List ℕ → Result LegName SetKind
leg_name_at text = do
  suffix ← want (kinds.BadField 2) (suffix_in (field 2 2 text))
  own ← want (kinds.BadField 3) (designator_in (field 3 5 text))
  number ← want (kinds.BadField 6) (positive_in (field 6 9 text))
  variation ← want (kinds.BadField 10) (padded_in (field 10 11 text))
  sequence ← want (kinds.BadField 12) (positive_in (field 12 13 text))
  Ok (record { suffix = suffix; own = own; number = number; variation = variation; sequence = sequence })

-- its operating days
unfoldable pub leg_period_at : List ℕ → Result LegPeriod SetKind
leg_period_at text = do
  from ← want (kinds.BadField 15) (date_in (field 15 21 text))
  to ← want (kinds.BadField 22) (until_in from (field 22 28 text))
  days ← want (kinds.BadField 29) (days_in (field 29 35 text))
  second_week ← want (kinds.BadField 36) (rate_in (field 36 36 text))
  Ok (record { from = from; to = to; days = days; second_week = second_week })

-- its departure and its arrival
unfoldable pub leg_path_at : List ℕ → Result LegPath SetKind
leg_path_at text = do
  board ← want (kinds.BadField 37) (station_in (field 37 39 text))
  std ← want (kinds.BadField 44) (time_in (field 44 47 text))
  offset ← want (kinds.BadField 48) (offset_in (field 48 52 text))
  off ← want (kinds.BadField 55) (station_in (field 55 57 text))
  overflow ← want (kinds.BadField 128) (byte_in (field 128 128 text))
  shift ← want (kinds.BadField 193) (shift_in (field 193 193 text))
  Ok (record { board = board; std = std; offset = offset; off = off; overflow = overflow; shift = shift })

unfoldable pub leg_at : List ℕ → ℕ → List ℕ → Result Leg SetKind
leg_at airline serial text = do
  name ← leg_name_at text
  period ← leg_period_at text
  path ← leg_path_at text
  _ ← check kinds.OtherAirline (same_text name.own airline)
  Ok (record {
    serial = serial;
    number = name.number;
    suffix = name.suffix;
    variation = name.variation;
    overflow = path.overflow;
    sequence = name.sequence;
    from = period.from;
    to = period.to;
    days = period.days;
    second_week = period.second_week;
    board = path.board;
    std = path.std;
    offset = path.offset;
    off = path.off;
    shift = path.shift;
  })

-- the trailer after the record with this serial
unfoldable pub trailer_at : List ℕ → ℕ → List ℕ → Result (Unit {0}) SetKind
trailer_at airline before text = do
  own ← want (kinds.BadField 3) (designator_in (field 3 5 text))
  reference ← want (kinds.BadField 188) (six_in (field 188 193 text))
  more ← want (kinds.BadField 194) (continued_in (field 194 194 text))
  _ ← check kinds.OtherAirline (same_text own airline)
  _ ← check kinds.BadCheck (reference == before)
  _ ← check kinds.Continued (not more)
  Ok tt

-- ---- the reader's state

abbrev pub fresh : Reader
fresh = record { phase = Start; count = 0; legs = []; segments = 0 }

-- the type of a record is its first byte
abbrev pub type_of : List ℕ → ℕ
type_of [] = 0
type_of (c ∷ rest) = c

abbrev pub is_number : ℕ → Option ℕ → Bool
is_number n None = false
is_number n (Some k) = k == n

-- the six digits of this serial
unfoldable pub has_serial : ℕ → List ℕ → Bool
has_serial serial text = is_number serial (six_in (field 195 200 text))

-- the header
unfoldable pub header_at : ℕ → List ℕ → Result (Unit {0}) SetKind
header_at serial text = do
  _ ← check kinds.NoHeader (type_of text == header_type)
  _ ← check kinds.BadTitle (same_text (field 2 35 text) set_title)
  _ ← check kinds.BadSerial (has_serial serial text)
  Ok tt

-- the record behind the header
unfoldable pub second_at : ℕ → List ℕ → Result Carrier SetKind
second_at serial text = do
  _ ← check kinds.BadOrder (type_of text == carrier_type)
  _ ← check kinds.BadSerial (has_serial serial text)
  carrier_at text

-- segment data, which follows a leg
unfoldable pub segment_at : Bool → ℕ → List ℕ → Result (Unit {0}) SetKind
segment_at none serial text = do
  _ ← check kinds.BadOrder (not none)
  _ ← check kinds.BadSerial (has_serial serial text)
  Ok tt

-- a record that may stand here, by its number
unfoldable pub numbered_at : {A : Type 0} → ℕ → Result A SetKind → List ℕ → Result A SetKind
numbered_at serial r text = check kinds.BadSerial (has_serial serial text) >>= (λ _. r)

unfoldable pub header_step : Reader → List ℕ → Result Reader SetKind
header_step s text = header_at (s.count + 1) text >>= (λ _. Ok (record s { phase = Open; count = s.count + 1 }))

unfoldable pub carrier_step : Reader → List ℕ → Result Reader SetKind
carrier_step s text =
    second_at (s.count + 1) text >>= (λ carrier. Ok (record s { phase = Body carrier; count = s.count + 1 }))

unfoldable pub leg_step : Carrier → Reader → List ℕ → Result Reader SetKind
leg_step c s text =
    numbered_at (s.count + 1) (leg_at c.airline (s.count + 1) text) text >>=
    (λ leg. Ok (record s { legs = s.legs ++ leg ∷ []; count = s.count + 1 }))

unfoldable pub segment_step : Reader → List ℕ → Result Reader SetKind
segment_step s text =
    segment_at (length s.legs == 0) (s.count + 1) text >>=
    (λ _. Ok (record s { segments = s.segments + 1; count = s.count + 1 }))

unfoldable pub trailer_step : Carrier → Reader → List ℕ → Result Reader SetKind
trailer_step c s text =
    numbered_at (s.count + 1) (trailer_at c.airline s.count text) text >>=
    (λ _. Ok (record s { phase = Done c; count = s.count + 1 }))

-- the record after the carrier's
unfoldable pub body_step : ℕ → Carrier → Reader → List ℕ → Result Reader SetKind
body_step t c s text =
    if t == leg_type then leg_step c s text else if t == segment_type then segment_step s text
    else if t == trailer_type then trailer_step c s text else Err kinds.BadOrder

abbrev pub taken : Phase → Reader → List ℕ → Result Reader SetKind
taken Start s text = header_step s text
taken Open s text = carrier_step s text
taken (Body c) s text = body_step (type_of text) c s text
taken (Done c) s text = Err kinds.AfterTrailer

-- a right record beyond the most is too many
abbrev pub within : ℕ → Reader → Result Reader SetKind → Result Reader SetKind
within most s (Err kind) = Err kind
within most s (Ok next) = if nat_lt s.count most then Ok next else Err kinds.TooLarge

abbrev pub is_start : Phase → Bool
is_start Start = true
is_start _ = false

-- a record
unfoldable pub step : ℕ → Reader → List ℕ → Result Reader SetKind
step most s text =
    if is_filler text && not (is_start s.phase) then Ok s else within most s (taken s.phase s text)

abbrev pub moved : List ℕ → Result Reader SetKind → Result (Reader × List ℕ) SetKind
moved rest (Err kind) = Err kind
moved rest (Ok s) = Ok (s, rest)

abbrev pub cut_then : ℕ → Reader → Result (List ℕ × List ℕ) SetKind → Result (Reader × List ℕ) SetKind
cut_then most s (Err kind) = Err kind
cut_then most s (Ok p) = moved p.1 (step most s p.0)

-- a record and its end
unfoldable pub next : ℕ → Reader → List ℕ → Result (Reader × List ℕ) SetKind
next most s bytes = cut_then most s (cut_at bytes)

-- ---- what the code keeps, and its answers

-- segment data are among the records counted
abbrev pub IsCounted : ℕ → Reader → Type 0
IsCounted most s = (s.count ≤ most) × (s.segments ≤ s.count)

-- a record of 200 bytes comes to a reader that has counted no more than it may
abbrev pub IsReady : ℕ → Reader → List ℕ → Type 0
IsReady most s text = (most ≤ 999999) × (length text ≡ 200) × IsCounted most s

-- the reader has one leg more
abbrev pub HasLegMore : Reader → Result Reader SetKind → Type 0
HasLegMore s (Ok t) = length t.legs ≡ length s.legs + 1
HasLegMore s (Err kind) = ⊥

-- a record that is not taken: this is its fault, or there was no room for its leg
abbrev pub IsRefused : Reader → Result Reader SetKind → SetKind → Type 0
IsRefused s said kind = (said ≡ Err kind) ⊎ ((kind ≡ kinds.Memory) × HasLegMore s said)

-- the reader goes on as was said, or refuses
abbrev pub Takes : Reader → Reader → Result (Unit {0}) SetKind → Result Reader SetKind → Type 0
Takes old new answer said = MatchResult answer (λ _. said ≡ Ok new) (IsRefused old said)
