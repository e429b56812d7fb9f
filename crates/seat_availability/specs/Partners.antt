-- A partner's thresholds: how they are written, and what they say of a class.
use Rattle.std.specs.Prelude.{ℕ, ◌+◌, ◌==◌, ◌&&◌, nat_le, nat_lt, Bool, true, false, List, [], ◌∷◌, ◌++◌, length, Option, Some, None, Result, Ok, Err, if◌then◌else◌}
use Rattle.std.specs.Char.{is_ascii_digit, is_ascii_uppercase}
use Rattle.std.specs.List.{list_all}
use Rattle.std.specs.Str.Lines.{lines}
use Rattle.std.specs.Str.Parse.{digits_value}
use Rattle.seat_availability.specs.declared.partner.Threshold.{Threshold}
use Rattle.seat_availability.specs.declared.partner_fault.PartnerFault.{PartnerFault}
use Rattle.seat_availability.specs.declared.partner_fault.PartnerKind.{PartnerKind}
use Rattle.seat_availability.specs.declared.partner_fault.PartnerKind.TheVariants.{Class, Twice, Seats}

-- the most room at which a class counts as closed; 0 where the partner has no row of it
abbrev pub threshold_of : List Threshold → ℕ → ℕ
threshold_of [] class = 0
threshold_of (row ∷ rows) class = (if row.class == class then row.seats else threshold_of rows class)

-- ---- a line

abbrev pub has_row : List Threshold → ℕ → Bool
has_row [] class = false
has_row (row ∷ rows) class = (if row.class == class then true else has_row rows class)

-- one to three digits
abbrev pub is_count : List ℕ → Bool
is_count text = nat_lt 0 (length text) && nat_le (length text) 3 && list_all is_ascii_digit text

-- a blank and these
abbrev pub seats_in : List ℕ → Option ℕ
seats_in [] = None
seats_in (c ∷ digits) = (if (c == 32) && is_count digits then Some (digits_value 10 digits) else None)

abbrev pub with_seats : List Threshold → ℕ → Option ℕ → Result (List Threshold) PartnerKind
with_seats rows class None = Err Seats
with_seats rows class (Some n) = Ok (rows ++ record { class = class; seats = n } ∷ [])

-- the class, and then the seats
abbrev pub with_row : List Threshold → ℕ → List ℕ → Result (List Threshold) PartnerKind
with_row rows c rest =
    (if is_ascii_uppercase c then (if has_row rows c then Err Twice else with_seats rows c (seats_in rest)) else Err Class)

-- the rows and that of a line, or the line's first fault; an empty line has none
abbrev pub with_line : List Threshold → List ℕ → Result (List Threshold) PartnerKind
with_line rows [] = Ok rows
with_line rows (c ∷ rest) = with_row rows c rest

-- ---- all lines

abbrev pub behind : ℕ → Result (List Threshold) PartnerKind → (List Threshold → Result (List Threshold) PartnerFault)
    → Result (List Threshold) PartnerFault
behind n (Ok rows) rest = rest rows
behind n (Err kind) rest = Err (record { line = n; kind = kind })

-- the rows of lines that are counted from n, behind these rows; or the first line with a fault
abbrev pub thresholds_from : ℕ → List Threshold → List (List ℕ) → Result (List Threshold) PartnerFault
thresholds_from n rows [] = Ok rows
thresholds_from n rows (line ∷ texts) = behind n (with_line rows line) (λ more. thresholds_from (n + 1) more texts)

unfoldable pub thresholds_in : List ℕ → Result (List Threshold) PartnerFault
thresholds_in bytes = thresholds_from 1 [] (lines bytes)
