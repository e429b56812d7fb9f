-- A name or a departure as one number, with its fields side by side, as the sets hash it.
use Rattle.std.specs.Prelude.{ℕ, ◌+◌, ◌*◌, Option, Some, None}
use Rattle.ssim_flights.specs.declared.flown.Departure.{Departure}
use Rattle.ssim_flights.specs.declared.itinerary.Name.{Name}

-- of 9 bits, with 16 to spare it
abbrev pub suffix_number : Option ℕ → ℕ
suffix_number None = 0
suffix_number (Some letter) = letter + 1

abbrev pub departure_number : Departure → ℕ
departure_number d = d.number + 65536 * suffix_number d.suffix + 4294967296 * d.day

abbrev pub name_number : Name → ℕ
name_number n =
    n.number + 65536 * suffix_number n.suffix + 4294967296 * n.variation + 1099511627776 * n.overflow
