-- The line of sums of a report.
use Rattle.std.specs.Prelude.{ℕ, nat_eq, Bool, if◌then◌else◌, List, [], ◌∷◌, ◌++◌, filter, flat_map, length, decimal, codes, Option, Some, None}
use Rattle.std.specs.Cmp.Lexicographic.{pointwise}
use Rattle.std.specs.List.{sum_by}
use Rattle.std.specs.Option.{option_eq}
use Rattle.carry_reports.specs.Codes.{code_of, word_text}
use Rattle.carry_reports.specs.declared.fating.Fated.{Fated}

-- each code, and last those who have none
abbrev pub all_codes : List (Option (List ℕ))
all_codes =
    Some (codes "HK") ∷ Some (codes "TK") ∷ Some (codes "HL") ∷ Some (codes "TL") ∷ Some (codes "KL") ∷ Some (codes "HX")
    ∷ Some (codes "UN") ∷ Some (codes "UC") ∷ None ∷ []

abbrev pub has_code : Option (List ℕ) → Fated → Bool
has_code code f = option_eq (pointwise nat_eq) (code_of f) code

abbrev pub seats_with : Option (List ℕ) → Fated → ℕ
seats_with code f = (if has_code code f then f.booking.seats else 0)

-- the code, how many live bookings have it, and their seats
abbrev pub sum_text : List Fated → Option (List ℕ) → List ℕ
sum_text all code =
    codes " " ++ word_text code ++ codes " " ++ decimal (length (filter (has_code code) all)) ++ codes " "
    ++ decimal (sum_by (seats_with code) all)

-- SUMS HK 10 17 TK 0 0 HL 2 3 TL 0 0 KL 1 2 HX 0 0 UN 0 0 UC 0 0 DEPARTED 4 6
abbrev pub sums_text : List Fated → List ℕ
sums_text all = codes "SUMS" ++ flat_map (sum_text all) all_codes ++ codes "\n"
