-- The bytes of a text, by their places and kinds.
use Rattle.std.specs.Prelude.{ℕ, ◌-◌, Bool, ◌&&◌, ◌==◌, nat_eq, nat_le, List, slice_range, codes}
use Rattle.std.specs.List.{list_all}
use Rattle.std.specs.Cmp.Lexicographic.{pointwise}

-- from the blank to `~`
abbrev pub is_printable : ℕ → Bool
is_printable c = nat_le 32 c && nat_le c 126

-- bytes `from` to `to` of a record, counted from 1, both ends included
abbrev pub field : ℕ → ℕ → List ℕ → List ℕ
field from to text = slice_range text (from - 1) to

abbrev pub same_text : List ℕ → List ℕ → Bool
same_text a b = pointwise nat_eq a b

-- 200 characters `0`
abbrev pub is_filler : List ℕ → Bool
is_filler text = list_all (λ c. c == 48) text

abbrev pub set_title : List ℕ
set_title = codes "AIRLINE STANDARD SCHEDULE DATA SET"

-- a "to" date that is none
abbrev pub open_end : List ℕ
open_end = codes "00XXX00"

-- the types of records, `1` to `5`
abbrev pub header_type : ℕ
header_type = 49

abbrev pub carrier_type : ℕ
carrier_type = 50

abbrev pub leg_type : ℕ
leg_type = 51

abbrev pub segment_type : ℕ
segment_type = 52

abbrev pub trailer_type : ℕ
trailer_type = 53
