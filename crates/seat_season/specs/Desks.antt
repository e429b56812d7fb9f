-- Names of desks: the nth is that of session n, and an empty one leaves that session without a name.
use Rattle.std.specs.Prelude.{ℕ, suc, ◌==◌, ◌&&◌, ◌||◌, not, nat_le, if◌then◌else◌, Bool, true, false, List, [], ◌∷◌, Option, Some, None}
use Rattle.std.specs.Char.{is_ascii_alphabetic, is_ascii_alphanumeric}
use Rattle.std.specs.List.{list_all}
use Rattle.std.specs.Option.{option_map_or}
use Rattle.std.specs.Str.{bytes_eq}
use Rattle.toml.specs.Data.{Data, Items, no_items, item, as_str}

-- letters, digits, - and _
abbrev pub is_of_name : ℕ → Bool
is_of_name byte = is_ascii_alphanumeric byte || ((byte == 45) || (byte == 95))

-- empty, or a letter and what a name may have behind it
abbrev pub is_desk_name : List ℕ → Bool
is_desk_name [] = true
is_desk_name (byte ∷ bytes) = is_ascii_alphabetic byte && list_all is_of_name bytes

abbrev pub is_desk : Data → Bool
is_desk d = option_map_or is_desk_name (as_str d) false

abbrev pub are_names : Items → Bool
are_names no_items = true
are_names (item d ds) = is_desk d && are_names ds

-- the item is this name, which is not empty
abbrev pub is_named : List ℕ → Data → Bool
is_named [] d = false
is_named (byte ∷ bytes) d = option_map_or (λ text. bytes_eq text (byte ∷ bytes)) (as_str d) false

abbrev pub is_among : List ℕ → Items → Bool
is_among name no_items = false
is_among name (item d ds) = is_named name d || is_among name ds

-- no name stands twice
abbrev pub are_apart : Items → Bool
are_apart no_items = true
are_apart (item d ds) = not (option_map_or (λ name. is_among name ds) (as_str d) false) && are_apart ds

abbrev pub count : Items → ℕ
count no_items = 0
count (item d ds) = suc (count ds)

-- up to eight names, no two of which are one
abbrev pub are_desks : Items → Bool
are_desks names = nat_le (count names) 8 && (are_names names && are_apart names)

-- ---- the session of a name

-- the name's place, where the first item has this one
abbrev pub place_from : ℕ → List ℕ → Items → Option ℕ
place_from place name no_items = None
place_from place name (item d ds) = if is_named name d then Some place else place_from (suc place) name ds
