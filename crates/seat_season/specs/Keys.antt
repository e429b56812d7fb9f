-- The keys of a season file.
use Rattle.std.specs.Prelude.{ℕ, Bool, ◌||◌, List, codes}
use Rattle.std.specs.Str.{bytes_eq}
use Rattle.seat_season.specs.declared.key.Key.{Key}
use Rattle.seat_season.specs.declared.key.Key.TheVariants.{Set, Limits, First, Days, Journal, Desks}

abbrev pub key_text : Key → List ℕ
key_text Set = codes "set"
key_text Limits = codes "limits"
key_text First = codes "first"
key_text Days = codes "days"
key_text Journal = codes "journal"
key_text Desks = codes "desks"

-- the text is one of them
abbrev pub is_key : List ℕ → Bool
is_key text = bytes_eq text (key_text Set)
    || (bytes_eq text (key_text Limits)
    || (bytes_eq text (key_text First)
    || (bytes_eq text (key_text Days)
    || (bytes_eq text (key_text Journal)
    || bytes_eq text (key_text Desks)))))
