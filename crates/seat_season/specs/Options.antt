-- What the words behind a command are: options, with their values, and words by their places.
use Rattle.std.specs.Prelude.{ℕ, ◌==◌, ◌&&◌, ◌||◌, not, nat_lt, if◌then◌else◌, Bool, true, false, List, [], ◌∷◌, length, Option, Some, None, codes}
use Rattle.std.specs.List.{after_first, before_first, position_or_len}
use Rattle.std.specs.Option.{option_or}
use Rattle.std.specs.Str.{bytes_eq}
use Rattle.seat_season.specs.declared.awaits.Awaits.{Awaits}
use Rattle.seat_season.specs.declared.awaits.Awaits.TheVariants.{Nothing, Value, Desk, Season, Rest}

abbrev pub Text : Type 0
Text = List ℕ

-- the sign between an option and its value, or a session and its file, is =
abbrev pub is_sign : ℕ → Bool
is_sign byte = byte == 61

abbrev pub has_sign : Text → Bool
has_sign word = nat_lt (position_or_len is_sign word) (length word)

-- it begins with -, and has more behind it
abbrev pub is_option : Text → Bool
is_option (first ∷ second ∷ rest) = first == 45
is_option _ = false

abbrev pub is_long : Text → Bool
is_long (first ∷ second ∷ third ∷ rest) = (first == 45) && (second == 45)
is_long _ = false

-- the word is one of these
abbrev pub is_one_of : Text → List Text → Bool
is_one_of word [] = false
is_one_of word (other ∷ others) = bytes_eq word other || is_one_of word others

-- the options without a value
abbrev pub flags : List Text
flags = codes "--again"
    ∷ codes "--all"
    ∷ codes "--bars"
    ∷ codes "--csv"
    ∷ codes "--cut"
    ∷ codes "--html"
    ∷ codes "--json"
    ∷ codes "--no-clobber"
    ∷ codes "--numeric"
    ∷ codes "--open"
    ∷ codes "--quiet"
    ∷ codes "--sealed"
    ∷ codes "--shards"
    ∷ codes "--verbose"
    ∷ []

-- the word is one of them
abbrev pub is_flag : Text → Bool
is_flag word = is_one_of word flags

-- what a word awaits that no option awaits
abbrev pub awaited : Text → Awaits
awaited word =
    if bytes_eq word (codes "--") then Rest
    else if bytes_eq word (codes "--season") then Season
    else if bytes_eq word (codes "--desk") || bytes_eq word (codes "--session") then Desk
    else if is_long word && (not (has_sign word) && not (is_flag word)) then Value
    else Nothing

-- what a word awaits, by what the word ahead of it does
abbrev pub next : Awaits → Text → Awaits
next Nothing word = awaited word
next Value word = Nothing
next Desk word = Nothing
next Season word = Nothing
next Rest word = Rest

abbrev pub is_free : Awaits → Bool
is_free Nothing = true
is_free _ = false

-- the word stands by its place
abbrev pub is_place : Awaits → Text → Bool
is_place Nothing word = not (is_option word)
is_place Value word = false
is_place Desk word = false
is_place Season word = false
is_place Rest word = true

-- the word is this option, alone or with its value behind =
abbrev pub is_given : Text → Text → Bool
is_given option word = bytes_eq (before_first is_sign word) option

-- ---- of the words behind a command

-- one of them is this option
abbrev pub has_option : Text → Awaits → List Text → Bool
has_option option awaits [] = false
has_option option awaits (word ∷ words) =
    (is_free awaits && is_given option word) || has_option option (next awaits word) words

-- one of them stands by its place
abbrev pub has_place : Awaits → List Text → Bool
has_place awaits [] = false
has_place awaits (word ∷ words) = is_place awaits word || has_place (next awaits word) words

-- the season that a word names behind =
abbrev pub season_of : Awaits → Text → Option Text
season_of Season word = Some word
season_of Nothing word = if has_sign word && is_given (codes "--season") word then Some (after_first is_sign word) else None
season_of _ word = None

-- the first season that they name
abbrev pub season_from : Awaits → List Text → Option Text
season_from awaits [] = None
season_from awaits (word ∷ words) = option_or (season_of awaits word) (season_from (next awaits word) words)
