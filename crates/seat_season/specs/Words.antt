-- The words of a command line that has a season, with what the season says.
use Rattle.std.specs.Prelude.{ℕ, ◌+◌, ◌/◌, ◌%◌, ◌&&◌, ◌||◌, nat_le, if◌then◌else◌, Bool, true, List, [], ◌∷◌, ◌++◌, map, Option, Some, None, option_map, option_and_then, unwrap_or, string_bytes, codes}
use Rattle.std.specs.Fmt.{decimal}
use Rattle.std.specs.List.{after_first, before_first}
use Rattle.std.specs.Option.{option_map_or}
use Rattle.std.specs.Str.{bytes_eq}
use Rattle.toml.specs.Data.{Items}
use Rattle.toml_datetime.specs.declared.datetime.Date.{Date}
use Rattle.seat_season.specs.declared.awaits.Awaits.{Awaits}
use Rattle.seat_season.specs.declared.awaits.Awaits.TheVariants.{Nothing, Desk}
use Rattle.seat_season.specs.declared.words.Words.{Words}
use Rattle.seat_season.specs.Desks.{place_from}
use Rattle.seat_season.specs.Folders.{path_in}
use Rattle.seat_season.specs.Line.{line_in}
use Rattle.seat_season.specs.Options.{Text, has_option, has_place, has_sign, is_place, is_sign, next}
use Rattle.seat_season.specs.Season.{Said}

-- ---- desks by their sessions

-- the digit of a session of 1 to 8
abbrev pub session_digit : ℕ → Option Text
session_digit session = if nat_le 1 session && nat_le session 8 then Some ((48 + session) ∷ []) else None

-- the session of the desk with this name, as a digit
abbrev pub digit_of : Items → Text → Option Text
digit_of names name = option_and_then session_digit (place_from 1 name names)

-- a script may stand here, or a desk
abbrev pub is_desk_or_place : Awaits → Text → Bool
is_desk_or_place Desk word = true
is_desk_or_place awaits word = is_place awaits word

-- a desk's name, = and a file: the session, and the file
abbrev pub named_file : Items → Awaits → Text → Option (Text × Text)
named_file names awaits word =
    if is_desk_or_place awaits word && has_sign word
    then option_map (λ session. (session, after_first is_sign word)) (digit_of names (before_first is_sign word)) else None

-- a desk's name alone
abbrev pub named_desk : Items → Awaits → Text → Option Text
named_desk names Desk word = digit_of names word
named_desk names awaits word = None

-- the word, with the session of a desk that it names
abbrev pub word_of : Items → Awaits → Text → Text
word_of names awaits word = option_map_or (λ named. named.0 ++ (codes "=" ++ named.1)) (named_file names awaits word)
    (unwrap_or (named_desk names awaits word) word)

abbrev pub renamed_by : Items → Awaits → List Text → List Text
renamed_by names awaits [] = []
renamed_by names awaits (word ∷ words) = word_of names awaits word ∷ renamed_by names (next awaits word) words

-- the words behind a command, where the season has names of desks
abbrev pub renamed : Option Items → Awaits → List Text → List Text
renamed None awaits words = words
renamed (Some names) awaits words = renamed_by names awaits words

-- ---- the options that a season stands for

-- the last two digits of a number
abbrev pub two : ℕ → Text
two n = (48 + n / 10 % 10) ∷ (48 + n % 10) ∷ []

-- YYYY-MM-DD (ISO 8601, the extended format of a calendar date)
unfoldable pub date_word : Date → Text
date_word date = two (date.year / 100) ++ (two (date.year % 100) ++ (codes "-" ++ (two date.month ++ (codes "-" ++ two date.day))))

-- over which flights and limits the command works
abbrev pub horizon_words : Option Text → Said → List Text
horizon_words folder said =
    codes "--set" ∷ path_in folder said.set
    ∷ codes "--limits" ∷ path_in folder said.limits
    ∷ codes "--first" ∷ date_word said.first
    ∷ codes "--days" ∷ decimal said.days ∷ []

-- a run goes on from the journal, or begins it anew where it has nothing
abbrev pub begun_words : List Text → Bool → Text → List Text
begun_words behind has_lines journal =
    if has_option (codes "--after") Nothing behind || has_option (codes "--resume") Nothing behind then []
    else if has_lines then codes "--after" ∷ journal ∷ []
    else if has_option (codes "--no-clobber") Nothing behind then []
    else codes "--no-clobber" ∷ []

abbrev pub run_words : List Text → Bool → Text → List Text
run_words behind has_lines journal =
    if has_option (codes "--journal") Nothing behind then []
    else codes "--journal" ∷ journal ∷ begun_words behind has_lines journal

abbrev pub serve_words : List Text → Text → List Text
serve_words behind journal =
    if has_option (codes "--journal") Nothing behind then [] else codes "--journal" ∷ journal ∷ []

-- the journal, where the command has one and none is named
abbrev pub journal_words : Text → List Text → Bool → Option Text → List Text
journal_words command behind has_lines None = []
journal_words command behind has_lines (Some journal) =
    if bytes_eq command (codes "cover") then []
    else if bytes_eq command (codes "run") then run_words behind has_lines journal
    else if bytes_eq command (codes "serve") then serve_words behind journal
    else if has_place Nothing behind then []
    else journal ∷ []

abbrev pub added_words : Said → Option Text → Bool → Text → List Text → List Text
added_words said folder has_lines command behind = horizon_words folder said
    ++ journal_words command behind has_lines (option_map (path_in folder) said.journal)

-- ---- the whole

-- what the season says stands behind the command, and ahead of what stood there
abbrev pub seasoned_line : Said → Option Text → Bool → List Text × (Text × List Text) → List Text
seasoned_line said folder has_lines line = line.0 ++ (line.1.0
    ∷ (added_words said folder has_lines line.1.0 line.1.1 ++ renamed said.desks Nothing line.1.1))

abbrev pub seasoned : Said → Option Text → Bool → List Text → List Text
seasoned said folder has_lines words = option_map_or (seasoned_line said folder has_lines) (line_in words) words

abbrev pub words_texts : Words → List Text
words_texts w = map string_bytes w.words.items
