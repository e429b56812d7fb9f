-- Words that name the scripts of sessions: each by its place, or each by a number ahead of its file.
use Rattle.std.specs.Prelude.{◌≡◌, ◌≤◌, ℕ, zero, suc, ◌-◌, ◌==◌, ◌&&◌, ◌||◌, nat_le, nat_lt, if◌then◌else◌, Bool, false, true, not, is_some, List, [], ◌∷◌, find, length, max, slice_get, Option, Some, None, option_map, option_and_then}
use Rattle.std.specs.Char.{is_ascii_digit}
use Rattle.std.specs.List.{after_first, before_first, list_all, list_any, position_or_len}
use Rattle.std.specs.Option.{option_map_or}
use Rattle.clap.specs.Words.{Text}
use Rattle.seat_words.specs.declared.fault.WordFault.{WordFault}
use Rattle.seat_words.specs.declared.fault.WordFault.TheVariants as faults

-- the sign between a number and a file is =
abbrev pub is_sign : ℕ → Bool
is_sign byte = byte == 61

-- the number that digits write: one digit's own; several are no session's, and 0 stands for these
abbrev pub digit_value : List ℕ → ℕ
digit_value (digit ∷ []) = digit - 48
digit_value _ = 0

-- digits, at least one, and = behind them
abbrev pub begins_with_number : Text → Bool
begins_with_number word =
    nat_lt (position_or_len is_sign word) (length word)
    && nat_lt 0 (length (before_first is_sign word))
    && list_all is_ascii_digit (before_first is_sign word)

-- digits and = ahead of the file, as in 3=lisbon.txt: the number, and the file
abbrev pub numbered : Text → Option (ℕ × Text)
numbered word =
    if begins_with_number word then Some (digit_value (before_first is_sign word), after_first is_sign word) else None

-- the words have numbers: one of them has
abbrev pub have_numbers : List Text → Bool
have_numbers words = list_any (λ word. is_some (numbered word)) words

-- the word is that of the session
abbrev pub is_of : ℕ → Text → Bool
is_of session word = option_map_or (λ named. named.0 == session) (numbered word) false

-- the file behind a session's number
abbrev pub numbered_file : ℕ → List Text → Option Text
numbered_file session words =
    option_and_then (λ word. option_map (λ named. named.1) (numbered word)) (find (is_of session) words)

-- which file each session has: that of its number, or, where the words have no numbers, that of its place
abbrev pub file_of : List Text → ℕ → Option Text
file_of words zero = None
file_of words (suc place) =
    if have_numbers words then numbered_file (suc place) words else slice_get words place

-- a number of 1 to 8, and a file behind it
abbrev pub is_of_a_session : Text → Bool
is_of_a_session word = option_map_or (λ named. nat_le 1 named.0 && nat_le named.0 8 && nat_le 1 (length named.1)) (numbered word) false

-- one of these words has the number of that word
abbrev pub is_repeated : Text → List Text → Bool
is_repeated word words = option_map_or (λ named. list_any (is_of named.0) words) (numbered word) false

-- no number stands twice
abbrev pub are_apart : List Text → Bool
are_apart [] = true
are_apart (word ∷ words) = not (is_repeated word words) && are_apart words

-- the highest number
abbrev pub highest_after : ℕ → List Text → ℕ
highest_after most [] = most
highest_after most (word ∷ words) = highest_after (max most (option_map_or (λ named. named.0) (numbered word) 0)) words

-- how many sessions the words ask for: up to 8 words, of which all have numbers that are right, or none has one
abbrev pub sessions_in : List Text → Option ℕ
sessions_in words =
    if not (nat_le (length words) 8) then None
    else if not (have_numbers words) then Some (length words)
    else if list_all is_of_a_session words && are_apart words then Some (highest_after 0 words)
    else None

-- a run needs a script, unless it has changes: then session 1 may ask for nothing
abbrev pub sessions_of_run : List Text → Bool → Option ℕ
sessions_of_run [] has_changes = if has_changes then Some 1 else None
sessions_of_run (word ∷ words) has_changes = sessions_in (word ∷ words)

-- what an audit lacks: scripts need the day of the run, and that day, an older journal and a list of refused lines need scripts
abbrev pub audit_lacks : Bool → Bool → Bool → Option WordFault
audit_lacks true has_older has_day = if has_day then None else Some faults.BadToday
audit_lacks false has_older has_day = if has_older || has_day then Some faults.BadScripts else None

-- ---- what that comes to

-- the file that a word names
abbrev pub file_behind : List Text → Text → Option Text
file_behind words word = if have_numbers words then option_map (λ named. named.1) (numbered word) else Some word

-- the word's file is that of one of the first n sessions
pub record IsServed (words : List Text) (n : ℕ) (word : Text) : Type 0 where
  pub session : ℕ
  pub first : 1 ≤ session
  pub last : session ≤ n
  pub file : file_of words session ≡ file_behind words word
