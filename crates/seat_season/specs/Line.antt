-- A command line, and the season that it names.
use Rattle.std.specs.Prelude.{ℕ, ◌+◌, ◌&&◌, not, if◌then◌else◌, Bool, false, List, [], ◌∷◌, map, take, drop, slice_get, Option, Some, None, is_some, option_map, option_and_then, codes}
use Rattle.std.specs.List.{prefix_len}
use Rattle.std.specs.Option.{option_map_or}
use denote.Ref.{Bor}
use Rattle.seat_season.specs.Options.{Text, has_option, is_one_of, is_option, season_from}
use Rattle.seat_season.specs.declared.awaits.Awaits.TheVariants.{Nothing}

-- the texts behind references
abbrev pub texts : List (Bor Text) → List Text
texts = map (λ word. word.now)

-- the place of the command: the first word behind the program's name that is no option
abbrev pub command_place : List Text → ℕ
command_place words = 1 + prefix_len is_option (drop 1 words)

-- the words ahead of the command, the command, and the words behind it
abbrev pub line_in : List Text → Option (List Text × (Text × List Text))
line_in words = option_map
    (λ command. (take (command_place words) words, (command, drop (command_place words + 1) words)))
    (slice_get words (command_place words))

-- the commands that work over a set, its limits and its days
abbrev pub horizon_commands : List Text
horizon_commands = codes "cover"
    ∷ codes "rooms"
    ∷ codes "loads"
    ∷ codes "run"
    ∷ codes "serve"
    ∷ codes "bookings"
    ∷ codes "waiting"
    ∷ codes "pickup"
    ∷ codes "history"
    ∷ codes "avs"
    ∷ codes "reconcile"
    ∷ codes "changes"
    ∷ codes "audit"
    ∷ codes "seal"
    ∷ codes "recover"
    ∷ codes "replies"
    ∷ codes "told"
    ∷ codes "why"
    ∷ []

-- the command is one of these
abbrev pub is_over : Text → Bool
is_over command = is_one_of command horizon_commands

-- the season that a command line names, where its command takes one
abbrev pub season_named : List Text → Option Text
season_named words = option_and_then
    (λ line. if is_over line.1.0 then season_from Nothing line.1.1 else None) (line_in words)

-- the first of the four options that a season stands in the place of
abbrev pub beside_in : List Text → Option Text
beside_in behind =
    if has_option (codes "--set") Nothing behind then Some (codes "--set")
    else if has_option (codes "--limits") Nothing behind then Some (codes "--limits")
    else if has_option (codes "--first") Nothing behind then Some (codes "--first")
    else if has_option (codes "--days") Nothing behind then Some (codes "--days")
    else None

abbrev pub beside_season : List Text → Option Text
beside_season words = option_and_then (λ line. beside_in line.1.1) (line_in words)

-- the command takes one, and the line names neither it nor what it stands in the place of
abbrev pub lacks_horizon : List Text → Bool
lacks_horizon words = option_map_or
    (λ line. is_over line.1.0 && (not (is_some (season_from Nothing line.1.1)) && not (is_some (beside_in line.1.1))))
    (line_in words) false
