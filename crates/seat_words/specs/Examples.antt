-- Command lines that are read, as the help shows them.
use Rattle.std.specs.Prelude.{◌≡◌, ℕ, ◌==◌, if◌then◌else◌, true, List, [], ◌∷◌, Some, map, option_map}
use Rattle.clap.specs.Words.{Text, subcommand_of, takes}
use Rattle.seat_words.specs.CommandLine.{seatdesk_app}
use Rattle.seat_words.specs.Jobs.{Line}

-- one more byte before the first word
abbrev pub before_first : ℕ → List Text → List Text
before_first c [] = (c ∷ []) ∷ []
before_first c (word ∷ words) = (c ∷ word) ∷ words

-- the words of a line, at each blank
abbrev pub words_of : Text → List Text
words_of [] = [] ∷ []
words_of (c ∷ rest) = if c == 32 then [] ∷ words_of rest else before_first c (words_of rest)

-- the values that clap found, by the names of their options
abbrev pub found_values : Line → Text × List (Text × List Text)
found_values line = (line.0, map (λ row. (row.id, row.values)) line.1)

-- clap takes the line, and finds this command with these values
pub record IsReadTo (line command : Text) (values : List (Text × List Text)) : Type 0 where
  pub taken : takes seatdesk_app (words_of line) ≡ true
  pub found : option_map found_values (subcommand_of seatdesk_app (words_of line)) ≡ Some (command, values)
