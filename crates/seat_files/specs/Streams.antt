-- What is known of a stream: how often it failed, which text is read in the place of what it gave, and what is still to be read.
use Rattle.std.specs.Prelude.{ℕ, List, Option, None, Some}
use Rattle.std.specs.Option.{option_map}
use Rattle.std.specs.Vec.{vec_items}
use Rattle.std.specs.Io.Cursor.{cursor_inner, cursor_remaining}
use Rattle.seat_files.specs.declared.streams.Input.{Input}
use Rattle.seat_files.specs.declared.streams.Output.{Output}
use Rattle.seat_files.specs.declared.streams.Source.{Source}
use Rattle.seat_files.specs.declared.streams.Source.TheVariants.{Text}

abbrev pub input_failures : Input → ℕ
input_failures s = s.reads.failures

abbrev pub output_failures : Output → ℕ
output_failures s = s.failures

-- the text that is read in the place of what its source gave, if there is one
abbrev pub input_held : Input → Option (List ℕ)
input_held s = option_map (λ held. vec_items (cursor_inner held)) s.held

-- what is still to be read of an input, where that is known: of a text that is held, or of the program's own
abbrev pub source_rest : Source → Option (List ℕ)
source_rest (Text text) = cursor_remaining (λ v. Some (vec_items v)) text
source_rest _ = None

abbrev pub rest_or : Option (Option (List ℕ)) → Source → Option (List ℕ)
rest_or (Some rest) source = rest
rest_or None source = source_rest source

abbrev pub input_rest : Input → Option (List ℕ)
input_rest s = rest_or (option_map (λ held. cursor_remaining (λ v. Some (vec_items v)) held) s.held) s.source
