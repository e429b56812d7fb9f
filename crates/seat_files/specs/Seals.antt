-- What was read beside a journal.
use Rattle.std.specs.Prelude.{ℕ, Bool, List, Option}
use Rattle.std.specs.Option.{option_map}
use Rattle.std.specs.Vec.{vec_items}
use Rattle.seat_files.specs.declared.seal_file.SealFile.{SealFile}

-- the bytes of the seal's file, where there is one
abbrev pub seal_bytes : SealFile → Option (List ℕ)
seal_bytes s = option_map vec_items s.text

-- whether there must be one
abbrev pub seal_wanted : SealFile → Bool
seal_wanted s = s.is_wanted
