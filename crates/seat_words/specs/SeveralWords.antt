-- The values of a command of which there may be more than one, as they are read ahead of the others.
use Rattle.std.specs.Prelude.{List, Option, None, Some}
use Rattle.clap.specs.Words.{Row, Text}
use Rattle.seat_words.specs.Jobs.{HasAny}

-- clap found these values of what a command may have several of, or it may have several of nothing
abbrev pub HasSeveral : List Row → Option Text → Option (List Text) → Type 0
HasSeveral rows (Some id) (Some texts) = HasAny rows id texts
HasSeveral rows (Some id) None = ⊥
HasSeveral rows None (Some texts) = ⊥
HasSeveral rows None None = Unit {0}
