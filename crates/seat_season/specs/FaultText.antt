-- The printed text of what a season file is refused with.
use Rattle.std.specs.Prelude.{ℕ, List, ◌++◌, Option, Some, None, codes}
use Rattle.std.specs.Fmt.{decimal}
use Rattle.seat_season.specs.declared.fault.SeasonFault.{SeasonFault}
use Rattle.seat_season.specs.declared.fault.SeasonFault.TheVariants as faults
use Rattle.seat_season.specs.declared.fault.SeasonKind.{SeasonKind}
use Rattle.seat_season.specs.declared.fault.SeasonKind.TheVariants as kinds
use Rattle.seat_season.specs.Keys.{key_text}

-- the code, and the line or the key
abbrev pub season_text : SeasonKind → List ℕ
season_text (kinds.Form line) = codes "SEASON form " ++ decimal line
season_text kinds.Key = codes "SEASON key"
season_text (kinds.Value key) = codes "SEASON value " ++ key_text key
season_text (kinds.Missing key) = codes "SEASON missing " ++ key_text key

abbrev pub kind_of : SeasonFault → SeasonKind
kind_of (faults.Unknown key) = kinds.Key
kind_of (faults.Wrong key) = kinds.Value key
kind_of (faults.Missing key) = kinds.Missing key

abbrev pub key_of : SeasonFault → Option (List ℕ)
key_of (faults.Unknown key) = Some key.now
key_of (faults.Wrong key) = None
key_of (faults.Missing key) = None
