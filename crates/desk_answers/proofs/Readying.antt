-- The line that says where a desk stands.
use Rattle.std.proofs.Common.{◌≡◌, ℕ, List, ◌++◌, codes}
use Rattle.std.specs.Prelude.{decimal, Option}
use Rattle.desk_answers.specs.Ready.{name_text, IsIsoDay, IsReadyLine}

-- its parts, one behind the other
pub ready_is : (name : Option (List ℕ)) (session lines calls today epoch : ℕ) (day text : List ℕ) → IsIsoDay today day
    → text ≡ codes "READY " ++ name_text name ++ decimal session ++ codes " " ++ decimal lines ++ codes " " ++ decimal calls
    ++ codes " " ++ day ++ codes " " ++ decimal epoch ++ codes "\n"
    → IsReadyLine name session lines calls today epoch text
ready_is name session lines calls today epoch day text is written = record { day = day; is_day = is; written = written }
