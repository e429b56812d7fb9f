-- The codes of a report (AIRIMP). TK and TL for other legs, another class, or another flight or day, HX for want of room and UC for a class that is no more are readings of this project.
use Rattle.std.specs.Prelude.{Bool, ℕ, if◌then◌else◌, List, codes, Option, Some, None}
use Rattle.seat_rules.specs.declared.booking.Status.{Status}
use Rattle.seat_rules.specs.declared.booking.Status.TheVariants.{Held, Waiting}
use Rattle.carry_reports.specs.declared.fating.Asked.{Asked as AskedFor}
use Rattle.carry_reports.specs.declared.fating.Fate.{Fate}
use Rattle.carry_reports.specs.declared.fating.Fate.TheVariants.{Departed, Unserved, Unsold, Asked}
use Rattle.carry_reports.specs.declared.fating.Fated.{Fated}
use Rattle.carry_reports.specs.declared.fating.Outcome.{Outcome}
use Rattle.carry_reports.specs.declared.fating.Outcome.TheVariants as outcomes

-- held as it was, or with other legs
abbrev pub kept_code : Bool → List ℕ
kept_code changed = (if changed then codes "TK" else codes "HK")

-- listed, on the same legs or on others
abbrev pub listed_code : Bool → List ℕ
listed_code changed = (if changed then codes "TL" else codes "HL")

-- who held and holds, and who waited and holds
abbrev pub held_code : Status → Bool → List ℕ
held_code Held changed = kept_code changed
held_code Waiting changed = codes "KL"

abbrev pub outcome_code : Status → Bool → Outcome → List ℕ
outcome_code status changed outcomes.Held = held_code status changed
outcome_code status changed outcomes.Waiting = listed_code changed
outcome_code status changed outcomes.Refused = codes "HX"

abbrev pub asked_code : Status → AskedFor → List ℕ
asked_code status a = outcome_code status a.changed a.outcome

abbrev pub fate_code : Status → Fate → Option (List ℕ)
fate_code status Departed = None
fate_code status Unserved = Some (codes "UN")
fate_code status Unsold = Some (codes "UC")
fate_code status (Asked a) = Some (asked_code status a)

-- the code for what became of a live booking; who departed before today has none
abbrev pub code_of : Fated → Option (List ℕ)
code_of f = fate_code f.booking.status f.fate

-- the code, or DEPARTED
abbrev pub word_text : Option (List ℕ) → List ℕ
word_text None = codes "DEPARTED"
word_text (Some code) = code
