-- A partner's list, line by line, with the first fault that is met.
use Rattle.std.specs.Prelude.{◌≡◌, ◌⊎◌, ℕ, ◌+◌, List, [], ◌∷◌, ◌++◌, map, Option, None, Result, Ok, Err}
use Rattle.std.specs.Str.Lines.{lines}
use Rattle.airimp_lines.specs.declared.requests.Request.{Request}
use Rattle.partner_lists.specs.Listed.{IsLineFault, IsListed}
use Rattle.partner_lists.specs.Names.{last_named, name_of}
use Rattle.partner_lists.specs.declared.fault.PartnerFault.{PartnerFault}
use Rattle.partner_lists.specs.declared.fault.PartnerKind.{PartnerKind}
use Rattle.partner_lists.specs.declared.fault.PartnerKind.TheVariants.{Twice}
use Rattle.partner_lists.specs.declared.name.Name.{Name}

abbrev pub own_name : Request → Name
own_name r = name_of r.locator r.segment

-- each line's name, with its number
abbrev pub numbered_names : List Request → List (Name × ℕ)
numbered_names rows = map (λ r. (own_name r, r.line)) rows

-- no line ahead has the name
abbrev pub IsNew : List Request → Request → Type 0
IsNew ahead r = last_named (own_name r) (numbered_names ahead) ≡ None

-- the line is a booking's, whose name no line ahead has
pub record IsTaken (first line : ℕ) (text : List ℕ) (ahead : List Request) (r : Request) : Type 0 where
  pub listed : IsListed first line text r
  pub is_new : IsNew ahead r

-- the line is a booking's, whose name a line ahead has
pub record IsRepeated (first line : ℕ) (text : List ℕ) (ahead : List Request) : Type 0 where
  pub request : Request
  pub listed : IsListed first line text request
  pub is_old : IsNew ahead request → ⊥

-- a line ahead has the name, and that is the fault
pub record IsOld (ahead : List Request) (r : Request) (kind : PartnerKind) : Type 0 where
  pub is_twice : kind ≡ Twice
  pub is_old : IsNew ahead r → ⊥

-- the first fault of a line behind these
abbrev pub IsFault : ℕ → ℕ → List ℕ → List Request → PartnerKind → Type 0
IsFault first line text ahead Twice = IsRepeated first line text ahead
IsFault first line text ahead kind = IsLineFault first text kind

-- what the lines, counted from this number, come to behind those ahead: all of them, or the first fault
abbrev pub Gives : ℕ → ℕ → List (List ℕ) → List Request → Result (List Request) PartnerFault → Type 0
Gives first line [] ahead (Ok rows) = rows ≡ ahead
Gives first line [] ahead (Err fault) = ⊥
Gives first line (text ∷ texts) ahead outcome =
    ((r : Request) × IsTaken first line text ahead r × Gives first (line + 1) texts (ahead ++ r ∷ []) outcome)
    ⊎ ((kind : PartnerKind) × IsFault first line text ahead kind × (outcome ≡ Err (record { line = line; kind = kind })))

-- what a list comes to whose days are the earliest on or after the first one
pub record IsReading (first : ℕ) (bytes : List ℕ) (outcome : Result (List Request) PartnerFault) : Type 0 where
  pub given : Gives first 1 (lines bytes) [] outcome

-- ---- one line more

-- the booking of the line is added
pub record Takes (first line : ℕ) (text : List ℕ) (old new : List Request) : Type 0 where
  pub request : Request
  pub taken : IsTaken first line text old request
  pub added : new ≡ old ++ request ∷ []
