-- Where and on which day a feed begins.
use Rattle.std.specs.Prelude.{◌≡◌, ℕ, suc, ◌==◌, Bool, true, false, nat_lt, if◌then◌else◌, List, [], ◌∷◌, Option, None, Some}
use Rattle.std.specs.Char.{is_ascii_digit}
use Rattle.std.specs.Option.{is_none}
use Rattle.desk_stream.specs.Leads.{first_day, lead_of}
use Rattle.desk_serving.specs.declared.feed_opening.Looking.{Looking}
use Rattle.seat_seal.specs.Eras.{day_of_era}
use Rattle.seat_seal.specs.Known.{IsEraOf}
use Rattle.seat_seal.specs.declared.beside.Beside.{Beside}
use Rattle.seat_seal.specs.declared.era.Era.{Era}

-- ---- the day

-- the seal beside a file knows no day
pub record NeedsDay (beside : Beside) (file : List ℕ) (needs : Bool) : Type 0 where
  pub era : Era
  pub is_era : IsEraOf beside file era
  pub needs_is : needs ≡ is_none (day_of_era era)

-- the day that is known, or else the one that a feed begins with
abbrev pub day_or : Option ℕ → Option ℕ → Option ℕ
day_or None first = first
day_or (Some known) first = Some known

-- the known one is that of the seal beside a file, and the feed begins with this line
pub record IsFeedDay (beside : Beside) (file line : List ℕ) (day : Option ℕ) : Type 0 where
  pub era : Era
  pub is_era : IsEraOf beside file era
  pub day_is : day ≡ day_or (day_of_era era) (first_day (lead_of line))

-- ---- the lines

-- a line that begins here is an entry's by its first byte, which is a digit; else it is what it was
abbrev pub is_entry : Bool → Bool → ℕ → Bool
is_entry true opens c = is_ascii_digit c
is_entry false opens c = opens

-- one more, for an entry's line
abbrev pub one_if : Bool → ℕ → ℕ
one_if true n = suc n
one_if false n = n

-- how many lines of entries end in a text, where a line begins or does not, and is an entry's or is not
abbrev pub entries_in : Bool → Bool → List ℕ → ℕ
entries_in begins opens [] = 0
entries_in begins opens (c ∷ text) =
    if c == 10 then one_if (is_entry begins opens c) (entries_in true false text) else entries_in false (is_entry begins opens c) text

-- they are fewer than those that are still looked for
abbrev pub left_behind : Looking → List ℕ → Bool
left_behind looking text = nat_lt (entries_in looking.begins looking.opens text) looking.left
