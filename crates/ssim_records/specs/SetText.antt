-- SSIM chapter 7: what a data set is, apart from how one is read.
use Rattle.std.specs.Prelude.{◌≡◌, ℕ, ◌+◌, ◌-◌, ◌*◌, ◌/◌, ◌%◌, ◌<◌, ◌≤◌, IsTrue, Bool, true, false, not, ◌==◌, if◌then◌else◌, List, [], ◌∷◌, ◌++◌, length, Option, Some, None, ℤ, pos, negsuc, ◌-ℤ◌, codes, ◌⊎◌}
use Rattle.std.specs.Char.{is_ascii_uppercase, is_ascii_digit}
use Rattle.std.specs.List.{list_all, filter}
use Rattle.std.specs.Str.Parse.{digits_value}
use Rattle.airline_base.specs.Names.{is_airline, is_station}
use Rattle.airline_base.specs.Days.{IsDayField, two_digits}
use Rattle.ssim_records.specs.declared.carrier.Carrier.{Carrier}
use Rattle.ssim_records.specs.declared.carrier.Leg.{Leg}
use Rattle.ssim_records.specs.declared.set.DataSet.{DataSet}
use Rattle.airline_base.specs.Bytes.{header_type, carrier_type, leg_type, segment_type, trailer_type, field, is_filler, is_printable, set_title, open_end}

-- ---- fields

-- blanks (32), and then digits up to the last byte
pub record IsPadded (text : List ℕ) (n : ℕ) : Type 0 where
  pub blanks : List ℕ
  pub digits : List ℕ
  pub parts : text ≡ blanks ++ digits
  pub blank : IsTrue (list_all (λ c. c == 32) blanks)
  pub digit : IsTrue (list_all is_ascii_digit digits)
  pub some : 0 < length digits
  pub value : n ≡ digits_value 10 digits

-- local times or UTC
abbrev pub IsMode : List ℕ → Bool → Type 0
IsMode text local = elim local [ true ↦ text ≡ codes "L" | false ↦ text ≡ codes "U" ]

-- two characters and a blank
abbrev pub IsDesignator : List ℕ → List ℕ → Type 0
IsDesignator text airline = IsTrue (is_airline airline) × (text ≡ airline ++ codes " ")

-- a day not before the first, or no end
abbrev pub IsUntil : ℕ → List ℕ → Option ℕ → Type 0
IsUntil from text None = text ≡ open_end
IsUntil from text (Some to) = IsDayField text to × (from ≤ to)

abbrev pub IsSuffix : List ℕ → Option ℕ → Type 0
IsSuffix text None = text ≡ codes " "
IsSuffix text (Some letter) = IsTrue (is_ascii_uppercase letter) × (text ≡ letter ∷ [])

-- the kth byte is the digit k (48 is `0`) where the leg operates on that weekday, and else a blank; 1 is Monday
abbrev pub days_text : ℕ → List Bool → List ℕ
days_text k [] = []
days_text k (day ∷ days) = (if day then 48 + k else 32) ∷ days_text (k + 1) days

abbrev pub IsDays : List ℕ → List Bool → Type 0
IsDays text days = (length days ≡ 7) × (text ≡ days_text 1 days)

abbrev pub IsRate : List ℕ → Bool → Type 0
IsRate text second_week = elim second_week [ true ↦ text ≡ codes "2" | false ↦ (text ≡ codes " ") ⊎ (text ≡ codes "1") ]

-- hours and minutes, or 2400
abbrev pub IsTime : List ℕ → ℕ → Type 0
IsTime text minutes = (text ≡ two_digits (minutes / 60) ++ two_digits (minutes % 60)) × (minutes ≤ 1440)

abbrev pub IsOffset : List ℕ → ℤ → Type 0
IsOffset text offset = (hours minutes : ℕ) × (hours < 24) × (minutes < 60)
    × (((text ≡ codes "+" ++ two_digits hours ++ two_digits minutes) × (offset ≡ pos (60 * hours + minutes)))
    ⊎ ((text ≡ codes "-" ++ two_digits hours ++ two_digits minutes) × (offset ≡ pos 0 -ℤ pos (60 * hours + minutes))))

-- a blank or 0, 1 to 7 days later, A or J one day earlier
abbrev pub IsShift : List ℕ → ℤ → Type 0
IsShift text shift =
    ((text ≡ codes " ") × (shift ≡ pos 0)) ⊎ (((n : ℕ) × (n ≤ 7) × (text ≡ (48 + n) ∷ []) × (shift ≡ pos n))
    ⊎ (((text ≡ codes "A") ⊎ (text ≡ codes "J")) × (shift ≡ negsuc 0)))

-- ---- records

abbrev pub IsTyped : ℕ → List ℕ → Type 0
IsTyped t text = field 1 1 text ≡ t ∷ []

abbrev pub IsHeader : List ℕ → Type 0
IsHeader text = IsTyped header_type text × (field 2 35 text ≡ set_title)

pub record IsCarrier (text : List ℕ) (c : Carrier) : Type 0 where
  pub typed : IsTyped carrier_type text
  pub mode : IsMode (field 2 2 text) c.local
  pub airline : IsDesignator (field 3 5 text) c.airline
  pub from : IsDayField (field 15 21 text) c.from
  pub to : IsUntil c.from (field 22 28 text) c.to

pub record IsLeg (airline : List ℕ) (text : List ℕ) (leg : Leg) : Type 0 where
  pub typed : IsTyped leg_type text
  pub suffix : IsSuffix (field 2 2 text) leg.suffix
  pub own : IsDesignator (field 3 5 text) airline
  pub number : IsPadded (field 6 9 text) leg.number × (1 ≤ leg.number)
  pub variation : IsPadded (field 10 11 text) leg.variation
  pub sequence : IsPadded (field 12 13 text) leg.sequence × (1 ≤ leg.sequence)
  pub from : IsDayField (field 15 21 text) leg.from
  pub to : IsUntil leg.from (field 22 28 text) leg.to
  pub days : IsDays (field 29 35 text) leg.days
  pub rate : IsRate (field 36 36 text) leg.second_week
  pub board : IsTrue (is_station leg.board) × (field 37 39 text ≡ leg.board)
  pub std : IsTime (field 44 47 text) leg.std
  pub offset : IsOffset (field 48 52 text) leg.offset
  pub off : IsTrue (is_station leg.off) × (field 55 57 text ≡ leg.off)
  pub overflow : field 128 128 text ≡ leg.overflow ∷ []
  pub shift : IsShift (field 193 193 text) leg.shift

abbrev pub IsSix : List ℕ → ℕ → Type 0
IsSix text n = (length text ≡ 6) × IsTrue (list_all is_ascii_digit text) × (n ≡ digits_value 10 text)

pub record IsTrailer (airline : List ℕ) (serial : ℕ) (text : List ℕ) : Type 0 where
  pub typed : IsTyped trailer_type text
  pub own : IsDesignator (field 3 5 text) airline
  pub check : IsSix (field 188 193 text) (serial - 1)
  pub end : field 194 194 text ≡ codes "E"

-- legs and segment data, of which this many records come before
abbrev pub IsBody : List ℕ → ℕ → List (List ℕ) → List Leg → ℕ → Type 0
IsBody airline before [] legs segments = (legs ≡ []) × (segments ≡ 0)
IsBody airline before (text ∷ texts) legs segments =
    ((leg : Leg) × (others : List Leg) × IsLeg airline text leg × (leg.serial ≡ before + 1) × (legs ≡ leg ∷ others)
    × IsBody airline (before + 1) texts others segments)
    ⊎ ((k : ℕ) × IsTyped segment_type text × (segments ≡ k + 1) × IsBody airline (before + 1) texts legs k)

-- the k-th has the serial k
abbrev pub IsNumbered : ℕ → List (List ℕ) → Type 0
IsNumbered before [] = Unit {0}
IsNumbered before (text ∷ texts) = IsSix (field 195 200 text) (before + 1) × IsNumbered (before + 1) texts

-- ---- the whole

abbrev pub IsEnd : List ℕ → Type 0
IsEnd end = (end ≡ []) ⊎ ((end ≡ 10 ∷ []) ⊎ (end ≡ 13 ∷ 10 ∷ []))

-- the bytes are these records, each with its end
abbrev pub IsCut : List ℕ → List (List ℕ) → Type 0
IsCut bytes [] = bytes ≡ []
IsCut bytes (text ∷ texts) =
    (end rest : List ℕ) × (length text ≡ 200) × IsTrue (list_all is_printable text) × IsEnd end
    × (bytes ≡ text ++ (end ++ rest)) × IsCut rest texts

pub record IsDataSet (most : ℕ) (bytes : List ℕ) (set : DataSet) : Type 0 where
  pub header : List ℕ
  pub others : List (List ℕ)
  pub carrier : List ℕ
  pub body : List (List ℕ)
  pub trailer : List ℕ
  pub cut : IsCut bytes (header ∷ others)
  pub is_header : IsHeader header
  pub order : filter (λ text. not (is_filler text)) others ≡ carrier ∷ body ++ trailer ∷ []
  pub numbered : IsNumbered 0 (header ∷ carrier ∷ body ++ trailer ∷ [])
  pub is_carrier : IsCarrier carrier set.carrier
  pub is_body : IsBody set.carrier.airline 2 body set.legs set.segments
  pub begins : (text : List ℕ) (texts : List (List ℕ)) → body ≡ text ∷ texts → IsTyped leg_type text
  pub is_trailer : IsTrailer set.carrier.airline (length body + 3) trailer
  pub few : length body + 3 ≤ most

-- ---- laws

-- no bytes can be cut in two ways
abbrev pub OneCut : Type 0
OneCut = (bytes : List ℕ) (a b : List (List ℕ)) → IsCut bytes a → IsCut bytes b → a ≡ b

-- no bytes are two data sets
abbrev pub OneDataSet : Type 0
OneDataSet = (m n : ℕ) (bytes : List ℕ) (a b : DataSet) → IsDataSet m bytes a → IsDataSet n bytes b → a ≡ b
