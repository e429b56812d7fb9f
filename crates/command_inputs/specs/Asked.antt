-- What the words of a question ask for, and what they are refused with.
use Rattle.std.specs.Prelude.{◌≡◌, ◌<◌, ◌||◌, ℕ, ◌+◌, Bool, true, false, if◌then◌else◌, List, [], ◌∷◌, ◌++◌, length, take, Option, Some, None, Result, Ok, Err, codes}
use Rattle.std.specs.List.{list_all}
use Rattle.std.specs.Str.{bytes_eq}
use Rattle.airline_base.specs.Names.{is_locator}
use Rattle.seat_lists.specs.declared.picking.Designator.{Designator}
use Rattle.seat_questions.specs.declared.rooms.CityPair.{CityPair}
use Rattle.seat_tables.specs.declared.sheet.Form.{Form}
use Rattle.seat_tables.specs.declared.sheet.Form.TheVariants.{Text, Csv, Json}
use Rattle.seat_words.specs.DayWords.{IsDateWord}
use Rattle.seat_words.specs.NameWords.{flight_in, pair_word_in}
use Rattle.seat_words.specs.declared.fault.WordFault.{WordFault}
use Rattle.seat_words.specs.declared.fault.WordFault.TheVariants.{BadBy, BadDay, BadFlight, BadForm, BadLocator, BadPair}
use Rattle.seat_words.specs.declared.work.Shape.{Shape}
use Rattle.command_inputs.specs.declared.locators.LocatorsFault.{LocatorsFault}
use Rattle.command_inputs.specs.declared.locators.LocatorsFault.TheVariants.{Word, Memory}
use Rattle.command_inputs.specs.declared.sums.By.{By}
use Rattle.command_inputs.specs.declared.sums.By.TheVariants.{EachLeg, EachFlight, EachDay, EachPair, EachClass}

-- what a word names, or else this fault
abbrev pub named : {A : Type 0} → WordFault → Option A → Result (Option A) WordFault
named fault None = Err fault
named fault (Some x) = Ok (Some x)

-- ---- a flight, and a pair of stations

abbrev pub flight_of : List ℕ × ℕ × Option ℕ → Designator
flight_of name = record { airline = name.0; number = name.1; suffix = name.2 }

abbrev pub designator_of : Option (List ℕ × ℕ × Option ℕ) → Option Designator
designator_of None = None
designator_of (Some name) = Some (flight_of name)

abbrev pub designator_asked : List ℕ → Result (Option Designator) WordFault
designator_asked word = named BadFlight (designator_of (flight_in word))

abbrev pub pair_of : Option (List ℕ × List ℕ) → Option CityPair
pair_of None = None
pair_of (Some stations) = Some (record { board = stations.0; off = stations.1 })

abbrev pub stations_asked : List ℕ → Result (Option CityPair) WordFault
stations_asked word = named BadPair (pair_of (pair_word_in word))

-- ---- a day

-- the word is the date of no day
pub record NamesNoDay (word : List ℕ) : Type 0 where
  pub none : (day : ℕ) → IsDateWord word day → ⊥

-- the word is the date of this day; or of none, and is refused
abbrev pub IsDayAsked : List ℕ → Result (Option ℕ) WordFault → Type 0
IsDayAsked word (Ok (Some day)) = IsDateWord word day
IsDayAsked word (Ok None) = ⊥
IsDayAsked word (Err BadDay) = NamesNoDay word
IsDayAsked word (Err _) = ⊥

-- ---- locators

-- the word is a locator, and is added
pub record IsAdded (word : List ℕ) (old new : List (List ℕ)) : Type 0 where
  pub locator : is_locator word ≡ true
  pub put : new ≡ old ++ word ∷ []

-- the word is none, and the fault says so
pub record IsNoLocator (word : List ℕ) (fault : WordFault) : Type 0 where
  pub told : fault ≡ BadLocator
  pub none : is_locator word ≡ false

-- where it is refused, or a locator is not added
abbrev pub IsLocatorFault : List ℕ → LocatorsFault → Type 0
IsLocatorFault word (Word fault) = IsNoLocator word fault
IsLocatorFault word Memory = is_locator word ≡ true

-- each word is a locator, and these are they
pub record AreLocators (words locators : List (List ℕ)) : Type 0 where
  pub are : locators ≡ words
  pub each : list_all is_locator words ≡ true

-- one of the words is none, and the fault says so
pub record AreNoLocators (words : List (List ℕ)) (fault : WordFault) : Type 0 where
  pub told : fault ≡ BadLocator
  pub some : list_all is_locator words ≡ false

-- the words are locators up to one of them
pub record BeginAsLocators (words : List (List ℕ)) : Type 0 where
  pub number : ℕ
  pub within : number < length words
  pub locators : list_all is_locator (take (number + 1) words) ≡ true

-- where they are refused, or one that is a locator is not added
abbrev pub IsLocatorsFault : List (List ℕ) → LocatorsFault → Type 0
IsLocatorsFault words (Word fault) = AreNoLocators words fault
IsLocatorsFault words Memory = BeginAsLocators words

-- ---- what sums of loads are of

abbrev pub kind_word : List ℕ → Option By
kind_word word =
    if bytes_eq word (codes "flight") then Some EachFlight else if bytes_eq word (codes "day") then Some EachDay
    else if bytes_eq word (codes "class") then Some EachClass else None

abbrev pub by_word : List ℕ → Option By
by_word word =
    if bytes_eq word (codes "leg") then Some EachLeg else if bytes_eq word (codes "pair") then Some EachPair else kind_word word

abbrev pub sums_asked : List ℕ → Result (Option By) WordFault
sums_asked word = named BadBy (by_word word)

-- ---- the form

-- one of CSV, JSON and bars at most; the text, with bars or without, is none
abbrev pub form_by : Bool → Bool → Bool → Result (Option Form) WordFault
form_by false false bars = Ok None
form_by true false false = Ok (Some Csv)
form_by false true false = Ok (Some Json)
form_by true true bars = Err BadForm
form_by true false true = Err BadForm
form_by false true true = Err BadForm

abbrev pub form_asked : Shape → Bool → Result (Option Form) WordFault
form_asked shape bars = form_by shape.csv shape.json bars

-- the text is a form of sums, and bars are none
abbrev pub sums_form_of : Result (Option Form) WordFault → Result Form WordFault
sums_form_of (Ok None) = Ok Text
sums_form_of (Ok (Some form)) = Ok form
sums_form_of (Err fault) = Err fault

abbrev pub sums_form : Shape → Bool → Result Form WordFault
sums_form shape bars = (if bars then Err BadForm else sums_form_of (form_asked shape false))

-- a page has no other form, no bars and no sums
abbrev pub page_asked : Shape → Bool → Bool → Result (Unit {0}) WordFault
page_asked shape bars is_summed = (if shape.csv || shape.json || bars || is_summed then Err BadForm else Ok tt)
