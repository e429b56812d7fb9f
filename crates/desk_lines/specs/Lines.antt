-- What a desk's lines mean, each by where the desk stands.
use Rattle.std.specs.Prelude.{◌≡◌, ℕ, ◌+◌, ◌-◌, ◌^◌, min, nat_lt, ◌==◌, Bool, true, false, List, [], ◌∷◌, length, codes, Option, Some, None, Result, Ok, Err, ⊤}
use Rattle.std.specs.Prelude.{option_to_list}
use Rattle.airline_base.specs.Fields.{word_at}
use Rattle.airline_base.specs.Lines.{line_at}
use Rattle.airimp_lines.specs.Grammar.{IsRightSegment}
use Rattle.airimp_lines.specs.Looks.{look_at, NamesLook}
use Rattle.airimp_lines.specs.Steps.{Message, step, AreOwn}
use Rattle.airimp_lines.specs.declared.fault.ScriptKind.{ScriptKind}
use Rattle.airimp_lines.specs.declared.requests.Request.{Request as Asked}
use Rattle.desk_lines.specs.Calls.{MeansNumbered}
use Rattle.desk_lines.specs.Epochs.{by_epoch, stranger_behind}
use Rattle.desk_lines.specs.Words.{plain_word}
use Rattle.desk_lines.specs.declared.desk.Desk.{Desk}
use Rattle.desk_lines.specs.declared.desk.Meaning.{Meaning}
use Rattle.desk_lines.specs.declared.desk.Meaning.TheVariants.{Nothing, Request, Call, Look, Hello, Wrong}
use Rattle.desk_lines.specs.declared.desk.Standing.{Standing}
use Rattle.desk_lines.specs.declared.desk.Standing.TheVariants.{Silent, Between, Within, Refused}
use Rattle.desk_lines.specs.declared.desk.Wrong.TheVariants as faults

-- lines count from 1, and stay at the highest number
abbrev pub next_number : ℕ → ℕ
next_number n = min (n + 1) (2 ^ 32 - 1)

-- a line has more than 256 bytes, its end with it
abbrev pub is_long : List ℕ → Bool
is_long line = nat_lt 256 (length line)

-- a word to the host begins with ?
abbrev pub is_word : List ℕ → Bool
is_word [] = false
is_word (c ∷ text) = c == 63

-- a numbered line begins with @
abbrev pub is_numbered : List ℕ → Bool
is_numbered [] = false
is_numbered (c ∷ text) = c == 64

-- between two messages, or within one
abbrev pub standing_of : Message → Standing
standing_of None = Between
standing_of (Some locator) = Within locator

-- a wrong first line refuses its message; behind any other wrong line the desk stands where it stood
abbrev pub spoilt : Standing → Standing
spoilt Silent = Silent
spoilt Between = Refused
spoilt (Within locator) = Within locator
spoilt Refused = Refused

-- ---- words to the host

-- what is looked at, where something is
abbrev pub MeansLook : ℕ → Option (List ℕ) → Meaning → Type 0
MeansLook today (Some named) (Look look) = NamesLook today named look
MeansLook today (Some named) (Wrong faults.Word) = look_at named ≡ None
MeansLook today None (Wrong faults.Word) = ⊤
MeansLook today named _ = ⊥

-- a plain word, or a look
abbrev pub MeansWordBy : ℕ → List ℕ → Option Meaning → Meaning → Type 0
MeansWordBy today text (Some plain) meaning = meaning ≡ plain
MeansWordBy today text None meaning = MeansLook today (word_at (codes "? ") text) meaning

abbrev pub MeansWord : ℕ → List ℕ → Meaning → Type 0
MeansWord today text meaning = MeansWordBy today text (plain_word text) meaning

-- a hello ends the message that is open
abbrev pub behind_word : Meaning → Standing → Standing
behind_word (Hello name named) standing = Between
behind_word meaning standing = standing

-- a desk that was silent begins with a hello, and hears nothing else
abbrev pub greeted_by : Meaning → Standing × Meaning
greeted_by (Hello name named) = (Between, Hello name named)
greeted_by plain = (Silent, Wrong faults.NoHello)

abbrev pub greeted : Option Meaning → Standing × Meaning
greeted None = (Silent, Wrong faults.NoHello)
greeted (Some plain) = greeted_by plain

abbrev pub MeansHeardWord : ℕ → Standing → List ℕ → Standing → Meaning → Type 0
MeansHeardWord today standing text next meaning = MeansWord today text meaning × (next ≡ behind_word meaning standing)

abbrev pub MeansWordIn : Standing → ℕ → List ℕ → Standing → Meaning → Type 0
MeansWordIn Silent today text next meaning = (next, meaning) ≡ greeted (plain_word text)
MeansWordIn Between today text next meaning = MeansHeardWord today Between text next meaning
MeansWordIn (Within locator) today text next meaning = MeansHeardWord today (Within locator) text next meaning
MeansWordIn Refused today text next meaning = MeansHeardWord today Refused text next meaning

-- ---- lines of messages

-- what a line without a fault asks for
abbrev pub asked : Option Asked → Meaning
asked None = Nothing
asked (Some request) = Request request

-- a line behind which this message goes on, or which has this fault
abbrev pub MeansStep : ℕ → Message → ℕ → List ℕ → Result Message ScriptKind → Standing → Meaning → Type 0
MeansStep today message n text (Ok behind) next meaning =
    (own : Option Asked) × AreOwn today message (n, text) (option_to_list own) × (meaning ≡ asked own)
    × (next ≡ standing_of behind)
MeansStep today message n text (Err kind) next meaning =
    (meaning ≡ Wrong (faults.Line kind)) × (next ≡ spoilt (standing_of message))

-- a line of a message, or between two
abbrev pub MeansLine : ℕ → Message → ℕ → List ℕ → Standing → Meaning → Type 0
MeansLine today message n text next meaning = MeansStep today message n text (step message text) next meaning

-- a message that was refused ends with an empty line
abbrev pub behind_refused : List ℕ → Standing
behind_refused [] = Between
behind_refused (c ∷ text) = Refused

abbrev pub MeansText : ℕ → Standing → ℕ → List ℕ → Standing → Meaning → Type 0
MeansText today Silent n text next meaning = (meaning ≡ Wrong faults.NoHello) × (next ≡ Silent)
MeansText today Refused n text next meaning = (meaning ≡ Nothing) × (next ≡ behind_refused text)
MeansText today Between n text next meaning = MeansLine today None n text next meaning
MeansText today (Within locator) n text next meaning = MeansLine today (Some locator) n text next meaning

-- ---- the whole

-- a line that is no word: a numbered one, which outside a message is a wrong first line; or one of a message
abbrev pub MeansUnnamed : Bool → ℕ → Standing → List ℕ → ℕ → Standing → Meaning → Type 0
MeansUnnamed true today standing text n next meaning =
    MeansNumbered today standing n text meaning × (next ≡ spoilt standing)
MeansUnnamed false today standing text n next meaning = MeansText today standing n text next meaning

-- a line that is not too long, without its end: a word, wherever the desk stands, or that
abbrev pub MeansShort : Bool → ℕ → Standing → List ℕ → ℕ → Standing → Meaning → Type 0
MeansShort true today standing text n next meaning = MeansWordIn standing today text next meaning
MeansShort false today standing text n next meaning = MeansUnnamed (is_numbered text) today standing text n next meaning

-- a line with its end: it is too long, or that
abbrev pub MeansBy : Bool → ℕ → Standing → List ℕ → ℕ → Standing → Meaning → Type 0
MeansBy true today standing line n next meaning = (meaning ≡ Wrong faults.TooLong) × (next ≡ spoilt standing)
MeansBy false today standing line n next meaning =
    MeansShort (is_word (line_at line).0) today standing (line_at line).0 n next meaning

-- what it asks for has numbers and a suffix as they may be
abbrev pub IsRightMeaning : Meaning → Type 0
IsRightMeaning (Request request) = IsRightSegment request.segment
IsRightMeaning (Call call request) = IsRightSegment request.segment
IsRightMeaning _ = ⊤

-- the desk hears this line, and it means this: what its words say, unless it is numbered and the client that speaks is for another journal
pub record Hears (old new : Desk) (line : List ℕ) (meaning : Meaning) : Type 0 where
  pub heard : Meaning
  pub means : MeansBy (is_long line) old.today old.standing line (next_number old.lines) new.standing heard
  pub stranger_is : new.is_stranger ≡ stranger_behind old.is_stranger old.epoch heard
  pub meaning_is : meaning ≡ by_epoch new.is_stranger heard
  pub epoch_is : new.epoch ≡ old.epoch
