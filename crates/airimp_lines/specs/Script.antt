-- Scripts: booking messages (AIRIMP) with empty lines between them, apart from how one is read.
use Rattle.std.specs.Prelude.{◌≡◌, ℕ, IsTrue, not, ◌==◌, List, [], ◌∷◌, ◌++◌, length, filter}
use Rattle.std.specs.List.{slice_split, enumerate_from}
use Rattle.std.specs.Str.Lines.{lines}
use Rattle.airline_base.specs.Names.{is_locator}
use Rattle.airimp_lines.specs.Grammar.{SpellsSegment}
use Rattle.airimp_lines.specs.Messages.{is_address, is_remark, is_passed_over}
use Rattle.airimp_lines.specs.declared.requests.Request.{Request}

-- a line of the script, with its number
abbrev pub Line : Type 0
Line = ℕ × List ℕ

-- the runs of lines between empty lines: each that has a line is a message
abbrev pub runs_of : List Line → List (List Line)
runs_of lines = slice_split (λ line. length line.1 == 0) lines

-- an address, a blank, the locator, and nothing or a remark
pub record IsHeading (text locator : List ℕ) : Type 0 where
  pub address : List ℕ
  pub remark : List ℕ
  pub written : text ≡ address ++ (32 ∷ (locator ++ remark))
  pub is_address : IsTrue (is_address address)
  pub is_locator : IsTrue (is_locator locator)
  pub is_remark : IsTrue (is_remark remark)

-- the lines that ask for seats
abbrev pub segment_lines : List Line → List Line
segment_lines lines = filter (λ line. not (is_passed_over line.1)) lines

-- the line spells the request's segment, in a message with this locator
pub record IsRequest (today : ℕ) (locator : List ℕ) (line : Line) (request : Request) : Type 0 where
  pub spelled : SpellsSegment today line.1 request.segment
  pub own_locator : request.locator ≡ locator
  pub own_line : request.line ≡ line.0

-- a request for each line, in order
abbrev pub AreRequests : ℕ → List ℕ → List Line → List Request → Type 0
AreRequests today locator [] [] = Unit {0}
AreRequests today locator (line ∷ lines) (request ∷ requests) =
    IsRequest today locator line request × AreRequests today locator lines requests
AreRequests today locator _ _ = ⊥

-- the first line has the locator, and the segment lines behind it are the requests
abbrev pub IsMessage : ℕ → List Line → List Request → Type 0
IsMessage today [] requests = requests ≡ []
IsMessage today (first ∷ others) requests =
    (locator : List ℕ) × IsHeading first.1 locator × AreRequests today locator (segment_lines others) requests

-- the requests of each message, one message after the other
abbrev pub AreMessages : ℕ → List (List Line) → List Request → Type 0
AreMessages today [] requests = requests ≡ []
AreMessages today (message ∷ messages) requests =
    (own others : List Request) × IsMessage today message own × AreMessages today messages others
    × (requests ≡ own ++ others)

-- the requests of a script on that day: lines count from 1
abbrev pub IsScript : ℕ → List ℕ → List Request → Type 0
IsScript today bytes requests = AreMessages today (runs_of (enumerate_from 1 (lines bytes))) requests

-- no script has two lists of requests on one day
abbrev pub OneScript : Type 0
OneScript = (today : ℕ) (bytes : List ℕ) (a b : List Request) → IsScript today bytes a → IsScript today bytes b → a ≡ b
