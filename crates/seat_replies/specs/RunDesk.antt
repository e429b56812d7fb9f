-- What `run` writes: an older journal and behind it what the scripts ask, and the replies to each script.
use Rattle.std.specs.Prelude.{◌≡◌, ◌≤◌, ◌<◌, ◌+◌, ◌-◌, ℕ, Bool, true, false, List, [], ◌∷◌, ◌++◌, length, map, take, decimal, codes, Option, Some, None, IfSome, slice_get, unwrap_or}
use Rattle.std.specs.List.{AllByRecursion, AllZip}
use Rattle.std.specs.Option.{option_map}
use Rattle.ssim_flights.specs.declared.flight.Flight.{Flight as Flown}
use Rattle.seat_nesting.specs.Nesting.{Ladders}
use Rattle.airimp_lines.specs.Grammar.{IsPlainLine, reply_of}
use Rattle.airimp_lines.specs.declared.requests.Request.{Request}
use Rattle.airimp_lines.specs.declared.segment.Segment.{Segment}
use Rattle.seat_journal.specs.declared.entry.Control.{Control}
use Rattle.seat_journal.specs.Text.{IsEntry, journal_text, scope_letter}
use Rattle.seat_journal.specs.declared.entry.Advice.{Advice}
use Rattle.seat_journal.specs.declared.entry.Change.{Change}
use Rattle.seat_journal.specs.declared.entry.Command.{Command}
use Rattle.seat_journal.specs.declared.entry.Entry.{Entry}
use Rattle.seat_journal.specs.declared.entry.SaleChange.{SaleChange}
use Rattle.seat_journal.specs.declared.entry.Work.{Work}
use Rattle.seat_journal.specs.declared.entry.Work.TheVariants.{Seats, Limit, Sale}
use Rattle.desk_telling.specs.Segments.{segment_of}
use Rattle.seat_rules.specs.Journal.{calls_of}
use Rattle.seat_rules.specs.Prefixes.{Begins}
use Rattle.seat_rules.specs.Totals.{totals_of}
use Rattle.seat_rules.specs.Headline.{Headline}
use Rattle.seat_rules.specs.Histories.{by_session}
pub use Rattle.seat_rules.specs.Histories.{works_in, works_of}
use Rattle.seat_desk.specs.AuditDesk.{IsRefusedOver, most_lines}
use Rattle.seat_desk.specs.FlightsDesk.{IsText}
use Rattle.seat_desk.specs.Loading.{Bytes, IsLoaded, IsRefusedLoad}
use Rattle.seat_desk.specs.declared.inputs.Inputs.{Inputs}
use Rattle.seat_replies.specs.Asked.{IsAsked, OfThree}
use Rattle.seat_replies.specs.Changes.{IsUnchanged}
use Rattle.seat_replies.specs.Going.{IsPast, behind, lists_over, past_of}
use Rattle.seat_replies.specs.Requests.{AreScripts, IsRefusedAmong, commands_of}
use Rattle.seat_replies.specs.declared.replies.Answered.{Answered}
use Rattle.seat_desk.specs.declared.fault.DeskFault.{DeskFault}
use Rattle.seat_desk.specs.declared.fault.DeskFault.TheVariants.{Change as BadChange, NoLeg, Script, Book, Journal, Replay}

-- a history that goes on from the past: the headline holds of it and of the receipts that the sessions were given, it begins with the past, and behind that the lines of session 0 are the changes, in order, those of session 1 the first list, and so on
pub record IsHistoryOf (grid : Ladders) (past : List Entry) (changes : List Control) (lists : List (List Command))
    (history : List Entry) (receipts : List (List Entry)) : Type 0 where
  pub headline : Headline grid most_lines (length lists) history receipts (totals_of history)
  pub added : List Entry
  pub goes_on : history ≡ past ++ added
  pub asked : map works_in (by_session (length lists) added) ≡ works_of changes lists

-- ---- the replies

-- a part of its kind, at whatever place
abbrev pub at_any : {A : Type 0} → (A → List ℕ → Type 0) → ℕ → A → List ℕ → Type 0
at_any IsPart n x text = IsPart x text

-- SESSION NUMBER
abbrev pub line_head : Entry → List ℕ
line_head e = decimal e.session ++ codes " " ++ decimal e.number ++ codes " "

-- and LOCATOR
abbrev pub reply_head : Entry → Answered → List ℕ
reply_head e answered = line_head e ++ answered.locator ++ codes " "

-- and the segment with this code and these seats
pub record IsReply (e : Entry) (answered : Answered) (code : List ℕ) (seats : ℕ) (line : List ℕ) : Type 0 where
  pub text : List ℕ
  pub is_text : IsPlainLine (reply_of answered.segment code seats) text
  pub written : line ≡ reply_head e answered ++ text ++ 10 ∷ []

-- FLIGHT.LEG
abbrev pub leg_text : Change → List ℕ
leg_text c = decimal c.flight ++ codes "." ++ decimal c.leg

-- CLASSLIMIT/WAIT
abbrev pub limit_text : Change → List ℕ
limit_text c = (c.class ∷ []) ++ decimal c.limit ++ codes "/" ++ decimal c.wait

-- SESSION NUMBER FLIGHT.LEG CLASSLIMIT/WAIT
abbrev pub change_head : Entry → Change → List ℕ
change_head e c = line_head e ++ leg_text c ++ codes " " ++ limit_text c

-- and REPLY
abbrev pub change_reply : Entry → Change → List ℕ
change_reply e c = change_head e c ++ codes " " ++ e.reply ++ 10 ∷ []

-- what is done to a class
abbrev pub sale_word : Bool → List ℕ
sale_word true = codes "CLOSE"
sale_word false = codes "OPEN"

-- CLASS CLOSE, or OPEN; `*` stands for all classes
abbrev pub sale_text : SaleChange → List ℕ
sale_text c = (scope_letter c.class ∷ []) ++ codes " " ++ sale_word c.closed

-- SESSION NUMBER FLIGHT.LEG CLASS CLOSE REPLY, or OPEN
abbrev pub sale_reply : Entry → SaleChange → List ℕ
sale_reply e c =
    line_head e ++ decimal c.flight ++ codes "." ++ decimal c.leg ++ codes " " ++ sale_text c ++ codes " " ++ e.reply ++ 10 ∷ []

-- what a session is asked, in order: session 1 by the first script, and so on; the manager, session 0, has no script
abbrev pub requests_of : List (List Request) → ℕ → List Request
requests_of scripts session = unwrap_or (slice_get ([] ∷ scripts) session) []

-- the locator and the segment of a request
abbrev pub of_request : Request → Answered
of_request r = record { locator = r.locator; segment = r.segment }

-- the locator of a command, and the segment on the flight of its place
abbrev pub of_command : List Flown → Command → Option Answered
of_command flights c = option_map (λ (s : Segment). record { locator = c.locator; segment = s }) (segment_of flights c)

abbrev pub of_work : List Flown → Work → Option Answered
of_work flights (Seats c) = of_command flights c
of_work flights (Limit c) = None
of_work flights (Sale c) = None

-- the locator and the segment of the booking of this number: those of the line that made it
abbrev pub made_by : List Flown → Option Entry → Option Answered
made_by flights None = None
made_by flights (Some e) = of_work flights e.work

abbrev pub booked_by : List Flown → List Entry → ℕ → Option Answered
booked_by flights history number = made_by flights (slice_get history (number - 1))

-- KL and its seats, with the locator and the segment of the booking
pub record IsAdviceLine (flights : List Flown) (history : List Entry) (e : Entry) (a : Advice) (line : List ℕ) : Type 0
  where
    pub answered : Answered
    pub booked : booked_by flights history a.number ≡ Some answered
    pub is_reply : IsReply e answered (codes "KL") a.seats line

-- the reply to the request at this place, with the seats asked
pub record IsSeatsReply (requests : List Request) (place : ℕ) (e : Entry) (line : List ℕ) : Type 0 where
  pub request : Request
  pub requested : slice_get requests place ≡ Some request
  pub is_reply : IsReply e (of_request request) e.reply request.segment.seats line

-- the reply to what a line asks for
abbrev pub IsLineReply : List Request → ℕ → Entry → Work → List ℕ → Type 0
IsLineReply requests place e (Seats command) line = IsSeatsReply requests place e line
IsLineReply requests place e (Limit change) line = line ≡ change_reply e change
IsLineReply requests place e (Sale change) line = line ≡ sale_reply e change

-- and then its advices
pub record IsAnswer (flights : List Flown) (requests : List Request) (history : List Entry) (place : ℕ) (e : Entry)
    (text : List ℕ) : Type 0 where
  pub line : List ℕ
  pub advices : List ℕ
  pub is_reply : IsLineReply requests place e e.work line
  pub are_advices : IsText (at_any (IsAdviceLine flights history e)) 0 e.advices advices
  pub written : text ≡ line ++ advices

-- the answers to the lines of a session, in order: the first line is that of its first request, and so on
abbrev pub AreAnswers : List Flown → List Request → List Entry → List Entry → List ℕ → Type 0
AreAnswers flights requests history lines text = IsText (IsAnswer flights requests history) 0 lines text

-- session by session, each beside what it is asked
abbrev pub AreSessions : List Flown → List (List Request) → List Entry → ℕ → List Entry → List ℕ → Type 0
AreSessions flights scripts history session lines text =
    AreAnswers flights (requests_of scripts session) history lines text

-- those to lines that were added behind the past: of session 0, the manager, then of session 1, and so on
abbrev pub AreReplies : List Flown → List Entry → List (List Request) → List Entry → List ℕ → Type 0
AreReplies flights past scripts added text =
    IsText (AreSessions flights scripts (past ++ added)) 0 (by_session (length scripts) added) text

-- one to eight scripts: the answers to the receipts of the manager and of each script's session, but for those of the past
pub record IsReplied (flights : List Flown) (past : List Entry) (scripts : List (List Request)) (history : List Entry)
    (receipts : List (List Entry)) (text : List ℕ) : Type 0 where
  pub few : length scripts ≤ 8
  pub are_answers : IsText (AreSessions flights scripts history) 0
      (behind (past_of past).calls (take (length scripts + 1) receipts)) text

-- ---- the whole

-- the texts of one history that goes on from the older journal with what the scripts and the changes ask, over the grid of the set and the limits
pub record IsRun (set limits : List ℕ) (first days today : ℕ) (after : List ℕ) (texts : List (Option (List ℕ)))
    (changing : Option (List ℕ)) (journal replies : List ℕ) : Type 0 where
  pub flights : List Flown
  pub grid : Ladders
  pub past : List Entry
  pub scripts : List (List Request)
  pub changes : List Control
  pub is_asked : IsAsked set limits first days today after texts changing flights grid past scripts changes
  pub history : List Entry
  pub receipts : List (List Entry)
  pub is_history : IsHistoryOf grid past changes (lists_over past (map (commands_of flights) scripts)) history receipts
  pub are_entries : AllByRecursion IsEntry history
  pub journal_is : journal ≡ journal_text history
  pub is_replied : IsReplied flights past scripts history receipts replies

-- ---- refusals

-- how much these lists have in all
abbrev pub asked_in : {A : Type 0} → List (List A) → ℕ
asked_in [] = 0
asked_in (list ∷ lists) = length list + asked_in lists

-- what was booked of lists, by session, where a call was refused: the lists of the sessions before its own whole, its own as far as
-- the place of that call, from 1, and of each list a beginning
pub record IsBookedTo (session place : ℕ) (lists booked : List (List Work)) : Type 0 where
  pub before : take session booked ≡ take session lists
  pub own : slice_get booked session ≡ option_map (take (place - 1)) (slice_get lists session)
  pub each : AllZip Begins booked lists

-- more is asked than a journal has lines behind the past, and a call of a session was refused, which counts on from the session's
-- calls of the past: a history that has as many lines as a journal may goes on from the past with what was booked of all that was asked
pub record IsFull (grid : Ladders) (past : List Entry) (changes : List Control) (lists : List (List Command))
    (session call : ℕ) : Type 0 where
  pub many : most_lines < length past + asked_in (works_of changes lists)
  pub list : List Work
  pub at : slice_get (works_of changes lists) session ≡ Some list
  pub call_is : (calls_of past session < call) × (call ≤ calls_of past session + length list)
  pub history : List Entry
  pub receipts : List (List Entry)
  pub headline : Headline grid most_lines (length lists) history receipts (totals_of history)
  pub full : length history ≡ most_lines
  pub added : List Entry
  pub goes_on : history ≡ past ++ added
  pub booked : IsBookedTo session (call - calls_of past session) (works_of changes lists)
      (map works_in (by_session (length lists) added))

-- the fault is that of the first session that was not booked whole, at the call that was refused
abbrev pub IsUnbooked : Ladders → List Entry → List Control → List (List Command) → DeskFault → Type 0
IsUnbooked grid past changes lists (Book session call) = IsFull grid past changes lists session call
IsUnbooked grid past changes lists _ = ⊥

-- the set, the limits, the older journal, the scripts and the changes are right, and something that they ask was not booked
pub record IsUnbookedOf (set limits : List ℕ) (first days today : ℕ) (after : List ℕ) (texts : List (Option (List ℕ)))
    (changing : Option (List ℕ)) (fault : DeskFault) : Type 0 where
  pub flights : List Flown
  pub grid : Ladders
  pub past : List Entry
  pub scripts : List (List Request)
  pub changes : List Control
  pub is_asked : IsAsked set limits first days today after texts changing flights grid past scripts changes
  pub is_unbooked : IsUnbooked grid past changes (lists_over past (map (commands_of flights) scripts)) fault

-- the set, the limits, the older journal and the scripts are right, and the fault is that of the changes
pub record IsUnchangedOf (set limits : List ℕ) (first days today : ℕ) (after : List ℕ) (texts : List (Option (List ℕ)))
    (changing : Option (List ℕ)) (fault : DeskFault) : Type 0 where
  pub flights : List Flown
  pub grid : Ladders
  pub is_loaded : IsLoaded set limits first days flights grid
  pub past : List Entry
  pub is_past : IsPast grid past after
  pub scripts : List (List Request)
  pub are_scripts : AreScripts today texts scripts
  pub is_refused : IfSome changing (IsUnchanged flights fault)

-- the set, the limits and the older journal are right, and the fault is that of the first script that is none
pub record IsRefusedOf (set limits : List ℕ) (first days today : ℕ) (after : List ℕ) (texts : List (Option (List ℕ)))
    (fault : DeskFault) : Type 0 where
  pub flights : List Flown
  pub grid : Ladders
  pub is_loaded : IsLoaded set limits first days flights grid
  pub past : List Entry
  pub is_past : IsPast grid past after
  pub is_refused : IsRefusedAmong today 1 texts fault

-- a fault of the older journal is that of its audit. A script's fault is the first of the first script that is none. A fault of the
-- changes is the first of their rows, or, where these are right, names the first that not one leg serves, and all scripts are read.
-- A call's names the first session that was not booked whole, and all is read. Any other is the first of the set, of its flights or
-- of the limits
abbrev pub RunRefusal : List ℕ → List ℕ → ℕ → ℕ → ℕ → List ℕ → List (Option (List ℕ)) → Option (List ℕ) → DeskFault
    → Type 0
RunRefusal set limits first days today after texts changing (Journal fault) =
    IsRefusedOver set limits first days (Journal fault) after
RunRefusal set limits first days today after texts changing (Replay fault) =
    IsRefusedOver set limits first days (Replay fault) after
RunRefusal set limits first days today after texts changing (Script session fault) =
    IsRefusedOf set limits first days today after texts (Script session fault)
RunRefusal set limits first days today after texts changing (BadChange fault) =
    IsUnchangedOf set limits first days today after texts changing (BadChange fault)
RunRefusal set limits first days today after texts changing (NoLeg line) =
    IsUnchangedOf set limits first days today after texts changing (NoLeg line)
RunRefusal set limits first days today after texts changing (Book session call) =
    IsUnbookedOf set limits first days today after texts changing (Book session call)
RunRefusal set limits first days today after texts changing fault = IsRefusedLoad set limits first days fault

pub record IsRefusedRun (set limits : List ℕ) (first days today : ℕ) (after : List ℕ) (texts : List (Option (List ℕ)))
    (changing : Option (List ℕ)) (fault : DeskFault) : Type 0 where
  pub refusal : RunRefusal set limits first days today after texts changing fault

-- where the bytes of the set, of the limits and of the older journal are known
abbrev pub IsRefusedRunOf : {S L : Type 0} → Bytes S → Bytes L → Inputs S L → ℕ → Option (List ℕ)
    → List (Option (List ℕ)) → Option (List ℕ) → DeskFault → Type 0
IsRefusedRunOf set limits inputs today after texts changing fault =
    OfThree (set inputs.set) (limits inputs.limits) after
    (λ xs ys zs. IsRefusedRun xs ys inputs.first inputs.days today zs texts changing fault)
