-- What is told of a feed's lines, one behind the other.
use Rattle.std.proofs.Common.{◌≡◌, ℕ, zero, suc, ◌+◌, ◌<◌, ◌≤◌, List, [], ◌++◌, length, take, get_or, refl, sym, subst, arith}
use Rattle.std.specs.Prelude.{All}
use Rattle.std.proofs.lemmas.List.Elements.{All-get_or}
use Rattle.desk_calls.specs.declared.call_index.CallIndex.{CallIndex}
use Rattle.desk_hall.specs.declared.turn.Turn.{Turn}
use Rattle.desk_stream.specs.Telling.{sessions, FewSessions, IsFeedTurn, IsLedTo}
use Rattle.desk_stream.specs.declared.telling.FeedTurn.{FeedTurn}
use Rattle.seat_desk.specs.FlightsDesk.{IsPut, IsText}
use Rattle.seat_desk.proofs.Texts.{put_more, text_whole}
use Rattle.seat_journal.specs.declared.entry.Entry.{Entry}
use Rattle.seat_nesting.specs.Nesting.{Ladders}
use Rattle.seat_replies.specs.RunDesk.{at_any}
use Rattle.ssim_flights.specs.declared.flight.Flight.{Flight as Flown}

-- the first so many are told
abbrev pub AreToldSoFar : List Flown → Ladders → List Entry → ℕ → List FeedTurn → List ℕ → Type 0
AreToldSoFar flights grid journal i turns text = IsPut (at_any (IsFeedTurn flights grid journal)) 0 (take i turns) [] text

-- the first so many of these are told of this, and there are nine indexes of calls still
pub record AreLedSoFar (flights : List Flown) (grid : Ladders) (journal : List Entry) (turn : Turn) (i : ℕ) (whom text : List ℕ)
    (calls : List CallIndex) : Type 0 where
  pub put : IsPut (at_any (IsLedTo flights grid journal turn)) 0 (take i whom) [] text
  pub nine : length calls ≡ 9

module _ (flights : List Flown) (grid : Ladders) (journal : List Entry) where
  pub turns_none : (turns : List FeedTurn) (text : List ℕ) → text ≡ [] → AreToldSoFar flights grid journal 0 turns text
  turns_none turns text none = record { part = []; is_text = refl; written = none }

  pub turn_more : (i : ℕ) (turns : List FeedTurn) (turn : FeedTurn) (mid part new : List ℕ)
      → AreToldSoFar flights grid journal i turns mid → i < length turns → turn ≡ get_or turns i turn
      → IsFeedTurn flights grid journal turn part → new ≡ mid ++ part → AreToldSoFar flights grid journal (i + 1) turns new
  turn_more i turns turn mid part new below lt at is more =
      put_more (at_any (IsFeedTurn flights grid journal)) 0 i turns turn [] mid new part below lt at is more

  pub turns_whole : (i : ℕ) (turns : List FeedTurn) (new : List ℕ) → AreToldSoFar flights grid journal i turns new → length turns ≤ i
      → IsText (at_any (IsFeedTurn flights grid journal)) 0 turns new
  turns_whole i turns new put over = text_whole (at_any (IsFeedTurn flights grid journal)) 0 i (length turns) turns new put refl over

  pub led_none_yet : (turn : Turn) (whom text : List ℕ) (calls : List CallIndex) → text ≡ [] → length calls ≡ 9
      → AreLedSoFar flights grid journal turn 0 whom text calls
  led_none_yet turn whom text calls none nine = record { put = record { part = []; is_text = refl; written = none }; nine = nine }

  pub session_more : (turn : Turn) (i : ℕ) (whom : List ℕ) (session : ℕ) (mid part new : List ℕ) (old calls : List CallIndex)
      → AreLedSoFar flights grid journal turn i whom mid old → i < length whom → session ≡ get_or whom i session
      → IsLedTo flights grid journal turn session part → new ≡ mid ++ part → length calls ≡ 9
      → AreLedSoFar flights grid journal turn (i + 1) whom new calls
  session_more turn i whom session mid part new old calls below lt at is more nine = record {
    put = put_more (at_any (IsLedTo flights grid journal turn)) 0 i whom session [] mid new part below.put lt at is more;
    nine = nine;
  }

  pub sessions_whole : (turn : Turn) (i : ℕ) (whom new : List ℕ) (calls : List CallIndex)
      → AreLedSoFar flights grid journal turn i whom new calls → length whom ≤ i
      → IsText (at_any (IsLedTo flights grid journal turn)) 0 whom new
  sessions_whole turn i whom new calls so over =
      text_whole (at_any (IsLedTo flights grid journal turn)) 0 i (length whom) whom new so.put refl over

-- each is the manager or one of eight sessions
pub session_few : (whom : List ℕ) (i session : ℕ) → FewSessions whom → i < length whom → session ≡ get_or whom i session → session ≤ 8
session_few whom i session few lt at =
    subst (λ (n : ℕ). n ≤ 8) (sym at) (All-get_or (λ (n : ℕ). n ≤ 8) whom i session lt few.each)

pub all_few : FewSessions sessions
all_few = record { each = by } where
  by : All (λ (n : ℕ). n ≤ 8) sessions
  by zero d lt = omega arith
  by (suc zero) d lt = omega arith
  by (suc (suc zero)) d lt = omega arith
  by (suc (suc (suc zero))) d lt = omega arith
  by (suc (suc (suc (suc zero)))) d lt = omega arith
  by (suc (suc (suc (suc (suc zero))))) d lt = omega arith
  by (suc (suc (suc (suc (suc (suc zero)))))) d lt = omega arith
  by (suc (suc (suc (suc (suc (suc (suc zero))))))) d lt = omega arith
  by (suc (suc (suc (suc (suc (suc (suc (suc zero)))))))) d lt = omega arith
  by (suc (suc (suc (suc (suc (suc (suc (suc (suc k))))))))) d lt = absurd (omega (arith, lt))
