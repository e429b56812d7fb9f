-- A feed that is read to its end, piece by piece.
use Rattle.std.specs.Prelude.{◌≡◌, ◌⊎◌, ℕ, ◌≤◌, Bool, true, false, nat_le, if◌then◌else◌, Option, None, Some, List, [], ◌∷◌, ◌++◌, codes, take}
use Rattle.std.specs.Io.KnownBytes.{Appends, Consumes, IsAtEnd}
use Rattle.airline_base.specs.Lines.{is_line_feed}
use Rattle.airline_base.specs.Noting.{noted, TookFront}
use Rattle.desk_answers.specs.Hosts.{IsReady}
use Rattle.desk_feed.specs.Feeding.{LivesThrough}
use Rattle.desk_feed.specs.Progress.{one_more}
use Rattle.desk_hall.specs.Booking.{IsBehindSome}
use Rattle.desk_stream.specs.Feeds.{read_behind, Feeding, HasComeAsFar, IsHeard, IsOwnLine, IsSameFeed, IsStrangeLine}
use Rattle.desk_stream.specs.Hearing.{ahead_of, come_to, IsSamePending}
use Rattle.desk_stream.specs.Laws.{IsVeryCall}
use Rattle.desk_stream.specs.Telling.{IsFeedTurn}
use Rattle.desk_stream.specs.Wanting.{asking_of}
use Rattle.desk_stream.specs.declared.hearing.FeedFault.{FeedFault}
use Rattle.desk_stream.specs.declared.hearing.FeedFault.TheVariants as hearings
use Rattle.desk_stream.specs.declared.planning.Called.{Called}
use Rattle.desk_serving.specs.declared.fault.StreamFault.{StreamFault}
use Rattle.desk_serving.specs.declared.fault.StreamFault.TheVariants.{Input, Output, Memory, Strange, Journal, Dating}
use Rattle.seat_desk.specs.FlightsDesk.{IsText}
use Rattle.seat_disk.specs.Growing.{KeepsFront}
use Rattle.seat_recovery.specs.OpenText.{open_text}
use Rattle.seat_rules.specs.Prefixes.{Begins}
use Rattle.seat_replies.specs.RunDesk.{at_any}
use Rattle.seat_serving.specs.Answering.{behind}
use Rattle.seat_serving.specs.Served.{Served}
use Rattle.seat_serving.specs.declared.serving.ServeFault.{ServeFault}
use Rattle.seat_serving.specs.declared.serving.ServeFault.TheVariants as serves

-- ---- lines

-- of a line 259 bytes are held, a digit and a blank with them, which is enough to tell that it is too long
unfoldable pub held : List ℕ → List ℕ
held bytes = take 259 bytes

abbrev pub IsEnd : ℕ → Type 0
IsEnd c = is_line_feed c ≡ true

abbrev pub IsHeld : ℕ → Type 0
IsHeld c = is_line_feed c ≡ false

-- nothing is booked by hearing
pub record IsSameBut {D : Type 0} (old new : Feeding D) : Type 0 where
  pub serving_is : new.serving ≡ old.serving
  pub flights_are : new.flights ≡ old.flights
  pub epoch_is : new.epoch ≡ old.epoch

pub record IsLineHeard {D : Type 0} (old new : Feeding D) (line : List ℕ) : Type 0 where
  pub heard : IsHeard old new line
  pub same : IsSameBut old new

-- behind these bytes of a line come those: each is held until an LF ends the line, which is then heard
abbrev pub Hears : {D : Type 0} → Feeding D → List ℕ → List ℕ → Feeding D → List ℕ → Type 0
Hears {D} old before [] new after = (new ≡ old) × (after ≡ before)
Hears {D} old before (c ∷ bytes) new after =
    (IsHeld c × Hears old (held (before ++ c ∷ [])) bytes new after)
    ⊎ ((mid : Feeding D) × IsEnd c × IsLineHeard old mid (held (before ++ c ∷ [])) × Hears mid [] bytes new after)

-- of a piece only a front is heard: nothing comes of the line behind it
pub record HearsFront {D : Type 0} (old : Feeding D) (before piece : List ℕ) (new : Feeding D) : Type 0 where
  pub part : List ℕ
  pub rest : List ℕ
  pub whole : piece ≡ part ++ rest
  pub heard : Feeding D
  pub held_is : List ℕ
  pub hears : Hears old before part heard held_is
  pub same : IsSamePending heard.pending new.pending
  pub same_but : IsSameBut heard new

-- the next line of the journal is none of the feed's: a line that was heard asks for another
pub record StopsAt {D : Type 0} (feed : Feeding D) : Type 0 where
  pub old : Feeding D
  pub line : List ℕ
  pub strange : IsStrangeLine old line
  pub same : IsSamePending old.pending feed.pending
  pub but : IsSameBut old feed
  pub read : feed.reading ≡ read_behind old line

-- memory is wanting for a line that was heard, which is the manager's or no stranger's
pub record WantsAt {D : Type 0} (feed : Feeding D) : Type 0 where
  pub old : Feeding D
  pub line : List ℕ
  pub own : IsOwnLine old line
  pub same : IsSamePending old.pending feed.pending
  pub but : IsSameBut old feed
  pub read : feed.reading ≡ read_behind old line

-- ---- what the journal is behind them

-- the numbered lines that were heard asked for these calls, and with them the feed came from the lines that it had come to, and those that were
-- ahead of it, to the ones now
pub record Lived {D : Type 0} (old new : Feeding D) : Type 0 where
  pub calls : List Called
  pub lives : LivesThrough old.serving.grid old.serving.cap (asking_of old.flights) (IsVeryCall old.flights)
      (come_to old.serving old.pending) (ahead_of old.serving old.pending) calls
      (come_to new.serving new.pending) (ahead_of new.serving new.pending)
  pub grid_is : new.serving.grid ≡ old.serving.grid
  pub cap_is : new.serving.cap ≡ old.serving.cap
  pub flights_are : new.flights ≡ old.flights

-- ---- the day

-- the feed's day is the same or a later one
abbrev pub IsNoEarlierDay : Option ℕ → Option ℕ → Type 0
IsNoEarlierDay None after = Unit {0}
IsNoEarlierDay (Some before) None = ⊥
IsNoEarlierDay (Some before) (Some after) = before ≤ after

-- the later of the day that the seal has and the feed's, where it has one
abbrev pub later_day : ℕ → Option ℕ → ℕ
later_day day None = day
later_day day (Some today) = if nat_le today day then day else today

-- ---- answers

-- what was heard is booked: the feed has come as far, in lines that are on the disk now
pub record IsBooked {D : Type 0} (old new : Feeding D) : Type 0 where
  pub booked : new.serving.journal ≡ behind old.serving.grid old.serving.journal old.pending.asked.items
  pub none_asked : new.pending.asked.items ≡ []
  pub far : HasComeAsFar old new
  pub progress_is : new.pending.progress ≡ old.pending.progress
  pub same : IsSameFeed old new
  pub grid_is : new.serving.grid ≡ old.serving.grid
  pub cap_is : new.serving.cap ≡ old.serving.cap

-- this is told of it, in the order of the lines that were heard, and written
pub record IsToldTo {D : Type 0} (old new : Feeding D) (out_old out_new : Option (List ℕ)) : Type 0 where
  pub text : List ℕ
  pub told : IsText (at_any (IsFeedTurn old.flights old.serving.grid old.serving.journal)) 0 old.pending.turns.items text
  pub written : Appends out_old out_new text
  pub none_told : new.pending.turns.items ≡ []
  pub serving_is : new.serving ≡ old.serving
  pub asked_is : new.pending.asked.items ≡ old.pending.asked.items
  pub progress_is : new.pending.progress ≡ old.pending.progress
  pub reading_is : new.reading ≡ old.reading
  pub desks_are : new.desks ≡ old.desks
  pub flights_are : new.flights ≡ old.flights
  pub epoch_is : new.epoch ≡ old.epoch

-- what was heard is booked, and then told
pub record IsAnswered {D : Type 0} (old new : Feeding D) (out_old out_new : Option (List ℕ)) : Type 0 where
  pub mid : Feeding D
  pub booked : IsBooked old mid
  pub told : IsToldTo mid new out_old out_new

-- a piece is heard, and then answered
pub record IsPiece {D : Type 0} (old : Feeding D) (before piece : List ℕ) (new : Feeding D) (after : List ℕ) (out_old out_new : Option (List ℕ))
    : Type 0 where
  pub mid : Feeding D
  pub hears : Hears old before piece mid after
  pub answered : IsAnswered mid new out_old out_new

-- one piece behind the other
abbrev pub Streams : {D : Type 0} → Feeding D → List ℕ → List (List ℕ) → Feeding D → List ℕ → Option (List ℕ) → Option (List ℕ) → Type 0
Streams {D} old before [] new after out_old out_new = (new ≡ old) × (after ≡ before) × (out_new ≡ out_old)
Streams {D} old before (piece ∷ pieces) new after out_old out_new =
    (mid : Feeding D) × (between : List ℕ) × (out_mid : Option (List ℕ)) × IsPiece old before piece mid between out_old out_mid
    × Streams mid between pieces new after out_mid out_new

abbrev pub joined : List (List ℕ) → List ℕ
joined [] = []
joined (piece ∷ pieces) = piece ++ joined pieces

-- all of the input was heard, in some pieces, each answered ahead of the next; behind its last LF is no line
pub record IsStreamed {D : Type 0} (old new : Feeding D) (out_old out_new : Option (List ℕ)) (input : List ℕ) : Type 0 where
  pub pieces : List (List ℕ)
  pub all : input ≡ joined pieces
  pub after : List ℕ
  pub streams : Streams old [] pieces new after out_old out_new

-- these were read so far, and are answered
pub record Reads {D : Type 0} (old : Feeding D) (before : List ℕ) (new : Feeding D) (after : List ℕ)
    (in_old in_new out_old out_new : Option (List ℕ)) : Type 0 where
  pub pieces : List (List ℕ)
  pub consumed : Consumes in_old in_new (joined pieces)
  pub streams : Streams old before pieces new after out_old out_new

-- one read: a piece of what is read came, and more may; or it is the end
pub record Takes {D : Type 0} (old : Feeding D) (before : List ℕ) (new : Feeding D) (after : List ℕ)
    (in_old in_new out_old out_new : Option (List ℕ)) : Type 0 where
  pub piece : List ℕ
  pub consumed : Consumes in_old in_new piece
  pub is_piece : IsPiece old before piece new after out_old out_new

pub record TakesNone {D : Type 0} (old : Feeding D) (before : List ℕ) (new : Feeding D) (after : List ℕ)
    (in_old in_new out_old out_new : Option (List ℕ)) : Type 0 where
  pub at_end : IsAtEnd in_new
  pub consumed : Consumes in_old in_new []
  pub feed_is : new ≡ old
  pub held_is : after ≡ before
  pub out_is : out_new ≡ out_old

abbrev pub Turns : {D : Type 0} → Bool → Feeding D → List ℕ → Feeding D → List ℕ → Option (List ℕ) → Option (List ℕ) → Option (List ℕ)
    → Option (List ℕ) → Type 0
Turns true old before new after in_old in_new out_old out_new = Takes old before new after in_old in_new out_old out_new
Turns false old before new after in_old in_new out_old out_new = TakesNone old before new after in_old in_new out_old out_new

-- ---- a feed that is broken off

-- the file of the journal or of the seal failed, and this is said of it, as far as it can be written
abbrev pub no_file_line : List ℕ
no_file_line = codes "- FAULT - DEVICE\n"

-- what was kept is still there, and but where the journal's file failed all lines are on the disk
pub record Breaks {D : Type 0} (seen : D → Option (List ℕ)) (leaves : D → List ℕ → Type 0) (unsynced failures : D → ℕ)
    (old new : Served D) (fault : StreamFault) : Type 0 where
  pub grows : Begins old.kept new.kept
  pub told : KeepsFront (open_text old.kept) (leaves new.tape)
  pub still : (fault ≡ Journal → ⊥) → IsReady seen leaves unsynced new
  pub device : fault ≡ Journal → failures new.tape ≡ noted (failures old.tape)

-- what was heard is booked, and of what is told of it the writer took a front
pub record IsToldFront {D : Type 0} (old new : Feeding D) (out_old out_new : Option (List ℕ)) : Type 0 where
  pub booked : IsBooked old new
  pub text : List ℕ
  pub told : IsText (at_any (IsFeedTurn new.flights new.serving.grid new.serving.journal)) 0 new.pending.turns.items text
  pub took : TookFront out_old out_new text

-- the first of what was asked for is booked, or all of it, and nothing is told of it
pub record IsUntold {D : Type 0} (old new : Feeding D) (out_old out_new : Option (List ℕ)) : Type 0 where
  pub booked : IsBehindSome old.serving.grid old.serving.journal old.pending.asked.items new.serving.journal
  pub none_asked : new.pending.asked.items ≡ []
  pub out_is : out_new ≡ out_old

-- what becomes of what was heard last, and what is written of it: nothing where the input failed or the day is not in the seal, but that a file failed, as
-- far as that can be written; where the output failed it is booked, and a front of what is told of it is written; where memory is wanting for it some of
-- it is booked, and nothing is written; and it is booked and told where memory is wanting for the next line, or that is a stranger's
abbrev pub EndsIn : {D : Type 0} → StreamFault → Feeding D → Feeding D → Option (List ℕ) → Option (List ℕ) → Type 0
EndsIn Input old new out_old out_new = (new ≡ old) × (out_new ≡ out_old)
EndsIn (Dating fault) old new out_old out_new = (new ≡ old) × TookFront out_old out_new no_file_line
EndsIn Journal old new out_old out_new = TookFront out_old out_new no_file_line
EndsIn Output old new out_old out_new = IsToldFront old new out_old out_new
EndsIn Memory old new out_old out_new = IsUntold old new out_old out_new ⊎ (IsAnswered old new out_old out_new × WantsAt old)
EndsIn (Strange line number) old new out_old out_new = IsAnswered old new out_old out_new

-- of what is told of lines that are booked a front is written
pub record IsTakenFront {D : Type 0} (mid : Feeding D) (out_old out_new : Option (List ℕ)) : Type 0 where
  pub text : List ℕ
  pub told : IsText (at_any (IsFeedTurn mid.flights mid.serving.grid mid.serving.journal)) 0 mid.pending.turns.items text
  pub took : TookFront out_old out_new text

-- where it can't be told: nothing is written, or a front of it
abbrev pub EndsTold : {D : Type 0} → StreamFault → Feeding D → Option (List ℕ) → Option (List ℕ) → Type 0
EndsTold Output mid out_old out_new = IsTakenFront mid out_old out_new
EndsTold fault mid out_old out_new = out_new ≡ out_old

-- where nothing more is booked: some of it is, or the file failed, and that is said
abbrev pub EndsBooked : {D : Type 0} → ServeFault → Feeding D → Feeding D → Type 0
EndsBooked serves.Memory old new =
    IsBehindSome old.serving.grid old.serving.journal old.pending.asked.items new.serving.journal × (new.pending.asked.items ≡ [])
EndsBooked serves.Device old new = Unit {0}

abbrev pub Says : ServeFault → Option (List ℕ) → Option (List ℕ) → Type 0
Says serves.Memory out_old out_new = out_new ≡ out_old
Says serves.Device out_old out_new = TookFront out_old out_new no_file_line

-- of a piece, the next bytes of what is read, a front is heard, and the feed ends in this
pub record IsBrokenPiece {D : Type 0} (old new : Feeding D) (before : List ℕ) (fault : StreamFault) (piece : List ℕ)
    (out_old out_new : Option (List ℕ)) : Type 0 where
  pub last : Feeding D
  pub hears : HearsFront old before piece last
  pub ends : EndsIn fault last new out_old out_new

-- the next bytes of what is read, where it is known
abbrev pub AreNext : List ℕ → Option (List ℕ) → Type 0
AreNext bytes None = Unit {0}
AreNext bytes (Some rest) = Begins bytes rest

pub record IsBrokenTurn {D : Type 0} (old new : Feeding D) (before : List ℕ) (fault : StreamFault) (in_old out_old out_new : Option (List ℕ))
    : Type 0 where
  pub piece : List ℕ
  pub are_next : AreNext piece in_old
  pub broken : IsBrokenPiece old new before fault piece out_old out_new

-- some pieces were read, each answered ahead of the next, and of the next one a front is heard, and told or not: what was written is what the whole feed is
-- told, as far as it goes, but for the line of a file that failed
pub record IsBrokenOff {D : Type 0} (old new : Feeding D) (before : List ℕ) (fault : StreamFault) (in_old out_old out_new : Option (List ℕ))
    : Type 0 where
  pub mid : Feeding D
  pub between : List ℕ
  pub in_mid : Option (List ℕ)
  pub out_mid : Option (List ℕ)
  pub reads : Reads old before mid between in_old in_mid out_old out_mid
  pub broken : IsBrokenTurn mid new between fault in_mid out_mid out_new

-- why nothing more is booked
abbrev pub broken_by : ServeFault → StreamFault
broken_by serves.Memory = Memory
broken_by serves.Device = Journal

-- a file failed
abbrev pub IsOfFile : StreamFault → Type 0
IsOfFile Journal = Unit {0}
IsOfFile (Dating fault) = Unit {0}
IsOfFile _ = ⊥

-- memory is wanting for what is told, or it can't be written
abbrev pub IsOfTelling : StreamFault → Type 0
IsOfTelling Memory = Unit {0}
IsOfTelling Output = Unit {0}
IsOfTelling _ = ⊥

-- it is no fault of what is read, or of a line
abbrev pub IsOfAnswer : StreamFault → Type 0
IsOfAnswer Input = ⊥
IsOfAnswer (Strange line number) = ⊥
IsOfAnswer _ = Unit {0}

-- why nothing more is heard: memory is wanting for a line, or it is none of the journal's, whose next line is the one that the feed comes to
abbrev pub stopped_by : {D : Type 0} → Feeding D → FeedFault → StreamFault
stopped_by feed hearings.Memory = Memory
stopped_by feed hearings.Strange = Strange feed.reading.lines (one_more feed.pending.progress.lines)

-- the line of the feed of this number is none of the journal's, whose next line has that number; what stood ahead of it is answered
pub record IsStrangeEnd {D : Type 0} (old new : Feeding D) (line number : ℕ) : Type 0 where
  pub mid : Feeding D
  pub lived : Lived old mid
  pub stops : StopsAt mid
  pub booked : new.serving.journal ≡ behind mid.serving.grid mid.serving.journal mid.pending.asked.items
  pub line_is : line ≡ new.reading.lines
  pub reading_is : new.reading ≡ mid.reading
  pub number_is : number ≡ one_more new.pending.progress.lines
  pub progress_is : new.pending.progress ≡ mid.pending.progress
