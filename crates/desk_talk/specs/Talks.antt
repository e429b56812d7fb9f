-- What a desk is told that talks with an open host, byte by byte of what it writes.
use Rattle.std.specs.Prelude.{◌≡◌, ◌⊎◌, ℕ, Bool, true, false, Option, None, List, [], ◌∷◌, ◌++◌, codes, length, take}
use Rattle.std.specs.Io.KnownBytes.{Appends, Consumes, IsAtEnd}
use Rattle.airline_base.specs.Lines.{is_line_feed}
use Rattle.airline_base.specs.Noting.{TookFront}
use Rattle.seat_desk.specs.Desk.{HasFailed}
use Rattle.seat_disk.specs.Growing.{KeepsFront}
use Rattle.seat_recovery.specs.OpenText.{open_text}
use Rattle.seat_rules.specs.Journal.{calls_of}
use Rattle.seat_rules.specs.Prefixes.{Begins}
use Rattle.desk_answers.specs.FaultLines.{memory_line}
use Rattle.desk_answers.specs.Hosts.{Attended, IsReady}
use Rattle.desk_answers.specs.Saying.{IsAnswered, IsCounted, IsUntold}
use Rattle.desk_answers.specs.declared.heard.Heard.{Heard}
use Rattle.desk_answers.specs.Ready.{IsReadyLine}
use Rattle.desk_talk.specs.declared.talk_fault.TalkFault.{TalkFault}
use Rattle.desk_talk.specs.declared.talk_fault.TalkFault.TheVariants.{Input, Journal, Memory as NoMemory, Output}

-- ---- a line

-- the flights, the session and the limits are the same
pub record IsSameHost {D : Type 0} (old new : Attended D) : Type 0 where
  pub flights_are : new.flights ≡ old.flights
  pub session_is : new.session ≡ old.session
  pub grid_is : new.serving.grid ≡ old.serving.grid
  pub cap_is : new.serving.cap ≡ old.serving.cap

-- the host answered it, and so the desk stays or goes
pub record IsSpoken {D : Type 0} (old new : Attended D) (line : List ℕ) (stays : Bool) (text : List ℕ) : Type 0 where
  pub same_host : IsSameHost old new
  pub heard : Heard
  pub answered : IsAnswered old new line heard
  pub stays_is : stays ≡ heard.stays
  pub says : text ≡ heard.text.items

-- memory was wanting for it: it counts, nothing was booked, and the desk stays
pub record IsWanting {D : Type 0} (old new : Attended D) (line : List ℕ) (stays : Bool) (text : List ℕ) : Type 0 where
  pub same_host : IsSameHost old new
  pub counts : IsCounted old.desk new.desk line
  pub same : new.serving.journal ≡ old.serving.journal
  pub stays_on : stays ≡ true
  pub says : text ≡ memory_line old.session new.desk.lines

abbrev pub IsTold : {D : Type 0} → Attended D → Attended D → List ℕ → Bool → List ℕ → Type 0
IsTold old new line stays text = IsSpoken old new line stays text ⊎ IsWanting old new line stays text

-- ---- bytes

-- of a line 257 bytes are held, which is enough to tell that it is too long
unfoldable pub held : List ℕ → List ℕ
held bytes = take 257 bytes

-- the byte ends a line, or it is of one
abbrev pub IsEnd : ℕ → Type 0
IsEnd c = is_line_feed c ≡ true

abbrev pub IsHeld : ℕ → Type 0
IsHeld c = is_line_feed c ≡ false

-- behind these bytes of a line come those: each is held until an LF ends the line, which is then told of. Behind the line with
-- which the desk goes nothing is heard; what is held at the end is no line, and nothing is told of it
abbrev pub Talked : {D : Type 0} → Attended D → List ℕ → List ℕ → Attended D → List ℕ → Bool → List ℕ → Type 0
Talked {D} old before [] new after stays text = (new ≡ old) × (after ≡ before) × (stays ≡ true) × (text ≡ [])
Talked {D} old before (c ∷ bytes) new after stays text =
    (IsHeld c × Talked old (held (before ++ c ∷ [])) bytes new after stays text)
    ⊎ (((mid : Attended D) × (first more : List ℕ) × IsEnd c × IsTold old mid (held (before ++ c ∷ [])) true first
    × Talked mid [] bytes new after stays more × (text ≡ first ++ more))
    ⊎ (IsEnd c × IsTold old new (held (before ++ c ∷ [])) false text × (after ≡ []) × (stays ≡ false)))

-- ---- talks

-- how many calls of a device have failed
abbrev pub Failures : Type 0 → Type 0
Failures D = D → ℕ

-- a line was told of: it is on the disk, where it asks for seats, and no device failed
pub record TellsOf {D : Type 0} (seen : D → Option (List ℕ)) (leaves : D → List ℕ → Type 0) (unsynced failures : Failures D)
    (old : Attended D) (line : List ℕ) (new : Attended D) (stays : Bool) (out_old out_new : Option (List ℕ))
    (count_old count_new : ℕ) : Type 0 where
  pub text : List ℕ
  pub told : IsTold old new line stays text
  pub written : Appends out_old out_new text
  pub is_ready : IsReady seen leaves unsynced new.serving
  pub grows : Begins old.serving.kept new.serving.kept
  pub counted : count_new ≡ count_old
  pub tape_counted : failures new.serving.tape ≡ failures old.serving.tape

-- what a desk has written so far, and what it was told
pub record TalksOn {D : Type 0} (seen : D → Option (List ℕ)) (leaves : D → List ℕ → Type 0) (unsynced failures : Failures D)
    (old : Attended D) (before bytes : List ℕ) (new : Attended D) (after : List ℕ) (stays : Bool)
    (out_old out_new : Option (List ℕ)) (count_old count_new : ℕ) : Type 0 where
  pub text : List ℕ
  pub talked : Talked old before bytes new after stays text
  pub written : Appends out_old out_new text
  pub is_ready : IsReady seen leaves unsynced new.serving
  pub grows : Begins old.serving.kept new.serving.kept
  pub counted : count_new ≡ count_old
  pub tape_counted : failures new.serving.tape ≡ failures old.serving.tape

-- these bytes of what the desk writes were read, and heard
pub record Reads {D : Type 0} (seen : D → Option (List ℕ)) (leaves : D → List ℕ → Type 0) (unsynced failures : Failures D)
    (old : Attended D) (before : List ℕ) (new : Attended D) (after : List ℕ) (stays : Bool) (in_old in_new : Option (List ℕ))
    (out_old out_new : Option (List ℕ)) (count_old count_new : ℕ) : Type 0 where
  pub bytes : List ℕ
  pub consumed : Consumes in_old in_new bytes
  pub talks : TalksOn seen leaves unsynced failures old before bytes new after stays out_old out_new count_old count_new

-- the last line that was heard is in the journal, and was not told of
pub record EndsUntold {D : Type 0} (new : Attended D) : Type 0 where
  pub mid : Attended D
  pub line : List ℕ
  pub untold : IsUntold mid new line

-- one read: more may come; or it is the last, at the end of what the desk writes, or with the line with which the desk goes
abbrev pub Turns : {D : Type 0} → (D → Option (List ℕ)) → (D → List ℕ → Type 0) → Failures D → Failures D → Attended D
    → List ℕ → Attended D → List ℕ → Bool → Option (List ℕ) → Option (List ℕ) → Option (List ℕ) → Option (List ℕ) → ℕ → ℕ
    → Type 0
Turns seen leaves unsynced failures old before new after true in_old in_new out_old out_new m n =
    Reads seen leaves unsynced failures old before new after true in_old in_new out_old out_new m n
Turns seen leaves unsynced failures old before new after false in_old in_new out_old out_new m n =
    (IsAtEnd in_new × Reads seen leaves unsynced failures old before new after true in_old in_new out_old out_new m n)
    ⊎ Reads seen leaves unsynced failures old before new after false in_old in_new out_old out_new m n

-- a whole talk: the desk is told where it stands, and then of each of its lines, up to the end of what it writes, or to the line
-- with which it goes
pub record IsTalk {D : Type 0} (old new : Attended D) (out_old out_new : Option (List ℕ)) (input : List ℕ) : Type 0 where
  pub ready : List ℕ
  pub is_ready : IsReadyLine None old.session (length old.serving.journal) (calls_of old.serving.journal old.session)
      old.desk.today old.desk.epoch ready
  pub after : List ℕ
  pub stays : Bool
  pub told : List ℕ
  pub talked : Talked old [] input new after stays told
  pub written : Appends out_old out_new (ready ++ told)

-- ---- talks that are broken off

-- whatever a crash leaves now begins with all lines of the host as it was then
pub record IsSafe {D : Type 0} (host : Attended D) (leaves : List ℕ → Type 0) : Type 0 where
  pub kept_is : host.serving.kept ≡ host.serving.journal
  pub front : KeepsFront (open_text host.serving.kept) leaves

-- the first bytes of a text
pub record IsFirstOf (text last : List ℕ) : Type 0 where
  pub count : ℕ
  pub is : last ≡ take count text

-- what a desk is told where the journal's file failed
abbrev pub no_journal_line : List ℕ
no_journal_line = codes "FAULT - DEVICE\n"

-- a line is written whole, but where the writer failed
abbrev pub IsWritten : {W : Type 0} → (W → ℕ) → (W → Option (List ℕ)) → List ℕ → W → W → Type 0
IsWritten failures contents line old new = HasFailed failures old new ⊎ Appends (contents old) (contents new) line

-- the first bytes of what this host tells of a line, whose own line, where it asks for seats, is on the disk too
pub record IsHalfTold {D : Type 0} (old : Attended D) (line : List ℕ) (leaves : List ℕ → Type 0) (last : List ℕ) : Type 0 where
  pub new : Attended D
  pub stays : Bool
  pub text : List ℕ
  pub told : IsTold old new line stays text
  pub cut : IsFirstOf text last
  pub safe : IsSafe new leaves

-- the last that is written: nothing where the desk's reader failed, or memory was wanting behind a booking; where its writer failed the first bytes
-- of what it is told of this line, and where the journal's file failed those of the line that says so
abbrev pub IsLast : {D : Type 0} → Attended D → List ℕ → TalkFault → (List ℕ → Type 0) → List ℕ → Type 0
IsLast old line Input leaves last = last ≡ []
IsLast old line NoMemory leaves last = last ≡ []
IsLast old line Output leaves last = IsHalfTold old line leaves last
IsLast old line Journal leaves last = IsFirstOf no_journal_line last

-- this was written of a line with which a talk is broken off, and no more
pub record BreaksAt {D : Type 0} (old : Attended D) (line : List ℕ) (fault : TalkFault) (leaves : List ℕ → Type 0)
    (out_old out_new : Option (List ℕ)) : Type 0 where
  pub safe : IsSafe old leaves
  pub last : List ℕ
  pub is_last : IsLast old line fault leaves last
  pub written : Appends out_old out_new last

-- the byte behind those that were heard ends this line, of which those were held
pub record EndsLine (bytes heard between line : List ℕ) : Type 0 where
  pub byte : ℕ
  pub is_end : IsEnd byte
  pub begins : Begins (heard ++ byte ∷ []) bytes
  pub is : line ≡ held (between ++ byte ∷ [])

-- where the reader fails it is at no line
abbrev pub IsAtLine : TalkFault → List ℕ → List ℕ → List ℕ → List ℕ → Type 0
IsAtLine Input bytes heard between line = Begins heard bytes
IsAtLine fault bytes heard between line = EndsLine bytes heard between line

-- behind the first of these bytes, each of whose lines was told of, the talk is broken off at a line: nothing but what they were told and the last
-- was written, and all lines that were told of are on the disk
pub record BreaksOff {D : Type 0} (old : Attended D) (before : List ℕ) (fault : TalkFault) (leaves : List ℕ → Type 0)
    (out_old out_new : Option (List ℕ)) (bytes : List ℕ) : Type 0 where
  pub heard : List ℕ
  pub mid : Attended D
  pub between : List ℕ
  pub told : List ℕ
  pub talked : Talked old before heard mid between true told
  pub safe : IsSafe mid leaves
  pub line : List ℕ
  pub at_line : IsAtLine fault bytes heard between line
  pub last : List ℕ
  pub is_last : IsLast mid line fault leaves last
  pub written : Appends out_old out_new (told ++ last)

-- the writer failed as the desk was told where it stands
pub record IsHalfReady {D : Type 0} (old : Attended D) (fault : TalkFault) (leaves : List ℕ → Type 0) (out_old out_new : Option (List ℕ)) : Type 0 where
  pub output : fault ≡ Output
  pub safe : IsSafe old leaves
  pub ready : List ℕ
  pub is_ready : IsReadyLine None old.session (length old.serving.journal) (calls_of old.serving.journal old.session)
      old.desk.today old.desk.epoch ready
  pub begun : TookFront out_old out_new ready

-- the desk was told where it stands, and behind that the talk is broken off
pub record BreaksBehind {D : Type 0} (old : Attended D) (fault : TalkFault) (leaves : List ℕ → Type 0) (out_old out_new : Option (List ℕ))
    (input : List ℕ) : Type 0 where
  pub ready : List ℕ
  pub is_ready : IsReadyLine None old.session (length old.serving.journal) (calls_of old.serving.journal old.session)
      old.desk.today old.desk.epoch ready
  pub out_mid : Option (List ℕ)
  pub put : Appends out_old out_mid ready
  pub breaks : BreaksOff old [] fault leaves out_mid out_new input

-- what was written of a talk that is broken off is a front of a talk, and behind it that the journal's file failed, where it did; and no line that
-- was told of is missing in what a crash leaves
abbrev pub IsBroken : {D : Type 0} → Attended D → TalkFault → (List ℕ → Type 0) → Option (List ℕ) → Option (List ℕ) → List ℕ → Type 0
IsBroken old fault leaves out_old out_new input =
    IsHalfReady old fault leaves out_old out_new ⊎ BreaksBehind old fault leaves out_old out_new input
