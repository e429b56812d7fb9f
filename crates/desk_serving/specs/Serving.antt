-- A host that serves a feed, and its journal.
use Rattle.std.specs.Prelude.{◌≡◌, ◌⊎◌, ◌≤◌, All, IfSome, ℕ, Bool, true, false, Option, List, [], ◌++◌, length, take, drop}
use Rattle.desk_feed.specs.Feeding.{LivesThrough}
use Rattle.desk_feed.specs.Progress.{IsProgress}
use Rattle.desk_lines.specs.declared.desk.Desk.{Desk}
use Rattle.desk_lines.specs.declared.desk.Standing.TheVariants.{Between}
use Rattle.desk_serving.specs.Daily.{IsUnsealed}
use Rattle.desk_stream.specs.Feeds.{Feeding, IsBegun}
use Rattle.desk_stream.specs.Laws.{IsVeryCall}
use Rattle.desk_stream.specs.Wanting.{asking_of}
use Rattle.desk_stream.specs.declared.planning.Called.{Called}
use Rattle.desk_serving.specs.Streaming.{later_day, IsBrokenOff, IsStrangeEnd, IsStreamed}
use Rattle.desk_serving.specs.declared.fault.FedFault.{FedFault}
use Rattle.desk_serving.specs.declared.fault.FedFault.TheVariants.{Behind, Broken, End, Seal}
use Rattle.desk_serving.specs.declared.fault.StreamFault.{StreamFault}
use Rattle.desk_serving.specs.declared.fault.StreamFault.TheVariants as streams
use Rattle.seat_desk.specs.declared.fault.DeskFault.{DeskFault}
use Rattle.seat_journal.specs.declared.entry.Entry.{Entry}
use Rattle.seat_restoring.specs.Dating.{AreOfEra, IsDated}
use Rattle.seat_seal.specs.declared.beside.Basis.{Basis}
use Rattle.seat_seal.specs.declared.era.Era.{Era}
use Rattle.seat_seal.specs.declared.run.Run.{Run}
use Rattle.seat_serving.specs.Served.{IsOnDisk, Served}
use Rattle.seat_serving.specs.declared.serving.ServeFault.TheVariants as ends
use Rattle.ssim_flights.specs.declared.flight.Flight.{Flight as Flown}

-- a desk that has said nothing, at a journal of this epoch
pub record IsFreshAt (epoch : ℕ) (desk : Desk) : Type 0 where
  pub standing_is : desk.standing ≡ Between
  pub lines_are : desk.lines ≡ 0
  pub epoch_is : desk.epoch ≡ epoch
  pub client_is : desk.is_stranger ≡ false

-- a feed over this inventory, behind so many lines of its journal, of which nothing was heard
pub record IsFeedOver {D : Type 0} (flights : List Flown) (serving : Served D) (epoch count : ℕ) (feed : Feeding D) : Type 0 where
  pub flights_are : feed.flights ≡ flights
  pub serving_is : feed.serving ≡ serving
  pub epoch_is : feed.epoch ≡ epoch
  pub behind_is : feed.pending.progress.lines ≡ count
  pub is_progress : IsProgress serving.journal feed.pending.progress
  pub none_asked : feed.pending.asked.items ≡ []
  pub none_told : feed.pending.turns.items ≡ []
  pub begun : IsBegun epoch feed.reading
  pub nine : length feed.desks ≡ 9
  pub fresh : All (IsFreshAt epoch) feed.desks

-- a whole feed, behind which the journal has these lines, and this was written of it; its seal has the later of the host's day and the feed's
pub record IsFedTo {D : Type 0} (flights : List Flown) (serving : Served D) (epoch count today : ℕ) (era : Era) (out_old out_new : Option (List ℕ))
    (journal : List Entry) (input : List ℕ) : Type 0 where
  pub old : Feeding D
  pub new : Feeding D
  pub over : IsFeedOver flights serving epoch count old
  pub streamed : IsStreamed old new out_old out_new input
  pub journal_is : new.serving.journal ≡ journal
  pub dated : IsDated (later_day today new.reading.today) era

-- and whatever a crash leaves of the seal has that day, and the epoch
pub record IsFed {D : Type 0} (flights : List Flown) (serving : Served D) (epoch count today : ℕ) (seals : List ℕ → Type 0)
    (out_old out_new : Option (List ℕ)) (journal : List Entry) (input : List ℕ) : Type 0 where
  pub era : Era
  pub fed : IsFedTo flights serving epoch count today era out_old out_new journal input
  pub epoch_is : era.epoch ≡ epoch
  pub are : AreOfEra era seals

-- and where the journal could not be ended
pub record IsFedOut {D : Type 0} (flights : List Flown) (serving : Served D) (epoch count : ℕ) (out_old out_new : Option (List ℕ))
    (input : List ℕ) : Type 0 where
  pub old : Feeding D
  pub new : Feeding D
  pub over : IsFeedOver flights serving epoch count old
  pub streamed : IsStreamed old new out_old out_new input

-- the journal is what these calls of the feed made of the lines that stood ahead of it: those behind the first so many were lived again
pub record IsLivedTo {D : Type 0} (flights : List Flown) (serving : Served D) (count : ℕ) (journal : List Entry) : Type 0 where
  pub calls : List Called
  pub now : List Entry
  pub rest : List Entry
  pub lives : LivesThrough serving.grid serving.cap (asking_of flights) (IsVeryCall flights) (take count serving.journal)
      (drop count serving.journal) calls now rest
  pub journal_is : journal ≡ now ++ rest

-- the journal's file failed
abbrev pub is_of_journal : FedFault → Bool
is_of_journal (Broken streams.Journal) = true
is_of_journal (End ends.Device) = true
is_of_journal fault = false

-- it is not the closed seal that failed
abbrev pub IsOfFeed : FedFault → Type 0
IsOfFeed (Seal fault) = ⊥
IsOfFeed _ = Unit {0}

-- it has fewer lines than that, or memory is wanting for the feed
abbrev pub IsOfOpening : FedFault → Type 0
IsOfOpening Behind = Unit {0}
IsOfOpening (Broken streams.Memory) = Unit {0}
IsOfOpening _ = ⊥

-- it is another's feed: it hears nothing behind the line of this number, which asks for another than the journal's line of that, and the file has
-- the lines that it had
pub record IsStrangeFed {D : Type 0} (flights : List Flown) (serving : Served D) (epoch count line number : ℕ) (seen : Option (List ℕ))
    (leaves : List ℕ → Type 0) : Type 0 where
  pub old : Feeding D
  pub new : Feeding D
  pub over : IsFeedOver flights serving epoch count old
  pub strange : IsStrangeEnd old new line number
  pub unbooked : IsOnDisk serving.journal seen leaves

-- a feed that is broken off, what was written of it, and the lines that are on the disk, but where the journal's file failed
pub record IsFedOff {D : Type 0} (flights : List Flown) (serving : Served D) (epoch count : ℕ) (fault : StreamFault)
    (in_old out_old out_new seen : Option (List ℕ)) (leaves : List ℕ → Type 0) : Type 0 where
  pub old : Feeding D
  pub new : Feeding D
  pub over : IsFeedOver flights serving epoch count old
  pub broken : IsBrokenOff old new [] fault in_old out_old out_new
  pub left : (fault ≡ streams.Journal → ⊥) → IsOnDisk new.serving.journal seen leaves

-- memory is wanting for the feed, behind lines that are all there: nothing is written, and nothing booked
pub record IsUnfed {D : Type 0} (serving : Served D) (count : ℕ) (fault : StreamFault) (out_old out_new seen : Option (List ℕ))
    (leaves : List ℕ → Type 0) : Type 0 where
  pub memory : fault ≡ streams.Memory
  pub enough : count ≤ length serving.journal
  pub out_is : out_new ≡ out_old
  pub left : IsOnDisk serving.journal seen leaves

abbrev pub IsFedFront : {D : Type 0} → List Flown → Served D → ℕ → ℕ → StreamFault → Option (List ℕ) → Option (List ℕ) → Option (List ℕ)
    → Option (List ℕ) → (List ℕ → Type 0) → Type 0
IsFedFront flights serving epoch count fault in_old out_old out_new seen leaves =
    IsUnfed serving count fault out_old out_new seen leaves
    ⊎ IsFedOff flights serving epoch count fault in_old out_old out_new seen leaves

-- the feed was over, and the journal is ended so, and its seal is not there: it is too large, or its file failed, or memory was wanting for it
pub record IsFedUnsealed {D : Type 0} (flights : List Flown) (serving : Served D) (epoch count today : ℕ) (basis : Basis) (runs : List Run)
    (fault : DeskFault) (input out_old out_new seen : Option (List ℕ)) (leaves : List ℕ → Type 0) (unsynced : ℕ) (seals : List ℕ → Type 0)
    : Type 0 where
  pub unsealed : IsUnsealed serving.kept basis runs fault seen leaves unsynced seals
  pub fed : IfSome input (IsFed flights serving epoch count today seals out_old out_new unsealed.over.journal)
  pub lived : IsLivedTo flights serving count unsealed.over.journal
