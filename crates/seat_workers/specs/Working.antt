-- What a run of sessions leaves.
use Rattle.std.specs.Prelude.{◌≡◌, ◌⊎◌, ℕ, ◌+◌, ◌≤◌, List, [], ◌∷◌, ◌++◌, Option, Some, None, length, zip, ⊤}
use Rattle.std.specs.List.{AllZip}
use Rattle.seat_journal.specs.declared.entry.Work.{Work}
use Rattle.seat_journal.specs.declared.entry.Entry.{Entry}
use Rattle.logbook.specs.Pages.{Book}
use Rattle.seat_nesting.specs.Nesting.{Ladders}
use Rattle.seat_rules.specs.Prefixes.{Begins}
use Rattle.seat_rules.specs.Journal.{FitsWork, MayAsk}
use Rattle.seat_rules.specs.Histories.{works_in}
pub use Rattle.seat_rules.specs.Histories.{works_of}
use Rattle.seat_host.specs.Refusing.{IsDue}
use Rattle.seat_host.specs.Sessions.{Seat}
use Rattle.line_booking.specs.declared.booking.BookFault.TheVariants.{JournalFull}
use Rattle.seat_workers.specs.declared.workers.RunFault.{RunFault}

-- a session may ask for this, which fits the limits
pub record Asks (grid : Ladders) (session : ℕ) (work : Work) : Type 0 where
  pub may : MayAsk session work
  pub fits : FitsWork grid work

-- the session booked its whole list: it was given a line for each work, in order
pub record HasRun (list : List Work) (s t : Seat) : Type 0 where
  pub lines : List Entry
  pub works : works_in lines ≡ list
  pub id : t.id ≡ s.id
  pub receipts : t.receipts ≡ s.receipts ++ lines
  pub before : Begins s.front t.front

-- the session booked a beginning of its list, which may be the whole
pub record HasBegun (list : List Work) (s t : Seat) : Type 0 where
  pub booked : List Work
  pub begins : Begins booked list
  pub run : HasRun booked s t

-- the session booked its list as far as the work whose call the fault names. The journal was full then, as the session has seen, or it had a line left and memory was wanting
pub record IsRefused (grid : Ladders) (book : Book) (cap : ℕ) (fault : RunFault) (list : List Work) (s t : Seat) : Type
    0 where
  pub booked : List Work
  pub refused : Work
  pub left : List Work
  pub parts : list ≡ booked ++ refused ∷ left
  pub run : HasRun booked s t
  pub session : fault.session ≡ t.id
  pub call : fault.call ≡ length t.receipts + 1
  pub full : fault.refusal.fault ≡ JournalFull → cap ≤ length t.front
  pub due : IsDue grid book cap t.front fault.refusal

-- how the worker of a list ended: it booked its whole list, or its fault says at which call it was refused
abbrev pub HasEnded : Ladders → Book → ℕ → List Work → Seat → Seat → Option RunFault → Type 0
HasEnded grid book cap list s t None = HasRun list s t
HasEnded grid book cap list s t (Some fault) = IsRefused grid book cap fault list s t

-- each session has ended so, with its fault at its place
abbrev pub AllHaveEnded : Ladders → Book → ℕ → List (List Work) → List Seat → List Seat → List (Option RunFault) → Type 0
AllHaveEnded grid book cap (list ∷ lists) (s ∷ olds) (t ∷ news) (end ∷ ends) =
    HasEnded grid book cap list s t end × AllHaveEnded grid book cap lists olds news ends
AllHaveEnded grid book cap (list ∷ lists) (s ∷ olds) (t ∷ news) [] = ⊥
AllHaveEnded grid book cap (list ∷ lists) (s ∷ olds) [] ends = ⊥
AllHaveEnded grid book cap (list ∷ lists) [] news ends = ⊥
AllHaveEnded grid book cap [] olds [] ends = ⊤
AllHaveEnded grid book cap [] olds (t ∷ news) ends = ⊥

-- the first fault
abbrev pub first_of : List (Option RunFault) → Option RunFault
first_of [] = None
first_of (None ∷ ends) = first_of ends
first_of (Some fault ∷ ends) = Some fault

-- each session booked its whole list
abbrev pub AllHaveRun : List (List Work) → List Seat → List Seat → Type 0
AllHaveRun lists olds news = AllZip (λ told t. HasRun told.0 told.1 t) (zip lists olds) news

-- each session booked a beginning of its list
abbrev pub AllHaveBegun : List (List Work) → List Seat → List Seat → Type 0
AllHaveBegun lists olds news = AllZip (λ told t. HasBegun told.0 told.1 t) (zip lists olds) news

-- the fault is that of the first session that was refused: those before it booked their whole lists
abbrev pub NamesFirst : Ladders → Book → ℕ → RunFault → List (List Work) → List Seat → List Seat → Type 0
NamesFirst grid book cap fault (list ∷ lists) (s ∷ olds) (t ∷ news) =
    IsRefused grid book cap fault list s t ⊎ (HasRun list s t × NamesFirst grid book cap fault lists olds news)
NamesFirst grid book cap fault (list ∷ lists) (s ∷ olds) [] = ⊥
NamesFirst grid book cap fault (list ∷ lists) [] news = ⊥
NamesFirst grid book cap fault [] olds news = ⊥
