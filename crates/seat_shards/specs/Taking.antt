-- Journals of hosts that have different flights, taken one behind the other, and what they come to together.
use Rattle.std.specs.Prelude.{◌≡◌, ◌≤◌, ◌<◌, ◌⊎◌, ℕ, ◌+◌, List, [], ◌∷◌, ◌++◌, length, map, None, Option, Some, IfSome, option_map}
use Rattle.airline_base.specs.Noting.{noted}
use Rattle.seat_nesting.specs.Nesting.{Ladders}
use Rattle.seat_journal.specs.declared.entry.Entry.{Entry}
use Rattle.seat_journal.specs.Reading.{WantsRoom}
use Rattle.seat_journal.specs.Text.{IsJournalText}
use Rattle.seat_rules.specs.Agreement.{totals_in}
use Rattle.seat_rules.specs.Journal.{IsLegal}
use Rattle.seat_rules.specs.Replaying.{StopsAt}
use Rattle.seat_rules.specs.Totals.{totals_of}
use Rattle.seat_rules.specs.declared.totals.Totals.{Totals}
use Rattle.taken_journals.specs.declared.taken.Taken.{Taken}
use Rattle.taken_journals.specs.Owners.{first_owned, first_shared, OwnsToo}
use Rattle.taken_journals.specs.Taken.{both_of}
use Rattle.seat_desk.specs.AuditDesk.{IsUnlawful, most_journal_bytes, most_lines}
use Rattle.seat_desk.specs.declared.fault.DeskFault.{DeskFault}
use Rattle.seat_desk.specs.declared.fault.DeskFault.TheVariants.{TooLarge}
use Rattle.seat_shards.specs.declared.fault.ShardFault.{ShardFault}
use Rattle.seat_shards.specs.declared.fault.ShardFault.TheVariants.{Journal, Shared}
use Rattle.seat_shards.specs.Shards.{AreShards, IsMix, Tagged, merged}

-- the text, which is not too large, is that of the journal
pub record IsTextOf (text : List ℕ) (journal : List Entry) : Type 0 where
  pub within : length text ≤ most_journal_bytes
  pub is_text : IsJournalText text journal

-- each text is that of the journal at its place
abbrev pub AreTexts : List (List ℕ) → List (List Entry) → Type 0
AreTexts [] [] = Unit {0}
AreTexts (text ∷ texts) (journal ∷ journals) = IsTextOf text journal × AreTexts texts journals
AreTexts _ _ = ⊥

-- the bytes of all, where they are known
abbrev pub known : List (Option (List ℕ)) → Option (List (List ℕ))
known [] = Some []
known (None ∷ texts) = None
known (Some text ∷ texts) = option_map (λ (known : List (List ℕ)). text ∷ known) (known texts)

-- whatever the order in which their lines came, one journal of all of them that keeps each one's order is legal, and comes to this
pub record Merge (grid : Ladders) (journals : List (List Entry)) (totals : Totals) : Type 0 where
  pub legal : (mix : List Tagged) → IsMix journals mix → IsLegal grid (merged mix)
  pub sums : (mix : List Tagged) → IsMix journals mix → totals_of (merged mix) ≡ totals

-- the texts are those of legal histories over these limits, no two of which have a line of one flight, and this is what they come to together
pub record AreTotalled (grid : Ladders) (texts : List (List ℕ)) (totals : Totals) : Type 0 where
  pub journals : List (List Entry)
  pub are_texts : AreTexts texts journals
  pub shards : AreShards grid most_lines journals
  pub sums : totals ≡ totals_in journals
  pub merge : Merge grid journals totals

-- the text is too large, or an audit of it alone refuses it so
abbrev pub IsRefusedAlone : Ladders → DeskFault → List ℕ → Type 0
IsRefusedAlone grid TooLarge text = most_journal_bytes < length text
IsRefusedAlone grid fault text = IsUnlawful grid fault text

-- the text of a legal history has a line on a flight of these journals, the first of which is so
pub record IsSharedText (grid : Ladders) (journals : List (List Entry)) (text : List ℕ) (number other : ℕ) : Type 0 where
  pub entries : List Entry
  pub is_text : IsTextOf text entries
  pub legal : IsLegal grid entries
  pub few : length entries ≤ most_lines
  pub first : first_shared journals entries ≡ Some (number, other)

-- the text behind those of these journals is refused so
abbrev pub RefusesBehind : Ladders → List (List Entry) → List ℕ → ShardFault → Type 0
RefusesBehind grid journals text (Journal place fault) = (place ≡ length journals + 1) × IsRefusedAlone grid fault text
RefusesBehind grid journals text (Shared place number other) =
    (place ≡ length journals + 1) × IsSharedText grid journals text number other
RefusesBehind grid journals text _ = ⊥

-- the first of the texts that is refused, by itself or beside those before it, is refused so
pub record IsFirstRefused (grid : Ladders) (texts : List (List ℕ)) (fault : ShardFault) : Type 0 where
  pub before : List (List ℕ)
  pub text : List ℕ
  pub behind : List (List ℕ)
  pub cut : texts ≡ before ++ text ∷ behind
  pub journals : List (List Entry)
  pub are_texts : AreTexts before journals
  pub shards : AreShards grid most_lines journals
  pub refused : RefusesBehind grid journals text fault

-- the law: no journals are both accepted and refused
abbrev pub OneVerdict : Type 0
OneVerdict = (grid : Ladders) (texts : List (List ℕ)) (totals : Totals) (fault : ShardFault) → AreTotalled grid texts totals
    → IsFirstRefused grid texts fault → ⊥

-- ---- one behind the other

-- the text is that of these entries, which are a legal history over the limits and come to this
pub record IsLegalText (grid : Ladders) (text : List ℕ) (entries : List Entry) (totals : Totals) : Type 0 where
  pub is_text : IsTextOf text entries
  pub legal : IsLegal grid entries
  pub few : length entries ≤ most_lines
  pub sums : totals ≡ totals_of entries

-- one journal more is taken: its text is that of a legal history without a line on a flight of the others
pub record IsTakenWith (grid : Ladders) (old new : Taken) (text : List ℕ) : Type 0 where
  pub entries : List Entry
  pub own : Totals
  pub read : IsLegalText grid text entries own
  pub apart : first_owned old.owners.items entries ≡ None
  pub owners : OwnsToo (old.count + 1) old.owners.items new.owners.items entries
  pub count : new.count ≡ old.count + 1
  pub sums : new.totals ≡ both_of old.totals own

-- no line of the text has a fault up to an entry, for which room is wanted
pub record WantsEntry (text : List ℕ) : Type 0 where
  pub line : ℕ
  pub wants : WantsRoom text line

-- the text is that of entries, of which none up to this one has a fault, this one none ahead of its advices
pub record WantsStep (grid : Ladders) (text : List ℕ) : Type 0 where
  pub entries : List Entry
  pub is_text : IsJournalText text entries
  pub number : ℕ
  pub stops : StopsAt grid most_lines entries number

-- memory is wanting for an entry of the text, or to carry one out
abbrev pub IsWanting : Ladders → List ℕ → Type 0
IsWanting grid text = WantsEntry text ⊎ WantsStep grid text

-- the text is that of a legal history, whose first line on a flight of the others is this one
pub record IsOwnedText (grid : Ladders) (owners text : List ℕ) (number other : ℕ) : Type 0 where
  pub entries : List Entry
  pub own : Totals
  pub read : IsLegalText grid text entries own
  pub first : first_owned owners entries ≡ Some (number, other)

-- the text of one more journal is refused so
abbrev pub RefusesMore : Ladders → Taken → ShardFault → List ℕ → Type 0
RefusesMore grid taken (Journal place fault) text = (place ≡ taken.count + 1) × IsRefusedAlone grid fault text
RefusesMore grid taken (Shared place number other) text =
    (place ≡ taken.count + 1) × IsOwnedText grid taken.owners.items text number other
RefusesMore grid taken _ text = ⊥

-- all are taken, one behind the other, where their bytes are known
abbrev pub TakenOn : Ladders → List (Option (List ℕ)) → Taken → Taken → Type 0
TakenOn grid [] old new = new ≡ old
TakenOn grid (text ∷ texts) old new =
    (mid : Taken) × IfSome text (IsTakenWith grid old mid) × TakenOn grid texts mid new

pub record AreTakenOn (grid : Ladders) (texts : List (Option (List ℕ))) (old new : Taken) : Type 0 where
  pub each : TakenOn grid texts old new

-- those before the first that is refused are taken
abbrev pub RefusedOn : Ladders → List (Option (List ℕ)) → Taken → ShardFault → Type 0
RefusedOn grid [] old fault = ⊥
RefusedOn grid (text ∷ texts) old fault =
    IfSome text (RefusesMore grid old fault)
    ⊎ ((mid : Taken) × IfSome text (IsTakenWith grid old mid) × RefusedOn grid texts mid fault)

pub record IsRefusedOn (grid : Ladders) (texts : List (Option (List ℕ))) (old : Taken) (fault : ShardFault) : Type 0 where
  pub first : RefusedOn grid texts old fault

-- one of the counts has risen by a failure, and the journals before it are taken, where their bytes are known
abbrev pub RisenOn : Ladders → List (Option (List ℕ)) → Taken → List ℕ → List ℕ → Type 0
RisenOn grid (text ∷ texts) taken (old ∷ olds) (new ∷ news) =
    (new ≡ noted old) ⊎ ((mid : Taken) × IfSome text (IsTakenWith grid taken mid) × RisenOn grid texts mid olds news)
RisenOn grid _ taken _ _ = ⊥

pub record HasFailedOn {D : Type 0} (grid : Ladders) (texts : List (Option (List ℕ))) (taken : Taken) (failures : D → ℕ)
    (olds news : List D) : Type 0 where
  pub first : RisenOn grid texts taken (map failures olds) (map failures news)

-- the texts are those of legal histories over these limits, no two of which have a line of one flight
pub record AreShardTexts (grid : Ladders) (texts : List (List ℕ)) : Type 0 where
  pub journals : List (List Entry)
  pub are_texts : AreTexts texts journals
  pub shards : AreShards grid most_lines journals

-- behind the journals before, one of these counts has risen by a failure, and all journals ahead of it are legal and apart, where their
-- bytes are known
abbrev pub HasRisenBehind : Ladders → List (Option (List ℕ)) → List (Option (List ℕ)) → List ℕ → List ℕ → Type 0
HasRisenBehind grid before (text ∷ texts) (old ∷ olds) (new ∷ news) =
    (IfSome (known before) (AreShardTexts grid) × (new ≡ noted old))
    ⊎ HasRisenBehind grid (before ++ text ∷ []) texts olds news
HasRisenBehind grid before _ _ _ = ⊥

-- one of these devices has failed, and the journals before it are legal, and no two have a line of one flight
abbrev pub HasFailedAmong : {D : Type 0} → Ladders → List (Option (List ℕ)) → (D → ℕ) → List D → List D → Type 0
HasFailedAmong grid texts failures olds news = HasRisenBehind grid [] texts (map failures olds) (map failures news)
