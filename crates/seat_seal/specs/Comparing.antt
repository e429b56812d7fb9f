-- What an entry says beside what is given.
use Rattle.std.specs.Prelude.{ℕ, Bool, not, ◌&&◌, nat_eq, if◌then◌else◌, List, take, Option, None, Some}
use Rattle.airline_base.specs.Bytes.{same_text}
use Rattle.seat_seal.specs.declared.comparing.Given.{Given}
use Rattle.seat_seal.specs.declared.comparing.SealFault.{SealFault}
use Rattle.seat_seal.specs.declared.comparing.SealFault.TheVariants as faults
use Rattle.seat_seal.specs.declared.date.Date.{Date}
use Rattle.seat_seal.specs.declared.imprint.Imprint.{Imprint}
use Rattle.seat_seal.specs.declared.seal.SealedJournal.{SealedJournal}
use Rattle.seat_seal.specs.declared.seal.Sealed.{Sealed as Belonging}
use Rattle.seat_seal.specs.declared.seal.SealEntry.{SealEntry}
use Rattle.seat_seal.specs.declared.seal.SealEntry.TheVariants.{Sealed, Other}
use Rattle.seat_seal.specs.declared.seal.Seal.{Seal}
use Rattle.seat_seal.specs.Fronts.{front_for}
use Rattle.seat_seal.specs.Imprints.{imprint_of}

abbrev pub same_date : Date → Date → Bool
same_date a b = nat_eq a.year b.year && nat_eq a.month b.month && nat_eq a.day b.day

abbrev pub same_imprint : Imprint → Imprint → Bool
same_imprint a b = same_text a.digest b.digest && nat_eq a.bytes b.bytes

-- the journal is the sealed one, or where more lines may come begins with it
abbrev pub is_sealed_one : SealedJournal → List ℕ → Bool
is_sealed_one sealed journal = same_imprint sealed.imprint (imprint_of (front_for sealed journal))

-- the text begins with as many bytes as were sealed, and these are the sealed ones
abbrev pub begins_sealed : SealedJournal → List ℕ → Bool
begins_sealed sealed text = same_imprint sealed.imprint (imprint_of (take sealed.imprint.bytes text))

-- the first that differs: set, limits, first, days, journal
unfoldable pub compared : Belonging → Given → List ℕ → Option SealFault
compared e g journal =
    if not (same_text e.set g.set) then Some faults.Set
    else if not (same_text e.limits g.limits) then Some faults.Limits
    else if not (same_date e.first g.first) then Some faults.First
    else if not (nat_eq e.days g.days) then Some faults.Days
    else if not (is_sealed_one e.journal journal) then Some faults.Journal
    else None

-- an entry's journal: the sealed one, or the one with these bytes where nothing else is known of it
abbrev pub is_its_journal : SealEntry → List ℕ → Bool
is_its_journal (Sealed s) journal = is_sealed_one s.journal journal
is_its_journal (Other i) journal = same_imprint i (imprint_of journal)

abbrev pub second_for : Option SealEntry → List ℕ → Option SealEntry
second_for None journal = None
second_for (Some e) journal = if is_its_journal e journal then Some e else None

-- the first entry whose journal it is
abbrev pub entry_for : Seal → List ℕ → Option SealEntry
entry_for s journal = if is_its_journal s.first journal then Some s.first else second_for s.second journal
