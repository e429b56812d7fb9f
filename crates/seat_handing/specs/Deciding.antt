-- Whether the bookings of a journal may be carried to a newer one, by the mark that its entry has and by what stands under the newer one's name.
-- The mark is of a name and of the whole text that all bookings are carried to: of the newer journal's own, where it takes them all. Where several newer
-- journals each take a part, it is of a name for all of them and of a text that all have, so that each part finds the same mark; what stands under its name, and
-- what is put there, is the part's text.
use Rattle.std.specs.Prelude.{◌≡◌, ℕ, Bool, not, ◌&&◌, ◌||◌, true, false, if◌then◌else◌, List, [], ◌∷◌, Option, None, Some, Result, Ok, Err}
use Rattle.airline_base.specs.Bytes.{same_text}
use Rattle.seat_seal.specs.Comparing.{same_imprint}
use Rattle.seat_seal.specs.Fronts.{front_of}
use Rattle.seat_seal.specs.Imprints.{imprint_of}
use Rattle.seat_seal.specs.Rules.{is_imprint}
use Rattle.seat_seal.specs.declared.imprint.Imprint.{Imprint}
use Rattle.seat_seal.specs.declared.seal.Seal.{Seal}
use Rattle.seat_seal.specs.declared.seal.SealEntry.{SealEntry}
use Rattle.seat_seal.specs.declared.seal.SealEntry.TheVariants.{Sealed, Other}
use Rattle.seat_sealing.specs.Older.{IsSealIn}
use Rattle.seat_handing.specs.Marking.{mark_of}
use Rattle.seat_handing.specs.declared.deciding.Hand.{Hand}
use Rattle.seat_handing.specs.declared.deciding.Hand.TheVariants.{Mark, Finish, Anew}
use Rattle.seat_handing.specs.declared.deciding.HandRefusal.{HandRefusal}
use Rattle.seat_handing.specs.declared.deciding.HandRefusal.TheVariants.{Unfinished, New}

-- nothing is lost under the newer journal's name: no file has it, or an empty one, or one with the very bytes
abbrev pub may_be_put : Option (List ℕ) → List ℕ → Bool
may_be_put None text = true
may_be_put (Some []) text = true
may_be_put (Some (b ∷ more)) text = same_text (b ∷ more) text

-- the mark is that of this name and this whole text, which are no more bytes than a mark counts
abbrev pub is_mark_of : Imprint → List ℕ → List ℕ → Bool
is_mark_of mark name whole = is_imprint (mark_of name whole) && same_imprint mark (mark_of name whole)

-- the journal that a mark names by itself, which takes all bookings, stands there, under this name
abbrev pub stands : Imprint → List ℕ → Option (List ℕ) → Bool
stands mark name None = false
stands mark name (Some bytes) = is_mark_of mark name bytes

-- the seal has one entry, a sealed journal's with the imprint of this one, whatever else it has learned since
abbrev pub names_alone : SealEntry → Option SealEntry → List ℕ → Bool
names_alone (Sealed s) None text = same_imprint s.journal.imprint (imprint_of (front_of text))
names_alone (Sealed s) (Some second) text = false
names_alone (Other i) second text = false

-- the seal of the newer journal is there, and names it alone
abbrev pub is_sealed_alone : Option Seal → List ℕ → Bool
is_sealed_alone None text = false
is_sealed_alone (Some seal) text = names_alone seal.first seal.second text

-- the newer journal is whole: its very bytes, and its seal alone
abbrev pub is_whole : Option (List ℕ) → Option Seal → List ℕ → Bool
is_whole None seal text = false
is_whole (Some bytes) seal text = same_text bytes text && is_sealed_alone seal text

-- a journal that was begun is finished, and one that is whole is let be
abbrev pub finish_for : Option (List ℕ) → Option Seal → List ℕ → Option Hand
finish_for there seal text = if is_whole there seal text then None else Some Finish

-- not carried yet: it is marked. Carried to this very whole under this very name: the newer journal is finished, where anything lacks. Carried to another
-- one: refused, unless that one doesn't stand there and it is said that this one is to take its place. And behind that, refused where other bytes would be
-- lost
abbrev pub hand_for : Option Imprint → List ℕ → List ℕ → Option (List ℕ) → Option Seal → List ℕ → Bool → Result (Option Hand) HandRefusal
hand_for None name whole there seal text anew = if may_be_put there text then Ok (Some Mark) else Err New
hand_for (Some mark) name whole there seal text anew =
    if is_mark_of mark name whole then (if may_be_put there text then Ok (finish_for there seal text) else Err New)
    else if not anew || stands mark name there then Err Unfinished
    else if may_be_put there text then Ok (Some Anew)
    else Err New

-- the same of the seal that has the text beside it
pub record IsHand (carried : Option Imprint) (name whole : List ℕ) (there beside : Option (List ℕ)) (text : List ℕ) (anew : Bool)
    (answer : Result (Option Hand) HandRefusal) : Type 0 where
  pub seal : Option Seal
  pub is_in : IsSealIn beside seal
  pub answer_is : answer ≡ hand_for carried name whole there seal text anew
