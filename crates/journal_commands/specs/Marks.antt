-- What stands beside several journals whose bookings are carried to one, and the mark of each.
use Rattle.std.specs.Prelude.{ℕ, if◌then◌else◌, List, [], ◌∷◌, Option, None, Some, option_map}
use Rattle.seat_files.specs.declared.fault.CarryKind.{CarryKind}
use Rattle.seat_files.specs.declared.fault.CarryKind.TheVariants as kinds
use Rattle.seat_handing.specs.Marking.{mark_text}
use Rattle.seat_handing.specs.declared.deciding.Hand.{Hand}
use Rattle.seat_handing.specs.declared.deciding.HandRefusal.{HandRefusal}
use Rattle.seat_handing.specs.declared.deciding.HandRefusal.TheVariants.{Unfinished, New}
use Rattle.seat_handing.specs.declared.several.OlderMark.{OlderMark}
use Rattle.seat_seal.specs.declared.beside.Beside.{Beside}
use Rattle.seat_seal.specs.declared.imprint.Imprint.{Imprint}
use Rattle.seat_seal.specs.declared.seal.Sealed.{Sealed as Belonging}

-- the text of the seal that stands there, where one must
abbrev pub wanted : Beside → Option (Option (List ℕ))
wanted b = if b.is_wanted then Some (option_map (λ text. text.now) b.text) else None

-- the bytes of what stands there, none where nothing does
abbrev pub bytes_in : Option (List ℕ) → List ℕ
bytes_in None = []
bytes_in (Some bytes) = bytes

-- what is done with the mark of one, what its seal has, and its seal with the mark
abbrev pub mark_for : Imprint → Hand → Belonging → List ℕ → OlderMark
mark_for newer h k had = record { hand = h; before = had; mark = mark_text k newer }

-- of each, in order
abbrev pub marks_for : Imprint → List Hand → List Belonging → List (Option (List ℕ)) → List OlderMark
marks_for newer (h ∷ hands) (k ∷ knowns) (had ∷ hads) = mark_for newer h k (bytes_in had) ∷ marks_for newer hands knowns hads
marks_for newer _ _ _ = []

-- how a refusal is shown
abbrev pub carry_kind : HandRefusal → CarryKind
carry_kind Unfinished = kinds.Unfinished
carry_kind New = kinds.New
