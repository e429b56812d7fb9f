-- Whether the bookings of several journals may be carried to a newer one, or to a part of it: each by its own mark, and by what stands under the newer
-- one's name.
use Rattle.std.specs.Prelude.{◌≡◌, ℕ, ◌+◌, Bool, true, false, ◌&&◌, List, [], ◌∷◌, map, Option, None, Some, Result, Ok, Err}
use Rattle.seat_seal.specs.declared.seal.Seal.{Seal}
use Rattle.seat_seal.specs.declared.seal.Sealed.{Sealed as Belonging}
use Rattle.seat_sealing.specs.Older.{IsSealIn}
use Rattle.seat_handing.specs.Deciding.{hand_for}
use Rattle.seat_handing.specs.declared.deciding.Hand.{Hand}
use Rattle.seat_handing.specs.declared.deciding.Hand.TheVariants.{Finish}
use Rattle.seat_handing.specs.declared.deciding.HandRefusal.{HandRefusal}
use Rattle.seat_handing.specs.declared.judging.Judgement.{Judgement}
use Rattle.seat_handing.specs.declared.judging.HandsRefusal.{HandsRefusal}
use Rattle.seat_handing.specs.declared.judging.HandsRefusal.TheVariants.{Refused, Memory}

-- what is answered of each
abbrev pub answers_for : List Belonging → List ℕ → List ℕ → Option (List ℕ) → Option Seal → List ℕ → Bool → List (Result (Option Hand) HandRefusal)
answers_for knowns name whole there seal text anew = map (λ k. hand_for k.era.carried name whole there seal text anew) knowns

-- the first that is refused, and its place, where the first of them is at this one
abbrev pub refused_from : ℕ → List (Result (Option Hand) HandRefusal) → Option (ℕ × HandRefusal)
refused_from place [] = None
refused_from place (Err refusal ∷ answers) = Some (place, refusal)
refused_from place (Ok hand ∷ answers) = refused_from (place + 1) answers

-- where one needs nothing and another does, that one is finished too
abbrev pub hand_or_finish : Option Hand → Hand
hand_or_finish None = Finish
hand_or_finish (Some hand) = hand

-- what is done with each
abbrev pub hands_in : List (Result (Option Hand) HandRefusal) → List Hand
hands_in [] = []
hands_in (Err refusal ∷ answers) = hands_in answers
hands_in (Ok answer ∷ answers) = hand_or_finish answer ∷ hands_in answers

abbrev pub needs_nothing : Option Hand → Bool
needs_nothing None = true
needs_nothing (Some hand) = false

-- none needs anything
abbrev pub are_whole : List (Result (Option Hand) HandRefusal) → Bool
are_whole [] = true
are_whole (Err refusal ∷ answers) = false
are_whole (Ok answer ∷ answers) = needs_nothing answer && are_whole answers

-- by the seal that has the text beside the newer journal's name
pub record IsJudged (knowns : List Belonging) (name whole : List ℕ) (there beside : Option (List ℕ)) (text : List ℕ) (anew : Bool) (hands : Judgement) : Type 0
  where
    pub seal : Option Seal
    pub is_in : IsSealIn beside seal
    pub none : refused_from 1 (answers_for knowns name whole there seal text anew) ≡ None
    pub hands_are : hands.each ≡ hands_in (answers_for knowns name whole there seal text anew)
    pub whole_is : hands.are_whole ≡ are_whole (answers_for knowns name whole there seal text anew)

pub record IsRefusedAt (knowns : List Belonging) (name whole : List ℕ) (there beside : Option (List ℕ)) (text : List ℕ) (anew : Bool) (place : ℕ)
    (refusal : HandRefusal) : Type 0 where
  pub seal : Option Seal
  pub is_in : IsSealIn beside seal
  pub first : refused_from 1 (answers_for knowns name whole there seal text anew) ≡ Some (place, refusal)

-- the first that is refused is so; want of memory says nothing of any
abbrev pub IsUnjudged : List Belonging → List ℕ → List ℕ → Option (List ℕ) → Option (List ℕ) → List ℕ → Bool → HandsRefusal → Type 0
IsUnjudged knowns name whole there beside text anew (Refused place refusal) = IsRefusedAt knowns name whole there beside text anew place refusal
IsUnjudged knowns name whole there beside text anew Memory = Unit {0}

-- the same of one seal, from a place on
abbrev pub IsRefusedFrom : ℕ → List (Result (Option Hand) HandRefusal) → HandsRefusal → Type 0
IsRefusedFrom place answers (Refused at refusal) = refused_from place answers ≡ Some (at, refusal)
IsRefusedFrom place answers Memory = Unit {0}
