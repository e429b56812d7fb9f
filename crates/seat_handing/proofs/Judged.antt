-- Several journals, judged one behind the other.
use Rattle.std.proofs.Common.{◌≡◌, ℕ, ◌+◌, Bool, true, ◌&&◌, List, [], ◌∷◌, ◌++◌, append_assoc, append-nil, map, Option, Some, None, refl, sym, ap, subst, ◌∙◌}
use Rattle.std.specs.Prelude.{Result, Ok, Err}
use Rattle.seat_seal.specs.declared.seal.Seal.{Seal}
use Rattle.seat_seal.specs.declared.seal.Sealed.{Sealed as Belonging}
use Rattle.seat_sealing.specs.Older.{IsSealIn}
use Rattle.seat_handing.specs.Deciding.{hand_for}
use Rattle.seat_handing.specs.Judging.{IsJudged, IsRefusedFrom, IsUnjudged, answers_for, are_whole, hand_or_finish, hands_in, needs_nothing, refused_from}
use Rattle.seat_handing.specs.declared.deciding.Hand.{Hand}
use Rattle.seat_handing.specs.declared.deciding.HandRefusal.{HandRefusal}
use Rattle.seat_handing.specs.declared.judging.Judgement.{Judgement}
use Rattle.seat_handing.specs.declared.judging.HandsRefusal.{HandsRefusal}
use Rattle.seat_handing.specs.declared.judging.HandsRefusal.TheVariants.{Refused, Memory}

abbrev Answer : Type 0
Answer = Result (Option Hand) HandRefusal

module _ (knowns : List Belonging) (name whole : List ℕ) (there : Option (List ℕ)) (seal : Option Seal) (text : List ℕ) (anew : Bool) where
  -- ---- none is left

  none_are : knowns ≡ [] → answers_for knowns name whole there seal text anew ≡ []
  none_are none = ap (λ (l : List Belonging). answers_for l name whole there seal text anew) none

  pub none_left : (place : ℕ) → knowns ≡ [] → refused_from place (answers_for knowns name whole there seal text anew) ≡ None
  none_left place none = ap (refused_from place) (none_are none)

  pub none_added : (hands : List Hand) → knowns ≡ [] → hands ≡ hands ++ hands_in (answers_for knowns name whole there seal text anew)
  none_added hands none = sym (append-nil hands) ∙ ap (λ (l : List Answer). hands ++ hands_in l) (sym (none_are none))

  pub none_whole : knowns ≡ [] → true ≡ are_whole (answers_for knowns name whole there seal text anew)
  none_whole none = ap are_whole (sym (none_are none))

  module _ (known : Belonging) (later : List Belonging) (is : knowns ≡ known ∷ later) where
    more : (answer : Answer) → answer ≡ hand_for known.era.carried name whole there seal text anew
        → answers_for knowns name whole there seal text anew ≡ answer ∷ answers_for later name whole there seal text anew
    more answer same =
        ap (λ (l : List Belonging). answers_for l name whole there seal text anew) is
        ∙ ap (λ (a : Answer). a ∷ answers_for later name whole there seal text anew) (sym same)

    -- ---- the first is refused

    pub here_refused : (place : ℕ) (refusal : HandRefusal) (f : HandsRefusal) → f ≡ Refused place refusal
        → Err refusal ≡ hand_for known.era.carried name whole there seal text anew
        → IsRefusedFrom place (answers_for knowns name whole there seal text anew) f
    here_refused place refusal f e same =
        subst (IsRefusedFrom place (answers_for knowns name whole there seal text anew)) (sym e) (ap (refused_from place) (more (Err refusal) same))

    -- ---- or one behind it

    pub later_refused : (place next : ℕ) (answer : Option Hand) (f : HandsRefusal) → next ≡ place + 1
        → Ok answer ≡ hand_for known.era.carried name whole there seal text anew → IsRefusedFrom next (answers_for later name whole there seal text anew) f
        → IsRefusedFrom place (answers_for knowns name whole there seal text anew) f
    later_refused place next answer (Refused at refusal) e same first =
        ap (refused_from place) (more (Ok answer) same)
        ∙ (ap (λ (n : ℕ). refused_from n (answers_for later name whole there seal text anew)) (sym e) ∙ first)
    later_refused place next answer Memory e same first = tt

    -- ---- none is refused

    pub none_refused : (place next : ℕ) (answer : Option Hand) → next ≡ place + 1 → Ok answer ≡ hand_for known.era.carried name whole there seal text anew
        → refused_from next (answers_for later name whole there seal text anew) ≡ None
        → refused_from place (answers_for knowns name whole there seal text anew) ≡ None
    none_refused place next answer e same none =
        ap (refused_from place) (more (Ok answer) same)
        ∙ (ap (λ (n : ℕ). refused_from n (answers_for later name whole there seal text anew)) (sym e) ∙ none)

    pub all_added : (answer : Option Hand) (hand : Hand) (old mid new : List Hand) → Ok answer ≡ hand_for known.era.carried name whole there seal text anew
        → hand ≡ hand_or_finish answer → mid ≡ old ++ hand ∷ [] → new ≡ mid ++ hands_in (answers_for later name whole there seal text anew)
        → new ≡ old ++ hands_in (answers_for knowns name whole there seal text anew)
    all_added answer hand old mid new same is_hand pushed rest =
        rest ∙ (ap (λ (l : List Hand). l ++ hands_in (answers_for later name whole there seal text anew)) pushed
        ∙ (append_assoc old (hand ∷ []) (hands_in (answers_for later name whole there seal text anew))
        ∙ (ap (λ (h : Hand). old ++ h ∷ hands_in (answers_for later name whole there seal text anew)) is_hand
        ∙ ap (λ (l : List Answer). old ++ hands_in l) (sym (more (Ok answer) same)))))

    pub all_whole : (answer : Option Hand) (here rest : Bool) → Ok answer ≡ hand_for known.era.carried name whole there seal text anew
        → here ≡ needs_nothing answer → rest ≡ are_whole (answers_for later name whole there seal text anew)
        → (here && rest) ≡ are_whole (answers_for knowns name whole there seal text anew)
    all_whole answer here rest same nothing are =
        ap (λ (b : Bool). b && rest) nothing
        ∙ (ap (λ (b : Bool). needs_nothing answer && b) are ∙ ap are_whole (sym (more (Ok answer) same)))

-- ---- by the seal in a text

module _ (knowns : List Belonging) (name whole : List ℕ) (there beside : Option (List ℕ)) (seal : Option Seal) (text : List ℕ) (anew : Bool)
    (is_in : IsSealIn beside seal) where
  pub judged : (hands : Judgement) (none_yet each : List Hand) (nothing : Bool) → none_yet ≡ []
      → refused_from 1 (answers_for knowns name whole there seal text anew) ≡ None
      → each ≡ none_yet ++ hands_in (answers_for knowns name whole there seal text anew) → nothing ≡ are_whole (answers_for knowns name whole there seal text anew)
      → hands.each ≡ each → hands.are_whole ≡ nothing → IsJudged knowns name whole there beside text anew hands
  judged hands none_yet each nothing empty none are is has_each has_whole = record {
    seal = seal;
    is_in = is_in;
    none = none;
    hands_are = has_each ∙ (are ∙ ap (λ (l : List Hand). l ++ hands_in (answers_for knowns name whole there seal text anew)) empty);
    whole_is = has_whole ∙ is;
  }

  pub unjudged : (f : HandsRefusal) → IsRefusedFrom 1 (answers_for knowns name whole there seal text anew) f
      → IsUnjudged knowns name whole there beside text anew f
  unjudged (Refused at refusal) first = record { seal = seal; is_in = is_in; first = first }
  unjudged Memory first = tt
