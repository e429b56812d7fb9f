-- Marks and seals, one behind the other.
use Rattle.std.proofs.Common.{◌≡◌, ◌+◌, ℕ, Bool, true, List, [], ◌∷◌, ◌++◌, append_assoc, append-nil, length, map, Option, Some, None, arith, refl, sym, ap, subst, ◌∙◌}
use Rattle.std.specs.List.{AllByRecursion, list_all}
use Rattle.std.specs.Prelude.{Result, Ok, Err}
use Rattle.airline_base.proofs.Tests.{both_true}
use Rattle.journal_commands.specs.Marks.{bytes_in, mark_for, marks_for, wanted}
use Rattle.seat_handing.specs.Deciding.{hand_for}
use Rattle.seat_handing.specs.Judging.{IsJudged, answers_for, hands_in, refused_from}
use Rattle.seat_handing.specs.Marking.{SaysCarried, mark_text}
use Rattle.seat_handing.specs.Several.{SayCarried}
use Rattle.seat_handing.specs.declared.deciding.Hand.{Hand}
use Rattle.seat_handing.specs.declared.deciding.HandRefusal.{HandRefusal}
use Rattle.seat_handing.specs.declared.judging.Judgement.{Judgement}
use Rattle.seat_handing.specs.declared.several.OlderMark.{OlderMark}
use Rattle.seat_seal.specs.declared.beside.Beside.{Beside}
use Rattle.seat_seal.specs.declared.imprint.Imprint.{Imprint}
use Rattle.seat_seal.specs.declared.seal.Sealed.{Sealed as Belonging}
use Rattle.seat_seal.specs.Rules.{is_sealed}

-- ---- seals that keep the rules

split : (all later : List Belonging) (known : Belonging) → all ≡ known ∷ later → list_all is_sealed all ≡ true
    → (is_sealed known ≡ true) × (list_all is_sealed later ≡ true)
split all later known is keeps =
    both_true (is_sealed known) (list_all is_sealed later) (sym (ap (list_all is_sealed) is) ∙ keeps)

pub first_keeps : (all later : List Belonging) (known : Belonging) → all ≡ known ∷ later → list_all is_sealed all ≡ true → is_sealed known ≡ true
first_keeps all later known is keeps = (split all later known is keeps).0

pub later_keep : (all later : List Belonging) (known : Belonging) → all ≡ known ∷ later → list_all is_sealed all ≡ true
    → list_all is_sealed later ≡ true
later_keep all later known is keeps = (split all later known is keeps).1

-- ---- what the marks say

all_behind : (P : OlderMark → Type 0) (ms : List OlderMark) (m : OlderMark) → AllByRecursion P ms → P m → AllByRecursion P (ms ++ m ∷ [])
all_behind P [] m all here = (here, tt)
all_behind P (x ∷ ms) m all here = (all.0, all_behind P ms m all.1 here)

pub say_none : (newer : Imprint) (marks : List OlderMark) → marks ≡ [] → SayCarried newer marks
say_none newer marks none = subst (SayCarried newer) (sym none) (record { each = tt })

pub say_more : (newer : Imprint) (old new : List OlderMark) (m : OlderMark) → SayCarried newer old → SaysCarried newer m.mark → new ≡ old ++ m ∷ []
    → SayCarried newer new
say_more newer old new m say says is =
    subst (SayCarried newer) (sym is) (record { each = all_behind (λ x. SaysCarried newer x.mark) old m say.each says })

pub say_slice : (newer : Imprint) (slice marks : List OlderMark) → slice ≡ marks → SayCarried newer marks → SayCarried newer slice
say_slice newer slice marks is say = subst (SayCarried newer) (sym is) say

-- ---- which marks they are

abbrev three : Hand → List ℕ → List ℕ → OlderMark
three h b t = record { hand = h; before = b; mark = t }

pub one_marked : (newer : Imprint) (hand : Hand) (known : Belonging) (had before : List ℕ) (old new : List OlderMark) (m : OlderMark)
    → m.hand ≡ hand → m.before ≡ before → before ≡ had → m.mark ≡ mark_text known newer → new ≡ old ++ m ∷ []
    → new ≡ old ++ mark_for newer hand known had ∷ []
one_marked newer hand known had before old new m hands befores is marks pushed =
    let same : m ≡ mark_for newer hand known had =
    ap (λ (h : Hand). three h m.before m.mark) hands
    ∙ (ap (λ (b : List ℕ). three hand b m.mark) (befores ∙ is) ∙ ap (λ (t : List ℕ). three hand had t) marks) in
    pushed ∙ ap (λ (x : OlderMark). old ++ x ∷ []) same

pub none_marked : (newer : Imprint) (hands : List Hand) (knowns : List Belonging) (hads : List (Option (List ℕ))) (old : List OlderMark) → hands ≡ []
    → old ≡ old ++ marks_for newer hands knowns hads
none_marked newer hands knowns hads old none =
    sym (append-nil old) ∙ ap (λ (hs : List Hand). old ++ marks_for newer hs knowns hads) (sym none)

pub more_marked : (newer : Imprint) (hands later : List Hand) (hand : Hand) (knowns rest : List Belonging) (known : Belonging)
    (hads others : List (Option (List ℕ))) (had : Option (List ℕ)) (bytes : List ℕ) (old mid new : List OlderMark)
    → hands ≡ hand ∷ later → knowns ≡ known ∷ rest → hads ≡ had ∷ others → bytes ≡ bytes_in had → mid ≡ old ++ mark_for newer hand known bytes ∷ []
    → new ≡ mid ++ marks_for newer later rest others → new ≡ old ++ marks_for newer hands knowns hads
more_marked newer hands later hand knowns rest known hads others had bytes old mid new are_hands are_knowns are_hads is pushed more =
    more
    ∙ (ap (λ (l : List OlderMark). l ++ marks_for newer later rest others) pushed
    ∙ (append_assoc old (mark_for newer hand known bytes ∷ []) (marks_for newer later rest others)
    ∙ (ap (λ (b : List ℕ). old ++ mark_for newer hand known b ∷ marks_for newer later rest others) is
    ∙ (ap (λ (hs : List Hand). old ++ marks_for newer hs (known ∷ rest) (had ∷ others)) (sym are_hands)
    ∙ (ap (λ (ks : List Belonging). old ++ marks_for newer hands ks (had ∷ others)) (sym are_knowns)
    ∙ ap (λ (ts : List (Option (List ℕ))). old ++ marks_for newer hands knowns ts) (sym are_hads))))))

pub all_marked : (newer : Imprint) (hands : List Hand) (knowns rest : List Belonging) (hads : List (Option (List ℕ))) (none marks : List OlderMark)
    → none ≡ [] → rest ≡ knowns → marks ≡ none ++ marks_for newer hands rest hads → marks ≡ marks_for newer hands knowns hads
all_marked newer hands knowns rest hads none marks empty are is =
    is
    ∙ (ap (λ (l : List OlderMark). l ++ marks_for newer hands rest hads) empty
    ∙ ap (λ (ks : List Belonging). marks_for newer hands ks hads) are)

-- ---- as many hands as journals

each_judged : (answers : List (Result (Option Hand) HandRefusal)) (place : ℕ) → refused_from place answers ≡ None
    → length (hands_in answers) ≡ length answers
each_judged [] place none = refl
each_judged (Err refusal ∷ answers) place none = absurd (cc)
each_judged (Ok hand ∷ answers) place none =
    let more : length (hands_in answers) ≡ length answers = each_judged answers (place + 1) none in
    omega (arith, more)

as_many_answers : (f : Belonging → Result (Option Hand) HandRefusal) (knowns : List Belonging) → length (map f knowns) ≡ length knowns
as_many_answers f [] = refl
as_many_answers f (k ∷ knowns) = let more : length (map f knowns) ≡ length knowns = as_many_answers f knowns in omega (arith, more)

pub as_many_judged : (knowns : List Belonging) (name whole : List ℕ) (there beside : Option (List ℕ)) (text : List ℕ) (anew : Bool) (hands : Judgement)
    → IsJudged knowns name whole there beside text anew hands → length hands.each ≡ length knowns
as_many_judged knowns name whole there beside text anew hands judged =
    ap length judged.hands_are
    ∙ (each_judged (answers_for knowns name whole there judged.seal text anew) 1 judged.none
    ∙ as_many_answers (λ (k : Belonging). hand_for k.era.carried name whole there judged.seal text anew) knowns)

-- ---- what stands beside each

pub none_wanted : (texts : List (Option (List ℕ))) (old : List Beside) → texts ≡ [] → map wanted old ≡ map wanted old ++ map Some texts
none_wanted texts old none =
    sym (append-nil (map wanted old)) ∙ ap (λ (ts : List (Option (List ℕ))). map wanted old ++ map Some ts) (sym none)

behind : (xs : List Beside) (b : Beside) → map wanted (xs ++ b ∷ []) ≡ map wanted xs ++ wanted b ∷ []
behind [] b = refl
behind (x ∷ xs) b = ap (λ (l : List (Option (Option (List ℕ)))). wanted x ∷ l) (behind xs b)

pub more_wanted : (texts later : List (Option (List ℕ))) (first : Option (List ℕ)) (old mid new : List Beside) (b : Beside) → texts ≡ first ∷ later
    → wanted b ≡ Some first → mid ≡ old ++ b ∷ [] → map wanted new ≡ map wanted mid ++ map Some later
    → map wanted new ≡ map wanted old ++ map Some texts
more_wanted texts later first old mid new b are is pushed more =
    more
    ∙ (ap (λ (l : List Beside). map wanted l ++ map Some later) pushed
    ∙ (ap (λ (l : List (Option (Option (List ℕ)))). l ++ map Some later) (behind old b)
    ∙ (append_assoc (map wanted old) (wanted b ∷ []) (map Some later)
    ∙ (ap (λ (w : Option (Option (List ℕ))). map wanted old ++ w ∷ map Some later) is
    ∙ ap (λ (ts : List (Option (List ℕ))). map wanted old ++ map Some ts) (sym are)))))
