-- Changes that have grown: what the manager has made of them, one line after the other.
use Rattle.std.proofs.Common.{◌≡◌, ◌≢◌, ℕ, zero, suc, ◌+◌, ◌-◌, ◌<◌, ◌≤◌, Bool, List, [], ◌∷◌, ◌++◌, length, map, take, drop, get_or, refl, sym, ap, ◌∙◌, subst, arith, Some, None}
use Rattle.std.specs.Prelude.{IsTrue, slice_get}
use Rattle.std.specs.Option.{option_map}
use Rattle.std.proofs.Math.Seq.{drop-cons}
use Rattle.std.proofs.lemmas.List.{append-nil, length-append, take-append-drop, take_all}
use Rattle.std.proofs.lemmas.Option.{slice_get-map}
use Rattle.seat_journal.specs.declared.entry.Control.{Control}
use Rattle.seat_journal.specs.Controls.{set_by}
use Rattle.seat_scripts.proofs.Common.{Entry, Work, done_by}
use Rattle.seat_scripts.proofs.Comparing.{at_seam, done_append, done_other, done_own, one_more}
use Rattle.seat_scripts.specs.Resuming.{AreMade, IsFirstOther}

-- ---- one line

pub made_there : (changes : List Control) (place : ℕ) (change : Control) (work : Work) (told : Bool)
    → slice_get changes place ≡ Some change
    → (IsTrue told → set_by change ≡ work) × (set_by change ≡ work → IsTrue told)
    → (IsTrue told → slice_get (map set_by changes) place ≡ Some work)
    × (slice_get (map set_by changes) place ≡ Some work → IsTrue told)
made_there changes place change work told at same = (
  λ (is : IsTrue told). here ∙ ap Some (same.0 is),
  λ (e : slice_get (map set_by changes) place ≡ Some work). same.1 (one (sym here ∙ e)),
) where
  here : slice_get (map set_by changes) place ≡ Some (set_by change)
  here = slice_get-map set_by changes place ∙ ap (option_map set_by) at

  one : Some (set_by change) ≡ Some work → set_by change ≡ work
  one e = cc

pub made_nowhere : (changes : List Control) (place : ℕ) (work : Work) → slice_get changes place ≡ None
    → slice_get (map set_by changes) place ≡ Some work → ⊥
made_nowhere changes place work none at = no (sym (slice_get-map set_by changes place ∙ ap (option_map set_by) none) ∙ at) where
  no : None ≡ Some work → ⊥
  no e = cc

-- ---- the lines so far

-- so many lines of the manager stand in the front, and they are the first changes
pub record MadeSoFar (changes : List Control) (calls : ℕ) (front : List Entry) : Type 0 where
  pub count : calls ≡ length (done_by 0 front)
  pub made : done_by 0 front ≡ take calls (map set_by changes)
  pub few : calls ≤ length front

take_at : (xs : List Work) (i : ℕ) (x : Work) → slice_get xs i ≡ Some x → take (suc i) xs ≡ take i xs ++ x ∷ []
take_at [] i x at = absurd cc
take_at (y ∷ xs) zero x at = ap (λ (z : Work). z ∷ []) (one at) where
  one : Some y ≡ Some x → y ≡ x
  one e = cc
take_at (y ∷ xs) (suc i) x at = ap (λ (l : List Work). y ∷ l) (take_at xs i x at)

take_front : (xs ys : List Work) → take (length xs) (xs ++ ys) ≡ xs
take_front [] ys = refl
take_front (x ∷ xs) ys = ap (λ (l : List Work). x ∷ l) (take_front xs ys)

module _ (changes : List Control) (journal : List Entry) (calls i : ℕ) (e : Entry) (lt : i < length journal) (is : e ≡ get_or journal i e)
    (so_far : MadeSoFar changes calls (take i journal)) where
  longer : length (take i journal ++ e ∷ []) ≡ length (take i journal) + 1
  longer = length-append (take i journal) (e ∷ [])

  pub made_other : e.session ≢ 0 → MadeSoFar changes calls (take (i + 1) journal)
  made_other not =
      let same : done_by 0 (take i journal ++ e ∷ []) ≡ done_by 0 (take i journal) =
      done_append 0 (take i journal) (e ∷ []) ∙ (ap (λ (l : List Work). done_by 0 (take i journal) ++ l) (done_other 0 e not) ∙ append-nil (done_by 0 (take i journal))) in
      subst (MadeSoFar changes calls) (sym (one_more journal i e lt is)) (record {
        count = so_far.count ∙ ap length (sym same);
        made = same ∙ so_far.made;
        few = omega (arith, so_far.few, longer);
      })

  pub made_own : e.session ≡ 0 → slice_get (map set_by changes) calls ≡ Some e.work
      → MadeSoFar changes (calls + 1) (take (i + 1) journal)
  made_own own at =
      let more : done_by 0 (take i journal ++ e ∷ []) ≡ done_by 0 (take i journal) ++ e.work ∷ [] =
      done_append 0 (take i journal) (e ∷ []) ∙ ap (λ (l : List Work). done_by 0 (take i journal) ++ l) (done_own 0 e own) in
      let counted : length (done_by 0 (take i journal ++ e ∷ [])) ≡ length (done_by 0 (take i journal)) + 1 =
      ap length more ∙ length-append (done_by 0 (take i journal)) (e.work ∷ []) in
      let up : suc calls ≡ calls + 1 = omega arith in
      subst (MadeSoFar changes (calls + 1)) (sym (one_more journal i e lt is)) (record {
        count = omega (arith, so_far.count, counted);
        made = more ∙ (ap (λ (l : List Work). l ++ e.work ∷ []) so_far.made ∙ (sym (take_at (map set_by changes) calls e.work at)
            ∙ ap (λ (k : ℕ). take k (map set_by changes)) up));
        few = omega (arith, so_far.few, longer);
      })

  pub other_here : e.session ≡ 0 → (slice_get (map set_by changes) calls ≡ Some e.work → ⊥)
      → IsFirstOther changes journal (calls + 1)
  other_here own not =
      let rest : List Entry = drop (suc i) journal in
      let parts : journal ≡ take i journal ++ e ∷ rest =
      sym (take-append-drop i journal) ∙ ap (λ (l : List Entry). take i journal ++ l) (drop-cons journal i e lt ∙ ap (λ (x : Entry). x ∷ rest) (sym is)) in
      let own_part : done_by 0 (e ∷ rest) ≡ e.work ∷ done_by 0 rest =
      done_append 0 (e ∷ []) rest ∙ ap (λ (l : List Work). l ++ done_by 0 rest) (done_own 0 e own) in
      let done : done_by 0 journal ≡ done_by 0 (take i journal) ++ e.work ∷ done_by 0 rest =
      ap (done_by 0) parts ∙ (done_append 0 (take i journal) (e ∷ rest) ∙ ap (λ (l : List Work). done_by 0 (take i journal) ++ l) own_part) in
      let long : length (done_by 0 journal) ≡ length (done_by 0 (take i journal)) + length (e.work ∷ done_by 0 rest) =
      ap length done ∙ length-append (done_by 0 (take i journal)) (e.work ∷ done_by 0 rest) in
      let here : calls ≡ calls + 1 - 1 = omega arith in
      let front : take calls (done_by 0 journal) ≡ take calls (map set_by changes) =
      ap (take calls) done ∙ (ap (λ (k : ℕ). take k (done_by 0 (take i journal) ++ e.work ∷ done_by 0 rest)) so_far.count
      ∙ (take_front (done_by 0 (take i journal)) (e.work ∷ done_by 0 rest) ∙ so_far.made)) in
      let seam : slice_get (done_by 0 journal) calls ≡ Some e.work =
      ap (λ (l : List Work). slice_get l calls) done ∙ (ap (slice_get (done_by 0 (take i journal) ++ e.work ∷ done_by 0 rest)) so_far.count ∙ at_seam (done_by 0 (take i journal)) (done_by 0 rest) e.work) in
      record {
        from_one = omega arith;
        line = omega (arith, long, so_far.count);
        before = subst (λ (k : ℕ). take k (done_by 0 journal) ≡ take k (map set_by changes)) here front;
        there = subst (λ (k : ℕ). slice_get (done_by 0 journal) k ≢ slice_get (map set_by changes) k) here
            (λ (same : slice_get (done_by 0 journal) calls ≡ slice_get (map set_by changes) calls). not (sym same ∙ seam));
      }

-- all lines of the manager are the first changes
pub made_all : (changes : List Control) (journal : List Entry) (calls i : ℕ) → length journal ≤ i
    → MadeSoFar changes calls (take i journal) → AreMade changes journal
made_all changes journal calls i whole so_far =
    let all : MadeSoFar changes calls journal = subst (MadeSoFar changes calls) (take_all i journal whole) so_far in
    record {
      rest = drop calls (map set_by changes);
      is = sym (take-append-drop calls (map set_by changes)) ∙ ap (λ (l : List Work). l ++ drop calls (map set_by changes)) (sym all.made);
    }
