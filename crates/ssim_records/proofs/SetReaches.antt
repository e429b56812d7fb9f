-- Steps of the reading of a data set.
use Rattle.std.proofs.Common.{◌≡◌, ℕ, suc, ◌+◌, ◌-◌, ◌≤◌, inl, inr, List, [], ◌∷◌, Some, Result, Ok, Err, refl, sym, ap, subst, ◌∙◌, arith}
use Rattle.std.specs.Prelude.{◌≢◌}
use Rattle.std.specs.Result.{IfOk, IfErr, MatchResult}
use Rattle.std.proofs.lemmas.Bool.{cases_order}
use Rattle.ssim_records.specs.declared.carrier.Carrier.{Carrier}
use Rattle.ssim_records.specs.declared.set.DataSet.{DataSet}
use Rattle.ssim_records.specs.declared.set_fault.SetFault.{SetFault}
use Rattle.ssim_records.specs.declared.set_fault.SetKind.{SetKind}
use Rattle.ssim_records.specs.declared.set_fault.SetKind.TheVariants as kinds
use Rattle.ssim_records.specs.declared.state.Phase.{Phase}
use Rattle.ssim_records.specs.declared.state.Phase.TheVariants.{Done}
use Rattle.ssim_records.specs.declared.state.Reader.{Reader}
use Rattle.ssim_records.specs.Cut.{cut_at}
use Rattle.airline_base.specs.Reach.{reach, fault_of, fault_at}
use Rattle.ssim_records.specs.SetFaults.{OneFirstFault, at_end, missing, IsFirstFault, WantsRoom, IsRefusal, ReadsAs, set_of}
use Rattle.ssim_records.specs.SetSteps.{next, step, fresh}
use Rattle.airline_base.proofs.Reaches.{reach_one, no_later, ok_is}
use Rattle.ssim_records.proofs.MemoryLaws.{next_none, missing_none}

-- nothing is no record
no_record : (most : ℕ) (s : Reader) → next most s [] ≡ Err kinds.Short
unfolding next cut_at
no_record most s = refl

pub reach_none : (most : ℕ) (bytes : List ℕ) → reach (next most) fresh bytes (1 - 1) ≡ Ok (fresh, bytes)
unfolding reach
reach_none most bytes = refl

pub step_more : (most : ℕ) (bytes : List ℕ) (nth : ℕ) (s t : Reader) (rest text after : List ℕ) → 1 ≤ nth
    → reach (next most) fresh bytes (nth - 1) ≡ Ok (s, rest) → cut_at rest ≡ Ok (text, after) → step most s text ≡ Ok t
    → reach (next most) fresh bytes (nth + 1 - 1) ≡ Ok (t, after)
unfolding next
step_more most bytes nth s t rest text after low h cut taken =
    let k : nth + 1 - 1 ≡ suc (nth - 1) = omega arith in
    ap (reach (next most) fresh bytes) k ∙ reach_one (next most) fresh bytes (nth - 1) (s, rest) h ∙ rw (cut, taken) refl

fails_of : (r : Result (Reader × List ℕ) SetKind) (kind : SetKind) → fault_of r ≡ Some kind
    → (e : SetKind) × (r ≡ Err e)
fails_of (Ok p) kind h = absurd cc
fails_of (Err e) kind h = (e, refl)

fails : (most : ℕ) (s : Reader) (rest : List ℕ) (kind : SetKind) → fault_at (next most) at_end s rest ≡ Some kind
    → (e : SetKind) × (next most s rest ≡ Err e)
fails most s [] kind h = (kinds.Short, no_record most s)
fails most s (c ∷ rest) kind h = fails_of (next most s (c ∷ rest)) kind h

ended : (s t : Reader) (c : Carrier) (rest : List ℕ) (most : ℕ) (kind : SetKind)
    → ◌≡◌ {A = Reader × List ℕ} (s, rest) (t, []) → t.phase ≡ Done c → fault_at (next most) at_end s rest ≡ Some kind
    → ⊥
ended s t c rest most kind same is h =
    let a : s ≡ t = ap (λ (p : Reader × List ℕ). p.0) same in
    let b : rest ≡ [] = ap (λ (p : Reader × List ℕ). p.1) same in
    let d : fault_at (next most) at_end t [] ≡ Some kind = subst (λ (x : Reader). fault_at (next most) at_end x [] ≡ Some kind) a (subst (λ (x : List ℕ). fault_at (next most) at_end s x ≡ Some kind) b h) in
    let e : missing (Done c) ≡ Some kind = ap missing (sym is) ∙ d in
    absurd cc

-- what has a first fault is no data set
pub refused : (most : ℕ) (bytes : List ℕ) (nth : ℕ) (kind : SetKind) (set : DataSet) → IsFirstFault most bytes nth kind
    → ReadsAs most bytes set → ⊥
refused most bytes nth kind set f r =
    let bad = fails most f.0 f.1 kind f.4 in
    elim (cases_order (nth - 1) r.0) [
      | inl same ↦ ended f.0 r.1 r.2 f.1 most kind (ok_is (f.0, f.1) (r.1, []) (sym f.3 ∙ ap (reach (next most) fresh bytes) same ∙ r.3)) r.4 f.4
      | inr (inl lt) ↦ no_later (next most) fresh bytes (nth - 1) r.0 (f.0, f.1) (r.1, []) bad.0 f.3 bad.1 lt r.3
      | inr (inr gt) ↦ no_later (next most) fresh bytes r.0 (nth - 1) (r.1, []) (f.0, f.1) kinds.Short r.3 (no_record most r.1) gt f.3
    ]

same_fault : (most : ℕ) (s t : Reader) (rest more : List ℕ) (a b : SetKind)
    → ◌≡◌ {A = Reader × List ℕ} (s, rest) (t, more) → fault_at (next most) at_end s rest ≡ Some a
    → fault_at (next most) at_end t more ≡ Some b → a ≡ b
same_fault most s t rest more a b same h k =
    kind_of (sym h ∙ ap (λ (p : Reader × List ℕ). fault_at (next most) at_end p.0 p.1) same ∙ k)
  where
    kind_of : Some a ≡ Some b → a ≡ b
    kind_of e = cc

-- one first fault at most
pub one_first_fault : OneFirstFault
one_first_fault most bytes n m a b f g =
    let bad = fails most f.0 f.1 a f.4 in
    let other = fails most g.0 g.1 b g.4 in
    elim (cases_order (n - 1) (m - 1)) [
      | inl same ↦ (omega (arith, f.2, g.2, same), same_fault most f.0 g.0 f.1 g.1 a b (ok_is (f.0, f.1) (g.0, g.1) (sym f.3 ∙ ap (reach (next most) fresh bytes) same ∙ g.3)) f.4 g.4)
      | inr (inl lt) ↦ absurd (no_later (next most) fresh bytes (n - 1) (m - 1) (f.0, f.1) (g.0, g.1) bad.0 f.3 bad.1 lt g.3)
      | inr (inr gt) ↦ absurd (no_later (next most) fresh bytes (m - 1) (n - 1) (g.0, g.1) (f.0, f.1) other.0 g.3 other.1 gt f.3)
    ]

carrier_is : (c d : Carrier) → Done c ≡ Done d → c ≡ d
carrier_is c d h = ap of h
  where
    of : Phase → Carrier
    of (Done x) = x
    of _ = c

same_set : (s t : Reader) (c d : Carrier) → s ≡ t → s.phase ≡ Done c → t.phase ≡ Done d → set_of c s ≡ set_of d t
same_set s t c d same p q =
    let e : c ≡ d = carrier_is c d (sym p ∙ ap (λ (x : Reader). x.phase) same ∙ q) in
    ap (λ (x : Carrier). set_of x s) e ∙ ap (set_of d) same

-- one data set at most
pub one_set : (most : ℕ) (bytes : List ℕ) (a b : DataSet) → ReadsAs most bytes a → ReadsAs most bytes b → a ≡ b
one_set most bytes a b p q =
    elim (cases_order p.0 q.0) [
      | inl same ↦ let e = ok_is (p.1, []) (q.1, []) (sym p.3 ∙ ap (reach (next most) fresh bytes) same ∙ q.3) in sym p.5 ∙ same_set p.1 q.1 p.2 q.2 (ap (λ (x : Reader × List ℕ). x.0) e) p.4 q.4 ∙ q.5
      | inr (inl lt) ↦ absurd (no_later (next most) fresh bytes p.0 q.0 (p.1, []) (q.1, []) kinds.Short p.3 (no_record most p.1) lt q.3)
      | inr (inr gt) ↦ absurd (no_later (next most) fresh bytes q.0 p.0 (q.1, []) (p.1, []) kinds.Short q.3 (no_record most q.1) gt p.3)
    ]

-- what is read as a data set is the only one, and is refused for memory alone
pub is_only : (most : ℕ) (bytes : List ℕ) (r : Result DataSet SetFault) (set : DataSet) → IfOk r (ReadsAs most bytes)
    → IfErr r (λ f. IsRefusal most bytes f.nth f.kind) → ReadsAs most bytes set
    → MatchResult r (λ x. x ≡ set) (λ f. f.kind ≡ kinds.Memory)
is_only most bytes (Ok x) set ok err h = one_set most bytes x set ok h
is_only most bytes (Err f) set ok (inl first) h = absurd (refused most bytes f.nth f.kind set first h)
is_only most bytes (Err f) set ok (inr wants) h = wants.0

-- ---- refusals

-- want of memory is no fault of a record
never : (most : ℕ) (s : Reader) (rest : List ℕ) → fault_at (next most) at_end s rest ≡ Some kinds.Memory → ⊥
never most s [] h = missing_none s.phase h
never most s (c ∷ rest) h = next_none most s (c ∷ rest) (of (next most s (c ∷ rest)) h)
  where
    of : (r : Result (Reader × List ℕ) SetKind) → fault_of r ≡ Some kinds.Memory → r ≡ Err kinds.Memory
    of (Ok p) e = absurd cc
    of (Err kind) e = cc

pub is_fault : (most : ℕ) (bytes : List ℕ) (r : Result DataSet SetFault)
    → IfErr r (λ f. IsRefusal most bytes f.nth f.kind)
    → IfErr r (λ f. f.kind ≢ kinds.Memory → IsFirstFault most bytes f.nth f.kind)
is_fault most bytes (Ok x) h = tt
is_fault most bytes (Err f) (inl first) = λ other. first
is_fault most bytes (Err f) (inr wants) = λ other. absurd (other wants.0)

pub is_want : (most : ℕ) (bytes : List ℕ) (r : Result DataSet SetFault)
    → IfErr r (λ f. IsRefusal most bytes f.nth f.kind)
    → IfErr r (λ f. f.kind ≡ kinds.Memory → WantsRoom most bytes f.nth)
is_want most bytes (Ok x) h = tt
is_want most bytes (Err f) (inl first) = λ memory. absurd (never most first.0 first.1 (first.4 ∙ ap (λ (k : SetKind). Some k) memory))
is_want most bytes (Err f) (inr wants) = λ memory. wants.1
