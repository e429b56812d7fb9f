-- The reading of bytes is the reading of their records, and fillers are seen through.
use Rattle.std.proofs.Common.{inl, inr, ◌≡◌, ℕ, zero, suc, ◌<◌, Bool, true, false, not, cond, ltb, ◌&&◌, List, [], ◌∷◌, ◌++◌, length, Result, Ok, Err, refl, sym, ap, subst, ◌∙◌, arith}
use Rattle.std.specs.List.{filter}
use Rattle.std.proofs.lemmas.Bool.Decides.{nat_tests}
use Rattle.ssim_records.specs.declared.set_fault.SetKind.{SetKind}
use Rattle.ssim_records.specs.declared.set_fault.SetKind.TheVariants as kinds
use Rattle.ssim_records.specs.declared.state.Phase.{Phase}
use Rattle.ssim_records.specs.declared.state.Phase.TheVariants.{Start, Open, Body, Done}
use Rattle.ssim_records.specs.declared.state.Reader.{Reader}
use Rattle.airline_base.specs.Bytes.{is_filler}
use Rattle.ssim_records.specs.Cut.{cut_at}
use Rattle.airline_base.specs.Reach.{reach}
use Rattle.airline_base.specs.Chains.{◌>>=◌}
use Rattle.ssim_records.specs.SetSteps.{type_of, taken, within, is_start, step, moved, cut_then, next}
use Rattle.ssim_records.specs.SetText.{IsCut}
use Rattle.airline_base.proofs.Chains.{with_step}
use Rattle.ssim_records.proofs.RecordLaws.{done, ok_is, carried, with_leg, with_segment, closed, carrier_step_takes, leg_step_takes, segment_step_takes, trailer_step_takes, typed_takes, body_takes_one}
use Rattle.ssim_records.proofs.Cuts.{cut_takes, cut_again}
use Rattle.airline_base.proofs.Reaches.{reach_front, then_reach, then_takes}

abbrev Bytes : Type 0
Bytes = List ℕ

-- one record after the other
abbrev pub run : ℕ → Reader → List (List ℕ) → Result Reader SetKind
run most s [] = Ok s
run most s (text ∷ texts) = step most s text >>= (λ t. run most t texts)

-- ---- bytes and records

pair_is : (x y : Reader × Bytes) → done x ≡ done y → x ≡ y
unfolding done
pair_is x y e = cc

cut_then_takes : (most : ℕ) (s : Reader) (r : Result (Bytes × Bytes) SetKind) (q : Reader × Bytes)
    → cut_then most s r ≡ Ok q → (p : Bytes × Bytes) × (r ≡ Ok p) × (step most s p.0 ≡ Ok q.0) × (p.1 ≡ q.1)
unfolding done
cut_then_takes most s (Err e) q h = absurd cc
cut_then_takes most s (Ok p) q h = let k = of (step most s p.0) h in (p, refl, k.0, k.1)
  where
    of : (r : Result Reader SetKind) → moved p.1 r ≡ Ok q → (r ≡ Ok q.0) × (p.1 ≡ q.1)
    of (Err e) h = absurd cc
    of (Ok t) h =
        let same : ◌≡◌ {A = Reader × Bytes} (t, p.1) q = pair_is (t, p.1) q h in
        (ap (λ (x : Reader × Bytes). done x.0) same, ap (λ (x : Reader × Bytes). x.1) same)

rest_is : (bytes text end more rest : List ℕ) → bytes ≡ text ++ (end ++ more) → more ≡ rest
    → bytes ≡ text ++ (end ++ rest)
rest_is bytes text end more rest h e = h ∙ ap (λ (x : List ℕ). text ++ (end ++ x)) e

run_more : (most : ℕ) (s u t : Reader) (text : List ℕ) (texts : List (List ℕ)) → step most s text ≡ Ok u
    → run most u texts ≡ Ok t → run most s (text ∷ texts) ≡ Ok t
run_more most s u t text texts h k = ap (λ (r : Result Reader SetKind). r >>= (λ x. run most x texts)) h ∙ k

pub cuts_of : (most n : ℕ) (s t : Reader) (bytes : List ℕ) → reach (next most) s bytes n ≡ Ok (t, [])
    → (texts : List (List ℕ)) × IsCut bytes texts × (run most s texts ≡ Ok t)
unfolding reach next done
cuts_of most zero s t bytes h =
    let same : ◌≡◌ {A = Reader × Bytes} (s, bytes) (t, []) = ok_is {A = Reader × Bytes} (s, bytes) (t, []) h in
    ([], ap (λ (x : Reader × Bytes). x.1) same, ap (λ (x : Reader × Bytes). done x.0) same)
cuts_of most (suc n) s t bytes h =
    let first = then_takes (next most) n (next most s bytes) (t, []) (sym (reach_front (next most) s bytes n) ∙ h) in
    let p = cut_then_takes most s (cut_at bytes) first.0 first.1 in
    let more = cuts_of most n first.0.0 t first.0.1 first.2 in
    let cut = cut_takes bytes p.0.0 p.0.1 p.1 in
    let rest : bytes ≡ p.0.0 ++ (cut.0 ++ first.0.1) = rest_is bytes p.0.0 cut.0 p.0.1 first.0.1 cut.4 p.3 in
    (p.0.0 ∷ more.0, (cut.0, first.0.1, cut.1, cut.2, cut.3, rest, more.1), run_more most s first.0.0 t p.0.0 more.0 p.2 more.2)

pub reaches_of : (most : ℕ) (texts : List (List ℕ)) (s t : Reader) (bytes : List ℕ) → IsCut bytes texts
    → run most s texts ≡ Ok t → reach (next most) s bytes (length texts) ≡ Ok (t, [])
unfolding reach next done
reaches_of most [] s t bytes cut h = ap (λ (x : List ℕ). done {A = Reader × Bytes} (s, x)) cut ∙ ap (λ (x : Reader). done {A = Reader × Bytes} (x, [])) (ok_is s t h)
reaches_of most (text ∷ texts) s t bytes cut h =
    with_step (step most s text) (λ u. run most u texts) t h (λ u e k.
    reach_front (next most) s bytes (length texts)
    ∙ ap (λ (r : Result (Bytes × Bytes) SetKind). then_reach (next most) (length texts) (cut_then most s r)) (cut_again bytes text texts cut)
    ∙ ap (λ (r : Result Reader SetKind). then_reach (next most) (length texts) (moved cut.1 r)) e
    ∙ reaches_of most texts u t cut.1 cut.6 k)

-- ---- fillers

-- the records that are no fillers
abbrev pub plain : ℕ → Reader → List (List ℕ) → Result Reader SetKind
plain most s [] = Ok s
plain most s (text ∷ texts) = within most s (taken s.phase s text) >>= (λ t. plain most t texts)

pub within_takes : (most : ℕ) (s : Reader) (r : Result Reader SetKind) (t : Reader) → within most s r ≡ Ok t
    → (r ≡ Ok t) × (s.count < most)
unfolding done
within_takes most s (Err e) t h = absurd cc
within_takes most s (Ok u) t h = of (ltb s.count most) refl h
  where
    of : (b : Bool) → ltb s.count most ≡ b → cond b (Ok u) (Err kinds.TooLarge) ≡ Ok t
        → (done u ≡ Ok t) × (s.count < most)
    of true x e = (e, grind (arith, nat_tests, x))
    of false x e = absurd cc

pub within_again : (most : ℕ) (s : Reader) (r : Result Reader SetKind) (t : Reader) → r ≡ Ok t → s.count < most
    → within most s r ≡ Ok t
unfolding done
within_again most s r t h lt =
    let b : ltb s.count most ≡ true = grind (arith, nat_tests, lt) in
    ap (within most s) h ∙ of (ltb s.count most) b
  where
    of : (b : Bool) → b ≡ true → cond b (done t) (Err kinds.TooLarge) ≡ done t
    of true x = refl
    of false x = absurd cc

started_is : (s t : Reader) → s ≡ t → is_start s.phase ≡ false → is_start t.phase ≡ false
started_is s t e h = subst (λ (x : Reader). is_start x.phase ≡ false) e h

started : (p : Phase) (s : Reader) (text : List ℕ) (t : Reader) → taken p s text ≡ Ok t → is_start p ≡ false
    → is_start s.phase ≡ false → is_start t.phase ≡ false
started Start s text t h was on = absurd cc
started Open s text t h was on = let k = carrier_step_takes s text t h in started_is (carried k.0 s) t k.3 refl
started (Body c) s text t h was on = elim (body_takes_one (type_of text) c s text t h) [
  | inl k ↦ let m = leg_step_takes c s text t (typed_takes 51 text (omega arith) k.0) k.1 in started_is (with_leg m.0 s) t m.4 on
  | inr (inl k) ↦ let m = segment_step_takes s text t k.1 in started_is (with_segment s) t m.2 on
  | inr (inr k) ↦ let m = trailer_step_takes c s text t (typed_takes 53 text (omega arith) k.0) k.1 in started_is (closed c s) t m.2 refl
]
started (Done c) s text t h was on = absurd cc

filler_of : (b : Bool) (most : ℕ) (s : Reader) (text : List ℕ) → is_filler text ≡ b → is_start s.phase ≡ false
    → step most s text ≡ cond b (Ok s) (within most s (taken s.phase s text))
unfolding step done
filler_of b most s text h on = rw (h, on) (of b)
  where
    of : (b : Bool)
        → cond (b && true) (done s) (within most s (taken s.phase s text))
        ≡ cond b (done s) (within most s (taken s.phase s text))
    of true = refl
    of false = refl

abbrev pub numbered_of : List (List ℕ) → List (List ℕ)
numbered_of texts = filter (λ text. not (is_filler text)) texts

sieve_more : (most : ℕ) (texts : List (List ℕ)) (s : Reader) (text : List ℕ) → is_start s.phase ≡ false
    → ((t : Reader) → is_start t.phase ≡ false → run most t texts ≡ plain most t (numbered_of texts))
    → (r : Result Reader SetKind) → within most s (taken s.phase s text) ≡ r
    → (r >>= (λ t. run most t texts)) ≡ (r >>= (λ t. plain most t (numbered_of texts)))
sieve_more most texts s text on rec (Err e) h = refl
sieve_more most texts s text on rec (Ok t) h = rec t (started s.phase s text t (within_takes most s (taken s.phase s text) t h).0 on on)

sieve_of : (most : ℕ) (texts : List (List ℕ)) (s : Reader) (text : List ℕ) → is_start s.phase ≡ false
    → ((t : Reader) → is_start t.phase ≡ false → run most t texts ≡ plain most t (numbered_of texts))
    → (b : Bool) → is_filler text ≡ b
    → run most s (text ∷ texts) ≡ plain most s (cond (not b) (text ∷ numbered_of texts) (numbered_of texts))
sieve_of most texts s text on rec true h = ap (λ (r : Result Reader SetKind). r >>= (λ t. run most t texts)) (filler_of true most s text h on) ∙ rec s on
sieve_of most texts s text on rec false h = ap (λ (r : Result Reader SetKind). r >>= (λ t. run most t texts)) (filler_of false most s text h on) ∙ sieve_more most texts s text on rec (within most s (taken s.phase s text)) refl

pub sieve : (most : ℕ) (texts : List (List ℕ)) (s : Reader) → is_start s.phase ≡ false
    → run most s texts ≡ plain most s (numbered_of texts)
sieve most [] s on = refl
sieve most (text ∷ texts) s on = sieve_of most texts s text on (λ t k. sieve most texts t k) (is_filler text) refl
