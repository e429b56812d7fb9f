-- What is left after a record.
use Rattle.std.proofs.Common.{inl, inr, subst, ◌≡◌, ℕ, ◌<◌, ◌≤◌, Bool, true, false, cond, ltb, eqb, List, [], ◌∷◌, ◌++◌, length, take, drop, Option, Some, None, Result, Ok, Err, refl, sym, ap, ◌∙◌, arith, length-drop}
use Rattle.std.specs.List.{list_all}
use Rattle.std.proofs.lemmas.Bool.{ltb-false, le-ltb, eqb-true}
use Rattle.std.proofs.lemmas.Bool.Decides.{nat_tests}
use Rattle.std.proofs.lemmas.List.{take_at, drop_at, take-append-drop, length-append, length-take-le}
use Rattle.ssim_records.specs.SetText.{IsCut, IsEnd}
use Rattle.ssim_records.specs.declared.set_fault.SetKind.{SetKind}
use Rattle.ssim_records.specs.declared.set_fault.SetKind.TheVariants as kinds
use Rattle.airline_base.specs.Bytes.{is_printable}
use Rattle.airline_base.proofs.Tests.{both_true}
use Rattle.ssim_records.specs.Cut.{newline_at, end_at, ended, cut_at}

unless : {A : Type 0} (b : Bool) (kind : SetKind) (r : Result A SetKind) (y : A) → cond b (Err kind) r ≡ Ok y
    → (b ≡ false) × (r ≡ Ok y)
unless true kind r y e = absurd cc
unless false kind r y e = (refl, e)

where_true : {A : Type 0} (b : Bool) (kind : SetKind) (r : Result A SetKind) (y : A) → cond b r (Err kind) ≡ Ok y
    → (b ≡ true) × (r ≡ Ok y)
where_true true kind r y e = (refl, e)
where_true false kind r y e = absurd cc

abbrev cut_of : List ℕ × List ℕ → Result (List ℕ × List ℕ) SetKind
cut_of p = Ok p

ok_is : (x y : List ℕ × List ℕ) → cut_of x ≡ cut_of y → x ≡ y
ok_is x y e = cc

some_is : (x y : List ℕ) → Some x ≡ Some y → x ≡ y
some_is x y e = cc

newline_rest_of : (b : Bool) (c : ℕ) (bytes rest : List ℕ) → cond b (Some bytes) None ≡ Some rest
    → length rest ≤ length (c ∷ bytes)
newline_rest_of true c bytes rest e = omega (arith, ap length (some_is bytes rest e))
newline_rest_of false c bytes rest e = absurd cc

newline_rest : (bytes rest : List ℕ) → newline_at bytes ≡ Some rest → length rest ≤ length bytes
newline_rest [] rest e = absurd cc
newline_rest (c ∷ bytes) rest e = newline_rest_of (eqb c 10) c bytes rest e

end_rest_of : (b d : Bool) (c : ℕ) (bytes rest : List ℕ)
    → cond b (Some bytes) (cond d (newline_at bytes) (Some (c ∷ bytes))) ≡ Some rest → length rest ≤ length (c ∷ bytes)
end_rest_of true d c bytes rest e = omega (arith, ap length (some_is bytes rest e))
end_rest_of false true c bytes rest e = omega (arith, newline_rest bytes rest e)
end_rest_of false false c bytes rest e = omega (arith, ap length (some_is (c ∷ bytes) rest e))

end_rest : (bytes rest : List ℕ) → end_at bytes ≡ Some rest → length rest ≤ length bytes
end_rest [] rest e = omega (arith, ap length (some_is [] rest e))
end_rest (c ∷ bytes) rest e = end_rest_of (eqb c 10) (eqb c 13) c bytes rest e

ended_rest : (text : List ℕ) (o : Option (List ℕ)) (p : List ℕ × List ℕ) → ended text o ≡ Ok p → o ≡ Some p.1
ended_rest text None p e = absurd cc
ended_rest text (Some rest) p e = ap (λ (x : List ℕ × List ℕ). Some x.1) (ok_is (text, rest) p e)

-- a record takes 200 bytes or more
pub cut_shorter : (bytes text after : List ℕ) → cut_at bytes ≡ Ok (text, after) → length after < length bytes
unfolding cut_at
cut_shorter bytes text after e =
    let a = unless (ltb (length bytes) 200) kinds.Short _ (text, after) e in
    let b = where_true (list_all is_printable (take 200 bytes)) kinds.BadByte _ (text, after) a.1 in
    let c = ended_rest (take 200 bytes) (end_at (drop 200 bytes)) (text, after) b.1 in
    omega (arith, end_rest (drop 200 bytes) after c, length-drop 200 bytes, ltb-false _ _ a.0)

-- ---- a cut of the grammar is the one that is read

abbrev Starts : List ℕ → Type 0
Starts [] = Unit {0}
Starts (c ∷ rest) = is_printable c ≡ true

front_prints : (bytes text more : List ℕ) → length text ≡ 200 → list_all is_printable text ≡ true → bytes ≡ text ++ more
    → Starts bytes
front_prints bytes [] more len all e = absurd (omega arith)
front_prints bytes (c ∷ text) more len all e = rw e (both_true (is_printable c) (list_all is_printable text) all).0

cut_starts : (bytes : List ℕ) (texts : List (List ℕ)) → IsCut bytes texts → Starts bytes
cut_starts bytes [] h = rw h tt
cut_starts bytes (text ∷ texts) h = front_prints bytes text (h.0 ++ h.1) h.2 h.3 h.5

no_end : (c : ℕ) → is_printable c ≡ true → (eqb c 10 ≡ false) × (eqb c 13 ≡ false)
no_end c h = (grind (arith, nat_tests, h), grind (arith, nat_tests, h))

end_none : (rest : List ℕ) → Starts rest → end_at rest ≡ Some rest
end_none [] h = refl
end_none (c ∷ rest) h = let p = no_end c h in rw (p.0, p.1) refl

end_again : (end rest : List ℕ) → IsEnd end → Starts rest → end_at (end ++ rest) ≡ Some rest
end_again end rest (inl none) h = rw none (end_none rest h)
end_again end rest (inr (inl lf)) h = rw lf refl
end_again end rest (inr (inr crlf)) h = rw crlf refl

pub cut_again : (bytes text : List ℕ) (texts : List (List ℕ)) (h : IsCut bytes (text ∷ texts))
    → cut_at bytes ≡ Ok (text, h.1)
unfolding cut_at
cut_again bytes text texts h =
    let long : ltb (length (text ++ (h.0 ++ h.1))) 200 ≡ false = le-ltb _ _ (omega (arith, length-append text (h.0 ++ h.1), h.2)) in
    let end = end_again h.0 h.1 h.4 (cut_starts h.1 texts h.6) in
    ap cut_at h.5 ∙ rw (long, take_at text (h.0 ++ h.1) 200 h.2, drop_at text (h.0 ++ h.1) 200 h.2, h.3, end) refl

newline_takes_of : (b : Bool) (c : ℕ) (bytes rest : List ℕ) → eqb c 10 ≡ b → cond b (Some bytes) None ≡ Some rest
    → c ∷ bytes ≡ 10 ∷ rest
newline_takes_of true c bytes rest is e = ap (λ (x : ℕ). x ∷ bytes) (eqb-true c 10 is) ∙ ap (λ (x : List ℕ). 10 ∷ x) (some_is bytes rest e)
newline_takes_of false c bytes rest is e = absurd cc

newline_takes : (bytes rest : List ℕ) → newline_at bytes ≡ Some rest → bytes ≡ 10 ∷ rest
newline_takes [] rest e = absurd cc
newline_takes (c ∷ bytes) rest e = newline_takes_of (eqb c 10) c bytes rest refl e

end_takes_of : (b d : Bool) (c : ℕ) (bytes rest : List ℕ) → eqb c 10 ≡ b → eqb c 13 ≡ d
    → cond b (Some bytes) (cond d (newline_at bytes) (Some (c ∷ bytes))) ≡ Some rest
    → (end : List ℕ) × IsEnd end × (c ∷ bytes ≡ end ++ rest)
end_takes_of true d c bytes rest is cr e = (10 ∷ [], inr (inl refl), ap (λ (x : ℕ). x ∷ bytes) (eqb-true c 10 is) ∙ ap (λ (x : List ℕ). 10 ∷ x) (some_is bytes rest e))
end_takes_of false true c bytes rest is cr e = (13 ∷ 10 ∷ [], inr (inr refl), ap (λ (x : ℕ). x ∷ bytes) (eqb-true c 13 cr) ∙ ap (λ (x : List ℕ). 13 ∷ x) (newline_takes bytes rest e))
end_takes_of false false c bytes rest is cr e = ([], inl refl, some_is (c ∷ bytes) rest e)

end_takes : (bytes rest : List ℕ) → end_at bytes ≡ Some rest → (end : List ℕ) × IsEnd end × (bytes ≡ end ++ rest)
end_takes [] rest e = ([], inl refl, some_is [] rest e)
end_takes (c ∷ bytes) rest e = end_takes_of (eqb c 10) (eqb c 13) c bytes rest refl refl e

ended_takes : (front : List ℕ) (o : Option (List ℕ)) (text rest : List ℕ) → ended front o ≡ Ok (text, rest)
    → (front ≡ text) × (o ≡ Some rest)
ended_takes front None text rest e = absurd cc
ended_takes front (Some r) text rest e =
    let p = ok_is (front, r) (text, rest) e in
    (ap (λ (x : List ℕ × List ℕ). x.0) p, ap (λ (x : List ℕ × List ℕ). Some x.1) p)

-- a record that was cut off, with its end
pub cut_takes : (bytes text rest : List ℕ) → cut_at bytes ≡ Ok (text, rest)
    → (end : List ℕ) × (length text ≡ 200) × (list_all is_printable text ≡ true) × IsEnd end
    × (bytes ≡ text ++ (end ++ rest))
unfolding cut_at
cut_takes bytes text rest e =
    let a = unless (ltb (length bytes) 200) kinds.Short _ (text, rest) e in
    let b = where_true (list_all is_printable (take 200 bytes)) kinds.BadByte _ (text, rest) a.1 in
    let c = ended_takes (take 200 bytes) (end_at (drop 200 bytes)) text rest b.1 in
    let d = end_takes (drop 200 bytes) rest c.1 in
    (d.0, ap length (sym c.0) ∙ length-take-le 200 bytes (ltb-false _ _ a.0), subst (λ (x : List ℕ). list_all is_printable x ≡ true) c.0 b.0, d.1, sym (take-append-drop 200 bytes) ∙ ap (λ (x : List ℕ). take 200 bytes ++ x) d.2 ∙ ap (λ (x : List ℕ). x ++ (d.0 ++ rest)) c.0)
