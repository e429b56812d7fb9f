-- How far the classes of a row are read.
use Rattle.std.proofs.Common.{◌≡◌, ◌==◌, Bool, true, false, ℕ, ◌+◌, ◌<◌, List, [], ◌∷◌, ◌++◌, length, Option, Some, None, option_map, refl, sym, ap, subst, ◌∙◌, arith}
use Rattle.std.proofs.lemmas.Bool.Decides.{nat_tests}
use Rattle.std.proofs.lemmas.List.{nil_from_length}
use Rattle.carry_protections.specs.Rows.{behind_pair, classes_from, first_pair, is_named, pair_at, with_pair}
use Rattle.carry_protections.specs.declared.row.ClassPair.{ClassPair}

-- what is left comes to what the text comes to
pub record ComesTo (text rest : List ℕ) (all : List ClassPair) : Type 0 where
  pub whole : classes_from [] text ≡ classes_from all rest

pub pairs_first : (text : List ℕ) → ComesTo text text []
pairs_first text = record { whole = refl }

pub pairs_end : (text rest : List ℕ) (all : List ClassPair) (b : Bool) → ComesTo text rest all → b ≡ (length rest == 0) → b ≡ true
    → classes_from [] text ≡ Some all
pairs_end text rest all b comes e on =
    let none : length rest ≡ 0 = grind (arith, nat_tests) in
    comes.whole ∙ ap (classes_from all) (nil_from_length rest none)

-- the pair, and what follows it
pub record IsPairOf (o : Option ClassPair) (rest : List ℕ) (p : ClassPair) (behind : List ℕ) : Type 0 where
  pub pair : o ≡ Some p
  pub rest_is : rest ≡ behind

pair_parts : (o : Option ClassPair) (rest : List ℕ) (p : ClassPair) (behind : List ℕ) → option_map (behind_pair rest) o ≡ Some (p, behind)
    → IsPairOf o rest p behind
pair_parts None rest p behind e = absurd cc
pair_parts (Some q) rest p behind e =
    let both : ◌≡◌ {A = ClassPair × List ℕ} (q, rest) (p, behind) = cc in
    record {
      pair = ap (λ (x : ClassPair × List ℕ). Some x.0) both;
      rest_is = ap (λ (x : ClassPair × List ℕ). x.1) both;
    }

pub pair_step : (all : List ClassPair) (rest : List ℕ) (p : ClassPair) (behind : List ℕ) → first_pair rest ≡ Some (p, behind)
    → classes_from all rest ≡ with_pair all (λ l. classes_from l behind) (Some p)
pair_step all [] p behind e = absurd cc
pair_step all (a ∷ []) p behind e = absurd cc
pair_step all (a ∷ b ∷ []) p behind e = absurd cc
pair_step all (a ∷ b ∷ c ∷ []) p behind e = absurd cc
pair_step all (a ∷ b ∷ c ∷ d ∷ rest) p behind e =
    let parts = pair_parts (pair_at a b c d) rest p behind e in
    ap (with_pair all (λ l. classes_from l rest)) parts.pair
    ∙ ap (λ (r : List ℕ). with_pair all (λ l. classes_from l r) (Some p)) parts.rest_is

pub pair_shorter : (rest : List ℕ) (p : ClassPair) (behind : List ℕ) → Some (p, behind) ≡ first_pair rest → length behind < length rest
pair_shorter [] p behind e = absurd cc
pair_shorter (a ∷ []) p behind e = absurd cc
pair_shorter (a ∷ b ∷ []) p behind e = absurd cc
pair_shorter (a ∷ b ∷ c ∷ []) p behind e = absurd cc
pair_shorter (a ∷ b ∷ c ∷ d ∷ rest) p behind e =
    let parts = pair_parts (pair_at a b c d) rest p behind (sym e) in
    let same : length rest ≡ length behind = ap length parts.rest_is in
    omega (arith, same)

pub pairs_next : (text rest behind : List ℕ) (all new : List ClassPair) (p : ClassPair) (b : Bool) → ComesTo text rest all
    → Some (p, behind) ≡ first_pair rest → b ≡ is_named p.old all → b ≡ false → new ≡ all ++ p ∷ [] → ComesTo text behind new
pairs_next text rest behind all new p b comes found e off added =
    let fresh : is_named p.old all ≡ false = sym e ∙ off in
    record { whole = comes.whole ∙ pair_step all rest p behind (sym found) ∙ rw fresh (ap (λ (l : List ClassPair). classes_from l behind) (sym added)) }

-- no pair stands there
no_pair : (all : List ClassPair) (rest : List ℕ) → first_pair rest ≡ None → 0 < length rest → classes_from all rest ≡ None
no_pair all [] e some = absurd (omega (arith, some))
no_pair all (a ∷ []) e some = refl
no_pair all (a ∷ b ∷ []) e some = refl
no_pair all (a ∷ b ∷ c ∷ []) e some = refl
no_pair all (a ∷ b ∷ c ∷ d ∷ rest) e some = cases (pair_at a b c d) refl where
  cases : (o : Option ClassPair) → pair_at a b c d ≡ o → classes_from all (a ∷ b ∷ c ∷ d ∷ rest) ≡ None
  cases None f = rw f refl
  cases (Some p) f = let wrong : Some (behind_pair rest p) ≡ None = rw f at e in absurd cc

pub none_left : (text rest : List ℕ) (all : List ClassPair) (b : Bool) → ComesTo text rest all → b ≡ (length rest == 0) → b ≡ false
    → None ≡ first_pair rest → classes_from [] text ≡ None
none_left text rest all b comes e off none =
    let some : 0 < length rest = grind (arith, nat_tests) in
    comes.whole ∙ no_pair all rest (sym none) some

pub named_again : (text rest behind : List ℕ) (all : List ClassPair) (p : ClassPair) (b : Bool) → ComesTo text rest all
    → Some (p, behind) ≡ first_pair rest → b ≡ is_named p.old all → b ≡ true → classes_from [] text ≡ None
named_again text rest behind all p b comes found e on =
    let named : is_named p.old all ≡ true = sym e ∙ on in
    comes.whole ∙ pair_step all rest p behind (sym found) ∙ rw named refl
