-- A mark that is seen byte by byte.
use Rattle.std.proofs.Common.{◌≡◌, ◌<◌, ◌≤◌, ℕ, suc, Bool, true, List, [], ◌∷◌, ◌++◌, length, refl, sym, ap, ◌∙◌, subst, arith, append_assoc, get_or, length-append}
use Rattle.std.specs.Prelude.{◌+◌, ◌-◌, Option, drop, nat_eq, nat_le, take}
use Rattle.std.proofs.lemmas.Bool.Decides.{nat_tests}
use Rattle.std.proofs.lemmas.List.{append-nil, take_all, take-append-drop}
use Rattle.std.proofs.Math.Seq.{take-suc}
use Rattle.std.specs.Io.KnownBytes.{Consumes}
use Rattle.std.proofs.KnownBytes.{Consumes-nil, Consumes-trans}
use Rattle.desk_pipes.specs.Marks.{HasMark, IsSeen, SeesOn}

pub sees_none : (mark : List ℕ) (seen : ℕ) → SeesOn mark seen [] seen
sees_none mark seen = record { goes_on = λ before is. subst (λ (l : List ℕ). IsSeen mark l seen) (sym (append-nil before)) is }

pub sees_more : (mark : List ℕ) (seen mid later c n : ℕ) (more : List ℕ)
    → SeesOn mark seen (c ∷ []) mid → SeesOn mark mid (take n more) later → SeesOn mark seen (take (1 + n) (c ∷ more)) later
sees_more mark seen mid later c n more first rest = record {
  goes_on = λ before is.
      let one : suc n ≡ 1 + n = omega (arith) in
      subst (λ (l : List ℕ). IsSeen mark l later)
      (append_assoc before (c ∷ []) (take n more) ∙ ap (λ (k : ℕ). before ++ take k (c ∷ more)) one)
      (rest.goes_on (before ++ c ∷ []) (first.goes_on before is));
}

-- a piece by its first byte and those behind it
pub sees_piece : (mark piece : List ℕ) (seen mid later n d : ℕ) → 0 < length piece → SeesOn mark seen (get_or piece 0 d ∷ []) mid
    → SeesOn mark mid (take n (take (length piece - 1) (drop 1 piece))) later → SeesOn mark seen (take (1 + n) piece) later
sees_piece mark [] seen mid later n d some first rest = absurd (omega (arith, some))
sees_piece mark (c ∷ more) seen mid later n d some first rest =
    sees_more mark seen mid later c n more first
    (subst (λ (l : List ℕ). SeesOn mark mid (take n l) later) (take_all (length (c ∷ more) - 1) more (omega arith)) rest)

pub whole_piece : (piece : List ℕ) (n : ℕ) → 0 < length piece → n ≡ length (take (length piece - 1) (drop 1 piece)) → 1 + n ≡ length piece
whole_piece [] n some is = absurd (omega (arith, some))
whole_piece (c ∷ more) n some is = omega (arith, is, ap length (take_all (length (c ∷ more) - 1) more (omega arith)))

-- the mark's next byte, its first, or none
pub sees_next : (mark : List ℕ) (seen c : ℕ) (is_next : Bool) → length mark ≡ 24 → seen < 24 → is_next ≡ nat_eq (get_or mark seen 0) c → is_next ≡ true
    → SeesOn mark seen (c ∷ []) (seen + 1)
sees_next mark seen c is_next long within tells is = record {
  goes_on = λ before was.
      let at : c ≡ get_or mark seen 0 = grind (arith, nat_tests, sym tells ∙ is) in
      let inside : seen < length mark = omega (arith, long, within) in
      let one : seen + 1 ≡ suc seen = omega (arith) in
      record {
        ahead = was.ahead;
        ends = ap (λ (l : List ℕ). l ++ c ∷ []) was.ends ∙ append_assoc was.ahead (take seen mark) (c ∷ [])
            ∙ ap (λ (l : List ℕ). was.ahead ++ l) (ap (λ (b : ℕ). take seen mark ++ b ∷ []) at ∙ sym (take-suc mark seen 0 inside)
            ∙ ap (λ (n : ℕ). take n mark) (sym one));
      };
}

pub sees_first : (mark : List ℕ) (seen c : ℕ) (is_first : Bool) → length mark ≡ 24 → is_first ≡ nat_eq (get_or mark 0 0) c → is_first ≡ true
    → SeesOn mark seen (c ∷ []) 1
sees_first mark seen c is_first long tells is = record {
  goes_on = λ before was.
      let at : c ≡ get_or mark 0 0 = grind (arith, nat_tests, sym tells ∙ is) in
      let inside : 0 < length mark = omega (arith, long) in
      record { ahead = before; ends = ap (λ (l : List ℕ). before ++ l) (ap (λ (b : ℕ). b ∷ []) at ∙ sym (take-suc mark 0 0 inside)) };
}

pub sees_nothing : (mark : List ℕ) (seen c : ℕ) → SeesOn mark seen (c ∷ []) 0
sees_nothing mark seen c = record {
  goes_on = λ before was. record { ahead = before ++ c ∷ []; ends = sym (append-nil (before ++ c ∷ [])) };
}

-- of nothing that was read the last bytes are none of the mark's
pub none_seen : (mark : List ℕ) → IsSeen mark [] 0
none_seen mark = record { ahead = []; ends = refl }

-- a piece more: either the mark stands in what is held then, or all of the piece was seen
pub all_seen : (mark held piece new : List ℕ) (seen later count : ℕ) → length mark ≡ 24 → length piece < 513 → IsSeen mark held seen
    → SeesOn mark seen (take count piece) later → nat_le 24 later ≡ true → new ≡ held ++ piece → HasMark mark new
all_seen mark held piece new seen later count long few was on over is =
    let it : IsSeen mark (held ++ take count piece) later = on.goes_on held was in
    let within : length mark ≤ later = grind (arith, nat_tests, long, over) in
    let whole : take later mark ≡ mark = take_all later mark within in
    let parts : take count piece ++ drop count piece ≡ piece = take-append-drop count piece in
    record {
      ahead = it.ahead;
      behind = drop count piece;
      stands = is ∙ ap (λ (l : List ℕ). held ++ l) (sym parts) ∙ sym (append_assoc held (take count piece) (drop count piece))
          ∙ ap (λ (l : List ℕ). l ++ drop count piece) (it.ends ∙ ap (λ (l : List ℕ). it.ahead ++ l) whole);
      few = omega (arith, few, sym (ap length parts) ∙ length-append (take count piece) (drop count piece));
    }

pub still_seen : (mark held piece new : List ℕ) (seen later count : ℕ) → IsSeen mark held seen → SeesOn mark seen (take count piece) later
    → count ≡ length piece → new ≡ held ++ piece → IsSeen mark new later
still_seen mark held piece new seen later count was on all is =
    subst (λ (l : List ℕ). IsSeen mark l later) (ap (λ (l : List ℕ). held ++ l) (take_all count piece (omega (arith, all))) ∙ sym is) (on.goes_on held was)

-- what is held is what was read
pub none_read : (input : Option (List ℕ)) (held : List ℕ) → held ≡ [] → Consumes input input held
none_read input held none = subst (λ (l : List ℕ). Consumes input input l) (sym none) (Consumes-nil input)

pub more_read : (first mid last : Option (List ℕ)) (held piece new : List ℕ) → Consumes first mid held → Consumes mid last piece
    → new ≡ held ++ piece → Consumes first last new
more_read first mid last held piece new were are is =
    subst (λ (l : List ℕ). Consumes first last l) (sym is) (Consumes-trans first mid last held piece were are)
