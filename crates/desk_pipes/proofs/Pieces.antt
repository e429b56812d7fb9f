-- Bytes cut into lines, byte by byte.
use Rattle.std.proofs.Common.{◌≡◌, ℕ, ◌<◌, ◌≤◌, Bool, true, false, List, [], ◌∷◌, ◌++◌, length, refl, ap, sym, ◌∙◌, arith, append_assoc, length-append}
use Rattle.std.proofs.lemmas.Bool.Decides.{nat_tests}
use Rattle.std.proofs.lemmas.List.{take_all, take-append-le}
use Rattle.airline_base.specs.Lines.{is_line_feed}
use Rattle.desk_pipes.specs.Cutting.{held, lines_cut, rest_cut, PiecesDoNotMatter}

-- ---- what is held

-- one byte more, where there is room
pub held_more : (old new : List ℕ) (byte : ℕ) → length old < 257 → new ≡ old ++ byte ∷ [] → new ≡ held (old ++ byte ∷ [])
unfolding held
held_more old new byte room is =
    let within : length (old ++ byte ∷ []) ≤ 257 = omega (arith, room, length-append old (byte ∷ [])) in
    is ∙ sym (take_all 257 (old ++ byte ∷ []) within)

-- with no room it stays as it is
pub held_full : (old : List ℕ) (byte : ℕ) → length old ≤ 257 → 257 ≤ length old → old ≡ held (old ++ byte ∷ [])
unfolding held
held_full old byte most full =
    sym (take-append-le 257 old (byte ∷ []) (omega (arith, full)) ∙ take_all 257 old most)

-- ---- lines

pieces_by : (end : Bool) (c : ℕ) (before first more : List ℕ) → is_line_feed c ≡ end
    → lines_cut [] (first ++ more) ≡ lines_cut [] first ++ lines_cut (rest_cut [] first) more
    → lines_cut (held (before ++ c ∷ [])) (first ++ more)
    ≡ lines_cut (held (before ++ c ∷ [])) first ++ lines_cut (rest_cut (held (before ++ c ∷ [])) first) more
    → lines_cut before (c ∷ first ++ more) ≡ lines_cut before (c ∷ first) ++ lines_cut (rest_cut before (c ∷ first)) more
pieces_by true c before first more is ends goes_on =
    rw is (ap (λ (l : List (List ℕ)). held (before ++ c ∷ []) ∷ l) ends)
pieces_by false c before first more is ends goes_on = rw is goes_on

pub pieces_do_not_matter : PiecesDoNotMatter
pieces_do_not_matter before [] more = refl
pieces_do_not_matter before (c ∷ first) more =
    pieces_by (is_line_feed c) c before first more refl (pieces_do_not_matter [] first more)
    (pieces_do_not_matter (held (before ++ c ∷ [])) first more)

rest_by : (end : Bool) (c : ℕ) (before more : List ℕ) → is_line_feed c ≡ end
    → rest_cut before (c ∷ more) ≡ rest_cut (rest_cut before (c ∷ [])) more
rest_by true c before more is = rw is refl
rest_by false c before more is = rw is refl

-- what a byte leaves to come is what was to come with it
pub lines_more : (old now new : List (List ℕ)) (before after : List ℕ) (c : ℕ) (more : List ℕ)
    → now ≡ old ++ lines_cut before (c ∷ []) → after ≡ rest_cut before (c ∷ [])
    → old ++ lines_cut before (c ∷ more) ≡ new → now ++ lines_cut after more ≡ new
lines_more old now new before after c more is rest was =
    ap (λ (l : List (List ℕ)). l ++ lines_cut after more) is
    ∙ append_assoc old (lines_cut before (c ∷ [])) (lines_cut after more)
    ∙ ap (λ (l : List ℕ). old ++ (lines_cut before (c ∷ []) ++ lines_cut l more)) rest
    ∙ ap (λ (l : List (List ℕ)). old ++ l) (sym (pieces_do_not_matter before (c ∷ []) more)) ∙ was

pub rest_more : (before after behind : List ℕ) (c : ℕ) (more : List ℕ) → after ≡ rest_cut before (c ∷ [])
    → rest_cut before (c ∷ more) ≡ behind → rest_cut after more ≡ behind
rest_more before after behind c more is was =
    ap (λ (l : List ℕ). rest_cut l more) is ∙ sym (rest_by (is_line_feed c) c before more refl) ∙ was

-- the byte ends the line, or it is of one
pub line_ends : (before : List ℕ) (c : ℕ) → c ≡ 10 → (lines_cut before (c ∷ []) ≡ held (before ++ c ∷ []) ∷ []) × (rest_cut before (c ∷ []) ≡ [])
line_ends before c is =
    let end : is_line_feed c ≡ true = grind (arith, nat_tests, is) in
    (rw end refl, rw end refl)

pub line_goes_on : (before : List ℕ) (c : ℕ) → (c ≡ 10 → ⊥) → (lines_cut before (c ∷ []) ≡ []) × (rest_cut before (c ∷ []) ≡ held (before ++ c ∷ []))
line_goes_on before c other =
    let end : is_line_feed c ≡ false = grind (arith, nat_tests, other) in
    (rw end refl, rw end refl)
