-- The lines of a text with their ends.
use Rattle.std.proofs.Common.{◌≡◌, ◌⊎◌, inl, inr, ℕ, suc, ◌+◌, ◌<◌, ◌≤◌, Bool, true, false, nat_lt, List, [], ◌∷◌, ◌++◌, length, take, drop, map, refl, sym, ap, ◌∙◌, arith, append-nil}
use Rattle.std.specs.List.{concat, onto_first, position_or_len}
use Rattle.std.specs.Str.Lines.{lines}
use Rattle.std.proofs.lemmas.Bool.Decides.{nat_tests}
use Rattle.std.proofs.lemmas.List.{drop_all, length-append, take-append-le}
use Rattle.std.proofs.Math.Seq.{drop-append_seam}
use Rattle.airline_base.specs.Lines.{is_line_feed, line_at}
use Rattle.airline_base.proofs.LineCuts.{lines_are}
use Rattle.script_refusals.specs.Cleaning.{text_of, whole_lines}

pub cases : {P : Type 0} (b c : Bool) → b ≡ c → (b ≡ true → P) → (b ≡ false → P) → P
cases b true e if_true if_false = if_true e
cases b false e if_true if_false = if_false e

abbrev pub place_of : List ℕ → ℕ
place_of bytes = position_or_len is_line_feed bytes

-- ---- the first of them

abbrev IsFirstWhole : List ℕ → Type 0
IsFirstWhole bytes = whole_lines bytes ≡ take (place_of bytes + 1) bytes ∷ whole_lines (drop (place_of bytes + 1) bytes)

ended_front : (c : ℕ) (rest : List ℕ) → is_line_feed c ≡ true → IsFirstWhole (c ∷ rest)
ended_front c rest e = rw e refl

onto_front : (c : ℕ) (rest : List ℕ) → is_line_feed c ≡ false → IsFirstWhole rest → IsFirstWhole (c ∷ rest)
onto_front c rest e is =
    let n : 1 + place_of rest + 1 ≡ suc (place_of rest + 1) = omega arith in
    rw (e, n, is) refl

behind_front : (c : ℕ) (rest : List ℕ) → is_line_feed c ≡ false → (0 < length rest → IsFirstWhole rest) → IsFirstWhole (c ∷ rest)
behind_front c [] e more = rw e refl
behind_front c (d ∷ rest) e more = onto_front c (d ∷ rest) e (more (omega arith))

pub whole_lines_are : (bytes : List ℕ) → 0 < length bytes
    → whole_lines bytes ≡ take (place_of bytes + 1) bytes ∷ whole_lines (drop (place_of bytes + 1) bytes)
whole_lines_are [] some = absurd (omega arith)
whole_lines_are (c ∷ rest) some = cases (is_line_feed c) (is_line_feed c) refl
    (λ e. ended_front c rest e)
    (λ e. behind_front c rest e (whole_lines_are rest))

-- ---- all of them

joined_onto : (c : ℕ) (parts : List (List ℕ)) → concat (onto_first c parts) ≡ c ∷ concat parts
joined_onto c [] = refl
joined_onto c (part ∷ parts) = refl

pub joined : (bytes : List ℕ) → concat (whole_lines bytes) ≡ bytes
joined [] = refl
joined (c ∷ rest) = cases (is_line_feed c) (is_line_feed c) refl
    (λ e. rw e (ap (λ (xs : List ℕ). c ∷ xs) (joined rest)))
    (λ e. rw e (joined_onto c (whole_lines rest) ∙ ap (λ (xs : List ℕ). c ∷ xs) (joined rest)))

-- a line with its end: LF is its last byte, if it has one, and it has one but at the end of the text
pub record IsWhole (line : List ℕ) (behind : List (List ℕ)) : Type 0 where
  pub some : 0 < length line
  pub only : length line ≤ place_of line + 1
  pub ended : (place_of line + 1 ≡ length line) ⊎ (behind ≡ [])

abbrev pub AreWhole : List (List ℕ) → Type 0
AreWhole [] = Unit {0}
AreWhole (line ∷ behind) = IsWhole line behind × AreWhole behind

longer : (c : ℕ) (line : List ℕ) → is_line_feed c ≡ false → place_of (c ∷ line) ≡ 1 + place_of line
longer c line e = rw e refl

whole_onto : (c : ℕ) (lines : List (List ℕ)) → is_line_feed c ≡ false → AreWhole lines → AreWhole (onto_first c lines)
whole_onto c [] e h = let l : place_of (c ∷ []) ≡ 1 + place_of [] = longer c [] e in (record { some = omega arith; only = omega (arith, l); ended = inr refl }, tt)
whole_onto c (line ∷ lines) e h =
    let l : place_of (c ∷ line) ≡ 1 + place_of line = longer c line e in
    (record { some = omega arith; only = omega (arith, l, h.0.only); ended = of h.0.ended }, h.1)
  where
    of : (place_of line + 1 ≡ length line) ⊎ (lines ≡ []) → (place_of (c ∷ line) + 1 ≡ length (c ∷ line)) ⊎ (lines ≡ [])
    of (inl is) = let l : place_of (c ∷ line) ≡ 1 + place_of line = longer c line e in inl (omega (arith, l, is))
    of (inr is) = inr is

feed_place : (c : ℕ) → is_line_feed c ≡ true → place_of (c ∷ []) ≡ 0
feed_place c e = rw e refl

pub are_whole : (bytes : List ℕ) → AreWhole (whole_lines bytes)
are_whole [] = tt
are_whole (c ∷ rest) = cases (is_line_feed c) (is_line_feed c) refl
    (λ e. let l : place_of (c ∷ []) ≡ 0 = feed_place c e in rw e (record { some = omega arith; only = omega (arith, l); ended = inl (omega (arith, l)) }, are_whole rest))
    (λ e. rw e (whole_onto c (whole_lines rest) e (are_whole rest)))

-- ---- their texts

place_ahead : (line behind : List ℕ) → place_of line + 1 ≡ length line → place_of (line ++ behind) ≡ place_of line
place_ahead [] behind e = absurd (omega (arith, e))
place_ahead (c ∷ line) behind e = cases (is_line_feed c) (is_line_feed c) refl
    (λ f. rw f refl)
    (λ f. let l : place_of (c ∷ line) ≡ 1 + place_of line = longer c line f in rw f (ap (λ (n : ℕ). 1 + n) (place_ahead line behind (omega (arith, l, e)))))

-- a line that LF ends is the first of a text that begins with it
pub line_ahead : (line behind : List ℕ) → place_of line + 1 ≡ length line
    → ◌≡◌ {A = List ℕ × List ℕ} (line_at (line ++ behind)) (text_of line, behind)
unfolding line_at
line_ahead line behind e =
    let p : place_of (line ++ behind) ≡ place_of line = place_ahead line behind e in
    let both : nat_lt (place_of line) (length (line ++ behind)) ≡ true = grind (arith, nat_tests, e, length-append line behind) in
    let own : nat_lt (place_of line) (length line) ≡ true = grind (arith, nat_tests, e) in
    let text : take (place_of line) (line ++ behind) ≡ take (place_of line) line = take-append-le (place_of line) line behind (omega (arith, e)) in
    let rest : drop (place_of line + 1) (line ++ behind) ≡ behind = rw e (drop-append_seam line behind) in
    rw (p, both, own, text, rest) refl

-- behind a line that is the whole text there is none
pub nothing_behind : (line : List ℕ) → length line ≤ place_of line + 1 → (line_at line).1 ≡ []
unfolding line_at
nothing_behind line h = drop_all (place_of line + 1) line h

some_ahead : (line behind : List ℕ) → 0 < length line → 0 < length (line ++ behind)
some_ahead line behind h = omega (arith, h, length-append line behind)

first_text : (line : List ℕ) (behind : List (List ℕ)) → IsWhole line behind
    → lines (line ++ concat behind) ≡ text_of line ∷ lines (concat behind)
first_text line behind h = of h.ended
  where
    of : (place_of line + 1 ≡ length line) ⊎ (behind ≡ []) → lines (line ++ concat behind) ≡ text_of line ∷ lines (concat behind)
    of (inl e) =
        let l = line_ahead line (concat behind) e in
        lines_are (line ++ concat behind) (some_ahead line (concat behind) h.some) ∙ ap (λ (p : List ℕ × List ℕ). p.0 ∷ lines p.1) l
    of (inr none) =
        let alone : line ++ concat behind ≡ line = rw none (append-nil line) in
        let nil : lines (concat behind) ≡ [] = rw none refl in
        ap lines alone ∙ lines_are line h.some ∙ ap (λ (rest : List ℕ). text_of line ∷ lines rest) (nothing_behind line h.only) ∙ ap (λ (texts : List (List ℕ)). text_of line ∷ texts) (sym nil)

-- the lines of a text that is made of whole lines are their texts
pub texts_are : (whole : List (List ℕ)) → AreWhole whole → lines (concat whole) ≡ map text_of whole
texts_are [] h = refl
texts_are (line ∷ behind) h = first_text line behind h.0 ∙ ap (λ (texts : List (List ℕ)). text_of line ∷ texts) (texts_are behind h.1)

pub texts_of_lines : (bytes : List ℕ) → lines bytes ≡ map text_of (whole_lines bytes)
texts_of_lines bytes = ap lines (sym (joined bytes)) ∙ texts_are (whole_lines bytes) (are_whole bytes)
