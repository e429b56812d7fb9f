-- Taking the lines of a script one by one.
use Rattle.std.proofs.Common.{◌≡◌, ℕ, ◌+◌, ◌-◌, ◌<◌, Bool, true, false, cond, ◌==◌, List, [], ◌∷◌, ◌++◌, length, take, drop, Option, Some, None, Ok, Err, nat_lt, refl, sym, ap, subst, ◌∙◌, arith, append_assoc, append-nil}
use Rattle.std.specs.List.{concat, list_all, position}
use Rattle.std.proofs.lemmas.Bool.{ltb-false}
use Rattle.std.proofs.lemmas.Bool.Decides.{nat_tests}
use Rattle.std.proofs.lemmas.List.{drop_all, length-drop, nil_from_length, take_all}
use Rattle.airline_base.specs.Lines.{is_line_feed, line_at}
use Rattle.airimp_lines.specs.Steps.{Message, step}
use Rattle.airimp_lines.specs.declared.fault.ScriptFault.{ScriptFault}
use Rattle.airimp_lines.specs.declared.fault.ScriptKind.{ScriptKind}
use Rattle.script_refusals.specs.Cleaning.{cleaned_lines, fault_in, kept, left_of, line_refused, lines_left, own_refusal, passage_behind, passage_refused, refusals_from, refusals_of, text_of, whole_lines}
use Rattle.script_refusals.specs.declared.cleaning.Passage.{Passage}
use Rattle.script_refusals.specs.declared.cleaning.Passage.TheVariants.{Right, Refused}
use Rattle.script_refusals.proofs.Lines.{place_of, whole_lines_are}

pub not_done : (b : Bool) (rest : List ℕ) → b ≡ (length rest == 0) → b ≡ false → 0 < length rest
not_done b rest e off = grind (arith, nat_tests)

pub done_is : (b : Bool) (rest : List ℕ) → b ≡ (length rest == 0) → b ≡ true → length rest ≡ 0
done_is b rest e on = grind (arith, nat_tests)

-- ---- the first line

abbrev found : Option ℕ → Option ℕ
found o = o

pub cut_found : (bytes whole after : List ℕ) (end : ℕ) → found (Some end) ≡ position is_line_feed bytes
    → whole ≡ take (end + 1) bytes → after ≡ drop (end + 1) bytes → 0 < length bytes
    → whole_lines bytes ≡ whole ∷ whole_lines after
cut_found bytes whole after end e w a some = of (nat_lt (place_of bytes) (length bytes)) e
  where
    of : (b : Bool) → found (Some end) ≡ cond b (Some (place_of bytes)) None → whole_lines bytes ≡ whole ∷ whole_lines after
    of true h = let same : end ≡ place_of bytes = cc in rw (w, a, same) (whole_lines_are bytes some)
    of false h = absurd cc

pub cut_all : (bytes : List ℕ) → found None ≡ position is_line_feed bytes → 0 < length bytes
    → whole_lines bytes ≡ bytes ∷ whole_lines []
cut_all bytes e some = of (nat_lt (place_of bytes) (length bytes)) refl e
  where
    of : (b : Bool) → nat_lt (place_of bytes) (length bytes) ≡ b → found None ≡ cond b (Some (place_of bytes)) None
        → whole_lines bytes ≡ bytes ∷ whole_lines []
    of true is h = absurd cc
    of false is h =
        let far = ltb-false _ _ is in
        let front : take (place_of bytes + 1) bytes ≡ bytes = take_all (place_of bytes + 1) bytes (omega (arith, far)) in
        let rest : drop (place_of bytes + 1) bytes ≡ [] = drop_all (place_of bytes + 1) bytes (omega (arith, far)) in
        whole_lines_are bytes some ∙ rw (front, rest) refl

pub cut_shorter : (bytes after : List ℕ) (end : ℕ) → after ≡ drop (end + 1) bytes → 0 < length bytes → length after < length bytes
cut_shorter bytes after end a some =
    let l : length (drop (end + 1) bytes) ≡ length bytes - (end + 1) = length-drop (end + 1) bytes in
    let same : length after ≡ length (drop (end + 1) bytes) = ap (λ (xs : List ℕ). length xs) a in
    omega (arith, l, same, some)

pub cut_text : (whole text after : List ℕ) → ◌≡◌ {A = List ℕ × List ℕ} (text, after) (line_at whole) → text ≡ text_of whole
cut_text whole text after cut = ap (λ (p : List ℕ × List ℕ). p.0) cut

-- ---- one line

pub right_passage : (message next : Message) (whole words : List ℕ) → words ≡ text_of whole → step message words ≡ Ok next
    → Right next ≡ passage_behind (Right message) (text_of whole)
right_passage message next whole words w e =
    let f : step message (text_of whole) ≡ Ok next = ap (step message) (sym w) ∙ e in
    rw f refl

pub right_kept : (message next : Message) (whole words old new : List ℕ) → words ≡ text_of whole → step message words ≡ Ok next
    → new ≡ old ++ whole → new ≡ old ++ kept (Right message) whole
right_kept message next whole words old new w e n =
    let f : step message (text_of whole) ≡ Ok next = ap (step message) (sym w) ∙ e in
    rw f n

pub right_none : (message next : Message) (whole words : List ℕ) (line : ℕ) (refusals : List ScriptFault) → words ≡ text_of whole
    → step message words ≡ Ok next → refusals ≡ refusals ++ own_refusal line (fault_in (Right message) (text_of whole))
right_none message next whole words line refusals w e =
    let f : step message (text_of whole) ≡ Ok next = ap (step message) (sym w) ∙ e in
    rw f (sym (append-nil refusals))

pub wrong_passage : (message : Message) (whole words : List ℕ) (kind : ScriptKind) (next : Passage) → words ≡ text_of whole
    → step message words ≡ Err kind → next ≡ passage_refused message words → next ≡ passage_behind (Right message) (text_of whole)
wrong_passage message whole words kind next w e n =
    let f : step message (text_of whole) ≡ Err kind = ap (step message) (sym w) ∙ e in
    rw f (n ∙ ap (passage_refused message) w)

pub wrong_kept : (message : Message) (whole words : List ℕ) (kind : ScriptKind) (old new : List ℕ) → words ≡ text_of whole
    → step message words ≡ Err kind → new ≡ old ++ line_refused (passage_refused message words) → new ≡ old ++ kept (Right message) whole
wrong_kept message whole words kind old new w e n =
    let f : step message (text_of whole) ≡ Err kind = ap (step message) (sym w) ∙ e in
    rw f (n ∙ ap (λ (text : List ℕ). old ++ line_refused (passage_refused message text)) w)

-- a wrong line of a message, by what it would be as the first one of another
pub begins_another : (locator words : List ℕ) (first : Message) → step None words ≡ Ok first → Refused ≡ passage_refused (Some locator) words
begins_another locator words first e = rw e refl

pub begins_none : (locator words : List ℕ) (kind : ScriptKind) → step None words ≡ Err kind → Right (Some locator) ≡ passage_refused (Some locator) words
begins_none locator words kind e = rw e refl

pub wrong_own : (message : Message) (whole words : List ℕ) (kind : ScriptKind) (line : ℕ) (old new : List ScriptFault)
    → words ≡ text_of whole → step message words ≡ Err kind → new ≡ old ++ record { line = line; kind = kind } ∷ []
    → new ≡ old ++ own_refusal line (fault_in (Right message) (text_of whole))
wrong_own message whole words kind line old new w e n =
    let f : step message (text_of whole) ≡ Err kind = ap (step message) (sym w) ∙ e in
    rw f n

pub over_passage : (whole words : List ℕ) (b : Bool) → words ≡ text_of whole → b ≡ (length words == 0) → b ≡ true
    → Right None ≡ passage_behind Refused (text_of whole)
over_passage whole words b w e on = subst (λ (text : List ℕ). Right None ≡ passage_behind Refused text) w (of words (done_is b words e on))
  where
    of : (text : List ℕ) → length text ≡ 0 → Right None ≡ passage_behind Refused text
    of [] h = refl
    of (c ∷ text) h = absurd (omega (arith, h))

pub on_passage : (whole words : List ℕ) (b : Bool) → words ≡ text_of whole → b ≡ (length words == 0) → b ≡ false
    → Refused ≡ passage_behind Refused (text_of whole)
on_passage whole words b w e off = subst (λ (text : List ℕ). Refused ≡ passage_behind Refused text) w (of words (not_done b words e off))
  where
    of : (text : List ℕ) → 0 < length text → Refused ≡ passage_behind Refused text
    of [] h = absurd (omega (arith, h))
    of (c ∷ text) h = refl

-- ---- a line further

pub text_further : (bytes rest whole after text more : List ℕ) (passage next : Passage)
    → lines_left bytes ≡ text ++ concat (cleaned_lines passage (whole_lines rest))
    → whole_lines rest ≡ whole ∷ whole_lines after
    → next ≡ passage_behind passage (text_of whole) → more ≡ text ++ kept passage whole
    → lines_left bytes ≡ more ++ concat (cleaned_lines next (whole_lines after))
text_further bytes rest whole after text more passage next is lines n m =
    is ∙ rw (lines, n, m) (sym (append_assoc text (kept passage whole) (concat (cleaned_lines (passage_behind passage (text_of whole)) (whole_lines after)))))

pub refusals_further : (bytes rest whole after : List ℕ) (refusals more : List ScriptFault) (passage next : Passage)
    (line : ℕ)
    → refusals_of bytes ≡ refusals ++ refusals_from passage (line + 1) (whole_lines rest)
    → whole_lines rest ≡ whole ∷ whole_lines after
    → next ≡ passage_behind passage (text_of whole)
    → more ≡ refusals ++ own_refusal (line + 1) (fault_in passage (text_of whole))
    → refusals_of bytes ≡ more ++ refusals_from next (line + 1 + 1) (whole_lines after)
refusals_further bytes rest whole after refusals more passage next line is lines n m =
    is ∙ rw (lines, n, m) (sym (append_assoc refusals (own_refusal (line + 1) (fault_in passage (text_of whole))) (refusals_from (passage_behind passage (text_of whole)) (line + 1 + 1) (whole_lines after))))

-- ---- the end

pub text_done : (bytes rest text : List ℕ) (passage : Passage)
    → lines_left bytes ≡ text ++ concat (cleaned_lines passage (whole_lines rest)) → length rest ≡ 0
    → text ≡ lines_left bytes
text_done bytes rest text passage is none =
    let nil : rest ≡ [] = nil_from_length rest none in
    sym (is ∙ rw nil (append-nil text))

pub refusals_done : (bytes rest : List ℕ) (refusals : List ScriptFault) (passage : Passage) (line : ℕ)
    → refusals_of bytes ≡ refusals ++ refusals_from passage line (whole_lines rest) → length rest ≡ 0
    → refusals ≡ refusals_of bytes
refusals_done bytes rest refusals passage line is none =
    let nil : rest ≡ [] = nil_from_length rest none in
    sym (is ∙ rw nil (append-nil refusals))

-- ---- what is left

pub nothing_left : (refusals : List ScriptFault) (text : List ℕ) (b : Bool) → 0 < length refusals → b ≡ list_all is_line_feed text → b ≡ true
    → [] ≡ left_of refusals text
nothing_left [] text b some e on = absurd (omega (arith, some))
nothing_left (fault ∷ refusals) text b some e on = let all : list_all is_line_feed text ≡ true = sym e ∙ on in rw all refl

pub all_left : (refusals : List ScriptFault) (text : List ℕ) (b : Bool) → b ≡ list_all is_line_feed text → b ≡ false
    → text ≡ left_of refusals text
all_left [] text b e off = refl
all_left (fault ∷ refusals) text b e off = let not_all : list_all is_line_feed text ≡ false = sym e ∙ off in rw not_all refl
