-- Columns behind columns.
use Rattle.std.proofs.Common.{◌≡◌, ℕ, zero, suc, ◌+◌, ◌<◌, ◌≤◌, List, [], ◌∷◌, ◌++◌, refl, sym, ap, subst, ◌∙◌, append_assoc, arith, add-one, add-zero}
use Rattle.std.proofs.lemmas.List.{append-nil}
use Rattle.airline_base.specs.Days.{IsDay, IsDateText}
use Rattle.load_pages.specs.Marks.{mark_text}
use Rattle.load_pages.specs.declared.marks.Mark.TheVariants.{Section, Title, Region, Table, Column}
use Rattle.load_pages.specs.Sections.{AreHeads, IsHeadPut, class_text}

-- each of the days is one
pub day_there : (first count i : ℕ) → IsDay first → first + count ≤ 84006 → i < count → IsDay (first + i)
day_there first count i day within inside = (omega (arith, day.0), omega (arith, within, inside))

pub head_put : (number day : ℕ) (old mid new date : List ℕ) → day ≡ number → IsDateText day date
    → mid ≡ old ++ mark_text Column → new ≡ mid ++ date → IsHeadPut number old new
head_put number day old mid new date same is is_mid is_new = record {
  date = date;
  is_date = subst (λ (n : ℕ). IsDateText n date) same is;
  written = is_new ∙ ap (λ (l : List ℕ). l ++ date) is_mid;
}

assoc_in : (h r c d : List ℕ) → ((h ++ r) ++ c) ++ d ≡ h ++ ((r ++ c) ++ d)
assoc_in h r c d = ap (λ (l : List ℕ). l ++ d) (append_assoc h r c) ∙ append_assoc h (r ++ c) d

heads_longer : (n day : ℕ) (text date new : List ℕ) → AreHeads n day text → IsDateText (day + n) date
    → new ≡ text ++ mark_text Column ++ date → AreHeads (suc n) day new
heads_longer zero day text date new none is put =
    let this : List ℕ = mark_text Column ++ date in
    let alone : new ≡ this ++ [] = put ∙ ap (λ (l : List ℕ). l ++ mark_text Column ++ date) none ∙ sym (append-nil this) in
    (date, [], subst (λ (d : ℕ). IsDateText d date) (add-zero day) is, alone, refl)
heads_longer (suc n) day text date new are is put =
    let here : List ℕ = mark_text Column ++ are.0 in
    let more : List ℕ = are.1 ++ mark_text Column ++ date in
    let later : day + suc n ≡ day + 1 + n = omega arith in
    let whole : new ≡ here ++ more = put ∙ ap (λ (l : List ℕ). l ++ mark_text Column ++ date) are.3 ∙ assoc_in here are.1 (mark_text Column) date in
    (are.0, more, are.2, whole, heads_longer n (day + 1) are.1 date more are.4 (subst (λ (d : ℕ). IsDateText d date) later is) refl)

-- ---- the title of a class

assoc_seven : (o a b c d e f g : List ℕ) → ((((((o ++ a) ++ b) ++ c) ++ d) ++ e) ++ f) ++ g ≡ o ++ (a ++ b ++ c ++ d ++ e ++ f ++ g)
assoc_seven o a b c d e f g = simp append_assoc

pub class_put : (class : ℕ) (letter old a b c d e f new : List ℕ) → letter ≡ class ∷ [] → a ≡ old ++ mark_text Section
    → b ≡ a ++ letter → c ≡ b ++ mark_text Title → d ≡ c ++ letter → e ≡ d ++ mark_text Region → f ≡ e ++ letter
    → new ≡ f ++ mark_text Table → new ≡ old ++ class_text class
class_put class letter old a b c d e f new is is_a is_b is_c is_d is_e is_f is_new =
    let to : List ℕ → List ℕ → List ℕ = λ x y. y ++ x in
    is_new
    ∙ ap (to (mark_text Table)) (is_f ∙ ap (to letter) (is_e ∙ ap (to (mark_text Region))
    (is_d ∙ ap (to letter) (is_c ∙ ap (to (mark_text Title)) (is_b ∙ ap (to letter) is_a)))))
    ∙ assoc_seven old (mark_text Section) letter (mark_text Title) letter (mark_text Region) letter (mark_text Table)
    ∙ ap (λ (l : List ℕ). old ++ (mark_text Section ++ l ++ mark_text Title ++ l ++ mark_text Region ++ l ++ mark_text Table)) is

-- ---- columns

-- one column more
pub heads_more : (n day : ℕ) (old new : List ℕ) → AreHeads n day old → IsHeadPut (day + n) old new → AreHeads (n + 1) day new
heads_more n day old new are put =
    subst (λ (k : ℕ). AreHeads k day new) (sym (add-one n)) (heads_longer n day old put.date new are put.is_date put.written)

pub heads_whole : (n count day : ℕ) (text : List ℕ) → AreHeads n day text → n ≤ count → count ≤ n → AreHeads count day text
heads_whole n count day text are within over =
    let same : n ≡ count = omega (arith, within, over) in
    subst (λ (k : ℕ). AreHeads k day text) same are
