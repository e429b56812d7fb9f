-- The fields of a record, one value or name behind the other.
use Rattle.std.proofs.Common.{◌≡◌, ℕ, zero, suc, ◌+◌, ◌<◌, ◌≤◌, List, [], ◌∷◌, ◌++◌, length, take, map, refl, sym, ap, subst, ◌∙◌, get_or, arith, Bor}
use Rattle.std.proofs.lemmas.List.{length-map, take_all, take_more}
use Rattle.seat_tables.specs.Cells.{IsCellText}
use Rattle.csv.specs.declared.writer.QuoteStyle.TheVariants as style
use Rattle.csv.specs.declared.writer.WriterBuilder.{WriterBuilder}
use Rattle.seat_tables.specs.Rows.{AreTexts, writer_of}
use Rattle.seat_tables.specs.declared.sheet.Form.{Form}
use Rattle.seat_tables.specs.declared.sheet.Form.TheVariants.{Text, Csv, Json}
use Rattle.seat_tables.specs.declared.cell.Cell.{Cell}

-- ---- values

-- the texts of the values so far are the fields, and no field is begun
pub record TextsSoFar (row : List Cell) (i : ℕ) (fields : List (List ℕ)) (begun : List ℕ) : Type 0 where
  pub texts : AreTexts (take i row) fields
  pub none_begun : begun ≡ []

pub no_texts : (row : List Cell) (fields : List (List ℕ)) (begun : List ℕ) → fields ≡ [] → begun ≡ [] → TextsSoFar row 0 fields begun
no_texts row fields begun none empty = record { texts = none; none_begun = empty }

text_push : (cells : List Cell) (c : Cell) (texts : List (List ℕ)) (text : List ℕ) → AreTexts cells texts → IsCellText c text
    → AreTexts (cells ++ c ∷ []) (texts ++ text ∷ [])
text_push [] c texts text none is = (text, [], is, ap (λ (l : List (List ℕ)). l ++ text ∷ []) none, refl)
text_push (x ∷ cells) c texts text are is =
    (are.0, are.1 ++ text ∷ [], are.2, ap (λ (l : List (List ℕ)). l ++ text ∷ []) are.3, text_push cells c are.1 text are.4 is)

pub text_more : (row : List Cell) (i : ℕ) (c : Cell) (fields new : List (List ℕ)) (begun after text : List ℕ)
    → TextsSoFar row i fields begun → i < length row → c ≡ get_or row i c → IsCellText c text
    → new ≡ fields ++ (begun ++ text) ∷ [] → after ≡ [] → TextsSoFar row (i + 1) new after
text_more row i c fields new begun after text before inside here is added empty =
    let longer : take (i + 1) row ≡ take i row ++ c ∷ [] = take_more row i c inside ∙ ap (λ (y : Cell). take i row ++ y ∷ []) (sym here) in
    let whole : new ≡ fields ++ text ∷ [] = added ∙ ap (λ (b : List ℕ). fields ++ (b ++ text) ∷ []) before.none_begun in
    let pushed = text_push (take i row) c fields text before.texts is in
    record {
      texts = subst (λ (l : List Cell). AreTexts l new) (sym longer)
          (subst (λ (l : List (List ℕ)). AreTexts (take i row ++ c ∷ []) l) (sym whole) pushed);
      none_begun = empty;
    }

pub texts_whole : (row : List Cell) (i : ℕ) (fields : List (List ℕ)) (begun : List ℕ) → TextsSoFar row i fields begun
    → length row ≤ i → AreTexts row fields
texts_whole row i fields begun so_far over = subst (λ (l : List Cell). AreTexts l fields) (take_all i row over) so_far.texts

-- ---- names

-- the name at a place is that of the names
pub name_at : (names : List (Bor (List ℕ))) (i : ℕ) (other : Bor (List ℕ)) (else_name : List ℕ) → i < length names
    → (get_or names i other).now ≡ get_or (map (λ n. n.now) names) i else_name
name_at [] i other else_name inside = absurd (omega (arith, inside))
name_at (n ∷ names) zero other else_name inside = refl
name_at (n ∷ names) (suc i) other else_name inside = name_at names i other else_name (omega (arith, inside))

pub names_many : (names : List (Bor (List ℕ))) → length (map (λ n. n.now) names) ≡ length names
names_many names = length-map names (λ n. n.now)

pub record NamesSoFar (names : List (List ℕ)) (i : ℕ) (fields : List (List ℕ)) (begun : List ℕ) : Type 0 where
  pub are : fields ≡ take i names
  pub none_begun : begun ≡ []

pub no_names : (names : List (List ℕ)) (fields : List (List ℕ)) (begun : List ℕ) → fields ≡ [] → begun ≡ [] → NamesSoFar names 0 fields begun
no_names names fields begun none empty = record { are = none; none_begun = empty }

pub name_more : (names : List (List ℕ)) (i : ℕ) (name : List ℕ) (fields new : List (List ℕ)) (begun after : List ℕ)
    → NamesSoFar names i fields begun → i < length names → name ≡ get_or names i name
    → new ≡ fields ++ (begun ++ name) ∷ [] → after ≡ [] → NamesSoFar names (i + 1) new after
name_more names i name fields new begun after before inside here added empty =
    let longer : take (i + 1) names ≡ take i names ++ name ∷ [] = take_more names i name inside ∙ ap (λ (y : List ℕ). take i names ++ y ∷ []) (sym here) in
    record {
      are = added ∙ ap (λ (b : List ℕ). fields ++ (b ++ name) ∷ []) before.none_begun ∙ ap (λ (l : List (List ℕ)). l ++ name ∷ []) before.are ∙ sym longer;
      none_begun = empty;
    }

pub names_whole : (names : List (Bor (List ℕ))) (i : ℕ) (fields : List (List ℕ)) (begun : List ℕ)
    → NamesSoFar (map (λ n. n.now) names) i fields begun → length names ≤ i → fields ≡ map (λ n. n.now) names
names_whole names i fields begun so_far over =
    so_far.are ∙ take_all i (map (λ n. n.now) names) (subst (λ (k : ℕ). k ≤ i) (sym (names_many names)) over)

-- ---- the writer

-- no form looks at numbers
pub style_is : (form : Form) (setup : WriterBuilder) → setup ≡ writer_of form → setup.style ≡ style.NonNumeric → ⊥
style_is Text setup is numbers = cc (sym (ap (λ (w : WriterBuilder). w.style) is) ∙ numbers)
style_is Csv setup is numbers = cc (sym (ap (λ (w : WriterBuilder). w.style) is) ∙ numbers)
style_is Json setup is numbers = cc (sym (ap (λ (w : WriterBuilder). w.style) is) ∙ numbers)
