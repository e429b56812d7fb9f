-- The lines of changes, and of classes that fall short.
use Rattle.std.proofs.Common.{◌≡◌, ℕ, List, [], ◌∷◌, ◌++◌, refl, ap, ◌∙◌, append_assoc, codes}
use Rattle.airline_base.specs.Days.{IsDateText}
use Rattle.seat_desk.specs.FlightsDesk.{IsPut}
use Rattle.seat_lists.proofs.LiveTexts.{one_line}
use Rattle.limit_changes.specs.Lines.{IsDayPut, IsLegName, IsNamePut, IsRowLine, IsShortLine, IsUnnamedLine, entry_text, front_text, pair_text, short_text, unnamed_text}
use Rattle.limit_changes.specs.declared.legs.NamedLeg.{NamedLeg}
use Rattle.limit_changes.specs.declared.rows.Row.{Row}
use Rattle.limit_changes.specs.declared.shorts.Short.{Short}

pub day_put : (n : ℕ) (old new bytes : List ℕ) → IsDateText n bytes → new ≡ old ++ bytes → IsDayPut n old new
day_put n old new bytes is put = record { part = bytes; is_day = is; written = put }

pub three : (o a b c : List ℕ) → ((o ++ a) ++ b) ++ c ≡ o ++ (a ++ b ++ c)
three o a b c = simp append_assoc

pub name_put : (leg : NamedLeg) (old a b new : List ℕ) → a ≡ old ++ front_text leg → IsDayPut leg.run.day a b → new ≡ b ++ pair_text leg
    → IsNamePut leg old new
name_put leg old a b new is_a day is_new = record {
  part = front_text leg ++ day.part ++ pair_text leg;
  is_name = record { day = day.part; is_day = day.is_day; written = refl };
  written =
      is_new ∙ ap (λ (l : List ℕ). l ++ pair_text leg) (day.written ∙ ap (λ (l : List ℕ). l ++ day.part) is_a)
      ∙ three old (front_text leg) day.part (pair_text leg);
}

pub row_put : (row : Row) (old a b new : List ℕ) → a ≡ old ++ codes "AU " → IsNamePut row.leg a b → new ≡ b ++ entry_text row
    → IsPut (λ n. IsRowLine) 0 (row ∷ []) old new
row_put row old a b new is_a name is_new =
    let line : List ℕ = codes "AU " ++ name.part ++ entry_text row in
    let is_line : IsRowLine row line = record { name = name.part; is_name = name.is_name; written = refl } in
    one_line IsRowLine row old new line is_line
    (is_new ∙ ap (λ (l : List ℕ). l ++ entry_text row) (name.written ∙ ap (λ (l : List ℕ). l ++ name.part) is_a)
    ∙ three old (codes "AU ") name.part (entry_text row))

pub short_put : (short : Short) (old a b new : List ℕ) → a ≡ old ++ codes "SHORT " → IsNamePut short.leg a b → new ≡ b ++ short_text short
    → IsPut (λ n. IsShortLine) 0 (short ∷ []) old new
short_put short old a b new is_a name is_new =
    let line : List ℕ = codes "SHORT " ++ name.part ++ short_text short in
    let is_line : IsShortLine short line = record { name = name.part; is_name = name.is_name; written = refl } in
    one_line IsShortLine short old new line is_line
    (is_new ∙ ap (λ (l : List ℕ). l ++ short_text short) (name.written ∙ ap (λ (l : List ℕ). l ++ name.part) is_a)
    ∙ three old (codes "SHORT ") name.part (short_text short))

pub unnamed_put : (short : Short) (old a b new : List ℕ) → a ≡ old ++ codes "SHORT " → IsNamePut short.leg a b → new ≡ b ++ unnamed_text short
    → IsPut (λ n. IsUnnamedLine) 0 (short ∷ []) old new
unnamed_put short old a b new is_a name is_new =
    let line : List ℕ = codes "SHORT " ++ name.part ++ unnamed_text short in
    let is_line : IsUnnamedLine short line = record { name = name.part; is_name = name.is_name; written = refl } in
    one_line IsUnnamedLine short old new line is_line
    (is_new ∙ ap (λ (l : List ℕ). l ++ unnamed_text short) (name.written ∙ ap (λ (l : List ℕ). l ++ name.part) is_a)
    ∙ three old (codes "SHORT ") name.part (unnamed_text short))
