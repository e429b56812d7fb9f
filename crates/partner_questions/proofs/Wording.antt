-- How a difference reads.
use Rattle.std.proofs.Common.{◌≡◌, ℕ, ◌+◌, ◌<◌, ◌≤◌, List, [], ◌∷◌, ◌++◌, length, take, get_or, Option, Some, None, refl, sym, ap, ◌∙◌, append_assoc}
use Rattle.std.specs.Prelude.{codes}
use Rattle.std.proofs.lemmas.List.{append-nil}
use Rattle.airline_base.specs.Days.{IsDateText}
use Rattle.airline_base.specs.Fields.{suffix_text}
use Rattle.airimp_lines.specs.declared.segment.Segment.{Segment}
use Rattle.seat_desk.specs.FlightsDesk.{IsPut}
use Rattle.seat_desk.proofs.Texts.{put_whole}
use Rattle.seat_lists.proofs.LiveTexts.{one_line, one_more}
use Rattle.partner_questions.specs.DifferenceText.{IsDifferenceLine, IsDifferenceText, IsNameText, IsSegmentName, IsWrittenBehind, difference_head, flight_text, last_text, pair_text, standings_text}
use Rattle.partner_questions.specs.declared.difference.Difference.{Difference}

pub segment_named : (s : Segment) (day old a b new : List ℕ) → a ≡ old ++ flight_text s → IsDateText s.day day → b ≡ a ++ day
    → new ≡ b ++ pair_text s → IsWrittenBehind (IsSegmentName s) old new
segment_named s day old a b new e1 is e2 e3 =
    let text : List ℕ = flight_text s ++ day ++ pair_text s in
    let is_name : IsSegmentName s text = record { day = day; is_day = is; written = refl } in
    let written : new ≡ old ++ text =
    e3 ∙ ap (λ (l : List ℕ). l ++ pair_text s) (e2 ∙ ap (λ (l : List ℕ). l ++ day) e1) ∙ parts old (flight_text s) day (pair_text s) in
    record { part = text; is_part = is_name; written = written }
  where
    parts : (o f d p : List ℕ) → ((o ++ f) ++ d) ++ p ≡ o ++ (f ++ d ++ p)
    parts o f d p = simp append_assoc

pub no_name : (o : Option Segment) (old new dash : List ℕ) → o ≡ None → dash ≡ codes "-" → new ≡ old ++ dash → IsWrittenBehind (IsNameText o) old new
no_name o old new dash e is written = rw e (record { part = dash; is_part = is; written = written })

pub some_name : (o : Option Segment) (s : Segment) (old new : List ℕ) → o ≡ Some s → IsWrittenBehind (IsSegmentName s) old new
    → IsWrittenBehind (IsNameText o) old new
some_name o s old new e behind = rw e (record { part = behind.part; is_part = behind.is_part; written = behind.written })

pub no_suffix : (o : Option ℕ) (old : List ℕ) → o ≡ None → old ≡ old ++ suffix_text o
no_suffix o old e = rw e (sym (append-nil old))

pub difference_line : (d : Difference) (old a b new : List ℕ) → a ≡ old ++ difference_head d → IsWrittenBehind (IsNameText d.segment) a b
    → new ≡ b ++ standings_text d → IsPut (λ n. IsDifferenceLine) 0 (d ∷ []) old new
difference_line d old a b new e1 named e2 =
    let line : List ℕ = difference_head d ++ named.part ++ standings_text d in
    let is_line : IsDifferenceLine d line = record { name = named.part; is_name = named.is_part; written = refl } in
    let written : new ≡ old ++ line =
    e2 ∙ ap (λ (l : List ℕ). l ++ standings_text d) (named.written ∙ ap (λ (l : List ℕ). l ++ named.part) e1)
    ∙ parts old (difference_head d) named.part (standings_text d) in
    one_line IsDifferenceLine d old new line is_line written
  where
    parts : (o h n s : List ℕ) → ((o ++ h) ++ n) ++ s ≡ o ++ (h ++ n ++ s)
    parts o h n s = simp append_assoc

pub lines_none : (text : List ℕ) → IsPut (λ n. IsDifferenceLine) 0 [] text text
lines_none text = record { part = []; is_text = refl; written = sym (append-nil text) }

pub lines_more : (i : ℕ) (xs : List Difference) (d : Difference) (old mid new : List ℕ) → IsPut (λ n. IsDifferenceLine) 0 (take i xs) old mid
    → i < length xs → d ≡ get_or xs i d → IsPut (λ n. IsDifferenceLine) 0 (d ∷ []) mid new
    → IsPut (λ n. IsDifferenceLine) 0 (take (i + 1) xs) old new
lines_more i xs d old mid new = one_more IsDifferenceLine i xs d old mid new

pub lines_whole : (i : ℕ) (xs : List Difference) (old new : List ℕ) → IsPut (λ n. IsDifferenceLine) 0 (take i xs) old new → length xs ≤ i
    → IsPut (λ n. IsDifferenceLine) 0 xs old new
lines_whole i xs old new = put_whole (λ n. IsDifferenceLine) 0 i xs old new

pub whole_text : (all : List Difference) (same differ : ℕ) (first mid new : List ℕ) → first ≡ [] → IsPut (λ n. IsDifferenceLine) 0 all first mid
    → differ ≡ length all → new ≡ mid ++ last_text same differ → IsDifferenceText all same new
whole_text all same differ first mid new none put counted last = record {
  part = put.part;
  are_lines = put.is_text;
  written = last ∙ ap (λ (l : List ℕ). l ++ last_text same differ) (put.written ∙ ap (λ (l : List ℕ). l ++ put.part) none)
      ∙ ap (λ (n : ℕ). put.part ++ last_text same n) counted;
}
