-- The rows of a session's lines, line by line.
use Rattle.std.proofs.Common.{◌≡◌, ◌≢◌, ℕ, ◌+◌, ◌<◌, ◌≤◌, List, [], ◌∷◌, ◌++◌, length, take, get_or, refl, sym, ap, ◌∙◌, subst, arith, Some}
use Rattle.std.specs.Prelude.{slice_get}
use Rattle.std.proofs.lemmas.List.{append-nil, length-append, take_all, take_more}
use Rattle.std.proofs.lemmas.Option.{get_or_from_slice_get}
use Rattle.seat_journal.specs.declared.entry.Entry.{Entry}
use Rattle.seat_rules.specs.Histories.{of_session}
use Rattle.seat_rules.proofs.Own.{own_append, own_one, own_other}
use Rattle.seat_tables.specs.Rows.{rows_from}
use Rattle.seat_tables.specs.Sheets.{ArePut, IsReady}
use Rattle.seat_tables.specs.declared.cell.Cell.{Cell}
use Rattle.seat_tables.specs.declared.sheet.Sheet.{Sheet}
use Rattle.seat_tables.proofs.Putting.{put_more, put_none}

-- so many lines of the session stand in the front, and their rows are written
pub record WrittenSoFar (names : List (List ℕ)) (rows : ℕ → Entry → List (List Cell)) (session place : ℕ) (front : List Entry)
    (old new : Sheet) : Type 0 where
  pub count : place ≡ length (of_session session front)
  pub few : place ≤ length front
  pub put : ArePut names (rows_from rows 0 (of_session session front)) old new

pub none_written : (names : List (List ℕ)) (rows : ℕ → Entry → List (List Cell)) (session : ℕ) (sheet : Sheet) → IsReady sheet
    → WrittenSoFar names rows session 0 [] sheet sheet
none_written names rows session sheet ready = record {
  count = refl;
  few = omega arith;
  put = put_none names sheet ready;
}

module _ (names : List (List ℕ)) (rows : ℕ → Entry → List (List Cell)) (session place : ℕ) (lines : List Entry) (i : ℕ) (e : Entry) (old mid : Sheet)
    (lt : i < length lines) (is : e ≡ get_or lines i e) (so_far : WrittenSoFar names rows session place (take i lines) old mid) where
  one_more : take (i + 1) lines ≡ take i lines ++ e ∷ []
  one_more = take_more lines i e lt ∙ ap (λ (x : Entry). take i lines ++ x ∷ []) (sym is)

  longer : (xs : List Entry) → length (xs ++ e ∷ []) ≡ length xs + 1
  longer xs = length-append xs (e ∷ [])

  pub written_other : e.session ≢ session → WrittenSoFar names rows session place (take (i + 1) lines) old mid
  written_other not =
      let same : of_session session (take (i + 1) lines) ≡ of_session session (take i lines) =
      ap (of_session session) one_more ∙ (own_append session (take i lines) (e ∷ []) ∙ (ap (λ (l : List Entry). of_session session (take i lines) ++ l) (own_other session e not) ∙ append-nil (of_session session (take i lines)))) in
      record {
        count = so_far.count ∙ sym (ap length same);
        few = omega (arith, so_far.few, ap length one_more, longer (take i lines));
        put = subst (λ (l : List Entry). ArePut names (rows_from rows 0 l) old mid) (sym same) so_far.put;
      }

  module _ (own : e.session ≡ session) where
    grown : of_session session (take (i + 1) lines) ≡ of_session session (take i lines) ++ e ∷ []
    grown = ap (of_session session) one_more ∙ (own_append session (take i lines) (e ∷ []) ∙ ap (λ (l : List Entry). of_session session (take i lines) ++ l) (own_one session e own))

    seam : (xs rest : List Entry) → slice_get (xs ++ e ∷ rest) (length xs) ≡ Some e
    seam [] rest = refl
    seam (x ∷ xs) rest = seam xs rest

    front : (xs rest : List Entry) → take (length xs) (xs ++ rest) ≡ xs
    front [] rest = refl
    front (x ∷ xs) rest = ap (λ (l : List Entry). x ∷ l) (front xs rest)

    pub written_own : (new : Sheet) → ArePut names (rows place e) mid new
        → WrittenSoFar names rows session (place + 1) (take (i + 1) lines) old new
    written_own new one =
        let xs : List Entry = of_session session (take i lines) in
        let all : List Entry = xs ++ e ∷ [] in
        let before : ArePut names (rows_from rows 0 (take (length xs) all)) old mid =
        subst (λ (l : List Entry). ArePut names (rows_from rows 0 l) old mid) (sym (front xs (e ∷ []))) so_far.put in
        let at : e ≡ get_or all (length xs) e = sym (get_or_from_slice_get all (length xs) e e (seam xs [])) in
        let count : place ≡ 0 + length xs = omega (arith, so_far.count) in
        let here : ArePut names (rows (0 + length xs) e) mid new = subst (λ (k : ℕ). ArePut names (rows k e) mid new) count one in
        let put : ArePut names (rows_from rows 0 (take (length xs + 1) all)) old new =
        put_more names rows 0 (length xs) all e old mid new before (omega (arith, longer xs)) at here in
        let full : take (length xs + 1) all ≡ all = take_all (length xs + 1) all (omega (arith, longer xs)) in
        record {
          count = omega (arith, so_far.count, longer xs, ap length grown);
          few = omega (arith, so_far.few, ap length one_more, longer (take i lines));
          put = subst (λ (l : List Entry). ArePut names (rows_from rows 0 l) old new) (full ∙ sym grown) put;
        }

pub all_written : (names : List (List ℕ)) (rows : ℕ → Entry → List (List Cell)) (session place i : ℕ) (lines : List Entry)
    (old new : Sheet) → WrittenSoFar names rows session place (take i lines) old new → length lines ≤ i
    → ArePut names (rows_from rows 0 (of_session session lines)) old new
all_written names rows session place i lines old new so_far over =
    subst (λ (l : List Entry). ArePut names (rows_from rows 0 (of_session session l)) old new) (take_all i lines over) so_far.put
