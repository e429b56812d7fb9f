-- What the manager sets, one line after the other.
use Rattle.std.proofs.Common.{◌≡◌, ℕ, ◌+◌, ◌<◌, List, [], ◌∷◌, ◌++◌, length, map, take, drop, get_or, arith, refl, sym, ap, ◌∙◌}
use Rattle.std.proofs.lemmas.List.{drop-map, drop_more, map-append, map_more, take-append-drop}
use Rattle.seat_journal.specs.declared.entry.Entry.{Entry}
use Rattle.seat_journal.specs.declared.entry.Work.{Work}
use Rattle.seat_nesting.specs.Nesting.{Ladders}
use Rattle.seat_rules.specs.Inventory.{Inventory}
use Rattle.carry_lines.specs.Setting.{SetsFirst, lines_set, manager_line}

-- what comes first, and then the rest
pub set_both : (grid : Ladders) (past : List Entry) (xs ys : List Work)
    → lines_set grid past (xs ++ ys) ≡ lines_set grid (lines_set grid past xs) ys
set_both grid past [] ys = refl
set_both grid past (w ∷ xs) ys = set_both grid (past ++ manager_line grid past w ∷ []) xs ys

-- the journal has the lines of the first i of these, and the others come after them
pub record IsSetTo {A : Type 0} (f : A → Work) (grid : Ladders) (cap : ℕ) (past : List Entry) (items : List A) (i : ℕ) (core : Inventory) : Type 0 where
  pub same : lines_set grid past (map f items) ≡ lines_set grid core.journal (map f (drop i items))
  pub so_far : core.journal ≡ lines_set grid past (map f (take i items))
  pub grid_is : core.grid ≡ grid
  pub cap_is : core.cap ≡ cap

pub one_more : {A : Type 0} (f : A → Work) (grid : Ladders) (cap : ℕ) (past : List Entry) (items : List A) (i : ℕ) (x : A) (old new : Inventory)
    → IsSetTo f grid cap past items i old → i < length items → x ≡ get_or items i x
    → new.journal ≡ old.journal ++ manager_line old.grid old.journal (f x) ∷ [] → new.grid ≡ old.grid → new.cap ≡ old.cap
    → IsSetTo f grid cap past items (i + 1) new
one_more {A} f grid cap past items i x old new so_far inside here line grid_is cap_is =
    let rest : map f (drop i items) ≡ f x ∷ map f (drop (i + 1) items) =
    ap (map f) (drop_more items i x inside) ∙ ap (λ (y : A). f y ∷ map f (drop (i + 1) items)) (sym here) in
    let first : map f (take (i + 1) items) ≡ map f (take i items) ++ f x ∷ [] =
    map_more f items i x inside ∙ ap (λ (y : A). map f (take i items) ++ f y ∷ []) (sym here) in
    let set : new.journal ≡ old.journal ++ manager_line grid old.journal (f x) ∷ [] =
    line ∙ ap (λ (g : Ladders). old.journal ++ manager_line g old.journal (f x) ∷ []) so_far.grid_is in
    record {
      same = so_far.same ∙ ap (lines_set grid old.journal) rest
          ∙ ap (λ (l : List Entry). lines_set grid l (map f (drop (i + 1) items))) (sym set);
      so_far = set ∙ ap (λ (l : List Entry). l ++ manager_line grid l (f x) ∷ []) so_far.so_far
          ∙ sym (ap (lines_set grid past) first ∙ set_both grid past (map f (take i items)) (f x ∷ []));
      grid_is = grid_is ∙ so_far.grid_is;
      cap_is = cap_is ∙ so_far.cap_is;
    }

-- where the next one is not answered, those ahead of it were
pub stopped : {A : Type 0} (f : A → Work) (grid : Ladders) (cap : ℕ) (past : List Entry) (items : List A) (i : ℕ) (x : A) (old new : Inventory)
    → IsSetTo f grid cap past items i old → i < length items → new.journal ≡ old.journal
    → SetsFirst grid past new.journal (map f items)
stopped {A} f grid cap past items i x old new so_far inside same = record {
  asked = map f (take i items);
  left = map f (drop i items);
  parts = ap (map f) (sym (take-append-drop i items)) ∙ map-append f (take i items) (drop i items);
  some = omega (arith, ap (λ (l : List A). length (map f l)) (drop_more items i x inside));
  lines = same ∙ so_far.so_far;
}
