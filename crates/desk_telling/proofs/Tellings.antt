-- What is told of lines, line by line.
use Rattle.std.proofs.Common.{◌≡◌, ℕ, ◌+◌, ◌<◌, ◌≤◌, List, [], ◌∷◌, ◌++◌, length, take, refl, sym, ap, subst, ◌∙◌, append_assoc, get_or, codes, Option, Some, None, eq-eqb, ne_eqb}
use Rattle.std.specs.List.{flat_map}
use Rattle.std.proofs.lemmas.Grind.{flat_map-append}
use Rattle.std.proofs.lemmas.List.{append-nil, take_all, take_at, take_more}
use Rattle.ssim_flights.specs.declared.flight.Flight.{Flight as Flown}
use Rattle.seat_journal.specs.declared.entry.Advice.{Advice}
use Rattle.seat_journal.specs.declared.entry.Command.{Command}
use Rattle.seat_journal.specs.declared.entry.Entry.{Entry}
use Rattle.desk_telling.specs.Telling.{Advised, AreTold, AreToldBehind, IsLonger, IsReplyLine, IsSeatsLine, IsTold, Replied, Telling, advice_to, advice_told, advices_told, made_by, reply_told, told_of, told_of_each}

-- ---- texts of two lists

pub told_both : (flights : List Flown) (desk : ℕ) (xs ys : List Telling) (s t : List ℕ) → AreTold flights desk xs s
    → AreTold flights desk ys t → AreTold flights desk (xs ++ ys) (s ++ t)
told_both flights desk [] ys s t none more = subst (λ (l : List ℕ). AreTold flights desk ys (l ++ t)) (sym none) more
told_both flights desk (x ∷ xs) ys s t is more =
    (is.0, is.1 ++ t, is.2, ap (λ (l : List ℕ). l ++ t) is.3 ∙ append_assoc is.0 is.1 t, told_both flights desk xs ys is.1 t is.4 more)

pub behind_none : (flights : List Flown) (desk : ℕ) (text : List ℕ) → AreToldBehind flights desk [] text text
behind_none flights desk text = record { part = []; are_told = refl; written = sym (append-nil text) }

pub behind_one : (flights : List Flown) (desk : ℕ) (t : Telling) (old line new : List ℕ) → IsTold flights desk t line
    → new ≡ old ++ line → AreToldBehind flights desk (t ∷ []) old new
behind_one flights desk t old line new is written = record {
  part = line;
  are_told = (line, [], is, sym (append-nil line), refl);
  written = written;
}

pub behind_both : (flights : List Flown) (desk : ℕ) (xs ys : List Telling) (old mid new : List ℕ)
    → AreToldBehind flights desk xs old mid → AreToldBehind flights desk ys mid new
    → AreToldBehind flights desk (xs ++ ys) old new
behind_both flights desk xs ys old mid new p q = record {
  part = p.part ++ q.part;
  are_told = told_both flights desk xs ys p.part q.part p.are_told q.are_told;
  written = q.written ∙ ap (λ (l : List ℕ). l ++ q.part) p.written ∙ append_assoc old p.part q.part;
}

-- ---- lists of lines, and of advices

one_each : {A : Type 0} (f : A → List Telling) (x : A) → flat_map f (x ∷ []) ≡ f x
one_each f x = append-nil (f x)

each_more : {A : Type 0} (flights : List Flown) (desk : ℕ) (f : A → List Telling) (i : ℕ) (xs : List A) (x : A)
    (old mid new : List ℕ) → AreToldBehind flights desk (flat_map f (take i xs)) old mid → i < length xs
    → x ≡ get_or xs i x → AreToldBehind flights desk (f x) mid new
    → AreToldBehind flights desk (flat_map f (take (i + 1) xs)) old new
each_more {A} flights desk f i xs x old mid new so_far in_range here one =
    let longer : take (i + 1) xs ≡ take i xs ++ x ∷ [] = take_more xs i x in_range ∙ ap (λ (y : A). take i xs ++ y ∷ []) (sym here) in
    let same : flat_map f (take (i + 1) xs) ≡ flat_map f (take i xs) ++ f x = ap (flat_map f) longer ∙ flat_map-append f (take i xs) (x ∷ []) ∙ ap (λ (l : List Telling). flat_map f (take i xs) ++ l) (one_each f x) in
    subst (λ (l : List Telling). AreToldBehind flights desk l old new) (sym same) (behind_both flights desk (flat_map f (take i xs)) (f x) old mid new so_far one)

each_whole : {A : Type 0} (flights : List Flown) (desk : ℕ) (f : A → List Telling) (i : ℕ) (xs : List A)
    (old new : List ℕ) → AreToldBehind flights desk (flat_map f (take i xs)) old new → length xs ≤ i
    → AreToldBehind flights desk (flat_map f xs) old new
each_whole {A} flights desk f i xs old new so_far over =
    subst (λ (l : List A). AreToldBehind flights desk (flat_map f l) old new) (take_all i xs over) so_far

pub advices_more : (flights : List Flown) (journal : List Entry) (desk : ℕ) (e : Entry) (i : ℕ) (xs : List Advice)
    (a : Advice) (old mid new : List ℕ) → AreToldBehind flights desk (advices_told journal desk e (take i xs)) old mid
    → i < length xs → a ≡ get_or xs i a → AreToldBehind flights desk (advice_told journal desk e a) mid new
    → AreToldBehind flights desk (advices_told journal desk e (take (i + 1) xs)) old new
advices_more flights journal desk e i xs a old mid new = each_more flights desk (advice_told journal desk e) i xs a old mid new

pub advices_whole : (flights : List Flown) (journal : List Entry) (desk : ℕ) (e : Entry) (i : ℕ) (xs : List Advice)
    (old new : List ℕ) → AreToldBehind flights desk (advices_told journal desk e (take i xs)) old new → length xs ≤ i
    → AreToldBehind flights desk (advices_told journal desk e xs) old new
advices_whole flights journal desk e i xs old new = each_whole flights desk (advice_told journal desk e) i xs old new

pub lines_more : (flights : List Flown) (journal : List Entry) (desk : ℕ) (i : ℕ) (xs : List Entry) (e : Entry)
    (old mid new : List ℕ) → AreToldBehind flights desk (told_of_each journal desk (take i xs)) old mid → i < length xs
    → e ≡ get_or xs i e → AreToldBehind flights desk (told_of journal desk e) mid new
    → AreToldBehind flights desk (told_of_each journal desk (take (i + 1) xs)) old new
lines_more flights journal desk i xs e old mid new = each_more flights desk (told_of journal desk) i xs e old mid new

pub lines_whole : (flights : List Flown) (journal : List Entry) (desk : ℕ) (i : ℕ) (xs : List Entry) (old new : List ℕ)
    → AreToldBehind flights desk (told_of_each journal desk (take i xs)) old new → length xs ≤ i
    → AreToldBehind flights desk (told_of_each journal desk xs) old new
lines_whole flights journal desk i xs old new = each_whole flights desk (told_of journal desk) i xs old new

-- ---- one reply, and one advice

pub reply_none : (flights : List Flown) (desk : ℕ) (e : Entry) (text : List ℕ) → (e.session ≡ desk → ⊥)
    → AreToldBehind flights desk (reply_told desk e) text text
reply_none flights desk e text other = rw (ne_eqb e.session desk other) (behind_none flights desk text)

pub reply_put : (flights : List Flown) (desk : ℕ) (e : Entry) (old line new : List ℕ) → e.session ≡ desk
    → IsReplyLine flights desk e e.work line → new ≡ old ++ line
    → AreToldBehind flights desk (reply_told desk e) old new
reply_put flights desk e old line new own is written = rw (eq-eqb e.session desk own) (behind_one flights desk (Replied e) old line new is written)

pub advice_none : (flights : List Flown) (journal : List Entry) (desk : ℕ) (e : Entry) (a : Advice) (text : List ℕ)
    → made_by journal desk a.number ≡ None → AreToldBehind flights desk (advice_told journal desk e a) text text
advice_none flights journal desk e a text none =
    subst (λ (o : Option Command). AreToldBehind flights desk (advice_to e a o) text text) (sym none) (behind_none flights desk text)

pub advice_put : (flights : List Flown) (journal : List Entry) (desk : ℕ) (e : Entry) (a : Advice) (c : Command)
    (old line new : List ℕ) → made_by journal desk a.number ≡ Some c
    → IsSeatsLine flights desk e c (codes "KL") a.seats line → new ≡ old ++ line
    → AreToldBehind flights desk (advice_told journal desk e a) old new
advice_put flights journal desk e a c old line new made is written =
    subst (λ (o : Option Command). AreToldBehind flights desk (advice_to e a o) old new) (sym made) (behind_one flights desk (Advised e a c) old line new is written)

-- ---- where a growth is refused

pub longer_told : (flights : List Flown) (desk : ℕ) (ts : List Telling) (old new : List ℕ)
    → AreToldBehind flights desk ts old new → IsLonger old new
longer_told flights desk ts old new told = record { part = told.part; written = told.written }

pub longer_after : (flights : List Flown) (desk : ℕ) (ts : List Telling) (old mid new : List ℕ)
    → AreToldBehind flights desk ts old mid → new ≡ mid → IsLonger old new
longer_after flights desk ts old mid new told same = record { part = told.part; written = same ∙ told.written }

pub longer_both : (old mid new : List ℕ) → IsLonger old mid → IsLonger mid new → IsLonger old new
longer_both old mid new p q = record {
  part = p.part ++ q.part;
  written = q.written ∙ ap (λ (l : List ℕ). l ++ q.part) p.written ∙ append_assoc old p.part q.part;
}

pub longer_further : (flights : List Flown) (desk : ℕ) (ts : List Telling) (old mid new : List ℕ)
    → AreToldBehind flights desk ts old mid → IsLonger mid new → IsLonger old new
longer_further flights desk ts old mid new told more =
    longer_both old mid new (longer_told flights desk ts old mid told) more

pub longer_same : (old new : List ℕ) → new ≡ old → IsLonger old new
longer_same old new same = record { part = []; written = same ∙ sym (append-nil old) }

pub cut : (old mid new : List ℕ) (n : ℕ) → IsLonger old mid → n ≡ length old → new ≡ take n mid → new ≡ old
cut old mid new n longer counted shorter = shorter ∙ ap (take n) longer.written ∙ take_at old longer.part n (sym counted)
