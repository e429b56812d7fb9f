-- What is kept by name, step by step.
use Rattle.std.proofs.Common.{◌≡◌, ℕ, ◌+◌, ◌<◌, ◌≤◌, List, [], ◌∷◌, ◌++◌, length, take, get_or, Option, Some, None, sym, ap, subst, ◌∙◌, append_assoc}
use Rattle.std.specs.List.{flat_map}
use Rattle.std.proofs.lemmas.Grind.{flat_map-append}
use Rattle.std.proofs.lemmas.List.{append-nil, map_push, take_all, take_more}
use Rattle.airimp_lines.specs.declared.requests.Request.{Request}
use Rattle.ssim_flights.specs.declared.flight.Flight.{Flight as Flown}
use Rattle.seat_journal.specs.declared.entry.Advice.{Advice}
use Rattle.seat_journal.specs.declared.entry.Entry.{Entry}
use Rattle.seat_rules.specs.declared.booking.Booking.{Booking}
use Rattle.desk_telling.specs.Telling.{line_numbered}
use Rattle.partner_lists.specs.Names.{Finds, Kept, Puts}
use Rattle.partner_lists.specs.Reading.{numbered_names, own_name}
use Rattle.partner_lists.specs.declared.name.Name.{Name}
use Rattle.partner_lists.proofs.Keeping.{finds_more}
use Rattle.partner_questions.specs.Here.{all_named, name_here, named_here}
use Rattle.partner_questions.specs.Noted.{Notes}
use Rattle.partner_questions.specs.Touches.{advice_touched, made_in, own_touched, paired, touched, touched_in}

module _ {V : Type 0} where
  pub notes_nothing : (kept : Kept V) → Notes [] kept kept
  notes_nothing kept = record { behind = λ before found. subst (λ (l : List (Name × V)). Finds kept l) (sym (append-nil before)) found }

  pub notes_none : (name : Option Name) (value : V) (kept : Kept V) → name ≡ None → Notes (paired name value) kept kept
  notes_none name value kept e = rw e (notes_nothing kept)

  pub notes_one : (name : Option Name) (n : Name) (value : V) (old new : Kept V) → name ≡ Some n → Puts old new n value
      → Notes (paired name value) old new
  notes_one name n value old new e put = rw e (record { behind = λ before found. finds_more old new before n value found put })

  notes_both : (ps qs : List (Name × V)) (a b c : Kept V) → Notes ps a b → Notes qs b c → Notes (ps ++ qs) a c
  notes_both ps qs a b c p q = record {
    behind = λ before found.
        subst (λ (l : List (Name × V)). Finds c l) (append_assoc before ps qs) (q.behind (before ++ ps) (p.behind before found));
  }

  flat_more : {A : Type 0} (f : A → List (Name × V)) (i : ℕ) (xs : List A) (x : A) → i < length xs → x ≡ get_or xs i x
      → flat_map f (take (i + 1) xs) ≡ flat_map f (take i xs) ++ f x
  flat_more {A} f i xs x in_range here =
      let longer : take (i + 1) xs ≡ take i xs ++ x ∷ [] = take_more xs i x in_range ∙ ap (λ (y : A). take i xs ++ y ∷ []) (sym here) in
      ap (flat_map f) longer ∙ flat_map-append f (take i xs) (x ∷ [])
      ∙ ap (λ (l : List (Name × V)). flat_map f (take i xs) ++ l) (append-nil (f x))

  each_more : {A : Type 0} (f : A → List (Name × V)) (i : ℕ) (xs : List A) (x : A) (old mid new : Kept V)
      → Notes (flat_map f (take i xs)) old mid → i < length xs → x ≡ get_or xs i x → Notes (f x) mid new
      → Notes (flat_map f (take (i + 1) xs)) old new
  each_more {A} f i xs x old mid new so_far in_range here one =
      subst (λ (l : List (Name × V)). Notes l old new) (sym (flat_more f i xs x in_range here))
      (notes_both (flat_map f (take i xs)) (f x) old mid new so_far one)

  each_whole : {A : Type 0} (f : A → List (Name × V)) (i : ℕ) (xs : List A) (old new : Kept V)
      → Notes (flat_map f (take i xs)) old new → length xs ≤ i → Notes (flat_map f xs) old new
  each_whole {A} f i xs old new so_far over = subst (λ (l : List A). Notes (flat_map f l) old new) (take_all i xs over) so_far

-- ---- lines

pub advice_noted : (flights : List Flown) (journal : List Entry) (e : Entry) (a : Advice) (name : Option Name) (old new : Kept ℕ)
    → name ≡ made_in flights (line_numbered journal a.number) → Notes (paired name e.number) old new
    → Notes (advice_touched flights journal e a) old new
advice_noted flights journal e a name old new same notes = subst (λ (o : Option Name). Notes (paired o e.number) old new) same notes

pub advices_more : (flights : List Flown) (journal : List Entry) (e : Entry) (i : ℕ) (xs : List Advice) (a : Advice) (old mid new : Kept ℕ)
    → Notes (flat_map (advice_touched flights journal e) (take i xs)) old mid → i < length xs → a ≡ get_or xs i a
    → Notes (advice_touched flights journal e a) mid new
    → Notes (flat_map (advice_touched flights journal e) (take (i + 1) xs)) old new
advices_more flights journal e i xs a old mid new = each_more (advice_touched flights journal e) i xs a old mid new

pub advices_whole : (flights : List Flown) (journal : List Entry) (e : Entry) (i : ℕ) (xs : List Advice) (old new : Kept ℕ)
    → Notes (flat_map (advice_touched flights journal e) (take i xs)) old new → length xs ≤ i
    → Notes (flat_map (advice_touched flights journal e) xs) old new
advices_whole flights journal e i xs old new = each_whole (advice_touched flights journal e) i xs old new

pub line_noted : (flights : List Flown) (journal : List Entry) (e : Entry) (name : Option Name) (old mid new : Kept ℕ)
    → name ≡ own_touched flights e → Notes (paired name e.number) old mid
    → Notes (flat_map (advice_touched flights journal e) e.advices) mid new → Notes (touched_in flights journal e) old new
line_noted flights journal e name old mid new same own advices =
    notes_both (paired (own_touched flights e) e.number) (flat_map (advice_touched flights journal e) e.advices) old mid new
    (subst (λ (o : Option Name). Notes (paired o e.number) old mid) same own) advices

pub lines_more : (flights : List Flown) (journal : List Entry) (i : ℕ) (xs : List Entry) (e : Entry) (old mid new : Kept ℕ)
    → Notes (flat_map (touched_in flights journal) (take i xs)) old mid → i < length xs → e ≡ get_or xs i e
    → Notes (touched_in flights journal e) mid new → Notes (flat_map (touched_in flights journal) (take (i + 1) xs)) old new
lines_more flights journal i xs e old mid new = each_more (touched_in flights journal) i xs e old mid new

pub lines_whole : (flights : List Flown) (journal : List Entry) (i : ℕ) (old new : Kept ℕ)
    → Notes (flat_map (touched_in flights journal) (take i journal)) old new → length journal ≤ i → Notes (touched flights journal) old new
lines_whole flights journal i old new = each_whole (touched_in flights journal) i journal old new

pub lines_found : (flights : List Flown) (journal : List Entry) (old new : Kept ℕ) → Finds old [] → Notes (touched flights journal) old new
    → Finds new (touched flights journal)
lines_found flights journal old new none notes = notes.behind [] none

-- ---- bookings

pub bookings_more : (flights : List Flown) (i : ℕ) (xs : List Booking) (b : Booking) (name : Option Name) (old new : Kept Booking)
    → Finds old (all_named flights (take i xs)) → i < length xs → b ≡ get_or xs i b → name ≡ name_here flights b
    → Notes (paired name b) old new → Finds new (all_named flights (take (i + 1) xs))
bookings_more flights i xs b name old new found in_range here same notes =
    let own : Notes (named_here flights b) old new = subst (λ (o : Option Name). Notes (paired o b) old new) same notes in
    subst (λ (l : List (Name × Booking)). Finds new l) (sym (flat_more (named_here flights) i xs b in_range here))
    (own.behind (all_named flights (take i xs)) found)

pub bookings_whole : (flights : List Flown) (i : ℕ) (xs : List Booking) (new : Kept Booking) → Finds new (all_named flights (take i xs))
    → length xs ≤ i → Finds new (all_named flights xs)
bookings_whole flights i xs new found over = subst (λ (l : List Booking). Finds new (all_named flights l)) (take_all i xs over) found

-- ---- the lines of a list

pub rows_more : (i : ℕ) (xs : List Request) (r : Request) (name : Name) (old new : Kept ℕ) → Finds old (numbered_names (take i xs))
    → i < length xs → r ≡ get_or xs i r → name ≡ own_name r → Puts old new name r.line → Finds new (numbered_names (take (i + 1) xs))
rows_more i xs r name old new found in_range here same put =
    let pair : Request → Name × ℕ = λ (x : Request). (own_name x, x.line) in
    let longer : take (i + 1) xs ≡ take i xs ++ r ∷ [] = take_more xs i r in_range ∙ ap (λ (y : Request). take i xs ++ y ∷ []) (sym here) in
    let own : Puts old new (own_name r) r.line = subst (λ (k : Name). Puts old new k r.line) same put in
    let more : Finds new (numbered_names (take i xs) ++ (own_name r, r.line) ∷ []) = finds_more old new (numbered_names (take i xs)) (own_name r) r.line found own in
    subst (λ (l : List Request). Finds new (numbered_names l)) (sym longer)
    (subst (λ (l : List (Name × ℕ)). Finds new l) (sym (map_push pair (take i xs) r)) more)

pub rows_whole : (i : ℕ) (xs : List Request) (new : Kept ℕ) → Finds new (numbered_names (take i xs)) → length xs ≤ i
    → Finds new (numbered_names xs)
rows_whole i xs new found over = subst (λ (l : List Request). Finds new (numbered_names l)) (take_all i xs over) found
