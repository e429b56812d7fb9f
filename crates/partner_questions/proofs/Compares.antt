-- Which bookings are compared, and all differences.
use Rattle.std.proofs.Common.{◌≡◌, ◌&&◌, ◌-◌, Bool, true, false, ℕ, ◌+◌, ◌<◌, ◌≤◌, List, [], ◌∷◌, ◌++◌, length, take, get_or, slice_get, Option, Some, None, refl, sym, ap, ◌∙◌, append_assoc}
use Rattle.std.specs.List.{filter, flat_map}
use Rattle.std.specs.HashMap.{get}
use Rattle.std.specs.Prelude.{if◌then◌else◌, option_map, option_to_list}
use Rattle.std.proofs.lemmas.Grind.{flat_map-append}
use Rattle.std.proofs.lemmas.List.{append-nil, take_all, take_more}
use Rattle.std.proofs.lemmas.List.Concat.{flat_map-cons}
use Rattle.std.proofs.lemmas.List.Elements.{filter-append}
use Rattle.airimp_lines.specs.declared.requests.Request.{Request}
use Rattle.airline_base.specs.declared.place.Place.{Place}
use Rattle.ssim_flights.specs.declared.flight.DatedLeg.{DatedLeg}
use Rattle.ssim_flights.specs.declared.flight.Flight.{Flight as Flown}
use Rattle.seat_journal.specs.declared.entry.Entry.{Entry}
use Rattle.seat_rules.specs.declared.booking.Booking.{Booking}
use Rattle.seat_lists.specs.Picking.{has_locator, is_asked, keeps_departure, keeps_flight, keeps_on, keeps_place, picked}
use Rattle.seat_lists.specs.declared.picking.Designator.{Designator}
use Rattle.seat_lists.specs.declared.picking.Wanted.{Wanted}
use Rattle.partner_lists.specs.Names.{Finds, Kept, last_named, same_name}
use Rattle.partner_lists.specs.Reading.{numbered_names, own_name}
use Rattle.partner_lists.specs.declared.name.Name.{Name}
use Rattle.partner_questions.specs.Differences.{differences, our_difference, our_differences, our_found, same_lines, standing_of, their_difference, their_differences, their_found, under}
use Rattle.partner_questions.specs.Here.{all_named, compared, is_flown, is_made_by, is_on_flight, name_here}
use Rattle.partner_questions.specs.Touches.{touched}
use Rattle.partner_questions.specs.declared.difference.Difference.{Difference}
use Rattle.partner_questions.specs.declared.difference.Standing.{Standing}

-- ---- which bookings

each_locator : (locators : List (List ℕ)) (b : Booking) (kept : Bool) → locators ≡ [] → (true && has_locator locators b && kept) ≡ kept
each_locator locators b kept e = rw e refl

each_flight : (d : Option Designator) (day : Option ℕ) (flight : Flown) (leg : Option DatedLeg) → d ≡ None → day ≡ None
    → (keeps_flight d flight && keeps_departure day leg) ≡ true
each_flight d day flight leg e1 e2 = rw (e1, e2) refl

each_place : (w : Wanted) (place : Place) (o : Option Flown) → w.flight ≡ None → w.day ≡ None → keeps_on w place o ≡ is_flown o
each_place w place None e1 e2 = refl
each_place w place (Some flight) e1 e2 = each_flight w.flight w.day flight (slice_get flight.legs place.from) e1 e2

-- where no locator, no flight and no day is asked for, each booking on a flight is
asked_all : (flights : List Flown) (w : Wanted) (b : Booking) → w.locators.now ≡ [] → w.flight ≡ None → w.day ≡ None
    → is_asked flights w false b ≡ is_on_flight flights b
asked_all flights w b e1 e2 e3 =
    each_locator w.locators.now b (keeps_place flights w b.place) e1 ∙ each_place w b.place (slice_get flights b.place.flight) e2 e3

filter_same : (p q : Booking → Bool) → ((b : Booking) → p b ≡ q b) → (xs : List Booking) → filter p xs ≡ filter q xs
filter_same p q same [] = refl
filter_same p q same (b ∷ bs) = cases (q b) refl (filter_same p q same bs) where
  cases : (t : Bool) → q b ≡ t → filter p bs ≡ filter q bs → filter p (b ∷ bs) ≡ filter q (b ∷ bs)
  cases true e rest = rw (same b, e) (ap (λ (l : List Booking). b ∷ l) rest)
  cases false e rest = rw (same b, e) rest

filter_one : (p : Booking → Bool) (b : Booking) → (if p b then b ∷ [] else []) ≡ filter p (b ∷ [])
filter_one p b = cases (p b) refl where
  cases : (t : Bool) → p b ≡ t → (if p b then b ∷ [] else []) ≡ filter p (b ∷ [])
  cases true e = rw e refl
  cases false e = rw e refl

pub compared_are : (flights : List Flown) (session : Option ℕ) (journal lines : List Entry) (bookings live slice all : List Booking) (w : Wanted)
    → w.locators.now ≡ [] → w.flight ≡ None → w.day ≡ None → live ≡ picked flights w false bookings → slice ≡ live → lines ≡ journal
    → all ≡ filter (is_made_by session lines) slice → all ≡ compared flights session journal bookings
compared_are flights session journal lines bookings live slice all w e1 e2 e3 are same at made =
    made
    ∙ ap (λ (l : List Entry). filter (is_made_by session l) slice) at
    ∙ ap (filter (is_made_by session journal))
    (same ∙ are ∙ filter_same (is_asked flights w false) (is_on_flight flights) (λ b. asked_all flights w b e1 e2 e3) bookings)

pub kept_one : (t : Bool) (b : Booking) (old new : List Booking) → t ≡ true → new ≡ old ++ b ∷ []
    → new ≡ old ++ (if t then b ∷ [] else [])
kept_one t b old new e is = rw e is

pub left_one : (t : Bool) (b : Booking) (old : List Booking) → t ≡ false → old ≡ old ++ (if t then b ∷ [] else [])
left_one t b old e = rw e (sym (append-nil old))

pub made_more : (session : Option ℕ) (journal : List Entry) (i : ℕ) (xs : List Booking) (b : Booking) (mid new : List Booking)
    → mid ≡ filter (is_made_by session journal) (take i xs) → i < length xs → b ≡ get_or xs i b
    → new ≡ mid ++ (if is_made_by session journal b then b ∷ [] else []) → new ≡ filter (is_made_by session journal) (take (i + 1) xs)
made_more session journal i xs b mid new so_far in_range here added =
    let test : Booking → Bool = is_made_by session journal in
    let longer : take (i + 1) xs ≡ take i xs ++ b ∷ [] = take_more xs i b in_range ∙ ap (λ (y : Booking). take i xs ++ y ∷ []) (sym here) in
    added ∙ ap (λ (l : List Booking). mid ++ l) (filter_one test b) ∙ ap (λ (l : List Booking). l ++ filter test (b ∷ [])) so_far
    ∙ sym (filter-append test (take i xs) (b ∷ [])) ∙ ap (filter test) (sym longer)

pub made_all : (session : Option ℕ) (journal : List Entry) (i : ℕ) (xs all : List Booking) → all ≡ filter (is_made_by session journal) (take i xs)
    → length xs ≤ i → all ≡ filter (is_made_by session journal) xs
made_all session journal i xs all so_far over = so_far ∙ ap (filter (is_made_by session journal)) (take_all i xs over)

-- ---- one line of the list

pub difference_found : (here : Kept Booking) (lines : Kept ℕ) (r : Request) (name : Name) (s : Option Standing) (l : Option ℕ) (d : Option Difference)
    → name ≡ own_name r → s ≡ option_map standing_of (get same_name here name) → l ≡ get same_name lines name → d ≡ their_difference r s l
    → d ≡ their_difference r (option_map standing_of (get same_name here (own_name r))) (get same_name lines (own_name r))
difference_found here lines r name s l d same found at is =
    is ∙ ap (λ (o : Option Standing). their_difference r o l) (found ∙ ap (λ (n : Name). option_map standing_of (get same_name here n)) same)
    ∙ ap (λ (o : Option ℕ). their_difference r (option_map standing_of (get same_name here (own_name r))) o) (at ∙ ap (get same_name lines) same)

-- ---- list by list

pub added_one : (o : Option Difference) (d : Difference) (old new : List Difference) → o ≡ Some d → new ≡ old ++ d ∷ [] → new ≡ old ++ option_to_list o
added_one o d old new e added = rw e added

pub added_none : (o : Option Difference) (old : List Difference) → o ≡ None → old ≡ old ++ option_to_list o
added_none o old e = rw e (sym (append-nil old))

flat_more : {A : Type 0} (f : A → List Difference) (i : ℕ) (xs : List A) (x : A) (base mid new : List Difference)
    → mid ≡ base ++ flat_map f (take i xs) → i < length xs → x ≡ get_or xs i x → new ≡ mid ++ f x
    → new ≡ base ++ flat_map f (take (i + 1) xs)
flat_more {A} f i xs x base mid new so_far in_range here added =
    let longer : take (i + 1) xs ≡ take i xs ++ x ∷ [] = take_more xs i x in_range ∙ ap (λ (y : A). take i xs ++ y ∷ []) (sym here) in
    let same : flat_map f (take (i + 1) xs) ≡ flat_map f (take i xs) ++ f x = ap (flat_map f) longer ∙ flat_map-append f (take i xs) (x ∷ []) ∙ ap (λ (l : List Difference). flat_map f (take i xs) ++ l) (append-nil (f x)) in
    added ∙ ap (λ (l : List Difference). l ++ f x) so_far ∙ append_assoc base (flat_map f (take i xs)) (f x)
    ∙ ap (λ (l : List Difference). base ++ l) (sym same)

flat_whole : {A : Type 0} (f : A → List Difference) (i : ℕ) (xs : List A) (base new : List Difference) → new ≡ base ++ flat_map f (take i xs)
    → length xs ≤ i → new ≡ base ++ flat_map f xs
flat_whole {A} f i xs base new so_far over = so_far ∙ ap (λ (l : List A). base ++ flat_map f l) (take_all i xs over)

pub none_yet : (all : List Difference) → all ≡ all ++ []
none_yet all = sym (append-nil all)

pub their_more : (here : Kept Booking) (lines : Kept ℕ) (i : ℕ) (xs : List Request) (r : Request) (d : Option Difference) (base mid new : List Difference)
    → mid ≡ base ++ flat_map (their_found (get same_name here) (get same_name lines)) (take i xs) → i < length xs → r ≡ get_or xs i r
    → d ≡ their_difference r (option_map standing_of (get same_name here (own_name r))) (get same_name lines (own_name r))
    → new ≡ mid ++ option_to_list d → new ≡ base ++ flat_map (their_found (get same_name here) (get same_name lines)) (take (i + 1) xs)
their_more here lines i xs r d base mid new so_far in_range at is added =
    flat_more (their_found (get same_name here) (get same_name lines)) i xs r base mid new so_far in_range at
    (added ∙ ap (λ (o : Option Difference). mid ++ option_to_list o) is)

pub their_whole : (here : Kept Booking) (lines : Kept ℕ) (i : ℕ) (xs : List Request) (base new : List Difference)
    → new ≡ base ++ flat_map (their_found (get same_name here) (get same_name lines)) (take i xs) → length xs ≤ i
    → new ≡ base ++ flat_map (their_found (get same_name here) (get same_name lines)) xs
their_whole here lines i xs base new = flat_whole (their_found (get same_name here) (get same_name lines)) i xs base new

pub our_more : (flights : List Flown) (listed : Kept ℕ) (here : Kept Booking) (lines : Kept ℕ) (i : ℕ) (xs : List Booking) (b : Booking) (d : Option Difference)
    (base mid new : List Difference)
    → mid ≡ base ++ flat_map (our_found flights (get same_name listed) (get same_name here) (get same_name lines)) (take i xs) → i < length xs
    → b ≡ get_or xs i b
    → d ≡ our_difference flights b (under (get same_name listed) (name_here flights b)) (under (get same_name here) (name_here flights b)) (under (get same_name lines) (name_here flights b))
    → new ≡ mid ++ option_to_list d
    → new ≡ base ++ flat_map (our_found flights (get same_name listed) (get same_name here) (get same_name lines)) (take (i + 1) xs)
our_more flights listed here lines i xs b d base mid new so_far in_range at is added =
    flat_more (our_found flights (get same_name listed) (get same_name here) (get same_name lines)) i xs b base mid new so_far in_range at
    (added ∙ ap (λ (o : Option Difference). mid ++ option_to_list o) is)

pub our_whole : (flights : List Flown) (listed : Kept ℕ) (here : Kept Booking) (lines : Kept ℕ) (i : ℕ) (xs : List Booking) (base new : List Difference)
    → new ≡ base ++ flat_map (our_found flights (get same_name listed) (get same_name here) (get same_name lines)) (take i xs) → length xs ≤ i
    → new ≡ base ++ flat_map (our_found flights (get same_name listed) (get same_name here) (get same_name lines)) xs
our_whole flights listed here lines i xs base new =
    flat_whole (our_found flights (get same_name listed) (get same_name here) (get same_name lines)) i xs base new

-- ---- what is found by name is what the last pair has

flat_same : {A : Type 0} (f g : A → List Difference) → ((x : A) → f x ≡ g x) → (xs : List A) → flat_map f xs ≡ flat_map g xs
flat_same f g same [] = refl
flat_same f g same (x ∷ xs) =
    flat_map-cons f x xs ∙ ap (λ (l : List Difference). l ++ flat_map f xs) (same x)
    ∙ ap (λ (l : List Difference). g x ++ l) (flat_same f g same xs) ∙ sym (flat_map-cons g x xs)

theirs_same : (flights : List Flown) (journal : List Entry) (ours : List Booking) (theirs : List Request) (here : Kept Booking) (lines : Kept ℕ)
    → Finds here (all_named flights ours) → Finds lines (touched flights journal)
    → flat_map (their_found (get same_name here) (get same_name lines)) theirs ≡ their_differences flights journal ours theirs
theirs_same flights journal ours theirs here lines h l =
    flat_same (their_found (get same_name here) (get same_name lines))
    (their_found (λ name. last_named name (all_named flights ours)) (λ name. last_named name (touched flights journal))) one theirs
  where
    one : (r : Request) → their_found (get same_name here) (get same_name lines) r
        ≡ their_found (λ name. last_named name (all_named flights ours)) (λ name. last_named name (touched flights journal)) r
    one r =
        ap (λ (o : Option Booking). option_to_list (their_difference r (option_map standing_of o) (get same_name lines (own_name r)))) (h.at (own_name r))
        ∙ ap (λ (o : Option ℕ). option_to_list (their_difference r (option_map standing_of (last_named (own_name r) (all_named flights ours))) o)) (l.at (own_name r))

under_same : {V : Type 0} (kept : Kept V) (pairs : List (Name × V)) → Finds kept pairs → (name : Option Name)
    → under (get same_name kept) name ≡ under (λ k. last_named k pairs) name
under_same kept pairs found None = refl
under_same kept pairs found (Some name) = found.at name

ours_same : (flights : List Flown) (journal : List Entry) (ours : List Booking) (theirs : List Request) (listed : Kept ℕ) (here : Kept Booking) (lines : Kept ℕ)
    → Finds listed (numbered_names theirs) → Finds here (all_named flights ours) → Finds lines (touched flights journal)
    → flat_map (our_found flights (get same_name listed) (get same_name here) (get same_name lines)) ours ≡ our_differences flights journal ours theirs
ours_same flights journal ours theirs listed here lines t h l =
    flat_same (our_found flights (get same_name listed) (get same_name here) (get same_name lines))
    (our_found flights (λ name. last_named name (numbered_names theirs)) (λ name. last_named name (all_named flights ours)) (λ name. last_named name (touched flights journal)))
    one ours
  where
    one : (b : Booking) → our_found flights (get same_name listed) (get same_name here) (get same_name lines) b
        ≡ our_found flights (λ name. last_named name (numbered_names theirs)) (λ name. last_named name (all_named flights ours)) (λ name. last_named name (touched flights journal)) b
    one b =
        let n : Option Name = name_here flights b in
        ap (λ (o : Option ℕ). option_to_list (our_difference flights b o (under (get same_name here) n) (under (get same_name lines) n)))
        (under_same listed (numbered_names theirs) t n)
        ∙ ap (λ (o : Option Booking). option_to_list (our_difference flights b (under (λ name. last_named name (numbered_names theirs)) n) o (under (get same_name lines) n)))
        (under_same here (all_named flights ours) h n)
        ∙ ap (λ (o : Option ℕ). option_to_list (our_difference flights b (under (λ name. last_named name (numbered_names theirs)) n) (under (λ name. last_named name (all_named flights ours)) n) o))
        (under_same lines (touched flights journal) l n)

pub all_differences : (flights : List Flown) (journal : List Entry) (ours : List Booking) (theirs : List Request) (listed : Kept ℕ) (here : Kept Booking) (lines : Kept ℕ)
    (mid new : List Difference)
    → Finds here (all_named flights ours) → Finds lines (touched flights journal) → Finds listed (numbered_names theirs)
    → mid ≡ flat_map (their_found (get same_name here) (get same_name lines)) theirs
    → new ≡ mid ++ flat_map (our_found flights (get same_name listed) (get same_name here) (get same_name lines)) ours
    → new ≡ differences flights journal ours theirs
all_differences flights journal ours theirs listed here lines mid new h l t one two =
    let their : mid ≡ their_differences flights journal ours theirs = one ∙ theirs_same flights journal ours theirs here lines h l in
    two ∙ ap (λ (x : List Difference). x ++ flat_map (our_found flights (get same_name listed) (get same_name here) (get same_name lines)) ours) their
    ∙ ap (λ (x : List Difference). their_differences flights journal ours theirs ++ x) (ours_same flights journal ours theirs listed here lines t h l)

pub all_same : (flights : List Flown) (journal : List Entry) (ours : List Booking) (theirs : List Request) (here : Kept Booking) (lines : Kept ℕ)
    (mid : List Difference) (count some same : ℕ)
    → Finds here (all_named flights ours) → Finds lines (touched flights journal)
    → mid ≡ flat_map (their_found (get same_name here) (get same_name lines)) theirs
    → count ≡ length theirs → some ≡ length mid → same ≡ count - some → same ≡ same_lines flights journal ours theirs
all_same flights journal ours theirs here lines mid count some same h l one counted differ is =
    let their : mid ≡ their_differences flights journal ours theirs = one ∙ theirs_same flights journal ours theirs here lines h l in
    is ∙ ap (λ (n : ℕ). n - some) counted ∙ ap (λ (n : ℕ). length theirs - n) (differ ∙ ap (λ (x : List Difference). length x) their)
