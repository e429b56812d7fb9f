-- A list of live bookings and its index, after each change.
use Rattle.std.proofs.Common.{◌≡◌, ℕ, zero, suc, ◌+◌, ◌<◌, ◌≤◌, List, [], ◌∷◌, ◌++◌, length, get_or, drop, position, Option, Some, None, IfSome, if◌then◌else◌, arith, refl, ap, sym, subst, ◌∙◌}
use Rattle.seat_bookings.proofs.Common.{Place, Booking, FlightBook, Key, confirmed_at, is_for, book_at, key_for, key_of, same_key, number_of, AreLive, reduced}
use Rattle.std.proofs.lemmas.List.Quantifiers.{position-Some}
use Rattle.std.specs.Box.{with_value}
use Rattle.std.specs.Global.{Box}
use Rattle.std.specs.HashMap.{get}
use Rattle.seat_bookings.specs.Books.{queue_at, SameBooks}
use Rattle.seat_bookings.specs.Live.{Index, IsListed, IsNumbersOf, Numbers, PutsNumber, PutsWhere}
use Rattle.seat_bookings.specs.Numbers.{SameIndex, SameNumbers}
use Rattle.seat_bookings.proofs.Live.Keys.{number_more}
use Rattle.seat_bookings.proofs.Live.Changes.{live_held, live_reduced, number_held, number_less, number_gone}
use Rattle.seat_nesting.proofs.Rooms.{drop_first}

-- ---- the index behind its box
pub puts_in : (index : Index) (b : Box Numbers) (old new : Numbers) (key : Key) (n : Option ℕ) → Some b ≡ index
    → old ≡ b.value → PutsNumber old new key n → PutsWhere index (Some (with_value b new)) key n
puts_in index b old new key n is value puts =
    let P : Index → Type 0 = λ i. PutsWhere i (Some (with_value b new)) key n in
    let Q : Numbers → Type 0 = λ m. PutsNumber m new key n in
    subst P is (subst Q value puts)

pub same_in : (index : Index) (b : Box Numbers) (old new : Numbers) → Some b ≡ index → old ≡ b.value
    → SameNumbers old new → SameIndex index (Some (with_value b new))
same_in index b old new is value same =
    let P : Index → Type 0 = λ i. SameIndex i (Some (with_value b new)) in
    let Q : Numbers → Type 0 = λ m. SameNumbers m new in
    subst P is (subst Q value same)

pub listed_at : (bs : List Booking) (index : Index) (b : Box Numbers) (key : Key) → IsListed bs index → index ≡ Some b
    → get same_key b.value key ≡ number_of key bs
listed_at bs index b key h is = let P : Index → Type 0 = λ i. IfSome i (λ numbers. IsNumbersOf numbers.value bs) in (subst P is h.found).at key

-- ---- a list and its index
pub listed_same : (bs : List Booking) (old new : Index) → IsListed bs old → SameIndex old new → IsListed bs new
listed_same bs None new h same = subst (IsListed bs) (sym same) h
listed_same bs (Some old) None h same = absurd same
listed_same bs (Some old) (Some new) h same = record { live = h.live; found = record { at = λ key. same.at key ∙ h.found.at key } }

pub listed_held : (n : ℕ) (bs : List Booking) (index : Index) → IsListed bs index → IsListed (confirmed_at bs n) index
listed_held n bs None h = record { live = live_held n bs h.live; found = tt }
listed_held n bs (Some numbers) h = record {
  live = live_held n bs h.live;
  found = record { at = λ key. h.found.at key ∙ sym (number_held key n bs) };
}

pub listed_more : (bs : List Booking) (old new : Index) (b : Booking) → IsListed bs old → AreLive (bs ++ b ∷ [])
    → PutsWhere old new (key_of b) (Some b.number) → IsListed (bs ++ b ∷ []) new
listed_more bs None new b h live puts = subst (IsListed (bs ++ b ∷ [])) (sym puts) (record { live = live; found = tt })
listed_more bs (Some old) None b h live puts = absurd puts
listed_more bs (Some old) (Some new) b h live puts = record {
  live = live;
  found = record {
    at = λ key.
        puts.at key
        ∙ (ap (λ (o : Option ℕ). if same_key (key_of b) key then Some b.number else o) (h.found.at key)
        ∙ sym (number_more key bs b live.apart));
  };
}

pub listed_less : (bs : List Booking) (index : Index) (l : List ℕ) (p : Place) (k n i : ℕ) (b : Booking)
    → IsListed bs index → position (is_for l p k) bs ≡ Some i → b ≡ get_or bs i b → n < b.seats
    → IsListed (reduced (is_for l p k) n bs) index
listed_less bs None l p k n i b h found is lt = record { live = live_reduced (is_for l p k) n bs h.live; found = tt }
listed_less bs (Some numbers) l p k n i b h found is lt =
    let less : n < (get_or bs i b).seats = rw (← is) lt in
    record {
      live = live_reduced (is_for l p k) n bs h.live;
      found = record { at = λ key. h.found.at key ∙ sym (number_less key l p k n bs i b (position-Some (is_for l p k) bs i b found) less) };
    }

pub listed_gone : (bs : List Booking) (old new : Index) (l : List ℕ) (p : Place) (k n i : ℕ) (b : Booking)
    → IsListed bs old → position (is_for l p k) bs ≡ Some i → b ≡ get_or bs i b → b.seats ≤ n
    → PutsWhere old new (key_for l p k) None → IsListed (reduced (is_for l p k) n bs) new
listed_gone bs None new l p k n i b h found is le puts = subst (IsListed (reduced (is_for l p k) n bs)) (sym puts) (record { live = live_reduced (is_for l p k) n bs h.live; found = tt })
listed_gone bs (Some old) None l p k n i b h found is le puts = absurd puts
listed_gone bs (Some old) (Some new) l p k n i b h found is le puts =
    let all : (get_or bs i b).seats ≤ n = rw (← is) le in
    record {
      live = live_reduced (is_for l p k) n bs h.live;
      found = record {
        at = λ key.
            puts.at key
            ∙ (ap (λ (o : Option ℕ). if same_key (key_for l p k) key then None else o) (h.found.at key)
            ∙ sym (number_gone key l p k n bs i b h.live.apart (position-Some (is_for l p k) bs i b found) all));
      };
    }

-- ---- the index, made from the last booking to the first
pub numbers_same : (old new : Numbers) (bs : List Booking) → IsNumbersOf old bs → SameNumbers old new
    → IsNumbersOf new bs
numbers_same old new bs h same = record { at = λ key. same.at key ∙ h.at key }

drop_all : (bs : List Booking) (n : ℕ) → length bs ≤ n → drop n bs ≡ []
drop_all [] zero le = refl
drop_all [] (suc n) le = refl
drop_all (b ∷ bs) zero le = absurd (omega arith)
drop_all (b ∷ bs) (suc n) le = drop_all bs n (omega arith)

pub numbers_none : (numbers : Numbers) (bs : List Booking) (n : ℕ) → numbers.entries ≡ [] → length bs ≤ n
    → IsNumbersOf numbers (drop n bs)
numbers_none numbers bs n none le =
    let P : List Booking → Type 0 = λ xs. IsNumbersOf numbers xs in
    subst P (sym (drop_all bs n le)) (record { at = λ key. rw none refl })

pub numbers_next : (old new : Numbers) (bs : List Booking) (i j : ℕ) (b : Booking) → IsNumbersOf old (drop j bs)
    → j ≡ i + 1 → i < length bs → b ≡ get_or bs i b → PutsNumber old new (key_of b) (Some b.number)
    → IsNumbersOf new (drop i bs)
numbers_next old new bs i j b h next lt is puts =
    let P : List Booking → Type 0 = λ xs. IsNumbersOf new xs in
    subst P (sym (drop_first bs i j b next lt is))
    (record { at = λ key. puts.at key ∙ ap (λ (o : Option ℕ). if same_key (key_of b) key then Some b.number else o) (h.at key) })

-- ---- one book more, without bookings
book_more : (books : List FlightBook) (b : FlightBook) → b.bookings.items ≡ [] → (f : ℕ)
    → book_at (books ++ b ∷ []) f ≡ book_at books f
book_more [] b e zero = e
book_more [] b e (suc f) = refl
book_more (x ∷ xs) b e zero = refl
book_more (x ∷ xs) b e (suc f) = book_more xs b e f

queue_more : (books : List FlightBook) (b : FlightBook) → b.queue.bookings ≡ [] → (f : ℕ)
    → queue_at (books ++ b ∷ []) f ≡ queue_at books f
queue_more [] b e zero = e
queue_more [] b e (suc f) = refl
queue_more (x ∷ xs) b e zero = refl
queue_more (x ∷ xs) b e (suc f) = queue_more xs b e f

pub same_opened : (books : List FlightBook) (b : FlightBook) → b.bookings.items ≡ [] → b.queue.bookings ≡ []
    → SameBooks books (books ++ b ∷ [])
same_opened books b none idle = record { each = λ f. book_more books b none f; queues = λ f. queue_more books b idle f }
