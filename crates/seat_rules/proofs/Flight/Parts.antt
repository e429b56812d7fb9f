-- A flight's part of a history: its lines answer as they do in the whole.
use Rattle.std.proofs.Common.{◌≡◌, ◌==◌, ◌&&◌, ℕ, Bool, true, false, nat_le, List, [], ◌∷◌, ◌++◌, Option, Some, None, find, arith, refl, ap, sym, subst, ◌∙◌, append_assoc}
use Rattle.seat_rules.proofs.Common.{Place, Ladders, Booking, Advice, is_for, is_waiting, reduced, pass, may_confirm, confirmed, advice_of, renumbered, AgreeOn}
use Rattle.std.proofs.lemmas.List.{append-nil}
use Rattle.std.proofs.lemmas.Bool.Decides.{nat_tests}
use Rattle.seat_rules.specs.Sequential.{Passed, NoneFitsAmong}
use Rattle.seat_rules.proofs.Flight.View.{view, told_on, view_here, view_away, view_append, told_append, room_over, pass_takes, pass_leaves}

-- the number of a booking does not matter to its test
pub may_confirm_view : (g h : Ladders) (anew : ℕ → ℕ) (f : ℕ) (bs : List Booking) (b : Booking) → AgreeOn f g h
    → (b.place.flight == f) ≡ true
    → may_confirm h (view anew f bs) (renumbered anew b) ≡ may_confirm g bs b
may_confirm_view g h anew f bs b a e =
    let q : b.place.flight ≡ f = grind (arith, nat_tests) in
    ap (λ r. is_waiting b.status && nat_le b.seats r) (room_over g h anew f bs b.place b.class a q)

-- what the flight sees of a pass
abbrev pub seen_pass : (ℕ → ℕ) → ℕ → Passed → Passed
seen_pass anew f p = record { bookings = view anew f p.bookings; advices = told_on anew f p.advices }

same_pass : (grid : Ladders) (l l' : List Booking) (t t' : List Advice) (xs : List Booking) → l ≡ l' → t ≡ t'
    → pass grid l t xs ≡ pass grid l' t' xs
same_pass grid l l' t t' xs p q = ap (λ (x : List Booking). pass grid x t xs) p ∙ ap (λ (x : List Advice). pass grid l' x xs) q

pub view_push : (anew : ℕ → ℕ) (f : ℕ) (done : List Booking) (b : Booking) → (b.place.flight == f) ≡ true
    → view anew f (done ++ b ∷ []) ≡ view anew f done ++ renumbered anew b ∷ []
view_push anew f done b e = view_append anew f done (b ∷ []) ∙ ap (λ (x : List Booking). view anew f done ++ x) (view_here anew f b [] e)

pub view_same : (anew : ℕ → ℕ) (f : ℕ) (done : List Booking) (b : Booking) → (b.place.flight == f) ≡ false
    → view anew f (done ++ b ∷ []) ≡ view anew f done
view_same anew f done b e = view_append anew f done (b ∷ []) ∙ (ap (λ (x : List Booking). view anew f done ++ x) (view_away anew f b [] e) ∙ append-nil (view anew f done))

told_push : (anew : ℕ → ℕ) (f : ℕ) (told : List Advice) (b : Booking) → (b.place.flight == f) ≡ true
    → told_on anew f (told ++ advice_of b ∷ []) ≡ told_on anew f told ++ advice_of (renumbered anew b) ∷ []
told_push anew f told b e = told_append anew f told (advice_of b ∷ []) ∙ ap (λ (x : List Advice). told_on anew f told ++ x) (rw e refl)

told_same : (anew : ℕ → ℕ) (f : ℕ) (told : List Advice) (b : Booking) → (b.place.flight == f) ≡ false
    → told_on anew f (told ++ advice_of b ∷ []) ≡ told_on anew f told
told_same anew f told b e = told_append anew f told (advice_of b ∷ []) ∙ (ap (λ (x : List Advice). told_on anew f told ++ x) (rw e refl) ∙ append-nil (told_on anew f told))

view_mid : (anew : ℕ → ℕ) (f : ℕ) (done : List Booking) (b : Booking) (bs : List Booking) → (b.place.flight == f) ≡ true
    → view anew f (done ++ b ∷ bs) ≡ view anew f done ++ renumbered anew b ∷ view anew f bs
view_mid anew f done b bs e = view_append anew f done (b ∷ bs) ∙ ap (λ (x : List Booking). view anew f done ++ x) (view_here anew f b bs e)

-- the pass over a flight's bookings is what the flight sees of the pass over all, over each grid that agrees on the flight
pub pass_view : (g h : Ladders) (anew : ℕ → ℕ) (f : ℕ) (done : List Booking) (told : List Advice) (bs : List Booking)
    → AgreeOn f g h
    → pass h (view anew f done) (told_on anew f told) (view anew f bs) ≡ seen_pass anew f (pass g done told bs)
pass_view g h anew f done told [] a = refl
pass_view g h anew f done told (b ∷ bs) a =
    cases (b.place.flight == f) (may_confirm g (done ++ b ∷ bs) b) refl refl
    (λ (x : Booking) (t : List Advice). pass_view g h anew f (done ++ x ∷ []) t bs a)
  where
    cases : (t u : Bool) → (b.place.flight == f) ≡ t → may_confirm g (done ++ b ∷ bs) b ≡ u
        → ((x : Booking) (t : List Advice) → pass h (view anew f (done ++ x ∷ [])) (told_on anew f t) (view anew f bs)
        ≡ seen_pass anew f (pass g (done ++ x ∷ []) t bs))
        → pass h (view anew f done) (told_on anew f told) (view anew f (b ∷ bs))
        ≡ seen_pass anew f (pass g done told (b ∷ bs))
    cases true true e may rest =
        let test : may_confirm h (view anew f done ++ renumbered anew b ∷ view anew f bs) (renumbered anew b) ≡ true =
        ap (λ (x : List Booking). may_confirm h x (renumbered anew b)) (sym (view_mid anew f done b bs e)) ∙ (may_confirm_view g h anew f (done ++ b ∷ bs) b a e ∙ may) in
        ap (λ (l : List Booking). pass h (view anew f done) (told_on anew f told) l) (view_here anew f b bs e)
        ∙ (pass_takes h (view anew f done) (told_on anew f told) (renumbered anew b) (view anew f bs) test
        ∙ (same_pass h _ _ _ _ (view anew f bs) (sym (view_push anew f done (confirmed b) e)) (sym (told_push anew f told b e))
        ∙ (rest (confirmed b) (told ++ advice_of b ∷ []) ∙ sym (ap (seen_pass anew f) (pass_takes g done told b bs may)))))
    cases true false e may rest =
        let test : may_confirm h (view anew f done ++ renumbered anew b ∷ view anew f bs) (renumbered anew b) ≡ false =
        ap (λ (x : List Booking). may_confirm h x (renumbered anew b)) (sym (view_mid anew f done b bs e)) ∙ (may_confirm_view g h anew f (done ++ b ∷ bs) b a e ∙ may) in
        ap (λ (l : List Booking). pass h (view anew f done) (told_on anew f told) l) (view_here anew f b bs e)
        ∙ (pass_leaves h (view anew f done) (told_on anew f told) (renumbered anew b) (view anew f bs) test
        ∙ (same_pass h _ _ _ _ (view anew f bs) (sym (view_push anew f done b e)) refl
        ∙ (rest b told ∙ sym (ap (seen_pass anew f) (pass_leaves g done told b bs may)))))
    cases false true e may rest =
        ap (λ (l : List Booking). pass h (view anew f done) (told_on anew f told) l) (view_away anew f b bs e)
        ∙ (same_pass h _ _ _ _ (view anew f bs) (sym (view_same anew f done (confirmed b) e)) (sym (told_same anew f told b e))
        ∙ (rest (confirmed b) (told ++ advice_of b ∷ []) ∙ sym (ap (seen_pass anew f) (pass_takes g done told b bs may))))
    cases false false e may rest =
        ap (λ (l : List Booking). pass h (view anew f done) (told_on anew f told) l) (view_away anew f b bs e)
        ∙ (same_pass h _ _ _ _ (view anew f bs) (sym (view_same anew f done b e)) refl
        ∙ (rest b told ∙ sym (ap (seen_pass anew f) (pass_leaves g done told b bs may))))

-- a pass in which nothing fits changes nothing
pub pass_none : (grid : Ladders) (done : List Booking) (told : List Advice) (bs : List Booking)
    → NoneFitsAmong grid (done ++ bs) bs → pass grid done told bs ≡ record { bookings = done ++ bs; advices = told }
pass_none grid done told [] a = ap (λ (x : List Booking). record { bookings = x; advices = told }) (sym (append-nil done))
pass_none grid done told (b ∷ bs) a =
    let P : List Booking → Type 0 = λ l. NoneFitsAmong grid l bs in
    let Q : List Booking → Type 0 = λ l. pass grid (done ++ b ∷ []) told bs ≡ record { bookings = l; advices = told } in
    pass_leaves grid done told b bs a.0 ∙ subst Q (append_assoc done (b ∷ []) bs) (pass_none grid (done ++ b ∷ []) told bs (subst P (sym (append_assoc done (b ∷ []) bs)) a.1))

-- where nothing fits in the whole, nothing fits in what the flight sees
pub none_among : (grid : Ladders) (anew : ℕ → ℕ) (f : ℕ) (book among : List Booking) → NoneFitsAmong grid book among
    → NoneFitsAmong grid (view anew f book) (view anew f among)
none_among grid anew f book [] a = tt
none_among grid anew f book (b ∷ bs) a = cases (b.place.flight == f) refl (none_among grid anew f book bs a.1) where
  cases : (t : Bool) → (b.place.flight == f) ≡ t → NoneFitsAmong grid (view anew f book) (view anew f bs)
      → NoneFitsAmong grid (view anew f book) (view anew f (b ∷ bs))
  cases true e rest =
      let P : List Booking → Type 0 = λ l. NoneFitsAmong grid (view anew f book) l in
      subst P (sym (view_here anew f b bs e)) (may_confirm_view grid grid anew f book b refl e ∙ a.0, rest)
  cases false e rest = let P : List Booking → Type 0 = λ l. NoneFitsAmong grid (view anew f book) l in subst P (sym (view_away anew f b bs e)) rest

-- a test that only bookings on the flight pass, whatever their number
pub record IsTestOn (anew : ℕ → ℕ) (f : ℕ) (test : Booking → Bool) : Type 0 where
  pub only : (b : Booking) → (b.place.flight == f) ≡ false → test b ≡ false
  pub whatever : (b : Booking) → test (renumbered anew b) ≡ test b

-- a test that none of them passes
pub record IsTestOff (f : ℕ) (test : Booking → Bool) : Type 0 where
  pub never : (b : Booking) → (b.place.flight == f) ≡ true → test b ≡ false

pub reduced_view : (anew : ℕ → ℕ) (f : ℕ) (test : Booking → Bool) (n : ℕ) (bs : List Booking) → IsTestOn anew f test
    → view anew f (reduced test n bs) ≡ reduced test n (view anew f bs)
reduced_view anew f test n [] k = refl
reduced_view anew f test n (b ∷ bs) k = cases (b.place.flight == f) (test b) (nat_le b.seats n) refl refl refl (reduced_view anew f test n bs k) where
  cases : (t u v : Bool) → (b.place.flight == f) ≡ t → test b ≡ u → nat_le b.seats n ≡ v
      → view anew f (reduced test n bs) ≡ reduced test n (view anew f bs)
      → view anew f (reduced test n (b ∷ bs)) ≡ reduced test n (view anew f (b ∷ bs))
  cases true true true e p q rest = let p' : test (renumbered anew b) ≡ true = k.whatever b ∙ p in rw (e, p, p', q) refl
  cases true true false e p q rest = let p' : test (renumbered anew b) ≡ true = k.whatever b ∙ p in rw (p, q, e, p', q) refl
  cases true false v e p q rest = let p' : test (renumbered anew b) ≡ false = k.whatever b ∙ p in rw (p, e, p', rest) refl
  cases false true v e p q rest = let no : test b ≡ false = k.only b e in absurd cc
  cases false false v e p q rest = rw (p, e, rest) refl

pub reduced_same : (anew : ℕ → ℕ) (f : ℕ) (test : Booking → Bool) (n : ℕ) (bs : List Booking) → IsTestOff f test
    → view anew f (reduced test n bs) ≡ view anew f bs
reduced_same anew f test n [] k = refl
reduced_same anew f test n (b ∷ bs) k = cases (b.place.flight == f) (test b) (nat_le b.seats n) refl refl refl (reduced_same anew f test n bs k) where
  cases : (t u v : Bool) → (b.place.flight == f) ≡ t → test b ≡ u → nat_le b.seats n ≡ v
      → view anew f (reduced test n bs) ≡ view anew f bs → view anew f (reduced test n (b ∷ bs)) ≡ view anew f (b ∷ bs)
  cases true true v e p q rest = let no : test b ≡ false = k.never b e in absurd cc
  cases true false v e p q rest = rw (p, e, rest) refl
  cases false true true e p q rest = rw (p, q, e) refl
  cases false true false e p q rest = rw (p, q, e) refl
  cases false false v e p q rest = rw (p, e, rest) refl

-- the booking found, under its new number
abbrev pub found_anew : (ℕ → ℕ) → Option Booking → Option Booking
found_anew anew None = None
found_anew anew (Some b) = Some (renumbered anew b)

pub find_view : (anew : ℕ → ℕ) (f : ℕ) (test : Booking → Bool) (bs : List Booking) → IsTestOn anew f test
    → find test (view anew f bs) ≡ found_anew anew (find test bs)
find_view anew f test [] k = refl
find_view anew f test (b ∷ bs) k = cases (b.place.flight == f) (test b) refl refl (find_view anew f test bs k) where
  cases : (t u : Bool) → (b.place.flight == f) ≡ t → test b ≡ u
      → find test (view anew f bs) ≡ found_anew anew (find test bs)
      → find test (view anew f (b ∷ bs)) ≡ found_anew anew (find test (b ∷ bs))
  cases true true e p rest = let p' : test (renumbered anew b) ≡ true = k.whatever b ∙ p in rw (e, p', p) refl
  cases true false e p rest = let p' : test (renumbered anew b) ≡ false = k.whatever b ∙ p in rw (e, p', p) rest
  cases false true e p rest = let no : test b ≡ false = k.only b e in absurd cc
  cases false false e p rest = rw (e, p) rest

pub other_flight : (locator : List ℕ) (p : Place) (class f : ℕ) (b : Booking) → (b.place.flight == p.flight) ≡ false
    → is_for locator p class b ≡ false
other_flight locator p class f b e = rw e (grind (arith, nat_tests))
