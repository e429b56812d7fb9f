-- Counts in a row.
use Rattle.std.proofs.Common.{◌≡◌, ◌≢◌, ◌⊎◌, ◌==◌, ◌&&◌, ℕ, ◌+◌, ◌-◌, ◌*◌, ◌<◌, ◌≤◌, Bool, true, false, List, length, take, set, replicate, get_or, Option, Some, None, inl, inr, refl, sym, ap, subst, ◌∙◌, arith, eq-eqb, ne_eqb, if◌then◌else◌}
use Rattle.std.specs.Prelude.{IsTrue, nat_lt}
use Rattle.std.specs.Char.{is_ascii_uppercase}
use Rattle.std.proofs.lemmas.Bool.{cases_lt, eqb-true}
use Rattle.std.proofs.lemmas.Bool.Decides.{nat_tests}
use Rattle.std.proofs.lemmas.List.{length-set, length-replicate, get_or-replicate, get_or-set_same, get_or-set_other, get_or_default, take_all}
use Rattle.std.proofs.lemmas.List.Sums.{sum_by_more}
use Rattle.airline_base.specs.declared.place.Place.{Place}
use Rattle.seat_journal.specs.declared.entry.Advice.{Advice}
use Rattle.seat_journal.specs.declared.entry.Change.{Change}
use Rattle.seat_journal.specs.declared.entry.Command.{Command}
use Rattle.seat_journal.specs.declared.entry.Entry.{Entry}
use Rattle.seat_journal.specs.declared.entry.SaleChange.{SaleChange}
use Rattle.seat_journal.specs.declared.entry.Work.{Work}
use Rattle.seat_journal.specs.declared.entry.Work.TheVariants.{Seats, Limit, Sale}
use Rattle.seat_rules.specs.Totals.{is_confirmation, seats_asked}
use Rattle.seat_pickup.specs.Counting.{Adds, AddsAt, AreCounts, count_at, spot}
use Rattle.seat_questions.specs.Why.{has_leg}
use Rattle.seat_pickup.specs.Moves.{Counts, Where, advised, asked, cancelled_by, confirmed_by, is_at, on_leg, placed, sold_by, sum_of, those}
use Rattle.seat_pickup.specs.declared.split.Split.{Split}
use Rattle.seat_pickup.specs.declared.split.Split.TheVariants.{Classes, Legs}

-- ---- letters

pub low : (n : ℕ) → IsTrue (is_ascii_uppercase n) → 65 ≤ n
low n is = grind (arith, nat_tests, is)

pub high : (n : ℕ) → IsTrue (is_ascii_uppercase n) → n ≤ 90
high n is = grind (arith, nat_tests, is)

-- ---- one place

plus_none : (n : ℕ) → n ≡ n + 0
plus_none n = omega arith

apart : (k place seats : ℕ) → k ≢ place → (if k == place then seats else 0) ≡ 0
apart k place seats other = ap (λ (b : Bool). if b then seats else 0) (ne_eqb k place other)

together : (k place seats : ℕ) → k ≡ place → (if k == place then seats else 0) ≡ seats
together k place seats same = ap (λ (b : Bool). if b then seats else 0) (eq-eqb k place same)

pub beyond : (place seats : ℕ) (row : List ℕ) → length row ≤ place → AddsAt place seats row row
beyond place seats row past = record {
  counted = refl;
  each = λ k lt.
      let none : (if k == place then seats else 0) ≡ 0 = apart k place seats (λ (e : k ≡ place). omega (arith, e, lt, past)) in
      omega (arith, none);
}

same_or : (s t : ℕ) → (s ≡ t) ⊎ (s ≢ t)
same_or s t = of (cases_lt s t) (cases_lt t s)
  where
    of : (s < t) ⊎ (t ≤ s) → (t < s) ⊎ (s ≤ t) → (s ≡ t) ⊎ (s ≢ t)
    of (inl less) k = inr (λ e. omega (arith, less, e))
    of (inr more) (inl less) = inr (λ e. omega (arith, less, e))
    of (inr more) (inr most) = inl (omega (arith, more, most))

pub there : (place seats was more : ℕ) (old new : List ℕ) → place < length old → was ≡ get_or old place was → more ≡ was + seats
    → new ≡ set old place more → AddsAt place seats old new
there place seats was more old new lt is sum put = record {
  counted = ap (λ (l : List ℕ). length l) put ∙ length-set old place more;
  each = λ k inside. of k (same_or k place);
}
  where
    of : (k : ℕ) → (k ≡ place) ⊎ (k ≢ place) → get_or new k 0 ≡ get_or old k 0 + (if k == place then seats else 0)
    of k (inl same) =
        let here : get_or new k 0 ≡ more =
        ap (λ (l : List ℕ). get_or l k 0) put ∙ ap (λ (n : ℕ). get_or (set old place more) n 0) same ∙ get_or-set_same old place more 0 lt in
        let then_was : get_or old k 0 ≡ was = ap (λ (n : ℕ). get_or old n 0) same ∙ sym (is ∙ get_or_default old place was 0 lt) in
        let all : (if k == place then seats else 0) ≡ seats = together k place seats same in
        omega (arith, here, then_was, all, sum)
    of k (inr other) =
        let here : get_or new k 0 ≡ get_or old k 0 =
        ap (λ (l : List ℕ). get_or l k 0) put ∙ get_or-set_other old place k more 0 other in
        let none : (if k == place then seats else 0) ≡ 0 = apart k place seats other in
        omega (arith, here, none)

-- ---- a flight and class

-- two have one place where both are the same
pub same_spot : (flight class f c : ℕ) → 65 ≤ class → class ≤ 90 → 65 ≤ c → c ≤ 90
    → (spot f c == spot flight class) ≡ ((flight == f) && (class == c))
same_spot flight class f c low_class high_class low_c high_c = of (flight == f) (class == c) refl refl where
  of : (s t : Bool) → (flight == f) ≡ s → (class == c) ≡ t → (spot f c == spot flight class) ≡ (s && t)
  of true true e g =
      let one : flight ≡ f = eqb-true flight f e in
      let two : class ≡ c = eqb-true class c g in
      eq-eqb (spot f c) (spot flight class) (omega (arith, one, two))
  of true false e g =
      let one : flight ≡ f = eqb-true flight f e in
      ne_eqb (spot f c) (spot flight class) (λ (same : spot f c ≡ spot flight class).
      let two : class ≡ c = omega (arith, one, same, low_class, low_c) in
      let bad : true ≡ false = sym (eq-eqb class c two) ∙ g in cc)
  of false t e g =
      ne_eqb (spot f c) (spot flight class) (λ (same : spot f c ≡ spot flight class).
      let one : flight ≡ f = omega (arith, same, low_class, high_class, low_c, high_c) in
      let bad : true ≡ false = sym (eq-eqb flight f one) ∙ e in cc)

pub added : (place : Place) (class seats at : ℕ) (old new : List ℕ) → IsTrue (is_ascii_uppercase class) → at ≡ spot place.flight class
    → AddsAt at seats old new → Adds (those (is_at Classes) place class seats) old new
added place class seats at old new letter is adds = record {
  counted = adds.counted;
  each = λ f c low_c high_c inside.
      adds.each (spot f c) inside
      ∙ ap (λ (k : ℕ). get_or old (spot f c) 0 + (if spot f c == k then seats else 0)) is
      ∙ ap (λ (b : Bool). get_or old (spot f c) 0 + (if b then seats else 0)) (same_spot place.flight class f c (low class letter) (high class letter) low_c high_c);
}

pub in_class : (split : Split) (place : Place) (class seats : ℕ) (old new : List ℕ) → split ≡ Classes
    → Adds (those (is_at Classes) place class seats) old new → Adds (those (is_at split) place class seats) old new
in_class split place class seats old new is adds = subst (λ (s : Split). Adds (those (is_at s) place class seats) old new) (sym is) adds

pub on_legs : (split : Split) (place : Place) (class seats : ℕ) (old new : List ℕ) → split ≡ Legs
    → Adds (those (is_at Legs) place class seats) old new → Adds (those (is_at split) place class seats) old new
on_legs split place class seats old new is adds = subst (λ (s : Split). Adds (those (is_at s) place class seats) old new) (sym is) adds

-- ---- sums of counts

-- none is added
pub nothing : (more : Counts) (row : List ℕ) → ((f c : ℕ) → more f c ≡ 0) → Adds more row row
nothing more row none = record {
  counted = refl;
  each = λ f c low_c high_c inside. let zero_here : more f c ≡ 0 = none f c in omega (arith, zero_here);
}

-- the same counts by another name
renamed : (more other : Counts) (old new : List ℕ) → ((f c : ℕ) → other f c ≡ more f c) → Adds more old new → Adds other old new
renamed more other old new same adds = record {
  counted = adds.counted;
  each = λ f c low_c high_c inside.
      let one : count_at new f c ≡ count_at old f c + more f c = adds.each f c low_c high_c inside in
      let named : other f c ≡ more f c = same f c in
      omega (arith, one, named);
}

-- ---- the legs of a place, one after the other

-- on the legs of a place that stand ahead of one
abbrev pub legs_below : Place → ℕ → ℕ → Counts
legs_below place leg seats f k = (if nat_lt (k - 65) leg && ((place.flight == f) && has_leg place (k - 65)) then seats else 0)

and_true : (b : Bool) → (b && true) ≡ b
and_true true = refl
and_true false = refl

and_false : (b : Bool) → (b && false) ≡ false
and_false true = refl
and_false false = refl

below : (j n : ℕ) → j < n → nat_lt j n ≡ true
below j n lt = grind (arith, nat_tests, lt)

not_below : (j n : ℕ) → n ≤ j → nat_lt j n ≡ false
not_below j n le = grind (arith, nat_tests, le)

none_below : (place : Place) (seats f k : ℕ) → legs_below place 0 seats f k ≡ 0
none_below place seats f k =
    let e : nat_lt (k - 65) 0 ≡ false = not_below (k - 65) 0 (omega arith) in
    ap (λ (b : Bool). if b && ((place.flight == f) && has_leg place (k - 65)) then seats else 0) e

pub legs_none : (place : Place) (seats : ℕ) (row : List ℕ) → Adds (legs_below place 0 seats) row row
legs_none place seats row = nothing (legs_below place 0 seats) row (none_below place seats)

below_is : (place : Place) (n seats f k : ℕ) (b : Bool) → nat_lt (k - 65) n ≡ b
    → legs_below place n seats f k ≡ (if b && ((place.flight == f) && has_leg place (k - 65)) then seats else 0)
below_is place n seats f k b e = ap (λ (t : Bool). if t && ((place.flight == f) && has_leg place (k - 65)) then seats else 0) e

here_is : (place : Place) (leg seats f k : ℕ) → k - 65 ≡ leg → (65 + leg == k) ≡ true
    → on_leg place leg seats f k ≡ (if (place.flight == f) && has_leg place (k - 65) then seats else 0)
here_is place leg seats f k same e =
    ap (λ (t : Bool). if (place.flight == f) && t && has_leg place leg then seats else 0) e
    ∙ ap (λ (t : Bool). if t && has_leg place leg then seats else 0) (and_true (place.flight == f))
    ∙ ap (λ (j : ℕ). if (place.flight == f) && has_leg place j then seats else 0) (sym same)

away_is : (place : Place) (leg seats f k : ℕ) → (65 + leg == k) ≡ false → on_leg place leg seats f k ≡ 0
away_is place leg seats f k e =
    ap (λ (t : Bool). if (place.flight == f) && t && has_leg place leg then seats else 0) e
    ∙ ap (λ (t : Bool). if t && has_leg place leg then seats else 0) (and_false (place.flight == f))

leg_step : (place : Place) (leg seats f k : ℕ) → 65 ≤ k
    → legs_below place (leg + 1) seats f k ≡ legs_below place leg seats f k + on_leg place leg seats f k
leg_step place leg seats f k low_k = of (cases_lt (k - 65) leg) (cases_lt leg (k - 65))
  where
    of : (k - 65 < leg) ⊎ (leg ≤ k - 65) → (leg < k - 65) ⊎ (k - 65 ≤ leg)
        → legs_below place (leg + 1) seats f k ≡ legs_below place leg seats f k + on_leg place leg seats f k
    of (inl less) other =
        let a : nat_lt (k - 65) (leg + 1) ≡ true = below (k - 65) (leg + 1) (omega (arith, less)) in
        let b : nat_lt (k - 65) leg ≡ true = below (k - 65) leg less in
        let c : (65 + leg == k) ≡ false = ne_eqb (65 + leg) k (λ (e : 65 + leg ≡ k). omega (arith, e, less)) in
        omega (arith, below_is place (leg + 1) seats f k true a, below_is place leg seats f k true b, away_is place leg seats f k c)
    of (inr most) (inl more) =
        let a : nat_lt (k - 65) (leg + 1) ≡ false = not_below (k - 65) (leg + 1) (omega (arith, more)) in
        let b : nat_lt (k - 65) leg ≡ false = not_below (k - 65) leg most in
        let c : (65 + leg == k) ≡ false = ne_eqb (65 + leg) k (λ (e : 65 + leg ≡ k). omega (arith, e, more)) in
        omega (arith, below_is place (leg + 1) seats f k false a, below_is place leg seats f k false b, away_is place leg seats f k c)
    of (inr most) (inr least) =
        let same : k - 65 ≡ leg = omega (arith, most, least) in
        let a : nat_lt (k - 65) (leg + 1) ≡ true = below (k - 65) (leg + 1) (omega (arith, same)) in
        let b : nat_lt (k - 65) leg ≡ false = not_below (k - 65) leg most in
        let c : (65 + leg == k) ≡ true = eq-eqb (65 + leg) k (omega (arith, same, low_k)) in
        omega (arith, below_is place (leg + 1) seats f k true a, below_is place leg seats f k false b, here_is place leg seats f k same c)

pub legs_more : (place : Place) (leg seats : ℕ) (old mid new : List ℕ) → Adds (legs_below place leg seats) old mid
    → Adds (on_leg place leg seats) mid new → Adds (legs_below place (leg + 1) seats) old new
legs_more place leg seats old mid new so_far one = record {
  counted = one.counted ∙ so_far.counted;
  each = λ f k low_k high_k inside.
      let inside_mid : spot f k < length mid = omega (arith, inside, so_far.counted) in
      let a : count_at mid f k ≡ count_at old f k + legs_below place leg seats f k = so_far.each f k low_k high_k inside in
      let b : count_at new f k ≡ count_at mid f k + on_leg place leg seats f k = one.each f k low_k high_k inside_mid in
      omega (arith, a, b, leg_step place leg seats f k low_k);
}

pub legs_all : (place : Place) (class leg seats : ℕ) (old new : List ℕ) → Adds (legs_below place leg seats) old new → 26 ≤ leg
    → Adds (those (is_at Legs) place class seats) old new
legs_all place class leg seats old new so_far over = record {
  counted = so_far.counted;
  each = λ f k low_k high_k inside.
      let e : nat_lt (k - 65) leg ≡ true = below (k - 65) leg (omega (arith, over, high_k)) in
      let a : count_at new f k ≡ count_at old f k + legs_below place leg seats f k = so_far.each f k low_k high_k inside in
      a ∙ ap (λ (n : ℕ). count_at old f k + n) (below_is place leg seats f k true e);
}

pub leg_away : (place : Place) (leg seats : ℕ) (row : List ℕ) → has_leg place leg ≡ false → Adds (on_leg place leg seats) row row
leg_away place leg seats row none =
    nothing (on_leg place leg seats) row (λ f k.
    ap (λ (t : Bool). if (place.flight == f) && (65 + leg == k) && t then seats else 0) none
    ∙ ap (λ (t : Bool). if t then seats else 0) (and_false ((place.flight == f) && (65 + leg == k))))

pub leg_added : (place : Place) (leg seats at : ℕ) (old new : List ℕ) → leg < 26 → has_leg place leg ≡ true
    → at ≡ spot place.flight (65 + leg) → AddsAt at seats old new → Adds (on_leg place leg seats) old new
leg_added place leg seats at old new few covers is adds = record {
  counted = adds.counted;
  each = λ f k low_k high_k inside.
      let low_leg : 65 ≤ 65 + leg = omega arith in
      let high_leg : 65 + leg ≤ 90 = omega (arith, few) in
      adds.each (spot f k) inside
      ∙ ap (λ (n : ℕ). get_or old (spot f k) 0 + (if spot f k == n then seats else 0)) is
      ∙ ap (λ (b : Bool). get_or old (spot f k) 0 + (if b then seats else 0)) (same_spot place.flight (65 + leg) f k low_leg high_leg low_k high_k)
      ∙ ap (λ (b : Bool). get_or old (spot f k) 0 + (if b then seats else 0)) (sym (and_true ((place.flight == f) && (65 + leg == k))))
      ∙ ap (λ (b : Bool). get_or old (spot f k) 0 + (if (place.flight == f) && (65 + leg == k) && b then seats else 0)) (sym covers);
}

-- ---- the sums of lists

module _ {A : Type 0} where
  pub adds_none : (moves : A → Counts) (xs : List A) (row : List ℕ) → Adds (sum_of moves (take 0 xs)) row row
  adds_none moves xs row = nothing (sum_of moves (take 0 xs)) row (λ f c. refl)

  pub adds_more : (moves : A → Counts) (xs : List A) (i : ℕ) (x : A) (old mid new : List ℕ) → Adds (sum_of moves (take i xs)) old mid
      → i < length xs → x ≡ get_or xs i x → Adds (moves x) mid new → Adds (sum_of moves (take (i + 1) xs)) old new
  adds_more moves xs i x old mid new so_far lt is one = record {
    counted = one.counted ∙ so_far.counted;
    each = λ f c low_c high_c inside.
        let inside_mid : spot f c < length mid = omega (arith, inside, so_far.counted) in
        let a : count_at mid f c ≡ count_at old f c + sum_of moves (take i xs) f c = so_far.each f c low_c high_c inside in
        let b : count_at new f c ≡ count_at mid f c + moves x f c = one.each f c low_c high_c inside_mid in
        let grown : sum_of moves (take (i + 1) xs) f c ≡ sum_of moves (take i xs) f c + moves (get_or xs i x) f c =
        sum_by_more (λ (y : A). moves y f c) xs i x lt in
        let here : moves x f c ≡ moves (get_or xs i x) f c = ap (λ (y : A). moves y f c) is in
        omega (arith, a, b, grown, here);
  }

  pub adds_all : (moves : A → Counts) (xs : List A) (i : ℕ) (old new : List ℕ) → Adds (sum_of moves (take i xs)) old new
      → length xs ≤ i → Adds (sum_of moves xs) old new
  adds_all moves xs i old new so_far over = subst (λ (l : List A). Adds (sum_of moves l) old new) (take_all i xs over) so_far

pub counts_of : (flights : ℕ) (of : Counts) (old new : List ℕ) → old ≡ replicate (flights * 26) 0 → Adds of old new
    → AreCounts flights of new
counts_of flights of old new empty adds = record {
  counted = adds.counted ∙ long;
  each = λ f c inside low_c high_c.
      let within : spot f c < flights * 26 = omega (arith, inside, low_c, high_c) in
      let here : spot f c < length old = omega (arith, within, long) in
      let one : count_at new f c ≡ count_at old f c + of f c = adds.each f c low_c high_c here in
      let none : count_at old f c ≡ 0 =
      ap (λ (l : List ℕ). get_or l (spot f c) 0) empty ∙ get_or-replicate (flights * 26) (spot f c) 0 0 within in
      omega (arith, one, none);
}
  where
    long : length old ≡ flights * 26
    long = ap (λ (l : List ℕ). length l) empty ∙ length-replicate (flights * 26) 0

-- ---- what a line moves

module _ (on : Where) where
  pub not_sold : (e : Entry) (row : List ℕ) → is_confirmation e.reply ≡ false → Adds (sold_by on e) row row
  not_sold e row unsold =
      nothing (sold_by on e) row (λ f k. ap (λ (b : Bool). if b then asked on e.work (seats_asked e.work) f k else 0) unsold)

  pub is_sold : (e : Entry) (seats : ℕ) (old new : List ℕ) → is_confirmation e.reply ≡ true → seats ≡ seats_asked e.work
      → Adds (asked on e.work seats) old new → Adds (sold_by on e) old new
  is_sold e seats old new yes_sold is adds =
      renamed (asked on e.work seats) (sold_by on e) old new
      (λ f k. ap (λ (b : Bool). if b then asked on e.work (seats_asked e.work) f k else 0) yes_sold ∙ ap (λ (n : ℕ). asked on e.work n f k) (sym is)) adds

  pub is_cancelled : (e : Entry) (old new : List ℕ) → Adds (asked on e.work e.released) old new → Adds (cancelled_by on e) old new
  is_cancelled e old new adds = renamed (asked on e.work e.released) (cancelled_by on e) old new (λ f k. refl) adds

  pub no_work : (w : Work) (change : Change) (seats : ℕ) (row : List ℕ) → w ≡ Limit change → Adds (asked on w seats) row row
  no_work w change seats row is = nothing (asked on w seats) row (λ f k. ap (λ (x : Work). asked on x seats f k) is)

  pub no_sale : (w : Work) (change : SaleChange) (seats : ℕ) (row : List ℕ) → w ≡ Sale change → Adds (asked on w seats) row row
  no_sale w change seats row is = nothing (asked on w seats) row (λ f k. ap (λ (x : Work). asked on x seats f k) is)

  pub work_there : (w : Work) (c : Command) (seats : ℕ) (old new : List ℕ) → w ≡ Seats c
      → Adds (placed on c.place c.class seats) old new → Adds (asked on w seats) old new
  work_there w c seats old new is adds =
      renamed (placed on c.place c.class seats) (asked on w seats) old new (λ f k. ap (λ (x : Work). asked on x seats f k) is) adds

  pub no_place : (o : Option Place) (class seats : ℕ) (row : List ℕ) → o ≡ None → Adds (placed on o class seats) row row
  no_place o class seats row is =
      nothing (placed on o class seats) row (λ f k. ap (λ (x : Option Place). placed on x class seats f k) is)

  pub place_there : (o : Option Place) (place : Place) (class seats : ℕ) (old new : List ℕ) → o ≡ Some place
      → Adds (those on place class seats) old new → Adds (placed on o class seats) old new
  place_there o place class seats old new is adds =
      renamed (those on place class seats) (placed on o class seats) old new (λ f k. ap (λ (x : Option Place). placed on x class seats f k) is) adds

  pub is_advised : (a : Advice) (old new : List ℕ) → Adds (those on a.place a.class a.seats) old new → Adds (advised on a) old new
  is_advised a old new adds = renamed (those on a.place a.class a.seats) (advised on a) old new (λ f k. refl) adds

  pub by_advices : (e : Entry) (advices : List Advice) (old new : List ℕ) → advices ≡ e.advices
      → Adds (sum_of (advised on) advices) old new → Adds (confirmed_by on e) old new
  by_advices e advices old new same adds =
      renamed (sum_of (advised on) advices) (confirmed_by on e) old new (λ f k. ap (λ (l : List Advice). sum_of (advised on) l f k) (sym same)) adds
