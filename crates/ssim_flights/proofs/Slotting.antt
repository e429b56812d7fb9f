-- Flights in slots, flight by flight, and the place that is found by them.
use Rattle.std.proofs.Common.{◌≡◌, ℕ, zero, suc, ◌+◌, ◌-◌, ◌*◌, ◌<◌, ◌≤◌, ◌&&◌, ◌||◌, ◌==◌, nat_eq, Bool, true, false, cond, List, [], ◌∷◌, ◌++◌, length, drop, get_or, replicate, set, Option, Some, None, inl, inr, ◌≢◌, arith, refl, sym, ap, subst, ◌∙◌, length-append}
use Rattle.ssim_flights.proofs.Common.{Flight, Departure}
use Rattle.std.specs.Prelude.{◌⊎◌}
use Rattle.std.specs.Option.{option_eq, option_or}
use Rattle.std.specs.Map.{lookup}
use Rattle.std.proofs.Math.ListN.{get_or-append}
use Rattle.std.proofs.lemmas.Bool.{true≢false, false≢true, and_parts, cases_lt, eqb-true, eq-eqb}
use Rattle.std.proofs.lemmas.List.{drop_all, get_or_past, get_or-replicate, get_or-set_same, get_or-set_other, length-replicate, length-set}
use Rattle.std.proofs.lemmas.Nat.{mod_below}
use Rattle.std.proofs.lemmas.Option.{get_or_from_slice_get, slice_get_read}
use Rattle.airline_base.specs.declared.place.Place.{Place}
use Rattle.ssim_flights.specs.declared.flight.DatedLeg.{DatedLeg}
use Rattle.ssim_flights.specs.declared.flight.Wanted.{Wanted}
use Rattle.ssim_flights.specs.declared.slots.Entry.{Entry}
use Rattle.ssim_flights.specs.declared.slots.Slots.{Slots}
use Rattle.ssim_flights.specs.Flown.{same_departure}
use Rattle.ssim_flights.specs.Places.{same_wanted, places_from, places, place_wanted}
use Rattle.ssim_flights.specs.Slots.{along, begins_on, entry_at, has_leg_at, head_of, in_list, in_slot, leaving, leaving_for, listed, place_of, place_on, place_among, slot_of, walk, AreLinked, AreSlotsOf, IsInside, PutsFirst}
use Rattle.ssim_flights.proofs.Departing.{or_parts}
use Rattle.ssim_flights.proofs.FirstPlaces.{lookup_append, places_none}
use Rattle.ssim_flights.proofs.Walks.{drop_step}

-- ---- the first of several

or_again : {A : Type 0} (a b : Option A) → option_or a (option_or a b) ≡ option_or a b
or_again None b = refl
or_again (Some x) b = refl

-- ---- a list of entries

-- more steps than entries find no more flights
one_more : (es : List Entry) → AreLinked es → (most h : ℕ) → h ≤ most → walk (suc most) es h ≡ walk most es h
one_more es linked zero zero few = refl
one_more es linked zero (suc k) few = absurd (omega arith)
one_more es linked (suc most) zero few = refl
one_more es linked (suc most) (suc k) few =
    let back = linked.back k in
    ap (λ (ns : List ℕ). (entry_at es k).flight ∷ ns) (one_more es linked most (entry_at es k).next (omega arith))

some_more : (es : List Entry) → AreLinked es → (more h : ℕ) → walk (more + h) es h ≡ along es h
some_more es linked zero h = let none : 0 + h ≡ h = omega arith in ap (λ (n : ℕ). walk n es h) none
some_more es linked (suc more) h =
    let next : suc more + h ≡ suc (more + h) = omega arith in
    ap (λ (n : ℕ). walk n es h) next ∙ (one_more es linked (more + h) h (omega arith) ∙ some_more es linked more h)

enough : (es : List Entry) → AreLinked es → (most h : ℕ) → h ≤ most → walk most es h ≡ along es h
enough es linked most h few =
    let parts : most ≡ most - h + h = omega arith in
    ap (λ (n : ℕ). walk n es h) parts ∙ some_more es linked (most - h) h

-- an entry, and those that its list goes on with
along_one : (es : List Entry) → AreLinked es → (k h : ℕ) → h ≡ k + 1
    → along es h ≡ (entry_at es k).flight ∷ along es (entry_at es k).next
along_one es linked k h at =
    let next : h ≡ suc k = omega arith in
    let back = linked.back k in
    ap (along es) next ∙ ap (λ (ns : List ℕ). (entry_at es k).flight ∷ ns) (enough es linked k (entry_at es k).next back)

read : (es : List Entry) (k : ℕ) (e : Entry) → k < length es → e ≡ get_or es k e → entry_at es k ≡ e
read es k e inside is = get_or_from_slice_get es k e (record { flight = 0; next = 0 }) (slice_get_read es (length es) k e refl inside is)

-- entries that come later change no list
walk_pushed : (es : List Entry) (x : Entry) → AreLinked es → (most h : ℕ) → h ≤ length es
    → walk most (es ++ x ∷ []) h ≡ walk most es h
walk_pushed es x linked zero h inside = refl
walk_pushed es x linked (suc most) zero inside = refl
walk_pushed es x linked (suc most) (suc k) inside =
    let back = linked.back k in
    let same : entry_at (es ++ x ∷ []) k ≡ entry_at es k = get_or-append es (x ∷ []) (record { flight = 0; next = 0 }) k (omega arith) in
    ap (λ (e : Entry). e.flight ∷ walk most (es ++ x ∷ []) e.next) same
    ∙ ap (λ (ns : List ℕ). (entry_at es k).flight ∷ ns) (walk_pushed es x linked most (entry_at es k).next (omega arith))

last_entry : (es : List Entry) (x : Entry) → entry_at (es ++ x ∷ []) (length es) ≡ x
last_entry [] x = refl
last_entry (e ∷ es) x = last_entry es x

past_entry : (es : List Entry) (x : Entry) (k : ℕ) → length es < k → (entry_at (es ++ x ∷ []) k).next ≡ 0
past_entry [] x zero past = absurd (omega arith)
past_entry [] x (suc k) past = refl
past_entry (e ∷ es) x zero past = absurd (omega arith)
past_entry (e ∷ es) x (suc k) past = past_entry es x k (omega arith)

linked_pushed : (es : List Entry) (x : Entry) → AreLinked es → x.next ≤ length es → AreLinked (es ++ x ∷ [])
linked_pushed es x linked back = record { back = λ k. by k (cases_lt k (length es)) (cases_lt (length es) k) }
  where
    by : (k : ℕ) → (k < length es) ⊎ (length es ≤ k) → (length es < k) ⊎ (k ≤ length es)
        → (entry_at (es ++ x ∷ []) k).next ≤ k
    by k (inl inside) other =
        let same : entry_at (es ++ x ∷ []) k ≡ entry_at es k = get_or-append es (x ∷ []) (record { flight = 0; next = 0 }) k inside in
        subst (λ (e : Entry). e.next ≤ k) (sym same) (linked.back k)
    by k (inr outside) (inl past) = let none = past_entry es x k past in omega arith
    by k (inr outside) (inr within) =
        let at : length es ≡ k = omega arith in
        subst (λ (e : Entry). e.next ≤ k) (sym (ap (entry_at (es ++ x ∷ [])) (sym at) ∙ last_entry es x)) (omega arith)

-- ---- one departure, and the legs of a flight

abbrev make : ℕ → Option ℕ → ℕ → Departure
make number suffix day = record { number = number; suffix = suffix; day = day }

same_suffix : (a b : Option ℕ) → option_eq nat_eq a b ≡ true → a ≡ b
same_suffix None None e = refl
same_suffix None (Some y) e = absurd (false≢true e)
same_suffix (Some x) None e = absurd (false≢true e)
same_suffix (Some x) (Some y) e = ap (λ (n : ℕ). Some n) (eqb-true x y e)

same_is : (d e : Departure) → same_departure d e ≡ true → d ≡ e
same_is d e same =
    let parts = and_parts (d.number == e.number) (option_eq nat_eq d.suffix e.suffix && (d.day == e.day)) same in
    let more = and_parts (option_eq nat_eq d.suffix e.suffix) (d.day == e.day) parts.1 in
    ap (λ (n : ℕ). make n d.suffix d.day) (eqb-true d.number e.number parts.0)
    ∙ (ap (λ (s : Option ℕ). make e.number s d.day) (same_suffix d.suffix e.suffix more.0)
    ∙ ap (λ (n : ℕ). make e.number e.suffix n) (eqb-true d.day e.day more.1))

slot_below : (d : Departure) (slots : ℕ) → 0 < slots → slot_of d slots < slots
unfolding slot_of
slot_below d slots some = mod_below _ slots some

head_is : (hs : List ℕ) (slot h : ℕ) → slot < length hs → h ≡ get_or hs slot h → get_or hs slot 0 ≡ h
head_is hs slot h inside is = get_or_from_slice_get hs slot h 0 (slice_get_read hs (length hs) slot h refl inside is)

-- the flight stands first in the slot, ahead of those that were there
first_at : (old new : Slots) (d : Departure) (n slot : ℕ) → IsInside old
    → slot ≡ slot_of d (length old.heads.items)
    → new.entries.items ≡ old.entries.items ++ record { flight = n; next = head_of old slot } ∷ []
    → new.heads.items ≡ set old.heads.items slot (length old.entries.items + 1)
    → PutsFirst old new n (λ s. slot_of d (length old.heads.items) == s)
first_at old new d n slot inside slot_is entries_are heads_are = record { inside = within; slots = as_many; at = finds }
  where
    x : Entry
    x = record { flight = n; next = head_of old slot }

    as_many : length new.heads.items ≡ length old.heads.items
    as_many = ap length heads_are ∙ length-set old.heads.items slot (length old.entries.items + 1)

    below : slot < length old.heads.items
    below = subst (λ (s : ℕ). s < length old.heads.items) (sym slot_is) (slot_below d (length old.heads.items) inside.some)

    here : (s : ℕ) → slot ≡ s → head_of new s ≡ length old.entries.items + 1
    here s e = ap (λ (hs : List ℕ). get_or hs s 0) heads_are ∙ (ap (λ (t : ℕ). get_or (set old.heads.items slot (length old.entries.items + 1)) t 0) (sym e)
        ∙ get_or-set_same old.heads.items slot (length old.entries.items + 1) 0 below)

    there : (s : ℕ) → s ≢ slot → head_of new s ≡ head_of old s
    there s other = ap (λ (hs : List ℕ). get_or hs s 0) heads_are ∙ get_or-set_other old.heads.items slot s (length old.entries.items + 1) 0 other

    long : length new.entries.items ≡ length old.entries.items + 1
    long = ap length entries_are ∙ length-append old.entries.items (x ∷ [])

    is_linked : AreLinked new.entries.items
    is_linked = subst (λ (es : List Entry). AreLinked es) (sym entries_are) (linked_pushed old.entries.items x inside.linked (inside.heads slot))

    bounded : (s : ℕ) (b : Bool) → (slot == s) ≡ b → head_of new s ≤ length new.entries.items
    bounded s true e =
        let h = here s (eqb-true slot s e) in
        let l = long in
        omega arith
    bounded s false e =
        let h = there s (λ f. false≢true (sym e ∙ eq-eqb slot s (sym f))) in
        let below_old = inside.heads s in
        let l = long in
        omega arith

    within : IsInside new
    within = record {
      some = let one = inside.some in let many = as_many in omega arith;
      heads = λ s. bounded s (slot == s) refl;
      linked = is_linked;
    }

    leads : (s : ℕ) → slot ≡ s → in_list new s ≡ n ∷ in_list old s
    leads s e =
        let same : entry_at new.entries.items (length old.entries.items) ≡ x = ap (λ (es : List Entry). entry_at es (length old.entries.items)) entries_are ∙ last_entry old.entries.items x in
        along_one new.entries.items is_linked (length old.entries.items) (head_of new s) (here s e)
        ∙ (ap (λ (y : Entry). y.flight ∷ along new.entries.items y.next) same
        ∙ (ap (λ (es : List Entry). n ∷ along es (head_of old slot)) entries_are
        ∙ (ap (λ (ns : List ℕ). n ∷ ns) (walk_pushed old.entries.items x inside.linked (head_of old slot) (head_of old slot) (inside.heads slot))
        ∙ ap (λ (t : ℕ). n ∷ in_list old t) e)))

    other : (s : ℕ) → s ≢ slot → in_list new s ≡ in_list old s
    other s e =
        ap (along new.entries.items) (there s e)
        ∙ (ap (λ (es : List Entry). along es (head_of old s)) entries_are
        ∙ walk_pushed old.entries.items x inside.linked (head_of old s) (head_of old s) (inside.heads s))

    by : (flights : List Flight) (w : Wanted) (s : ℕ) (b : Bool) → (slot == s) ≡ b
        → place_among flights (in_list new s) w
        ≡ cond b (option_or (place_on flights n w) (place_among flights (in_list old s) w)) (place_among flights (in_list old s) w)
    by flights w s true e = ap (λ (l : List ℕ). place_among flights l w) (leads s (eqb-true slot s e))
    by flights w s false e = ap (λ (l : List ℕ). place_among flights l w) (other s (λ f. false≢true (sym e ∙ eq-eqb slot s (sym f))))

    finds : (flights : List Flight) (w : Wanted) (s : ℕ) → s < length old.heads.items
        → place_among flights (in_list new s) w
        ≡ cond (slot_of d (length old.heads.items) == s) (option_or (place_on flights n w) (place_among flights (in_list old s) w)) (place_among flights (in_list old s) w)
    finds flights w s _ = by flights w s (slot_of d (length old.heads.items) == s) (ap (λ (t : ℕ). t == s) slot_is)

pub first_one : (old new : Slots) (d : Departure) (n slot next count : ℕ) → IsInside old
    → slot ≡ slot_of d (length old.heads.items) → next ≡ get_or old.heads.items slot next
    → new.entries.items ≡ old.entries.items ++ record { flight = n; next = next } ∷ []
    → count ≡ length new.entries.items → new.heads.items ≡ set old.heads.items slot count
    → PutsFirst old new n (λ s. slot_of d (length old.heads.items) == s)
first_one old new d n slot next count inside slot_is next_is entries_are count_is heads_are =
    let below : slot < length old.heads.items = subst (λ (s : ℕ). s < length old.heads.items) (sym slot_is) (slot_below d (length old.heads.items) inside.some) in
    first_at old new d n slot inside slot_is
    (entries_are ∙ ap (λ (k : ℕ). old.entries.items ++ record { flight = n; next = k } ∷ []) (sym (head_is old.heads.items slot next below next_is)))
    (heads_are ∙ ap (set old.heads.items slot) (count_is ∙ (ap length entries_are ∙ length-append old.entries.items (record { flight = n; next = next } ∷ []))))

pub first_none : (a : Slots) (flight : Flight) (n : ℕ) (legs : List DatedLeg) → IsInside a → [] ≡ legs
    → PutsFirst a a n (in_slot flight legs (length a.heads.items))
first_none a flight n legs inside none =
    subst (λ (l : List DatedLeg). PutsFirst a a n (in_slot flight l (length a.heads.items))) none
    (record { inside = inside; slots = refl; at = λ flights w s h. refl })

pub first_more : (a b c : Slots) (flight : Flight) (n : ℕ) (leg : DatedLeg) (rest legs : List DatedLeg)
    → legs ≡ leg ∷ rest → PutsFirst a b n (λ s. slot_of (leaving flight leg) (length a.heads.items) == s)
    → PutsFirst b c n (in_slot flight rest (length b.heads.items)) → PutsFirst a c n (in_slot flight legs (length a.heads.items))
first_more a b c flight n leg rest legs are one others = subst (λ (l : List DatedLeg). PutsFirst a c n (in_slot flight l (length a.heads.items))) (sym are) (record {
  inside = others.inside;
  slots = others.slots ∙ one.slots;
  at = λ flights w s h. again flights w s h
      ∙ by flights w s (slot_of (leaving flight leg) (length a.heads.items) == s) (in_slot flight rest (length a.heads.items) s) (one.at flights w s h);
})
  where
    again : (flights : List Flight) (w : Wanted) (s : ℕ) → s < length a.heads.items
        → place_among flights (in_list c s) w
        ≡ cond (in_slot flight rest (length a.heads.items) s) (option_or (place_on flights n w) (place_among flights (in_list b s) w)) (place_among flights (in_list b s) w)
    again flights w s h =
        others.at flights w s (subst (λ (k : ℕ). s < k) (sym one.slots) h)
        ∙ ap (λ (k : ℕ). cond (in_slot flight rest k s) (option_or (place_on flights n w) (place_among flights (in_list b s) w)) (place_among flights (in_list b s) w)) one.slots

    by : (flights : List Flight) (w : Wanted) (s : ℕ) (t u : Bool)
        → place_among flights (in_list b s) w
        ≡ cond t (option_or (place_on flights n w) (place_among flights (in_list a s) w)) (place_among flights (in_list a s) w)
        → cond u (option_or (place_on flights n w) (place_among flights (in_list b s) w)) (place_among flights (in_list b s) w)
        ≡ cond (t || u) (option_or (place_on flights n w) (place_among flights (in_list a s) w)) (place_among flights (in_list a s) w)
    by flights w s true true e = ap (λ o. option_or (place_on flights n w) o) e ∙ or_again (place_on flights n w) (place_among flights (in_list a s) w)
    by flights w s true false e = e
    by flights w s false true e = ap (λ o. option_or (place_on flights n w) o) e
    by flights w s false false e = e

-- the next leg departs on the same day, so it has the same departure
pub first_same : (a b : Slots) (flight : Flight) (n slots : ℕ) (leg : DatedLeg) (rest legs : List DatedLeg)
    → legs ≡ leg ∷ rest → true ≡ begins_on rest leg.day → PutsFirst a b n (in_slot flight rest slots)
    → PutsFirst a b n (in_slot flight legs slots)
first_same a b flight n slots leg [] legs are same others = absurd (true≢false same)
first_same a b flight n slots leg (next ∷ rest) legs are same others = subst (λ (l : List DatedLeg). PutsFirst a b n (in_slot flight l slots)) (sym are) (record {
  inside = others.inside;
  slots = others.slots;
  at = λ flights w s h. others.at flights w s h
      ∙ ap (λ t. cond t (option_or (place_on flights n w) (place_among flights (in_list a s) w)) (place_among flights (in_list a s) w)) (sym (twice s));
})
  where
    own : (b c : Bool) → (b || (b || c)) ≡ (b || c)
    own true c = refl
    own false c = refl

    twice : (s : ℕ) → in_slot flight (leg ∷ next ∷ rest) slots s ≡ in_slot flight (next ∷ rest) slots s
    twice s = ap (λ (day : ℕ). (slot_of (make flight.number flight.suffix day) slots == s) || in_slot flight (next ∷ rest) slots s) (sym (eqb-true next.day leg.day (sym same)))
        ∙ own (slot_of (leaving flight next) slots == s) (in_slot flight rest slots s)

-- ---- one flight more

-- a flight that is not in the slot of a departure has no leg of that departure
not_in_slot : (flight : Flight) (legs : List DatedLeg) (slots : ℕ) (d : Departure)
    → in_slot flight legs slots (slot_of d slots) ≡ false → has_leg_at flight legs d ≡ false
not_in_slot flight [] slots d e = refl
not_in_slot flight (leg ∷ legs) slots d e =
    let parts = or_parts (slot_of (leaving flight leg) slots == slot_of d slots) (in_slot flight legs slots (slot_of d slots)) e in
    by (same_departure (leaving flight leg) d) refl parts.0 ∙ not_in_slot flight legs slots d parts.1
  where
    by : (b : Bool) → same_departure (leaving flight leg) d ≡ b → (slot_of (leaving flight leg) slots == slot_of d slots) ≡ false
        → (same_departure (leaving flight leg) d || has_leg_at flight legs d) ≡ has_leg_at flight legs d
    by true s f = absurd (true≢false (sym (eq-eqb (slot_of (leaving flight leg) slots) (slot_of d slots) (ap (λ (k : Departure). slot_of k slots) (same_is (leaving flight leg) d s))) ∙ f))
    by false s f = ap (λ b. b || has_leg_at flight legs d) s

pub slots_more : (a b : Slots) (flights : List Flight) (n m : ℕ) (flight : Flight) → n ≡ m + 1 → m < length flights
    → flight ≡ get_or flights m flight → AreSlotsOf a flights n
    → PutsFirst a b m (in_slot flight flight.legs (length a.heads.items)) → AreSlotsOf b flights m
slots_more a b flights n m flight next inside is index lists = record { inside = lists.inside; at = found }
  where
    on : (w : Wanted) → place_on flights m w ≡ lookup (λ k. same_wanted k w) (places_from flight m 0 flight.legs)
    on w = ap (λ (o : Option Flight). place_of m w o) (slice_get_read flights (length flights) m flight refl inside is)

    by : (w : Wanted) (t : Bool) → in_slot flight flight.legs (length a.heads.items) (slot_of (leaving_for w) (length a.heads.items)) ≡ t
        → cond t (option_or (place_on flights m w) (place_among flights (listed a (leaving_for w)) w)) (place_among flights (listed a (leaving_for w)) w)
        ≡ option_or (lookup (λ k. same_wanted k w) (places_from flight m 0 flight.legs)) (place_among flights (listed a (leaving_for w)) w)
    by w true e = ap (λ o. option_or o (place_among flights (listed a (leaving_for w)) w)) (on w)
    by w false e = sym (ap (λ o. option_or o (place_among flights (listed a (leaving_for w)) w))
        (places_none flight m 0 flight.legs w (not_in_slot flight flight.legs (length a.heads.items) (leaving_for w) e)))

    found : (w : Wanted) → place_among flights (listed b (leaving_for w)) w ≡ lookup (λ k. same_wanted k w) (places m (drop m flights))
    found w =
        ap (λ (k : ℕ). place_among flights (in_list b (slot_of (leaving_for w) k)) w) lists.slots
        ∙ (lists.at flights w (slot_of (leaving_for w) (length a.heads.items)) (slot_below (leaving_for w) (length a.heads.items) index.inside.some)
        ∙ (by w (in_slot flight flight.legs (length a.heads.items) (slot_of (leaving_for w) (length a.heads.items))) refl
        ∙ (ap (λ o. option_or (lookup (λ k. same_wanted k w) (places_from flight m 0 flight.legs)) o) (index.at w ∙ ap (λ (k : ℕ). lookup (λ v. same_wanted v w) (places k (drop k flights))) next)
        ∙ (sym (lookup_append (λ k. same_wanted k w) (places_from flight m 0 flight.legs) (places (m + 1) (drop (m + 1) flights)))
        ∙ ap (λ (l : List Flight). lookup (λ k. same_wanted k w) (places m l)) (sym (drop_step flights m flight inside is))))))

zero_at : (n i : ℕ) → ◌≡◌ {A = ℕ} (get_or (replicate n 0) i 0) 0
zero_at n i = by (cases_lt i n)
  where
    by : (i < n) ⊎ (n ≤ i) → ◌≡◌ {A = ℕ} (get_or (replicate n 0) i 0) 0
    by (inl h) = get_or-replicate n i 0 0 h
    by (inr h) = get_or_past (replicate n 0) i 0 (let long = length-replicate {A = ℕ} n 0 in omega arith)

below_any : (k : ℕ) → 0 ≤ k
below_any k = omega arith

empty_linked : AreLinked []
empty_linked = record { back = below_any }

-- without flights there are those behind the last one
pub slots_none : (a : Slots) (flights : List Flight) (n count : ℕ) → n ≡ length flights
    → a.heads.items ≡ replicate (2 * count + 1) 0 → a.entries.items ≡ [] → AreSlotsOf a flights n
slots_none a flights n count all heads_are entries_are = record {
  inside = record {
    some = let long = ap length heads_are ∙ length-replicate (2 * count + 1) 0 in omega arith;
    heads = λ s. let e = none_at s in omega arith;
    linked = subst (λ (es : List Entry). AreLinked es) (sym entries_are) empty_linked;
  };
  at = λ w. ap (λ (h : ℕ). place_among flights (along a.entries.items h) w) (none_at (slot_of (leaving_for w) (length a.heads.items)))
      ∙ sym (ap (λ (l : List Flight). lookup (λ k. same_wanted k w) (places n l)) (drop_all n flights (omega arith)));
}
  where
    none_at : (s : ℕ) → head_of a s ≡ 0
    none_at s = ap (λ (hs : List ℕ). get_or hs s 0) heads_are ∙ zero_at (2 * count + 1) s

-- ---- the place that is found

pub still_inside : (a b : Slots) (n : ℕ) (is : ℕ → Bool) → PutsFirst a b n is → IsInside b
still_inside a b n is puts = puts.inside

pub head_linked : (a : Slots) → IsInside a → AreLinked a.entries.items
head_linked a inside = inside.linked

pub head_inside : (a : Slots) (slot h : ℕ) → IsInside a → slot < length a.heads.items → h ≡ get_or a.heads.items slot h
    → h ≤ length a.entries.items
head_inside a slot h inside below is =
    subst (λ (k : ℕ). k ≤ length a.entries.items) (head_is a.heads.items slot h below is) (inside.heads slot)

pub listed_is : (a : Slots) (flights : List Flight) (slot h : ℕ) (w : Wanted) (r : Option Place)
    → slot < length a.heads.items → slot ≡ slot_of (leaving_for w) (length a.heads.items) → h ≡ get_or a.heads.items slot h
    → r ≡ place_among flights (along a.entries.items h) w → r ≡ place_among flights (listed a (leaving_for w)) w
listed_is a flights slot h w r below slot_is is found =
    found ∙ (ap (λ (k : ℕ). place_among flights (along a.entries.items k) w) (sym (head_is a.heads.items slot h below is))
    ∙ ap (λ (s : ℕ). place_among flights (in_list a s) w) slot_is)

pub along_none : (flights : List Flight) (es : List Entry) (h : ℕ) (w : Wanted) → h ≡ 0
    → None ≡ place_among flights (along es h) w
along_none flights es h w e = sym (ap (λ (k : ℕ). place_among flights (along es k) w) e)

pub along_found : (flights : List Flight) (es : List Entry) (h k : ℕ) (e : Entry) (w : Wanted) (p : Place) → AreLinked es
    → h ≡ k + 1 → k < length es → e ≡ get_or es k e → Some p ≡ place_on flights e.flight w
    → Some p ≡ place_among flights (along es h) w
along_found flights es h k e w p linked at inside is found =
    ap (λ o. option_or o (place_among flights (along es e.next) w)) found
    ∙ sym (ap (λ (l : List ℕ). place_among flights l w) (along_one es linked k h at ∙ ap (λ (x : Entry). x.flight ∷ along es x.next) (read es k e inside is)))

pub along_more : (flights : List Flight) (es : List Entry) (h k : ℕ) (e : Entry) (w : Wanted) (r : Option Place) → AreLinked es
    → h ≡ k + 1 → k < length es → e ≡ get_or es k e → None ≡ place_on flights e.flight w
    → r ≡ place_among flights (along es e.next) w → r ≡ place_among flights (along es h) w
along_more flights es h k e w r linked at inside is none rest =
    rest ∙ (ap (λ o. option_or o (place_among flights (along es e.next) w)) none
    ∙ sym (ap (λ (l : List ℕ). place_among flights l w) (along_one es linked k h at ∙ ap (λ (x : Entry). x.flight ∷ along es x.next) (read es k e inside is))))

-- an entry's list goes on with an entry ahead of it
pub along_back : (es : List Entry) (k : ℕ) (e : Entry) → AreLinked es → k < length es → e ≡ get_or es k e → e.next ≤ k
along_back es k e linked inside is = subst (λ (x : Entry). x.next ≤ k) (read es k e inside is) (linked.back k)

pub slots_inside : (held : Slots) (flights : List Flight) (n : ℕ) → AreSlotsOf held flights n → IsInside held
slots_inside held flights n are = are.inside

pub found_is : (held : Slots) (flights : List Flight) (w : Wanted) (r : Option Place) → AreSlotsOf held flights 0
    → r ≡ place_among flights (listed held (leaving_for w)) w → r ≡ place_wanted flights w
unfolding place_wanted
found_is held flights w r is e = e ∙ is.at w
