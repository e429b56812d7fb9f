-- The demands, by their index.
use Rattle.std.proofs.Common.{◌≡◌, ℕ, zero, suc, ◌+◌, ◌-◌, ◌<◌, Bool, true, false, min, List, [], ◌∷◌, ◌++◌, length, get_or, set, remove, position, find, Option, Some, None, cond, arith, refl, ap, sym, ◌∙◌}
use Rattle.seat_bookings.proofs.Common.{AllByRecursion, Place, Demand, is_demand_of, demand_seats}
use Rattle.std.proofs.lemmas.List.Quantifiers.{position-Some}
use Rattle.seat_bookings.specs.Demands.{begun, joined, nearer, settled}
use Rattle.seat_rules.proofs.Step.Found.{find_none}

-- the demand at i is the first of the place and class
abbrev IsFirst : Place → ℕ → List Demand → ℕ → Demand → Type 0
IsFirst place class ps i d = (i < length ps) × (is_demand_of place class (get_or ps i d) ≡ true) × ((k : ℕ) → k < i → is_demand_of place class (get_or ps k d) ≡ false)

behind : (place : Place) (class : ℕ) (p : Demand) (ps : List Demand) (i : ℕ) (d : Demand)
    → IsFirst place class (p ∷ ps) (suc i) d → IsFirst place class ps i d
behind place class p ps i d first = (omega (arith, first.0), first.1, λ k h. first.2 (suc k) (omega arith))

joined_first : (place : Place) (class k n : ℕ) (ps : List Demand) (i : ℕ) (d : Demand) → IsFirst place class ps i d
    → joined ps place class k n ≡ set ps i
    (record (get_or ps i d) {
      first = min k (get_or ps i d).first;
      near = nearer k n (get_or ps i d);
      smallest = min n (get_or ps i d).smallest;
      seats = (get_or ps i d).seats + n;
    })
joined_first place class k n [] i d first = absurd (omega (arith, first.0))
joined_first place class k n (p ∷ ps) zero d first = rw (first.1) refl
joined_first place class k n (p ∷ ps) (suc i) d first =
    let rest = joined_first place class k n ps i d (behind place class p ps i d first) in
    let other : is_demand_of place class p ≡ false = first.2 zero (omega arith) in
    rw (other, rest) refl

settled_first : (place : Place) (class m : ℕ) (next close : Option ℕ) (n : ℕ) (ps : List Demand) (i : ℕ) (d : Demand)
    → IsFirst place class ps i d
    → settled ps place class (Some m) next close n
    ≡ set ps i (record (get_or ps i d) {
      first = begun (get_or ps i d).first next;
      near = begun (get_or ps i d).near close;
      smallest = m;
      seats = (get_or ps i d).seats - n;
    })
settled_first place class m next close n [] i d first = absurd (omega (arith, first.0))
settled_first place class m next close n (p ∷ ps) zero d first = rw (first.1) refl
settled_first place class m next close n (p ∷ ps) (suc i) d first =
    let rest = settled_first place class m next close n ps i d (behind place class p ps i d first) in
    let other : is_demand_of place class p ≡ false = first.2 zero (omega arith) in
    rw (other, rest) refl

dropped_first : (place : Place) (class : ℕ) (next close : Option ℕ) (n : ℕ) (ps : List Demand) (i : ℕ) (d : Demand) → IsFirst place class ps i d
    → settled ps place class None next close n ≡ remove ps i
dropped_first place class next close n [] i d first = absurd (omega (arith, first.0))
dropped_first place class next close n (p ∷ ps) zero d first = rw (first.1) refl
dropped_first place class next close n (p ∷ ps) (suc i) d first =
    let rest = dropped_first place class next close n ps i d (behind place class p ps i d first) in
    let other : is_demand_of place class p ≡ false = first.2 zero (omega arith) in
    rw (other, rest) refl

seats_first : (place : Place) (class : ℕ) (ps : List Demand) (i : ℕ) (d : Demand) → IsFirst place class ps i d
    → demand_seats place class ps ≡ (get_or ps i d).seats
seats_first place class [] i d first = absurd (omega (arith, first.0))
seats_first place class (p ∷ ps) zero d first = rw (first.1) refl
seats_first place class (p ∷ ps) (suc i) d first =
    let rest = seats_first place class ps i d (behind place class p ps i d first) in
    let other : is_demand_of place class p ≡ false = first.2 zero (omega arith) in
    rw other rest

absent : (place : Place) (class : ℕ) (ps : List Demand) → find (is_demand_of place class) ps ≡ None
    → AllByRecursion (λ p. is_demand_of place class p ≡ false) ps
absent place class [] e = tt
absent place class (p ∷ ps) e = cases (is_demand_of place class p) refl e (absent place class ps) where
  cases : (t : Bool) → is_demand_of place class p ≡ t → cond t (Some p) (find (is_demand_of place class) ps) ≡ None
      → (find (is_demand_of place class) ps ≡ None
      → AllByRecursion (λ (q : Demand). is_demand_of place class q ≡ false) ps)
      → AllByRecursion (λ (q : Demand). is_demand_of place class q ≡ false) (p ∷ ps)
  cases true f g rest = absurd cc
  cases false f g rest = (f, rest g)

joined_absent : (place : Place) (class k n : ℕ) (ps : List Demand)
    → AllByRecursion (λ p. is_demand_of place class p ≡ false) ps
    → joined ps place class k n ≡ ps ++ record { place = place; class = class; first = k; near = k; smallest = n; seats = n } ∷ []
joined_absent place class k n [] a = refl
joined_absent place class k n (p ∷ ps) a = rw (a.0, joined_absent place class k n ps a.1) refl

settled_absent : (place : Place) (class n : ℕ) (o next close : Option ℕ) (ps : List Demand)
    → AllByRecursion (λ p. is_demand_of place class p ≡ false) ps → settled ps place class o next close n ≡ ps
settled_absent place class n o next close [] a = refl
settled_absent place class n o next close (p ∷ ps) a = rw (a.0, settled_absent place class n o next close ps a.1) refl

-- as the search for a demand answers
pub seats_found : (ps : List Demand) (place : Place) (class i : ℕ) (p : Demand)
    → Some i ≡ position (is_demand_of place class) ps → p ≡ get_or ps i p → demand_seats place class ps ≡ p.seats
seats_found ps place class i p found is =
    seats_first place class ps i p (position-Some (is_demand_of place class) ps i p (sym found)) ∙ ap (λ (x : Demand). x.seats) (sym is)

pub joined_found : (ps : List Demand) (place : Place) (class k n i h : ℕ) (p : Demand)
    → Some i ≡ position (is_demand_of place class) ps → p ≡ get_or ps i p → h ≡ nearer k n p
    → joined ps place class k n ≡ set ps i (record p {
      first = min k p.first;
      near = h;
      smallest = min n p.smallest;
      seats = p.seats + n;
    })
joined_found ps place class k n i h p found is nears =
    joined_first place class k n ps i p (position-Some (is_demand_of place class) ps i p (sym found))
    ∙ (ap (λ (x : Demand). set ps i (record x { first = min k x.first; near = nearer k n x; smallest = min n x.smallest; seats = x.seats + n })) (sym is)
    ∙ ap (λ (m : ℕ). set ps i (record p { first = min k p.first; near = m; smallest = min n p.smallest; seats = p.seats + n })) (sym nears))

pub joined_none : (ps : List Demand) (place : Place) (class k n : ℕ) → None ≡ position (is_demand_of place class) ps
    → joined ps place class k n ≡ ps ++ record { place = place; class = class; first = k; near = k; smallest = n; seats = n } ∷ []
joined_none ps place class k n e = joined_absent place class k n ps (absent place class ps (find_none (is_demand_of place class) ps (sym e)))

pub settled_found : (ps : List Demand) (place : Place) (class m : ℕ) (next close : Option ℕ) (n i f h : ℕ) (p : Demand)
    → Some i ≡ position (is_demand_of place class) ps → p ≡ get_or ps i p → f ≡ begun p.first next → h ≡ begun p.near close
    → settled ps place class (Some m) next close n
    ≡ set ps i (record p { first = f; near = h; smallest = m; seats = p.seats - n })
settled_found ps place class m next close n i f h p found is begins nears =
    settled_first place class m next close n ps i p (position-Some (is_demand_of place class) ps i p (sym found))
    ∙ (ap (λ (x : Demand). set ps i (record x { first = begun x.first next; near = begun x.near close; smallest = m; seats = x.seats - n })) (sym is)
    ∙ (ap (λ (k : ℕ). set ps i (record p { first = k; near = begun p.near close; smallest = m; seats = p.seats - n })) (sym begins)
    ∙ ap (λ (k : ℕ). set ps i (record p { first = f; near = k; smallest = m; seats = p.seats - n })) (sym nears)))

pub settled_gone : (ps : List Demand) (place : Place) (class : ℕ) (next close : Option ℕ) (n i : ℕ) (d : Demand)
    → Some i ≡ position (is_demand_of place class) ps → settled ps place class None next close n ≡ remove ps i
settled_gone ps place class next close n i d found = dropped_first place class next close n ps i d (position-Some (is_demand_of place class) ps i d (sym found))

pub settled_none : (ps : List Demand) (place : Place) (class n : ℕ) (o next close : Option ℕ)
    → None ≡ position (is_demand_of place class) ps → settled ps place class o next close n ≡ ps
settled_none ps place class n o next close e = settled_absent place class n o next close ps (absent place class ps (find_none (is_demand_of place class) ps (sym e)))
