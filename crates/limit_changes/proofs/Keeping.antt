-- The legs that are asked for, part by part.
use Rattle.std.proofs.Common.{◌≡◌, ℕ, ◌+◌, ◌<◌, ◌≤◌, Bool, true, false, List, [], ◌∷◌, ◌++◌, length, drop, get_or, Option, Some, None, inl, inr, arith, if◌then◌else◌, sym, ap, ◌∙◌, append_assoc}
use Rattle.std.proofs.Math.ListN.{drop_of_length-le}
use Rattle.std.specs.Prelude.{◌⊎◌, slice_get}
use Rattle.std.proofs.lemmas.List.{append-nil}
use Rattle.std.proofs.lemmas.Option.{slice_get_cases}
use Rattle.ssim_flights.proofs.Walks.{drop_step}
use Rattle.ssim_flights.specs.declared.flight.DatedLeg.{DatedLeg}
use Rattle.ssim_flights.specs.declared.flight.Flight.{Flight as Flown}
use Rattle.seat_lists.specs.Picking.{keeps_flight}
use Rattle.limit_changes.specs.Legs.{each_from, is_chosen, kept_leg, kept_on, named_leg}
use Rattle.limit_changes.specs.declared.legs.LegsAsked.{LegsAsked}
use Rattle.limit_changes.specs.declared.legs.NamedLeg.{NamedLeg}

module _ {A B : Type 0} where
  -- the part of one item more
  pub part_more : (part : ℕ → A → List B) (k next i : ℕ) (xs : List A) (x : A) (mid new whole : List B)
      → mid ++ each_from part k (drop i xs) ≡ whole → i < length xs → x ≡ get_or xs i x
      → new ≡ mid ++ part k x → next ≡ k + 1 → new ++ each_from part next (drop (i + 1) xs) ≡ whole
  part_more part k next i xs x mid new whole so_far inside is put is_next =
      let rest : drop i xs ≡ x ∷ drop (i + 1) xs = drop_step xs i x inside is in
      ap (λ (l : List B). l ++ each_from part next (drop (i + 1) xs)) put
      ∙ append_assoc mid (part k x) (each_from part next (drop (i + 1) xs))
      ∙ ap (λ (n : ℕ). mid ++ (part k x ++ each_from part n (drop (i + 1) xs))) is_next
      ∙ ap (λ (l : List A). mid ++ each_from part k l) (sym rest)
      ∙ so_far

  pub parts_whole : (part : ℕ → A → List B) (k i count : ℕ) (xs : List A) (all whole : List B)
      → all ++ each_from part k (drop i xs) ≡ whole → count ≡ length xs → count ≤ i → all ≡ whole
  parts_whole part k i count xs all whole so_far counted over =
      let past : length xs ≤ i = omega (arith, counted, over) in
      sym (append-nil all) ∙ ap (λ (l : List A). all ++ each_from part k l) (sym (drop_of_length-le xs past)) ∙ so_far

  -- the same where a part is its number's
  pub number_more : (part : ℕ → A → List B) (rule : ℕ → List B) (k next i : ℕ) (xs : List A) (mid new whole : List B)
      → ((n : ℕ) (x : A) → part n x ≡ rule n) → mid ++ each_from part k (drop i xs) ≡ whole → i < length xs
      → new ≡ mid ++ rule k → next ≡ k + 1 → new ++ each_from part next (drop (i + 1) xs) ≡ whole
  number_more part rule k next i xs mid new whole same so_far inside put is_next = by (slice_get_cases xs i).1 where
    by : ((x : A) × (i < length xs) × (slice_get xs i ≡ Some x) × (get_or xs i x ≡ x)) ⊎ ((length xs ≤ i) × (slice_get xs i ≡ None))
        → new ++ each_from part next (drop (i + 1) xs) ≡ whole
    by (inl h) =
        part_more part k next i xs h.0 mid new whole so_far inside (sym h.3)
        (put ∙ ap (λ (l : List B). mid ++ l) (sym (same k h.0))) is_next
    by (inr h) = absurd (omega (arith, inside, h.0))

-- ---- a flight

pub flight_left : (named : Bool) (found : List Flown) (asked : LegsAsked) (i : ℕ) (flight : Flown) (all : List NamedLeg) → keeps_flight asked.flight flight ≡ false
    → all ≡ all ++ kept_on named found asked i flight
flight_left named found asked i flight all e =
    sym (append-nil all) ∙ ap (λ (b : Bool). all ++ (if b then each_from (kept_leg named found asked i flight) 0 flight.legs else [])) (sym e)

pub flight_kept : (named : Bool) (found : List Flown) (asked : LegsAsked) (i : ℕ) (flight : Flown) (old new : List NamedLeg) → keeps_flight asked.flight flight ≡ true
    → new ≡ old ++ each_from (kept_leg named found asked i flight) 0 flight.legs → new ≡ old ++ kept_on named found asked i flight
flight_kept named found asked i flight old new e put =
    put ∙ ap (λ (b : Bool). old ++ (if b then each_from (kept_leg named found asked i flight) 0 flight.legs else [])) (sym e)

-- ---- a leg

pub leg_left : (named : Bool) (found : List Flown) (asked : LegsAsked) (i : ℕ) (flight : Flown) (j : ℕ) (leg : DatedLeg) (all : List NamedLeg) → is_chosen named found asked i flight j leg ≡ false
    → all ≡ all ++ kept_leg named found asked i flight j leg
leg_left named found asked i flight j leg all e =
    sym (append-nil all) ∙ ap (λ (b : Bool). all ++ (if b then named_leg i flight j leg ∷ [] else [])) (sym e)

pub leg_kept : (named : Bool) (found : List Flown) (asked : LegsAsked) (i : ℕ) (flight : Flown) (j : ℕ) (leg : DatedLeg) (x : NamedLeg) (old new : List NamedLeg)
    → is_chosen named found asked i flight j leg ≡ true → x ≡ named_leg i flight j leg → new ≡ old ++ x ∷ [] → new ≡ old ++ kept_leg named found asked i flight j leg
leg_kept named found asked i flight j leg x old new e is put =
    put ∙ ap (λ (y : NamedLeg). old ++ y ∷ []) is ∙ ap (λ (b : Bool). old ++ (if b then named_leg i flight j leg ∷ [] else [])) (sym e)
