-- What a partner was told, with the changes in place, is what it would be told of all.
use Rattle.std.proofs.Common.{◌≡◌, ◌==◌, Bool, true, false, List, [], ◌∷◌, map, refl, sym, ap, ◌∙◌}
use Rattle.std.specs.List.{AllByRecursion}
use Rattle.std.proofs.lemmas.Bool.{and_parts}
use Rattle.seat_rules.proofs.History.Faults.{nat_same}
use Rattle.seat_availability.specs.Changes.{ChangesSuffice, applied, changed, latest, same_status, tells_same}
use Rattle.seat_availability.specs.Messages.{AreApart, message_of, same_segment, segments}
use Rattle.seat_availability.specs.declared.segments.Message.{Message}
use Rattle.seat_availability.specs.declared.segments.Segment.{Segment}
use Rattle.seat_availability.specs.declared.statuses.Status.{Status}
use Rattle.seat_availability.specs.declared.statuses.Status.TheVariants.{Open, ListOpen, Closed, NotOperated}
use Rattle.seat_availability.proofs.Apart.{flip, same_itself, segments_stand_once}

status_is : (a b : Status) → same_status a b ≡ true → a ≡ b
status_is Open Open e = refl
status_is Open ListOpen e = absurd cc
status_is Open Closed e = absurd cc
status_is Open NotOperated e = absurd cc
status_is ListOpen Open e = absurd cc
status_is ListOpen ListOpen e = refl
status_is ListOpen Closed e = absurd cc
status_is ListOpen NotOperated e = absurd cc
status_is Closed Open e = absurd cc
status_is Closed ListOpen e = absurd cc
status_is Closed Closed e = refl
status_is Closed NotOperated e = absurd cc
status_is NotOperated Open e = absurd cc
status_is NotOperated ListOpen e = absurd cc
status_is NotOperated Closed e = absurd cc
status_is NotOperated NotOperated e = refl

message_is : (a b : Message) → a.segment ≡ b.segment → tells_same a b ≡ true → a ≡ b
message_is a b same e =
    let parts = and_parts (same_status a.status b.status) (a.seats == b.seats) e in
    let status = status_is a.status b.status parts.0 in
    let seats = nat_same a.seats b.seats parts.1 in
    λ i. record { segment = same i; status = status i; seats = seats i }

module _ (f g : Segment → Message) (f_of : (k : Segment) → (f k).segment ≡ k) (g_of : (k : Segment) → (g k).segment ≡ k) where
  -- the segment of a message and that of a change, told apart
  between : (k x : Segment) (b : Bool) → same_segment k x ≡ b → same_segment (f k).segment (g x).segment ≡ b
  between k x b e =
      ap (λ (s : Segment). same_segment s (g x).segment) (f_of k) ∙ ap (λ (s : Segment). same_segment k s) (g_of x) ∙ e

  -- behind segments of which none is this one
  absent : (k : Segment) (ks : List Segment) → AllByRecursion (λ x. same_segment k x ≡ false) ks → latest (changed (map f ks) (map g ks)) (f k) ≡ f k
  absent k [] apart = refl
  absent k (x ∷ ks) apart = cases (tells_same (f x) (g x)) refl (absent k ks apart.1) where
    cases : (b : Bool) → tells_same (f x) (g x) ≡ b → latest (changed (map f ks) (map g ks)) (f k) ≡ f k
        → latest (changed (map f (x ∷ ks)) (map g (x ∷ ks))) (f k) ≡ f k
    cases true e rest = rw e rest
    cases false e rest = rw (e, between k x false apart.0) rest

  -- its own change is found first
  own : (k : Segment) (ks : List Segment) → AllByRecursion (λ x. same_segment k x ≡ false) ks
      → latest (changed (map f (k ∷ ks)) (map g (k ∷ ks))) (f k) ≡ g k
  own k ks apart = cases (tells_same (f k) (g k)) refl where
    cases : (b : Bool) → tells_same (f k) (g k) ≡ b → latest (changed (map f (k ∷ ks)) (map g (k ∷ ks))) (f k) ≡ g k
    cases true e =
        let is : latest (changed (map f ks) (map g ks)) (f k) ≡ g k = absent k ks apart ∙ message_is (f k) (g k) (f_of k ∙ sym (g_of k)) e in
        rw e is
    cases false e = rw (e, between k k true (same_itself k)) refl

  -- the change of another one is passed over
  passed : (k m : Segment) (ks : List Segment) → same_segment k m ≡ false
      → latest (changed (map f (k ∷ ks)) (map g (k ∷ ks))) (f m) ≡ latest (changed (map f ks) (map g ks)) (f m)
  passed k m ks apart = cases (tells_same (f k) (g k)) refl where
    cases : (b : Bool) → tells_same (f k) (g k) ≡ b
        → latest (changed (map f (k ∷ ks)) (map g (k ∷ ks))) (f m) ≡ latest (changed (map f ks) (map g ks)) (f m)
    cases true e = rw e refl
    cases false e = rw (e, between m k false (flip k m apart)) refl

  all_passed : (k : Segment) (ks ms : List Segment) → AllByRecursion (λ m. same_segment k m ≡ false) ms
      → map (latest (changed (map f (k ∷ ks)) (map g (k ∷ ks)))) (map f ms) ≡ map (latest (changed (map f ks) (map g ks))) (map f ms)
  all_passed k ks [] apart = refl
  all_passed k ks (m ∷ ms) apart =
      ap (λ (x : Message). x ∷ map (latest (changed (map f (k ∷ ks)) (map g (k ∷ ks)))) (map f ms)) (passed k m ks apart.0)
      ∙ ap (λ (l : List Message). latest (changed (map f ks) (map g ks)) (f m) ∷ l) (all_passed k ks ms apart.1)

  suffices : (ks : List Segment) → AreApart ks → applied (map f ks) (changed (map f ks) (map g ks)) ≡ map g ks
  suffices [] apart = refl
  suffices (k ∷ ks) apart =
      ap (λ (x : Message). x ∷ map (latest (changed (map f (k ∷ ks)) (map g (k ∷ ks)))) (map f ks)) (own k ks apart.0)
      ∙ ap (λ (l : List Message). g k ∷ l) (all_passed k ks ks apart.0 ∙ suffices ks apart.1)

pub changes_suffice : ChangesSuffice
changes_suffice asked flights grid older newer ladders =
    suffices (message_of asked older) (message_of asked newer) (λ (k : Segment). refl) (λ (k : Segment). refl) (segments flights asked grid)
    (segments_stand_once flights asked grid ladders)
