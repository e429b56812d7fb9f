-- One journal more beside those before it.
use Rattle.std.proofs.Common.{◌≡◌, ℕ, List, length, Option, arith, ap, subst, sym, ◌∙◌}
use Rattle.seat_journal.specs.declared.entry.Entry.{Entry}
use Rattle.taken_journals.specs.declared.taken.Taken.{Taken}
use Rattle.taken_journals.specs.Owners.{first_owned, OwnsToo}
use Rattle.taken_journals.specs.Taken.{HasPlaces}

pub places_of : (flights : ℕ) (taken : Taken) → length taken.owners.items ≡ flights → HasPlaces flights taken
places_of flights taken is = record { enough = omega (arith, is) }

-- what was found in the list is so of the owners
pub looked : (owners list : List ℕ) (entries : List Entry) (found : Option (ℕ × ℕ)) → list ≡ owners → found ≡ first_owned list entries
    → first_owned owners entries ≡ found
looked owners list entries found same is = sym (is ∙ ap (λ (l : List ℕ). first_owned l entries) same)

pub owned_by : (place next : ℕ) (old new : List ℕ) (entries : List Entry) → place ≡ next → OwnsToo place old new entries
    → OwnsToo next old new entries
owned_by place next old new entries is owns = subst (λ (n : ℕ). OwnsToo n old new entries) is owns
