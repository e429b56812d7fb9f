-- What is kept by name, one pair after the other.
use Rattle.std.proofs.Common.{◌≡◌, ℕ, ◌+◌, ◌<◌, ◌≤◌, Bool, true, false, List, [], ◌∷◌, ◌++◌, length, take, get_or, Option, Some, None, refl, sym, ap, subst, ◌∙◌, append_assoc, cond}
use Rattle.std.specs.List.{flat_map}
use Rattle.std.specs.HashMap.{get}
use Rattle.std.proofs.lemmas.Grind.{flat_map-append}
use Rattle.std.proofs.lemmas.List.{append-nil, take_all, take_more}
use Rattle.std.proofs.lemmas.List.Sums.{fold_push}
use Rattle.partner_lists.specs.declared.name.Name.{Name}
use Rattle.partner_lists.specs.Names.{Finds, Kept, Puts, last_named, later, same_name}

module _ {V : Type 0} where
  pub finds_more : (old new : Kept V) (pairs : List (Name × V)) (name : Name) (value : V) → Finds old pairs → Puts old new name value
      → Finds new (pairs ++ (name, value) ∷ [])
  finds_more old new pairs name value found put = record {
    at = λ k. put.at k ∙ ap (λ (o : Option V). cond (same_name name k) (Some value) o) (found.at k)
        ∙ sym (fold_push (later k) None pairs (name, value));
  }
