-- The scripts that a seal names, one after the other.
use Rattle.std.proofs.Common.{◌≡◌, ℕ, ◌+◌, List, [], ◌∷◌, ◌++◌, Option, sym, ap, ◌∙◌, append_assoc}
use Rattle.std.proofs.lemmas.List.{append-nil}
use Rattle.seat_seal.specs.declared.imprint.Imprint.{Imprint}
use Rattle.seat_seal.specs.declared.scripts.Script.{Script}
use Rattle.seat_scripts.specs.SealedRun.{named, named_from}

pub named_none : (session : ℕ) (old : List Script) → old ≡ old ++ named_from session []
named_none session old = sym (append-nil old)

pub named_more : (session : ℕ) (imprint : Option Imprint) (more : List (Option Imprint)) (old mid new : List Script)
    → mid ≡ old ++ named session imprint → new ≡ mid ++ named_from (session + 1) more
    → new ≡ old ++ named_from session (imprint ∷ more)
named_more session imprint more old mid new first rest =
    rest ∙ (ap (λ (l : List Script). l ++ named_from (session + 1) more) first ∙ append_assoc old (named session imprint) (named_from (session + 1) more))
