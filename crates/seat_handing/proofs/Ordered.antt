-- The order in which a journal is handed over: both are never sold from.
use Rattle.std.proofs.Common.{◌≡◌, ◌⊎◌, inl, inr, ℕ, List, Option, sym, subst}
use Rattle.seat_seal.specs.declared.imprint.Imprint.{Imprint}
use Rattle.hand_steps.specs.Handing.{InHandOrder, IsMarking, IsPutting}
use Rattle.seat_handing.specs.Marking.{NeverBoth, SaysCarried}

module _ (mark : List ℕ) (back : Option (List ℕ)) (both text alone : List ℕ)
    (marks_old journals_old seals_old marks_new journals_new seals_new : List ℕ → Type 0) (newer : Imprint) (says : SaysCarried newer mark) where
  carried : (seal : List ℕ) → seal ≡ mark → SaysCarried newer seal
  carried seal is = subst (SaysCarried newer) (sym is) says

  pub never_both : InHandOrder mark back both text alone marks_old journals_old seals_old marks_new journals_new seals_new
      → NeverBoth newer journals_old journals_new marks_new
  never_both order = record { each = λ journal seal left stands. pick journal seal left stands order.step }
    where
      pick : (journal seal : List ℕ) → journals_new journal → marks_new seal
          → IsMarking mark back both marks_old journals_old seals_old marks_new journals_new seals_new
          ⊎ IsPutting mark both text alone journals_old seals_old marks_new journals_new seals_new
          → journals_old journal ⊎ SaysCarried newer seal
      pick journal seal left stands (inl marking) = inl (marking.newer journal left)
      pick journal seal left stands (inr putting) = inr (carried seal (putting.older seal stands))
