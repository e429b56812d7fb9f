-- What became of one live booking after the other.
use Rattle.std.proofs.Common.{◌≡◌, ◌<◌, ◌+◌, ℕ, List, [], ◌∷◌, ◌++◌, length, drop, get_or, refl, sym, ap, subst, ◌∙◌, append_assoc, append-nil, arith, Option}
use Rattle.std.proofs.lemmas.List.{drop_all, drop_more}
use Rattle.seat_rules.specs.declared.booking.Booking.{Booking}
use Rattle.carry_order.specs.declared.numbering.Numbered.{Numbered}
use Rattle.carry_reports.specs.Fates.{fate_by, fates, fates_from, next_of}
use Rattle.carry_reports.specs.declared.fating.Carried.{Carried}
use Rattle.carry_reports.specs.declared.fating.Fate.{Fate}
use Rattle.carry_reports.specs.declared.fating.Fated.{Fated}

-- those so far, and what the others come to
pub record IsSoFar (c : Carried) (live left : List Booking) (all : List Fated) (rest : List Numbered) : Type 0 where
  pub whole : all ++ fates_from c rest left ≡ fates c live

pub first_so_far : (c : Carried) (live : List Booking) (all : List Fated) (rest : List Numbered) → all ≡ [] → rest ≡ c.asked.now
    → IsSoFar c live live all rest
first_so_far c live all rest empty first =
    record { whole = ap (λ (l : List Fated). l ++ fates_from c rest live) empty ∙ ap (λ (l : List Numbered). fates_from c l live) first }

pub so_far_on : (c : Carried) (live : List Booking) (i : ℕ) (b : Booking) (all new : List Fated) (rest behind : List Numbered) (next : Option Numbered)
    (fate : Fate) → IsSoFar c live (drop i live) all rest → i < length live → b ≡ get_or live i b
    → next ≡ (next_of b rest).0 → behind ≡ (next_of b rest).1 → fate ≡ fate_by c b next
    → new ≡ all ++ record { booking = b; fate = fate } ∷ [] → IsSoFar c live (drop (i + 1) live) new behind
so_far_on c live i b all new rest behind next fate so_far inside here is_next is_behind is added =
    let here_is : drop i live ≡ b ∷ drop (i + 1) live = drop_more live i b inside ∙ ap (λ (x : Booking). x ∷ drop (i + 1) live) (sym here) in
    let fated : fate ≡ fate_by c b (next_of b rest).0 = is ∙ ap (fate_by c b) is_next in
    record {
      whole = ap (λ (l : List Fated). l ++ fates_from c behind (drop (i + 1) live)) added
          ∙ append_assoc all (record { booking = b; fate = fate } ∷ []) (fates_from c behind (drop (i + 1) live))
          ∙ ap (λ (f : Fate). all ++ record { booking = b; fate = f } ∷ fates_from c behind (drop (i + 1) live)) fated
          ∙ ap (λ (l : List Numbered). all ++ record { booking = b; fate = fate_by c b (next_of b rest).0 } ∷ fates_from c l (drop (i + 1) live)) is_behind
          ∙ ap (λ (l : List Booking). all ++ fates_from c rest l) (sym here_is) ∙ so_far.whole;
    }

pub all_of_them : (c : Carried) (live : List Booking) (i : ℕ) (all : List Fated) (rest : List Numbered) → IsSoFar c live (drop i live) all rest
    → ((i < length live) → ⊥) → all ≡ fates c live
all_of_them c live i all rest so_far past =
    let none : drop i live ≡ [] = drop_all i live (omega (arith, past)) in
    sym (append-nil all) ∙ ap (λ (l : List Booking). all ++ fates_from c rest l) (sym none) ∙ so_far.whole
