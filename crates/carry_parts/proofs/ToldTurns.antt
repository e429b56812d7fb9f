-- Those of whom a part tells, one live booking after the other.
use Rattle.std.proofs.Common.{◌≡◌, ◌≤◌, ◌<◌, ◌+◌, ℕ, Bool, true, false, List, [], ◌∷◌, ◌++◌, length, drop, get_or, if◌then◌else◌, Option, sym, ap, ◌∙◌, append_assoc, append-nil, arith}
use Rattle.std.proofs.lemmas.List.{drop_all, drop_more}
use Rattle.std.proofs.lemmas.List.Elements.{All-from_recursion, recursion_from_All}
use Rattle.std.specs.List.{All, AllByRecursion}
use Rattle.ssim_flights.specs.declared.flight.Flight.{Flight as Flown}
use Rattle.seat_rules.specs.declared.booking.Booking.{Booking}
use Rattle.carry_order.specs.declared.numbering.Numbered.{Numbered}
use Rattle.carry_parts.specs.Told.{is_told, next_of, told}
use Rattle.carry_parts.specs.declared.part.Part.{Part}

module _ (part : Part) (olds news : List Flown) where
  abbrev one_if : Bool → Booking → List Booking
  one_if t b = (if t then b ∷ [] else [])

  -- those so far, and what the others come to
  pub record IsToldTo (live left : List Booking) (numbered rest : List Numbered) (all : List Booking) : Type 0 where
    pub whole : all ++ told part olds news left rest ≡ told part olds news live numbered

  pub told_first : (live : List Booking) (numbered rest : List Numbered) (all : List Booking) → all ≡ [] → rest ≡ numbered
      → IsToldTo live live numbered rest all
  told_first live numbered rest all empty first = record {
    whole = ap (λ (l : List Booking). l ++ told part olds news live rest) empty ∙ ap (told part olds news live) first;
  }

  pub told_on : (live : List Booking) (i : ℕ) (numbered rest behind : List Numbered) (next : Option Numbered) (b : Booking) (all new : List Booking)
      (t : Bool) → IsToldTo live (drop i live) numbered rest all → i < length live → b ≡ get_or live i b
      → next ≡ (next_of b rest).0 → behind ≡ (next_of b rest).1 → t ≡ is_told part olds news b next
      → new ≡ all ++ (if t then b ∷ [] else []) → IsToldTo live (drop (i + 1) live) numbered behind new
  told_on live i numbered rest behind next b all new t so_far inside here is_next is_behind is added =
      let here_is : drop i live ≡ b ∷ drop (i + 1) live = drop_more live i b inside ∙ ap (λ (x : Booking). x ∷ drop (i + 1) live) (sym here) in
      let tells : t ≡ is_told part olds news b (next_of b rest).0 = is ∙ ap (is_told part olds news b) is_next in
      record {
        whole = ap (λ (l : List Booking). l ++ told part olds news (drop (i + 1) live) behind) added
            ∙ append_assoc all (one_if t b) (told part olds news (drop (i + 1) live) behind)
            ∙ ap (λ (s : Bool). all ++ (one_if s b ++ told part olds news (drop (i + 1) live) behind)) tells
            ∙ ap (λ (l : List Numbered). all ++ (one_if (is_told part olds news b (next_of b rest).0) b ++ told part olds news (drop (i + 1) live) l)) is_behind
            ∙ ap (λ (l : List Booking). all ++ told part olds news l rest) (sym here_is) ∙ so_far.whole;
      }

  pub told_all : (live : List Booking) (i : ℕ) (numbered rest : List Numbered) (all : List Booking) → IsToldTo live (drop i live) numbered rest all
      → ((i < length live) → ⊥) → all ≡ told part olds news live numbered
  told_all live i numbered rest all so_far past =
      let none : drop i live ≡ [] = drop_all i live (omega (arith, past)) in
      sym (append-nil all) ∙ ap (λ (l : List Booking). all ++ told part olds news l rest) (sym none) ∙ so_far.whole

  -- ---- how many, and what holds of all

  pub few_told : (live : List Booking) (numbered : List Numbered) → length (told part olds news live numbered) ≤ length live
  few_told [] numbered = omega arith
  few_told (b ∷ live) numbered = by (is_told part olds news b (next_of b numbered).0) (few_told live (next_of b numbered).1) where
    by : (t : Bool) → length (told part olds news live (next_of b numbered).1) ≤ length live
        → length (one_if t b ++ told part olds news live (next_of b numbered).1) ≤ length (b ∷ live)
    by true h = omega (arith, h)
    by false h = omega (arith, h)

  each_told : (P : Booking → Type 0) (live : List Booking) (numbered : List Numbered) → AllByRecursion P live
      → AllByRecursion P (told part olds news live numbered)
  each_told P [] numbered all = tt
  each_told P (b ∷ live) numbered all =
      by (is_told part olds news b (next_of b numbered).0) (each_told P live (next_of b numbered).1 all.1) where
        by : (t : Bool) → AllByRecursion P (told part olds news live (next_of b numbered).1)
            → AllByRecursion P (one_if t b ++ told part olds news live (next_of b numbered).1)
        by true rest = (all.0, rest)
        by false rest = rest

  pub each_is_told : (P : Booking → Type 0) (live : List Booking) (numbered : List Numbered) → All P live → All P (told part olds news live numbered)
  each_is_told P live numbered all =
      All-from_recursion P (told part olds news live numbered) (each_told P live numbered (recursion_from_All P live all))
