use Rattle.std.proofs.Common.{◌≡◌, ◌+◌, ◌<◌, ◌++◌, ◌∷◌, [], ℕ, List, Option, length, get_or, take, flat_map, option_to_list, add-one, append-nil, ap, sym, ◌∙◌}
use Rattle.std.proofs.Math.Seq.{take-suc}
use Rattle.std.proofs.lemmas.Grind.{flat_map-append}
use Rattle.std.proofs.lemmas.List.Concat.{flat_map-cons}
use Rattle.seat_carrying.specs.declared.owned.Owned.{Owned}
use Rattle.seat_moving.specs.Moving.{moved_by}
use Rattle.seat_moving.proofs.moving.moved.Goals as goal

-- what comes of the next one stands behind what comes of those ahead of it
next : {X A : Type 0} (f : X → List A) (xs : List X) (x : X) (i : ℕ) (all new : List A) → i < length xs → x ≡ get_or xs i x → all ≡ flat_map f (take i xs)
    → new ≡ all ++ f x → new ≡ flat_map f (take (i + 1) xs)
next {X} {A} f xs x i all new lt is ahead pushed =
    let one : take (i + 1) xs ≡ take i xs ++ x ∷ [] =
    ap (λ (n : ℕ). take n xs) (add-one i) ∙ take-suc xs i x lt ∙ ap (λ (y : X). take i xs ++ y ∷ []) (sym is) in
    let its : flat_map f (x ∷ []) ≡ f x = flat_map-cons f x [] ∙ append-nil (f x) in
    pushed ∙ ap (λ (l : List A). l ++ f x) ahead
    ∙ sym (ap (λ (l : List X). flat_map f l) one ∙ flat_map-append f (take i xs) (x ∷ []) ∙ ap (λ (l : List A). flat_map f (take i xs) ++ l) its)

pub loop-booking-preserved : goal.loop-booking-preserved
loop-booking-preserved c =
    next (λ b. option_to_list (moved_by c.args.journal.now c.args.flights.now c.args.new.now c.args.today b)) c.args.live.now c.booking-item.result
    c.loop-booking.booking-index c.loop-booking.all.items c.add.new.all.items c.loop-booking-test.true c.booking-item.is c.loop-booking.invariant
    (c.in_ok-add.ensures ∙ ap (λ (o : Option Owned). c.loop-booking.all.items ++ option_to_list o) c.moved_by.ensures)
