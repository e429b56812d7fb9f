-- The room of a class as it is told: none where the class is closed.
use Rattle.std.proofs.Common.{◌≡◌, ◌==◌, ℕ, ◌+◌, ◌-◌, ◌<◌, true, if◌then◌else◌, length, drop, get_or, ap, sym, ◌∙◌}
use Rattle.seat_nesting.specs.declared.ladder.Step.{Step}
use Rattle.seat_nesting.specs.Nesting.{Steps, held_from, room_on}
use Rattle.seat_nesting.proofs.Rooms.{room_here}

-- from the rank of the class on
pub room_told : (steps : Steps) (i j : ℕ) (x : Step) (seats : ℕ → ℕ) (class here told : ℕ) → j ≡ i + 1 → i < length steps
    → x ≡ get_or steps i x → true ≡ (x.class == class) → told ≡ (if x.closed then 0 else here)
    → here ≡ x.limit - held_from seats (drop i steps) → told ≡ room_on (drop i steps) seats class
room_told steps i j x seats class here told e h is same is_told left =
    is_told ∙ ap (λ (n : ℕ). if x.closed then 0 else n) left ∙ sym (room_here steps i j x seats class e h is same)
