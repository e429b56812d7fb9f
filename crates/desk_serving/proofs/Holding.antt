-- What is held of a line.
use Rattle.std.proofs.Common.{◌≡◌, ℕ, ◌<◌, ◌≤◌, List, [], ◌∷◌, ◌++◌, length, sym, ◌∙◌, arith, length-append}
use Rattle.std.proofs.lemmas.List.{take_all, take-append-le}
use Rattle.desk_serving.specs.Streaming.{held}

-- one byte more, where there is room
pub held_more : (old new : List ℕ) (byte : ℕ) → length old < 259 → new ≡ old ++ byte ∷ [] → new ≡ held (old ++ byte ∷ [])
unfolding held
held_more old new byte room is =
    let within : length (old ++ byte ∷ []) ≤ 259 = omega (arith, room, length-append old (byte ∷ [])) in
    is ∙ sym (take_all 259 (old ++ byte ∷ []) within)

-- with no room it stays as it is
pub held_full : (old : List ℕ) (byte : ℕ) → length old ≤ 259 → 259 ≤ length old → old ≡ held (old ++ byte ∷ [])
unfolding held
held_full old byte most full =
    sym (take-append-le 259 old (byte ∷ []) (omega (arith, full)) ∙ take_all 259 old most)
