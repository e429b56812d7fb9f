-- What is put back into the seal of a journal that was marked.
use Rattle.std.specs.Prelude.{ℕ, Bool, true, false, List, Option}
use Rattle.hand_steps.specs.Handing.{back_where}
use Rattle.seat_handing.specs.declared.deciding.Hand.{Hand}
use Rattle.seat_handing.specs.declared.deciding.Hand.TheVariants.{Mark, Finish, Anew}

-- whether the mark is taken back where the newer journal fails: not where there was a mark already
abbrev pub is_taken_back : Hand → Bool
is_taken_back Mark = true
is_taken_back Finish = false
is_taken_back Anew = false

-- what the seal had, or nothing
abbrev pub put_back : Hand → List ℕ → Option (List ℕ)
put_back hand before = back_where (is_taken_back hand) before
