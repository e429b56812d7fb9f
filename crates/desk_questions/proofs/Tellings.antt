-- What a desk is told, over a journal.
use Rattle.std.proofs.Common.{◌≡◌, ℕ, List, [], ◌++◌, ◌∙◌, ap, sym, subst}
use Rattle.ssim_flights.specs.declared.flight.Flight.{Flight as Flown}
use Rattle.seat_journal.specs.declared.entry.Entry.{Entry}
use Rattle.desk_telling.specs.Telling.{AreTold, AreToldBehind, Telling, told_behind}

-- what is told behind nothing is all
pub told_whole : (flights : List Flown) (desk : ℕ) (lines journal : List Entry) (n m : ℕ) (old new : List ℕ) → old ≡ []
    → lines ≡ journal → n ≡ m → AreToldBehind flights desk (told_behind lines desk n) old new
    → AreTold flights desk (told_behind journal desk m) new
told_whole flights desk lines journal n m old new empty same counted told =
    let whole : new ≡ told.part = told.written ∙ ap (λ (l : List ℕ). l ++ told.part) empty in
    let these : told_behind lines desk n ≡ told_behind journal desk m =
    ap (λ (l : List Entry). told_behind l desk n) same ∙ ap (told_behind journal desk) counted in
    subst (λ (ts : List Telling). AreTold flights desk ts new) these (subst (AreTold flights desk (told_behind lines desk n)) (sym whole) told.are_told)
