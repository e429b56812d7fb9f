-- Viewers that desks take one by one.
use Rattle.std.proofs.Common.{◌≡◌, List, ◌++◌, ap}
use Rattle.std.specs.Prelude.{IfSome, Option, Some, None, option_to_list}
use Rattle.std.proofs.lemmas.List.Elements.{All-pop}
use Rattle.seat_display.specs.Faces.{Viewed, opened}
use Rattle.seat_nesting.specs.Nesting.{Ladders}
use Rattle.logbook.specs.Pages.{Book}
use Rattle.desk_answers.specs.Hosts.{AreViewers}

of_grid : (grid : Ladders) (book : Book) (r : Option Viewed) → IfSome r (λ v. v ≡ opened book grid) → IfSome r (λ v. v.grid ≡ grid)
of_grid grid book None is = tt
of_grid grid book (Some v) is = ap (λ (w : Viewed). w.grid) is

-- those that are left
pub others : (grid : Ladders) (old new : List Viewed) (r : Option Viewed) → AreViewers grid old → old ≡ new ++ option_to_list r
    → AreViewers grid new
others grid old new r are is = record {
  book = are.book;
  each = (All-pop (λ v. v ≡ opened are.book grid) old new r is are.each).0;
}

-- the one that is taken
pub last_viewer : (grid : Ladders) (old new : List Viewed) (r : Option Viewed) → AreViewers grid old
    → old ≡ new ++ option_to_list r → IfSome r (λ v. v.grid ≡ grid)
last_viewer grid old new r are is =
    of_grid grid are.book r (All-pop (λ v. v ≡ opened are.book grid) old new r is are.each).1
