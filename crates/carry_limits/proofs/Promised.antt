-- What the changes promise.
use Rattle.std.proofs.Common.{◌≡◌, ℕ, List, [], map, refl, ap, sym, subst, ◌∙◌}
use Rattle.std.specs.List.{All}
use Rattle.seat_journal.specs.declared.entry.Change.{Change}
use Rattle.seat_nesting.specs.Nesting.{Ladders, Steps, ladder_at}
use Rattle.seat_rules.specs.Journal.{FitsChange}
use Rattle.seat_rules.specs.Sequential.{state_of}
use Rattle.limit_changes.specs.Laws.{AreLadders, SameRanks, after_rows, change_in}
use Rattle.limit_changes.specs.Legs.{every_leg}
use Rattle.limit_changes.specs.Rows.{rows}
use Rattle.limit_changes.specs.declared.rows.Row.{Row}
use Rattle.carry_lines.specs.Carried.{limits_behind}
use Rattle.carry_limits.specs.ByFlight.{Lists}
use Rattle.carry_limits.specs.Changes.{AreAllMade, AreReached, HasRoomBehind, changes_for, rows_for}
use Rattle.carry_limits.specs.Legs.{HasLegsOf}
use Rattle.carry_limits.specs.Lifting.{FileNests, lifted_limits, lifted_on}
use Rattle.carry_limits.specs.declared.wanting.Seasons.{Seasons}
use Rattle.carry_limits.proofs.Behind.{all_made, behind_is, each_fits, each_reached}
use Rattle.carry_limits.proofs.Grids.{lifted_at}
use Rattle.carry_limits.proofs.Ranked.{lifted_ranks}
use Rattle.carry_limits.proofs.Roomy.{room_for_all, seats_for_all}

module _ (s : Seasons) (lists : Lists) (lifted : Ladders) (between : List Row) (all : List Change)
    (has : HasLegsOf s.file.now s.flights.now)
    (is : lifted ≡ lifted_limits s lists)
    (nested : AreLadders lifted)
    (file : FileNests s)
    (are : between ≡ rows lifted (state_of s.file.now []) (every_leg s.flights.now))
    (changes : all ≡ map change_in between) where
  pub value : all ≡ changes_for s lists
  value = changes ∙ ap (λ (l : List Row). map change_in l) (are ∙ ap (λ (g : Ladders). rows g (state_of s.file.now []) (every_leg s.flights.now)) is)

  right : AreLadders (lifted_limits s lists)
  right = subst (λ (g : Ladders). AreLadders g) is nested

  made_all : AreAllMade (state_of s.file.now []) (changes_for s lists)
  made_all = all_made s.flights.now s.file.now (lifted_limits s lists) (file.nests has) right

  pub accepted : AreAllMade (state_of s.file.now []) all
  accepted = subst (λ (l : List Change). AreAllMade (state_of s.file.now []) l) (sym value) made_all

  pub fits : All (FitsChange s.file.now) all
  fits = each_fits s.file.now all (file.nests has) accepted

  lifted_same : (flight leg : ℕ) → SameRanks (ladder_at s.file.now flight leg) (ladder_at (lifted_limits s lists) flight leg)
  lifted_same flight leg =
      subst (λ (l : Steps). SameRanks (ladder_at s.file.now flight leg) l) (sym (lifted_at s lists has flight leg)) (lifted_ranks s lists flight leg)

  behind : (flight leg : ℕ) → ladder_at (limits_behind s.file.now (changes_for s lists)) flight leg ≡ ladder_at (lifted_limits s lists) flight leg
  behind flight leg =
      ap (λ (g : Ladders). ladder_at g flight leg) (behind_is s.file.now (rows_for s lists))
      ∙ each_reached s.flights.now s.file.now (lifted_limits s lists) (file.nests has) right has lifted_same flight leg

  pub reached : AreReached s lists all
  reached = subst (λ (l : List Change). AreReached s lists l) (sym value) (record { each = behind })

  pub room : HasRoomBehind s lists all
  room = subst (λ (l : List Change). HasRoomBehind s lists l) (sym value) (record {
    seats = λ live by_flight placed none.
        seats_for_all s lists live (limits_behind s.file.now (changes_for s lists)) has
        (λ flight leg. behind flight leg ∙ lifted_at s lists has flight leg) by_flight placed none;
    room = λ live by_flight apart placed none few.
        room_for_all s lists live (limits_behind s.file.now (changes_for s lists)) has
        (λ flight leg. behind flight leg ∙ lifted_at s lists has flight leg) by_flight placed none apart few;
  })
