use Rattle.std.proofs.Common.{◌≡◌, List, refl, sym, subst}
use Rattle.std.specs.List.{All}
use Rattle.ssim_flights.specs.declared.flight.Flight.{Flight as Flown}
use Rattle.seat_journal.specs.declared.entry.Change.{Change}
use Rattle.seat_rules.specs.Journal.{FitsChange}
use Rattle.seat_carrying.specs.Owned.{IsOwned}
use Rattle.seat_carrying.specs.declared.owned.Owned.{Owned}
use Rattle.carry_limits.specs.declared.wanting.Seasons.{Seasons}
use Rattle.carry_plans.specs.Plans.{marks_for}
use Rattle.carry_plans.proofs.OwnParts.{all_changes, all_owned, are_own}
use Rattle.carry_plans.proofs.parting.own_of.Goals as goal

pub returns-in-Ok-own_among-clause-own : goal.returns-in-Ok-own_among-clause-own
returns-in-Ok-own_among-clause-own c =
    let seasons : Seasons = record { old = c.args.old; before = c.args.before; flights = c.args.news; new = c.args.new; file = c.args.file; fresh = c.args.asked.now.fresh_limits } in
    are_own c.args.part c.args.asked.now c.args.olds.now c.args.before.now c.args.news.now c.args.file.now c.args.parts.now.chosen.kept.items
    c.as_slice-kept.result.now c.args.parts.now.by seasons c.in-Ok.rows.items c.as_slice-lines.result.now c.in-Ok-marks_for.marks.items c.as_slice-closings.result.now
    c.in-Ok-own_among.own.rows.items c.in-Ok-own_among.own.kept.items c.in-Ok-own_among.own.marks.items
    (record { old_is = c.requires.old; before_is = refl; flights_are = refl; new_is = c.requires.new; file_is = refl; fresh_is = refl })
    c.in-Ok.ensures.value
    (subst (λ (n : List Flown). c.in-Ok-marks_for.marks.items ≡ marks_for c.args.asked.now.fresh_limits c.args.olds.now c.args.before.now n c.args.file.now) c.requires.new c.in-Ok-marks_for.ensures.marks)
    c.as_slice-lines.ensures.value c.as_slice-kept.ensures.value c.as_slice-closings.ensures.value
    c.in-Ok-own_among.ensures.rows c.in-Ok-own_among.ensures.kept c.in-Ok-own_among.ensures.marks

pub returns-in-Ok-own_among-clause-changes : goal.returns-in-Ok-own_among-clause-changes
returns-in-Ok-own_among-clause-changes c =
    subst (λ (l : List Change). All (FitsChange c.args.file.now) l) (sym c.in-Ok-own_among.ensures.rows)
    (all_changes c.args.part c.args.news.now c.args.file.now c.as_slice-lines.result.now
    (subst (λ (l : List Change). All (FitsChange c.args.file.now) l) (sym c.as_slice-lines.ensures.value) c.in-Ok.ensures.fits))

pub returns-in-Ok-own_among-clause-bookings : goal.returns-in-Ok-own_among-clause-bookings
returns-in-Ok-own_among-clause-bookings c =
    subst (λ (l : List Owned). All (IsOwned c.args.file.now) l) (sym c.in-Ok-own_among.ensures.kept)
    (all_owned c.args.part c.args.news.now c.args.file.now c.as_slice-kept.result.now
    (subst (λ (l : List Owned). All (IsOwned c.args.file.now) l) (sym c.as_slice-kept.ensures.value) c.requires.owned))
