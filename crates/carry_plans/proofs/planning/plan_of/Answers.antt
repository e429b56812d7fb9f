use Rattle.std.proofs.Common.{◌≡◌, ◌+◌, length, refl, sym, subst, ap, List}
use Rattle.seat_journal.specs.declared.entry.Change.{Change}
use Rattle.seat_carrying.specs.declared.owned.Owned.{Owned}
use Rattle.seat_rules.specs.Inventory.{IsReplayed}
use Rattle.seat_desk.specs.AuditDesk.{most_lines}
use Rattle.carry_lines.specs.Carried.{carried_lines}
use Rattle.carry_lines.specs.declared.mark.Mark.{Mark}
use Rattle.carry_limits.specs.declared.wanting.Seasons.{Seasons}
use Rattle.ssim_flights.specs.declared.flight.Flight.{Flight as Flown}
use Rattle.carry_plans.specs.Plans.{AreChosen, marks_for}
use Rattle.carry_plans.proofs.OwnParts.{whole_of}
use Rattle.carry_plans.proofs.Parts.{full_of}
use Rattle.carry_plans.proofs.Promising.{promised_of, stays_same}
use Rattle.carry_plans.proofs.planning.plan_of.Goals as goal

pub returns-in-Err-asked_anew-clause-fault : goal.returns-in-Err-asked_anew-clause-fault
returns-in-Err-asked_anew-clause-fault c =
    let seasons : Seasons = record { old = c.args.old; before = c.args.before; flights = c.args.news; new = c.args.new; file = c.args.file; fresh = c.args.asked.now.fresh_limits } in
    full_of c.args.asked.now c.args.olds.now c.args.before.now c.args.news.now c.args.file.now c.args.parts.now.chosen.live.items c.args.parts.now.chosen.kept.items c.args.parts.now.by
    c.args.courses.now c.requires.followed c.requires.parts c.in-Err-asked_anew.fault seasons c.in-Ok.rows.items c.in-Ok-marks_for.marks.items
    (length c.as_slice-lines.result.now + length c.as_slice-kept.result.now + length c.as_slice.result.now)
    (record { old_is = c.requires.old; before_is = refl; flights_are = refl; new_is = c.requires.new; file_is = refl; fresh_is = refl })
    c.in-Ok.ensures.value
    (subst (λ (n : List Flown). c.in-Ok-marks_for.marks.items ≡ marks_for c.args.asked.now.fresh_limits c.args.olds.now c.args.before.now n c.args.file.now) c.requires.new c.in-Ok-marks_for.ensures.marks)
    (rw (c.as_slice-lines.ensures.value, c.as_slice-kept.ensures.value, c.as_slice.ensures.value) refl)
    c.in-Err-asked_anew.ensures.fault

pub returns-in-Ok-reported-clause-promised : goal.returns-in-Ok-reported-clause-promised
returns-in-Ok-reported-clause-promised c =
    let seasons : Seasons = record { old = c.args.old; before = c.args.before; flights = c.args.news; new = c.args.new; file = c.args.file; fresh = c.args.asked.now.fresh_limits } in
    let lines : IsReplayed c.in-Ok-asked_anew.after c.args.file.now most_lines
    (carried_lines c.args.file.now c.in-Ok.rows.items c.args.parts.now.chosen.kept.items c.in-Ok-marks_for.marks.items) =
    subst (λ (x : List Change). IsReplayed c.in-Ok-asked_anew.after c.args.file.now most_lines
    (carried_lines c.args.file.now x c.args.parts.now.chosen.kept.items c.in-Ok-marks_for.marks.items)) c.as_slice-lines.ensures.value
    (subst (λ (x : List Owned). IsReplayed c.in-Ok-asked_anew.after c.args.file.now most_lines
    (carried_lines c.args.file.now c.as_slice-lines.result.now x c.in-Ok-marks_for.marks.items)) c.as_slice-kept.ensures.value
    (subst (λ (x : List Mark). IsReplayed c.in-Ok-asked_anew.after c.args.file.now most_lines
    (carried_lines c.args.file.now c.as_slice-lines.result.now c.as_slice-kept.result.now x)) c.as_slice.ensures.value c.in-Ok-asked_anew.ensures.lines)) in
    promised_of c.args.asked.now c.args.olds.now c.args.before.now c.args.news.now c.args.file.now c.args.parts.now.chosen.live.items c.args.parts.now.chosen.kept.items c.args.parts.now.by
    c.args.courses.now c.requires.followed c.requires.parts c.requires.file c.in-Ok-asked_anew.after c.in-Ok-reported.report seasons c.in-Ok.rows.items c.in-Ok-marks_for.marks.items (length c.as_slice-lines.result.now)
    (record { old_is = c.requires.old; before_is = refl; flights_are = refl; new_is = c.requires.new; file_is = refl; fresh_is = refl })
    c.requires.room c.in-Ok.ensures.value
    (subst (λ (n : List Flown). c.in-Ok-marks_for.marks.items ≡ marks_for c.args.asked.now.fresh_limits c.args.olds.now c.args.before.now n c.args.file.now) c.requires.new c.in-Ok-marks_for.ensures.marks)
    lines (ap length c.as_slice-lines.ensures.value) c.in-Ok-reported.ensures.report
    (record { seats = c.in-Ok.ensures.room.seats; room = c.in-Ok.ensures.room.room })
    (stays_same seasons c.args.asked.now c.args.courses.now c.args.parts.now.chosen.live.items c.args.parts.now.chosen.kept.items c.args.parts.now.by c.in-Ok.rows.items
    c.in-Ok-marks_for.marks.items c.in-Ok-asked_anew.after c.requires.file c.in-Ok.ensures.ladders c.in-Ok.ensures.reached c.in-Ok.ensures.room c.requires.parts.by_flight
    (subst (λ (l : List Flown). AreChosen c.args.asked.now c.args.courses.now c.args.before.now l c.args.news.now c.args.file.now c.args.parts.now.chosen.live.items
    c.args.parts.now.chosen.kept.items) (sym c.requires.old) c.requires.parts.chosen)
    c.requires.legal c.requires.ladders lines)

pub returns-in-Ok-reported-clause-whole : goal.returns-in-Ok-reported-clause-whole
returns-in-Ok-reported-clause-whole c =
    let seasons : Seasons = record { old = c.args.old; before = c.args.before; flights = c.args.news; new = c.args.new; file = c.args.file; fresh = c.args.asked.now.fresh_limits } in
    let lines : IsReplayed c.in-Ok-asked_anew.after c.args.file.now most_lines
    (carried_lines c.args.file.now c.in-Ok.rows.items c.args.parts.now.chosen.kept.items c.in-Ok-marks_for.marks.items) =
    subst (λ (x : List Change). IsReplayed c.in-Ok-asked_anew.after c.args.file.now most_lines
    (carried_lines c.args.file.now x c.args.parts.now.chosen.kept.items c.in-Ok-marks_for.marks.items)) c.as_slice-lines.ensures.value
    (subst (λ (x : List Owned). IsReplayed c.in-Ok-asked_anew.after c.args.file.now most_lines
    (carried_lines c.args.file.now c.as_slice-lines.result.now x c.in-Ok-marks_for.marks.items)) c.as_slice-kept.ensures.value
    (subst (λ (x : List Mark). IsReplayed c.in-Ok-asked_anew.after c.args.file.now most_lines
    (carried_lines c.args.file.now c.as_slice-lines.result.now c.as_slice-kept.result.now x)) c.as_slice.ensures.value c.in-Ok-asked_anew.ensures.lines)) in
    whole_of c.args.asked.now c.args.olds.now c.args.before.now c.args.news.now c.args.file.now c.args.parts.now.chosen.kept.items c.args.parts.now.by
    c.in-Ok-asked_anew.after seasons c.in-Ok.rows.items c.in-Ok-marks_for.marks.items
    (record { old_is = c.requires.old; before_is = refl; flights_are = refl; new_is = c.requires.new; file_is = refl; fresh_is = refl })
    c.in-Ok.ensures.value
    (subst (λ (n : List Flown). c.in-Ok-marks_for.marks.items ≡ marks_for c.args.asked.now.fresh_limits c.args.olds.now c.args.before.now n c.args.file.now) c.requires.new c.in-Ok-marks_for.ensures.marks)
    lines
