use Rattle.std.proofs.Common.{List, None, Option, ap, inl, inr, map, refl, subst, sym, ◌∙◌}
use Rattle.ssim_flights.specs.declared.flight.Flight.{Flight as Flown}
use Rattle.seat_rules.specs.Inventory.{Inventory}
use Rattle.seat_rules.specs.Journal.{IsLegal}
use Rattle.seat_seal.specs.declared.beside.Basis.{Basis}
use Rattle.seat_seal.specs.declared.imprint.Imprint.{Imprint}
use Rattle.seat_desk.specs.Loading.{IsGridOf}
use Rattle.seat_desk.specs.Sealing.{IsBasisOf}
use Rattle.seat_scripts.proofs.GoneOn.{gone_behind, gone_earlier, gone_legs, gone_on, gone_once, stopped, stopped_behind}
use Rattle.seat_scripts.proofs.Judged.{never_of_reading}
use Rattle.seat_scripts.proofs.Rest.{rest_count, rest_right}
use Rattle.seat_scripts.proofs.SealedBoth.{fails_as, large_behind}
use Rattle.seat_scripts.proofs.Still.{has_ready, large_still, still_large, still_read}
use Rattle.seat_scripts.specs.Begun.{IsJudged}
use Rattle.seat_scripts.specs.Resumed.{IsTooLargeResume}
use Rattle.seat_scripts.specs.TextImprints.{AreImprints, IsImprintOf}
use Rattle.seat_scripts.proofs.resumed.read_resumed.Goals as goal

pub returns-in-Err-clause-fault : goal.returns-in-Err-clause-fault
returns-in-Err-clause-fault g c =
    (λ input. inl (still_read (g.I.Read.remaining c.args.inputs.now.set) (g.I.Read.remaining c.args.inputs.now.limits) (g.I.Read.remaining c.args.after.now) (g.I.Read.remaining c.args.journal.now)
    c.args.inputs.now.first c.args.inputs.now.days c.args.today (map g.I.Read.remaining c.args.scripts.now) (g.I.Read.remaining c.args.changes.now)
    c.args.besides.now c.args.given c.in-Err.fault c.in-Err.ensures.none.refused c.in-Err.ensures.read input))

pub returns-in-Err-clause-large : goal.returns-in-Err-clause-large
returns-in-Err-clause-large g c =
    (λ large. still_large (g.I.Read.remaining c.args.inputs.now.set) (g.I.Read.remaining c.args.inputs.now.limits) (g.I.Read.remaining c.args.after.now) (g.I.Read.remaining c.args.journal.now)
    c.args.inputs.now.first c.args.inputs.now.days c.args.today (map g.I.Read.remaining c.args.scripts.now) (g.I.Read.remaining c.args.changes.now)
    c.args.besides.now (c.in-Err.ensures.none.large large))

pub returns-in-Err-clause-judged : goal.returns-in-Err-clause-judged
returns-in-Err-clause-judged g c =
    (λ behind. never_of_reading (λ xs ys older zs. IsJudged None c.args.again c.args.given c.args.besides.now.journal older zs (map g.I.Read.remaining c.args.scripts.now) (g.I.Read.remaining c.args.changes.now))
    (g.I.Read.remaining c.args.inputs.now.set) (g.I.Read.remaining c.args.inputs.now.limits) (g.I.Read.remaining c.args.after.now) (g.I.Read.remaining c.args.journal.now)
    c.in-Err.fault c.in-Err.ensures.read behind)

pub returns-in-Err-asked_beside-clause-fault : goal.returns-in-Err-asked_beside-clause-fault
returns-in-Err-asked_beside-clause-fault g c =
    let set = g.I.Read.remaining c.args.inputs.now.set in
    let limits = g.I.Read.remaining c.args.inputs.now.limits in
    let after = g.I.Read.remaining c.args.after.now in
    let journal = g.I.Read.remaining c.args.journal.now in
    let first = c.args.inputs.now.first in
    let days = c.args.inputs.now.days in
    let texts = map g.I.Read.remaining c.args.scripts.now in
    let changing = g.I.Read.remaining c.args.changes.now in
    let read = c.in-Ok.read in
    let e = c.in-Ok.ensures.ok in
    let fault = c.in-Err-asked_beside.fault in
    (λ input. stopped set limits after journal first days c.args.today texts changing c.args.given c.args.besides.now c.args.again read e.are_read e.agree e.is_known e.more_is e.is_booked
    fault (c.in-Err-asked_beside.ensures.fault input) input)

pub returns-in-Err-asked_beside-clause-judged : goal.returns-in-Err-asked_beside-clause-judged
returns-in-Err-asked_beside-clause-judged g c =
    let set = g.I.Read.remaining c.args.inputs.now.set in
    let limits = g.I.Read.remaining c.args.inputs.now.limits in
    let after = g.I.Read.remaining c.args.after.now in
    let journal = g.I.Read.remaining c.args.journal.now in
    let first = c.args.inputs.now.first in
    let days = c.args.inputs.now.days in
    let texts = map g.I.Read.remaining c.args.scripts.now in
    let changing = g.I.Read.remaining c.args.changes.now in
    let read = c.in-Ok.read in
    let e = c.in-Ok.ensures.ok in
    let fault = c.in-Err-asked_beside.fault in
    (λ behind. stopped_behind set limits after journal first days c.args.today texts changing c.args.given c.args.besides.now c.args.again read e.are_read e.agree e.is_known e.more_is e.is_booked
    fault c.in-Err-asked_beside.ensures.fault behind)

pub returns-in-Err-asked_beside-clause-large : goal.returns-in-Err-asked_beside-clause-large
returns-in-Err-asked_beside-clause-large g c =
    let set = g.I.Read.remaining c.args.inputs.now.set in
    let limits = g.I.Read.remaining c.args.inputs.now.limits in
    let after = g.I.Read.remaining c.args.after.now in
    let journal = g.I.Read.remaining c.args.journal.now in
    let first = c.args.inputs.now.first in
    let days = c.args.inputs.now.days in
    let texts = map g.I.Read.remaining c.args.scripts.now in
    let changing = g.I.Read.remaining c.args.changes.now in
    let read = c.in-Ok.read in
    let e = c.in-Ok.ensures.ok in
    (λ large. large_behind set limits after journal first days c.args.besides.now
    (λ xs ys older zs. IsTooLargeResume xs ys first days c.args.today older zs texts changing) e.agree
    (large_still set limits after journal first days c.args.today read.more texts changing read.flights read.older read.core read.scripts e.are_read
    (c.in-Err-asked_beside.ensures.large large)))

pub returns-in-Err-asked_beside-clause-device : goal.returns-in-Err-asked_beside-clause-device
returns-in-Err-asked_beside-clause-device g c =
    let set = g.I.Read.remaining c.args.inputs.now.set in
    let limits = g.I.Read.remaining c.args.inputs.now.limits in
    let after = g.I.Read.remaining c.args.after.now in
    let journal = g.I.Read.remaining c.args.journal.now in
    let first = c.args.inputs.now.first in
    let days = c.args.inputs.now.days in
    let texts = map g.I.Read.remaining c.args.scripts.now in
    let changing = g.I.Read.remaining c.args.changes.now in
    let read = c.in-Ok.read in
    let e = c.in-Ok.ensures.ok in
    (λ device. inr (inr (record {
      ahead = e.agree;
      here = inr (
        has_ready set limits after journal first days c.args.today read.more texts changing read.flights read.older read.core read.scripts e.are_read,
        c.in-Err-asked_beside.ensures.device device,
      );
    })))

pub returns-in-Ok-asked_beside-clause-ok : goal.returns-in-Ok-asked_beside-clause-ok
returns-in-Ok-asked_beside-clause-ok g c =
    let set = g.I.Read.remaining c.args.inputs.now.set in
    let limits = g.I.Read.remaining c.args.inputs.now.limits in
    let after = g.I.Read.remaining c.args.after.now in
    let journal = g.I.Read.remaining c.args.journal.now in
    let first = c.args.inputs.now.first in
    let days = c.args.inputs.now.days in
    let texts = map g.I.Read.remaining c.args.scripts.now in
    let changing = g.I.Read.remaining c.args.changes.now in
    let read = c.in-Ok.read in
    let e = c.in-Ok.ensures.ok in
    let asked = c.in-Ok-asked_beside.asked in
    let is = c.in-Ok-asked_beside.ensures.ok in
    gone_on set limits after journal first days c.args.today texts changing c.args.given c.args.besides.now c.args.again read e.are_read e.agree e.is_known e.more_is e.is_booked
    asked is

pub returns-in-Ok-asked_beside-clause-behind : goal.returns-in-Ok-asked_beside-clause-behind
returns-in-Ok-asked_beside-clause-behind g c =
    let set = g.I.Read.remaining c.args.inputs.now.set in
    let limits = g.I.Read.remaining c.args.inputs.now.limits in
    let after = g.I.Read.remaining c.args.after.now in
    let journal = g.I.Read.remaining c.args.journal.now in
    let first = c.args.inputs.now.first in
    let days = c.args.inputs.now.days in
    let texts = map g.I.Read.remaining c.args.scripts.now in
    let changing = g.I.Read.remaining c.args.changes.now in
    let read = c.in-Ok.read in
    let e = c.in-Ok.ensures.ok in
    let asked = c.in-Ok-asked_beside.asked in
    let is = c.in-Ok-asked_beside.ensures.ok in
    gone_behind set limits after journal first days c.args.today texts changing c.args.given c.args.besides.now c.args.again read e.are_read e.agree e.is_known e.more_is e.is_booked
    asked is

pub returns-in-Ok-asked_beside-clause-once : goal.returns-in-Ok-asked_beside-clause-once
returns-in-Ok-asked_beside-clause-once g c =
    let set = g.I.Read.remaining c.args.inputs.now.set in
    let limits = g.I.Read.remaining c.args.inputs.now.limits in
    let after = g.I.Read.remaining c.args.after.now in
    let journal = g.I.Read.remaining c.args.journal.now in
    let first = c.args.inputs.now.first in
    let days = c.args.inputs.now.days in
    let texts = map g.I.Read.remaining c.args.scripts.now in
    let changing = g.I.Read.remaining c.args.changes.now in
    let read = c.in-Ok.read in
    let e = c.in-Ok.ensures.ok in
    let asked = c.in-Ok-asked_beside.asked in
    let is = c.in-Ok-asked_beside.ensures.ok in
    gone_once set limits after journal first days c.args.today texts changing c.args.given c.args.besides.now c.args.again read e.are_read e.agree e.is_known e.more_is e.is_booked
    asked is

pub returns-in-Ok-asked_beside-clause-earlier : goal.returns-in-Ok-asked_beside-clause-earlier
returns-in-Ok-asked_beside-clause-earlier g c =
    let set = g.I.Read.remaining c.args.inputs.now.set in
    let limits = g.I.Read.remaining c.args.inputs.now.limits in
    let after = g.I.Read.remaining c.args.after.now in
    let journal = g.I.Read.remaining c.args.journal.now in
    let first = c.args.inputs.now.first in
    let days = c.args.inputs.now.days in
    let texts = map g.I.Read.remaining c.args.scripts.now in
    let changing = g.I.Read.remaining c.args.changes.now in
    let read = c.in-Ok.read in
    let e = c.in-Ok.ensures.ok in
    let asked = c.in-Ok-asked_beside.asked in
    let is = c.in-Ok-asked_beside.ensures.ok in
    gone_earlier set limits after journal first days c.args.today texts changing c.args.given c.args.besides.now c.args.again read e.are_read e.agree e.is_known e.more_is e.is_booked
    asked is

pub returns-in-Ok-asked_beside-clause-legs : goal.returns-in-Ok-asked_beside-clause-legs
returns-in-Ok-asked_beside-clause-legs g c =
    let set = g.I.Read.remaining c.args.inputs.now.set in
    let limits = g.I.Read.remaining c.args.inputs.now.limits in
    let after = g.I.Read.remaining c.args.after.now in
    let journal = g.I.Read.remaining c.args.journal.now in
    let first = c.args.inputs.now.first in
    let days = c.args.inputs.now.days in
    let texts = map g.I.Read.remaining c.args.scripts.now in
    let changing = g.I.Read.remaining c.args.changes.now in
    let read = c.in-Ok.read in
    let e = c.in-Ok.ensures.ok in
    let asked = c.in-Ok-asked_beside.asked in
    let is = c.in-Ok-asked_beside.ensures.ok in
    gone_legs set limits after journal first days c.args.today texts changing c.args.given c.args.besides.now c.args.again read e.are_read e.agree e.is_known e.more_is e.is_booked
    asked is

pub returns-in-Ok-asked_beside-clause-count : goal.returns-in-Ok-asked_beside-clause-count
returns-in-Ok-asked_beside-clause-count g c =
    let read = c.in-Ok.read in
    let e = c.in-Ok.ensures.ok in
    let asked = c.in-Ok-asked_beside.asked in
    let is = c.in-Ok-asked_beside.ensures.ok in
    rest_count read.flights read.scripts is.made.changes.items read.older.journal read.more read.core.journal asked.scripts asked.changes.items is.is_rest ∙ c.in-Ok.ensures.count

pub returns-in-Ok-asked_beside-clause-right : goal.returns-in-Ok-asked_beside-clause-right
returns-in-Ok-asked_beside-clause-right g c =
    let read = c.in-Ok.read in
    let e = c.in-Ok.ensures.ok in
    let asked = c.in-Ok-asked_beside.asked in
    let is = c.in-Ok-asked_beside.ensures.ok in
    rest_right read.flights read.scripts is.made.changes.items read.older.journal read.more read.core.journal asked.scripts asked.changes.items is.is_rest e.are_right

pub returns-in-Ok-asked_beside-clause-grid : goal.returns-in-Ok-asked_beside-clause-grid
returns-in-Ok-asked_beside-clause-grid g c =
    let read = c.in-Ok.read in
    let e = c.in-Ok.ensures.ok in
    let asked = c.in-Ok-asked_beside.asked in
    let is = c.in-Ok-asked_beside.ensures.ok in
    subst (λ (f : List Flown). IsGridOf f asked.past.grid) (sym is.flights_are)
    (subst (λ (p : Inventory). IsGridOf read.flights p.grid) (sym is.past_is) e.is_grid)

pub returns-in-Ok-asked_beside-clause-legal : goal.returns-in-Ok-asked_beside-clause-legal
returns-in-Ok-asked_beside-clause-legal g c =
    let e = c.in-Ok.ensures.ok in
    let is = c.in-Ok-asked_beside.ensures.ok in
    subst (λ (p : Inventory). IsLegal p.grid p.journal) (sym is.past_is) e.is_legal

pub returns-in-Ok-asked_beside-clause-most : goal.returns-in-Ok-asked_beside-clause-most
returns-in-Ok-asked_beside-clause-most g c =
    let e = c.in-Ok.ensures.ok in
    let is = c.in-Ok-asked_beside.ensures.ok in
    ap (λ (p : Inventory). p.cap) is.past_is ∙ e.most

pub returns-in-Ok-asked_beside-clause-basis : goal.returns-in-Ok-asked_beside-clause-basis
returns-in-Ok-asked_beside-clause-basis g c =
    let e = c.in-Ok.ensures.ok in
    let is = c.in-Ok-asked_beside.ensures.ok in
    subst (λ (b : Basis). IsBasisOf g.I.Read.remaining g.I.Read.remaining c.args.inputs.now b) (sym is.basis_is) (e.is_basis refl)

pub returns-in-Ok-asked_beside-clause-imprints : goal.returns-in-Ok-asked_beside-clause-imprints
returns-in-Ok-asked_beside-clause-imprints g c =
    let texts = map g.I.Read.remaining c.args.scripts.now in
    let e = c.in-Ok.ensures.ok in
    let is = c.in-Ok-asked_beside.ensures.ok in
    subst (λ (i : List (Option Imprint)). AreImprints texts i) (sym is.imprints_are) e.are_imprints

pub returns-in-Ok-asked_beside-clause-changed : goal.returns-in-Ok-asked_beside-clause-changed
returns-in-Ok-asked_beside-clause-changed g c =
    let changing = g.I.Read.remaining c.args.changes.now in
    let is = c.in-Ok-asked_beside.ensures.ok in
    subst (λ (i : Option Imprint). IsImprintOf changing i) (sym is.imprint_is) is.are_beside.is_imprint

pub asked_beside-requires-clause-grid : goal.asked_beside-requires-clause-grid
asked_beside-requires-clause-grid g c = c.in-Ok.ensures.ok.one_grid

pub asked_beside-requires-clause-few : goal.asked_beside-requires-clause-few
asked_beside-requires-clause-few g c = c.in-Ok.ensures.ok.few

pub asked_beside-requires-clause-older : goal.asked_beside-requires-clause-older
asked_beside-requires-clause-older g c = c.in-Ok.ensures.ok.few_older

pub asked_beside-requires-clause-lines : goal.asked_beside-requires-clause-lines
asked_beside-requires-clause-lines g c = c.in-Ok.ensures.ok.few_lines

pub returns-in-Ok-asked_beside-clause-sealed : goal.returns-in-Ok-asked_beside-clause-sealed
returns-in-Ok-asked_beside-clause-sealed g c = c.in-Ok.ensures.ok.agree

pub returns-in-Err-clause-device : goal.returns-in-Err-clause-device
returns-in-Err-clause-device g c = λ device. fails_as _ _ _ _ _ (c.in-Err.ensures.none.device device)
