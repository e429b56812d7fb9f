use Rattle.std.proofs.Common.{◌≡◌, ℕ, ◌<◌, ◌≤◌, List, length, ap, rules, subst, sym, ◌∙◌}
use Rattle.desk_feed.specs.Progress.{IsProgress}
use Rattle.desk_serving.proofs.Fresh.{enough}
use Rattle.desk_serving.proofs.Opened.{feed_is_over}
use Rattle.desk_serving.specs.declared.fault.FedFault.TheVariants.{Behind, Broken}
use Rattle.desk_serving.specs.declared.fault.StreamFault.TheVariants.{Memory}
use Rattle.seat_desk.specs.Loading.{IsGridOf}
use Rattle.seat_journal.specs.declared.entry.Entry.{Entry}
use Rattle.seat_serving.specs.Served.{Served}
use Rattle.ssim_flights.specs.declared.flight.Flight.{Flight as Flown}
use Rattle.desk_serving.proofs.feed_opening.feed_over.Goals as goal

no_lack : (m n : ℕ) → Behind ≡ Broken Memory → m ≤ n
no_lack m n is = absurd (cc is)

no_behind : (m n : ℕ) → Broken Memory ≡ Behind → m < n
no_behind m n is = absurd (cc is)

grid_as : {D : Type 0} (flights : List Flown) (s host : Served D) → s ≡ host → IsGridOf flights host.grid → IsGridOf flights s.grid
grid_as {D} flights s host same is = subst (λ (x : Served D). IsGridOf flights x.grid) (sym same) is

fewer : {D : Type 0} (s host : Served D) (journal : List Entry) (count : ℕ) → s ≡ host → journal ≡ s.journal → length journal < count
    → length host.journal < count
fewer {D} s host journal count same is less =
    subst (λ (l : List Entry). length l < count) (is ∙ ap (λ (x : Served D). x.journal) same) less

tape_as : {D : Type 0} (s host : Served D) (tape : D) → s ≡ host → tape ≡ s.tape → tape ≡ host.tape
tape_as {D} s host tape same is = is ∙ ap (λ (x : Served D). x.tape) same

pub over-requires-clause-served : goal.over-requires-clause-served
over-requires-clause-served g c = c.in-Ok.ensures.served

pub over-requires-clause-days : goal.over-requires-clause-days
over-requires-clause-days g c = c.in-Ok.ensures.days

pub over-requires-clause-grid : goal.over-requires-clause-grid
over-requires-clause-grid g c =
    grid_as c.args.flights.now c.into_serving-serving.result c.args.host.serving (search rules) c.requires.grid

pub over-requires-clause-desks : goal.over-requires-clause-desks
over-requires-clause-desks g c = c.in-Ok.ensures.counts

pub over-requires-clause-progress : goal.over-requires-clause-progress
over-requires-clause-progress g c =
    subst (λ (l : List Entry). IsProgress l c.in-Some.progress) c.journal.ensures.value c.in-Some.ensures.behind

pub returns-clause-over : goal.returns-clause-over
returns-clause-over g c =
    feed_is_over c.args.flights.now c.args.host.serving c.into_serving-serving.result c.args.epoch c.args.behind c.in-Some.progress
    c.journal.result.now c.in-Ok.parts.2.items c.over.result (search rules) c.over.ensures.parts c.over.ensures.come c.over.ensures.none
    c.over.ensures.begun c.in-Some.ensures.lines c.journal.ensures.value c.in-Some.ensures.behind c.in-Ok.ensures.counts.0
    c.in-Ok.ensures.fresh

pub returns-clause-serving : goal.returns-clause-serving
returns-clause-serving g c =
    let same : c.into_serving-serving.result ≡ c.args.host.serving = search rules in
    c.over.ensures.parts.1 ∙ same

pub returns-in_default-clause-behind : goal.returns-in_default-clause-behind
returns-in_default-clause-behind g c = λ is.
    fewer c.into_serving-serving.result c.args.host.serving c.journal.result.now c.args.behind (search rules) c.journal.ensures.value
    c.in_default.ensures.none

pub returns-in_default-clause-memory : goal.returns-in_default-clause-memory
returns-in_default-clause-memory g c = no_lack c.args.behind (length c.args.host.serving.journal)

pub returns-in_default-clause-tape : goal.returns-in_default-clause-tape
returns-in_default-clause-tape g c =
    tape_as c.into_serving-serving.result c.args.host.serving c.close.result (search rules) c.close.ensures.tape

pub returns-in_default-parts_of-clause-behind : goal.returns-in_default-parts_of-clause-behind
returns-in_default-parts_of-clause-behind g c = no_behind (length c.args.host.serving.journal) c.args.behind

pub returns-in_default-parts_of-clause-memory : goal.returns-in_default-parts_of-clause-memory
returns-in_default-parts_of-clause-memory g c = λ is.
    enough c.args.host.serving c.into_serving-serving.result c.journal.result.now c.in-Some.progress c.args.behind (search rules)
    c.journal.ensures.value c.in-Some.ensures.behind c.in-Some.ensures.lines

pub returns-in_default-parts_of-clause-tape : goal.returns-in_default-parts_of-clause-tape
returns-in_default-parts_of-clause-tape g c =
    tape_as c.into_serving-serving.result c.args.host.serving c.close-in_default-parts_of.result (search rules)
    c.close-in_default-parts_of.ensures.tape
