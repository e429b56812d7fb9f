use Rattle.std.proofs.Common.{map, subst, sym}
use Rattle.std.specs.List.Sorted.{IsPermutation}
use Rattle.seat_seal.specs.Booked.{scripts_booked}
use Rattle.seat_seal.specs.Known.{runs_known}
use Rattle.seat_scripts.proofs.ReadOn.{all_read, all_right, all_taken}
use Rattle.seat_scripts.proofs.Reading.{one_is_booked, read_count}
use Rattle.seat_scripts.proofs.scripts.read_scripts.Goals as goal

pub returns-clause-booked : goal.returns-clause-booked
returns-clause-booked g c =
    let all = scripts_booked c.args.lines (runs_known c.args.known.now) in
    one_is_booked c.as_slice.result.now all (map g.C.Read.remaining c.args.scripts.now) c.none-read.result.is_booked c.read_from.new.read.is_booked
    (subst (IsPermutation all) (sym c.as_slice.ensures) c.in_ok-booked.ensures.ok) c.none-read.ensures.booked c.in_ok-read_from.ensures.booked

pub returns-clause-ok : goal.returns-clause-ok
returns-clause-ok g c = all_read c.args.today (map g.C.Read.remaining c.args.scripts.now) c.none-read.result.scripts c.read_from.new.read.scripts c.none-read.ensures.scripts c.in_ok-read_from.ensures.ok

pub returns-clause-right : goal.returns-clause-right
returns-clause-right g c = all_right c.args.today (map g.C.Read.remaining c.args.scripts.now) c.none-read.result.scripts c.read_from.new.read.scripts c.none-read.ensures.scripts c.in_ok-read_from.ensures.ok

pub returns-clause-imprints : goal.returns-clause-imprints
returns-clause-imprints g c = all_taken (map g.C.Read.remaining c.args.scripts.now) c.none-read.result.imprints c.read_from.new.read.imprints c.none-read.ensures.imprints c.in_ok-read_from.ensures.imprints

pub returns-clause-count : goal.returns-clause-count
returns-clause-count g c = read_count c.args.today g.C.Read.remaining c.args.scripts.now c.none-read.result.scripts c.read_from.new.read.scripts c.none-read.ensures.scripts c.in_ok-read_from.ensures.ok
