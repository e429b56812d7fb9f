use Rattle.progress_meter.proofs.Rows.{begun, booked, lineless, millions, replayed, sized, unmeasured}
use Rattle.progress_meter.proofs.laws.lines_read_so.Goals as goal

pub returns-clause-sized : goal.returns-clause-sized
returns-clause-sized c = sized

pub returns-clause-unmeasured : goal.returns-clause-unmeasured
returns-clause-unmeasured c = unmeasured

pub returns-clause-replayed : goal.returns-clause-replayed
returns-clause-replayed c = replayed

pub returns-clause-millions : goal.returns-clause-millions
returns-clause-millions c = millions

pub returns-clause-lineless : goal.returns-clause-lineless
returns-clause-lineless c = lineless

pub returns-clause-booked : goal.returns-clause-booked
returns-clause-booked c = booked

pub returns-clause-begun : goal.returns-clause-begun
returns-clause-begun c = begun
