use Rattle.seat_scripts.proofs.asked.read_asked.Goals as goal

pub returns-in-Ok-clause-ok : goal.returns-in-Ok-clause-ok
returns-in-Ok-clause-ok g c = c.in-Ok.ensures.ok.is_asked

pub returns-in-Ok-clause-sealed : goal.returns-in-Ok-clause-sealed
returns-in-Ok-clause-sealed g c = c.in-Ok.ensures.ok.agree

pub returns-in-Ok-clause-once : goal.returns-in-Ok-clause-once
returns-in-Ok-clause-once g c = c.in-Ok.ensures.ok.is_judged

pub returns-in-Ok-clause-basis : goal.returns-in-Ok-clause-basis
returns-in-Ok-clause-basis g c = c.in-Ok.ensures.ok.is_basis

pub returns-in-Ok-clause-grid : goal.returns-in-Ok-clause-grid
returns-in-Ok-clause-grid g c = c.in-Ok.ensures.ok.is_grid

pub returns-in-Ok-clause-legal : goal.returns-in-Ok-clause-legal
returns-in-Ok-clause-legal g c = c.in-Ok.ensures.ok.is_legal

pub returns-in-Ok-clause-most : goal.returns-in-Ok-clause-most
returns-in-Ok-clause-most g c = c.in-Ok.ensures.ok.most

pub returns-in-Ok-clause-right : goal.returns-in-Ok-clause-right
returns-in-Ok-clause-right g c = c.in-Ok.ensures.ok.are_right

pub returns-in-Ok-clause-legs : goal.returns-in-Ok-clause-legs
returns-in-Ok-clause-legs g c = c.in-Ok.ensures.ok.on_legs

pub returns-in-Ok-clause-imprints : goal.returns-in-Ok-clause-imprints
returns-in-Ok-clause-imprints g c = c.in-Ok.ensures.ok.are_imprints

pub returns-in-Ok-clause-changed : goal.returns-in-Ok-clause-changed
returns-in-Ok-clause-changed g c = c.in-Ok.ensures.ok.is_imprint

pub returns-in-Ok-clause-earlier : goal.returns-in-Ok-clause-earlier
returns-in-Ok-clause-earlier g c = c.in-Ok.ensures.ok.is_carried

pub returns-in-Ok-clause-count : goal.returns-in-Ok-clause-count
returns-in-Ok-clause-count g c = c.in-Ok.ensures.count

pub returns-in-Ok-clause-behind : goal.returns-in-Ok-clause-behind
returns-in-Ok-clause-behind g c = c.in-Ok.ensures.ok.behind_is

pub returns-in-Err-clause-fault : goal.returns-in-Err-clause-fault
returns-in-Err-clause-fault g c = c.in-Err.ensures.none.refused

pub returns-in-Err-clause-large : goal.returns-in-Err-clause-large
returns-in-Err-clause-large g c = c.in-Err.ensures.none.large

pub returns-in-Err-clause-device : goal.returns-in-Err-clause-device
returns-in-Err-clause-device g c = c.in-Err.ensures.none.device
