use Rattle.host_commands.proofs.serving.serve_opened.Goals as goal

pub stream_served-requires-clause-today : goal.stream_served-requires-clause-today
stream_served-requires-clause-today g c = λ _ _. c.requires.today

pub stream_served-requires-clause-ready : goal.stream_served-requires-clause-ready
stream_served-requires-clause-ready g c = λ _ _. c.requires.ready

pub stream_served-requires-clause-cap : goal.stream_served-requires-clause-cap
stream_served-requires-clause-cap g c = λ _ _. c.requires.cap

pub stream_served-requires-clause-named : goal.stream_served-requires-clause-named
stream_served-requires-clause-named g c = λ _ _. c.requires.named

pub stream_served-requires-clause-stands : goal.stream_served-requires-clause-stands
stream_served-requires-clause-stands g c = λ _ _. c.requires.stands

pub stream_served-requires-clause-dated : goal.stream_served-requires-clause-dated
stream_served-requires-clause-dated g c = λ _ _. c.requires.dated

pub serve_sealed-requires-clause-ready : goal.serve_sealed-requires-clause-ready
serve_sealed-requires-clause-ready g c = c.requires.ready

pub serve_sealed-requires-clause-cap : goal.serve_sealed-requires-clause-cap
serve_sealed-requires-clause-cap g c = c.requires.cap

pub serve_sealed-requires-clause-named : goal.serve_sealed-requires-clause-named
serve_sealed-requires-clause-named g c = c.requires.named

pub serve_sealed-requires-clause-dated : goal.serve_sealed-requires-clause-dated
serve_sealed-requires-clause-dated g c = c.requires.era

pub desks_served-requires-clause-viewers : goal.desks_served-requires-clause-viewers
desks_served-requires-clause-viewers g c = λ _ _. c.requires.viewers

pub desks_served-requires-clause-grid : goal.desks_served-requires-clause-grid
desks_served-requires-clause-grid g c = λ _ _. c.requires.grid

pub desks_served-requires-clause-today : goal.desks_served-requires-clause-today
desks_served-requires-clause-today g c = λ _ _. c.requires.today

pub desks_served-requires-clause-ready : goal.desks_served-requires-clause-ready
desks_served-requires-clause-ready g c = λ _ _. c.requires.ready

pub desks_served-requires-clause-cap : goal.desks_served-requires-clause-cap
desks_served-requires-clause-cap g c = λ _ _. c.requires.cap

pub desks_served-requires-clause-named : goal.desks_served-requires-clause-named
desks_served-requires-clause-named g c = λ _ _. c.requires.named

pub desks_served-requires-clause-stands : goal.desks_served-requires-clause-stands
desks_served-requires-clause-stands g c = λ _ _. c.requires.stands

pub desks_served-requires-clause-dated : goal.desks_served-requires-clause-dated
desks_served-requires-clause-dated g c = λ _ _. c.requires.dated
