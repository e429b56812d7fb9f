use Rattle.std.proofs.Common.{subst, sym}
use Rattle.desk_answers.specs.Hosts.{AreViewers}
use Rattle.desk_serving.proofs.Ended.{opened_dated, opened_today}
use Rattle.seat_desk.specs.Loading.{IsGridOf}
use Rattle.host_commands.proofs.serving.serve_read.Goals as goal

pub serve_opened-requires-clause-viewers : goal.serve_opened-requires-clause-viewers
serve_opened-requires-clause-viewers g c = λ _ _. subst (λ grid. AreViewers grid c.in-Ok.opened.2.items) (sym c.requires.opening) c.in-Ok.ensures.viewers.1

pub serve_opened-requires-clause-grid : goal.serve_opened-requires-clause-grid
serve_opened-requires-clause-grid g c = λ _ _. subst (IsGridOf _) (sym c.in-Ok.ensures.opened.grid_is) c.requires.grid

pub serve_opened-requires-clause-today : goal.serve_opened-requires-clause-today
serve_opened-requires-clause-today g c = λ _ _. opened_today _ _ _ _ _ c.requires.today c.in-Ok.ensures.opened

pub serve_opened-requires-clause-ready : goal.serve_opened-requires-clause-ready
serve_opened-requires-clause-ready g c = λ _ _. c.in-Ok.ensures.ready

pub serve_opened-requires-clause-cap : goal.serve_opened-requires-clause-cap
serve_opened-requires-clause-cap g c = λ _ _. c.in-Ok.ensures.opened.cap_is

pub serve_opened-requires-clause-named : goal.serve_opened-requires-clause-named
serve_opened-requires-clause-named g c = λ _ _. c.in-Ok.ensures.named

pub serve_opened-requires-clause-stands : goal.serve_opened-requires-clause-stands
serve_opened-requires-clause-stands g c = λ _ _. c.in-Ok.ensures.stands

pub serve_opened-requires-clause-era : goal.serve_opened-requires-clause-era
serve_opened-requires-clause-era g c = λ _ _. c.in-Ok.ensures.dated

pub serve_opened-requires-clause-dated : goal.serve_opened-requires-clause-dated
serve_opened-requires-clause-dated g c = λ _ _. opened_dated _ _ _ _ _ _ _ c.in-Ok.opened.1 c.in-Ok.ensures.era c.in-Ok.ensures.opened
