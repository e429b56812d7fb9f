use Rattle.std.proofs.Common.{subst, sym}
use Rattle.seat_desk.specs.Loading.{IsGridOf}
use Rattle.host_commands.proofs.serving.serve_over.Goals as goal

pub serve_read-requires-clause-grid : goal.serve_read-requires-clause-grid
serve_read-requires-clause-grid g c = λ _ _. subst (λ flights. IsGridOf flights c.args.based.loaded.grid) (sym c.in-Ok-shared.ensures.0) c.requires.grid

pub serve_read-requires-clause-opening : goal.serve_read-requires-clause-opening
serve_read-requires-clause-opening g c = λ _ _. c.in-Ok-shared.ensures.1

pub serve_read-requires-clause-today : goal.serve_read-requires-clause-today
serve_read-requires-clause-today g c = λ _ _. c.in-Ok-dated.ensures.century
