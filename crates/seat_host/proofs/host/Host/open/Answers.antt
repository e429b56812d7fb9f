use Rattle.std.proofs.Common.{◌≡◌, ◌+◌, ◌≤◌, ℕ, List, length, ap, sym, subst, ◌∙◌, arith}
use Rattle.std.specs.Prelude.{All}
use Rattle.logbook.specs.Pages.{Book}
use Rattle.seat_nesting.specs.Nesting.{Ladders}
use Rattle.seat_journal.specs.declared.entry.Entry.{Entry}
use Rattle.seat_display.specs.Faces.{opened}
use Rattle.seat_host.specs.Lawful.{CountsFirst}
use Rattle.seat_host.specs.Sessions.{seated, seated_sessions}
use Rattle.seat_host.proofs.host.Host.open.Goals as goal

pub open_ledgers-requires : goal.open_ledgers-requires
open_ledgers-requires g c = (λ i. (c.parts.view_is i).names) ∙ c.requires.4

pub seat_all-requires-clause-few : goal.seat_all-requires-clause-few
seat_all-requires-clause-few g c = omega (arith, c.journal.ensures.capped, c.parts.invariant.0, ap length c.journal.ensures.value)

pub seat_all-requires-clause-display : goal.seat_all-requires-clause-display
seat_all-requires-clause-display g c =
    let grid : c.parts.inside.core.grid ≡ g.K.Hosting.grid = (λ i. (c.parts.view_is i).grid) ∙ c.requires.0 in
    let book : c.parts.inside.publisher.book ≡ g.K.Hosting.book = (λ i. (c.parts.view_is i).book) ∙ c.requires.2 in
    (book, c.parts.invariant.3 ∙ grid, c.parts.invariant.4 ∙ sym c.journal.ensures.value)

pub seat_all-requires-clause-line_counts : goal.seat_all-requires-clause-line_counts
seat_all-requires-clause-line_counts g c = c.in-Ok.ensures.line_counts

pub seat_all-requires-clause-stakes : goal.seat_all-requires-clause-stakes
seat_all-requires-clause-stakes g c = c.in-Ok.ensures.stakes

pub seat_all-requires-clause-viewers : goal.seat_all-requires-clause-viewers
seat_all-requires-clause-viewers g c =
    let grid : c.parts.inside.core.grid ≡ g.K.Hosting.grid = (λ i. (c.parts.view_is i).grid) ∙ c.requires.0 in
    let book : c.parts.inside.publisher.book ≡ g.K.Hosting.book = (λ i. (c.parts.view_is i).book) ∙ c.requires.2 in
    (c.parts.invariant.8, subst (λ (x : Book × Ladders). All (λ v. v ≡ opened x.0 x.1) c.parts.inside.viewers.items) (λ i. (book i, grid i)) c.parts.invariant.9)

pub seat_all-requires-clause-sessions : goal.seat_all-requires-clause-sessions
seat_all-requires-clause-sessions g c = ((λ i. (c.parts.view_is i).sessions) ∙ c.requires.3, c.parts.invariant.7)

pub over-under_lock-requires-clause-core : goal.over-under_lock-requires-clause-core
over-under_lock-requires-clause-core g c =
    let grid : c.parts.inside.core.grid ≡ g.K.Hosting.grid = (λ i. (c.parts.view_is i).grid) ∙ c.requires.0 in
    let cap : c.parts.inside.core.cap ≡ g.K.Hosting.cap = (λ i. (c.parts.view_is i).cap) ∙ c.requires.1 in
    (grid, cap, subst (λ (n : ℕ). n ≤ 999999) cap c.parts.invariant.0)

pub over-under_lock-requires-clause-only : goal.over-under_lock-requires-clause-only
over-under_lock-requires-clause-only g c = c.parts.invariant.1

pub over-under_lock-requires-clause-line_counts : goal.over-under_lock-requires-clause-line_counts
over-under_lock-requires-clause-line_counts g c = subst (λ (l : List Entry). CountsFirst (c.parts.inside.sessions + 1) l c.seat_all.new.line_counts) c.journal.ensures.value c.in-Ok-seat_all.ensures.line_counts

pub over-under_lock-requires-clause-publisher : goal.over-under_lock-requires-clause-publisher
over-under_lock-requires-clause-publisher g c =
    let grid : c.parts.inside.core.grid ≡ g.K.Hosting.grid = (λ i. (c.parts.view_is i).grid) ∙ c.requires.0 in
    let book : c.parts.inside.publisher.book ≡ g.K.Hosting.book = (λ i. (c.parts.view_is i).book) ∙ c.requires.2 in
    (book, c.parts.invariant.3 ∙ grid, c.parts.invariant.4, c.parts.invariant.5)

pub over-under_lock-requires-clause-sessions : goal.over-under_lock-requires-clause-sessions
over-under_lock-requires-clause-sessions g c = ((λ i. (c.parts.view_is i).sessions) ∙ c.requires.3, c.parts.invariant.7)

pub guarding-requires : goal.guarding-requires
guarding-requires g c =
    let grid : c.parts.inside.core.grid ≡ g.K.Hosting.grid = (λ i. (c.parts.view_is i).grid) ∙ c.requires.0 in
    c.parts.invariant.2 ∙ grid

pub returns-clause-manager : goal.returns-clause-manager
returns-clause-manager g c = c.in-Ok-seat_all.ensures.manager ∙ ap (λ (l : List Entry). seated 0 l) (c.journal.ensures.value ∙ (λ i. (c.parts.view_is i).past))

pub returns-clause-sessions : goal.returns-clause-sessions
returns-clause-sessions g c =
    let sessions : c.parts.inside.sessions ≡ g.K.Hosting.sessions = (λ i. (c.parts.view_is i).sessions) ∙ c.requires.3 in
    let past : c.journal.result.now ≡ c.args.parts.past = c.journal.ensures.value ∙ (λ i. (c.parts.view_is i).past) in
    c.in-Ok-seat_all.ensures.sessions ∙ (λ i. seated_sessions (sessions i) (past i))
