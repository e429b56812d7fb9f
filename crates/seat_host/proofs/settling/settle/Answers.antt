use Rattle.std.proofs.Common.{List, ap, map, sym, subst, ◌∙◌, ◌∷◌}
use Rattle.std.specs.List.{AllByRecursion}
use Rattle.seat_journal.specs.declared.entry.Entry.{Entry}
use Rattle.seat_rules.specs.Totals.{totals_of}
use Rattle.seat_rules.specs.Histories.{by_session}
use Rattle.seat_host.specs.Settling.{IsConfirmed}
use Rattle.seat_host.specs.Outcome.{lines_at, AreLines}
use Rattle.seat_host.specs.Sessions.{numbers_of}
use Rattle.seat_host.proofs.Agreeing.{headline_of, lists_again, lists_there}
use Rattle.seat_host.proofs.settling.settle.Goals as goal

pub settle_all-items-requires-clause-all : goal.settle_all-items-requires-clause-all
settle_all-items-requires-clause-all g c = c.requires.all

pub settle_all-items-requires-clause-slots : goal.settle_all-items-requires-clause-slots
settle_all-items-requires-clause-slots g c = c.requires.slots

pub returns-clause-headline : goal.returns-clause-headline
returns-clause-headline g c =
    let same = sym c.settle_all-items.ensures.same in
    headline_of _ _ _ _ _ _ _ c.end.ensures.legal c.end.ensures.capped c.end.ensures.within c.end.ensures.few
    (c.of.ensures.receipts ∙ ap (λ (j : List Entry). map (lines_at j) c.settle_all-items.result.items) c.end.ensures.journal ∙ lists_again g.K.Hosting.grid g.K.Hosting.sessions _ c.settle_all-items.result.items c.end.ensures.legal
    (c.settle_all-items.ensures.numbers ∙ ap (λ (j : List Entry). map numbers_of (by_session g.K.Hosting.sessions j)) same))
    (c.of.ensures.totals ∙ c.totals-totals.ensures ∙ ap totals_of same) (c.of.ensures.journal ∙ c.end.ensures.journal)

pub returns-clause-handed : goal.returns-clause-handed
returns-clause-handed g c =
    subst (λ (journal : List Entry). AllByRecursion (IsConfirmed g.K.Hosting.sessions journal) (c.args.manager ∷ c.args.sessions.items))
    (sym (c.of.ensures.journal ∙ c.end.ensures.journal ∙ c.settle_all-items.ensures.same)) c.settle_all-items.ensures.each

pub returns-clause-number : goal.returns-clause-number
returns-clause-number g c = c.settle_all-items.ensures.number

pub of-requires : goal.of-requires
of-requires g c =
    let same = sym c.settle_all-items.ensures.same in
    subst (λ (j : List Entry). AllByRecursion (AreLines j) c.settle_all-items.result.items) (sym c.end.ensures.journal)
    (lists_there g.K.Hosting.grid g.K.Hosting.sessions _ c.settle_all-items.result.items c.end.ensures.legal
    (c.settle_all-items.ensures.numbers ∙ ap (λ (j : List Entry). map numbers_of (by_session g.K.Hosting.sessions j)) same))
