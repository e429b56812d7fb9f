use Rattle.std.proofs.Common.{◌≡◌, ◌++◌, ◌∷◌, [], List, ◌∙◌, ap, sym, subst, refl, arith, length, length-append}
use Rattle.std.specs.List.{AllByRecursion}
use Rattle.seat_journal.specs.declared.entry.Entry.{Entry}
use Rattle.seat_rules.specs.Histories.{by_session}
use Rattle.std.specs.Prelude.{map}
use Rattle.seat_host.specs.Sessions.{Seat, numbers_of}
use Rattle.seat_host.specs.Settling.{IsConfirmed}
use Rattle.seat_host.proofs.Gathered.{ends, goes_on, starts}
use Rattle.seat_host.proofs.settling.settle_all.Goals as goal

pub loop-done-init : goal.loop-done-init
loop-done-init g c =
    let manager : Seat = c.manager.inside.party in
    record {
      same = refl;
      gathering = starts c.args.sessions.items g.K.Hosting.sessions c.settle_one.new.under_lock manager c.args.slots.items c.settle_one.new.slots.items c.requires.all c.requires.slots c.manager.invariant
          (subst (λ (journal : List Entry). IsConfirmed g.K.Hosting.sessions journal manager) (sym c.settle_one.ensures.same) c.settle_one.ensures.confirmed) c.settle_one.ensures.slots;
      left = omega arith;
    }

pub loop-done-preserved : goal.loop-done-preserved
loop-done-preserved g c =
    let rest : List Seat = c.pop.new.self.items in
    let session : Seat = c.session.inside.party in
    let split : c.loop-done.sessions.items ≡ rest ++ session ∷ [] = c.in-Some.ensures.items ∙ ap (λ (s : Seat). rest ++ s ∷ []) (sym c.session.view_is) in
    record {
      same = c.settle_one-in-loop-done.ensures.same ∙ c.loop-done.invariant.same;
      gathering = goes_on c.args.sessions.items g.K.Hosting.sessions c.settle_one.new.under_lock c.loop-done.sessions.items rest session c.loop-done.slots.items c.settle_one-in-loop-done.new.slots.items c.loop-done.invariant.gathering split
          (subst (λ (journal : List Entry). IsConfirmed g.K.Hosting.sessions journal session) c.loop-done.invariant.same c.settle_one-in-loop-done.ensures.confirmed) c.settle_one-in-loop-done.ensures.slots;
      left = omega (arith, c.loop-done.invariant.left, ap length split, length-append rest (session ∷ []), c.loop-done.sessions.ok, c.pop.new.self.ok);
    }

pub returns-clause-numbers : goal.returns-clause-numbers
returns-clause-numbers g c =
    let none : length c.loop-done.sessions.items ≡ 0 = omega (arith, c.loop-done.sessions.ok, c.loop-done.invariant.left, c.loop-done-test.false, c.loop-done.auto._done-end, c.len-done-end.ensures) in
    (ends _ _ _ _ _ c.loop-done.invariant.gathering none).0 ∙ ap (λ (journal : List Entry). map numbers_of (by_session g.K.Hosting.sessions journal)) c.settle_one.ensures.same

pub returns-clause-each : goal.returns-clause-each
returns-clause-each g c =
    let none : length c.loop-done.sessions.items ≡ 0 = omega (arith, c.loop-done.sessions.ok, c.loop-done.invariant.left, c.loop-done-test.false, c.loop-done.auto._done-end, c.len-done-end.ensures) in (
      subst (IsConfirmed g.K.Hosting.sessions c.args.under_lock.now) c.manager.view_is c.settle_one.ensures.confirmed,
      subst (λ (journal : List Entry). AllByRecursion (IsConfirmed g.K.Hosting.sessions journal) c.args.sessions.items) c.settle_one.ensures.same (ends _ _ _ _ _ c.loop-done.invariant.gathering none).1,
    )
