use Rattle.std.proofs.Common.{◌≡◌, ◌++◌, ℕ, List, ◌∙◌, ap, arith, drop, length, sym, subst, take}
use Rattle.std.proofs.Math.Seq.{take-append_seam}
use Rattle.std.specs.List.{AllByRecursion}
use Rattle.seat_journal.specs.declared.entry.Entry.{Entry}
use Rattle.seat_host.specs.Sessions.{Seat}
use Rattle.seat_host.specs.Settling.{IsConfirmed}
use Rattle.seat_host.proofs.settling.refused.Goals as goal

pub returns-clause-kept : goal.returns-clause-kept
returns-clause-kept g c = (
  subst (λ (x : List Entry × Seat). IsConfirmed g.K.Hosting.sessions x.0 x.1) (λ i. (sym (c.confirm_all.ensures.same.0 ∙ c.confirm.ensures.same.0) i, c.manager.view_is i)) c.confirm.ensures.confirmed,
  subst (λ (x : List Entry × List Seat). AllByRecursion (IsConfirmed g.K.Hosting.sessions x.0) x.1) (λ i. (sym c.confirm_all.ensures.same.0 i, c.as_mut_slice.ensures.value i)) c.confirm_all.ensures.each,
)

pub returns-clause-same : goal.returns-clause-same
returns-clause-same g c =
    let now = c.confirm_all.new.sessions in
    let is : now ≡ c.args.sessions.items = c.confirm_all.ensures.same.1 ∙ c.as_mut_slice.ensures.value in
    let long : c.args.sessions.len ≡ length now = omega (arith, c.args.sessions.ok, ap length is) in (
      c.confirm.ensures.same.1 ∙ c.manager.view_is,
      ap (λ (n : ℕ). take n (now ++ drop (length now) c.args.sessions.items)) long ∙ take-append_seam now (drop (length now) c.args.sessions.items) ∙ is,
    )
