use Rattle.std.proofs.Common.{ap, subst, List}
use Rattle.seat_journal.specs.declared.entry.Entry.{Entry}
use mathlib.Core.List.{IsPrefix}
use Rattle.seat_rules.proofs.History.Prefixes.{begins_shorter}
use Rattle.seat_display.proofs.Fronts.{begins_of}
use Rattle.seat_display.proofs.viewer.compare.Goals as goal

pub returns-clause-first : goal.returns-clause-first
returns-clause-first c le =
    let both = c.learn.new.self.log in
    let p : IsPrefix c.args.one.now.log both = subst (λ (l : List Entry). IsPrefix l both) (ap (λ s. s.log) c.again-both.ensures) c.learn.ensures.2 in
    begins_shorter c.args.one.now.log c.args.other.now.log both (begins_of c.args.one.now.log both p) (begins_of c.args.other.now.log both c.learn.ensures.3) le

pub returns-clause-second : goal.returns-clause-second
returns-clause-second c le =
    let both = c.learn.new.self.log in
    let p : IsPrefix c.args.one.now.log both = subst (λ (l : List Entry). IsPrefix l both) (ap (λ s. s.log) c.again-both.ensures) c.learn.ensures.2 in
    begins_shorter c.args.other.now.log c.args.one.now.log both (begins_of c.args.other.now.log both c.learn.ensures.3) (begins_of c.args.one.now.log both p) le
