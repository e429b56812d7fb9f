use Rattle.std.proofs.Common.{◌≡◌, ◌-◌, ◌∙◌, List, ap, arith, drop, length, sym, take, ℕ}
use Rattle.std.proofs.lemmas.List.{length-drop, take_all}
use Rattle.seat_rules.specs.Journal.{calls_of}
use Rattle.seat_scripts.proofs.Common.{Entry}
use Rattle.seat_scripts.proofs.Grown.{done_count}
use Rattle.seat_scripts.proofs.making.changes_left.Goals as goal

pub returns-in-Ok-clause-left : goal.returns-in-Ok-clause-left
returns-in-Ok-clause-left c =
    let behind : List Entry = drop c.args.behind c.args.journal.now in
    let all : take (length c.args.journal.now - c.args.behind) behind ≡ behind = take_all (length c.args.journal.now - c.args.behind) behind (omega (arith, length-drop c.args.behind c.args.journal.now)) in
    c.in-Ok.ensures
    ∙ ap (λ (n : ℕ). drop n c.args.changes.now) (c.calls_in.ensures.value ∙ (ap (λ (lines : List Entry). calls_of lines 0) all ∙ sym (done_count 0 behind)))
