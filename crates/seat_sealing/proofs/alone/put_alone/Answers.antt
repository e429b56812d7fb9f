use Rattle.std.proofs.Common.{◌∙◌, List, OnOk, subst, ℕ}
use Rattle.seat_disk.specs.Leaving.{OldOr, Only}
use Rattle.seat_sealing.proofs.alone.put_alone.Goals as goal

pub returns-clause-kept : goal.returns-clause-kept
returns-clause-kept g c = subst (λ (text : List ℕ). OnOk c.replace_whole.result (Only text (g.K.Replaced.may_leave c.replace_whole.new.file))) (c.as_slice.ensures.value ∙ c.text_of-text.ensures.text) c.replace_whole.ensures.kept

pub returns-clause-crash : goal.returns-clause-crash
returns-clause-crash g c = subst (λ (text : List ℕ). OldOr text (g.K.Replaced.may_leave c.args.seal.now) (g.K.Replaced.may_leave c.replace_whole.new.file)) (c.as_slice.ensures.value ∙ c.text_of-text.ensures.text) c.replace_whole.ensures.crash
