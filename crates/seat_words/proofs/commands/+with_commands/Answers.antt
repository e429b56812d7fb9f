use Rattle.std.proofs.Common.{List, IfOk, subst, sym}
use Rattle.clap.specs.Words.{App}
use Rattle.seat_words.specs.CommandLine.{IsBuiltAs, with_commands}
use Rattle.seat_words.specs.declared.naming.Name.{Name}
use Rattle.seat_words.proofs.Building.{parts}
use Rattle.seat_words.proofs.commands.+with_commands.Goals as goal

pub returns : goal.returns
returns t c = λ a was.
    let built = subst (λ (s : App). IfOk c.described_command-command.result (IsBuiltAs s)) c.described_by.ensures c.described_command-command.ensures in
    subst (λ (l : List Name). IfOk c.with_commands.result (IsBuiltAs (with_commands a l)))
    (sym (parts c.args.names.now _ c.in-len1-up.len_at_least))
    (c.with_commands.ensures _ (c.with_command-program.ensures a _ was built))
