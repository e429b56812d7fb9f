use Rattle.std.proofs.Common.{IfOk, subst}
use Rattle.clap.specs.Words.{App}
use Rattle.seat_words.specs.CommandLine.{IsBuiltAs, with_arguments}
use Rattle.seat_words.proofs.commands.arguments.described_command.Goals as goal

pub returns : goal.returns
returns c = subst (λ (s : App). IfOk c.with_arguments.result (IsBuiltAs (with_arguments s c.args.described.now.arguments.now)))
    (c.horizon_arguments.ensures _)
    (c.with_arguments.ensures _ (c.with_arguments-command.ensures _ c.named_command-command.ensures))
