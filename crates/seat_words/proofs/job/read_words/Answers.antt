use Rattle.std.proofs.Common.{◌≡◌, List, Option, subst, sym, Result, Ok, Err, IfOk, IfErr, IsSomeAnd}
use Rattle.clap.specs.Walk.{texts}
use Rattle.clap.specs.Words.{Row, fault_of, found_of, kind_of, rows_of, subcommand_of}
use Rattle.clap.specs.declared.error.Error.{Error}
use Rattle.clap.specs.declared.error.kind.ErrorKind.TheVariants.{OutOfMemory}
use Rattle.clap.proofs.FaultLemmas.{fails_by_memory}
use Rattle.seat_words.specs.CommandLine.{seatdesk_app}
use Rattle.seat_words.specs.Jobs.{Asks, Line, is_quiet, is_verbose}
use Rattle.seat_words.specs.declared.job.CommandLine.{CommandLine}
use Rattle.seat_words.proofs.job.read_words.Goals as goal

-- want of memory may come whatever is asked
by_memory : (A : Type 0) (r : Result CommandLine Error) → IfErr r (λ e. kind_of e ≡ OutOfMemory) → IfErr r (λ e. A → kind_of e ≡ OutOfMemory)
by_memory A (Ok line) h = tt
by_memory A (Err e) h = λ a. h

pub returns-in-Ok-clause-asks : goal.returns-in-Ok-clause-asks
returns-in-Ok-clause-asks c =
    subst (λ (line : Option Line). IfOk c.line_of-line.result (λ asked. IsSomeAnd line (Asks asked.job))) (sym c.in-Ok.ensures.matches.1) c.line_of-line.ensures.asks

pub returns-in-Ok-clause-verbose : goal.returns-in-Ok-clause-verbose
returns-in-Ok-clause-verbose c =
    subst (λ (ahead : List Row). IfOk c.line_of-line.result (λ asked. is_verbose ahead (subcommand_of seatdesk_app (texts c.args.words.now)) ≡ asked.is_verbose))
    (sym c.in-Ok.ensures.matches.0)
    (subst (λ (line : Option Line). IfOk c.line_of-line.result (λ asked. is_verbose (rows_of (found_of c.in-Ok.matches)) line ≡ asked.is_verbose))
    (sym c.in-Ok.ensures.matches.1) c.line_of-line.ensures.verbose)

pub returns-in-Ok-clause-quiet : goal.returns-in-Ok-clause-quiet
returns-in-Ok-clause-quiet c =
    subst (λ (ahead : List Row). IfOk c.line_of-line.result (λ asked. is_quiet ahead (subcommand_of seatdesk_app (texts c.args.words.now)) ≡ asked.is_quiet))
    (sym c.in-Ok.ensures.matches.0)
    (subst (λ (line : Option Line). IfOk c.line_of-line.result (λ asked. is_quiet (rows_of (found_of c.in-Ok.matches)) line ≡ asked.is_quiet))
    (sym c.in-Ok.ensures.matches.1) c.line_of-line.ensures.quiet)

pub returns-in-Ok-clause-passes : goal.returns-in-Ok-clause-passes
returns-in-Ok-clause-passes c = by_memory _ c.line_of-line.result c.line_of-line.ensures.memory

pub returns-in-Ok-clause-kinds : goal.returns-in-Ok-clause-kinds
returns-in-Ok-clause-kinds c =
    fails_by_memory c.line_of-line.result (fault_of seatdesk_app (texts c.args.words.now)) c.in-Ok.ensures.kinds c.line_of-line.ensures.memory
