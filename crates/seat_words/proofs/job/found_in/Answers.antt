use Rattle.std.proofs.Common.{◌≡◌, ◌∙◌, ap, List, subst, sym, true, Result, Ok, Err, IfOk, IfErr}
use Rattle.clap.specs.Walk.{texts}
use Rattle.clap.specs.Words.{App, FailsBy, HasMatchesOf, Text, fault_of, found_of, is_simple, is_simple_and_free, kind_of, matches_of, rows_of, subcommand_of, subcommand_rows_of, takes}
use Rattle.clap.specs.declared.error.Error.{Error}
use Rattle.clap.specs.declared.error.kind.ErrorKind.TheVariants.{OutOfMemory}
use Rattle.clap.specs.declared.parser.matches.ArgMatches.{ArgMatches}
use Rattle.seat_words.specs.CommandLine.{seatdesk_app}
use Rattle.seat_words.specs.Jobs.{is_answerable}
use Rattle.seat_words.proofs.Taken.{seatdesk_is_simple, seatdesk_is_free, seatdesk_line}
use Rattle.seat_words.proofs.job.found_in.Goals as goal

-- a parse that succeeds: the rows and the line that clap found are those of our command line
found : (a : App) (r : Result ArgMatches Error) (words : List Text) → a ≡ seatdesk_app → IfOk r (HasMatchesOf a words)
    → IfOk r (λ m. (matches_of seatdesk_app words ≡ rows_of (found_of m)) × (subcommand_of seatdesk_app words ≡ subcommand_rows_of m))
found a (Ok m) words e has = (
  ap (λ (x : App). matches_of x words) (sym e) ∙ sym (has (ap is_simple e ∙ seatdesk_is_simple)).0,
  ap (λ (x : App). subcommand_of x words) (sym e) ∙ sym (has (ap is_simple e ∙ seatdesk_is_simple)).1,
)
found a (Err f) words e has = tt

-- and no fault comes
failed : (a : App) (r : Result ArgMatches Error) (words : List Text) → a ≡ seatdesk_app
    → (is_simple_and_free a ≡ true → FailsBy (fault_of a words) r) → FailsBy (fault_of seatdesk_app words) r
failed a r words e fails = subst (λ (x : App). FailsBy (fault_of x words) r) e (fails (ap is_simple_and_free e ∙ seatdesk_is_free))

-- so it is a line of one of the commands
answered : (r : Result ArgMatches Error) (words : List Text) → FailsBy (fault_of seatdesk_app words) r
    → IfOk r (λ m. (matches_of seatdesk_app words ≡ rows_of (found_of m)) × (subcommand_of seatdesk_app words ≡ subcommand_rows_of m))
    → IfOk r (λ m. is_answerable (subcommand_rows_of m) ≡ true)
answered (Ok m) words none is = ap is_answerable (sym is.1) ∙ seatdesk_line words none
answered (Err f) words none is = tt

pub returns-clause-matches : goal.returns-clause-matches
returns-clause-matches c = found _ _ (texts c.args.words.now) c.in-Ok.ensures.app c.try_get_matches_from.ensures.matches

pub returns-clause-answerable : goal.returns-clause-answerable
returns-clause-answerable c =
    answered _ (texts c.args.words.now) (failed _ _ (texts c.args.words.now) c.in-Ok.ensures.app c.try_get_matches_from.ensures.kinds)
    (found _ _ (texts c.args.words.now) c.in-Ok.ensures.app c.try_get_matches_from.ensures.matches)

pub returns-clause-passes : goal.returns-clause-passes
returns-clause-passes c =
    subst (λ (a : App). IfErr c.try_get_matches_from.result (λ e. takes a (texts c.args.words.now) ≡ true → kind_of e ≡ OutOfMemory))
    c.in-Ok.ensures.app c.try_get_matches_from.ensures.passes

pub returns-clause-kinds : goal.returns-clause-kinds
returns-clause-kinds c = failed _ _ (texts c.args.words.now) c.in-Ok.ensures.app c.try_get_matches_from.ensures.kinds
