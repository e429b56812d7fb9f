use Rattle.std.proofs.Common.{◌≡◌, ◌∙◌, refl, sym, ◌≤◌, length, arith}
use Rattle.std.proofs.lemmas.Bool.Decides.{nat_tests}
use Rattle.clap.specs.Walk.{texts}
use Rattle.seat_words.proofs.Served.{as_many, no_words, own_words, some_session}
use Rattle.seat_words.proofs.sessions.sessions_of_run.Goals as goal

pub returns-then-not-is_empty-clause-value : goal.returns-then-not-is_empty-clause-value
returns-then-not-is_empty-clause-value c =
    let many = as_many c.args.words.now in
    let there : 1 ≤ length (texts c.args.words.now) = grind (arith, nat_tests, many, c.is_empty.ensures, c.if-not-is_empty.ensures) in
    c.sessions_of.ensures.value ∙ sym (own_words (texts c.args.words.now) c.args.has_changes there)

pub returns-then-not-is_empty-clause-count : goal.returns-then-not-is_empty-clause-count
returns-then-not-is_empty-clause-count c =
    let many = as_many c.args.words.now in
    let there : 1 ≤ length (texts c.args.words.now) = grind (arith, nat_tests, many, c.is_empty.ensures, c.if-not-is_empty.ensures) in
    some_session (texts c.args.words.now) c.sessions_of.result there c.sessions_of.ensures.few c.sessions_of.ensures.served

pub returns-then-has_changes-clause-value : goal.returns-then-has_changes-clause-value
returns-then-has_changes-clause-value c =
    let many = as_many c.args.words.now in
    let none : length (texts c.args.words.now) ≡ 0 = grind (arith, nat_tests, many, c.is_empty.ensures, c.if-not-is_empty.ensures) in
    rw (no_words (texts c.args.words.now) c.args.has_changes none, c.if-has_changes.true) refl

pub returns-else-has_changes-clause-value : goal.returns-else-has_changes-clause-value
returns-else-has_changes-clause-value c =
    let many = as_many c.args.words.now in
    let none : length (texts c.args.words.now) ≡ 0 = grind (arith, nat_tests, many, c.is_empty.ensures, c.if-not-is_empty.ensures) in
    rw (no_words (texts c.args.words.now) c.args.has_changes none, c.if-has_changes.false) refl
